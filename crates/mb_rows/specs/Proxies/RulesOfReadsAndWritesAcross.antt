use Rattle.std.specs.Prelude.{refl, ℕ, List, [], ◌∷◌, true, false, Some, None, codes, pos}
use Rattle.std.specs.Char.{encode_utf8}
use Rattle.mb_tree.specs.declared.kind.Sign.TheVariants.{TripleEqual, NotDoubleEqual, In, Instanceof, Typeof, Delete as DeleteSign}
use Rattle.mb_desc.specs.Validate.{Validate}
use Rattle.mb_world.specs.Value.{Undefined, Null, Truth}
use Rattle.mb_world.specs.Form.{Written, ScriptForm, LetForm, DeclForm, FunctionDeclForm, BlockForm, ExprStmtForm, ReturnForm, TryForm, ParamForm, NameForm, NumberForm, TextForm, LiteralForm, ObjectForm, ValueForm, ArrowForm, GroupForm, MemberForm, IndexForm, AssignForm, CallForm, NewForm, CondForm, AndForm, UnaryForm, BinaryForm}
use Rattle.mb_world.specs.Graph.{Program, Rule}
use Rattle.mb_model.specs.Engine.{given}
use Rattle.mb_model.specs.Story.{Stage, Letter, Story}
use Rattle.mb_rows.specs.Shows.{bound, Shows}

-- run
-- left
--     desk.px = (base, trap, inside, said) => { let h = {}; h[trap] = (T) => { inside(T); return said; }; return new Proxy(base, h); };
--     desk.no = () => { };
--     desk.close = (T) => { Reflect.preventExtensions(T); };
--     desk.dropclose = (T) => { delete T.a; Reflect.preventExtensions(T); };
--     desk.fix = (v, w) => (T) => { Object.defineProperty(T, "a", { value: v, writable: w, configurable: false }); };
--     desk.acc = (g, s) => (T) => { Object.defineProperty(T, "a", { get: g, set: s, configurable: false }); };
-- right
--     function t(n, f) { let r; try { r = f(); } catch (e) { r = e instanceof TypeError ? "TE" : e instanceof RangeError ? "RE" : e instanceof ReferenceError ? "FE" : e; } print(n, typeof r === "object" && r !== null ? "obj" : typeof r === "function" ? "fun" : r); }
--     t("17a", () => "a" in desk.px({ a: 1 }, "has", desk.fix(1, true), false));
--     t("17b", () => "a" in desk.px({ a: 1 }, "has", desk.close, 0));
--     t("17c", () => "a" in desk.px({ a: 1 }, "has", desk.no, null));
--     t("17d", () => "a" in desk.px({ a: 1 }, "has", desk.dropclose, ""));
--     t("17e", () => "a" in desk.px({}, "has", desk.close, "x"));
--     t("17f", () => Reflect.has(desk.px({ a: 1 }, "has", desk.fix(1, true), 1), "a"));
--     t("18a", () => desk.px({ a: 1 }, "get", desk.fix(1, false), 2).a);
--     t("18b", () => desk.px({ a: 1 }, "get", desk.fix(5, false), 5).a);
--     t("18c", () => desk.px({ a: 1 }, "get", desk.fix(1, true), 2).a);
--     t("18d", () => desk.px({ a: 1 }, "get", desk.acc(undefined, print), 1).a);
--     t("18e", () => desk.px({ a: 1 }, "get", desk.acc(undefined, print), undefined).a);
--     t("18f", () => desk.px({ a: 1 }, "get", desk.acc(print, undefined), 3).a);
--     t("18g", () => desk.px({}, "get", desk.close, 4).a);
--     t("18h", () => desk.px({ a: 1 }, "get", desk.fix("1", false), 1).a);
--     t("19a", () => Reflect.set(desk.px({ a: 1 }, "set", desk.fix(1, false), true), "a", 2));
--     t("19b", () => Reflect.set(desk.px({ a: 1 }, "set", desk.fix(1, false), 1), "a", 1));
--     t("19c", () => Reflect.set(desk.px({ a: 1 }, "set", desk.fix(1, true), 1), "a", 2));
--     t("19d", () => Reflect.set(desk.px({ a: 1 }, "set", desk.acc(print, undefined), 1), "a", 2));
--     t("19e", () => Reflect.set(desk.px({ a: 1 }, "set", desk.acc(undefined, print), 1), "a", 2));
--     t("19f", () => Reflect.set(desk.px({ a: 1 }, "set", desk.fix(1, false), 0), "a", 2));
--     t("19g", () => Reflect.set(desk.px({ a: 1 }, "set", desk.acc(undefined, undefined), false), "a", undefined));
--     t("20a", () => Reflect.deleteProperty(desk.px({ a: 1 }, "deleteProperty", desk.fix(1, true), 1), "a"));
--     t("20b", () => Reflect.deleteProperty(desk.px({ a: 1 }, "deleteProperty", desk.close, 1), "a"));
--     t("20c", () => Reflect.deleteProperty(desk.px({ a: 1 }, "deleteProperty", desk.dropclose, 1), "a"));
--     t("20d", () => Reflect.deleteProperty(desk.px({ a: 1 }, "deleteProperty", desk.no, 1), "a"));
--     t("20e", () => Reflect.deleteProperty(desk.px({ a: 1 }, "deleteProperty", desk.fix(1, true), 0), "a"));
--     t("20f", () => (() => { let p = desk.px({ a: 1 }, "deleteProperty", desk.no, 0); return delete p.a; })());

abbrev left : Program
left = record {
  forms =
      NameForm (codes "desk") ∷ MemberForm 0 (codes "px") ∷ ParamForm (codes "base") ∷ ParamForm (codes "trap") ∷
      ParamForm (codes "inside") ∷ ParamForm (codes "said") ∷ ObjectForm [] ∷ DeclForm (codes "h") (Some 6) ∷
      LetForm (7 ∷ []) ∷ NameForm (codes "h") ∷ NameForm (codes "trap") ∷ IndexForm 9 10 ∷
      ParamForm (codes "T") ∷ NameForm (codes "inside") ∷ NameForm (codes "T") ∷ CallForm 13 (14 ∷ []) ∷
      ExprStmtForm 15 ∷ NameForm (codes "said") ∷ ReturnForm (Some 17) ∷
      ArrowForm (record { params = (codes "T") ∷ []; body = (16 ∷ 18 ∷ []) }) true ∷ AssignForm 11 19 ∷
      ExprStmtForm 20 ∷ NameForm (codes "Proxy") ∷ NameForm (codes "base") ∷ NameForm (codes "h") ∷
      NewForm 22 (23 ∷ 24 ∷ []) ∷ ReturnForm (Some 25) ∷
      ArrowForm (record {
        params = (codes "base") ∷ (codes "trap") ∷ (codes "inside") ∷ (codes "said") ∷ [];
        body = (8 ∷ 21 ∷ 26 ∷ []);
      }) true ∷
      AssignForm 1 27 ∷ ExprStmtForm 28 ∷ NameForm (codes "desk") ∷ MemberForm 30 (codes "no") ∷
      ArrowForm (record { params = []; body = [] }) true ∷ AssignForm 31 32 ∷ ExprStmtForm 33 ∷
      NameForm (codes "desk") ∷ MemberForm 35 (codes "close") ∷ ParamForm (codes "T") ∷
      NameForm (codes "Reflect") ∷ MemberForm 38 (codes "preventExtensions") ∷ NameForm (codes "T") ∷
      CallForm 39 (40 ∷ []) ∷ ExprStmtForm 41 ∷
      ArrowForm (record { params = (codes "T") ∷ []; body = (42 ∷ []) }) true ∷ AssignForm 36 43 ∷
      ExprStmtForm 44 ∷ NameForm (codes "desk") ∷ MemberForm 46 (codes "dropclose") ∷ ParamForm (codes "T") ∷
      NameForm (codes "T") ∷ MemberForm 49 (codes "a") ∷ UnaryForm DeleteSign 50 ∷ ExprStmtForm 51 ∷
      NameForm (codes "Reflect") ∷ MemberForm 53 (codes "preventExtensions") ∷ NameForm (codes "T") ∷
      CallForm 54 (55 ∷ []) ∷ ExprStmtForm 56 ∷
      ArrowForm (record { params = (codes "T") ∷ []; body = (52 ∷ 57 ∷ []) }) true ∷ AssignForm 47 58 ∷
      ExprStmtForm 59 ∷ NameForm (codes "desk") ∷ MemberForm 61 (codes "fix") ∷ ParamForm (codes "v") ∷
      ParamForm (codes "w") ∷ ParamForm (codes "T") ∷ NameForm (codes "Object") ∷
      MemberForm 66 (codes "defineProperty") ∷ NameForm (codes "T") ∷ TextForm (codes "a") ∷
      NameForm (codes "v") ∷ ValueForm (Written (codes "value")) 70 ∷ NameForm (codes "w") ∷
      ValueForm (Written (codes "writable")) 72 ∷ LiteralForm (Truth false) ∷
      ValueForm (Written (codes "configurable")) 74 ∷ ObjectForm (71 ∷ 73 ∷ 75 ∷ []) ∷
      CallForm 67 (68 ∷ 69 ∷ 76 ∷ []) ∷ ExprStmtForm 77 ∷
      ArrowForm (record { params = (codes "T") ∷ []; body = (78 ∷ []) }) true ∷
      ArrowForm (record { params = (codes "v") ∷ (codes "w") ∷ []; body = (79 ∷ []) }) false ∷ AssignForm 62 80 ∷
      ExprStmtForm 81 ∷ NameForm (codes "desk") ∷ MemberForm 83 (codes "acc") ∷ ParamForm (codes "g") ∷
      ParamForm (codes "s") ∷ ParamForm (codes "T") ∷ NameForm (codes "Object") ∷
      MemberForm 88 (codes "defineProperty") ∷ NameForm (codes "T") ∷ TextForm (codes "a") ∷
      NameForm (codes "g") ∷ ValueForm (Written (codes "get")) 92 ∷ NameForm (codes "s") ∷
      ValueForm (Written (codes "set")) 94 ∷ LiteralForm (Truth false) ∷
      ValueForm (Written (codes "configurable")) 96 ∷ ObjectForm (93 ∷ 95 ∷ 97 ∷ []) ∷
      CallForm 89 (90 ∷ 91 ∷ 98 ∷ []) ∷ ExprStmtForm 99 ∷
      ArrowForm (record { params = (codes "T") ∷ []; body = (100 ∷ []) }) true ∷
      ArrowForm (record { params = (codes "g") ∷ (codes "s") ∷ []; body = (101 ∷ []) }) false ∷
      AssignForm 84 102 ∷ ExprStmtForm 103 ∷ ScriptForm (29 ∷ 34 ∷ 45 ∷ 60 ∷ 82 ∷ 104 ∷ []) ∷
      [];
  names =
      bound 19 (codes "T") false ∷ bound 27 (codes "base") false ∷ bound 27 (codes "trap") false ∷
      bound 27 (codes "inside") false ∷ bound 27 (codes "said") false ∷ bound 27 (codes "h") false ∷
      bound 43 (codes "T") false ∷ bound 58 (codes "T") false ∷ bound 79 (codes "T") false ∷
      bound 80 (codes "v") false ∷ bound 80 (codes "w") false ∷ bound 101 (codes "T") false ∷
      bound 102 (codes "g") false ∷ bound 102 (codes "s") false ∷
      [];
}

abbrev right : Program
right = record {
  forms =
      ParamForm (codes "n") ∷ ParamForm (codes "f") ∷ DeclForm (codes "r") None ∷ LetForm (2 ∷ []) ∷
      NameForm (codes "r") ∷ NameForm (codes "f") ∷ CallForm 5 [] ∷ AssignForm 4 6 ∷ ExprStmtForm 7 ∷
      BlockForm (8 ∷ []) ∷ ParamForm (codes "e") ∷ NameForm (codes "r") ∷ NameForm (codes "e") ∷
      NameForm (codes "TypeError") ∷ BinaryForm Instanceof 12 13 ∷ TextForm (codes "TE") ∷ NameForm (codes "e") ∷
      NameForm (codes "RangeError") ∷ BinaryForm Instanceof 16 17 ∷ TextForm (codes "RE") ∷
      NameForm (codes "e") ∷ NameForm (codes "ReferenceError") ∷ BinaryForm Instanceof 20 21 ∷
      TextForm (codes "FE") ∷ NameForm (codes "e") ∷ CondForm 22 23 24 ∷ CondForm 18 19 25 ∷ CondForm 14 15 26 ∷
      AssignForm 11 27 ∷ ExprStmtForm 28 ∷ BlockForm (29 ∷ []) ∷ TryForm 9 (Some (codes "e")) (Some 30) None ∷
      NameForm (codes "print") ∷ NameForm (codes "n") ∷ NameForm (codes "r") ∷ UnaryForm Typeof 34 ∷
      TextForm (codes "object") ∷ BinaryForm TripleEqual 35 36 ∷ NameForm (codes "r") ∷ LiteralForm (Null) ∷
      BinaryForm NotDoubleEqual 38 39 ∷ AndForm 37 40 ∷ TextForm (codes "obj") ∷ NameForm (codes "r") ∷
      UnaryForm Typeof 43 ∷ TextForm (codes "function") ∷ BinaryForm TripleEqual 44 45 ∷ TextForm (codes "fun") ∷
      NameForm (codes "r") ∷ CondForm 46 47 48 ∷ CondForm 41 42 49 ∷ CallForm 32 (33 ∷ 50 ∷ []) ∷
      ExprStmtForm 51 ∷
      FunctionDeclForm (codes "t") (record { params = (codes "n") ∷ (codes "f") ∷ []; body = (3 ∷ 31 ∷ 52 ∷ []) }) ∷
      NameForm (codes "t") ∷ TextForm (codes "17a") ∷ TextForm (codes "a") ∷ NameForm (codes "desk") ∷
      MemberForm 57 (codes "px") ∷ NumberForm (pos 1) ∷ ValueForm (Written (codes "a")) 59 ∷
      ObjectForm (60 ∷ []) ∷ TextForm (codes "has") ∷ NameForm (codes "desk") ∷ MemberForm 63 (codes "fix") ∷
      NumberForm (pos 1) ∷ LiteralForm (Truth true) ∷ CallForm 64 (65 ∷ 66 ∷ []) ∷ LiteralForm (Truth false) ∷
      CallForm 58 (61 ∷ 62 ∷ 67 ∷ 68 ∷ []) ∷ BinaryForm In 56 69 ∷
      ArrowForm (record { params = []; body = (70 ∷ []) }) false ∷ CallForm 54 (55 ∷ 71 ∷ []) ∷ ExprStmtForm 72 ∷
      NameForm (codes "t") ∷ TextForm (codes "17b") ∷ TextForm (codes "a") ∷ NameForm (codes "desk") ∷
      MemberForm 77 (codes "px") ∷ NumberForm (pos 1) ∷ ValueForm (Written (codes "a")) 79 ∷
      ObjectForm (80 ∷ []) ∷ TextForm (codes "has") ∷ NameForm (codes "desk") ∷ MemberForm 83 (codes "close") ∷
      NumberForm (pos 0) ∷ CallForm 78 (81 ∷ 82 ∷ 84 ∷ 85 ∷ []) ∷ BinaryForm In 76 86 ∷
      ArrowForm (record { params = []; body = (87 ∷ []) }) false ∷ CallForm 74 (75 ∷ 88 ∷ []) ∷ ExprStmtForm 89 ∷
      NameForm (codes "t") ∷ TextForm (codes "17c") ∷ TextForm (codes "a") ∷ NameForm (codes "desk") ∷
      MemberForm 94 (codes "px") ∷ NumberForm (pos 1) ∷ ValueForm (Written (codes "a")) 96 ∷
      ObjectForm (97 ∷ []) ∷ TextForm (codes "has") ∷ NameForm (codes "desk") ∷ MemberForm 100 (codes "no") ∷
      LiteralForm (Null) ∷ CallForm 95 (98 ∷ 99 ∷ 101 ∷ 102 ∷ []) ∷ BinaryForm In 93 103 ∷
      ArrowForm (record { params = []; body = (104 ∷ []) }) false ∷ CallForm 91 (92 ∷ 105 ∷ []) ∷
      ExprStmtForm 106 ∷ NameForm (codes "t") ∷ TextForm (codes "17d") ∷ TextForm (codes "a") ∷
      NameForm (codes "desk") ∷ MemberForm 111 (codes "px") ∷ NumberForm (pos 1) ∷
      ValueForm (Written (codes "a")) 113 ∷ ObjectForm (114 ∷ []) ∷ TextForm (codes "has") ∷
      NameForm (codes "desk") ∷ MemberForm 117 (codes "dropclose") ∷ TextForm [] ∷
      CallForm 112 (115 ∷ 116 ∷ 118 ∷ 119 ∷ []) ∷ BinaryForm In 110 120 ∷
      ArrowForm (record { params = []; body = (121 ∷ []) }) false ∷ CallForm 108 (109 ∷ 122 ∷ []) ∷
      ExprStmtForm 123 ∷ NameForm (codes "t") ∷ TextForm (codes "17e") ∷ TextForm (codes "a") ∷
      NameForm (codes "desk") ∷ MemberForm 128 (codes "px") ∷ ObjectForm [] ∷ TextForm (codes "has") ∷
      NameForm (codes "desk") ∷ MemberForm 132 (codes "close") ∷ TextForm (codes "x") ∷
      CallForm 129 (130 ∷ 131 ∷ 133 ∷ 134 ∷ []) ∷ BinaryForm In 127 135 ∷
      ArrowForm (record { params = []; body = (136 ∷ []) }) false ∷ CallForm 125 (126 ∷ 137 ∷ []) ∷
      ExprStmtForm 138 ∷ NameForm (codes "t") ∷ TextForm (codes "17f") ∷ NameForm (codes "Reflect") ∷
      MemberForm 142 (codes "has") ∷ NameForm (codes "desk") ∷ MemberForm 144 (codes "px") ∷ NumberForm (pos 1) ∷
      ValueForm (Written (codes "a")) 146 ∷ ObjectForm (147 ∷ []) ∷ TextForm (codes "has") ∷
      NameForm (codes "desk") ∷ MemberForm 150 (codes "fix") ∷ NumberForm (pos 1) ∷ LiteralForm (Truth true) ∷
      CallForm 151 (152 ∷ 153 ∷ []) ∷ NumberForm (pos 1) ∷ CallForm 145 (148 ∷ 149 ∷ 154 ∷ 155 ∷ []) ∷
      TextForm (codes "a") ∷ CallForm 143 (156 ∷ 157 ∷ []) ∷
      ArrowForm (record { params = []; body = (158 ∷ []) }) false ∷ CallForm 140 (141 ∷ 159 ∷ []) ∷
      ExprStmtForm 160 ∷ NameForm (codes "t") ∷ TextForm (codes "18a") ∷ NameForm (codes "desk") ∷
      MemberForm 164 (codes "px") ∷ NumberForm (pos 1) ∷ ValueForm (Written (codes "a")) 166 ∷
      ObjectForm (167 ∷ []) ∷ TextForm (codes "get") ∷ NameForm (codes "desk") ∷ MemberForm 170 (codes "fix") ∷
      NumberForm (pos 1) ∷ LiteralForm (Truth false) ∷ CallForm 171 (172 ∷ 173 ∷ []) ∷ NumberForm (pos 2) ∷
      CallForm 165 (168 ∷ 169 ∷ 174 ∷ 175 ∷ []) ∷ MemberForm 176 (codes "a") ∷
      ArrowForm (record { params = []; body = (177 ∷ []) }) false ∷ CallForm 162 (163 ∷ 178 ∷ []) ∷
      ExprStmtForm 179 ∷ NameForm (codes "t") ∷ TextForm (codes "18b") ∷ NameForm (codes "desk") ∷
      MemberForm 183 (codes "px") ∷ NumberForm (pos 1) ∷ ValueForm (Written (codes "a")) 185 ∷
      ObjectForm (186 ∷ []) ∷ TextForm (codes "get") ∷ NameForm (codes "desk") ∷ MemberForm 189 (codes "fix") ∷
      NumberForm (pos 5) ∷ LiteralForm (Truth false) ∷ CallForm 190 (191 ∷ 192 ∷ []) ∷ NumberForm (pos 5) ∷
      CallForm 184 (187 ∷ 188 ∷ 193 ∷ 194 ∷ []) ∷ MemberForm 195 (codes "a") ∷
      ArrowForm (record { params = []; body = (196 ∷ []) }) false ∷ CallForm 181 (182 ∷ 197 ∷ []) ∷
      ExprStmtForm 198 ∷ NameForm (codes "t") ∷ TextForm (codes "18c") ∷ NameForm (codes "desk") ∷
      MemberForm 202 (codes "px") ∷ NumberForm (pos 1) ∷ ValueForm (Written (codes "a")) 204 ∷
      ObjectForm (205 ∷ []) ∷ TextForm (codes "get") ∷ NameForm (codes "desk") ∷ MemberForm 208 (codes "fix") ∷
      NumberForm (pos 1) ∷ LiteralForm (Truth true) ∷ CallForm 209 (210 ∷ 211 ∷ []) ∷ NumberForm (pos 2) ∷
      CallForm 203 (206 ∷ 207 ∷ 212 ∷ 213 ∷ []) ∷ MemberForm 214 (codes "a") ∷
      ArrowForm (record { params = []; body = (215 ∷ []) }) false ∷ CallForm 200 (201 ∷ 216 ∷ []) ∷
      ExprStmtForm 217 ∷ NameForm (codes "t") ∷ TextForm (codes "18d") ∷ NameForm (codes "desk") ∷
      MemberForm 221 (codes "px") ∷ NumberForm (pos 1) ∷ ValueForm (Written (codes "a")) 223 ∷
      ObjectForm (224 ∷ []) ∷ TextForm (codes "get") ∷ NameForm (codes "desk") ∷ MemberForm 227 (codes "acc") ∷
      LiteralForm (Undefined) ∷ NameForm (codes "print") ∷ CallForm 228 (229 ∷ 230 ∷ []) ∷ NumberForm (pos 1) ∷
      CallForm 222 (225 ∷ 226 ∷ 231 ∷ 232 ∷ []) ∷ MemberForm 233 (codes "a") ∷
      ArrowForm (record { params = []; body = (234 ∷ []) }) false ∷ CallForm 219 (220 ∷ 235 ∷ []) ∷
      ExprStmtForm 236 ∷ NameForm (codes "t") ∷ TextForm (codes "18e") ∷ NameForm (codes "desk") ∷
      MemberForm 240 (codes "px") ∷ NumberForm (pos 1) ∷ ValueForm (Written (codes "a")) 242 ∷
      ObjectForm (243 ∷ []) ∷ TextForm (codes "get") ∷ NameForm (codes "desk") ∷ MemberForm 246 (codes "acc") ∷
      LiteralForm (Undefined) ∷ NameForm (codes "print") ∷ CallForm 247 (248 ∷ 249 ∷ []) ∷
      LiteralForm (Undefined) ∷ CallForm 241 (244 ∷ 245 ∷ 250 ∷ 251 ∷ []) ∷ MemberForm 252 (codes "a") ∷
      ArrowForm (record { params = []; body = (253 ∷ []) }) false ∷ CallForm 238 (239 ∷ 254 ∷ []) ∷
      ExprStmtForm 255 ∷ NameForm (codes "t") ∷ TextForm (codes "18f") ∷ NameForm (codes "desk") ∷
      MemberForm 259 (codes "px") ∷ NumberForm (pos 1) ∷ ValueForm (Written (codes "a")) 261 ∷
      ObjectForm (262 ∷ []) ∷ TextForm (codes "get") ∷ NameForm (codes "desk") ∷ MemberForm 265 (codes "acc") ∷
      NameForm (codes "print") ∷ LiteralForm (Undefined) ∷ CallForm 266 (267 ∷ 268 ∷ []) ∷ NumberForm (pos 3) ∷
      CallForm 260 (263 ∷ 264 ∷ 269 ∷ 270 ∷ []) ∷ MemberForm 271 (codes "a") ∷
      ArrowForm (record { params = []; body = (272 ∷ []) }) false ∷ CallForm 257 (258 ∷ 273 ∷ []) ∷
      ExprStmtForm 274 ∷ NameForm (codes "t") ∷ TextForm (codes "18g") ∷ NameForm (codes "desk") ∷
      MemberForm 278 (codes "px") ∷ ObjectForm [] ∷ TextForm (codes "get") ∷ NameForm (codes "desk") ∷
      MemberForm 282 (codes "close") ∷ NumberForm (pos 4) ∷ CallForm 279 (280 ∷ 281 ∷ 283 ∷ 284 ∷ []) ∷
      MemberForm 285 (codes "a") ∷ ArrowForm (record { params = []; body = (286 ∷ []) }) false ∷
      CallForm 276 (277 ∷ 287 ∷ []) ∷ ExprStmtForm 288 ∷ NameForm (codes "t") ∷ TextForm (codes "18h") ∷
      NameForm (codes "desk") ∷ MemberForm 292 (codes "px") ∷ NumberForm (pos 1) ∷
      ValueForm (Written (codes "a")) 294 ∷ ObjectForm (295 ∷ []) ∷ TextForm (codes "get") ∷
      NameForm (codes "desk") ∷ MemberForm 298 (codes "fix") ∷ TextForm (codes "1") ∷ LiteralForm (Truth false) ∷
      CallForm 299 (300 ∷ 301 ∷ []) ∷ NumberForm (pos 1) ∷ CallForm 293 (296 ∷ 297 ∷ 302 ∷ 303 ∷ []) ∷
      MemberForm 304 (codes "a") ∷ ArrowForm (record { params = []; body = (305 ∷ []) }) false ∷
      CallForm 290 (291 ∷ 306 ∷ []) ∷ ExprStmtForm 307 ∷ NameForm (codes "t") ∷ TextForm (codes "19a") ∷
      NameForm (codes "Reflect") ∷ MemberForm 311 (codes "set") ∷ NameForm (codes "desk") ∷
      MemberForm 313 (codes "px") ∷ NumberForm (pos 1) ∷ ValueForm (Written (codes "a")) 315 ∷
      ObjectForm (316 ∷ []) ∷ TextForm (codes "set") ∷ NameForm (codes "desk") ∷ MemberForm 319 (codes "fix") ∷
      NumberForm (pos 1) ∷ LiteralForm (Truth false) ∷ CallForm 320 (321 ∷ 322 ∷ []) ∷ LiteralForm (Truth true) ∷
      CallForm 314 (317 ∷ 318 ∷ 323 ∷ 324 ∷ []) ∷ TextForm (codes "a") ∷ NumberForm (pos 2) ∷
      CallForm 312 (325 ∷ 326 ∷ 327 ∷ []) ∷ ArrowForm (record { params = []; body = (328 ∷ []) }) false ∷
      CallForm 309 (310 ∷ 329 ∷ []) ∷ ExprStmtForm 330 ∷ NameForm (codes "t") ∷ TextForm (codes "19b") ∷
      NameForm (codes "Reflect") ∷ MemberForm 334 (codes "set") ∷ NameForm (codes "desk") ∷
      MemberForm 336 (codes "px") ∷ NumberForm (pos 1) ∷ ValueForm (Written (codes "a")) 338 ∷
      ObjectForm (339 ∷ []) ∷ TextForm (codes "set") ∷ NameForm (codes "desk") ∷ MemberForm 342 (codes "fix") ∷
      NumberForm (pos 1) ∷ LiteralForm (Truth false) ∷ CallForm 343 (344 ∷ 345 ∷ []) ∷ NumberForm (pos 1) ∷
      CallForm 337 (340 ∷ 341 ∷ 346 ∷ 347 ∷ []) ∷ TextForm (codes "a") ∷ NumberForm (pos 1) ∷
      CallForm 335 (348 ∷ 349 ∷ 350 ∷ []) ∷ ArrowForm (record { params = []; body = (351 ∷ []) }) false ∷
      CallForm 332 (333 ∷ 352 ∷ []) ∷ ExprStmtForm 353 ∷ NameForm (codes "t") ∷ TextForm (codes "19c") ∷
      NameForm (codes "Reflect") ∷ MemberForm 357 (codes "set") ∷ NameForm (codes "desk") ∷
      MemberForm 359 (codes "px") ∷ NumberForm (pos 1) ∷ ValueForm (Written (codes "a")) 361 ∷
      ObjectForm (362 ∷ []) ∷ TextForm (codes "set") ∷ NameForm (codes "desk") ∷ MemberForm 365 (codes "fix") ∷
      NumberForm (pos 1) ∷ LiteralForm (Truth true) ∷ CallForm 366 (367 ∷ 368 ∷ []) ∷ NumberForm (pos 1) ∷
      CallForm 360 (363 ∷ 364 ∷ 369 ∷ 370 ∷ []) ∷ TextForm (codes "a") ∷ NumberForm (pos 2) ∷
      CallForm 358 (371 ∷ 372 ∷ 373 ∷ []) ∷ ArrowForm (record { params = []; body = (374 ∷ []) }) false ∷
      CallForm 355 (356 ∷ 375 ∷ []) ∷ ExprStmtForm 376 ∷ NameForm (codes "t") ∷ TextForm (codes "19d") ∷
      NameForm (codes "Reflect") ∷ MemberForm 380 (codes "set") ∷ NameForm (codes "desk") ∷
      MemberForm 382 (codes "px") ∷ NumberForm (pos 1) ∷ ValueForm (Written (codes "a")) 384 ∷
      ObjectForm (385 ∷ []) ∷ TextForm (codes "set") ∷ NameForm (codes "desk") ∷ MemberForm 388 (codes "acc") ∷
      NameForm (codes "print") ∷ LiteralForm (Undefined) ∷ CallForm 389 (390 ∷ 391 ∷ []) ∷ NumberForm (pos 1) ∷
      CallForm 383 (386 ∷ 387 ∷ 392 ∷ 393 ∷ []) ∷ TextForm (codes "a") ∷ NumberForm (pos 2) ∷
      CallForm 381 (394 ∷ 395 ∷ 396 ∷ []) ∷ ArrowForm (record { params = []; body = (397 ∷ []) }) false ∷
      CallForm 378 (379 ∷ 398 ∷ []) ∷ ExprStmtForm 399 ∷ NameForm (codes "t") ∷ TextForm (codes "19e") ∷
      NameForm (codes "Reflect") ∷ MemberForm 403 (codes "set") ∷ NameForm (codes "desk") ∷
      MemberForm 405 (codes "px") ∷ NumberForm (pos 1) ∷ ValueForm (Written (codes "a")) 407 ∷
      ObjectForm (408 ∷ []) ∷ TextForm (codes "set") ∷ NameForm (codes "desk") ∷ MemberForm 411 (codes "acc") ∷
      LiteralForm (Undefined) ∷ NameForm (codes "print") ∷ CallForm 412 (413 ∷ 414 ∷ []) ∷ NumberForm (pos 1) ∷
      CallForm 406 (409 ∷ 410 ∷ 415 ∷ 416 ∷ []) ∷ TextForm (codes "a") ∷ NumberForm (pos 2) ∷
      CallForm 404 (417 ∷ 418 ∷ 419 ∷ []) ∷ ArrowForm (record { params = []; body = (420 ∷ []) }) false ∷
      CallForm 401 (402 ∷ 421 ∷ []) ∷ ExprStmtForm 422 ∷ NameForm (codes "t") ∷ TextForm (codes "19f") ∷
      NameForm (codes "Reflect") ∷ MemberForm 426 (codes "set") ∷ NameForm (codes "desk") ∷
      MemberForm 428 (codes "px") ∷ NumberForm (pos 1) ∷ ValueForm (Written (codes "a")) 430 ∷
      ObjectForm (431 ∷ []) ∷ TextForm (codes "set") ∷ NameForm (codes "desk") ∷ MemberForm 434 (codes "fix") ∷
      NumberForm (pos 1) ∷ LiteralForm (Truth false) ∷ CallForm 435 (436 ∷ 437 ∷ []) ∷ NumberForm (pos 0) ∷
      CallForm 429 (432 ∷ 433 ∷ 438 ∷ 439 ∷ []) ∷ TextForm (codes "a") ∷ NumberForm (pos 2) ∷
      CallForm 427 (440 ∷ 441 ∷ 442 ∷ []) ∷ ArrowForm (record { params = []; body = (443 ∷ []) }) false ∷
      CallForm 424 (425 ∷ 444 ∷ []) ∷ ExprStmtForm 445 ∷ NameForm (codes "t") ∷ TextForm (codes "19g") ∷
      NameForm (codes "Reflect") ∷ MemberForm 449 (codes "set") ∷ NameForm (codes "desk") ∷
      MemberForm 451 (codes "px") ∷ NumberForm (pos 1) ∷ ValueForm (Written (codes "a")) 453 ∷
      ObjectForm (454 ∷ []) ∷ TextForm (codes "set") ∷ NameForm (codes "desk") ∷ MemberForm 457 (codes "acc") ∷
      LiteralForm (Undefined) ∷ LiteralForm (Undefined) ∷ CallForm 458 (459 ∷ 460 ∷ []) ∷
      LiteralForm (Truth false) ∷ CallForm 452 (455 ∷ 456 ∷ 461 ∷ 462 ∷ []) ∷ TextForm (codes "a") ∷
      LiteralForm (Undefined) ∷ CallForm 450 (463 ∷ 464 ∷ 465 ∷ []) ∷
      ArrowForm (record { params = []; body = (466 ∷ []) }) false ∷ CallForm 447 (448 ∷ 467 ∷ []) ∷
      ExprStmtForm 468 ∷ NameForm (codes "t") ∷ TextForm (codes "20a") ∷ NameForm (codes "Reflect") ∷
      MemberForm 472 (codes "deleteProperty") ∷ NameForm (codes "desk") ∷ MemberForm 474 (codes "px") ∷
      NumberForm (pos 1) ∷ ValueForm (Written (codes "a")) 476 ∷ ObjectForm (477 ∷ []) ∷
      TextForm (codes "deleteProperty") ∷ NameForm (codes "desk") ∷ MemberForm 480 (codes "fix") ∷
      NumberForm (pos 1) ∷ LiteralForm (Truth true) ∷ CallForm 481 (482 ∷ 483 ∷ []) ∷ NumberForm (pos 1) ∷
      CallForm 475 (478 ∷ 479 ∷ 484 ∷ 485 ∷ []) ∷ TextForm (codes "a") ∷ CallForm 473 (486 ∷ 487 ∷ []) ∷
      ArrowForm (record { params = []; body = (488 ∷ []) }) false ∷ CallForm 470 (471 ∷ 489 ∷ []) ∷
      ExprStmtForm 490 ∷ NameForm (codes "t") ∷ TextForm (codes "20b") ∷ NameForm (codes "Reflect") ∷
      MemberForm 494 (codes "deleteProperty") ∷ NameForm (codes "desk") ∷ MemberForm 496 (codes "px") ∷
      NumberForm (pos 1) ∷ ValueForm (Written (codes "a")) 498 ∷ ObjectForm (499 ∷ []) ∷
      TextForm (codes "deleteProperty") ∷ NameForm (codes "desk") ∷ MemberForm 502 (codes "close") ∷
      NumberForm (pos 1) ∷ CallForm 497 (500 ∷ 501 ∷ 503 ∷ 504 ∷ []) ∷ TextForm (codes "a") ∷
      CallForm 495 (505 ∷ 506 ∷ []) ∷ ArrowForm (record { params = []; body = (507 ∷ []) }) false ∷
      CallForm 492 (493 ∷ 508 ∷ []) ∷ ExprStmtForm 509 ∷ NameForm (codes "t") ∷ TextForm (codes "20c") ∷
      NameForm (codes "Reflect") ∷ MemberForm 513 (codes "deleteProperty") ∷ NameForm (codes "desk") ∷
      MemberForm 515 (codes "px") ∷ NumberForm (pos 1) ∷ ValueForm (Written (codes "a")) 517 ∷
      ObjectForm (518 ∷ []) ∷ TextForm (codes "deleteProperty") ∷ NameForm (codes "desk") ∷
      MemberForm 521 (codes "dropclose") ∷ NumberForm (pos 1) ∷ CallForm 516 (519 ∷ 520 ∷ 522 ∷ 523 ∷ []) ∷
      TextForm (codes "a") ∷ CallForm 514 (524 ∷ 525 ∷ []) ∷
      ArrowForm (record { params = []; body = (526 ∷ []) }) false ∷ CallForm 511 (512 ∷ 527 ∷ []) ∷
      ExprStmtForm 528 ∷ NameForm (codes "t") ∷ TextForm (codes "20d") ∷ NameForm (codes "Reflect") ∷
      MemberForm 532 (codes "deleteProperty") ∷ NameForm (codes "desk") ∷ MemberForm 534 (codes "px") ∷
      NumberForm (pos 1) ∷ ValueForm (Written (codes "a")) 536 ∷ ObjectForm (537 ∷ []) ∷
      TextForm (codes "deleteProperty") ∷ NameForm (codes "desk") ∷ MemberForm 540 (codes "no") ∷
      NumberForm (pos 1) ∷ CallForm 535 (538 ∷ 539 ∷ 541 ∷ 542 ∷ []) ∷ TextForm (codes "a") ∷
      CallForm 533 (543 ∷ 544 ∷ []) ∷ ArrowForm (record { params = []; body = (545 ∷ []) }) false ∷
      CallForm 530 (531 ∷ 546 ∷ []) ∷ ExprStmtForm 547 ∷ NameForm (codes "t") ∷ TextForm (codes "20e") ∷
      NameForm (codes "Reflect") ∷ MemberForm 551 (codes "deleteProperty") ∷ NameForm (codes "desk") ∷
      MemberForm 553 (codes "px") ∷ NumberForm (pos 1) ∷ ValueForm (Written (codes "a")) 555 ∷
      ObjectForm (556 ∷ []) ∷ TextForm (codes "deleteProperty") ∷ NameForm (codes "desk") ∷
      MemberForm 559 (codes "fix") ∷ NumberForm (pos 1) ∷ LiteralForm (Truth true) ∷
      CallForm 560 (561 ∷ 562 ∷ []) ∷ NumberForm (pos 0) ∷ CallForm 554 (557 ∷ 558 ∷ 563 ∷ 564 ∷ []) ∷
      TextForm (codes "a") ∷ CallForm 552 (565 ∷ 566 ∷ []) ∷
      ArrowForm (record { params = []; body = (567 ∷ []) }) false ∷ CallForm 549 (550 ∷ 568 ∷ []) ∷
      ExprStmtForm 569 ∷ NameForm (codes "t") ∷ TextForm (codes "20f") ∷ NameForm (codes "desk") ∷
      MemberForm 573 (codes "px") ∷ NumberForm (pos 1) ∷ ValueForm (Written (codes "a")) 575 ∷
      ObjectForm (576 ∷ []) ∷ TextForm (codes "deleteProperty") ∷ NameForm (codes "desk") ∷
      MemberForm 579 (codes "no") ∷ NumberForm (pos 0) ∷ CallForm 574 (577 ∷ 578 ∷ 580 ∷ 581 ∷ []) ∷
      DeclForm (codes "p") (Some 582) ∷ LetForm (583 ∷ []) ∷ NameForm (codes "p") ∷ MemberForm 585 (codes "a") ∷
      UnaryForm DeleteSign 586 ∷ ReturnForm (Some 587) ∷
      ArrowForm (record { params = []; body = (584 ∷ 588 ∷ []) }) true ∷ GroupForm 589 ∷ CallForm 590 [] ∷
      ArrowForm (record { params = []; body = (591 ∷ []) }) false ∷ CallForm 571 (572 ∷ 592 ∷ []) ∷
      ExprStmtForm 593 ∷
      ScriptForm (53 ∷ 73 ∷ 90 ∷ 107 ∷ 124 ∷ 139 ∷ 161 ∷ 180 ∷ 199 ∷ 218 ∷ 237 ∷ 256 ∷ 275 ∷ 289 ∷ 308 ∷ 331 ∷
      354 ∷ 377 ∷ 400 ∷ 423 ∷ 446 ∷ 469 ∷ 491 ∷ 510 ∷ 529 ∷ 548 ∷ 570 ∷ 594 ∷ []) ∷
      [];
  names =
      bound 31 (codes "e") false ∷ bound 53 (codes "n") false ∷ bound 53 (codes "f") false ∷
      bound 53 (codes "r") false ∷ bound 589 (codes "p") false ∷ bound 595 (codes "t") false ∷
      [];
}

abbrev policy : List Rule
policy = []

abbrev schedule : List Letter
schedule = []

abbrev told : List (List ℕ)
told =
    (codes "R 17a TE") ∷
    (codes "R 17b TE") ∷
    (codes "R 17c false") ∷
    (codes "R 17d false") ∷
    (codes "R 17e true") ∷
    (codes "R 17f true") ∷
    (codes "R 18a TE") ∷
    (codes "R 18b 5") ∷
    (codes "R 18c 2") ∷
    (codes "R 18d TE") ∷
    (codes "R 18e undefined") ∷
    (codes "R 18f 3") ∷
    (codes "R 18g 4") ∷
    (codes "R 18h TE") ∷
    (codes "R 19a TE") ∷
    (codes "R 19b true") ∷
    (codes "R 19c true") ∷
    (codes "R 19d TE") ∷
    (codes "R 19e true") ∷
    (codes "R 19f false") ∷
    (codes "R 19g false") ∷
    (codes "R 20a TE") ∷
    (codes "R 20b TE") ∷
    (codes "R 20c true") ∷
    (codes "R 20d true") ∷
    (codes "R 20e false") ∷
    (codes "R 20f TE") ∷
    (codes "= done") ∷
    []

abbrev stage : Stage
stage = Story (left ∷ right ∷ []) policy schedule 1000000

pub Row : Type 0
Row = Shows false false stage told

pub row : Row
unfolding Row given Validate encode_utf8
row = (refl, refl)
