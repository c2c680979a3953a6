use Rattle.std.specs.Prelude.{refl, ℕ, List, [], ◌∷◌, true, false, Some, None, codes, pos}
use Rattle.std.specs.Char.{encode_utf8}
use Rattle.mb_tree.specs.declared.kind.Sign.TheVariants.{Plus, TripleEqual, NotDoubleEqual, Instanceof, Typeof, Delete as DeleteSign}
use Rattle.mb_desc.specs.Validate.{Validate}
use Rattle.mb_world.specs.Value.{Undefined, Null, Truth}
use Rattle.mb_world.specs.Form.{Written, ScriptForm, LetForm, DeclForm, FunctionDeclForm, BlockForm, ExprStmtForm, ReturnForm, TryForm, ParamForm, NameForm, NumberForm, TextForm, LiteralForm, ObjectForm, ValueForm, ArrowForm, GroupForm, MemberForm, IndexForm, AssignForm, CallForm, NewForm, CondForm, AndForm, UnaryForm, BinaryForm}
use Rattle.mb_world.specs.Graph.{Program, Rule}
use Rattle.mb_model.specs.Engine.{given}
use Rattle.mb_model.specs.Story.{Stage, Letter, Story}
use Rattle.mb_rows.specs.Shows.{bound, Shows}

-- run
-- left
--     desk.go = (base, inside, said) => new Proxy(base, { getOwnPropertyDescriptor: (T, k) => { inside(T); return said; } });
--     desk.no = () => { };
--     desk.close = (T) => { Reflect.preventExtensions(T); };
--     desk.fix = (v, w) => (T) => { Object.defineProperty(T, "a", { value: v, writable: w, enumerable: true, configurable: false }); };
--     desk.acc = (g, s) => (T) => { Object.defineProperty(T, "a", { get: g, set: s, enumerable: false, configurable: false }); };
--     desk.drop = (T) => { delete T.a; };
--     desk.q = (p) => { let d = Reflect.getOwnPropertyDescriptor(p, "a"); return d === undefined ? "none" : Reflect.ownKeys(d).map((k) => k + ":" + (typeof d[k] === "function" ? "f" : d[k])).join(" "); };
-- right
--     function t(n, f) { let r; try { r = f(); } catch (e) { r = e instanceof TypeError ? "TE" : e instanceof RangeError ? "RE" : e instanceof ReferenceError ? "FE" : e; } print(n, typeof r === "object" && r !== null ? "obj" : typeof r === "function" ? "fun" : r); }
--     t("6a", () => desk.q(desk.go({}, desk.no, 1)));
--     t("6b", () => desk.q(desk.go({}, desk.no, null)));
--     t("6c", () => desk.q(desk.go({}, desk.no, undefined)));
--     t("6d", () => desk.q(desk.go({}, desk.no, { get: 1 })));
--     t("6e", () => desk.q(desk.go({}, desk.no, { get: undefined, writable: false, configurable: true })));
--     t("6f", () => desk.q(desk.go({}, desk.no, { configurable: 1 })));
--     t("7a", () => desk.q(desk.go({ a: 1 }, desk.fix(1, true), undefined)));
--     t("7b", () => desk.q(desk.go({ a: 1 }, desk.no, undefined)));
--     t("7c", () => desk.q(desk.go({ a: 1 }, desk.drop, undefined)));
--     t("8a", () => desk.q(desk.go({ a: 1 }, desk.close, undefined)));
--     t("8b", () => desk.q(desk.go({}, desk.close, undefined)));
--     t("9a", () => desk.q(desk.go({}, desk.close, { configurable: true })));
--     t("9b", () => desk.q(desk.go({ a: 1 }, desk.fix(1, false), { value: 2, enumerable: true })));
--     t("9c", () => desk.q(desk.go({ a: 1 }, desk.fix(1, false), { value: 1, enumerable: true })));
--     t("9d", () => desk.q(desk.go({ a: 1 }, desk.fix(1, false), { value: 1 })));
--     t("9e", () => desk.q(desk.go({ a: 1 }, desk.fix(1, false), { value: 1, enumerable: true, configurable: true })));
--     t("9f", () => desk.q(desk.go({ a: 1 }, desk.acc(print, undefined), { get: print })));
--     t("9g", () => desk.q(desk.go({ a: 1 }, desk.acc(print, undefined), { get: String })));
--     t("9h", () => desk.q(desk.go({ a: 1 }, desk.acc(undefined, undefined), { })));
--     t("9i", () => desk.q(desk.go({ a: 1 }, desk.acc(undefined, undefined), { set: undefined })));
--     t("10a", () => desk.q(desk.go({}, desk.no, { value: 1 })));
--     t("10b", () => desk.q(desk.go({ a: 1 }, desk.no, { value: 1, writable: true, enumerable: true, configurable: 0 })));
--     t("10c", () => desk.q(desk.go({}, desk.fix(1, true), { value: 1, writable: true, enumerable: true })));
--     t("10d", () => desk.q(desk.go({}, desk.fix(1, true), { value: 2, writable: true, enumerable: true })));
--     t("11a", () => desk.q(desk.go({}, desk.fix(1, true), { value: 1, writable: false, enumerable: true })));
--     t("11b", () => desk.q(desk.go({}, desk.fix(1, false), { value: 1, writable: false, enumerable: true })));
--     t("11c", () => desk.q(desk.go({}, desk.fix(1, false), { value: 1, writable: true, enumerable: true })));

abbrev left : Program
left = record {
  forms =
      NameForm (codes "desk") ∷ MemberForm 0 (codes "go") ∷ ParamForm (codes "base") ∷
      ParamForm (codes "inside") ∷ ParamForm (codes "said") ∷ NameForm (codes "Proxy") ∷
      NameForm (codes "base") ∷ ParamForm (codes "T") ∷ ParamForm (codes "k") ∷ NameForm (codes "inside") ∷
      NameForm (codes "T") ∷ CallForm 9 (10 ∷ []) ∷ ExprStmtForm 11 ∷ NameForm (codes "said") ∷
      ReturnForm (Some 13) ∷
      ArrowForm (record { params = (codes "T") ∷ (codes "k") ∷ []; body = (12 ∷ 14 ∷ []) }) true ∷
      ValueForm (Written (codes "getOwnPropertyDescriptor")) 15 ∷ ObjectForm (16 ∷ []) ∷
      NewForm 5 (6 ∷ 17 ∷ []) ∷
      ArrowForm (record {
        params = (codes "base") ∷ (codes "inside") ∷ (codes "said") ∷ [];
        body = (18 ∷
            []);
      }) false ∷
      AssignForm 1 19 ∷ ExprStmtForm 20 ∷ NameForm (codes "desk") ∷ MemberForm 22 (codes "no") ∷
      ArrowForm (record { params = []; body = [] }) true ∷ AssignForm 23 24 ∷ ExprStmtForm 25 ∷
      NameForm (codes "desk") ∷ MemberForm 27 (codes "close") ∷ ParamForm (codes "T") ∷
      NameForm (codes "Reflect") ∷ MemberForm 30 (codes "preventExtensions") ∷ NameForm (codes "T") ∷
      CallForm 31 (32 ∷ []) ∷ ExprStmtForm 33 ∷
      ArrowForm (record { params = (codes "T") ∷ []; body = (34 ∷ []) }) true ∷ AssignForm 28 35 ∷
      ExprStmtForm 36 ∷ NameForm (codes "desk") ∷ MemberForm 38 (codes "fix") ∷ ParamForm (codes "v") ∷
      ParamForm (codes "w") ∷ ParamForm (codes "T") ∷ NameForm (codes "Object") ∷
      MemberForm 43 (codes "defineProperty") ∷ NameForm (codes "T") ∷ TextForm (codes "a") ∷
      NameForm (codes "v") ∷ ValueForm (Written (codes "value")) 47 ∷ NameForm (codes "w") ∷
      ValueForm (Written (codes "writable")) 49 ∷ LiteralForm (Truth true) ∷
      ValueForm (Written (codes "enumerable")) 51 ∷ LiteralForm (Truth false) ∷
      ValueForm (Written (codes "configurable")) 53 ∷ ObjectForm (48 ∷ 50 ∷ 52 ∷ 54 ∷ []) ∷
      CallForm 44 (45 ∷ 46 ∷ 55 ∷ []) ∷ ExprStmtForm 56 ∷
      ArrowForm (record { params = (codes "T") ∷ []; body = (57 ∷ []) }) true ∷
      ArrowForm (record { params = (codes "v") ∷ (codes "w") ∷ []; body = (58 ∷ []) }) false ∷ AssignForm 39 59 ∷
      ExprStmtForm 60 ∷ NameForm (codes "desk") ∷ MemberForm 62 (codes "acc") ∷ ParamForm (codes "g") ∷
      ParamForm (codes "s") ∷ ParamForm (codes "T") ∷ NameForm (codes "Object") ∷
      MemberForm 67 (codes "defineProperty") ∷ NameForm (codes "T") ∷ TextForm (codes "a") ∷
      NameForm (codes "g") ∷ ValueForm (Written (codes "get")) 71 ∷ NameForm (codes "s") ∷
      ValueForm (Written (codes "set")) 73 ∷ LiteralForm (Truth false) ∷
      ValueForm (Written (codes "enumerable")) 75 ∷ LiteralForm (Truth false) ∷
      ValueForm (Written (codes "configurable")) 77 ∷ ObjectForm (72 ∷ 74 ∷ 76 ∷ 78 ∷ []) ∷
      CallForm 68 (69 ∷ 70 ∷ 79 ∷ []) ∷ ExprStmtForm 80 ∷
      ArrowForm (record { params = (codes "T") ∷ []; body = (81 ∷ []) }) true ∷
      ArrowForm (record { params = (codes "g") ∷ (codes "s") ∷ []; body = (82 ∷ []) }) false ∷ AssignForm 63 83 ∷
      ExprStmtForm 84 ∷ NameForm (codes "desk") ∷ MemberForm 86 (codes "drop") ∷ ParamForm (codes "T") ∷
      NameForm (codes "T") ∷ MemberForm 89 (codes "a") ∷ UnaryForm DeleteSign 90 ∷ ExprStmtForm 91 ∷
      ArrowForm (record { params = (codes "T") ∷ []; body = (92 ∷ []) }) true ∷ AssignForm 87 93 ∷
      ExprStmtForm 94 ∷ NameForm (codes "desk") ∷ MemberForm 96 (codes "q") ∷ ParamForm (codes "p") ∷
      NameForm (codes "Reflect") ∷ MemberForm 99 (codes "getOwnPropertyDescriptor") ∷ NameForm (codes "p") ∷
      TextForm (codes "a") ∷ CallForm 100 (101 ∷ 102 ∷ []) ∷ DeclForm (codes "d") (Some 103) ∷
      LetForm (104 ∷ []) ∷ NameForm (codes "d") ∷ LiteralForm (Undefined) ∷ BinaryForm TripleEqual 106 107 ∷
      TextForm (codes "none") ∷ NameForm (codes "Reflect") ∷ MemberForm 110 (codes "ownKeys") ∷
      NameForm (codes "d") ∷ CallForm 111 (112 ∷ []) ∷ MemberForm 113 (codes "map") ∷ ParamForm (codes "k") ∷
      NameForm (codes "k") ∷ TextForm (codes ":") ∷ BinaryForm Plus 116 117 ∷ NameForm (codes "d") ∷
      NameForm (codes "k") ∷ IndexForm 119 120 ∷ UnaryForm Typeof 121 ∷ TextForm (codes "function") ∷
      BinaryForm TripleEqual 122 123 ∷ TextForm (codes "f") ∷ NameForm (codes "d") ∷ NameForm (codes "k") ∷
      IndexForm 126 127 ∷ CondForm 124 125 128 ∷ GroupForm 129 ∷ BinaryForm Plus 118 130 ∷
      ArrowForm (record { params = (codes "k") ∷ []; body = (131 ∷ []) }) false ∷ CallForm 114 (132 ∷ []) ∷
      MemberForm 133 (codes "join") ∷ TextForm (codes " ") ∷ CallForm 134 (135 ∷ []) ∷ CondForm 108 109 136 ∷
      ReturnForm (Some 137) ∷ ArrowForm (record { params = (codes "p") ∷ []; body = (105 ∷ 138 ∷ []) }) true ∷
      AssignForm 97 139 ∷ ExprStmtForm 140 ∷ ScriptForm (21 ∷ 26 ∷ 37 ∷ 61 ∷ 85 ∷ 95 ∷ 141 ∷ []) ∷
      [];
  names =
      bound 15 (codes "T") false ∷ bound 15 (codes "k") false ∷ bound 19 (codes "base") false ∷
      bound 19 (codes "inside") false ∷ bound 19 (codes "said") false ∷ bound 35 (codes "T") false ∷
      bound 58 (codes "T") false ∷ bound 59 (codes "v") false ∷ bound 59 (codes "w") false ∷
      bound 82 (codes "T") false ∷ bound 83 (codes "g") false ∷ bound 83 (codes "s") false ∷
      bound 93 (codes "T") false ∷ bound 132 (codes "k") false ∷ bound 139 (codes "p") false ∷
      bound 139 (codes "d") false ∷
      [];
}

abbrev right : Program
right = record {
  forms =
      ParamForm (codes "n") ∷ ParamForm (codes "f") ∷ DeclForm (codes "r") None ∷ LetForm (2 ∷ []) ∷
      NameForm (codes "r") ∷ NameForm (codes "f") ∷ CallForm 5 [] ∷ AssignForm 4 6 ∷ ExprStmtForm 7 ∷
      BlockForm (8 ∷ []) ∷ ParamForm (codes "e") ∷ NameForm (codes "r") ∷ NameForm (codes "e") ∷
      NameForm (codes "TypeError") ∷ BinaryForm Instanceof 12 13 ∷ TextForm (codes "TE") ∷ NameForm (codes "e") ∷
      NameForm (codes "RangeError") ∷ BinaryForm Instanceof 16 17 ∷ TextForm (codes "RE") ∷
      NameForm (codes "e") ∷ NameForm (codes "ReferenceError") ∷ BinaryForm Instanceof 20 21 ∷
      TextForm (codes "FE") ∷ NameForm (codes "e") ∷ CondForm 22 23 24 ∷ CondForm 18 19 25 ∷ CondForm 14 15 26 ∷
      AssignForm 11 27 ∷ ExprStmtForm 28 ∷ BlockForm (29 ∷ []) ∷ TryForm 9 (Some (codes "e")) (Some 30) None ∷
      NameForm (codes "print") ∷ NameForm (codes "n") ∷ NameForm (codes "r") ∷ UnaryForm Typeof 34 ∷
      TextForm (codes "object") ∷ BinaryForm TripleEqual 35 36 ∷ NameForm (codes "r") ∷ LiteralForm (Null) ∷
      BinaryForm NotDoubleEqual 38 39 ∷ AndForm 37 40 ∷ TextForm (codes "obj") ∷ NameForm (codes "r") ∷
      UnaryForm Typeof 43 ∷ TextForm (codes "function") ∷ BinaryForm TripleEqual 44 45 ∷ TextForm (codes "fun") ∷
      NameForm (codes "r") ∷ CondForm 46 47 48 ∷ CondForm 41 42 49 ∷ CallForm 32 (33 ∷ 50 ∷ []) ∷
      ExprStmtForm 51 ∷
      FunctionDeclForm (codes "t") (record { params = (codes "n") ∷ (codes "f") ∷ []; body = (3 ∷ 31 ∷ 52 ∷ []) }) ∷
      NameForm (codes "t") ∷ TextForm (codes "6a") ∷ NameForm (codes "desk") ∷ MemberForm 56 (codes "q") ∷
      NameForm (codes "desk") ∷ MemberForm 58 (codes "go") ∷ ObjectForm [] ∷ NameForm (codes "desk") ∷
      MemberForm 61 (codes "no") ∷ NumberForm (pos 1) ∷ CallForm 59 (60 ∷ 62 ∷ 63 ∷ []) ∷ CallForm 57 (64 ∷ []) ∷
      ArrowForm (record { params = []; body = (65 ∷ []) }) false ∷ CallForm 54 (55 ∷ 66 ∷ []) ∷ ExprStmtForm 67 ∷
      NameForm (codes "t") ∷ TextForm (codes "6b") ∷ NameForm (codes "desk") ∷ MemberForm 71 (codes "q") ∷
      NameForm (codes "desk") ∷ MemberForm 73 (codes "go") ∷ ObjectForm [] ∷ NameForm (codes "desk") ∷
      MemberForm 76 (codes "no") ∷ LiteralForm (Null) ∷ CallForm 74 (75 ∷ 77 ∷ 78 ∷ []) ∷ CallForm 72 (79 ∷ []) ∷
      ArrowForm (record { params = []; body = (80 ∷ []) }) false ∷ CallForm 69 (70 ∷ 81 ∷ []) ∷ ExprStmtForm 82 ∷
      NameForm (codes "t") ∷ TextForm (codes "6c") ∷ NameForm (codes "desk") ∷ MemberForm 86 (codes "q") ∷
      NameForm (codes "desk") ∷ MemberForm 88 (codes "go") ∷ ObjectForm [] ∷ NameForm (codes "desk") ∷
      MemberForm 91 (codes "no") ∷ LiteralForm (Undefined) ∷ CallForm 89 (90 ∷ 92 ∷ 93 ∷ []) ∷
      CallForm 87 (94 ∷ []) ∷ ArrowForm (record { params = []; body = (95 ∷ []) }) false ∷
      CallForm 84 (85 ∷ 96 ∷ []) ∷ ExprStmtForm 97 ∷ NameForm (codes "t") ∷ TextForm (codes "6d") ∷
      NameForm (codes "desk") ∷ MemberForm 101 (codes "q") ∷ NameForm (codes "desk") ∷
      MemberForm 103 (codes "go") ∷ ObjectForm [] ∷ NameForm (codes "desk") ∷ MemberForm 106 (codes "no") ∷
      NumberForm (pos 1) ∷ ValueForm (Written (codes "get")) 108 ∷ ObjectForm (109 ∷ []) ∷
      CallForm 104 (105 ∷ 107 ∷ 110 ∷ []) ∷ CallForm 102 (111 ∷ []) ∷
      ArrowForm (record { params = []; body = (112 ∷ []) }) false ∷ CallForm 99 (100 ∷ 113 ∷ []) ∷
      ExprStmtForm 114 ∷ NameForm (codes "t") ∷ TextForm (codes "6e") ∷ NameForm (codes "desk") ∷
      MemberForm 118 (codes "q") ∷ NameForm (codes "desk") ∷ MemberForm 120 (codes "go") ∷ ObjectForm [] ∷
      NameForm (codes "desk") ∷ MemberForm 123 (codes "no") ∷ LiteralForm (Undefined) ∷
      ValueForm (Written (codes "get")) 125 ∷ LiteralForm (Truth false) ∷
      ValueForm (Written (codes "writable")) 127 ∷ LiteralForm (Truth true) ∷
      ValueForm (Written (codes "configurable")) 129 ∷ ObjectForm (126 ∷ 128 ∷ 130 ∷ []) ∷
      CallForm 121 (122 ∷ 124 ∷ 131 ∷ []) ∷ CallForm 119 (132 ∷ []) ∷
      ArrowForm (record { params = []; body = (133 ∷ []) }) false ∷ CallForm 116 (117 ∷ 134 ∷ []) ∷
      ExprStmtForm 135 ∷ NameForm (codes "t") ∷ TextForm (codes "6f") ∷ NameForm (codes "desk") ∷
      MemberForm 139 (codes "q") ∷ NameForm (codes "desk") ∷ MemberForm 141 (codes "go") ∷ ObjectForm [] ∷
      NameForm (codes "desk") ∷ MemberForm 144 (codes "no") ∷ NumberForm (pos 1) ∷
      ValueForm (Written (codes "configurable")) 146 ∷ ObjectForm (147 ∷ []) ∷
      CallForm 142 (143 ∷ 145 ∷ 148 ∷ []) ∷ CallForm 140 (149 ∷ []) ∷
      ArrowForm (record { params = []; body = (150 ∷ []) }) false ∷ CallForm 137 (138 ∷ 151 ∷ []) ∷
      ExprStmtForm 152 ∷ NameForm (codes "t") ∷ TextForm (codes "7a") ∷ NameForm (codes "desk") ∷
      MemberForm 156 (codes "q") ∷ NameForm (codes "desk") ∷ MemberForm 158 (codes "go") ∷ NumberForm (pos 1) ∷
      ValueForm (Written (codes "a")) 160 ∷ ObjectForm (161 ∷ []) ∷ NameForm (codes "desk") ∷
      MemberForm 163 (codes "fix") ∷ NumberForm (pos 1) ∷ LiteralForm (Truth true) ∷
      CallForm 164 (165 ∷ 166 ∷ []) ∷ LiteralForm (Undefined) ∷ CallForm 159 (162 ∷ 167 ∷ 168 ∷ []) ∷
      CallForm 157 (169 ∷ []) ∷ ArrowForm (record { params = []; body = (170 ∷ []) }) false ∷
      CallForm 154 (155 ∷ 171 ∷ []) ∷ ExprStmtForm 172 ∷ NameForm (codes "t") ∷ TextForm (codes "7b") ∷
      NameForm (codes "desk") ∷ MemberForm 176 (codes "q") ∷ NameForm (codes "desk") ∷
      MemberForm 178 (codes "go") ∷ NumberForm (pos 1) ∷ ValueForm (Written (codes "a")) 180 ∷
      ObjectForm (181 ∷ []) ∷ NameForm (codes "desk") ∷ MemberForm 183 (codes "no") ∷ LiteralForm (Undefined) ∷
      CallForm 179 (182 ∷ 184 ∷ 185 ∷ []) ∷ CallForm 177 (186 ∷ []) ∷
      ArrowForm (record { params = []; body = (187 ∷ []) }) false ∷ CallForm 174 (175 ∷ 188 ∷ []) ∷
      ExprStmtForm 189 ∷ NameForm (codes "t") ∷ TextForm (codes "7c") ∷ NameForm (codes "desk") ∷
      MemberForm 193 (codes "q") ∷ NameForm (codes "desk") ∷ MemberForm 195 (codes "go") ∷ NumberForm (pos 1) ∷
      ValueForm (Written (codes "a")) 197 ∷ ObjectForm (198 ∷ []) ∷ NameForm (codes "desk") ∷
      MemberForm 200 (codes "drop") ∷ LiteralForm (Undefined) ∷ CallForm 196 (199 ∷ 201 ∷ 202 ∷ []) ∷
      CallForm 194 (203 ∷ []) ∷ ArrowForm (record { params = []; body = (204 ∷ []) }) false ∷
      CallForm 191 (192 ∷ 205 ∷ []) ∷ ExprStmtForm 206 ∷ NameForm (codes "t") ∷ TextForm (codes "8a") ∷
      NameForm (codes "desk") ∷ MemberForm 210 (codes "q") ∷ NameForm (codes "desk") ∷
      MemberForm 212 (codes "go") ∷ NumberForm (pos 1) ∷ ValueForm (Written (codes "a")) 214 ∷
      ObjectForm (215 ∷ []) ∷ NameForm (codes "desk") ∷ MemberForm 217 (codes "close") ∷
      LiteralForm (Undefined) ∷ CallForm 213 (216 ∷ 218 ∷ 219 ∷ []) ∷ CallForm 211 (220 ∷ []) ∷
      ArrowForm (record { params = []; body = (221 ∷ []) }) false ∷ CallForm 208 (209 ∷ 222 ∷ []) ∷
      ExprStmtForm 223 ∷ NameForm (codes "t") ∷ TextForm (codes "8b") ∷ NameForm (codes "desk") ∷
      MemberForm 227 (codes "q") ∷ NameForm (codes "desk") ∷ MemberForm 229 (codes "go") ∷ ObjectForm [] ∷
      NameForm (codes "desk") ∷ MemberForm 232 (codes "close") ∷ LiteralForm (Undefined) ∷
      CallForm 230 (231 ∷ 233 ∷ 234 ∷ []) ∷ CallForm 228 (235 ∷ []) ∷
      ArrowForm (record { params = []; body = (236 ∷ []) }) false ∷ CallForm 225 (226 ∷ 237 ∷ []) ∷
      ExprStmtForm 238 ∷ NameForm (codes "t") ∷ TextForm (codes "9a") ∷ NameForm (codes "desk") ∷
      MemberForm 242 (codes "q") ∷ NameForm (codes "desk") ∷ MemberForm 244 (codes "go") ∷ ObjectForm [] ∷
      NameForm (codes "desk") ∷ MemberForm 247 (codes "close") ∷ LiteralForm (Truth true) ∷
      ValueForm (Written (codes "configurable")) 249 ∷ ObjectForm (250 ∷ []) ∷
      CallForm 245 (246 ∷ 248 ∷ 251 ∷ []) ∷ CallForm 243 (252 ∷ []) ∷
      ArrowForm (record { params = []; body = (253 ∷ []) }) false ∷ CallForm 240 (241 ∷ 254 ∷ []) ∷
      ExprStmtForm 255 ∷ NameForm (codes "t") ∷ TextForm (codes "9b") ∷ NameForm (codes "desk") ∷
      MemberForm 259 (codes "q") ∷ NameForm (codes "desk") ∷ MemberForm 261 (codes "go") ∷ NumberForm (pos 1) ∷
      ValueForm (Written (codes "a")) 263 ∷ ObjectForm (264 ∷ []) ∷ NameForm (codes "desk") ∷
      MemberForm 266 (codes "fix") ∷ NumberForm (pos 1) ∷ LiteralForm (Truth false) ∷
      CallForm 267 (268 ∷ 269 ∷ []) ∷ NumberForm (pos 2) ∷ ValueForm (Written (codes "value")) 271 ∷
      LiteralForm (Truth true) ∷ ValueForm (Written (codes "enumerable")) 273 ∷ ObjectForm (272 ∷ 274 ∷ []) ∷
      CallForm 262 (265 ∷ 270 ∷ 275 ∷ []) ∷ CallForm 260 (276 ∷ []) ∷
      ArrowForm (record { params = []; body = (277 ∷ []) }) false ∷ CallForm 257 (258 ∷ 278 ∷ []) ∷
      ExprStmtForm 279 ∷ NameForm (codes "t") ∷ TextForm (codes "9c") ∷ NameForm (codes "desk") ∷
      MemberForm 283 (codes "q") ∷ NameForm (codes "desk") ∷ MemberForm 285 (codes "go") ∷ NumberForm (pos 1) ∷
      ValueForm (Written (codes "a")) 287 ∷ ObjectForm (288 ∷ []) ∷ NameForm (codes "desk") ∷
      MemberForm 290 (codes "fix") ∷ NumberForm (pos 1) ∷ LiteralForm (Truth false) ∷
      CallForm 291 (292 ∷ 293 ∷ []) ∷ NumberForm (pos 1) ∷ ValueForm (Written (codes "value")) 295 ∷
      LiteralForm (Truth true) ∷ ValueForm (Written (codes "enumerable")) 297 ∷ ObjectForm (296 ∷ 298 ∷ []) ∷
      CallForm 286 (289 ∷ 294 ∷ 299 ∷ []) ∷ CallForm 284 (300 ∷ []) ∷
      ArrowForm (record { params = []; body = (301 ∷ []) }) false ∷ CallForm 281 (282 ∷ 302 ∷ []) ∷
      ExprStmtForm 303 ∷ NameForm (codes "t") ∷ TextForm (codes "9d") ∷ NameForm (codes "desk") ∷
      MemberForm 307 (codes "q") ∷ NameForm (codes "desk") ∷ MemberForm 309 (codes "go") ∷ NumberForm (pos 1) ∷
      ValueForm (Written (codes "a")) 311 ∷ ObjectForm (312 ∷ []) ∷ NameForm (codes "desk") ∷
      MemberForm 314 (codes "fix") ∷ NumberForm (pos 1) ∷ LiteralForm (Truth false) ∷
      CallForm 315 (316 ∷ 317 ∷ []) ∷ NumberForm (pos 1) ∷ ValueForm (Written (codes "value")) 319 ∷
      ObjectForm (320 ∷ []) ∷ CallForm 310 (313 ∷ 318 ∷ 321 ∷ []) ∷ CallForm 308 (322 ∷ []) ∷
      ArrowForm (record { params = []; body = (323 ∷ []) }) false ∷ CallForm 305 (306 ∷ 324 ∷ []) ∷
      ExprStmtForm 325 ∷ NameForm (codes "t") ∷ TextForm (codes "9e") ∷ NameForm (codes "desk") ∷
      MemberForm 329 (codes "q") ∷ NameForm (codes "desk") ∷ MemberForm 331 (codes "go") ∷ NumberForm (pos 1) ∷
      ValueForm (Written (codes "a")) 333 ∷ ObjectForm (334 ∷ []) ∷ NameForm (codes "desk") ∷
      MemberForm 336 (codes "fix") ∷ NumberForm (pos 1) ∷ LiteralForm (Truth false) ∷
      CallForm 337 (338 ∷ 339 ∷ []) ∷ NumberForm (pos 1) ∷ ValueForm (Written (codes "value")) 341 ∷
      LiteralForm (Truth true) ∷ ValueForm (Written (codes "enumerable")) 343 ∷ LiteralForm (Truth true) ∷
      ValueForm (Written (codes "configurable")) 345 ∷ ObjectForm (342 ∷ 344 ∷ 346 ∷ []) ∷
      CallForm 332 (335 ∷ 340 ∷ 347 ∷ []) ∷ CallForm 330 (348 ∷ []) ∷
      ArrowForm (record { params = []; body = (349 ∷ []) }) false ∷ CallForm 327 (328 ∷ 350 ∷ []) ∷
      ExprStmtForm 351 ∷ NameForm (codes "t") ∷ TextForm (codes "9f") ∷ NameForm (codes "desk") ∷
      MemberForm 355 (codes "q") ∷ NameForm (codes "desk") ∷ MemberForm 357 (codes "go") ∷ NumberForm (pos 1) ∷
      ValueForm (Written (codes "a")) 359 ∷ ObjectForm (360 ∷ []) ∷ NameForm (codes "desk") ∷
      MemberForm 362 (codes "acc") ∷ NameForm (codes "print") ∷ LiteralForm (Undefined) ∷
      CallForm 363 (364 ∷ 365 ∷ []) ∷ NameForm (codes "print") ∷ ValueForm (Written (codes "get")) 367 ∷
      ObjectForm (368 ∷ []) ∷ CallForm 358 (361 ∷ 366 ∷ 369 ∷ []) ∷ CallForm 356 (370 ∷ []) ∷
      ArrowForm (record { params = []; body = (371 ∷ []) }) false ∷ CallForm 353 (354 ∷ 372 ∷ []) ∷
      ExprStmtForm 373 ∷ NameForm (codes "t") ∷ TextForm (codes "9g") ∷ NameForm (codes "desk") ∷
      MemberForm 377 (codes "q") ∷ NameForm (codes "desk") ∷ MemberForm 379 (codes "go") ∷ NumberForm (pos 1) ∷
      ValueForm (Written (codes "a")) 381 ∷ ObjectForm (382 ∷ []) ∷ NameForm (codes "desk") ∷
      MemberForm 384 (codes "acc") ∷ NameForm (codes "print") ∷ LiteralForm (Undefined) ∷
      CallForm 385 (386 ∷ 387 ∷ []) ∷ NameForm (codes "String") ∷ ValueForm (Written (codes "get")) 389 ∷
      ObjectForm (390 ∷ []) ∷ CallForm 380 (383 ∷ 388 ∷ 391 ∷ []) ∷ CallForm 378 (392 ∷ []) ∷
      ArrowForm (record { params = []; body = (393 ∷ []) }) false ∷ CallForm 375 (376 ∷ 394 ∷ []) ∷
      ExprStmtForm 395 ∷ NameForm (codes "t") ∷ TextForm (codes "9h") ∷ NameForm (codes "desk") ∷
      MemberForm 399 (codes "q") ∷ NameForm (codes "desk") ∷ MemberForm 401 (codes "go") ∷ NumberForm (pos 1) ∷
      ValueForm (Written (codes "a")) 403 ∷ ObjectForm (404 ∷ []) ∷ NameForm (codes "desk") ∷
      MemberForm 406 (codes "acc") ∷ LiteralForm (Undefined) ∷ LiteralForm (Undefined) ∷
      CallForm 407 (408 ∷ 409 ∷ []) ∷ ObjectForm [] ∷ CallForm 402 (405 ∷ 410 ∷ 411 ∷ []) ∷
      CallForm 400 (412 ∷ []) ∷ ArrowForm (record { params = []; body = (413 ∷ []) }) false ∷
      CallForm 397 (398 ∷ 414 ∷ []) ∷ ExprStmtForm 415 ∷ NameForm (codes "t") ∷ TextForm (codes "9i") ∷
      NameForm (codes "desk") ∷ MemberForm 419 (codes "q") ∷ NameForm (codes "desk") ∷
      MemberForm 421 (codes "go") ∷ NumberForm (pos 1) ∷ ValueForm (Written (codes "a")) 423 ∷
      ObjectForm (424 ∷ []) ∷ NameForm (codes "desk") ∷ MemberForm 426 (codes "acc") ∷ LiteralForm (Undefined) ∷
      LiteralForm (Undefined) ∷ CallForm 427 (428 ∷ 429 ∷ []) ∷ LiteralForm (Undefined) ∷
      ValueForm (Written (codes "set")) 431 ∷ ObjectForm (432 ∷ []) ∷ CallForm 422 (425 ∷ 430 ∷ 433 ∷ []) ∷
      CallForm 420 (434 ∷ []) ∷ ArrowForm (record { params = []; body = (435 ∷ []) }) false ∷
      CallForm 417 (418 ∷ 436 ∷ []) ∷ ExprStmtForm 437 ∷ NameForm (codes "t") ∷ TextForm (codes "10a") ∷
      NameForm (codes "desk") ∷ MemberForm 441 (codes "q") ∷ NameForm (codes "desk") ∷
      MemberForm 443 (codes "go") ∷ ObjectForm [] ∷ NameForm (codes "desk") ∷ MemberForm 446 (codes "no") ∷
      NumberForm (pos 1) ∷ ValueForm (Written (codes "value")) 448 ∷ ObjectForm (449 ∷ []) ∷
      CallForm 444 (445 ∷ 447 ∷ 450 ∷ []) ∷ CallForm 442 (451 ∷ []) ∷
      ArrowForm (record { params = []; body = (452 ∷ []) }) false ∷ CallForm 439 (440 ∷ 453 ∷ []) ∷
      ExprStmtForm 454 ∷ NameForm (codes "t") ∷ TextForm (codes "10b") ∷ NameForm (codes "desk") ∷
      MemberForm 458 (codes "q") ∷ NameForm (codes "desk") ∷ MemberForm 460 (codes "go") ∷ NumberForm (pos 1) ∷
      ValueForm (Written (codes "a")) 462 ∷ ObjectForm (463 ∷ []) ∷ NameForm (codes "desk") ∷
      MemberForm 465 (codes "no") ∷ NumberForm (pos 1) ∷ ValueForm (Written (codes "value")) 467 ∷
      LiteralForm (Truth true) ∷ ValueForm (Written (codes "writable")) 469 ∷ LiteralForm (Truth true) ∷
      ValueForm (Written (codes "enumerable")) 471 ∷ NumberForm (pos 0) ∷
      ValueForm (Written (codes "configurable")) 473 ∷ ObjectForm (468 ∷ 470 ∷ 472 ∷ 474 ∷ []) ∷
      CallForm 461 (464 ∷ 466 ∷ 475 ∷ []) ∷ CallForm 459 (476 ∷ []) ∷
      ArrowForm (record { params = []; body = (477 ∷ []) }) false ∷ CallForm 456 (457 ∷ 478 ∷ []) ∷
      ExprStmtForm 479 ∷ NameForm (codes "t") ∷ TextForm (codes "10c") ∷ NameForm (codes "desk") ∷
      MemberForm 483 (codes "q") ∷ NameForm (codes "desk") ∷ MemberForm 485 (codes "go") ∷ ObjectForm [] ∷
      NameForm (codes "desk") ∷ MemberForm 488 (codes "fix") ∷ NumberForm (pos 1) ∷ LiteralForm (Truth true) ∷
      CallForm 489 (490 ∷ 491 ∷ []) ∷ NumberForm (pos 1) ∷ ValueForm (Written (codes "value")) 493 ∷
      LiteralForm (Truth true) ∷ ValueForm (Written (codes "writable")) 495 ∷ LiteralForm (Truth true) ∷
      ValueForm (Written (codes "enumerable")) 497 ∷ ObjectForm (494 ∷ 496 ∷ 498 ∷ []) ∷
      CallForm 486 (487 ∷ 492 ∷ 499 ∷ []) ∷ CallForm 484 (500 ∷ []) ∷
      ArrowForm (record { params = []; body = (501 ∷ []) }) false ∷ CallForm 481 (482 ∷ 502 ∷ []) ∷
      ExprStmtForm 503 ∷ NameForm (codes "t") ∷ TextForm (codes "10d") ∷ NameForm (codes "desk") ∷
      MemberForm 507 (codes "q") ∷ NameForm (codes "desk") ∷ MemberForm 509 (codes "go") ∷ ObjectForm [] ∷
      NameForm (codes "desk") ∷ MemberForm 512 (codes "fix") ∷ NumberForm (pos 1) ∷ LiteralForm (Truth true) ∷
      CallForm 513 (514 ∷ 515 ∷ []) ∷ NumberForm (pos 2) ∷ ValueForm (Written (codes "value")) 517 ∷
      LiteralForm (Truth true) ∷ ValueForm (Written (codes "writable")) 519 ∷ LiteralForm (Truth true) ∷
      ValueForm (Written (codes "enumerable")) 521 ∷ ObjectForm (518 ∷ 520 ∷ 522 ∷ []) ∷
      CallForm 510 (511 ∷ 516 ∷ 523 ∷ []) ∷ CallForm 508 (524 ∷ []) ∷
      ArrowForm (record { params = []; body = (525 ∷ []) }) false ∷ CallForm 505 (506 ∷ 526 ∷ []) ∷
      ExprStmtForm 527 ∷ NameForm (codes "t") ∷ TextForm (codes "11a") ∷ NameForm (codes "desk") ∷
      MemberForm 531 (codes "q") ∷ NameForm (codes "desk") ∷ MemberForm 533 (codes "go") ∷ ObjectForm [] ∷
      NameForm (codes "desk") ∷ MemberForm 536 (codes "fix") ∷ NumberForm (pos 1) ∷ LiteralForm (Truth true) ∷
      CallForm 537 (538 ∷ 539 ∷ []) ∷ NumberForm (pos 1) ∷ ValueForm (Written (codes "value")) 541 ∷
      LiteralForm (Truth false) ∷ ValueForm (Written (codes "writable")) 543 ∷ LiteralForm (Truth true) ∷
      ValueForm (Written (codes "enumerable")) 545 ∷ ObjectForm (542 ∷ 544 ∷ 546 ∷ []) ∷
      CallForm 534 (535 ∷ 540 ∷ 547 ∷ []) ∷ CallForm 532 (548 ∷ []) ∷
      ArrowForm (record { params = []; body = (549 ∷ []) }) false ∷ CallForm 529 (530 ∷ 550 ∷ []) ∷
      ExprStmtForm 551 ∷ NameForm (codes "t") ∷ TextForm (codes "11b") ∷ NameForm (codes "desk") ∷
      MemberForm 555 (codes "q") ∷ NameForm (codes "desk") ∷ MemberForm 557 (codes "go") ∷ ObjectForm [] ∷
      NameForm (codes "desk") ∷ MemberForm 560 (codes "fix") ∷ NumberForm (pos 1) ∷ LiteralForm (Truth false) ∷
      CallForm 561 (562 ∷ 563 ∷ []) ∷ NumberForm (pos 1) ∷ ValueForm (Written (codes "value")) 565 ∷
      LiteralForm (Truth false) ∷ ValueForm (Written (codes "writable")) 567 ∷ LiteralForm (Truth true) ∷
      ValueForm (Written (codes "enumerable")) 569 ∷ ObjectForm (566 ∷ 568 ∷ 570 ∷ []) ∷
      CallForm 558 (559 ∷ 564 ∷ 571 ∷ []) ∷ CallForm 556 (572 ∷ []) ∷
      ArrowForm (record { params = []; body = (573 ∷ []) }) false ∷ CallForm 553 (554 ∷ 574 ∷ []) ∷
      ExprStmtForm 575 ∷ NameForm (codes "t") ∷ TextForm (codes "11c") ∷ NameForm (codes "desk") ∷
      MemberForm 579 (codes "q") ∷ NameForm (codes "desk") ∷ MemberForm 581 (codes "go") ∷ ObjectForm [] ∷
      NameForm (codes "desk") ∷ MemberForm 584 (codes "fix") ∷ NumberForm (pos 1) ∷ LiteralForm (Truth false) ∷
      CallForm 585 (586 ∷ 587 ∷ []) ∷ NumberForm (pos 1) ∷ ValueForm (Written (codes "value")) 589 ∷
      LiteralForm (Truth true) ∷ ValueForm (Written (codes "writable")) 591 ∷ LiteralForm (Truth true) ∷
      ValueForm (Written (codes "enumerable")) 593 ∷ ObjectForm (590 ∷ 592 ∷ 594 ∷ []) ∷
      CallForm 582 (583 ∷ 588 ∷ 595 ∷ []) ∷ CallForm 580 (596 ∷ []) ∷
      ArrowForm (record { params = []; body = (597 ∷ []) }) false ∷ CallForm 577 (578 ∷ 598 ∷ []) ∷
      ExprStmtForm 599 ∷
      ScriptForm (53 ∷ 68 ∷ 83 ∷ 98 ∷ 115 ∷ 136 ∷ 153 ∷ 173 ∷ 190 ∷ 207 ∷ 224 ∷ 239 ∷ 256 ∷ 280 ∷ 304 ∷ 326 ∷
      352 ∷ 374 ∷ 396 ∷ 416 ∷ 438 ∷ 455 ∷ 480 ∷ 504 ∷ 528 ∷ 552 ∷ 576 ∷ 600 ∷ []) ∷
      [];
  names =
      bound 31 (codes "e") false ∷ bound 53 (codes "n") false ∷ bound 53 (codes "f") false ∷
      bound 53 (codes "r") false ∷ bound 601 (codes "t") false ∷
      [];
}

abbrev policy : List Rule
policy = []

abbrev schedule : List Letter
schedule = []

abbrev told : List (List ℕ)
told =
    (codes "R 6a TE") ∷
    (codes "R 6b TE") ∷
    (codes "R 6c none") ∷
    (codes "R 6d TE") ∷
    (codes "R 6e TE") ∷
    (codes "R 6f value:undefined writable:false enumerable:false configurable:true") ∷
    (codes "R 7a TE") ∷
    (codes "R 7b none") ∷
    (codes "R 7c none") ∷
    (codes "R 8a TE") ∷
    (codes "R 8b none") ∷
    (codes "R 9a TE") ∷
    (codes "R 9b TE") ∷
    (codes "R 9c value:1 writable:false enumerable:true configurable:false") ∷
    (codes "R 9d TE") ∷
    (codes "R 9e TE") ∷
    (codes "R 9f get:f set:undefined enumerable:false configurable:false") ∷
    (codes "R 9g TE") ∷
    (codes "R 9h TE") ∷
    (codes "R 9i get:undefined set:undefined enumerable:false configurable:false") ∷
    (codes "R 10a TE") ∷
    (codes "R 10b TE") ∷
    (codes "R 10c value:1 writable:true enumerable:true configurable:false") ∷
    (codes "R 10d value:2 writable:true enumerable:true configurable:false") ∷
    (codes "R 11a TE") ∷
    (codes "R 11b value:1 writable:false enumerable:true configurable:false") ∷
    (codes "R 11c TE") ∷
    (codes "= done") ∷
    []

abbrev stage : Stage
stage = Story (left ∷ right ∷ []) policy schedule 1000000

pub Row : Type 0
Row = Shows false false stage told

pub row : Row
unfolding Row given Validate encode_utf8
row = (refl, refl)
