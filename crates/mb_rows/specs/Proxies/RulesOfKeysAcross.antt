use Rattle.std.specs.Prelude.{refl, ℕ, List, [], ◌∷◌, true, false, Some, None, codes, pos}
use Rattle.std.specs.Char.{encode_utf8}
use Rattle.mb_tree.specs.declared.kind.Sign.TheVariants.{Minus, TripleEqual, NotDoubleEqual, Instanceof, Typeof}
use Rattle.mb_desc.specs.Validate.{Validate}
use Rattle.mb_world.specs.Value.{Null, Truth}
use Rattle.mb_world.specs.Form.{Written, ScriptForm, LetForm, DeclForm, FunctionDeclForm, BlockForm, ExprStmtForm, IfForm, ReturnForm, TryForm, ParamForm, NameForm, NumberForm, TextForm, LiteralForm, ArrayForm, ObjectForm, ValueForm, GetterForm, FunctionForm, ArrowForm, GroupForm, MemberForm, AssignForm, CallForm, NewForm, CondForm, AndForm, UnaryForm, BinaryForm}
use Rattle.mb_world.specs.Graph.{Program, Rule}
use Rattle.mb_model.specs.Engine.{given}
use Rattle.mb_model.specs.Story.{Stage, Letter, Story}
use Rattle.mb_rows.specs.Shows.{bound, Shows}

-- run
-- left
--     desk.ok = (base, said, inside) => new Proxy(base, { ownKeys: (T) => { if (inside) { inside(T); } return said; } });
--     desk.close = (T) => { Reflect.preventExtensions(T); };
--     desk.fix = (T) => { Object.defineProperty(T, "a", { configurable: false }); };
--     desk.k = (p) => Reflect.ownKeys(p).join();
--     desk.cn = (said) => new Proxy(function () { }, { construct: () => said });
--     desk.odd = { length: 2, 0: "a", get 1() { return "b"; } };
-- right
--     function t(n, f) { let r; try { r = f(); } catch (e) { r = e instanceof TypeError ? "TE" : e instanceof RangeError ? "RE" : e instanceof ReferenceError ? "FE" : e; } print(n, typeof r === "object" && r !== null ? "obj" : typeof r === "function" ? "fun" : r); }
--     t("21a", () => desk.k(desk.ok({}, [1])));
--     t("21b", () => desk.k(desk.ok({}, ["a", "a"])));
--     t("21c", () => desk.k(desk.ok({}, 1)));
--     t("21d", () => desk.k(desk.ok({}, { length: -3 })));
--     t("21e", () => desk.k(desk.ok({}, {})));
--     t("21f", () => desk.k(desk.ok({}, { length: "1" })));
--     t("21g", () => desk.k(desk.ok({}, desk.odd)));
--     t("21h", () => desk.k(desk.ok({}, ["b", "1", "0", "a"])));
--     t("21i", () => desk.k(desk.ok({}, { length: 1 })));
--     t("21j", () => desk.k(desk.ok({}, null)));
--     t("22a", () => desk.k(desk.ok({ a: 1 }, [], desk.fix)));
--     t("22b", () => desk.k(desk.ok({ a: 1 }, ["z", "a"], desk.fix)));
--     t("22c", () => desk.k(desk.ok({ a: 1 }, [])));
--     t("23a", () => desk.k(desk.ok({ a: 1 }, ["a", "b"], desk.close)));
--     t("23b", () => desk.k(desk.ok({ a: 1 }, [], desk.close)));
--     t("23c", () => desk.k(desk.ok({ a: 1, b: 2 }, ["b", "a"], desk.close)));
--     t("23d", () => desk.k(desk.ok([], ["length"], desk.close)));
--     t("23e", () => desk.k(desk.ok({}, ["q"], desk.close)));
--     t("24a", () => new (desk.cn(1))());
--     t("24b", () => new (desk.cn(null))());
--     t("24c", () => new (desk.cn({}))());
--     t("24d", () => new (desk.cn(print))());
--     t("24e", () => desk.cn(1)());
--     t("24f", () => Reflect.construct(desk.cn({}), [], Array));

abbrev left : Program
left = record {
  forms =
      NameForm (codes "desk") ∷ MemberForm 0 (codes "ok") ∷ ParamForm (codes "base") ∷ ParamForm (codes "said") ∷
      ParamForm (codes "inside") ∷ NameForm (codes "Proxy") ∷ NameForm (codes "base") ∷ ParamForm (codes "T") ∷
      NameForm (codes "inside") ∷ NameForm (codes "inside") ∷ NameForm (codes "T") ∷ CallForm 9 (10 ∷ []) ∷
      ExprStmtForm 11 ∷ BlockForm (12 ∷ []) ∷ IfForm 8 13 None ∷ NameForm (codes "said") ∷ ReturnForm (Some 15) ∷
      ArrowForm (record { params = (codes "T") ∷ []; body = (14 ∷ 16 ∷ []) }) true ∷
      ValueForm (Written (codes "ownKeys")) 17 ∷ ObjectForm (18 ∷ []) ∷ NewForm 5 (6 ∷ 19 ∷ []) ∷
      ArrowForm (record {
        params = (codes "base") ∷ (codes "said") ∷ (codes "inside") ∷ [];
        body = (20 ∷
            []);
      }) false ∷
      AssignForm 1 21 ∷ ExprStmtForm 22 ∷ NameForm (codes "desk") ∷ MemberForm 24 (codes "close") ∷
      ParamForm (codes "T") ∷ NameForm (codes "Reflect") ∷ MemberForm 27 (codes "preventExtensions") ∷
      NameForm (codes "T") ∷ CallForm 28 (29 ∷ []) ∷ ExprStmtForm 30 ∷
      ArrowForm (record { params = (codes "T") ∷ []; body = (31 ∷ []) }) true ∷ AssignForm 25 32 ∷
      ExprStmtForm 33 ∷ NameForm (codes "desk") ∷ MemberForm 35 (codes "fix") ∷ ParamForm (codes "T") ∷
      NameForm (codes "Object") ∷ MemberForm 38 (codes "defineProperty") ∷ NameForm (codes "T") ∷
      TextForm (codes "a") ∷ LiteralForm (Truth false) ∷ ValueForm (Written (codes "configurable")) 42 ∷
      ObjectForm (43 ∷ []) ∷ CallForm 39 (40 ∷ 41 ∷ 44 ∷ []) ∷ ExprStmtForm 45 ∷
      ArrowForm (record { params = (codes "T") ∷ []; body = (46 ∷ []) }) true ∷ AssignForm 36 47 ∷
      ExprStmtForm 48 ∷ NameForm (codes "desk") ∷ MemberForm 50 (codes "k") ∷ ParamForm (codes "p") ∷
      NameForm (codes "Reflect") ∷ MemberForm 53 (codes "ownKeys") ∷ NameForm (codes "p") ∷
      CallForm 54 (55 ∷ []) ∷ MemberForm 56 (codes "join") ∷ CallForm 57 [] ∷
      ArrowForm (record { params = (codes "p") ∷ []; body = (58 ∷ []) }) false ∷ AssignForm 51 59 ∷
      ExprStmtForm 60 ∷ NameForm (codes "desk") ∷ MemberForm 62 (codes "cn") ∷ ParamForm (codes "said") ∷
      NameForm (codes "Proxy") ∷ FunctionForm None (record { params = []; body = [] }) ∷
      NameForm (codes "said") ∷ ArrowForm (record { params = []; body = (67 ∷ []) }) false ∷
      ValueForm (Written (codes "construct")) 68 ∷ ObjectForm (69 ∷ []) ∷ NewForm 65 (66 ∷ 70 ∷ []) ∷
      ArrowForm (record { params = (codes "said") ∷ []; body = (71 ∷ []) }) false ∷ AssignForm 63 72 ∷
      ExprStmtForm 73 ∷ NameForm (codes "desk") ∷ MemberForm 75 (codes "odd") ∷ NumberForm (pos 2) ∷
      ValueForm (Written (codes "length")) 77 ∷ TextForm (codes "a") ∷ ValueForm (Written (codes "0")) 79 ∷
      TextForm (codes "b") ∷ ReturnForm (Some 81) ∷
      GetterForm (Written (codes "1")) (record { params = []; body = (82 ∷ []) }) ∷
      ObjectForm (78 ∷ 80 ∷ 83 ∷ []) ∷ AssignForm 76 84 ∷ ExprStmtForm 85 ∷
      ScriptForm (23 ∷ 34 ∷ 49 ∷ 61 ∷ 74 ∷ 86 ∷ []) ∷
      [];
  names =
      bound 17 (codes "T") false ∷ bound 21 (codes "base") false ∷ bound 21 (codes "said") false ∷
      bound 21 (codes "inside") false ∷ bound 32 (codes "T") false ∷ bound 47 (codes "T") false ∷
      bound 59 (codes "p") false ∷ bound 72 (codes "said") false ∷
      [];
}

abbrev right : Program
right = record {
  forms =
      ParamForm (codes "n") ∷ ParamForm (codes "f") ∷ DeclForm (codes "r") None ∷ LetForm (2 ∷ []) ∷
      NameForm (codes "r") ∷ NameForm (codes "f") ∷ CallForm 5 [] ∷ AssignForm 4 6 ∷ ExprStmtForm 7 ∷
      BlockForm (8 ∷ []) ∷ ParamForm (codes "e") ∷ NameForm (codes "r") ∷ NameForm (codes "e") ∷
      NameForm (codes "TypeError") ∷ BinaryForm Instanceof 12 13 ∷ TextForm (codes "TE") ∷ NameForm (codes "e") ∷
      NameForm (codes "RangeError") ∷ BinaryForm Instanceof 16 17 ∷ TextForm (codes "RE") ∷
      NameForm (codes "e") ∷ NameForm (codes "ReferenceError") ∷ BinaryForm Instanceof 20 21 ∷
      TextForm (codes "FE") ∷ NameForm (codes "e") ∷ CondForm 22 23 24 ∷ CondForm 18 19 25 ∷ CondForm 14 15 26 ∷
      AssignForm 11 27 ∷ ExprStmtForm 28 ∷ BlockForm (29 ∷ []) ∷ TryForm 9 (Some (codes "e")) (Some 30) None ∷
      NameForm (codes "print") ∷ NameForm (codes "n") ∷ NameForm (codes "r") ∷ UnaryForm Typeof 34 ∷
      TextForm (codes "object") ∷ BinaryForm TripleEqual 35 36 ∷ NameForm (codes "r") ∷ LiteralForm (Null) ∷
      BinaryForm NotDoubleEqual 38 39 ∷ AndForm 37 40 ∷ TextForm (codes "obj") ∷ NameForm (codes "r") ∷
      UnaryForm Typeof 43 ∷ TextForm (codes "function") ∷ BinaryForm TripleEqual 44 45 ∷ TextForm (codes "fun") ∷
      NameForm (codes "r") ∷ CondForm 46 47 48 ∷ CondForm 41 42 49 ∷ CallForm 32 (33 ∷ 50 ∷ []) ∷
      ExprStmtForm 51 ∷
      FunctionDeclForm (codes "t") (record { params = (codes "n") ∷ (codes "f") ∷ []; body = (3 ∷ 31 ∷ 52 ∷ []) }) ∷
      NameForm (codes "t") ∷ TextForm (codes "21a") ∷ NameForm (codes "desk") ∷ MemberForm 56 (codes "k") ∷
      NameForm (codes "desk") ∷ MemberForm 58 (codes "ok") ∷ ObjectForm [] ∷ NumberForm (pos 1) ∷
      ArrayForm (61 ∷ []) ∷ CallForm 59 (60 ∷ 62 ∷ []) ∷ CallForm 57 (63 ∷ []) ∷
      ArrowForm (record { params = []; body = (64 ∷ []) }) false ∷ CallForm 54 (55 ∷ 65 ∷ []) ∷ ExprStmtForm 66 ∷
      NameForm (codes "t") ∷ TextForm (codes "21b") ∷ NameForm (codes "desk") ∷ MemberForm 70 (codes "k") ∷
      NameForm (codes "desk") ∷ MemberForm 72 (codes "ok") ∷ ObjectForm [] ∷ TextForm (codes "a") ∷
      TextForm (codes "a") ∷ ArrayForm (75 ∷ 76 ∷ []) ∷ CallForm 73 (74 ∷ 77 ∷ []) ∷ CallForm 71 (78 ∷ []) ∷
      ArrowForm (record { params = []; body = (79 ∷ []) }) false ∷ CallForm 68 (69 ∷ 80 ∷ []) ∷ ExprStmtForm 81 ∷
      NameForm (codes "t") ∷ TextForm (codes "21c") ∷ NameForm (codes "desk") ∷ MemberForm 85 (codes "k") ∷
      NameForm (codes "desk") ∷ MemberForm 87 (codes "ok") ∷ ObjectForm [] ∷ NumberForm (pos 1) ∷
      CallForm 88 (89 ∷ 90 ∷ []) ∷ CallForm 86 (91 ∷ []) ∷
      ArrowForm (record { params = []; body = (92 ∷ []) }) false ∷ CallForm 83 (84 ∷ 93 ∷ []) ∷ ExprStmtForm 94 ∷
      NameForm (codes "t") ∷ TextForm (codes "21d") ∷ NameForm (codes "desk") ∷ MemberForm 98 (codes "k") ∷
      NameForm (codes "desk") ∷ MemberForm 100 (codes "ok") ∷ ObjectForm [] ∷ NumberForm (pos 3) ∷
      UnaryForm Minus 103 ∷ ValueForm (Written (codes "length")) 104 ∷ ObjectForm (105 ∷ []) ∷
      CallForm 101 (102 ∷ 106 ∷ []) ∷ CallForm 99 (107 ∷ []) ∷
      ArrowForm (record { params = []; body = (108 ∷ []) }) false ∷ CallForm 96 (97 ∷ 109 ∷ []) ∷
      ExprStmtForm 110 ∷ NameForm (codes "t") ∷ TextForm (codes "21e") ∷ NameForm (codes "desk") ∷
      MemberForm 114 (codes "k") ∷ NameForm (codes "desk") ∷ MemberForm 116 (codes "ok") ∷ ObjectForm [] ∷
      ObjectForm [] ∷ CallForm 117 (118 ∷ 119 ∷ []) ∷ CallForm 115 (120 ∷ []) ∷
      ArrowForm (record { params = []; body = (121 ∷ []) }) false ∷ CallForm 112 (113 ∷ 122 ∷ []) ∷
      ExprStmtForm 123 ∷ NameForm (codes "t") ∷ TextForm (codes "21f") ∷ NameForm (codes "desk") ∷
      MemberForm 127 (codes "k") ∷ NameForm (codes "desk") ∷ MemberForm 129 (codes "ok") ∷ ObjectForm [] ∷
      TextForm (codes "1") ∷ ValueForm (Written (codes "length")) 132 ∷ ObjectForm (133 ∷ []) ∷
      CallForm 130 (131 ∷ 134 ∷ []) ∷ CallForm 128 (135 ∷ []) ∷
      ArrowForm (record { params = []; body = (136 ∷ []) }) false ∷ CallForm 125 (126 ∷ 137 ∷ []) ∷
      ExprStmtForm 138 ∷ NameForm (codes "t") ∷ TextForm (codes "21g") ∷ NameForm (codes "desk") ∷
      MemberForm 142 (codes "k") ∷ NameForm (codes "desk") ∷ MemberForm 144 (codes "ok") ∷ ObjectForm [] ∷
      NameForm (codes "desk") ∷ MemberForm 147 (codes "odd") ∷ CallForm 145 (146 ∷ 148 ∷ []) ∷
      CallForm 143 (149 ∷ []) ∷ ArrowForm (record { params = []; body = (150 ∷ []) }) false ∷
      CallForm 140 (141 ∷ 151 ∷ []) ∷ ExprStmtForm 152 ∷ NameForm (codes "t") ∷ TextForm (codes "21h") ∷
      NameForm (codes "desk") ∷ MemberForm 156 (codes "k") ∷ NameForm (codes "desk") ∷
      MemberForm 158 (codes "ok") ∷ ObjectForm [] ∷ TextForm (codes "b") ∷ TextForm (codes "1") ∷
      TextForm (codes "0") ∷ TextForm (codes "a") ∷ ArrayForm (161 ∷ 162 ∷ 163 ∷ 164 ∷ []) ∷
      CallForm 159 (160 ∷ 165 ∷ []) ∷ CallForm 157 (166 ∷ []) ∷
      ArrowForm (record { params = []; body = (167 ∷ []) }) false ∷ CallForm 154 (155 ∷ 168 ∷ []) ∷
      ExprStmtForm 169 ∷ NameForm (codes "t") ∷ TextForm (codes "21i") ∷ NameForm (codes "desk") ∷
      MemberForm 173 (codes "k") ∷ NameForm (codes "desk") ∷ MemberForm 175 (codes "ok") ∷ ObjectForm [] ∷
      NumberForm (pos 1) ∷ ValueForm (Written (codes "length")) 178 ∷ ObjectForm (179 ∷ []) ∷
      CallForm 176 (177 ∷ 180 ∷ []) ∷ CallForm 174 (181 ∷ []) ∷
      ArrowForm (record { params = []; body = (182 ∷ []) }) false ∷ CallForm 171 (172 ∷ 183 ∷ []) ∷
      ExprStmtForm 184 ∷ NameForm (codes "t") ∷ TextForm (codes "21j") ∷ NameForm (codes "desk") ∷
      MemberForm 188 (codes "k") ∷ NameForm (codes "desk") ∷ MemberForm 190 (codes "ok") ∷ ObjectForm [] ∷
      LiteralForm (Null) ∷ CallForm 191 (192 ∷ 193 ∷ []) ∷ CallForm 189 (194 ∷ []) ∷
      ArrowForm (record { params = []; body = (195 ∷ []) }) false ∷ CallForm 186 (187 ∷ 196 ∷ []) ∷
      ExprStmtForm 197 ∷ NameForm (codes "t") ∷ TextForm (codes "22a") ∷ NameForm (codes "desk") ∷
      MemberForm 201 (codes "k") ∷ NameForm (codes "desk") ∷ MemberForm 203 (codes "ok") ∷ NumberForm (pos 1) ∷
      ValueForm (Written (codes "a")) 205 ∷ ObjectForm (206 ∷ []) ∷ ArrayForm [] ∷ NameForm (codes "desk") ∷
      MemberForm 209 (codes "fix") ∷ CallForm 204 (207 ∷ 208 ∷ 210 ∷ []) ∷ CallForm 202 (211 ∷ []) ∷
      ArrowForm (record { params = []; body = (212 ∷ []) }) false ∷ CallForm 199 (200 ∷ 213 ∷ []) ∷
      ExprStmtForm 214 ∷ NameForm (codes "t") ∷ TextForm (codes "22b") ∷ NameForm (codes "desk") ∷
      MemberForm 218 (codes "k") ∷ NameForm (codes "desk") ∷ MemberForm 220 (codes "ok") ∷ NumberForm (pos 1) ∷
      ValueForm (Written (codes "a")) 222 ∷ ObjectForm (223 ∷ []) ∷ TextForm (codes "z") ∷ TextForm (codes "a") ∷
      ArrayForm (225 ∷ 226 ∷ []) ∷ NameForm (codes "desk") ∷ MemberForm 228 (codes "fix") ∷
      CallForm 221 (224 ∷ 227 ∷ 229 ∷ []) ∷ CallForm 219 (230 ∷ []) ∷
      ArrowForm (record { params = []; body = (231 ∷ []) }) false ∷ CallForm 216 (217 ∷ 232 ∷ []) ∷
      ExprStmtForm 233 ∷ NameForm (codes "t") ∷ TextForm (codes "22c") ∷ NameForm (codes "desk") ∷
      MemberForm 237 (codes "k") ∷ NameForm (codes "desk") ∷ MemberForm 239 (codes "ok") ∷ NumberForm (pos 1) ∷
      ValueForm (Written (codes "a")) 241 ∷ ObjectForm (242 ∷ []) ∷ ArrayForm [] ∷
      CallForm 240 (243 ∷ 244 ∷ []) ∷ CallForm 238 (245 ∷ []) ∷
      ArrowForm (record { params = []; body = (246 ∷ []) }) false ∷ CallForm 235 (236 ∷ 247 ∷ []) ∷
      ExprStmtForm 248 ∷ NameForm (codes "t") ∷ TextForm (codes "23a") ∷ NameForm (codes "desk") ∷
      MemberForm 252 (codes "k") ∷ NameForm (codes "desk") ∷ MemberForm 254 (codes "ok") ∷ NumberForm (pos 1) ∷
      ValueForm (Written (codes "a")) 256 ∷ ObjectForm (257 ∷ []) ∷ TextForm (codes "a") ∷ TextForm (codes "b") ∷
      ArrayForm (259 ∷ 260 ∷ []) ∷ NameForm (codes "desk") ∷ MemberForm 262 (codes "close") ∷
      CallForm 255 (258 ∷ 261 ∷ 263 ∷ []) ∷ CallForm 253 (264 ∷ []) ∷
      ArrowForm (record { params = []; body = (265 ∷ []) }) false ∷ CallForm 250 (251 ∷ 266 ∷ []) ∷
      ExprStmtForm 267 ∷ NameForm (codes "t") ∷ TextForm (codes "23b") ∷ NameForm (codes "desk") ∷
      MemberForm 271 (codes "k") ∷ NameForm (codes "desk") ∷ MemberForm 273 (codes "ok") ∷ NumberForm (pos 1) ∷
      ValueForm (Written (codes "a")) 275 ∷ ObjectForm (276 ∷ []) ∷ ArrayForm [] ∷ NameForm (codes "desk") ∷
      MemberForm 279 (codes "close") ∷ CallForm 274 (277 ∷ 278 ∷ 280 ∷ []) ∷ CallForm 272 (281 ∷ []) ∷
      ArrowForm (record { params = []; body = (282 ∷ []) }) false ∷ CallForm 269 (270 ∷ 283 ∷ []) ∷
      ExprStmtForm 284 ∷ NameForm (codes "t") ∷ TextForm (codes "23c") ∷ NameForm (codes "desk") ∷
      MemberForm 288 (codes "k") ∷ NameForm (codes "desk") ∷ MemberForm 290 (codes "ok") ∷ NumberForm (pos 1) ∷
      ValueForm (Written (codes "a")) 292 ∷ NumberForm (pos 2) ∷ ValueForm (Written (codes "b")) 294 ∷
      ObjectForm (293 ∷ 295 ∷ []) ∷ TextForm (codes "b") ∷ TextForm (codes "a") ∷ ArrayForm (297 ∷ 298 ∷ []) ∷
      NameForm (codes "desk") ∷ MemberForm 300 (codes "close") ∷ CallForm 291 (296 ∷ 299 ∷ 301 ∷ []) ∷
      CallForm 289 (302 ∷ []) ∷ ArrowForm (record { params = []; body = (303 ∷ []) }) false ∷
      CallForm 286 (287 ∷ 304 ∷ []) ∷ ExprStmtForm 305 ∷ NameForm (codes "t") ∷ TextForm (codes "23d") ∷
      NameForm (codes "desk") ∷ MemberForm 309 (codes "k") ∷ NameForm (codes "desk") ∷
      MemberForm 311 (codes "ok") ∷ ArrayForm [] ∷ TextForm (codes "length") ∷ ArrayForm (314 ∷ []) ∷
      NameForm (codes "desk") ∷ MemberForm 316 (codes "close") ∷ CallForm 312 (313 ∷ 315 ∷ 317 ∷ []) ∷
      CallForm 310 (318 ∷ []) ∷ ArrowForm (record { params = []; body = (319 ∷ []) }) false ∷
      CallForm 307 (308 ∷ 320 ∷ []) ∷ ExprStmtForm 321 ∷ NameForm (codes "t") ∷ TextForm (codes "23e") ∷
      NameForm (codes "desk") ∷ MemberForm 325 (codes "k") ∷ NameForm (codes "desk") ∷
      MemberForm 327 (codes "ok") ∷ ObjectForm [] ∷ TextForm (codes "q") ∷ ArrayForm (330 ∷ []) ∷
      NameForm (codes "desk") ∷ MemberForm 332 (codes "close") ∷ CallForm 328 (329 ∷ 331 ∷ 333 ∷ []) ∷
      CallForm 326 (334 ∷ []) ∷ ArrowForm (record { params = []; body = (335 ∷ []) }) false ∷
      CallForm 323 (324 ∷ 336 ∷ []) ∷ ExprStmtForm 337 ∷ NameForm (codes "t") ∷ TextForm (codes "24a") ∷
      NameForm (codes "desk") ∷ MemberForm 341 (codes "cn") ∷ NumberForm (pos 1) ∷ CallForm 342 (343 ∷ []) ∷
      GroupForm 344 ∷ NewForm 345 [] ∷ ArrowForm (record { params = []; body = (346 ∷ []) }) false ∷
      CallForm 339 (340 ∷ 347 ∷ []) ∷ ExprStmtForm 348 ∷ NameForm (codes "t") ∷ TextForm (codes "24b") ∷
      NameForm (codes "desk") ∷ MemberForm 352 (codes "cn") ∷ LiteralForm (Null) ∷ CallForm 353 (354 ∷ []) ∷
      GroupForm 355 ∷ NewForm 356 [] ∷ ArrowForm (record { params = []; body = (357 ∷ []) }) false ∷
      CallForm 350 (351 ∷ 358 ∷ []) ∷ ExprStmtForm 359 ∷ NameForm (codes "t") ∷ TextForm (codes "24c") ∷
      NameForm (codes "desk") ∷ MemberForm 363 (codes "cn") ∷ ObjectForm [] ∷ CallForm 364 (365 ∷ []) ∷
      GroupForm 366 ∷ NewForm 367 [] ∷ ArrowForm (record { params = []; body = (368 ∷ []) }) false ∷
      CallForm 361 (362 ∷ 369 ∷ []) ∷ ExprStmtForm 370 ∷ NameForm (codes "t") ∷ TextForm (codes "24d") ∷
      NameForm (codes "desk") ∷ MemberForm 374 (codes "cn") ∷ NameForm (codes "print") ∷
      CallForm 375 (376 ∷ []) ∷ GroupForm 377 ∷ NewForm 378 [] ∷
      ArrowForm (record { params = []; body = (379 ∷ []) }) false ∷ CallForm 372 (373 ∷ 380 ∷ []) ∷
      ExprStmtForm 381 ∷ NameForm (codes "t") ∷ TextForm (codes "24e") ∷ NameForm (codes "desk") ∷
      MemberForm 385 (codes "cn") ∷ NumberForm (pos 1) ∷ CallForm 386 (387 ∷ []) ∷ CallForm 388 [] ∷
      ArrowForm (record { params = []; body = (389 ∷ []) }) false ∷ CallForm 383 (384 ∷ 390 ∷ []) ∷
      ExprStmtForm 391 ∷ NameForm (codes "t") ∷ TextForm (codes "24f") ∷ NameForm (codes "Reflect") ∷
      MemberForm 395 (codes "construct") ∷ NameForm (codes "desk") ∷ MemberForm 397 (codes "cn") ∷
      ObjectForm [] ∷ CallForm 398 (399 ∷ []) ∷ ArrayForm [] ∷ NameForm (codes "Array") ∷
      CallForm 396 (400 ∷ 401 ∷ 402 ∷ []) ∷ ArrowForm (record { params = []; body = (403 ∷ []) }) false ∷
      CallForm 393 (394 ∷ 404 ∷ []) ∷ ExprStmtForm 405 ∷
      ScriptForm (53 ∷ 67 ∷ 82 ∷ 95 ∷ 111 ∷ 124 ∷ 139 ∷ 153 ∷ 170 ∷ 185 ∷ 198 ∷ 215 ∷ 234 ∷ 249 ∷ 268 ∷ 285 ∷
      306 ∷ 322 ∷ 338 ∷ 349 ∷ 360 ∷ 371 ∷ 382 ∷ 392 ∷ 406 ∷ []) ∷
      [];
  names =
      bound 31 (codes "e") false ∷ bound 53 (codes "n") false ∷ bound 53 (codes "f") false ∷
      bound 53 (codes "r") false ∷ bound 407 (codes "t") false ∷
      [];
}

abbrev policy : List Rule
policy = []

abbrev schedule : List Letter
schedule = []

abbrev told : List (List ℕ)
told =
    (codes "R 21a TE") ∷
    (codes "R 21b TE") ∷
    (codes "R 21c TE") ∷
    (codes "R 21d ") ∷
    (codes "R 21e ") ∷
    (codes "R 21f TE") ∷
    (codes "R 21g a,b") ∷
    (codes "R 21h b,1,0,a") ∷
    (codes "R 21i TE") ∷
    (codes "R 21j TE") ∷
    (codes "R 22a TE") ∷
    (codes "R 22b z,a") ∷
    (codes "R 22c ") ∷
    (codes "R 23a TE") ∷
    (codes "R 23b TE") ∷
    (codes "R 23c b,a") ∷
    (codes "R 23d length") ∷
    (codes "R 23e TE") ∷
    (codes "R 24a TE") ∷
    (codes "R 24b TE") ∷
    (codes "R 24c obj") ∷
    (codes "R 24d fun") ∷
    (codes "R 24e undefined") ∷
    (codes "R 24f obj") ∷
    (codes "= done") ∷
    []

abbrev stage : Stage
stage = Story (left ∷ right ∷ []) policy schedule 1000000

pub Row : Type 0
Row = Shows false false stage told

pub row : Row
unfolding Row given Validate encode_utf8
row = (refl, refl)
