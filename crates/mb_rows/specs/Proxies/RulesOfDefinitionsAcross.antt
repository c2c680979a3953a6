use Rattle.std.specs.Prelude.{refl, ℕ, List, [], ◌∷◌, true, false, Some, None, codes, pos}
use Rattle.std.specs.Char.{encode_utf8}
use Rattle.mb_tree.specs.declared.kind.Sign.TheVariants.{TripleEqual, NotDoubleEqual, Instanceof, Typeof}
use Rattle.mb_desc.specs.Validate.{Validate}
use Rattle.mb_world.specs.Value.{Undefined, Null, Truth}
use Rattle.mb_world.specs.Form.{Written, ScriptForm, LetForm, DeclForm, FunctionDeclForm, BlockForm, ExprStmtForm, ReturnForm, TryForm, ParamForm, NameForm, NumberForm, TextForm, LiteralForm, ObjectForm, ValueForm, ArrowForm, MemberForm, AssignForm, CallForm, NewForm, CondForm, AndForm, UnaryForm, BinaryForm}
use Rattle.mb_world.specs.Graph.{Program, Rule}
use Rattle.mb_model.specs.Engine.{given}
use Rattle.mb_model.specs.Story.{Stage, Letter, Story}
use Rattle.mb_rows.specs.Shows.{bound, Shows}

-- run
-- left
--     desk.dp = (base, inside) => new Proxy(base, { defineProperty: (T, k, d) => { return inside(T, k, d); } });
--     desk.yes = () => true;
--     desk.real = (T, k, d) => Reflect.defineProperty(T, k, d);
--     desk.close = (T) => Reflect.preventExtensions(T);
--     desk.fix = (v, w) => (T) => Reflect.defineProperty(T, "a", { value: v, writable: w, configurable: false });
-- right
--     function t(n, f) { let r; try { r = f(); } catch (e) { r = e instanceof TypeError ? "TE" : e instanceof RangeError ? "RE" : e instanceof ReferenceError ? "FE" : e; } print(n, typeof r === "object" && r !== null ? "obj" : typeof r === "function" ? "fun" : r); }
--     t("12a", () => Reflect.defineProperty(desk.dp({}, desk.close), "a", {}));
--     t("12b", () => Reflect.defineProperty(desk.dp({}, desk.yes), "a", {}));
--     t("12c", () => Reflect.defineProperty(desk.dp({}, () => 0), "a", {}));
--     t("13a", () => Reflect.defineProperty(desk.dp({}, desk.yes), "a", { configurable: false }));
--     t("13b", () => Reflect.defineProperty(desk.dp({}, desk.real), "a", { configurable: false }));
--     t("13c", () => Reflect.defineProperty(desk.dp({}, desk.yes), "a", { configurable: true }));
--     t("13d", () => Reflect.defineProperty(desk.dp({}, desk.yes), "a", { value: 1, writable: false }));
--     t("14a", () => Reflect.defineProperty(desk.dp({ a: 1 }, desk.fix(1, false)), "a", { value: 2 }));
--     t("14b", () => Reflect.defineProperty(desk.dp({ a: 1 }, desk.fix(1, false)), "a", { value: 1 }));
--     t("14c", () => Reflect.defineProperty(desk.dp({ a: 1 }, desk.fix(1, false)), "a", { get: undefined }));
--     t("14d", () => Reflect.defineProperty(desk.dp({ a: 1 }, desk.fix(1, false)), "a", { enumerable: true }));
--     t("14e", () => Reflect.defineProperty(desk.dp({ a: 1 }, desk.fix(1, false)), "a", { enumerable: false }));
--     t("14f", () => Reflect.defineProperty(desk.dp({ a: 1 }, desk.yes), "a", { get: print }));
--     t("15a", () => Reflect.defineProperty(desk.dp({ a: 1 }, desk.yes), "a", { configurable: false }));
--     t("15b", () => Reflect.defineProperty(desk.dp({ a: 1 }, desk.fix(1, true)), "a", { configurable: false }));
--     t("16a", () => Reflect.defineProperty(desk.dp({ a: 1 }, desk.fix(1, true)), "a", { configurable: false, writable: false }));
--     t("16b", () => Reflect.defineProperty(desk.dp({ a: 1 }, desk.fix(1, true)), "a", { writable: false }));
--     t("16c", () => Reflect.defineProperty(desk.dp({ a: 1 }, desk.fix(1, false)), "a", { writable: false }));
--     t("16d", () => Reflect.defineProperty(desk.dp({ a: 1 }, desk.yes), "a", { writable: false }));
--     t("16e", () => Object.defineProperty(desk.dp({ a: 1 }, () => ""), "a", {}));
--     t("16f", () => Object.freeze(desk.dp({ a: 1 }, desk.real)));
--     t("16g", () => Object.freeze(desk.dp({ a: 1 }, desk.yes)));
--     t("16h", () => Object.seal(desk.dp({ a: 1 }, desk.fix(1, true))));

abbrev left : Program
left = record {
  forms =
      NameForm (codes "desk") ∷ MemberForm 0 (codes "dp") ∷ ParamForm (codes "base") ∷
      ParamForm (codes "inside") ∷ NameForm (codes "Proxy") ∷ NameForm (codes "base") ∷ ParamForm (codes "T") ∷
      ParamForm (codes "k") ∷ ParamForm (codes "d") ∷ NameForm (codes "inside") ∷ NameForm (codes "T") ∷
      NameForm (codes "k") ∷ NameForm (codes "d") ∷ CallForm 9 (10 ∷ 11 ∷ 12 ∷ []) ∷ ReturnForm (Some 13) ∷
      ArrowForm (record { params = (codes "T") ∷ (codes "k") ∷ (codes "d") ∷ []; body = (14 ∷ []) }) true ∷
      ValueForm (Written (codes "defineProperty")) 15 ∷ ObjectForm (16 ∷ []) ∷ NewForm 4 (5 ∷ 17 ∷ []) ∷
      ArrowForm (record { params = (codes "base") ∷ (codes "inside") ∷ []; body = (18 ∷ []) }) false ∷
      AssignForm 1 19 ∷ ExprStmtForm 20 ∷ NameForm (codes "desk") ∷ MemberForm 22 (codes "yes") ∷
      LiteralForm (Truth true) ∷ ArrowForm (record { params = []; body = (24 ∷ []) }) false ∷ AssignForm 23 25 ∷
      ExprStmtForm 26 ∷ NameForm (codes "desk") ∷ MemberForm 28 (codes "real") ∷ ParamForm (codes "T") ∷
      ParamForm (codes "k") ∷ ParamForm (codes "d") ∷ NameForm (codes "Reflect") ∷
      MemberForm 33 (codes "defineProperty") ∷ NameForm (codes "T") ∷ NameForm (codes "k") ∷
      NameForm (codes "d") ∷ CallForm 34 (35 ∷ 36 ∷ 37 ∷ []) ∷
      ArrowForm (record { params = (codes "T") ∷ (codes "k") ∷ (codes "d") ∷ []; body = (38 ∷ []) }) false ∷
      AssignForm 29 39 ∷ ExprStmtForm 40 ∷ NameForm (codes "desk") ∷ MemberForm 42 (codes "close") ∷
      ParamForm (codes "T") ∷ NameForm (codes "Reflect") ∷ MemberForm 45 (codes "preventExtensions") ∷
      NameForm (codes "T") ∷ CallForm 46 (47 ∷ []) ∷
      ArrowForm (record { params = (codes "T") ∷ []; body = (48 ∷ []) }) false ∷ AssignForm 43 49 ∷
      ExprStmtForm 50 ∷ NameForm (codes "desk") ∷ MemberForm 52 (codes "fix") ∷ ParamForm (codes "v") ∷
      ParamForm (codes "w") ∷ ParamForm (codes "T") ∷ NameForm (codes "Reflect") ∷
      MemberForm 57 (codes "defineProperty") ∷ NameForm (codes "T") ∷ TextForm (codes "a") ∷
      NameForm (codes "v") ∷ ValueForm (Written (codes "value")) 61 ∷ NameForm (codes "w") ∷
      ValueForm (Written (codes "writable")) 63 ∷ LiteralForm (Truth false) ∷
      ValueForm (Written (codes "configurable")) 65 ∷ ObjectForm (62 ∷ 64 ∷ 66 ∷ []) ∷
      CallForm 58 (59 ∷ 60 ∷ 67 ∷ []) ∷
      ArrowForm (record { params = (codes "T") ∷ []; body = (68 ∷ []) }) false ∷
      ArrowForm (record { params = (codes "v") ∷ (codes "w") ∷ []; body = (69 ∷ []) }) false ∷ AssignForm 53 70 ∷
      ExprStmtForm 71 ∷ ScriptForm (21 ∷ 27 ∷ 41 ∷ 51 ∷ 72 ∷ []) ∷
      [];
  names =
      bound 15 (codes "T") false ∷ bound 15 (codes "k") false ∷ bound 15 (codes "d") false ∷
      bound 19 (codes "base") false ∷ bound 19 (codes "inside") false ∷ bound 39 (codes "T") false ∷
      bound 39 (codes "k") false ∷ bound 39 (codes "d") false ∷ bound 49 (codes "T") false ∷
      bound 69 (codes "T") false ∷ bound 70 (codes "v") false ∷ bound 70 (codes "w") false ∷
      [];
}

abbrev right : Program
right = record {
  forms =
      ParamForm (codes "n") ∷ ParamForm (codes "f") ∷ DeclForm (codes "r") None ∷ LetForm (2 ∷ []) ∷
      NameForm (codes "r") ∷ NameForm (codes "f") ∷ CallForm 5 [] ∷ AssignForm 4 6 ∷ ExprStmtForm 7 ∷
      BlockForm (8 ∷ []) ∷ ParamForm (codes "e") ∷ NameForm (codes "r") ∷ NameForm (codes "e") ∷
      NameForm (codes "TypeError") ∷ BinaryForm Instanceof 12 13 ∷ TextForm (codes "TE") ∷ NameForm (codes "e") ∷
      NameForm (codes "RangeError") ∷ BinaryForm Instanceof 16 17 ∷ TextForm (codes "RE") ∷
      NameForm (codes "e") ∷ NameForm (codes "ReferenceError") ∷ BinaryForm Instanceof 20 21 ∷
      TextForm (codes "FE") ∷ NameForm (codes "e") ∷ CondForm 22 23 24 ∷ CondForm 18 19 25 ∷ CondForm 14 15 26 ∷
      AssignForm 11 27 ∷ ExprStmtForm 28 ∷ BlockForm (29 ∷ []) ∷ TryForm 9 (Some (codes "e")) (Some 30) None ∷
      NameForm (codes "print") ∷ NameForm (codes "n") ∷ NameForm (codes "r") ∷ UnaryForm Typeof 34 ∷
      TextForm (codes "object") ∷ BinaryForm TripleEqual 35 36 ∷ NameForm (codes "r") ∷ LiteralForm (Null) ∷
      BinaryForm NotDoubleEqual 38 39 ∷ AndForm 37 40 ∷ TextForm (codes "obj") ∷ NameForm (codes "r") ∷
      UnaryForm Typeof 43 ∷ TextForm (codes "function") ∷ BinaryForm TripleEqual 44 45 ∷ TextForm (codes "fun") ∷
      NameForm (codes "r") ∷ CondForm 46 47 48 ∷ CondForm 41 42 49 ∷ CallForm 32 (33 ∷ 50 ∷ []) ∷
      ExprStmtForm 51 ∷
      FunctionDeclForm (codes "t") (record { params = (codes "n") ∷ (codes "f") ∷ []; body = (3 ∷ 31 ∷ 52 ∷ []) }) ∷
      NameForm (codes "t") ∷ TextForm (codes "12a") ∷ NameForm (codes "Reflect") ∷
      MemberForm 56 (codes "defineProperty") ∷ NameForm (codes "desk") ∷ MemberForm 58 (codes "dp") ∷
      ObjectForm [] ∷ NameForm (codes "desk") ∷ MemberForm 61 (codes "close") ∷ CallForm 59 (60 ∷ 62 ∷ []) ∷
      TextForm (codes "a") ∷ ObjectForm [] ∷ CallForm 57 (63 ∷ 64 ∷ 65 ∷ []) ∷
      ArrowForm (record { params = []; body = (66 ∷ []) }) false ∷ CallForm 54 (55 ∷ 67 ∷ []) ∷ ExprStmtForm 68 ∷
      NameForm (codes "t") ∷ TextForm (codes "12b") ∷ NameForm (codes "Reflect") ∷
      MemberForm 72 (codes "defineProperty") ∷ NameForm (codes "desk") ∷ MemberForm 74 (codes "dp") ∷
      ObjectForm [] ∷ NameForm (codes "desk") ∷ MemberForm 77 (codes "yes") ∷ CallForm 75 (76 ∷ 78 ∷ []) ∷
      TextForm (codes "a") ∷ ObjectForm [] ∷ CallForm 73 (79 ∷ 80 ∷ 81 ∷ []) ∷
      ArrowForm (record { params = []; body = (82 ∷ []) }) false ∷ CallForm 70 (71 ∷ 83 ∷ []) ∷ ExprStmtForm 84 ∷
      NameForm (codes "t") ∷ TextForm (codes "12c") ∷ NameForm (codes "Reflect") ∷
      MemberForm 88 (codes "defineProperty") ∷ NameForm (codes "desk") ∷ MemberForm 90 (codes "dp") ∷
      ObjectForm [] ∷ NumberForm (pos 0) ∷ ArrowForm (record { params = []; body = (93 ∷ []) }) false ∷
      CallForm 91 (92 ∷ 94 ∷ []) ∷ TextForm (codes "a") ∷ ObjectForm [] ∷ CallForm 89 (95 ∷ 96 ∷ 97 ∷ []) ∷
      ArrowForm (record { params = []; body = (98 ∷ []) }) false ∷ CallForm 86 (87 ∷ 99 ∷ []) ∷
      ExprStmtForm 100 ∷ NameForm (codes "t") ∷ TextForm (codes "13a") ∷ NameForm (codes "Reflect") ∷
      MemberForm 104 (codes "defineProperty") ∷ NameForm (codes "desk") ∷ MemberForm 106 (codes "dp") ∷
      ObjectForm [] ∷ NameForm (codes "desk") ∷ MemberForm 109 (codes "yes") ∷ CallForm 107 (108 ∷ 110 ∷ []) ∷
      TextForm (codes "a") ∷ LiteralForm (Truth false) ∷ ValueForm (Written (codes "configurable")) 113 ∷
      ObjectForm (114 ∷ []) ∷ CallForm 105 (111 ∷ 112 ∷ 115 ∷ []) ∷
      ArrowForm (record { params = []; body = (116 ∷ []) }) false ∷ CallForm 102 (103 ∷ 117 ∷ []) ∷
      ExprStmtForm 118 ∷ NameForm (codes "t") ∷ TextForm (codes "13b") ∷ NameForm (codes "Reflect") ∷
      MemberForm 122 (codes "defineProperty") ∷ NameForm (codes "desk") ∷ MemberForm 124 (codes "dp") ∷
      ObjectForm [] ∷ NameForm (codes "desk") ∷ MemberForm 127 (codes "real") ∷ CallForm 125 (126 ∷ 128 ∷ []) ∷
      TextForm (codes "a") ∷ LiteralForm (Truth false) ∷ ValueForm (Written (codes "configurable")) 131 ∷
      ObjectForm (132 ∷ []) ∷ CallForm 123 (129 ∷ 130 ∷ 133 ∷ []) ∷
      ArrowForm (record { params = []; body = (134 ∷ []) }) false ∷ CallForm 120 (121 ∷ 135 ∷ []) ∷
      ExprStmtForm 136 ∷ NameForm (codes "t") ∷ TextForm (codes "13c") ∷ NameForm (codes "Reflect") ∷
      MemberForm 140 (codes "defineProperty") ∷ NameForm (codes "desk") ∷ MemberForm 142 (codes "dp") ∷
      ObjectForm [] ∷ NameForm (codes "desk") ∷ MemberForm 145 (codes "yes") ∷ CallForm 143 (144 ∷ 146 ∷ []) ∷
      TextForm (codes "a") ∷ LiteralForm (Truth true) ∷ ValueForm (Written (codes "configurable")) 149 ∷
      ObjectForm (150 ∷ []) ∷ CallForm 141 (147 ∷ 148 ∷ 151 ∷ []) ∷
      ArrowForm (record { params = []; body = (152 ∷ []) }) false ∷ CallForm 138 (139 ∷ 153 ∷ []) ∷
      ExprStmtForm 154 ∷ NameForm (codes "t") ∷ TextForm (codes "13d") ∷ NameForm (codes "Reflect") ∷
      MemberForm 158 (codes "defineProperty") ∷ NameForm (codes "desk") ∷ MemberForm 160 (codes "dp") ∷
      ObjectForm [] ∷ NameForm (codes "desk") ∷ MemberForm 163 (codes "yes") ∷ CallForm 161 (162 ∷ 164 ∷ []) ∷
      TextForm (codes "a") ∷ NumberForm (pos 1) ∷ ValueForm (Written (codes "value")) 167 ∷
      LiteralForm (Truth false) ∷ ValueForm (Written (codes "writable")) 169 ∷ ObjectForm (168 ∷ 170 ∷ []) ∷
      CallForm 159 (165 ∷ 166 ∷ 171 ∷ []) ∷ ArrowForm (record { params = []; body = (172 ∷ []) }) false ∷
      CallForm 156 (157 ∷ 173 ∷ []) ∷ ExprStmtForm 174 ∷ NameForm (codes "t") ∷ TextForm (codes "14a") ∷
      NameForm (codes "Reflect") ∷ MemberForm 178 (codes "defineProperty") ∷ NameForm (codes "desk") ∷
      MemberForm 180 (codes "dp") ∷ NumberForm (pos 1) ∷ ValueForm (Written (codes "a")) 182 ∷
      ObjectForm (183 ∷ []) ∷ NameForm (codes "desk") ∷ MemberForm 185 (codes "fix") ∷ NumberForm (pos 1) ∷
      LiteralForm (Truth false) ∷ CallForm 186 (187 ∷ 188 ∷ []) ∷ CallForm 181 (184 ∷ 189 ∷ []) ∷
      TextForm (codes "a") ∷ NumberForm (pos 2) ∷ ValueForm (Written (codes "value")) 192 ∷
      ObjectForm (193 ∷ []) ∷ CallForm 179 (190 ∷ 191 ∷ 194 ∷ []) ∷
      ArrowForm (record { params = []; body = (195 ∷ []) }) false ∷ CallForm 176 (177 ∷ 196 ∷ []) ∷
      ExprStmtForm 197 ∷ NameForm (codes "t") ∷ TextForm (codes "14b") ∷ NameForm (codes "Reflect") ∷
      MemberForm 201 (codes "defineProperty") ∷ NameForm (codes "desk") ∷ MemberForm 203 (codes "dp") ∷
      NumberForm (pos 1) ∷ ValueForm (Written (codes "a")) 205 ∷ ObjectForm (206 ∷ []) ∷
      NameForm (codes "desk") ∷ MemberForm 208 (codes "fix") ∷ NumberForm (pos 1) ∷ LiteralForm (Truth false) ∷
      CallForm 209 (210 ∷ 211 ∷ []) ∷ CallForm 204 (207 ∷ 212 ∷ []) ∷ TextForm (codes "a") ∷ NumberForm (pos 1) ∷
      ValueForm (Written (codes "value")) 215 ∷ ObjectForm (216 ∷ []) ∷ CallForm 202 (213 ∷ 214 ∷ 217 ∷ []) ∷
      ArrowForm (record { params = []; body = (218 ∷ []) }) false ∷ CallForm 199 (200 ∷ 219 ∷ []) ∷
      ExprStmtForm 220 ∷ NameForm (codes "t") ∷ TextForm (codes "14c") ∷ NameForm (codes "Reflect") ∷
      MemberForm 224 (codes "defineProperty") ∷ NameForm (codes "desk") ∷ MemberForm 226 (codes "dp") ∷
      NumberForm (pos 1) ∷ ValueForm (Written (codes "a")) 228 ∷ ObjectForm (229 ∷ []) ∷
      NameForm (codes "desk") ∷ MemberForm 231 (codes "fix") ∷ NumberForm (pos 1) ∷ LiteralForm (Truth false) ∷
      CallForm 232 (233 ∷ 234 ∷ []) ∷ CallForm 227 (230 ∷ 235 ∷ []) ∷ TextForm (codes "a") ∷
      LiteralForm (Undefined) ∷ ValueForm (Written (codes "get")) 238 ∷ ObjectForm (239 ∷ []) ∷
      CallForm 225 (236 ∷ 237 ∷ 240 ∷ []) ∷ ArrowForm (record { params = []; body = (241 ∷ []) }) false ∷
      CallForm 222 (223 ∷ 242 ∷ []) ∷ ExprStmtForm 243 ∷ NameForm (codes "t") ∷ TextForm (codes "14d") ∷
      NameForm (codes "Reflect") ∷ MemberForm 247 (codes "defineProperty") ∷ NameForm (codes "desk") ∷
      MemberForm 249 (codes "dp") ∷ NumberForm (pos 1) ∷ ValueForm (Written (codes "a")) 251 ∷
      ObjectForm (252 ∷ []) ∷ NameForm (codes "desk") ∷ MemberForm 254 (codes "fix") ∷ NumberForm (pos 1) ∷
      LiteralForm (Truth false) ∷ CallForm 255 (256 ∷ 257 ∷ []) ∷ CallForm 250 (253 ∷ 258 ∷ []) ∷
      TextForm (codes "a") ∷ LiteralForm (Truth true) ∷ ValueForm (Written (codes "enumerable")) 261 ∷
      ObjectForm (262 ∷ []) ∷ CallForm 248 (259 ∷ 260 ∷ 263 ∷ []) ∷
      ArrowForm (record { params = []; body = (264 ∷ []) }) false ∷ CallForm 245 (246 ∷ 265 ∷ []) ∷
      ExprStmtForm 266 ∷ NameForm (codes "t") ∷ TextForm (codes "14e") ∷ NameForm (codes "Reflect") ∷
      MemberForm 270 (codes "defineProperty") ∷ NameForm (codes "desk") ∷ MemberForm 272 (codes "dp") ∷
      NumberForm (pos 1) ∷ ValueForm (Written (codes "a")) 274 ∷ ObjectForm (275 ∷ []) ∷
      NameForm (codes "desk") ∷ MemberForm 277 (codes "fix") ∷ NumberForm (pos 1) ∷ LiteralForm (Truth false) ∷
      CallForm 278 (279 ∷ 280 ∷ []) ∷ CallForm 273 (276 ∷ 281 ∷ []) ∷ TextForm (codes "a") ∷
      LiteralForm (Truth false) ∷ ValueForm (Written (codes "enumerable")) 284 ∷ ObjectForm (285 ∷ []) ∷
      CallForm 271 (282 ∷ 283 ∷ 286 ∷ []) ∷ ArrowForm (record { params = []; body = (287 ∷ []) }) false ∷
      CallForm 268 (269 ∷ 288 ∷ []) ∷ ExprStmtForm 289 ∷ NameForm (codes "t") ∷ TextForm (codes "14f") ∷
      NameForm (codes "Reflect") ∷ MemberForm 293 (codes "defineProperty") ∷ NameForm (codes "desk") ∷
      MemberForm 295 (codes "dp") ∷ NumberForm (pos 1) ∷ ValueForm (Written (codes "a")) 297 ∷
      ObjectForm (298 ∷ []) ∷ NameForm (codes "desk") ∷ MemberForm 300 (codes "yes") ∷
      CallForm 296 (299 ∷ 301 ∷ []) ∷ TextForm (codes "a") ∷ NameForm (codes "print") ∷
      ValueForm (Written (codes "get")) 304 ∷ ObjectForm (305 ∷ []) ∷ CallForm 294 (302 ∷ 303 ∷ 306 ∷ []) ∷
      ArrowForm (record { params = []; body = (307 ∷ []) }) false ∷ CallForm 291 (292 ∷ 308 ∷ []) ∷
      ExprStmtForm 309 ∷ NameForm (codes "t") ∷ TextForm (codes "15a") ∷ NameForm (codes "Reflect") ∷
      MemberForm 313 (codes "defineProperty") ∷ NameForm (codes "desk") ∷ MemberForm 315 (codes "dp") ∷
      NumberForm (pos 1) ∷ ValueForm (Written (codes "a")) 317 ∷ ObjectForm (318 ∷ []) ∷
      NameForm (codes "desk") ∷ MemberForm 320 (codes "yes") ∷ CallForm 316 (319 ∷ 321 ∷ []) ∷
      TextForm (codes "a") ∷ LiteralForm (Truth false) ∷ ValueForm (Written (codes "configurable")) 324 ∷
      ObjectForm (325 ∷ []) ∷ CallForm 314 (322 ∷ 323 ∷ 326 ∷ []) ∷
      ArrowForm (record { params = []; body = (327 ∷ []) }) false ∷ CallForm 311 (312 ∷ 328 ∷ []) ∷
      ExprStmtForm 329 ∷ NameForm (codes "t") ∷ TextForm (codes "15b") ∷ NameForm (codes "Reflect") ∷
      MemberForm 333 (codes "defineProperty") ∷ NameForm (codes "desk") ∷ MemberForm 335 (codes "dp") ∷
      NumberForm (pos 1) ∷ ValueForm (Written (codes "a")) 337 ∷ ObjectForm (338 ∷ []) ∷
      NameForm (codes "desk") ∷ MemberForm 340 (codes "fix") ∷ NumberForm (pos 1) ∷ LiteralForm (Truth true) ∷
      CallForm 341 (342 ∷ 343 ∷ []) ∷ CallForm 336 (339 ∷ 344 ∷ []) ∷ TextForm (codes "a") ∷
      LiteralForm (Truth false) ∷ ValueForm (Written (codes "configurable")) 347 ∷ ObjectForm (348 ∷ []) ∷
      CallForm 334 (345 ∷ 346 ∷ 349 ∷ []) ∷ ArrowForm (record { params = []; body = (350 ∷ []) }) false ∷
      CallForm 331 (332 ∷ 351 ∷ []) ∷ ExprStmtForm 352 ∷ NameForm (codes "t") ∷ TextForm (codes "16a") ∷
      NameForm (codes "Reflect") ∷ MemberForm 356 (codes "defineProperty") ∷ NameForm (codes "desk") ∷
      MemberForm 358 (codes "dp") ∷ NumberForm (pos 1) ∷ ValueForm (Written (codes "a")) 360 ∷
      ObjectForm (361 ∷ []) ∷ NameForm (codes "desk") ∷ MemberForm 363 (codes "fix") ∷ NumberForm (pos 1) ∷
      LiteralForm (Truth true) ∷ CallForm 364 (365 ∷ 366 ∷ []) ∷ CallForm 359 (362 ∷ 367 ∷ []) ∷
      TextForm (codes "a") ∷ LiteralForm (Truth false) ∷ ValueForm (Written (codes "configurable")) 370 ∷
      LiteralForm (Truth false) ∷ ValueForm (Written (codes "writable")) 372 ∷ ObjectForm (371 ∷ 373 ∷ []) ∷
      CallForm 357 (368 ∷ 369 ∷ 374 ∷ []) ∷ ArrowForm (record { params = []; body = (375 ∷ []) }) false ∷
      CallForm 354 (355 ∷ 376 ∷ []) ∷ ExprStmtForm 377 ∷ NameForm (codes "t") ∷ TextForm (codes "16b") ∷
      NameForm (codes "Reflect") ∷ MemberForm 381 (codes "defineProperty") ∷ NameForm (codes "desk") ∷
      MemberForm 383 (codes "dp") ∷ NumberForm (pos 1) ∷ ValueForm (Written (codes "a")) 385 ∷
      ObjectForm (386 ∷ []) ∷ NameForm (codes "desk") ∷ MemberForm 388 (codes "fix") ∷ NumberForm (pos 1) ∷
      LiteralForm (Truth true) ∷ CallForm 389 (390 ∷ 391 ∷ []) ∷ CallForm 384 (387 ∷ 392 ∷ []) ∷
      TextForm (codes "a") ∷ LiteralForm (Truth false) ∷ ValueForm (Written (codes "writable")) 395 ∷
      ObjectForm (396 ∷ []) ∷ CallForm 382 (393 ∷ 394 ∷ 397 ∷ []) ∷
      ArrowForm (record { params = []; body = (398 ∷ []) }) false ∷ CallForm 379 (380 ∷ 399 ∷ []) ∷
      ExprStmtForm 400 ∷ NameForm (codes "t") ∷ TextForm (codes "16c") ∷ NameForm (codes "Reflect") ∷
      MemberForm 404 (codes "defineProperty") ∷ NameForm (codes "desk") ∷ MemberForm 406 (codes "dp") ∷
      NumberForm (pos 1) ∷ ValueForm (Written (codes "a")) 408 ∷ ObjectForm (409 ∷ []) ∷
      NameForm (codes "desk") ∷ MemberForm 411 (codes "fix") ∷ NumberForm (pos 1) ∷ LiteralForm (Truth false) ∷
      CallForm 412 (413 ∷ 414 ∷ []) ∷ CallForm 407 (410 ∷ 415 ∷ []) ∷ TextForm (codes "a") ∷
      LiteralForm (Truth false) ∷ ValueForm (Written (codes "writable")) 418 ∷ ObjectForm (419 ∷ []) ∷
      CallForm 405 (416 ∷ 417 ∷ 420 ∷ []) ∷ ArrowForm (record { params = []; body = (421 ∷ []) }) false ∷
      CallForm 402 (403 ∷ 422 ∷ []) ∷ ExprStmtForm 423 ∷ NameForm (codes "t") ∷ TextForm (codes "16d") ∷
      NameForm (codes "Reflect") ∷ MemberForm 427 (codes "defineProperty") ∷ NameForm (codes "desk") ∷
      MemberForm 429 (codes "dp") ∷ NumberForm (pos 1) ∷ ValueForm (Written (codes "a")) 431 ∷
      ObjectForm (432 ∷ []) ∷ NameForm (codes "desk") ∷ MemberForm 434 (codes "yes") ∷
      CallForm 430 (433 ∷ 435 ∷ []) ∷ TextForm (codes "a") ∷ LiteralForm (Truth false) ∷
      ValueForm (Written (codes "writable")) 438 ∷ ObjectForm (439 ∷ []) ∷ CallForm 428 (436 ∷ 437 ∷ 440 ∷ []) ∷
      ArrowForm (record { params = []; body = (441 ∷ []) }) false ∷ CallForm 425 (426 ∷ 442 ∷ []) ∷
      ExprStmtForm 443 ∷ NameForm (codes "t") ∷ TextForm (codes "16e") ∷ NameForm (codes "Object") ∷
      MemberForm 447 (codes "defineProperty") ∷ NameForm (codes "desk") ∷ MemberForm 449 (codes "dp") ∷
      NumberForm (pos 1) ∷ ValueForm (Written (codes "a")) 451 ∷ ObjectForm (452 ∷ []) ∷ TextForm [] ∷
      ArrowForm (record { params = []; body = (454 ∷ []) }) false ∷ CallForm 450 (453 ∷ 455 ∷ []) ∷
      TextForm (codes "a") ∷ ObjectForm [] ∷ CallForm 448 (456 ∷ 457 ∷ 458 ∷ []) ∷
      ArrowForm (record { params = []; body = (459 ∷ []) }) false ∷ CallForm 445 (446 ∷ 460 ∷ []) ∷
      ExprStmtForm 461 ∷ NameForm (codes "t") ∷ TextForm (codes "16f") ∷ NameForm (codes "Object") ∷
      MemberForm 465 (codes "freeze") ∷ NameForm (codes "desk") ∷ MemberForm 467 (codes "dp") ∷
      NumberForm (pos 1) ∷ ValueForm (Written (codes "a")) 469 ∷ ObjectForm (470 ∷ []) ∷
      NameForm (codes "desk") ∷ MemberForm 472 (codes "real") ∷ CallForm 468 (471 ∷ 473 ∷ []) ∷
      CallForm 466 (474 ∷ []) ∷ ArrowForm (record { params = []; body = (475 ∷ []) }) false ∷
      CallForm 463 (464 ∷ 476 ∷ []) ∷ ExprStmtForm 477 ∷ NameForm (codes "t") ∷ TextForm (codes "16g") ∷
      NameForm (codes "Object") ∷ MemberForm 481 (codes "freeze") ∷ NameForm (codes "desk") ∷
      MemberForm 483 (codes "dp") ∷ NumberForm (pos 1) ∷ ValueForm (Written (codes "a")) 485 ∷
      ObjectForm (486 ∷ []) ∷ NameForm (codes "desk") ∷ MemberForm 488 (codes "yes") ∷
      CallForm 484 (487 ∷ 489 ∷ []) ∷ CallForm 482 (490 ∷ []) ∷
      ArrowForm (record { params = []; body = (491 ∷ []) }) false ∷ CallForm 479 (480 ∷ 492 ∷ []) ∷
      ExprStmtForm 493 ∷ NameForm (codes "t") ∷ TextForm (codes "16h") ∷ NameForm (codes "Object") ∷
      MemberForm 497 (codes "seal") ∷ NameForm (codes "desk") ∷ MemberForm 499 (codes "dp") ∷
      NumberForm (pos 1) ∷ ValueForm (Written (codes "a")) 501 ∷ ObjectForm (502 ∷ []) ∷
      NameForm (codes "desk") ∷ MemberForm 504 (codes "fix") ∷ NumberForm (pos 1) ∷ LiteralForm (Truth true) ∷
      CallForm 505 (506 ∷ 507 ∷ []) ∷ CallForm 500 (503 ∷ 508 ∷ []) ∷ CallForm 498 (509 ∷ []) ∷
      ArrowForm (record { params = []; body = (510 ∷ []) }) false ∷ CallForm 495 (496 ∷ 511 ∷ []) ∷
      ExprStmtForm 512 ∷
      ScriptForm (53 ∷ 69 ∷ 85 ∷ 101 ∷ 119 ∷ 137 ∷ 155 ∷ 175 ∷ 198 ∷ 221 ∷ 244 ∷ 267 ∷ 290 ∷ 310 ∷ 330 ∷ 353 ∷
      378 ∷ 401 ∷ 424 ∷ 444 ∷ 462 ∷ 478 ∷ 494 ∷ 513 ∷ []) ∷
      [];
  names =
      bound 31 (codes "e") false ∷ bound 53 (codes "n") false ∷ bound 53 (codes "f") false ∷
      bound 53 (codes "r") false ∷ bound 514 (codes "t") false ∷
      [];
}

abbrev policy : List Rule
policy = []

abbrev schedule : List Letter
schedule = []

abbrev told : List (List ℕ)
told =
    (codes "R 12a TE") ∷
    (codes "R 12b true") ∷
    (codes "R 12c false") ∷
    (codes "R 13a TE") ∷
    (codes "R 13b true") ∷
    (codes "R 13c true") ∷
    (codes "R 13d true") ∷
    (codes "R 14a TE") ∷
    (codes "R 14b true") ∷
    (codes "R 14c TE") ∷
    (codes "R 14d true") ∷
    (codes "R 14e TE") ∷
    (codes "R 14f true") ∷
    (codes "R 15a TE") ∷
    (codes "R 15b true") ∷
    (codes "R 16a TE") ∷
    (codes "R 16b TE") ∷
    (codes "R 16c true") ∷
    (codes "R 16d true") ∷
    (codes "R 16e TE") ∷
    (codes "R 16f obj") ∷
    (codes "R 16g TE") ∷
    (codes "R 16h obj") ∷
    (codes "= done") ∷
    []

abbrev stage : Stage
stage = Story (left ∷ right ∷ []) policy schedule 1000000

pub Row : Type 0
Row = Shows false false stage told

pub row : Row
unfolding Row given Validate encode_utf8
row = (refl, refl)
