use Rattle.std.specs.Prelude.{refl, ℕ, List, [], ◌∷◌, true, false, Some, None, codes, pos}
use Rattle.std.specs.Char.{encode_utf8}
use Rattle.mb_tree.specs.declared.kind.Sign.TheVariants.{TripleEqual, NotDoubleEqual, Instanceof, Typeof}
use Rattle.mb_desc.specs.Validate.{Validate}
use Rattle.mb_world.specs.Value.{Undefined, Null, Truth}
use Rattle.mb_world.specs.Form.{Written, ScriptForm, LetForm, DeclForm, FunctionDeclForm, BlockForm, ExprStmtForm, ReturnForm, TryForm, ParamForm, NameForm, NumberForm, TextForm, LiteralForm, ObjectForm, ValueForm, ArrowForm, MemberForm, AssignForm, CallForm, NewForm, CondForm, AndForm, UnaryForm, BinaryForm}
use Rattle.mb_world.specs.Graph.{Program, Rule}
use Rattle.mb_model.specs.Engine.{given}
use Rattle.mb_model.specs.Story.{Stage, Letter, Story}
use Rattle.mb_rows.specs.Shows.{bound, Shows}

-- run
-- left
--     desk.dp = (base, inside) => new Proxy(base, { defineProperty: (T, k, d) => { return inside(T, k, d); } });
--     desk.yes = () => true;
--     desk.real = (T, k, d) => Reflect.defineProperty(T, k, d);
--     desk.close = (T) => Reflect.preventExtensions(T);
--     desk.fix = (v, w) => (T) => Reflect.defineProperty(T, "a", { value: v, writable: w, configurable: false });
--
--     function t(n, f) { let r; try { r = f(); } catch (e) { r = e instanceof TypeError ? "TE" : e instanceof RangeError ? "RE" : e instanceof ReferenceError ? "FE" : e; } print(n, typeof r === "object" && r !== null ? "obj" : typeof r === "function" ? "fun" : r); }
--     t("12a", () => Reflect.defineProperty(desk.dp({}, desk.close), "a", {}));
--     t("12b", () => Reflect.defineProperty(desk.dp({}, desk.yes), "a", {}));
--     t("12c", () => Reflect.defineProperty(desk.dp({}, () => 0), "a", {}));
--     t("13a", () => Reflect.defineProperty(desk.dp({}, desk.yes), "a", { configurable: false }));
--     t("13b", () => Reflect.defineProperty(desk.dp({}, desk.real), "a", { configurable: false }));
--     t("13c", () => Reflect.defineProperty(desk.dp({}, desk.yes), "a", { configurable: true }));
--     t("13d", () => Reflect.defineProperty(desk.dp({}, desk.yes), "a", { value: 1, writable: false }));
--     t("14a", () => Reflect.defineProperty(desk.dp({ a: 1 }, desk.fix(1, false)), "a", { value: 2 }));
--     t("14b", () => Reflect.defineProperty(desk.dp({ a: 1 }, desk.fix(1, false)), "a", { value: 1 }));
--     t("14c", () => Reflect.defineProperty(desk.dp({ a: 1 }, desk.fix(1, false)), "a", { get: undefined }));
--     t("14d", () => Reflect.defineProperty(desk.dp({ a: 1 }, desk.fix(1, false)), "a", { enumerable: true }));
--     t("14e", () => Reflect.defineProperty(desk.dp({ a: 1 }, desk.fix(1, false)), "a", { enumerable: false }));
--     t("14f", () => Reflect.defineProperty(desk.dp({ a: 1 }, desk.yes), "a", { get: print }));
--     t("15a", () => Reflect.defineProperty(desk.dp({ a: 1 }, desk.yes), "a", { configurable: false }));
--     t("15b", () => Reflect.defineProperty(desk.dp({ a: 1 }, desk.fix(1, true)), "a", { configurable: false }));
--     t("16a", () => Reflect.defineProperty(desk.dp({ a: 1 }, desk.fix(1, true)), "a", { configurable: false, writable: false }));
--     t("16b", () => Reflect.defineProperty(desk.dp({ a: 1 }, desk.fix(1, true)), "a", { writable: false }));
--     t("16c", () => Reflect.defineProperty(desk.dp({ a: 1 }, desk.fix(1, false)), "a", { writable: false }));
--     t("16d", () => Reflect.defineProperty(desk.dp({ a: 1 }, desk.yes), "a", { writable: false }));
--     t("16e", () => Object.defineProperty(desk.dp({ a: 1 }, () => ""), "a", {}));
--     t("16f", () => Object.freeze(desk.dp({ a: 1 }, desk.real)));
--     t("16g", () => Object.freeze(desk.dp({ a: 1 }, desk.yes)));
--     t("16h", () => Object.seal(desk.dp({ a: 1 }, desk.fix(1, true))));
-- right
--     (empty)

abbrev left : Program
left = record {
  forms =
      NameForm (codes "desk") ∷ MemberForm 0 (codes "dp") ∷ ParamForm (codes "base") ∷
      ParamForm (codes "inside") ∷ NameForm (codes "Proxy") ∷ NameForm (codes "base") ∷ ParamForm (codes "T") ∷
      ParamForm (codes "k") ∷ ParamForm (codes "d") ∷ NameForm (codes "inside") ∷ NameForm (codes "T") ∷
      NameForm (codes "k") ∷ NameForm (codes "d") ∷ CallForm 9 (10 ∷ 11 ∷ 12 ∷ []) ∷ ReturnForm (Some 13) ∷
      ArrowForm (record { params = (codes "T") ∷ (codes "k") ∷ (codes "d") ∷ []; body = (14 ∷ []) }) true ∷
      ValueForm (Written (codes "defineProperty")) 15 ∷ ObjectForm (16 ∷ []) ∷ NewForm 4 (5 ∷ 17 ∷ []) ∷
      ArrowForm (record { params = (codes "base") ∷ (codes "inside") ∷ []; body = (18 ∷ []) }) false ∷
      AssignForm 1 19 ∷ ExprStmtForm 20 ∷ NameForm (codes "desk") ∷ MemberForm 22 (codes "yes") ∷
      LiteralForm (Truth true) ∷ ArrowForm (record { params = []; body = (24 ∷ []) }) false ∷ AssignForm 23 25 ∷
      ExprStmtForm 26 ∷ NameForm (codes "desk") ∷ MemberForm 28 (codes "real") ∷ ParamForm (codes "T") ∷
      ParamForm (codes "k") ∷ ParamForm (codes "d") ∷ NameForm (codes "Reflect") ∷
      MemberForm 33 (codes "defineProperty") ∷ NameForm (codes "T") ∷ NameForm (codes "k") ∷
      NameForm (codes "d") ∷ CallForm 34 (35 ∷ 36 ∷ 37 ∷ []) ∷
      ArrowForm (record { params = (codes "T") ∷ (codes "k") ∷ (codes "d") ∷ []; body = (38 ∷ []) }) false ∷
      AssignForm 29 39 ∷ ExprStmtForm 40 ∷ NameForm (codes "desk") ∷ MemberForm 42 (codes "close") ∷
      ParamForm (codes "T") ∷ NameForm (codes "Reflect") ∷ MemberForm 45 (codes "preventExtensions") ∷
      NameForm (codes "T") ∷ CallForm 46 (47 ∷ []) ∷
      ArrowForm (record { params = (codes "T") ∷ []; body = (48 ∷ []) }) false ∷ AssignForm 43 49 ∷
      ExprStmtForm 50 ∷ NameForm (codes "desk") ∷ MemberForm 52 (codes "fix") ∷ ParamForm (codes "v") ∷
      ParamForm (codes "w") ∷ ParamForm (codes "T") ∷ NameForm (codes "Reflect") ∷
      MemberForm 57 (codes "defineProperty") ∷ NameForm (codes "T") ∷ TextForm (codes "a") ∷
      NameForm (codes "v") ∷ ValueForm (Written (codes "value")) 61 ∷ NameForm (codes "w") ∷
      ValueForm (Written (codes "writable")) 63 ∷ LiteralForm (Truth false) ∷
      ValueForm (Written (codes "configurable")) 65 ∷ ObjectForm (62 ∷ 64 ∷ 66 ∷ []) ∷
      CallForm 58 (59 ∷ 60 ∷ 67 ∷ []) ∷
      ArrowForm (record { params = (codes "T") ∷ []; body = (68 ∷ []) }) false ∷
      ArrowForm (record { params = (codes "v") ∷ (codes "w") ∷ []; body = (69 ∷ []) }) false ∷ AssignForm 53 70 ∷
      ExprStmtForm 71 ∷ ParamForm (codes "n") ∷ ParamForm (codes "f") ∷ DeclForm (codes "r") None ∷
      LetForm (75 ∷ []) ∷ NameForm (codes "r") ∷ NameForm (codes "f") ∷ CallForm 78 [] ∷ AssignForm 77 79 ∷
      ExprStmtForm 80 ∷ BlockForm (81 ∷ []) ∷ ParamForm (codes "e") ∷ NameForm (codes "r") ∷
      NameForm (codes "e") ∷ NameForm (codes "TypeError") ∷ BinaryForm Instanceof 85 86 ∷ TextForm (codes "TE") ∷
      NameForm (codes "e") ∷ NameForm (codes "RangeError") ∷ BinaryForm Instanceof 89 90 ∷
      TextForm (codes "RE") ∷ NameForm (codes "e") ∷ NameForm (codes "ReferenceError") ∷
      BinaryForm Instanceof 93 94 ∷ TextForm (codes "FE") ∷ NameForm (codes "e") ∷ CondForm 95 96 97 ∷
      CondForm 91 92 98 ∷ CondForm 87 88 99 ∷ AssignForm 84 100 ∷ ExprStmtForm 101 ∷ BlockForm (102 ∷ []) ∷
      TryForm 82 (Some (codes "e")) (Some 103) None ∷ NameForm (codes "print") ∷ NameForm (codes "n") ∷
      NameForm (codes "r") ∷ UnaryForm Typeof 107 ∷ TextForm (codes "object") ∷ BinaryForm TripleEqual 108 109 ∷
      NameForm (codes "r") ∷ LiteralForm (Null) ∷ BinaryForm NotDoubleEqual 111 112 ∷ AndForm 110 113 ∷
      TextForm (codes "obj") ∷ NameForm (codes "r") ∷ UnaryForm Typeof 116 ∷ TextForm (codes "function") ∷
      BinaryForm TripleEqual 117 118 ∷ TextForm (codes "fun") ∷ NameForm (codes "r") ∷ CondForm 119 120 121 ∷
      CondForm 114 115 122 ∷ CallForm 105 (106 ∷ 123 ∷ []) ∷ ExprStmtForm 124 ∷
      FunctionDeclForm (codes "t") (record {
        params = (codes "n") ∷ (codes "f") ∷ [];
        body = (76 ∷ 104 ∷ 125 ∷
            []);
      }) ∷
      NameForm (codes "t") ∷ TextForm (codes "12a") ∷ NameForm (codes "Reflect") ∷
      MemberForm 129 (codes "defineProperty") ∷ NameForm (codes "desk") ∷ MemberForm 131 (codes "dp") ∷
      ObjectForm [] ∷ NameForm (codes "desk") ∷ MemberForm 134 (codes "close") ∷ CallForm 132 (133 ∷ 135 ∷ []) ∷
      TextForm (codes "a") ∷ ObjectForm [] ∷ CallForm 130 (136 ∷ 137 ∷ 138 ∷ []) ∷
      ArrowForm (record { params = []; body = (139 ∷ []) }) false ∷ CallForm 127 (128 ∷ 140 ∷ []) ∷
      ExprStmtForm 141 ∷ NameForm (codes "t") ∷ TextForm (codes "12b") ∷ NameForm (codes "Reflect") ∷
      MemberForm 145 (codes "defineProperty") ∷ NameForm (codes "desk") ∷ MemberForm 147 (codes "dp") ∷
      ObjectForm [] ∷ NameForm (codes "desk") ∷ MemberForm 150 (codes "yes") ∷ CallForm 148 (149 ∷ 151 ∷ []) ∷
      TextForm (codes "a") ∷ ObjectForm [] ∷ CallForm 146 (152 ∷ 153 ∷ 154 ∷ []) ∷
      ArrowForm (record { params = []; body = (155 ∷ []) }) false ∷ CallForm 143 (144 ∷ 156 ∷ []) ∷
      ExprStmtForm 157 ∷ NameForm (codes "t") ∷ TextForm (codes "12c") ∷ NameForm (codes "Reflect") ∷
      MemberForm 161 (codes "defineProperty") ∷ NameForm (codes "desk") ∷ MemberForm 163 (codes "dp") ∷
      ObjectForm [] ∷ NumberForm (pos 0) ∷ ArrowForm (record { params = []; body = (166 ∷ []) }) false ∷
      CallForm 164 (165 ∷ 167 ∷ []) ∷ TextForm (codes "a") ∷ ObjectForm [] ∷
      CallForm 162 (168 ∷ 169 ∷ 170 ∷ []) ∷ ArrowForm (record { params = []; body = (171 ∷ []) }) false ∷
      CallForm 159 (160 ∷ 172 ∷ []) ∷ ExprStmtForm 173 ∷ NameForm (codes "t") ∷ TextForm (codes "13a") ∷
      NameForm (codes "Reflect") ∷ MemberForm 177 (codes "defineProperty") ∷ NameForm (codes "desk") ∷
      MemberForm 179 (codes "dp") ∷ ObjectForm [] ∷ NameForm (codes "desk") ∷ MemberForm 182 (codes "yes") ∷
      CallForm 180 (181 ∷ 183 ∷ []) ∷ TextForm (codes "a") ∷ LiteralForm (Truth false) ∷
      ValueForm (Written (codes "configurable")) 186 ∷ ObjectForm (187 ∷ []) ∷
      CallForm 178 (184 ∷ 185 ∷ 188 ∷ []) ∷ ArrowForm (record { params = []; body = (189 ∷ []) }) false ∷
      CallForm 175 (176 ∷ 190 ∷ []) ∷ ExprStmtForm 191 ∷ NameForm (codes "t") ∷ TextForm (codes "13b") ∷
      NameForm (codes "Reflect") ∷ MemberForm 195 (codes "defineProperty") ∷ NameForm (codes "desk") ∷
      MemberForm 197 (codes "dp") ∷ ObjectForm [] ∷ NameForm (codes "desk") ∷ MemberForm 200 (codes "real") ∷
      CallForm 198 (199 ∷ 201 ∷ []) ∷ TextForm (codes "a") ∷ LiteralForm (Truth false) ∷
      ValueForm (Written (codes "configurable")) 204 ∷ ObjectForm (205 ∷ []) ∷
      CallForm 196 (202 ∷ 203 ∷ 206 ∷ []) ∷ ArrowForm (record { params = []; body = (207 ∷ []) }) false ∷
      CallForm 193 (194 ∷ 208 ∷ []) ∷ ExprStmtForm 209 ∷ NameForm (codes "t") ∷ TextForm (codes "13c") ∷
      NameForm (codes "Reflect") ∷ MemberForm 213 (codes "defineProperty") ∷ NameForm (codes "desk") ∷
      MemberForm 215 (codes "dp") ∷ ObjectForm [] ∷ NameForm (codes "desk") ∷ MemberForm 218 (codes "yes") ∷
      CallForm 216 (217 ∷ 219 ∷ []) ∷ TextForm (codes "a") ∷ LiteralForm (Truth true) ∷
      ValueForm (Written (codes "configurable")) 222 ∷ ObjectForm (223 ∷ []) ∷
      CallForm 214 (220 ∷ 221 ∷ 224 ∷ []) ∷ ArrowForm (record { params = []; body = (225 ∷ []) }) false ∷
      CallForm 211 (212 ∷ 226 ∷ []) ∷ ExprStmtForm 227 ∷ NameForm (codes "t") ∷ TextForm (codes "13d") ∷
      NameForm (codes "Reflect") ∷ MemberForm 231 (codes "defineProperty") ∷ NameForm (codes "desk") ∷
      MemberForm 233 (codes "dp") ∷ ObjectForm [] ∷ NameForm (codes "desk") ∷ MemberForm 236 (codes "yes") ∷
      CallForm 234 (235 ∷ 237 ∷ []) ∷ TextForm (codes "a") ∷ NumberForm (pos 1) ∷
      ValueForm (Written (codes "value")) 240 ∷ LiteralForm (Truth false) ∷
      ValueForm (Written (codes "writable")) 242 ∷ ObjectForm (241 ∷ 243 ∷ []) ∷
      CallForm 232 (238 ∷ 239 ∷ 244 ∷ []) ∷ ArrowForm (record { params = []; body = (245 ∷ []) }) false ∷
      CallForm 229 (230 ∷ 246 ∷ []) ∷ ExprStmtForm 247 ∷ NameForm (codes "t") ∷ TextForm (codes "14a") ∷
      NameForm (codes "Reflect") ∷ MemberForm 251 (codes "defineProperty") ∷ NameForm (codes "desk") ∷
      MemberForm 253 (codes "dp") ∷ NumberForm (pos 1) ∷ ValueForm (Written (codes "a")) 255 ∷
      ObjectForm (256 ∷ []) ∷ NameForm (codes "desk") ∷ MemberForm 258 (codes "fix") ∷ NumberForm (pos 1) ∷
      LiteralForm (Truth false) ∷ CallForm 259 (260 ∷ 261 ∷ []) ∷ CallForm 254 (257 ∷ 262 ∷ []) ∷
      TextForm (codes "a") ∷ NumberForm (pos 2) ∷ ValueForm (Written (codes "value")) 265 ∷
      ObjectForm (266 ∷ []) ∷ CallForm 252 (263 ∷ 264 ∷ 267 ∷ []) ∷
      ArrowForm (record { params = []; body = (268 ∷ []) }) false ∷ CallForm 249 (250 ∷ 269 ∷ []) ∷
      ExprStmtForm 270 ∷ NameForm (codes "t") ∷ TextForm (codes "14b") ∷ NameForm (codes "Reflect") ∷
      MemberForm 274 (codes "defineProperty") ∷ NameForm (codes "desk") ∷ MemberForm 276 (codes "dp") ∷
      NumberForm (pos 1) ∷ ValueForm (Written (codes "a")) 278 ∷ ObjectForm (279 ∷ []) ∷
      NameForm (codes "desk") ∷ MemberForm 281 (codes "fix") ∷ NumberForm (pos 1) ∷ LiteralForm (Truth false) ∷
      CallForm 282 (283 ∷ 284 ∷ []) ∷ CallForm 277 (280 ∷ 285 ∷ []) ∷ TextForm (codes "a") ∷ NumberForm (pos 1) ∷
      ValueForm (Written (codes "value")) 288 ∷ ObjectForm (289 ∷ []) ∷ CallForm 275 (286 ∷ 287 ∷ 290 ∷ []) ∷
      ArrowForm (record { params = []; body = (291 ∷ []) }) false ∷ CallForm 272 (273 ∷ 292 ∷ []) ∷
      ExprStmtForm 293 ∷ NameForm (codes "t") ∷ TextForm (codes "14c") ∷ NameForm (codes "Reflect") ∷
      MemberForm 297 (codes "defineProperty") ∷ NameForm (codes "desk") ∷ MemberForm 299 (codes "dp") ∷
      NumberForm (pos 1) ∷ ValueForm (Written (codes "a")) 301 ∷ ObjectForm (302 ∷ []) ∷
      NameForm (codes "desk") ∷ MemberForm 304 (codes "fix") ∷ NumberForm (pos 1) ∷ LiteralForm (Truth false) ∷
      CallForm 305 (306 ∷ 307 ∷ []) ∷ CallForm 300 (303 ∷ 308 ∷ []) ∷ TextForm (codes "a") ∷
      LiteralForm (Undefined) ∷ ValueForm (Written (codes "get")) 311 ∷ ObjectForm (312 ∷ []) ∷
      CallForm 298 (309 ∷ 310 ∷ 313 ∷ []) ∷ ArrowForm (record { params = []; body = (314 ∷ []) }) false ∷
      CallForm 295 (296 ∷ 315 ∷ []) ∷ ExprStmtForm 316 ∷ NameForm (codes "t") ∷ TextForm (codes "14d") ∷
      NameForm (codes "Reflect") ∷ MemberForm 320 (codes "defineProperty") ∷ NameForm (codes "desk") ∷
      MemberForm 322 (codes "dp") ∷ NumberForm (pos 1) ∷ ValueForm (Written (codes "a")) 324 ∷
      ObjectForm (325 ∷ []) ∷ NameForm (codes "desk") ∷ MemberForm 327 (codes "fix") ∷ NumberForm (pos 1) ∷
      LiteralForm (Truth false) ∷ CallForm 328 (329 ∷ 330 ∷ []) ∷ CallForm 323 (326 ∷ 331 ∷ []) ∷
      TextForm (codes "a") ∷ LiteralForm (Truth true) ∷ ValueForm (Written (codes "enumerable")) 334 ∷
      ObjectForm (335 ∷ []) ∷ CallForm 321 (332 ∷ 333 ∷ 336 ∷ []) ∷
      ArrowForm (record { params = []; body = (337 ∷ []) }) false ∷ CallForm 318 (319 ∷ 338 ∷ []) ∷
      ExprStmtForm 339 ∷ NameForm (codes "t") ∷ TextForm (codes "14e") ∷ NameForm (codes "Reflect") ∷
      MemberForm 343 (codes "defineProperty") ∷ NameForm (codes "desk") ∷ MemberForm 345 (codes "dp") ∷
      NumberForm (pos 1) ∷ ValueForm (Written (codes "a")) 347 ∷ ObjectForm (348 ∷ []) ∷
      NameForm (codes "desk") ∷ MemberForm 350 (codes "fix") ∷ NumberForm (pos 1) ∷ LiteralForm (Truth false) ∷
      CallForm 351 (352 ∷ 353 ∷ []) ∷ CallForm 346 (349 ∷ 354 ∷ []) ∷ TextForm (codes "a") ∷
      LiteralForm (Truth false) ∷ ValueForm (Written (codes "enumerable")) 357 ∷ ObjectForm (358 ∷ []) ∷
      CallForm 344 (355 ∷ 356 ∷ 359 ∷ []) ∷ ArrowForm (record { params = []; body = (360 ∷ []) }) false ∷
      CallForm 341 (342 ∷ 361 ∷ []) ∷ ExprStmtForm 362 ∷ NameForm (codes "t") ∷ TextForm (codes "14f") ∷
      NameForm (codes "Reflect") ∷ MemberForm 366 (codes "defineProperty") ∷ NameForm (codes "desk") ∷
      MemberForm 368 (codes "dp") ∷ NumberForm (pos 1) ∷ ValueForm (Written (codes "a")) 370 ∷
      ObjectForm (371 ∷ []) ∷ NameForm (codes "desk") ∷ MemberForm 373 (codes "yes") ∷
      CallForm 369 (372 ∷ 374 ∷ []) ∷ TextForm (codes "a") ∷ NameForm (codes "print") ∷
      ValueForm (Written (codes "get")) 377 ∷ ObjectForm (378 ∷ []) ∷ CallForm 367 (375 ∷ 376 ∷ 379 ∷ []) ∷
      ArrowForm (record { params = []; body = (380 ∷ []) }) false ∷ CallForm 364 (365 ∷ 381 ∷ []) ∷
      ExprStmtForm 382 ∷ NameForm (codes "t") ∷ TextForm (codes "15a") ∷ NameForm (codes "Reflect") ∷
      MemberForm 386 (codes "defineProperty") ∷ NameForm (codes "desk") ∷ MemberForm 388 (codes "dp") ∷
      NumberForm (pos 1) ∷ ValueForm (Written (codes "a")) 390 ∷ ObjectForm (391 ∷ []) ∷
      NameForm (codes "desk") ∷ MemberForm 393 (codes "yes") ∷ CallForm 389 (392 ∷ 394 ∷ []) ∷
      TextForm (codes "a") ∷ LiteralForm (Truth false) ∷ ValueForm (Written (codes "configurable")) 397 ∷
      ObjectForm (398 ∷ []) ∷ CallForm 387 (395 ∷ 396 ∷ 399 ∷ []) ∷
      ArrowForm (record { params = []; body = (400 ∷ []) }) false ∷ CallForm 384 (385 ∷ 401 ∷ []) ∷
      ExprStmtForm 402 ∷ NameForm (codes "t") ∷ TextForm (codes "15b") ∷ NameForm (codes "Reflect") ∷
      MemberForm 406 (codes "defineProperty") ∷ NameForm (codes "desk") ∷ MemberForm 408 (codes "dp") ∷
      NumberForm (pos 1) ∷ ValueForm (Written (codes "a")) 410 ∷ ObjectForm (411 ∷ []) ∷
      NameForm (codes "desk") ∷ MemberForm 413 (codes "fix") ∷ NumberForm (pos 1) ∷ LiteralForm (Truth true) ∷
      CallForm 414 (415 ∷ 416 ∷ []) ∷ CallForm 409 (412 ∷ 417 ∷ []) ∷ TextForm (codes "a") ∷
      LiteralForm (Truth false) ∷ ValueForm (Written (codes "configurable")) 420 ∷ ObjectForm (421 ∷ []) ∷
      CallForm 407 (418 ∷ 419 ∷ 422 ∷ []) ∷ ArrowForm (record { params = []; body = (423 ∷ []) }) false ∷
      CallForm 404 (405 ∷ 424 ∷ []) ∷ ExprStmtForm 425 ∷ NameForm (codes "t") ∷ TextForm (codes "16a") ∷
      NameForm (codes "Reflect") ∷ MemberForm 429 (codes "defineProperty") ∷ NameForm (codes "desk") ∷
      MemberForm 431 (codes "dp") ∷ NumberForm (pos 1) ∷ ValueForm (Written (codes "a")) 433 ∷
      ObjectForm (434 ∷ []) ∷ NameForm (codes "desk") ∷ MemberForm 436 (codes "fix") ∷ NumberForm (pos 1) ∷
      LiteralForm (Truth true) ∷ CallForm 437 (438 ∷ 439 ∷ []) ∷ CallForm 432 (435 ∷ 440 ∷ []) ∷
      TextForm (codes "a") ∷ LiteralForm (Truth false) ∷ ValueForm (Written (codes "configurable")) 443 ∷
      LiteralForm (Truth false) ∷ ValueForm (Written (codes "writable")) 445 ∷ ObjectForm (444 ∷ 446 ∷ []) ∷
      CallForm 430 (441 ∷ 442 ∷ 447 ∷ []) ∷ ArrowForm (record { params = []; body = (448 ∷ []) }) false ∷
      CallForm 427 (428 ∷ 449 ∷ []) ∷ ExprStmtForm 450 ∷ NameForm (codes "t") ∷ TextForm (codes "16b") ∷
      NameForm (codes "Reflect") ∷ MemberForm 454 (codes "defineProperty") ∷ NameForm (codes "desk") ∷
      MemberForm 456 (codes "dp") ∷ NumberForm (pos 1) ∷ ValueForm (Written (codes "a")) 458 ∷
      ObjectForm (459 ∷ []) ∷ NameForm (codes "desk") ∷ MemberForm 461 (codes "fix") ∷ NumberForm (pos 1) ∷
      LiteralForm (Truth true) ∷ CallForm 462 (463 ∷ 464 ∷ []) ∷ CallForm 457 (460 ∷ 465 ∷ []) ∷
      TextForm (codes "a") ∷ LiteralForm (Truth false) ∷ ValueForm (Written (codes "writable")) 468 ∷
      ObjectForm (469 ∷ []) ∷ CallForm 455 (466 ∷ 467 ∷ 470 ∷ []) ∷
      ArrowForm (record { params = []; body = (471 ∷ []) }) false ∷ CallForm 452 (453 ∷ 472 ∷ []) ∷
      ExprStmtForm 473 ∷ NameForm (codes "t") ∷ TextForm (codes "16c") ∷ NameForm (codes "Reflect") ∷
      MemberForm 477 (codes "defineProperty") ∷ NameForm (codes "desk") ∷ MemberForm 479 (codes "dp") ∷
      NumberForm (pos 1) ∷ ValueForm (Written (codes "a")) 481 ∷ ObjectForm (482 ∷ []) ∷
      NameForm (codes "desk") ∷ MemberForm 484 (codes "fix") ∷ NumberForm (pos 1) ∷ LiteralForm (Truth false) ∷
      CallForm 485 (486 ∷ 487 ∷ []) ∷ CallForm 480 (483 ∷ 488 ∷ []) ∷ TextForm (codes "a") ∷
      LiteralForm (Truth false) ∷ ValueForm (Written (codes "writable")) 491 ∷ ObjectForm (492 ∷ []) ∷
      CallForm 478 (489 ∷ 490 ∷ 493 ∷ []) ∷ ArrowForm (record { params = []; body = (494 ∷ []) }) false ∷
      CallForm 475 (476 ∷ 495 ∷ []) ∷ ExprStmtForm 496 ∷ NameForm (codes "t") ∷ TextForm (codes "16d") ∷
      NameForm (codes "Reflect") ∷ MemberForm 500 (codes "defineProperty") ∷ NameForm (codes "desk") ∷
      MemberForm 502 (codes "dp") ∷ NumberForm (pos 1) ∷ ValueForm (Written (codes "a")) 504 ∷
      ObjectForm (505 ∷ []) ∷ NameForm (codes "desk") ∷ MemberForm 507 (codes "yes") ∷
      CallForm 503 (506 ∷ 508 ∷ []) ∷ TextForm (codes "a") ∷ LiteralForm (Truth false) ∷
      ValueForm (Written (codes "writable")) 511 ∷ ObjectForm (512 ∷ []) ∷ CallForm 501 (509 ∷ 510 ∷ 513 ∷ []) ∷
      ArrowForm (record { params = []; body = (514 ∷ []) }) false ∷ CallForm 498 (499 ∷ 515 ∷ []) ∷
      ExprStmtForm 516 ∷ NameForm (codes "t") ∷ TextForm (codes "16e") ∷ NameForm (codes "Object") ∷
      MemberForm 520 (codes "defineProperty") ∷ NameForm (codes "desk") ∷ MemberForm 522 (codes "dp") ∷
      NumberForm (pos 1) ∷ ValueForm (Written (codes "a")) 524 ∷ ObjectForm (525 ∷ []) ∷ TextForm [] ∷
      ArrowForm (record { params = []; body = (527 ∷ []) }) false ∷ CallForm 523 (526 ∷ 528 ∷ []) ∷
      TextForm (codes "a") ∷ ObjectForm [] ∷ CallForm 521 (529 ∷ 530 ∷ 531 ∷ []) ∷
      ArrowForm (record { params = []; body = (532 ∷ []) }) false ∷ CallForm 518 (519 ∷ 533 ∷ []) ∷
      ExprStmtForm 534 ∷ NameForm (codes "t") ∷ TextForm (codes "16f") ∷ NameForm (codes "Object") ∷
      MemberForm 538 (codes "freeze") ∷ NameForm (codes "desk") ∷ MemberForm 540 (codes "dp") ∷
      NumberForm (pos 1) ∷ ValueForm (Written (codes "a")) 542 ∷ ObjectForm (543 ∷ []) ∷
      NameForm (codes "desk") ∷ MemberForm 545 (codes "real") ∷ CallForm 541 (544 ∷ 546 ∷ []) ∷
      CallForm 539 (547 ∷ []) ∷ ArrowForm (record { params = []; body = (548 ∷ []) }) false ∷
      CallForm 536 (537 ∷ 549 ∷ []) ∷ ExprStmtForm 550 ∷ NameForm (codes "t") ∷ TextForm (codes "16g") ∷
      NameForm (codes "Object") ∷ MemberForm 554 (codes "freeze") ∷ NameForm (codes "desk") ∷
      MemberForm 556 (codes "dp") ∷ NumberForm (pos 1) ∷ ValueForm (Written (codes "a")) 558 ∷
      ObjectForm (559 ∷ []) ∷ NameForm (codes "desk") ∷ MemberForm 561 (codes "yes") ∷
      CallForm 557 (560 ∷ 562 ∷ []) ∷ CallForm 555 (563 ∷ []) ∷
      ArrowForm (record { params = []; body = (564 ∷ []) }) false ∷ CallForm 552 (553 ∷ 565 ∷ []) ∷
      ExprStmtForm 566 ∷ NameForm (codes "t") ∷ TextForm (codes "16h") ∷ NameForm (codes "Object") ∷
      MemberForm 570 (codes "seal") ∷ NameForm (codes "desk") ∷ MemberForm 572 (codes "dp") ∷
      NumberForm (pos 1) ∷ ValueForm (Written (codes "a")) 574 ∷ ObjectForm (575 ∷ []) ∷
      NameForm (codes "desk") ∷ MemberForm 577 (codes "fix") ∷ NumberForm (pos 1) ∷ LiteralForm (Truth true) ∷
      CallForm 578 (579 ∷ 580 ∷ []) ∷ CallForm 573 (576 ∷ 581 ∷ []) ∷ CallForm 571 (582 ∷ []) ∷
      ArrowForm (record { params = []; body = (583 ∷ []) }) false ∷ CallForm 568 (569 ∷ 584 ∷ []) ∷
      ExprStmtForm 585 ∷
      ScriptForm (21 ∷ 27 ∷ 41 ∷ 51 ∷ 72 ∷ 126 ∷ 142 ∷ 158 ∷ 174 ∷ 192 ∷ 210 ∷ 228 ∷ 248 ∷ 271 ∷ 294 ∷ 317 ∷
      340 ∷ 363 ∷ 383 ∷ 403 ∷ 426 ∷ 451 ∷ 474 ∷ 497 ∷ 517 ∷ 535 ∷ 551 ∷ 567 ∷ 586 ∷ []) ∷
      [];
  names =
      bound 15 (codes "T") false ∷ bound 15 (codes "k") false ∷ bound 15 (codes "d") false ∷
      bound 19 (codes "base") false ∷ bound 19 (codes "inside") false ∷ bound 39 (codes "T") false ∷
      bound 39 (codes "k") false ∷ bound 39 (codes "d") false ∷ bound 49 (codes "T") false ∷
      bound 69 (codes "T") false ∷ bound 70 (codes "v") false ∷ bound 70 (codes "w") false ∷
      bound 104 (codes "e") false ∷ bound 126 (codes "n") false ∷ bound 126 (codes "f") false ∷
      bound 126 (codes "r") false ∷ bound 587 (codes "t") false ∷
      [];
}

abbrev right : Program
right = record {
  forms =
      ScriptForm [] ∷
      [];
  names = [];
}

abbrev policy : List Rule
policy = []

abbrev schedule : List Letter
schedule = []

abbrev told : List (List ℕ)
told =
    (codes "L 12a TE") ∷
    (codes "L 12b true") ∷
    (codes "L 12c false") ∷
    (codes "L 13a TE") ∷
    (codes "L 13b true") ∷
    (codes "L 13c true") ∷
    (codes "L 13d true") ∷
    (codes "L 14a TE") ∷
    (codes "L 14b true") ∷
    (codes "L 14c TE") ∷
    (codes "L 14d true") ∷
    (codes "L 14e TE") ∷
    (codes "L 14f true") ∷
    (codes "L 15a TE") ∷
    (codes "L 15b true") ∷
    (codes "L 16a TE") ∷
    (codes "L 16b TE") ∷
    (codes "L 16c true") ∷
    (codes "L 16d true") ∷
    (codes "L 16e TE") ∷
    (codes "L 16f obj") ∷
    (codes "L 16g TE") ∷
    (codes "L 16h obj") ∷
    (codes "= done") ∷
    []

abbrev stage : Stage
stage = Story (left ∷ right ∷ []) policy schedule 1000000

pub Row : Type 0
Row = Shows false false stage told

pub row : Row
unfolding Row given Validate encode_utf8
row = (refl, refl)
