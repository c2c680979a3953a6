use Rattle.std.specs.Prelude.{refl, ℕ, List, [], ◌∷◌, true, false, Some, None, codes, pos}
use Rattle.std.specs.Char.{encode_utf8}
use Rattle.mb_tree.specs.declared.kind.Sign.TheVariants.{Minus, TripleEqual, NotDoubleEqual, Instanceof, Typeof}
use Rattle.mb_desc.specs.Validate.{Validate}
use Rattle.mb_world.specs.Value.{Null, Truth}
use Rattle.mb_world.specs.Form.{Written, ScriptForm, LetForm, DeclForm, FunctionDeclForm, BlockForm, ExprStmtForm, IfForm, ReturnForm, TryForm, ParamForm, NameForm, NumberForm, TextForm, LiteralForm, ArrayForm, ObjectForm, ValueForm, GetterForm, FunctionForm, ArrowForm, GroupForm, MemberForm, AssignForm, CallForm, NewForm, CondForm, AndForm, UnaryForm, BinaryForm}
use Rattle.mb_world.specs.Graph.{Program, Rule}
use Rattle.mb_model.specs.Engine.{given}
use Rattle.mb_model.specs.Story.{Stage, Letter, Story}
use Rattle.mb_rows.specs.Shows.{bound, Shows}

-- run
-- left
--     desk.ok = (base, said, inside) => new Proxy(base, { ownKeys: (T) => { if (inside) { inside(T); } return said; } });
--     desk.close = (T) => { Reflect.preventExtensions(T); };
--     desk.fix = (T) => { Object.defineProperty(T, "a", { configurable: false }); };
--     desk.k = (p) => Reflect.ownKeys(p).join();
--     desk.cn = (said) => new Proxy(function () { }, { construct: () => said });
--     desk.odd = { length: 2, 0: "a", get 1() { return "b"; } };
--
--     function t(n, f) { let r; try { r = f(); } catch (e) { r = e instanceof TypeError ? "TE" : e instanceof RangeError ? "RE" : e instanceof ReferenceError ? "FE" : e; } print(n, typeof r === "object" && r !== null ? "obj" : typeof r === "function" ? "fun" : r); }
--     t("21a", () => desk.k(desk.ok({}, [1])));
--     t("21b", () => desk.k(desk.ok({}, ["a", "a"])));
--     t("21c", () => desk.k(desk.ok({}, 1)));
--     t("21d", () => desk.k(desk.ok({}, { length: -3 })));
--     t("21e", () => desk.k(desk.ok({}, {})));
--     t("21f", () => desk.k(desk.ok({}, { length: "1" })));
--     t("21g", () => desk.k(desk.ok({}, desk.odd)));
--     t("21h", () => desk.k(desk.ok({}, ["b", "1", "0", "a"])));
--     t("21i", () => desk.k(desk.ok({}, { length: 1 })));
--     t("21j", () => desk.k(desk.ok({}, null)));
--     t("22a", () => desk.k(desk.ok({ a: 1 }, [], desk.fix)));
--     t("22b", () => desk.k(desk.ok({ a: 1 }, ["z", "a"], desk.fix)));
--     t("22c", () => desk.k(desk.ok({ a: 1 }, [])));
--     t("23a", () => desk.k(desk.ok({ a: 1 }, ["a", "b"], desk.close)));
--     t("23b", () => desk.k(desk.ok({ a: 1 }, [], desk.close)));
--     t("23c", () => desk.k(desk.ok({ a: 1, b: 2 }, ["b", "a"], desk.close)));
--     t("23d", () => desk.k(desk.ok([], ["length"], desk.close)));
--     t("23e", () => desk.k(desk.ok({}, ["q"], desk.close)));
--     t("24a", () => new (desk.cn(1))());
--     t("24b", () => new (desk.cn(null))());
--     t("24c", () => new (desk.cn({}))());
--     t("24d", () => new (desk.cn(print))());
--     t("24e", () => desk.cn(1)());
--     t("24f", () => Reflect.construct(desk.cn({}), [], Array));
-- right
--     (empty)

abbrev left : Program
left = record {
  forms =
      NameForm (codes "desk") ∷ MemberForm 0 (codes "ok") ∷ ParamForm (codes "base") ∷ ParamForm (codes "said") ∷
      ParamForm (codes "inside") ∷ NameForm (codes "Proxy") ∷ NameForm (codes "base") ∷ ParamForm (codes "T") ∷
      NameForm (codes "inside") ∷ NameForm (codes "inside") ∷ NameForm (codes "T") ∷ CallForm 9 (10 ∷ []) ∷
      ExprStmtForm 11 ∷ BlockForm (12 ∷ []) ∷ IfForm 8 13 None ∷ NameForm (codes "said") ∷ ReturnForm (Some 15) ∷
      ArrowForm (record { params = (codes "T") ∷ []; body = (14 ∷ 16 ∷ []) }) true ∷
      ValueForm (Written (codes "ownKeys")) 17 ∷ ObjectForm (18 ∷ []) ∷ NewForm 5 (6 ∷ 19 ∷ []) ∷
      ArrowForm (record {
        params = (codes "base") ∷ (codes "said") ∷ (codes "inside") ∷ [];
        body = (20 ∷
            []);
      }) false ∷
      AssignForm 1 21 ∷ ExprStmtForm 22 ∷ NameForm (codes "desk") ∷ MemberForm 24 (codes "close") ∷
      ParamForm (codes "T") ∷ NameForm (codes "Reflect") ∷ MemberForm 27 (codes "preventExtensions") ∷
      NameForm (codes "T") ∷ CallForm 28 (29 ∷ []) ∷ ExprStmtForm 30 ∷
      ArrowForm (record { params = (codes "T") ∷ []; body = (31 ∷ []) }) true ∷ AssignForm 25 32 ∷
      ExprStmtForm 33 ∷ NameForm (codes "desk") ∷ MemberForm 35 (codes "fix") ∷ ParamForm (codes "T") ∷
      NameForm (codes "Object") ∷ MemberForm 38 (codes "defineProperty") ∷ NameForm (codes "T") ∷
      TextForm (codes "a") ∷ LiteralForm (Truth false) ∷ ValueForm (Written (codes "configurable")) 42 ∷
      ObjectForm (43 ∷ []) ∷ CallForm 39 (40 ∷ 41 ∷ 44 ∷ []) ∷ ExprStmtForm 45 ∷
      ArrowForm (record { params = (codes "T") ∷ []; body = (46 ∷ []) }) true ∷ AssignForm 36 47 ∷
      ExprStmtForm 48 ∷ NameForm (codes "desk") ∷ MemberForm 50 (codes "k") ∷ ParamForm (codes "p") ∷
      NameForm (codes "Reflect") ∷ MemberForm 53 (codes "ownKeys") ∷ NameForm (codes "p") ∷
      CallForm 54 (55 ∷ []) ∷ MemberForm 56 (codes "join") ∷ CallForm 57 [] ∷
      ArrowForm (record { params = (codes "p") ∷ []; body = (58 ∷ []) }) false ∷ AssignForm 51 59 ∷
      ExprStmtForm 60 ∷ NameForm (codes "desk") ∷ MemberForm 62 (codes "cn") ∷ ParamForm (codes "said") ∷
      NameForm (codes "Proxy") ∷ FunctionForm None (record { params = []; body = [] }) ∷
      NameForm (codes "said") ∷ ArrowForm (record { params = []; body = (67 ∷ []) }) false ∷
      ValueForm (Written (codes "construct")) 68 ∷ ObjectForm (69 ∷ []) ∷ NewForm 65 (66 ∷ 70 ∷ []) ∷
      ArrowForm (record { params = (codes "said") ∷ []; body = (71 ∷ []) }) false ∷ AssignForm 63 72 ∷
      ExprStmtForm 73 ∷ NameForm (codes "desk") ∷ MemberForm 75 (codes "odd") ∷ NumberForm (pos 2) ∷
      ValueForm (Written (codes "length")) 77 ∷ TextForm (codes "a") ∷ ValueForm (Written (codes "0")) 79 ∷
      TextForm (codes "b") ∷ ReturnForm (Some 81) ∷
      GetterForm (Written (codes "1")) (record { params = []; body = (82 ∷ []) }) ∷
      ObjectForm (78 ∷ 80 ∷ 83 ∷ []) ∷ AssignForm 76 84 ∷ ExprStmtForm 85 ∷ ParamForm (codes "n") ∷
      ParamForm (codes "f") ∷ DeclForm (codes "r") None ∷ LetForm (89 ∷ []) ∷ NameForm (codes "r") ∷
      NameForm (codes "f") ∷ CallForm 92 [] ∷ AssignForm 91 93 ∷ ExprStmtForm 94 ∷ BlockForm (95 ∷ []) ∷
      ParamForm (codes "e") ∷ NameForm (codes "r") ∷ NameForm (codes "e") ∷ NameForm (codes "TypeError") ∷
      BinaryForm Instanceof 99 100 ∷ TextForm (codes "TE") ∷ NameForm (codes "e") ∷
      NameForm (codes "RangeError") ∷ BinaryForm Instanceof 103 104 ∷ TextForm (codes "RE") ∷
      NameForm (codes "e") ∷ NameForm (codes "ReferenceError") ∷ BinaryForm Instanceof 107 108 ∷
      TextForm (codes "FE") ∷ NameForm (codes "e") ∷ CondForm 109 110 111 ∷ CondForm 105 106 112 ∷
      CondForm 101 102 113 ∷ AssignForm 98 114 ∷ ExprStmtForm 115 ∷ BlockForm (116 ∷ []) ∷
      TryForm 96 (Some (codes "e")) (Some 117) None ∷ NameForm (codes "print") ∷ NameForm (codes "n") ∷
      NameForm (codes "r") ∷ UnaryForm Typeof 121 ∷ TextForm (codes "object") ∷ BinaryForm TripleEqual 122 123 ∷
      NameForm (codes "r") ∷ LiteralForm (Null) ∷ BinaryForm NotDoubleEqual 125 126 ∷ AndForm 124 127 ∷
      TextForm (codes "obj") ∷ NameForm (codes "r") ∷ UnaryForm Typeof 130 ∷ TextForm (codes "function") ∷
      BinaryForm TripleEqual 131 132 ∷ TextForm (codes "fun") ∷ NameForm (codes "r") ∷ CondForm 133 134 135 ∷
      CondForm 128 129 136 ∷ CallForm 119 (120 ∷ 137 ∷ []) ∷ ExprStmtForm 138 ∷
      FunctionDeclForm (codes "t") (record {
        params = (codes "n") ∷ (codes "f") ∷ [];
        body = (90 ∷ 118 ∷ 139 ∷
            []);
      }) ∷
      NameForm (codes "t") ∷ TextForm (codes "21a") ∷ NameForm (codes "desk") ∷ MemberForm 143 (codes "k") ∷
      NameForm (codes "desk") ∷ MemberForm 145 (codes "ok") ∷ ObjectForm [] ∷ NumberForm (pos 1) ∷
      ArrayForm (148 ∷ []) ∷ CallForm 146 (147 ∷ 149 ∷ []) ∷ CallForm 144 (150 ∷ []) ∷
      ArrowForm (record { params = []; body = (151 ∷ []) }) false ∷ CallForm 141 (142 ∷ 152 ∷ []) ∷
      ExprStmtForm 153 ∷ NameForm (codes "t") ∷ TextForm (codes "21b") ∷ NameForm (codes "desk") ∷
      MemberForm 157 (codes "k") ∷ NameForm (codes "desk") ∷ MemberForm 159 (codes "ok") ∷ ObjectForm [] ∷
      TextForm (codes "a") ∷ TextForm (codes "a") ∷ ArrayForm (162 ∷ 163 ∷ []) ∷ CallForm 160 (161 ∷ 164 ∷ []) ∷
      CallForm 158 (165 ∷ []) ∷ ArrowForm (record { params = []; body = (166 ∷ []) }) false ∷
      CallForm 155 (156 ∷ 167 ∷ []) ∷ ExprStmtForm 168 ∷ NameForm (codes "t") ∷ TextForm (codes "21c") ∷
      NameForm (codes "desk") ∷ MemberForm 172 (codes "k") ∷ NameForm (codes "desk") ∷
      MemberForm 174 (codes "ok") ∷ ObjectForm [] ∷ NumberForm (pos 1) ∷ CallForm 175 (176 ∷ 177 ∷ []) ∷
      CallForm 173 (178 ∷ []) ∷ ArrowForm (record { params = []; body = (179 ∷ []) }) false ∷
      CallForm 170 (171 ∷ 180 ∷ []) ∷ ExprStmtForm 181 ∷ NameForm (codes "t") ∷ TextForm (codes "21d") ∷
      NameForm (codes "desk") ∷ MemberForm 185 (codes "k") ∷ NameForm (codes "desk") ∷
      MemberForm 187 (codes "ok") ∷ ObjectForm [] ∷ NumberForm (pos 3) ∷ UnaryForm Minus 190 ∷
      ValueForm (Written (codes "length")) 191 ∷ ObjectForm (192 ∷ []) ∷ CallForm 188 (189 ∷ 193 ∷ []) ∷
      CallForm 186 (194 ∷ []) ∷ ArrowForm (record { params = []; body = (195 ∷ []) }) false ∷
      CallForm 183 (184 ∷ 196 ∷ []) ∷ ExprStmtForm 197 ∷ NameForm (codes "t") ∷ TextForm (codes "21e") ∷
      NameForm (codes "desk") ∷ MemberForm 201 (codes "k") ∷ NameForm (codes "desk") ∷
      MemberForm 203 (codes "ok") ∷ ObjectForm [] ∷ ObjectForm [] ∷ CallForm 204 (205 ∷ 206 ∷ []) ∷
      CallForm 202 (207 ∷ []) ∷ ArrowForm (record { params = []; body = (208 ∷ []) }) false ∷
      CallForm 199 (200 ∷ 209 ∷ []) ∷ ExprStmtForm 210 ∷ NameForm (codes "t") ∷ TextForm (codes "21f") ∷
      NameForm (codes "desk") ∷ MemberForm 214 (codes "k") ∷ NameForm (codes "desk") ∷
      MemberForm 216 (codes "ok") ∷ ObjectForm [] ∷ TextForm (codes "1") ∷
      ValueForm (Written (codes "length")) 219 ∷ ObjectForm (220 ∷ []) ∷ CallForm 217 (218 ∷ 221 ∷ []) ∷
      CallForm 215 (222 ∷ []) ∷ ArrowForm (record { params = []; body = (223 ∷ []) }) false ∷
      CallForm 212 (213 ∷ 224 ∷ []) ∷ ExprStmtForm 225 ∷ NameForm (codes "t") ∷ TextForm (codes "21g") ∷
      NameForm (codes "desk") ∷ MemberForm 229 (codes "k") ∷ NameForm (codes "desk") ∷
      MemberForm 231 (codes "ok") ∷ ObjectForm [] ∷ NameForm (codes "desk") ∷ MemberForm 234 (codes "odd") ∷
      CallForm 232 (233 ∷ 235 ∷ []) ∷ CallForm 230 (236 ∷ []) ∷
      ArrowForm (record { params = []; body = (237 ∷ []) }) false ∷ CallForm 227 (228 ∷ 238 ∷ []) ∷
      ExprStmtForm 239 ∷ NameForm (codes "t") ∷ TextForm (codes "21h") ∷ NameForm (codes "desk") ∷
      MemberForm 243 (codes "k") ∷ NameForm (codes "desk") ∷ MemberForm 245 (codes "ok") ∷ ObjectForm [] ∷
      TextForm (codes "b") ∷ TextForm (codes "1") ∷ TextForm (codes "0") ∷ TextForm (codes "a") ∷
      ArrayForm (248 ∷ 249 ∷ 250 ∷ 251 ∷ []) ∷ CallForm 246 (247 ∷ 252 ∷ []) ∷ CallForm 244 (253 ∷ []) ∷
      ArrowForm (record { params = []; body = (254 ∷ []) }) false ∷ CallForm 241 (242 ∷ 255 ∷ []) ∷
      ExprStmtForm 256 ∷ NameForm (codes "t") ∷ TextForm (codes "21i") ∷ NameForm (codes "desk") ∷
      MemberForm 260 (codes "k") ∷ NameForm (codes "desk") ∷ MemberForm 262 (codes "ok") ∷ ObjectForm [] ∷
      NumberForm (pos 1) ∷ ValueForm (Written (codes "length")) 265 ∷ ObjectForm (266 ∷ []) ∷
      CallForm 263 (264 ∷ 267 ∷ []) ∷ CallForm 261 (268 ∷ []) ∷
      ArrowForm (record { params = []; body = (269 ∷ []) }) false ∷ CallForm 258 (259 ∷ 270 ∷ []) ∷
      ExprStmtForm 271 ∷ NameForm (codes "t") ∷ TextForm (codes "21j") ∷ NameForm (codes "desk") ∷
      MemberForm 275 (codes "k") ∷ NameForm (codes "desk") ∷ MemberForm 277 (codes "ok") ∷ ObjectForm [] ∷
      LiteralForm (Null) ∷ CallForm 278 (279 ∷ 280 ∷ []) ∷ CallForm 276 (281 ∷ []) ∷
      ArrowForm (record { params = []; body = (282 ∷ []) }) false ∷ CallForm 273 (274 ∷ 283 ∷ []) ∷
      ExprStmtForm 284 ∷ NameForm (codes "t") ∷ TextForm (codes "22a") ∷ NameForm (codes "desk") ∷
      MemberForm 288 (codes "k") ∷ NameForm (codes "desk") ∷ MemberForm 290 (codes "ok") ∷ NumberForm (pos 1) ∷
      ValueForm (Written (codes "a")) 292 ∷ ObjectForm (293 ∷ []) ∷ ArrayForm [] ∷ NameForm (codes "desk") ∷
      MemberForm 296 (codes "fix") ∷ CallForm 291 (294 ∷ 295 ∷ 297 ∷ []) ∷ CallForm 289 (298 ∷ []) ∷
      ArrowForm (record { params = []; body = (299 ∷ []) }) false ∷ CallForm 286 (287 ∷ 300 ∷ []) ∷
      ExprStmtForm 301 ∷ NameForm (codes "t") ∷ TextForm (codes "22b") ∷ NameForm (codes "desk") ∷
      MemberForm 305 (codes "k") ∷ NameForm (codes "desk") ∷ MemberForm 307 (codes "ok") ∷ NumberForm (pos 1) ∷
      ValueForm (Written (codes "a")) 309 ∷ ObjectForm (310 ∷ []) ∷ TextForm (codes "z") ∷ TextForm (codes "a") ∷
      ArrayForm (312 ∷ 313 ∷ []) ∷ NameForm (codes "desk") ∷ MemberForm 315 (codes "fix") ∷
      CallForm 308 (311 ∷ 314 ∷ 316 ∷ []) ∷ CallForm 306 (317 ∷ []) ∷
      ArrowForm (record { params = []; body = (318 ∷ []) }) false ∷ CallForm 303 (304 ∷ 319 ∷ []) ∷
      ExprStmtForm 320 ∷ NameForm (codes "t") ∷ TextForm (codes "22c") ∷ NameForm (codes "desk") ∷
      MemberForm 324 (codes "k") ∷ NameForm (codes "desk") ∷ MemberForm 326 (codes "ok") ∷ NumberForm (pos 1) ∷
      ValueForm (Written (codes "a")) 328 ∷ ObjectForm (329 ∷ []) ∷ ArrayForm [] ∷
      CallForm 327 (330 ∷ 331 ∷ []) ∷ CallForm 325 (332 ∷ []) ∷
      ArrowForm (record { params = []; body = (333 ∷ []) }) false ∷ CallForm 322 (323 ∷ 334 ∷ []) ∷
      ExprStmtForm 335 ∷ NameForm (codes "t") ∷ TextForm (codes "23a") ∷ NameForm (codes "desk") ∷
      MemberForm 339 (codes "k") ∷ NameForm (codes "desk") ∷ MemberForm 341 (codes "ok") ∷ NumberForm (pos 1) ∷
      ValueForm (Written (codes "a")) 343 ∷ ObjectForm (344 ∷ []) ∷ TextForm (codes "a") ∷ TextForm (codes "b") ∷
      ArrayForm (346 ∷ 347 ∷ []) ∷ NameForm (codes "desk") ∷ MemberForm 349 (codes "close") ∷
      CallForm 342 (345 ∷ 348 ∷ 350 ∷ []) ∷ CallForm 340 (351 ∷ []) ∷
      ArrowForm (record { params = []; body = (352 ∷ []) }) false ∷ CallForm 337 (338 ∷ 353 ∷ []) ∷
      ExprStmtForm 354 ∷ NameForm (codes "t") ∷ TextForm (codes "23b") ∷ NameForm (codes "desk") ∷
      MemberForm 358 (codes "k") ∷ NameForm (codes "desk") ∷ MemberForm 360 (codes "ok") ∷ NumberForm (pos 1) ∷
      ValueForm (Written (codes "a")) 362 ∷ ObjectForm (363 ∷ []) ∷ ArrayForm [] ∷ NameForm (codes "desk") ∷
      MemberForm 366 (codes "close") ∷ CallForm 361 (364 ∷ 365 ∷ 367 ∷ []) ∷ CallForm 359 (368 ∷ []) ∷
      ArrowForm (record { params = []; body = (369 ∷ []) }) false ∷ CallForm 356 (357 ∷ 370 ∷ []) ∷
      ExprStmtForm 371 ∷ NameForm (codes "t") ∷ TextForm (codes "23c") ∷ NameForm (codes "desk") ∷
      MemberForm 375 (codes "k") ∷ NameForm (codes "desk") ∷ MemberForm 377 (codes "ok") ∷ NumberForm (pos 1) ∷
      ValueForm (Written (codes "a")) 379 ∷ NumberForm (pos 2) ∷ ValueForm (Written (codes "b")) 381 ∷
      ObjectForm (380 ∷ 382 ∷ []) ∷ TextForm (codes "b") ∷ TextForm (codes "a") ∷ ArrayForm (384 ∷ 385 ∷ []) ∷
      NameForm (codes "desk") ∷ MemberForm 387 (codes "close") ∷ CallForm 378 (383 ∷ 386 ∷ 388 ∷ []) ∷
      CallForm 376 (389 ∷ []) ∷ ArrowForm (record { params = []; body = (390 ∷ []) }) false ∷
      CallForm 373 (374 ∷ 391 ∷ []) ∷ ExprStmtForm 392 ∷ NameForm (codes "t") ∷ TextForm (codes "23d") ∷
      NameForm (codes "desk") ∷ MemberForm 396 (codes "k") ∷ NameForm (codes "desk") ∷
      MemberForm 398 (codes "ok") ∷ ArrayForm [] ∷ TextForm (codes "length") ∷ ArrayForm (401 ∷ []) ∷
      NameForm (codes "desk") ∷ MemberForm 403 (codes "close") ∷ CallForm 399 (400 ∷ 402 ∷ 404 ∷ []) ∷
      CallForm 397 (405 ∷ []) ∷ ArrowForm (record { params = []; body = (406 ∷ []) }) false ∷
      CallForm 394 (395 ∷ 407 ∷ []) ∷ ExprStmtForm 408 ∷ NameForm (codes "t") ∷ TextForm (codes "23e") ∷
      NameForm (codes "desk") ∷ MemberForm 412 (codes "k") ∷ NameForm (codes "desk") ∷
      MemberForm 414 (codes "ok") ∷ ObjectForm [] ∷ TextForm (codes "q") ∷ ArrayForm (417 ∷ []) ∷
      NameForm (codes "desk") ∷ MemberForm 419 (codes "close") ∷ CallForm 415 (416 ∷ 418 ∷ 420 ∷ []) ∷
      CallForm 413 (421 ∷ []) ∷ ArrowForm (record { params = []; body = (422 ∷ []) }) false ∷
      CallForm 410 (411 ∷ 423 ∷ []) ∷ ExprStmtForm 424 ∷ NameForm (codes "t") ∷ TextForm (codes "24a") ∷
      NameForm (codes "desk") ∷ MemberForm 428 (codes "cn") ∷ NumberForm (pos 1) ∷ CallForm 429 (430 ∷ []) ∷
      GroupForm 431 ∷ NewForm 432 [] ∷ ArrowForm (record { params = []; body = (433 ∷ []) }) false ∷
      CallForm 426 (427 ∷ 434 ∷ []) ∷ ExprStmtForm 435 ∷ NameForm (codes "t") ∷ TextForm (codes "24b") ∷
      NameForm (codes "desk") ∷ MemberForm 439 (codes "cn") ∷ LiteralForm (Null) ∷ CallForm 440 (441 ∷ []) ∷
      GroupForm 442 ∷ NewForm 443 [] ∷ ArrowForm (record { params = []; body = (444 ∷ []) }) false ∷
      CallForm 437 (438 ∷ 445 ∷ []) ∷ ExprStmtForm 446 ∷ NameForm (codes "t") ∷ TextForm (codes "24c") ∷
      NameForm (codes "desk") ∷ MemberForm 450 (codes "cn") ∷ ObjectForm [] ∷ CallForm 451 (452 ∷ []) ∷
      GroupForm 453 ∷ NewForm 454 [] ∷ ArrowForm (record { params = []; body = (455 ∷ []) }) false ∷
      CallForm 448 (449 ∷ 456 ∷ []) ∷ ExprStmtForm 457 ∷ NameForm (codes "t") ∷ TextForm (codes "24d") ∷
      NameForm (codes "desk") ∷ MemberForm 461 (codes "cn") ∷ NameForm (codes "print") ∷
      CallForm 462 (463 ∷ []) ∷ GroupForm 464 ∷ NewForm 465 [] ∷
      ArrowForm (record { params = []; body = (466 ∷ []) }) false ∷ CallForm 459 (460 ∷ 467 ∷ []) ∷
      ExprStmtForm 468 ∷ NameForm (codes "t") ∷ TextForm (codes "24e") ∷ NameForm (codes "desk") ∷
      MemberForm 472 (codes "cn") ∷ NumberForm (pos 1) ∷ CallForm 473 (474 ∷ []) ∷ CallForm 475 [] ∷
      ArrowForm (record { params = []; body = (476 ∷ []) }) false ∷ CallForm 470 (471 ∷ 477 ∷ []) ∷
      ExprStmtForm 478 ∷ NameForm (codes "t") ∷ TextForm (codes "24f") ∷ NameForm (codes "Reflect") ∷
      MemberForm 482 (codes "construct") ∷ NameForm (codes "desk") ∷ MemberForm 484 (codes "cn") ∷
      ObjectForm [] ∷ CallForm 485 (486 ∷ []) ∷ ArrayForm [] ∷ NameForm (codes "Array") ∷
      CallForm 483 (487 ∷ 488 ∷ 489 ∷ []) ∷ ArrowForm (record { params = []; body = (490 ∷ []) }) false ∷
      CallForm 480 (481 ∷ 491 ∷ []) ∷ ExprStmtForm 492 ∷
      ScriptForm (23 ∷ 34 ∷ 49 ∷ 61 ∷ 74 ∷ 86 ∷ 140 ∷ 154 ∷ 169 ∷ 182 ∷ 198 ∷ 211 ∷ 226 ∷ 240 ∷ 257 ∷ 272 ∷ 285 ∷
      302 ∷ 321 ∷ 336 ∷ 355 ∷ 372 ∷ 393 ∷ 409 ∷ 425 ∷ 436 ∷ 447 ∷ 458 ∷ 469 ∷ 479 ∷ 493 ∷ []) ∷
      [];
  names =
      bound 17 (codes "T") false ∷ bound 21 (codes "base") false ∷ bound 21 (codes "said") false ∷
      bound 21 (codes "inside") false ∷ bound 32 (codes "T") false ∷ bound 47 (codes "T") false ∷
      bound 59 (codes "p") false ∷ bound 72 (codes "said") false ∷ bound 118 (codes "e") false ∷
      bound 140 (codes "n") false ∷ bound 140 (codes "f") false ∷ bound 140 (codes "r") false ∷
      bound 494 (codes "t") false ∷
      [];
}

abbrev right : Program
right = record {
  forms =
      ScriptForm [] ∷
      [];
  names = [];
}

abbrev policy : List Rule
policy = []

abbrev schedule : List Letter
schedule = []

abbrev told : List (List ℕ)
told =
    (codes "L 21a TE") ∷
    (codes "L 21b TE") ∷
    (codes "L 21c TE") ∷
    (codes "L 21d ") ∷
    (codes "L 21e ") ∷
    (codes "L 21f TE") ∷
    (codes "L 21g a,b") ∷
    (codes "L 21h b,1,0,a") ∷
    (codes "L 21i TE") ∷
    (codes "L 21j TE") ∷
    (codes "L 22a TE") ∷
    (codes "L 22b z,a") ∷
    (codes "L 22c ") ∷
    (codes "L 23a TE") ∷
    (codes "L 23b TE") ∷
    (codes "L 23c b,a") ∷
    (codes "L 23d length") ∷
    (codes "L 23e TE") ∷
    (codes "L 24a TE") ∷
    (codes "L 24b TE") ∷
    (codes "L 24c obj") ∷
    (codes "L 24d fun") ∷
    (codes "L 24e undefined") ∷
    (codes "L 24f obj") ∷
    (codes "= done") ∷
    []

abbrev stage : Stage
stage = Story (left ∷ right ∷ []) policy schedule 1000000

pub Row : Type 0
Row = Shows false false stage told

pub row : Row
unfolding Row given Validate encode_utf8
row = (refl, refl)
