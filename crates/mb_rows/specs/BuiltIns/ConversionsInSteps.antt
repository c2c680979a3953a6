use Rattle.std.specs.Prelude.{◌≡◌, refl, ℕ, List, [], ◌∷◌, true, false, Some, None, codes, pos}
use Rattle.std.specs.Char.{encode_utf8}
use Rattle.mb_tree.specs.declared.kind.Sign.TheVariants.{Minus, TripleEqual, NotDoubleEqual, In, Instanceof, Typeof}
use Rattle.mb_desc.specs.Validate.{Validate}
use Rattle.mb_world.specs.Value.{Undefined, Null}
use Rattle.mb_world.specs.Form.{Written, ScriptForm, LetForm, DeclForm, FunctionDeclForm, BlockForm, ExprStmtForm, ReturnForm, TryForm, ParamForm, NameForm, NumberForm, TextForm, LiteralForm, ArrayForm, ObjectForm, ValueForm, FunctionForm, ArrowForm, MemberForm, IndexForm, AssignForm, CallForm, NewForm, CondForm, AndForm, UnaryForm, BinaryForm}
use Rattle.mb_world.specs.Graph.{Program, Rule}
use Rattle.mb_model.specs.Engine.{given}
use Rattle.mb_model.specs.Story.{Stage, Letter, Story}
use Rattle.mb_rows.specs.Shows.{bound, Shows}

-- run
-- left
--     function t(n, f) { let r; try { r = f(); } catch (e) { r = e instanceof TypeError ? "TE" : e instanceof RangeError ? "RE" : e instanceof ReferenceError ? "FE" : e; } print(n, typeof r === "object" && r !== null ? "obj" : typeof r === "function" ? "fun" : r); }
--
--     function like(n, o) { return new Proxy(o, { has: (T, k) => { print(n, "has", k); return k in T; }, get: (T, k, r) => { print(n, "get", k); return T[k]; } }); }
--     t("all", () => Reflect.defineProperty({}, "a", like("d", { enumerable: 0, configurable: 1, value: 2, writable: 3 })));
--     t("early", () => Reflect.defineProperty({}, "a", like("e", { get: 1, set: 2 })));
--     t("both", () => Object.defineProperty({}, "a", like("b", { value: 1, get: undefined })));
--     t("inherited", () => { let o = {}; Reflect.defineProperty(o, "a", Object.create({ value: 5 })); return o.a; });
--     t("key first", () => Reflect.defineProperty({}, {}, like("k", {}))); t("target first", () => Object.defineProperty(1, {}, like("k", {})));
--     t("apply", () => Reflect.apply({}, 1, like("k", {}))); t("construct", () => Reflect.construct(Array, like("k", {}), print)); t("call list", () => print.apply(1, like("l", { length: 1, 0: 7 })));
--     t("map", () => Array.prototype.map.call(like("m", { length: 1 }), {})); t("join", () => Array.prototype.join.call(like("j", { length: 1 }), {})); t("slice", () => Array.prototype.slice.call(like("s", { length: 1 }), 0, {})); t("indexOf", () => Array.prototype.indexOf.call(like("i", { length: 1 }), 0, null)); t("setPrototypeOf", () => Reflect.setPrototypeOf(like("p", {}), 1));
--     t("hasOwn", () => Object.prototype.hasOwnProperty.call(like("h", {}), {})); t("error", () => Reflect.construct(Error, [{}], new Proxy(function () { }, { get: (T, k) => { print("nt", k); return T[k]; } }))); t("array range", () => Reflect.construct(Array, [-1], new Proxy(function () { }, { get: (T, k) => { print("nt", k); return T[k]; } }))); t("object given", () => Reflect.construct(Object, [{}], new Proxy(function () { }, { get: (T, k) => { print("nt", k); return T[k]; } }))); t("object bad", () => Reflect.construct(Object, [1], new Proxy(function () { }, { get: (T, k) => { print("nt", k); return T[k]; } }))); t("object none", () => Reflect.construct(Object, [], new Proxy(function () { }, { get: (T, k) => { print("nt", k); return T[k]; } }))); t("proxy nt", () => Reflect.construct(Proxy, [1], new Proxy(function () { }, { get: (T, k) => { print("nt", k); return T[k]; } })));
-- right
--     (empty)

abbrev left : Program
left = record {
  forms =
      ParamForm (codes "n") ∷ ParamForm (codes "f") ∷ DeclForm (codes "r") None ∷ LetForm (2 ∷ []) ∷
      NameForm (codes "r") ∷ NameForm (codes "f") ∷ CallForm 5 [] ∷ AssignForm 4 6 ∷ ExprStmtForm 7 ∷
      BlockForm (8 ∷ []) ∷ ParamForm (codes "e") ∷ NameForm (codes "r") ∷ NameForm (codes "e") ∷
      NameForm (codes "TypeError") ∷ BinaryForm Instanceof 12 13 ∷ TextForm (codes "TE") ∷ NameForm (codes "e") ∷
      NameForm (codes "RangeError") ∷ BinaryForm Instanceof 16 17 ∷ TextForm (codes "RE") ∷
      NameForm (codes "e") ∷ NameForm (codes "ReferenceError") ∷ BinaryForm Instanceof 20 21 ∷
      TextForm (codes "FE") ∷ NameForm (codes "e") ∷ CondForm 22 23 24 ∷ CondForm 18 19 25 ∷ CondForm 14 15 26 ∷
      AssignForm 11 27 ∷ ExprStmtForm 28 ∷ BlockForm (29 ∷ []) ∷ TryForm 9 (Some (codes "e")) (Some 30) None ∷
      NameForm (codes "print") ∷ NameForm (codes "n") ∷ NameForm (codes "r") ∷ UnaryForm Typeof 34 ∷
      TextForm (codes "object") ∷ BinaryForm TripleEqual 35 36 ∷ NameForm (codes "r") ∷ LiteralForm (Null) ∷
      BinaryForm NotDoubleEqual 38 39 ∷ AndForm 37 40 ∷ TextForm (codes "obj") ∷ NameForm (codes "r") ∷
      UnaryForm Typeof 43 ∷ TextForm (codes "function") ∷ BinaryForm TripleEqual 44 45 ∷ TextForm (codes "fun") ∷
      NameForm (codes "r") ∷ CondForm 46 47 48 ∷ CondForm 41 42 49 ∷ CallForm 32 (33 ∷ 50 ∷ []) ∷
      ExprStmtForm 51 ∷
      FunctionDeclForm (codes "t") (record { params = (codes "n") ∷ (codes "f") ∷ []; body = (3 ∷ 31 ∷ 52 ∷ []) }) ∷
      ParamForm (codes "n") ∷ ParamForm (codes "o") ∷ NameForm (codes "Proxy") ∷ NameForm (codes "o") ∷
      ParamForm (codes "T") ∷ ParamForm (codes "k") ∷ NameForm (codes "print") ∷ NameForm (codes "n") ∷
      TextForm (codes "has") ∷ NameForm (codes "k") ∷ CallForm 60 (61 ∷ 62 ∷ 63 ∷ []) ∷ ExprStmtForm 64 ∷
      NameForm (codes "k") ∷ NameForm (codes "T") ∷ BinaryForm In 66 67 ∷ ReturnForm (Some 68) ∷
      ArrowForm (record { params = (codes "T") ∷ (codes "k") ∷ []; body = (65 ∷ 69 ∷ []) }) true ∷
      ValueForm (Written (codes "has")) 70 ∷ ParamForm (codes "T") ∷ ParamForm (codes "k") ∷
      ParamForm (codes "r") ∷ NameForm (codes "print") ∷ NameForm (codes "n") ∷ TextForm (codes "get") ∷
      NameForm (codes "k") ∷ CallForm 75 (76 ∷ 77 ∷ 78 ∷ []) ∷ ExprStmtForm 79 ∷ NameForm (codes "T") ∷
      NameForm (codes "k") ∷ IndexForm 81 82 ∷ ReturnForm (Some 83) ∷
      ArrowForm (record { params = (codes "T") ∷ (codes "k") ∷ (codes "r") ∷ []; body = (80 ∷ 84 ∷ []) }) true ∷
      ValueForm (Written (codes "get")) 85 ∷ ObjectForm (71 ∷ 86 ∷ []) ∷ NewForm 56 (57 ∷ 87 ∷ []) ∷
      ReturnForm (Some 88) ∷
      FunctionDeclForm (codes "like") (record { params = (codes "n") ∷ (codes "o") ∷ []; body = (89 ∷ []) }) ∷
      NameForm (codes "t") ∷ TextForm (codes "all") ∷ NameForm (codes "Reflect") ∷
      MemberForm 93 (codes "defineProperty") ∷ ObjectForm [] ∷ TextForm (codes "a") ∷ NameForm (codes "like") ∷
      TextForm (codes "d") ∷ NumberForm (pos 0) ∷ ValueForm (Written (codes "enumerable")) 99 ∷
      NumberForm (pos 1) ∷ ValueForm (Written (codes "configurable")) 101 ∷ NumberForm (pos 2) ∷
      ValueForm (Written (codes "value")) 103 ∷ NumberForm (pos 3) ∷ ValueForm (Written (codes "writable")) 105 ∷
      ObjectForm (100 ∷ 102 ∷ 104 ∷ 106 ∷ []) ∷ CallForm 97 (98 ∷ 107 ∷ []) ∷ CallForm 94 (95 ∷ 96 ∷ 108 ∷ []) ∷
      ArrowForm (record { params = []; body = (109 ∷ []) }) false ∷ CallForm 91 (92 ∷ 110 ∷ []) ∷
      ExprStmtForm 111 ∷ NameForm (codes "t") ∷ TextForm (codes "early") ∷ NameForm (codes "Reflect") ∷
      MemberForm 115 (codes "defineProperty") ∷ ObjectForm [] ∷ TextForm (codes "a") ∷ NameForm (codes "like") ∷
      TextForm (codes "e") ∷ NumberForm (pos 1) ∷ ValueForm (Written (codes "get")) 121 ∷ NumberForm (pos 2) ∷
      ValueForm (Written (codes "set")) 123 ∷ ObjectForm (122 ∷ 124 ∷ []) ∷ CallForm 119 (120 ∷ 125 ∷ []) ∷
      CallForm 116 (117 ∷ 118 ∷ 126 ∷ []) ∷ ArrowForm (record { params = []; body = (127 ∷ []) }) false ∷
      CallForm 113 (114 ∷ 128 ∷ []) ∷ ExprStmtForm 129 ∷ NameForm (codes "t") ∷ TextForm (codes "both") ∷
      NameForm (codes "Object") ∷ MemberForm 133 (codes "defineProperty") ∷ ObjectForm [] ∷
      TextForm (codes "a") ∷ NameForm (codes "like") ∷ TextForm (codes "b") ∷ NumberForm (pos 1) ∷
      ValueForm (Written (codes "value")) 139 ∷ LiteralForm (Undefined) ∷ ValueForm (Written (codes "get")) 141 ∷
      ObjectForm (140 ∷ 142 ∷ []) ∷ CallForm 137 (138 ∷ 143 ∷ []) ∷ CallForm 134 (135 ∷ 136 ∷ 144 ∷ []) ∷
      ArrowForm (record { params = []; body = (145 ∷ []) }) false ∷ CallForm 131 (132 ∷ 146 ∷ []) ∷
      ExprStmtForm 147 ∷ NameForm (codes "t") ∷ TextForm (codes "inherited") ∷ ObjectForm [] ∷
      DeclForm (codes "o") (Some 151) ∷ LetForm (152 ∷ []) ∷ NameForm (codes "Reflect") ∷
      MemberForm 154 (codes "defineProperty") ∷ NameForm (codes "o") ∷ TextForm (codes "a") ∷
      NameForm (codes "Object") ∷ MemberForm 158 (codes "create") ∷ NumberForm (pos 5) ∷
      ValueForm (Written (codes "value")) 160 ∷ ObjectForm (161 ∷ []) ∷ CallForm 159 (162 ∷ []) ∷
      CallForm 155 (156 ∷ 157 ∷ 163 ∷ []) ∷ ExprStmtForm 164 ∷ NameForm (codes "o") ∷
      MemberForm 166 (codes "a") ∷ ReturnForm (Some 167) ∷
      ArrowForm (record { params = []; body = (153 ∷ 165 ∷ 168 ∷ []) }) true ∷ CallForm 149 (150 ∷ 169 ∷ []) ∷
      ExprStmtForm 170 ∷ NameForm (codes "t") ∷ TextForm (codes "key first") ∷ NameForm (codes "Reflect") ∷
      MemberForm 174 (codes "defineProperty") ∷ ObjectForm [] ∷ ObjectForm [] ∷ NameForm (codes "like") ∷
      TextForm (codes "k") ∷ ObjectForm [] ∷ CallForm 178 (179 ∷ 180 ∷ []) ∷
      CallForm 175 (176 ∷ 177 ∷ 181 ∷ []) ∷ ArrowForm (record { params = []; body = (182 ∷ []) }) false ∷
      CallForm 172 (173 ∷ 183 ∷ []) ∷ ExprStmtForm 184 ∷ NameForm (codes "t") ∷ TextForm (codes "target first") ∷
      NameForm (codes "Object") ∷ MemberForm 188 (codes "defineProperty") ∷ NumberForm (pos 1) ∷ ObjectForm [] ∷
      NameForm (codes "like") ∷ TextForm (codes "k") ∷ ObjectForm [] ∷ CallForm 192 (193 ∷ 194 ∷ []) ∷
      CallForm 189 (190 ∷ 191 ∷ 195 ∷ []) ∷ ArrowForm (record { params = []; body = (196 ∷ []) }) false ∷
      CallForm 186 (187 ∷ 197 ∷ []) ∷ ExprStmtForm 198 ∷ NameForm (codes "t") ∷ TextForm (codes "apply") ∷
      NameForm (codes "Reflect") ∷ MemberForm 202 (codes "apply") ∷ ObjectForm [] ∷ NumberForm (pos 1) ∷
      NameForm (codes "like") ∷ TextForm (codes "k") ∷ ObjectForm [] ∷ CallForm 206 (207 ∷ 208 ∷ []) ∷
      CallForm 203 (204 ∷ 205 ∷ 209 ∷ []) ∷ ArrowForm (record { params = []; body = (210 ∷ []) }) false ∷
      CallForm 200 (201 ∷ 211 ∷ []) ∷ ExprStmtForm 212 ∷ NameForm (codes "t") ∷ TextForm (codes "construct") ∷
      NameForm (codes "Reflect") ∷ MemberForm 216 (codes "construct") ∷ NameForm (codes "Array") ∷
      NameForm (codes "like") ∷ TextForm (codes "k") ∷ ObjectForm [] ∷ CallForm 219 (220 ∷ 221 ∷ []) ∷
      NameForm (codes "print") ∷ CallForm 217 (218 ∷ 222 ∷ 223 ∷ []) ∷
      ArrowForm (record { params = []; body = (224 ∷ []) }) false ∷ CallForm 214 (215 ∷ 225 ∷ []) ∷
      ExprStmtForm 226 ∷ NameForm (codes "t") ∷ TextForm (codes "call list") ∷ NameForm (codes "print") ∷
      MemberForm 230 (codes "apply") ∷ NumberForm (pos 1) ∷ NameForm (codes "like") ∷ TextForm (codes "l") ∷
      NumberForm (pos 1) ∷ ValueForm (Written (codes "length")) 235 ∷ NumberForm (pos 7) ∷
      ValueForm (Written (codes "0")) 237 ∷ ObjectForm (236 ∷ 238 ∷ []) ∷ CallForm 233 (234 ∷ 239 ∷ []) ∷
      CallForm 231 (232 ∷ 240 ∷ []) ∷ ArrowForm (record { params = []; body = (241 ∷ []) }) false ∷
      CallForm 228 (229 ∷ 242 ∷ []) ∷ ExprStmtForm 243 ∷ NameForm (codes "t") ∷ TextForm (codes "map") ∷
      NameForm (codes "Array") ∷ MemberForm 247 (codes "prototype") ∷ MemberForm 248 (codes "map") ∷
      MemberForm 249 (codes "call") ∷ NameForm (codes "like") ∷ TextForm (codes "m") ∷ NumberForm (pos 1) ∷
      ValueForm (Written (codes "length")) 253 ∷ ObjectForm (254 ∷ []) ∷ CallForm 251 (252 ∷ 255 ∷ []) ∷
      ObjectForm [] ∷ CallForm 250 (256 ∷ 257 ∷ []) ∷
      ArrowForm (record { params = []; body = (258 ∷ []) }) false ∷ CallForm 245 (246 ∷ 259 ∷ []) ∷
      ExprStmtForm 260 ∷ NameForm (codes "t") ∷ TextForm (codes "join") ∷ NameForm (codes "Array") ∷
      MemberForm 264 (codes "prototype") ∷ MemberForm 265 (codes "join") ∷ MemberForm 266 (codes "call") ∷
      NameForm (codes "like") ∷ TextForm (codes "j") ∷ NumberForm (pos 1) ∷
      ValueForm (Written (codes "length")) 270 ∷ ObjectForm (271 ∷ []) ∷ CallForm 268 (269 ∷ 272 ∷ []) ∷
      ObjectForm [] ∷ CallForm 267 (273 ∷ 274 ∷ []) ∷
      ArrowForm (record { params = []; body = (275 ∷ []) }) false ∷ CallForm 262 (263 ∷ 276 ∷ []) ∷
      ExprStmtForm 277 ∷ NameForm (codes "t") ∷ TextForm (codes "slice") ∷ NameForm (codes "Array") ∷
      MemberForm 281 (codes "prototype") ∷ MemberForm 282 (codes "slice") ∷ MemberForm 283 (codes "call") ∷
      NameForm (codes "like") ∷ TextForm (codes "s") ∷ NumberForm (pos 1) ∷
      ValueForm (Written (codes "length")) 287 ∷ ObjectForm (288 ∷ []) ∷ CallForm 285 (286 ∷ 289 ∷ []) ∷
      NumberForm (pos 0) ∷ ObjectForm [] ∷ CallForm 284 (290 ∷ 291 ∷ 292 ∷ []) ∷
      ArrowForm (record { params = []; body = (293 ∷ []) }) false ∷ CallForm 279 (280 ∷ 294 ∷ []) ∷
      ExprStmtForm 295 ∷ NameForm (codes "t") ∷ TextForm (codes "indexOf") ∷ NameForm (codes "Array") ∷
      MemberForm 299 (codes "prototype") ∷ MemberForm 300 (codes "indexOf") ∷ MemberForm 301 (codes "call") ∷
      NameForm (codes "like") ∷ TextForm (codes "i") ∷ NumberForm (pos 1) ∷
      ValueForm (Written (codes "length")) 305 ∷ ObjectForm (306 ∷ []) ∷ CallForm 303 (304 ∷ 307 ∷ []) ∷
      NumberForm (pos 0) ∷ LiteralForm (Null) ∷ CallForm 302 (308 ∷ 309 ∷ 310 ∷ []) ∷
      ArrowForm (record { params = []; body = (311 ∷ []) }) false ∷ CallForm 297 (298 ∷ 312 ∷ []) ∷
      ExprStmtForm 313 ∷ NameForm (codes "t") ∷ TextForm (codes "setPrototypeOf") ∷ NameForm (codes "Reflect") ∷
      MemberForm 317 (codes "setPrototypeOf") ∷ NameForm (codes "like") ∷ TextForm (codes "p") ∷ ObjectForm [] ∷
      CallForm 319 (320 ∷ 321 ∷ []) ∷ NumberForm (pos 1) ∷ CallForm 318 (322 ∷ 323 ∷ []) ∷
      ArrowForm (record { params = []; body = (324 ∷ []) }) false ∷ CallForm 315 (316 ∷ 325 ∷ []) ∷
      ExprStmtForm 326 ∷ NameForm (codes "t") ∷ TextForm (codes "hasOwn") ∷ NameForm (codes "Object") ∷
      MemberForm 330 (codes "prototype") ∷ MemberForm 331 (codes "hasOwnProperty") ∷
      MemberForm 332 (codes "call") ∷ NameForm (codes "like") ∷ TextForm (codes "h") ∷ ObjectForm [] ∷
      CallForm 334 (335 ∷ 336 ∷ []) ∷ ObjectForm [] ∷ CallForm 333 (337 ∷ 338 ∷ []) ∷
      ArrowForm (record { params = []; body = (339 ∷ []) }) false ∷ CallForm 328 (329 ∷ 340 ∷ []) ∷
      ExprStmtForm 341 ∷ NameForm (codes "t") ∷ TextForm (codes "error") ∷ NameForm (codes "Reflect") ∷
      MemberForm 345 (codes "construct") ∷ NameForm (codes "Error") ∷ ObjectForm [] ∷ ArrayForm (348 ∷ []) ∷
      NameForm (codes "Proxy") ∷ FunctionForm None (record { params = []; body = [] }) ∷ ParamForm (codes "T") ∷
      ParamForm (codes "k") ∷ NameForm (codes "print") ∷ TextForm (codes "nt") ∷ NameForm (codes "k") ∷
      CallForm 354 (355 ∷ 356 ∷ []) ∷ ExprStmtForm 357 ∷ NameForm (codes "T") ∷ NameForm (codes "k") ∷
      IndexForm 359 360 ∷ ReturnForm (Some 361) ∷
      ArrowForm (record { params = (codes "T") ∷ (codes "k") ∷ []; body = (358 ∷ 362 ∷ []) }) true ∷
      ValueForm (Written (codes "get")) 363 ∷ ObjectForm (364 ∷ []) ∷ NewForm 350 (351 ∷ 365 ∷ []) ∷
      CallForm 346 (347 ∷ 349 ∷ 366 ∷ []) ∷ ArrowForm (record { params = []; body = (367 ∷ []) }) false ∷
      CallForm 343 (344 ∷ 368 ∷ []) ∷ ExprStmtForm 369 ∷ NameForm (codes "t") ∷ TextForm (codes "array range") ∷
      NameForm (codes "Reflect") ∷ MemberForm 373 (codes "construct") ∷ NameForm (codes "Array") ∷
      NumberForm (pos 1) ∷ UnaryForm Minus 376 ∷ ArrayForm (377 ∷ []) ∷ NameForm (codes "Proxy") ∷
      FunctionForm None (record { params = []; body = [] }) ∷ ParamForm (codes "T") ∷ ParamForm (codes "k") ∷
      NameForm (codes "print") ∷ TextForm (codes "nt") ∷ NameForm (codes "k") ∷ CallForm 383 (384 ∷ 385 ∷ []) ∷
      ExprStmtForm 386 ∷ NameForm (codes "T") ∷ NameForm (codes "k") ∷ IndexForm 388 389 ∷
      ReturnForm (Some 390) ∷
      ArrowForm (record { params = (codes "T") ∷ (codes "k") ∷ []; body = (387 ∷ 391 ∷ []) }) true ∷
      ValueForm (Written (codes "get")) 392 ∷ ObjectForm (393 ∷ []) ∷ NewForm 379 (380 ∷ 394 ∷ []) ∷
      CallForm 374 (375 ∷ 378 ∷ 395 ∷ []) ∷ ArrowForm (record { params = []; body = (396 ∷ []) }) false ∷
      CallForm 371 (372 ∷ 397 ∷ []) ∷ ExprStmtForm 398 ∷ NameForm (codes "t") ∷ TextForm (codes "object given") ∷
      NameForm (codes "Reflect") ∷ MemberForm 402 (codes "construct") ∷ NameForm (codes "Object") ∷
      ObjectForm [] ∷ ArrayForm (405 ∷ []) ∷ NameForm (codes "Proxy") ∷
      FunctionForm None (record { params = []; body = [] }) ∷ ParamForm (codes "T") ∷ ParamForm (codes "k") ∷
      NameForm (codes "print") ∷ TextForm (codes "nt") ∷ NameForm (codes "k") ∷ CallForm 411 (412 ∷ 413 ∷ []) ∷
      ExprStmtForm 414 ∷ NameForm (codes "T") ∷ NameForm (codes "k") ∷ IndexForm 416 417 ∷
      ReturnForm (Some 418) ∷
      ArrowForm (record { params = (codes "T") ∷ (codes "k") ∷ []; body = (415 ∷ 419 ∷ []) }) true ∷
      ValueForm (Written (codes "get")) 420 ∷ ObjectForm (421 ∷ []) ∷ NewForm 407 (408 ∷ 422 ∷ []) ∷
      CallForm 403 (404 ∷ 406 ∷ 423 ∷ []) ∷ ArrowForm (record { params = []; body = (424 ∷ []) }) false ∷
      CallForm 400 (401 ∷ 425 ∷ []) ∷ ExprStmtForm 426 ∷ NameForm (codes "t") ∷ TextForm (codes "object bad") ∷
      NameForm (codes "Reflect") ∷ MemberForm 430 (codes "construct") ∷ NameForm (codes "Object") ∷
      NumberForm (pos 1) ∷ ArrayForm (433 ∷ []) ∷ NameForm (codes "Proxy") ∷
      FunctionForm None (record { params = []; body = [] }) ∷ ParamForm (codes "T") ∷ ParamForm (codes "k") ∷
      NameForm (codes "print") ∷ TextForm (codes "nt") ∷ NameForm (codes "k") ∷ CallForm 439 (440 ∷ 441 ∷ []) ∷
      ExprStmtForm 442 ∷ NameForm (codes "T") ∷ NameForm (codes "k") ∷ IndexForm 444 445 ∷
      ReturnForm (Some 446) ∷
      ArrowForm (record { params = (codes "T") ∷ (codes "k") ∷ []; body = (443 ∷ 447 ∷ []) }) true ∷
      ValueForm (Written (codes "get")) 448 ∷ ObjectForm (449 ∷ []) ∷ NewForm 435 (436 ∷ 450 ∷ []) ∷
      CallForm 431 (432 ∷ 434 ∷ 451 ∷ []) ∷ ArrowForm (record { params = []; body = (452 ∷ []) }) false ∷
      CallForm 428 (429 ∷ 453 ∷ []) ∷ ExprStmtForm 454 ∷ NameForm (codes "t") ∷ TextForm (codes "object none") ∷
      NameForm (codes "Reflect") ∷ MemberForm 458 (codes "construct") ∷ NameForm (codes "Object") ∷
      ArrayForm [] ∷ NameForm (codes "Proxy") ∷ FunctionForm None (record { params = []; body = [] }) ∷
      ParamForm (codes "T") ∷ ParamForm (codes "k") ∷ NameForm (codes "print") ∷ TextForm (codes "nt") ∷
      NameForm (codes "k") ∷ CallForm 466 (467 ∷ 468 ∷ []) ∷ ExprStmtForm 469 ∷ NameForm (codes "T") ∷
      NameForm (codes "k") ∷ IndexForm 471 472 ∷ ReturnForm (Some 473) ∷
      ArrowForm (record { params = (codes "T") ∷ (codes "k") ∷ []; body = (470 ∷ 474 ∷ []) }) true ∷
      ValueForm (Written (codes "get")) 475 ∷ ObjectForm (476 ∷ []) ∷ NewForm 462 (463 ∷ 477 ∷ []) ∷
      CallForm 459 (460 ∷ 461 ∷ 478 ∷ []) ∷ ArrowForm (record { params = []; body = (479 ∷ []) }) false ∷
      CallForm 456 (457 ∷ 480 ∷ []) ∷ ExprStmtForm 481 ∷ NameForm (codes "t") ∷ TextForm (codes "proxy nt") ∷
      NameForm (codes "Reflect") ∷ MemberForm 485 (codes "construct") ∷ NameForm (codes "Proxy") ∷
      NumberForm (pos 1) ∷ ArrayForm (488 ∷ []) ∷ NameForm (codes "Proxy") ∷
      FunctionForm None (record { params = []; body = [] }) ∷ ParamForm (codes "T") ∷ ParamForm (codes "k") ∷
      NameForm (codes "print") ∷ TextForm (codes "nt") ∷ NameForm (codes "k") ∷ CallForm 494 (495 ∷ 496 ∷ []) ∷
      ExprStmtForm 497 ∷ NameForm (codes "T") ∷ NameForm (codes "k") ∷ IndexForm 499 500 ∷
      ReturnForm (Some 501) ∷
      ArrowForm (record { params = (codes "T") ∷ (codes "k") ∷ []; body = (498 ∷ 502 ∷ []) }) true ∷
      ValueForm (Written (codes "get")) 503 ∷ ObjectForm (504 ∷ []) ∷ NewForm 490 (491 ∷ 505 ∷ []) ∷
      CallForm 486 (487 ∷ 489 ∷ 506 ∷ []) ∷ ArrowForm (record { params = []; body = (507 ∷ []) }) false ∷
      CallForm 483 (484 ∷ 508 ∷ []) ∷ ExprStmtForm 509 ∷
      ScriptForm (53 ∷ 90 ∷ 112 ∷ 130 ∷ 148 ∷ 171 ∷ 185 ∷ 199 ∷ 213 ∷ 227 ∷ 244 ∷ 261 ∷ 278 ∷ 296 ∷ 314 ∷ 327 ∷
      342 ∷ 370 ∷ 399 ∷ 427 ∷ 455 ∷ 482 ∷ 510 ∷ []) ∷
      [];
  names =
      bound 31 (codes "e") false ∷ bound 53 (codes "n") false ∷ bound 53 (codes "f") false ∷
      bound 53 (codes "r") false ∷ bound 70 (codes "T") false ∷ bound 70 (codes "k") false ∷
      bound 85 (codes "T") false ∷ bound 85 (codes "k") false ∷ bound 85 (codes "r") false ∷
      bound 90 (codes "n") false ∷ bound 90 (codes "o") false ∷ bound 169 (codes "o") false ∷
      bound 363 (codes "T") false ∷ bound 363 (codes "k") false ∷ bound 392 (codes "T") false ∷
      bound 392 (codes "k") false ∷ bound 420 (codes "T") false ∷ bound 420 (codes "k") false ∷
      bound 448 (codes "T") false ∷ bound 448 (codes "k") false ∷ bound 475 (codes "T") false ∷
      bound 475 (codes "k") false ∷ bound 503 (codes "T") false ∷ bound 503 (codes "k") false ∷
      bound 511 (codes "t") false ∷ bound 511 (codes "like") false ∷
      [];
}

abbrev right : Program
right = record {
  forms =
      ScriptForm [] ∷
      [];
  names = [];
}

abbrev policy : List Rule
policy = []

abbrev schedule : List Letter
schedule = []

abbrev told : List (List ℕ)
told =
    (codes "L d has enumerable") ∷
    (codes "L d get enumerable") ∷
    (codes "L d has configurable") ∷
    (codes "L d get configurable") ∷
    (codes "L d has value") ∷
    (codes "L d get value") ∷
    (codes "L d has writable") ∷
    (codes "L d get writable") ∷
    (codes "L d has get") ∷
    (codes "L d has set") ∷
    (codes "L all true") ∷
    (codes "L e has enumerable") ∷
    (codes "L e has configurable") ∷
    (codes "L e has value") ∷
    (codes "L e has writable") ∷
    (codes "L e has get") ∷
    (codes "L e get get") ∷
    (codes "L early TE") ∷
    (codes "L b has enumerable") ∷
    (codes "L b has configurable") ∷
    (codes "L b has value") ∷
    (codes "L b get value") ∷
    (codes "L b has writable") ∷
    (codes "L b has get") ∷
    (codes "L b get get") ∷
    (codes "L b has set") ∷
    (codes "L both TE") ∷
    (codes "L inherited 5") ∷
    (codes "L key first TE") ∷
    (codes "L target first TE") ∷
    (codes "L apply TE") ∷
    (codes "L construct TE") ∷
    (codes "L l get length") ∷
    (codes "L l get 0") ∷
    (codes "L 7") ∷
    (codes "L call list undefined") ∷
    (codes "L m get length") ∷
    (codes "L map TE") ∷
    (codes "L j get length") ∷
    (codes "L join TE") ∷
    (codes "L s get length") ∷
    (codes "L slice TE") ∷
    (codes "L i get length") ∷
    (codes "L indexOf TE") ∷
    (codes "L setPrototypeOf TE") ∷
    (codes "L hasOwn TE") ∷
    (codes "L nt prototype") ∷
    (codes "L error TE") ∷
    (codes "L nt prototype") ∷
    (codes "L array range RE") ∷
    (codes "L object given obj") ∷
    (codes "L object bad TE") ∷
    (codes "L nt prototype") ∷
    (codes "L object none obj") ∷
    (codes "L proxy nt TE") ∷
    (codes "= done") ∷
    []

abbrev stage : Stage
stage = Story (left ∷ right ∷ []) policy schedule 1000000

pub Row : Type 0
Row = Shows false false stage told × (stage.left ≡ 997712)

pub row : Row
unfolding Row given Validate encode_utf8
row = ((refl, refl), refl)
