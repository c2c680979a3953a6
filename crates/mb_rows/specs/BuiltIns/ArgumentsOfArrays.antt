use Rattle.std.specs.Prelude.{◌≡◌, refl, ℕ, List, [], ◌∷◌, true, false, Some, None, codes, pos}
use Rattle.std.specs.Char.{encode_utf8}
use Rattle.mb_tree.specs.declared.kind.Sign.TheVariants.{Plus, Minus, TripleEqual, NotDoubleEqual, Instanceof, Typeof}
use Rattle.mb_desc.specs.Validate.{Validate}
use Rattle.mb_world.specs.Value.{Undefined, Null, Truth}
use Rattle.mb_world.specs.Form.{Written, ScriptForm, LetForm, DeclForm, FunctionDeclForm, BlockForm, ExprStmtForm, ReturnForm, TryForm, ParamForm, ThisForm, NameForm, NumberForm, TextForm, LiteralForm, ArrayForm, ObjectForm, ValueForm, FunctionForm, ArrowForm, GroupForm, MemberForm, IndexForm, AssignForm, CallForm, NewForm, CondForm, AndForm, UnaryForm, BinaryForm}
use Rattle.mb_world.specs.Graph.{Program, Rule}
use Rattle.mb_model.specs.Engine.{given}
use Rattle.mb_model.specs.Story.{Stage, Letter, Story}
use Rattle.mb_rows.specs.Shows.{bound, Shows}

-- run
-- left
--     function t(n, f) { let r; try { r = f(); } catch (e) { r = e instanceof TypeError ? "TE" : e instanceof RangeError ? "RE" : e instanceof ReferenceError ? "FE" : e; } print(n, typeof r === "object" && r !== null ? "obj" : typeof r === "function" ? "fun" : r); }
--
--     t("from null", () => [1].indexOf(1, null)); t("from text", () => [].indexOf(1, "0")); t("from true", () => [].slice(true)); t("to null", () => [].slice(0, null)); t("to before from", () => [1, 2, 3].slice(2, 1).length); t("far", () => [1, 2].slice(-9, 9).join()); t("undefined", () => [1, 2].slice(undefined, undefined).join()); t("indexOf far", () => [1, 2].indexOf(1, 9)); t("indexOf neg", () => [1, 2, 1].indexOf(1, -1)); t("indexOf text", () => [1, "1"].indexOf("1")); t("indexOf hole", () => Array(2).indexOf(undefined)); t("indexOf obj", () => { let o = {}; return [{}, o].indexOf(o); });
--     t("length text", () => Array.prototype.slice.call({ length: "2" })); t("length null", () => Array.prototype.join.call({ length: null })); t("length true", () => Array.prototype.pop.call({ length: true })); t("length {}", () => Array.prototype.map.call({ length: {} }, print)); t("callback first", () => Array.prototype.map.call({ length: "x" }, 1)); t("callback range", () => Array.prototype.map.call({ length: 4294967296 }, 1)); t("range", () => Array.prototype.map.call({ length: 4294967296 }, print)); t("slice range", () => Array.prototype.slice.call({ length: 9007199254740991 })); t("slice end", () => Array.prototype.slice.call({ length: 9007199254740991, 9007199254740990: "e" }, -1).join());
--     t("push limit", () => Array.prototype.push.call({ length: 9007199254740991 })); t("push over", () => Array.prototype.push.call({ length: 9007199254740990 }, 1, 2)); t("push array end", () => { let a = Array(4294967295); try { a.push("x"); } catch (e) { return (e instanceof RangeError) + a[4294967295] + a.length; } }); t("join sep", () => [1, 2].join(0)); t("join null", () => [1, null, undefined, "", true].join(null)); t("join object sep", () => [].join({})); t("join object", () => [[]].join()); t("reduce arity", () => [5].reduce((a) => a, undefined)); t("reduce none", () => Array(3).reduce(print)); t("reduce one", () => [5].reduce(() => 6));
--     t("Array", () => Array(2, 3).join() + Array("2").length + new Array(0).length); t("Array -1", () => Array(-1)); t("Array big", () => Array(4294967296)); t("Array max", () => Array(4294967295).length); t("Array true", () => Array(true)[0]); t("filter this", () => [1].filter(function () { return this === 3; }, 3).length); t("map length", () => Array(3).map(print).length);
-- right
--     (empty)

abbrev left : Program
left = record {
  forms =
      ParamForm (codes "n") ∷ ParamForm (codes "f") ∷ DeclForm (codes "r") None ∷ LetForm (2 ∷ []) ∷
      NameForm (codes "r") ∷ NameForm (codes "f") ∷ CallForm 5 [] ∷ AssignForm 4 6 ∷ ExprStmtForm 7 ∷
      BlockForm (8 ∷ []) ∷ ParamForm (codes "e") ∷ NameForm (codes "r") ∷ NameForm (codes "e") ∷
      NameForm (codes "TypeError") ∷ BinaryForm Instanceof 12 13 ∷ TextForm (codes "TE") ∷ NameForm (codes "e") ∷
      NameForm (codes "RangeError") ∷ BinaryForm Instanceof 16 17 ∷ TextForm (codes "RE") ∷
      NameForm (codes "e") ∷ NameForm (codes "ReferenceError") ∷ BinaryForm Instanceof 20 21 ∷
      TextForm (codes "FE") ∷ NameForm (codes "e") ∷ CondForm 22 23 24 ∷ CondForm 18 19 25 ∷ CondForm 14 15 26 ∷
      AssignForm 11 27 ∷ ExprStmtForm 28 ∷ BlockForm (29 ∷ []) ∷ TryForm 9 (Some (codes "e")) (Some 30) None ∷
      NameForm (codes "print") ∷ NameForm (codes "n") ∷ NameForm (codes "r") ∷ UnaryForm Typeof 34 ∷
      TextForm (codes "object") ∷ BinaryForm TripleEqual 35 36 ∷ NameForm (codes "r") ∷ LiteralForm (Null) ∷
      BinaryForm NotDoubleEqual 38 39 ∷ AndForm 37 40 ∷ TextForm (codes "obj") ∷ NameForm (codes "r") ∷
      UnaryForm Typeof 43 ∷ TextForm (codes "function") ∷ BinaryForm TripleEqual 44 45 ∷ TextForm (codes "fun") ∷
      NameForm (codes "r") ∷ CondForm 46 47 48 ∷ CondForm 41 42 49 ∷ CallForm 32 (33 ∷ 50 ∷ []) ∷
      ExprStmtForm 51 ∷
      FunctionDeclForm (codes "t") (record { params = (codes "n") ∷ (codes "f") ∷ []; body = (3 ∷ 31 ∷ 52 ∷ []) }) ∷
      NameForm (codes "t") ∷ TextForm (codes "from null") ∷ NumberForm (pos 1) ∷ ArrayForm (56 ∷ []) ∷
      MemberForm 57 (codes "indexOf") ∷ NumberForm (pos 1) ∷ LiteralForm (Null) ∷ CallForm 58 (59 ∷ 60 ∷ []) ∷
      ArrowForm (record { params = []; body = (61 ∷ []) }) false ∷ CallForm 54 (55 ∷ 62 ∷ []) ∷ ExprStmtForm 63 ∷
      NameForm (codes "t") ∷ TextForm (codes "from text") ∷ ArrayForm [] ∷ MemberForm 67 (codes "indexOf") ∷
      NumberForm (pos 1) ∷ TextForm (codes "0") ∷ CallForm 68 (69 ∷ 70 ∷ []) ∷
      ArrowForm (record { params = []; body = (71 ∷ []) }) false ∷ CallForm 65 (66 ∷ 72 ∷ []) ∷ ExprStmtForm 73 ∷
      NameForm (codes "t") ∷ TextForm (codes "from true") ∷ ArrayForm [] ∷ MemberForm 77 (codes "slice") ∷
      LiteralForm (Truth true) ∷ CallForm 78 (79 ∷ []) ∷
      ArrowForm (record { params = []; body = (80 ∷ []) }) false ∷ CallForm 75 (76 ∷ 81 ∷ []) ∷ ExprStmtForm 82 ∷
      NameForm (codes "t") ∷ TextForm (codes "to null") ∷ ArrayForm [] ∷ MemberForm 86 (codes "slice") ∷
      NumberForm (pos 0) ∷ LiteralForm (Null) ∷ CallForm 87 (88 ∷ 89 ∷ []) ∷
      ArrowForm (record { params = []; body = (90 ∷ []) }) false ∷ CallForm 84 (85 ∷ 91 ∷ []) ∷ ExprStmtForm 92 ∷
      NameForm (codes "t") ∷ TextForm (codes "to before from") ∷ NumberForm (pos 1) ∷ NumberForm (pos 2) ∷
      NumberForm (pos 3) ∷ ArrayForm (96 ∷ 97 ∷ 98 ∷ []) ∷ MemberForm 99 (codes "slice") ∷ NumberForm (pos 2) ∷
      NumberForm (pos 1) ∷ CallForm 100 (101 ∷ 102 ∷ []) ∷ MemberForm 103 (codes "length") ∷
      ArrowForm (record { params = []; body = (104 ∷ []) }) false ∷ CallForm 94 (95 ∷ 105 ∷ []) ∷
      ExprStmtForm 106 ∷ NameForm (codes "t") ∷ TextForm (codes "far") ∷ NumberForm (pos 1) ∷
      NumberForm (pos 2) ∷ ArrayForm (110 ∷ 111 ∷ []) ∷ MemberForm 112 (codes "slice") ∷ NumberForm (pos 9) ∷
      UnaryForm Minus 114 ∷ NumberForm (pos 9) ∷ CallForm 113 (115 ∷ 116 ∷ []) ∷ MemberForm 117 (codes "join") ∷
      CallForm 118 [] ∷ ArrowForm (record { params = []; body = (119 ∷ []) }) false ∷
      CallForm 108 (109 ∷ 120 ∷ []) ∷ ExprStmtForm 121 ∷ NameForm (codes "t") ∷ TextForm (codes "undefined") ∷
      NumberForm (pos 1) ∷ NumberForm (pos 2) ∷ ArrayForm (125 ∷ 126 ∷ []) ∷ MemberForm 127 (codes "slice") ∷
      LiteralForm (Undefined) ∷ LiteralForm (Undefined) ∷ CallForm 128 (129 ∷ 130 ∷ []) ∷
      MemberForm 131 (codes "join") ∷ CallForm 132 [] ∷
      ArrowForm (record { params = []; body = (133 ∷ []) }) false ∷ CallForm 123 (124 ∷ 134 ∷ []) ∷
      ExprStmtForm 135 ∷ NameForm (codes "t") ∷ TextForm (codes "indexOf far") ∷ NumberForm (pos 1) ∷
      NumberForm (pos 2) ∷ ArrayForm (139 ∷ 140 ∷ []) ∷ MemberForm 141 (codes "indexOf") ∷ NumberForm (pos 1) ∷
      NumberForm (pos 9) ∷ CallForm 142 (143 ∷ 144 ∷ []) ∷
      ArrowForm (record { params = []; body = (145 ∷ []) }) false ∷ CallForm 137 (138 ∷ 146 ∷ []) ∷
      ExprStmtForm 147 ∷ NameForm (codes "t") ∷ TextForm (codes "indexOf neg") ∷ NumberForm (pos 1) ∷
      NumberForm (pos 2) ∷ NumberForm (pos 1) ∷ ArrayForm (151 ∷ 152 ∷ 153 ∷ []) ∷
      MemberForm 154 (codes "indexOf") ∷ NumberForm (pos 1) ∷ NumberForm (pos 1) ∷ UnaryForm Minus 157 ∷
      CallForm 155 (156 ∷ 158 ∷ []) ∷ ArrowForm (record { params = []; body = (159 ∷ []) }) false ∷
      CallForm 149 (150 ∷ 160 ∷ []) ∷ ExprStmtForm 161 ∷ NameForm (codes "t") ∷ TextForm (codes "indexOf text") ∷
      NumberForm (pos 1) ∷ TextForm (codes "1") ∷ ArrayForm (165 ∷ 166 ∷ []) ∷ MemberForm 167 (codes "indexOf") ∷
      TextForm (codes "1") ∷ CallForm 168 (169 ∷ []) ∷
      ArrowForm (record { params = []; body = (170 ∷ []) }) false ∷ CallForm 163 (164 ∷ 171 ∷ []) ∷
      ExprStmtForm 172 ∷ NameForm (codes "t") ∷ TextForm (codes "indexOf hole") ∷ NameForm (codes "Array") ∷
      NumberForm (pos 2) ∷ CallForm 176 (177 ∷ []) ∷ MemberForm 178 (codes "indexOf") ∷ LiteralForm (Undefined) ∷
      CallForm 179 (180 ∷ []) ∷ ArrowForm (record { params = []; body = (181 ∷ []) }) false ∷
      CallForm 174 (175 ∷ 182 ∷ []) ∷ ExprStmtForm 183 ∷ NameForm (codes "t") ∷ TextForm (codes "indexOf obj") ∷
      ObjectForm [] ∷ DeclForm (codes "o") (Some 187) ∷ LetForm (188 ∷ []) ∷ ObjectForm [] ∷
      NameForm (codes "o") ∷ ArrayForm (190 ∷ 191 ∷ []) ∷ MemberForm 192 (codes "indexOf") ∷
      NameForm (codes "o") ∷ CallForm 193 (194 ∷ []) ∷ ReturnForm (Some 195) ∷
      ArrowForm (record { params = []; body = (189 ∷ 196 ∷ []) }) true ∷ CallForm 185 (186 ∷ 197 ∷ []) ∷
      ExprStmtForm 198 ∷ NameForm (codes "t") ∷ TextForm (codes "length text") ∷ NameForm (codes "Array") ∷
      MemberForm 202 (codes "prototype") ∷ MemberForm 203 (codes "slice") ∷ MemberForm 204 (codes "call") ∷
      TextForm (codes "2") ∷ ValueForm (Written (codes "length")) 206 ∷ ObjectForm (207 ∷ []) ∷
      CallForm 205 (208 ∷ []) ∷ ArrowForm (record { params = []; body = (209 ∷ []) }) false ∷
      CallForm 200 (201 ∷ 210 ∷ []) ∷ ExprStmtForm 211 ∷ NameForm (codes "t") ∷ TextForm (codes "length null") ∷
      NameForm (codes "Array") ∷ MemberForm 215 (codes "prototype") ∷ MemberForm 216 (codes "join") ∷
      MemberForm 217 (codes "call") ∷ LiteralForm (Null) ∷ ValueForm (Written (codes "length")) 219 ∷
      ObjectForm (220 ∷ []) ∷ CallForm 218 (221 ∷ []) ∷
      ArrowForm (record { params = []; body = (222 ∷ []) }) false ∷ CallForm 213 (214 ∷ 223 ∷ []) ∷
      ExprStmtForm 224 ∷ NameForm (codes "t") ∷ TextForm (codes "length true") ∷ NameForm (codes "Array") ∷
      MemberForm 228 (codes "prototype") ∷ MemberForm 229 (codes "pop") ∷ MemberForm 230 (codes "call") ∷
      LiteralForm (Truth true) ∷ ValueForm (Written (codes "length")) 232 ∷ ObjectForm (233 ∷ []) ∷
      CallForm 231 (234 ∷ []) ∷ ArrowForm (record { params = []; body = (235 ∷ []) }) false ∷
      CallForm 226 (227 ∷ 236 ∷ []) ∷ ExprStmtForm 237 ∷ NameForm (codes "t") ∷ TextForm (codes "length {}") ∷
      NameForm (codes "Array") ∷ MemberForm 241 (codes "prototype") ∷ MemberForm 242 (codes "map") ∷
      MemberForm 243 (codes "call") ∷ ObjectForm [] ∷ ValueForm (Written (codes "length")) 245 ∷
      ObjectForm (246 ∷ []) ∷ NameForm (codes "print") ∷ CallForm 244 (247 ∷ 248 ∷ []) ∷
      ArrowForm (record { params = []; body = (249 ∷ []) }) false ∷ CallForm 239 (240 ∷ 250 ∷ []) ∷
      ExprStmtForm 251 ∷ NameForm (codes "t") ∷ TextForm (codes "callback first") ∷ NameForm (codes "Array") ∷
      MemberForm 255 (codes "prototype") ∷ MemberForm 256 (codes "map") ∷ MemberForm 257 (codes "call") ∷
      TextForm (codes "x") ∷ ValueForm (Written (codes "length")) 259 ∷ ObjectForm (260 ∷ []) ∷
      NumberForm (pos 1) ∷ CallForm 258 (261 ∷ 262 ∷ []) ∷
      ArrowForm (record { params = []; body = (263 ∷ []) }) false ∷ CallForm 253 (254 ∷ 264 ∷ []) ∷
      ExprStmtForm 265 ∷ NameForm (codes "t") ∷ TextForm (codes "callback range") ∷ NameForm (codes "Array") ∷
      MemberForm 269 (codes "prototype") ∷ MemberForm 270 (codes "map") ∷ MemberForm 271 (codes "call") ∷
      NumberForm (pos 4294967296) ∷ ValueForm (Written (codes "length")) 273 ∷ ObjectForm (274 ∷ []) ∷
      NumberForm (pos 1) ∷ CallForm 272 (275 ∷ 276 ∷ []) ∷
      ArrowForm (record { params = []; body = (277 ∷ []) }) false ∷ CallForm 267 (268 ∷ 278 ∷ []) ∷
      ExprStmtForm 279 ∷ NameForm (codes "t") ∷ TextForm (codes "range") ∷ NameForm (codes "Array") ∷
      MemberForm 283 (codes "prototype") ∷ MemberForm 284 (codes "map") ∷ MemberForm 285 (codes "call") ∷
      NumberForm (pos 4294967296) ∷ ValueForm (Written (codes "length")) 287 ∷ ObjectForm (288 ∷ []) ∷
      NameForm (codes "print") ∷ CallForm 286 (289 ∷ 290 ∷ []) ∷
      ArrowForm (record { params = []; body = (291 ∷ []) }) false ∷ CallForm 281 (282 ∷ 292 ∷ []) ∷
      ExprStmtForm 293 ∷ NameForm (codes "t") ∷ TextForm (codes "slice range") ∷ NameForm (codes "Array") ∷
      MemberForm 297 (codes "prototype") ∷ MemberForm 298 (codes "slice") ∷ MemberForm 299 (codes "call") ∷
      NumberForm (pos 9007199254740991) ∷ ValueForm (Written (codes "length")) 301 ∷ ObjectForm (302 ∷ []) ∷
      CallForm 300 (303 ∷ []) ∷ ArrowForm (record { params = []; body = (304 ∷ []) }) false ∷
      CallForm 295 (296 ∷ 305 ∷ []) ∷ ExprStmtForm 306 ∷ NameForm (codes "t") ∷ TextForm (codes "slice end") ∷
      NameForm (codes "Array") ∷ MemberForm 310 (codes "prototype") ∷ MemberForm 311 (codes "slice") ∷
      MemberForm 312 (codes "call") ∷ NumberForm (pos 9007199254740991) ∷
      ValueForm (Written (codes "length")) 314 ∷ TextForm (codes "e") ∷
      ValueForm (Written (codes "9007199254740990")) 316 ∷ ObjectForm (315 ∷ 317 ∷ []) ∷ NumberForm (pos 1) ∷
      UnaryForm Minus 319 ∷ CallForm 313 (318 ∷ 320 ∷ []) ∷ MemberForm 321 (codes "join") ∷ CallForm 322 [] ∷
      ArrowForm (record { params = []; body = (323 ∷ []) }) false ∷ CallForm 308 (309 ∷ 324 ∷ []) ∷
      ExprStmtForm 325 ∷ NameForm (codes "t") ∷ TextForm (codes "push limit") ∷ NameForm (codes "Array") ∷
      MemberForm 329 (codes "prototype") ∷ MemberForm 330 (codes "push") ∷ MemberForm 331 (codes "call") ∷
      NumberForm (pos 9007199254740991) ∷ ValueForm (Written (codes "length")) 333 ∷ ObjectForm (334 ∷ []) ∷
      CallForm 332 (335 ∷ []) ∷ ArrowForm (record { params = []; body = (336 ∷ []) }) false ∷
      CallForm 327 (328 ∷ 337 ∷ []) ∷ ExprStmtForm 338 ∷ NameForm (codes "t") ∷ TextForm (codes "push over") ∷
      NameForm (codes "Array") ∷ MemberForm 342 (codes "prototype") ∷ MemberForm 343 (codes "push") ∷
      MemberForm 344 (codes "call") ∷ NumberForm (pos 9007199254740990) ∷
      ValueForm (Written (codes "length")) 346 ∷ ObjectForm (347 ∷ []) ∷ NumberForm (pos 1) ∷
      NumberForm (pos 2) ∷ CallForm 345 (348 ∷ 349 ∷ 350 ∷ []) ∷
      ArrowForm (record { params = []; body = (351 ∷ []) }) false ∷ CallForm 340 (341 ∷ 352 ∷ []) ∷
      ExprStmtForm 353 ∷ NameForm (codes "t") ∷ TextForm (codes "push array end") ∷ NameForm (codes "Array") ∷
      NumberForm (pos 4294967295) ∷ CallForm 357 (358 ∷ []) ∷ DeclForm (codes "a") (Some 359) ∷
      LetForm (360 ∷ []) ∷ NameForm (codes "a") ∷ MemberForm 362 (codes "push") ∷ TextForm (codes "x") ∷
      CallForm 363 (364 ∷ []) ∷ ExprStmtForm 365 ∷ BlockForm (366 ∷ []) ∷ ParamForm (codes "e") ∷
      NameForm (codes "e") ∷ NameForm (codes "RangeError") ∷ BinaryForm Instanceof 369 370 ∷ GroupForm 371 ∷
      NameForm (codes "a") ∷ NumberForm (pos 4294967295) ∷ IndexForm 373 374 ∷ BinaryForm Plus 372 375 ∷
      NameForm (codes "a") ∷ MemberForm 377 (codes "length") ∷ BinaryForm Plus 376 378 ∷ ReturnForm (Some 379) ∷
      BlockForm (380 ∷ []) ∷ TryForm 367 (Some (codes "e")) (Some 381) None ∷
      ArrowForm (record { params = []; body = (361 ∷ 382 ∷ []) }) true ∷ CallForm 355 (356 ∷ 383 ∷ []) ∷
      ExprStmtForm 384 ∷ NameForm (codes "t") ∷ TextForm (codes "join sep") ∷ NumberForm (pos 1) ∷
      NumberForm (pos 2) ∷ ArrayForm (388 ∷ 389 ∷ []) ∷ MemberForm 390 (codes "join") ∷ NumberForm (pos 0) ∷
      CallForm 391 (392 ∷ []) ∷ ArrowForm (record { params = []; body = (393 ∷ []) }) false ∷
      CallForm 386 (387 ∷ 394 ∷ []) ∷ ExprStmtForm 395 ∷ NameForm (codes "t") ∷ TextForm (codes "join null") ∷
      NumberForm (pos 1) ∷ LiteralForm (Null) ∷ LiteralForm (Undefined) ∷ TextForm [] ∷
      LiteralForm (Truth true) ∷ ArrayForm (399 ∷ 400 ∷ 401 ∷ 402 ∷ 403 ∷ []) ∷ MemberForm 404 (codes "join") ∷
      LiteralForm (Null) ∷ CallForm 405 (406 ∷ []) ∷
      ArrowForm (record { params = []; body = (407 ∷ []) }) false ∷ CallForm 397 (398 ∷ 408 ∷ []) ∷
      ExprStmtForm 409 ∷ NameForm (codes "t") ∷ TextForm (codes "join object sep") ∷ ArrayForm [] ∷
      MemberForm 413 (codes "join") ∷ ObjectForm [] ∷ CallForm 414 (415 ∷ []) ∷
      ArrowForm (record { params = []; body = (416 ∷ []) }) false ∷ CallForm 411 (412 ∷ 417 ∷ []) ∷
      ExprStmtForm 418 ∷ NameForm (codes "t") ∷ TextForm (codes "join object") ∷ ArrayForm [] ∷
      ArrayForm (422 ∷ []) ∷ MemberForm 423 (codes "join") ∷ CallForm 424 [] ∷
      ArrowForm (record { params = []; body = (425 ∷ []) }) false ∷ CallForm 420 (421 ∷ 426 ∷ []) ∷
      ExprStmtForm 427 ∷ NameForm (codes "t") ∷ TextForm (codes "reduce arity") ∷ NumberForm (pos 5) ∷
      ArrayForm (431 ∷ []) ∷ MemberForm 432 (codes "reduce") ∷ ParamForm (codes "a") ∷ NameForm (codes "a") ∷
      ArrowForm (record { params = (codes "a") ∷ []; body = (435 ∷ []) }) false ∷ LiteralForm (Undefined) ∷
      CallForm 433 (436 ∷ 437 ∷ []) ∷ ArrowForm (record { params = []; body = (438 ∷ []) }) false ∷
      CallForm 429 (430 ∷ 439 ∷ []) ∷ ExprStmtForm 440 ∷ NameForm (codes "t") ∷ TextForm (codes "reduce none") ∷
      NameForm (codes "Array") ∷ NumberForm (pos 3) ∷ CallForm 444 (445 ∷ []) ∷ MemberForm 446 (codes "reduce") ∷
      NameForm (codes "print") ∷ CallForm 447 (448 ∷ []) ∷
      ArrowForm (record { params = []; body = (449 ∷ []) }) false ∷ CallForm 442 (443 ∷ 450 ∷ []) ∷
      ExprStmtForm 451 ∷ NameForm (codes "t") ∷ TextForm (codes "reduce one") ∷ NumberForm (pos 5) ∷
      ArrayForm (455 ∷ []) ∷ MemberForm 456 (codes "reduce") ∷ NumberForm (pos 6) ∷
      ArrowForm (record { params = []; body = (458 ∷ []) }) false ∷ CallForm 457 (459 ∷ []) ∷
      ArrowForm (record { params = []; body = (460 ∷ []) }) false ∷ CallForm 453 (454 ∷ 461 ∷ []) ∷
      ExprStmtForm 462 ∷ NameForm (codes "t") ∷ TextForm (codes "Array") ∷ NameForm (codes "Array") ∷
      NumberForm (pos 2) ∷ NumberForm (pos 3) ∷ CallForm 466 (467 ∷ 468 ∷ []) ∷ MemberForm 469 (codes "join") ∷
      CallForm 470 [] ∷ NameForm (codes "Array") ∷ TextForm (codes "2") ∷ CallForm 472 (473 ∷ []) ∷
      MemberForm 474 (codes "length") ∷ BinaryForm Plus 471 475 ∷ NameForm (codes "Array") ∷ NumberForm (pos 0) ∷
      NewForm 477 (478 ∷ []) ∷ MemberForm 479 (codes "length") ∷ BinaryForm Plus 476 480 ∷
      ArrowForm (record { params = []; body = (481 ∷ []) }) false ∷ CallForm 464 (465 ∷ 482 ∷ []) ∷
      ExprStmtForm 483 ∷ NameForm (codes "t") ∷ TextForm (codes "Array -1") ∷ NameForm (codes "Array") ∷
      NumberForm (pos 1) ∷ UnaryForm Minus 488 ∷ CallForm 487 (489 ∷ []) ∷
      ArrowForm (record { params = []; body = (490 ∷ []) }) false ∷ CallForm 485 (486 ∷ 491 ∷ []) ∷
      ExprStmtForm 492 ∷ NameForm (codes "t") ∷ TextForm (codes "Array big") ∷ NameForm (codes "Array") ∷
      NumberForm (pos 4294967296) ∷ CallForm 496 (497 ∷ []) ∷
      ArrowForm (record { params = []; body = (498 ∷ []) }) false ∷ CallForm 494 (495 ∷ 499 ∷ []) ∷
      ExprStmtForm 500 ∷ NameForm (codes "t") ∷ TextForm (codes "Array max") ∷ NameForm (codes "Array") ∷
      NumberForm (pos 4294967295) ∷ CallForm 504 (505 ∷ []) ∷ MemberForm 506 (codes "length") ∷
      ArrowForm (record { params = []; body = (507 ∷ []) }) false ∷ CallForm 502 (503 ∷ 508 ∷ []) ∷
      ExprStmtForm 509 ∷ NameForm (codes "t") ∷ TextForm (codes "Array true") ∷ NameForm (codes "Array") ∷
      LiteralForm (Truth true) ∷ CallForm 513 (514 ∷ []) ∷ NumberForm (pos 0) ∷ IndexForm 515 516 ∷
      ArrowForm (record { params = []; body = (517 ∷ []) }) false ∷ CallForm 511 (512 ∷ 518 ∷ []) ∷
      ExprStmtForm 519 ∷ NameForm (codes "t") ∷ TextForm (codes "filter this") ∷ NumberForm (pos 1) ∷
      ArrayForm (523 ∷ []) ∷ MemberForm 524 (codes "filter") ∷ ThisForm ∷ NumberForm (pos 3) ∷
      BinaryForm TripleEqual 526 527 ∷ ReturnForm (Some 528) ∷
      FunctionForm None (record { params = []; body = (529 ∷ []) }) ∷ NumberForm (pos 3) ∷
      CallForm 525 (530 ∷ 531 ∷ []) ∷ MemberForm 532 (codes "length") ∷
      ArrowForm (record { params = []; body = (533 ∷ []) }) false ∷ CallForm 521 (522 ∷ 534 ∷ []) ∷
      ExprStmtForm 535 ∷ NameForm (codes "t") ∷ TextForm (codes "map length") ∷ NameForm (codes "Array") ∷
      NumberForm (pos 3) ∷ CallForm 539 (540 ∷ []) ∷ MemberForm 541 (codes "map") ∷ NameForm (codes "print") ∷
      CallForm 542 (543 ∷ []) ∷ MemberForm 544 (codes "length") ∷
      ArrowForm (record { params = []; body = (545 ∷ []) }) false ∷ CallForm 537 (538 ∷ 546 ∷ []) ∷
      ExprStmtForm 547 ∷
      ScriptForm (53 ∷ 64 ∷ 74 ∷ 83 ∷ 93 ∷ 107 ∷ 122 ∷ 136 ∷ 148 ∷ 162 ∷ 173 ∷ 184 ∷ 199 ∷ 212 ∷ 225 ∷ 238 ∷
      252 ∷ 266 ∷ 280 ∷ 294 ∷ 307 ∷ 326 ∷ 339 ∷ 354 ∷ 385 ∷ 396 ∷ 410 ∷ 419 ∷ 428 ∷ 441 ∷ 452 ∷ 463 ∷ 484 ∷
      493 ∷ 501 ∷ 510 ∷ 520 ∷ 536 ∷ 548 ∷ []) ∷
      [];
  names =
      bound 31 (codes "e") false ∷ bound 53 (codes "n") false ∷ bound 53 (codes "f") false ∷
      bound 53 (codes "r") false ∷ bound 197 (codes "o") false ∷ bound 382 (codes "e") false ∷
      bound 383 (codes "a") false ∷ bound 436 (codes "a") false ∷ bound 549 (codes "t") false ∷
      [];
}

abbrev right : Program
right = record {
  forms =
      ScriptForm [] ∷
      [];
  names = [];
}

abbrev policy : List Rule
policy = []

abbrev schedule : List Letter
schedule = []

abbrev told : List (List ℕ)
told =
    (codes "L from null TE") ∷
    (codes "L from text TE") ∷
    (codes "L from true TE") ∷
    (codes "L to null TE") ∷
    (codes "L to before from 0") ∷
    (codes "L far 1,2") ∷
    (codes "L undefined 1,2") ∷
    (codes "L indexOf far -1") ∷
    (codes "L indexOf neg 2") ∷
    (codes "L indexOf text 1") ∷
    (codes "L indexOf hole -1") ∷
    (codes "L indexOf obj 1") ∷
    (codes "L length text TE") ∷
    (codes "L length null TE") ∷
    (codes "L length true TE") ∷
    (codes "L length {} TE") ∷
    (codes "L callback first TE") ∷
    (codes "L callback range TE") ∷
    (codes "L range RE") ∷
    (codes "L slice range RE") ∷
    (codes "L slice end e") ∷
    (codes "L push limit 9007199254740991") ∷
    (codes "L push over TE") ∷
    (codes "L push array end truex4294967295") ∷
    (codes "L join sep 102") ∷
    (codes "L join null 1nullnullnullnulltrue") ∷
    (codes "L join object sep TE") ∷
    (codes "L join object TE") ∷
    (codes "L reduce arity undefined") ∷
    (codes "L reduce none TE") ∷
    (codes "L reduce one 5") ∷
    (codes "L Array 2,310") ∷
    (codes "L Array -1 RE") ∷
    (codes "L Array big RE") ∷
    (codes "L Array max 4294967295") ∷
    (codes "L Array true true") ∷
    (codes "L filter this 1") ∷
    (codes "L map length 3") ∷
    (codes "= done") ∷
    []

abbrev stage : Stage
stage = Story (left ∷ right ∷ []) policy schedule 1000000

pub Row : Type 0
Row = Shows false false stage told × (stage.left ≡ 997619)

pub row : Row
unfolding Row given Validate encode_utf8
row = ((refl, refl), refl)
