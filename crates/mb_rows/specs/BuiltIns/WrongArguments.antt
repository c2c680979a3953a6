use Rattle.std.specs.Prelude.{refl, ℕ, List, [], ◌∷◌, true, false, Some, None, codes, pos}
use Rattle.std.specs.Char.{encode_utf8}
use Rattle.mb_tree.specs.declared.kind.Sign.TheVariants.{Plus, TripleEqual, NotDoubleEqual, Instanceof, Typeof}
use Rattle.mb_desc.specs.Validate.{Validate}
use Rattle.mb_world.specs.Value.{Undefined, Null, Truth}
use Rattle.mb_world.specs.Form.{Written, ScriptForm, LetForm, DeclForm, FunctionDeclForm, BlockForm, ExprStmtForm, ReturnForm, TryForm, ParamForm, NameForm, NumberForm, TextForm, LiteralForm, ArrayForm, ObjectForm, ValueForm, ArrowForm, GroupForm, MemberForm, AssignForm, CallForm, NewForm, CondForm, AndForm, UnaryForm, BinaryForm}
use Rattle.mb_world.specs.Graph.{Program, Rule}
use Rattle.mb_model.specs.Engine.{given}
use Rattle.mb_model.specs.Story.{Stage, Letter, Story}
use Rattle.mb_rows.specs.Shows.{bound, Shows}

-- run
-- left
--     function t(n, f) { let r; try { r = f(); } catch (e) { r = e instanceof TypeError ? "TE" : e instanceof RangeError ? "RE" : e instanceof ReferenceError ? "FE" : e; } print(n, typeof r === "object" && r !== null ? "obj" : typeof r === "function" ? "fun" : r); }
--     let Function_prototype = Object.getPrototypeOf(print);
--     t("push", () => Array.prototype.push.call(1, print));
--     t("pop", () => Array.prototype.pop.call(1, print));
--     t("map", () => Array.prototype.map.call(1, print));
--     t("forEach", () => Array.prototype.forEach.call(1, print));
--     t("filter", () => Array.prototype.filter.call(1, print));
--     t("reduce", () => Array.prototype.reduce.call(1, print));
--     t("indexOf", () => Array.prototype.indexOf.call(1, print));
--     t("slice", () => Array.prototype.slice.call(1, print));
--     t("join", () => Array.prototype.join.call(1, print));
--     t("push undefined", () => { let f = [].push; return f(print); });
--     t("join undefined", () => { let f = [].join; return f(print); });
--     t("hasOwnProperty", () => Object.prototype.hasOwnProperty.call("a", "length"));
--     t("hasOwn key", () => ({}).hasOwnProperty({}));
--     t("hasOwn undefined", () => ({ undefined: 1 }).hasOwnProperty());
--     t("call", () => Reflect.get(Function_prototype, "call").call({}));
--     t("apply", () => print.apply.call([], 1));
--     t("apply list", () => print.apply(1, "ab"));
--     t("apply null", () => String.apply(1, null));
--     t("apply length", () => Array.apply(1, { length: 2 }).length);
--     t("call args", () => Array.call(1, 2, 3).join());
--     t("call one", () => Array.call(1, 2).length);
--     t("Object 1", () => Object(1));
--     t("Object new", () => new Object("a"));
--     t("Object null", () => new Object(null));
--     t("Object self", () => Object(print) === print);
--     t("String", () => String(undefined));
--     t("String none", () => String().length);
--     t("String more", () => String(1, {}));
--     t("new String", () => new String("a"));
--     t("new print", () => new print(1));
--     t("labelled more", () => labelled("a", {}));
--     t("labelled bad", () => labelled(true));
--     t("labelled own", () => Reflect.ownKeys(labelled("")).length);
--     t("later value", () => later(Reflect));
--     t("print object", () => print("a", {}));
--     t("Proxy call", () => Proxy({}, {}));
--     t("Proxy built-in", () => new Proxy(print, Reflect).length);
--     t("Proxy null", () => new Proxy({}, null));
--     t("revocable nested", () => Proxy.revocable(new Proxy({}, {}), {}));
--     t("revoke form", () => { let r = Proxy.revocable({}, {}); return Reflect.ownKeys(r).join() + r.revoke.length + r.revoke.name + Reflect.ownKeys(r.revoke).join(); });
--     t("construct Proxy", () => Reflect.construct(Proxy, [{ a: 4 }, {}], Array).a);
--     t("create", () => Object.create());
--     t("create second", () => Object.create(null, null));
--     t("create null", () => Reflect.getPrototypeOf(Object.create(null)));
--     t("keys text", () => Object.keys("ab"));
--     t("freeze text", () => Object.freeze("ab"));
--     t("freeze none", () => Object.freeze());
-- right
--     (empty)

abbrev left : Program
left = record {
  forms =
      ParamForm (codes "n") ∷ ParamForm (codes "f") ∷ DeclForm (codes "r") None ∷ LetForm (2 ∷ []) ∷
      NameForm (codes "r") ∷ NameForm (codes "f") ∷ CallForm 5 [] ∷ AssignForm 4 6 ∷ ExprStmtForm 7 ∷
      BlockForm (8 ∷ []) ∷ ParamForm (codes "e") ∷ NameForm (codes "r") ∷ NameForm (codes "e") ∷
      NameForm (codes "TypeError") ∷ BinaryForm Instanceof 12 13 ∷ TextForm (codes "TE") ∷ NameForm (codes "e") ∷
      NameForm (codes "RangeError") ∷ BinaryForm Instanceof 16 17 ∷ TextForm (codes "RE") ∷
      NameForm (codes "e") ∷ NameForm (codes "ReferenceError") ∷ BinaryForm Instanceof 20 21 ∷
      TextForm (codes "FE") ∷ NameForm (codes "e") ∷ CondForm 22 23 24 ∷ CondForm 18 19 25 ∷ CondForm 14 15 26 ∷
      AssignForm 11 27 ∷ ExprStmtForm 28 ∷ BlockForm (29 ∷ []) ∷ TryForm 9 (Some (codes "e")) (Some 30) None ∷
      NameForm (codes "print") ∷ NameForm (codes "n") ∷ NameForm (codes "r") ∷ UnaryForm Typeof 34 ∷
      TextForm (codes "object") ∷ BinaryForm TripleEqual 35 36 ∷ NameForm (codes "r") ∷ LiteralForm (Null) ∷
      BinaryForm NotDoubleEqual 38 39 ∷ AndForm 37 40 ∷ TextForm (codes "obj") ∷ NameForm (codes "r") ∷
      UnaryForm Typeof 43 ∷ TextForm (codes "function") ∷ BinaryForm TripleEqual 44 45 ∷ TextForm (codes "fun") ∷
      NameForm (codes "r") ∷ CondForm 46 47 48 ∷ CondForm 41 42 49 ∷ CallForm 32 (33 ∷ 50 ∷ []) ∷
      ExprStmtForm 51 ∷
      FunctionDeclForm (codes "t") (record { params = (codes "n") ∷ (codes "f") ∷ []; body = (3 ∷ 31 ∷ 52 ∷ []) }) ∷
      NameForm (codes "Object") ∷ MemberForm 54 (codes "getPrototypeOf") ∷ NameForm (codes "print") ∷
      CallForm 55 (56 ∷ []) ∷ DeclForm (codes "Function_prototype") (Some 57) ∷ LetForm (58 ∷ []) ∷
      NameForm (codes "t") ∷ TextForm (codes "push") ∷ NameForm (codes "Array") ∷
      MemberForm 62 (codes "prototype") ∷ MemberForm 63 (codes "push") ∷ MemberForm 64 (codes "call") ∷
      NumberForm (pos 1) ∷ NameForm (codes "print") ∷ CallForm 65 (66 ∷ 67 ∷ []) ∷
      ArrowForm (record { params = []; body = (68 ∷ []) }) false ∷ CallForm 60 (61 ∷ 69 ∷ []) ∷ ExprStmtForm 70 ∷
      NameForm (codes "t") ∷ TextForm (codes "pop") ∷ NameForm (codes "Array") ∷
      MemberForm 74 (codes "prototype") ∷ MemberForm 75 (codes "pop") ∷ MemberForm 76 (codes "call") ∷
      NumberForm (pos 1) ∷ NameForm (codes "print") ∷ CallForm 77 (78 ∷ 79 ∷ []) ∷
      ArrowForm (record { params = []; body = (80 ∷ []) }) false ∷ CallForm 72 (73 ∷ 81 ∷ []) ∷ ExprStmtForm 82 ∷
      NameForm (codes "t") ∷ TextForm (codes "map") ∷ NameForm (codes "Array") ∷
      MemberForm 86 (codes "prototype") ∷ MemberForm 87 (codes "map") ∷ MemberForm 88 (codes "call") ∷
      NumberForm (pos 1) ∷ NameForm (codes "print") ∷ CallForm 89 (90 ∷ 91 ∷ []) ∷
      ArrowForm (record { params = []; body = (92 ∷ []) }) false ∷ CallForm 84 (85 ∷ 93 ∷ []) ∷ ExprStmtForm 94 ∷
      NameForm (codes "t") ∷ TextForm (codes "forEach") ∷ NameForm (codes "Array") ∷
      MemberForm 98 (codes "prototype") ∷ MemberForm 99 (codes "forEach") ∷ MemberForm 100 (codes "call") ∷
      NumberForm (pos 1) ∷ NameForm (codes "print") ∷ CallForm 101 (102 ∷ 103 ∷ []) ∷
      ArrowForm (record { params = []; body = (104 ∷ []) }) false ∷ CallForm 96 (97 ∷ 105 ∷ []) ∷
      ExprStmtForm 106 ∷ NameForm (codes "t") ∷ TextForm (codes "filter") ∷ NameForm (codes "Array") ∷
      MemberForm 110 (codes "prototype") ∷ MemberForm 111 (codes "filter") ∷ MemberForm 112 (codes "call") ∷
      NumberForm (pos 1) ∷ NameForm (codes "print") ∷ CallForm 113 (114 ∷ 115 ∷ []) ∷
      ArrowForm (record { params = []; body = (116 ∷ []) }) false ∷ CallForm 108 (109 ∷ 117 ∷ []) ∷
      ExprStmtForm 118 ∷ NameForm (codes "t") ∷ TextForm (codes "reduce") ∷ NameForm (codes "Array") ∷
      MemberForm 122 (codes "prototype") ∷ MemberForm 123 (codes "reduce") ∷ MemberForm 124 (codes "call") ∷
      NumberForm (pos 1) ∷ NameForm (codes "print") ∷ CallForm 125 (126 ∷ 127 ∷ []) ∷
      ArrowForm (record { params = []; body = (128 ∷ []) }) false ∷ CallForm 120 (121 ∷ 129 ∷ []) ∷
      ExprStmtForm 130 ∷ NameForm (codes "t") ∷ TextForm (codes "indexOf") ∷ NameForm (codes "Array") ∷
      MemberForm 134 (codes "prototype") ∷ MemberForm 135 (codes "indexOf") ∷ MemberForm 136 (codes "call") ∷
      NumberForm (pos 1) ∷ NameForm (codes "print") ∷ CallForm 137 (138 ∷ 139 ∷ []) ∷
      ArrowForm (record { params = []; body = (140 ∷ []) }) false ∷ CallForm 132 (133 ∷ 141 ∷ []) ∷
      ExprStmtForm 142 ∷ NameForm (codes "t") ∷ TextForm (codes "slice") ∷ NameForm (codes "Array") ∷
      MemberForm 146 (codes "prototype") ∷ MemberForm 147 (codes "slice") ∷ MemberForm 148 (codes "call") ∷
      NumberForm (pos 1) ∷ NameForm (codes "print") ∷ CallForm 149 (150 ∷ 151 ∷ []) ∷
      ArrowForm (record { params = []; body = (152 ∷ []) }) false ∷ CallForm 144 (145 ∷ 153 ∷ []) ∷
      ExprStmtForm 154 ∷ NameForm (codes "t") ∷ TextForm (codes "join") ∷ NameForm (codes "Array") ∷
      MemberForm 158 (codes "prototype") ∷ MemberForm 159 (codes "join") ∷ MemberForm 160 (codes "call") ∷
      NumberForm (pos 1) ∷ NameForm (codes "print") ∷ CallForm 161 (162 ∷ 163 ∷ []) ∷
      ArrowForm (record { params = []; body = (164 ∷ []) }) false ∷ CallForm 156 (157 ∷ 165 ∷ []) ∷
      ExprStmtForm 166 ∷ NameForm (codes "t") ∷ TextForm (codes "push undefined") ∷ ArrayForm [] ∷
      MemberForm 170 (codes "push") ∷ DeclForm (codes "f") (Some 171) ∷ LetForm (172 ∷ []) ∷
      NameForm (codes "f") ∷ NameForm (codes "print") ∷ CallForm 174 (175 ∷ []) ∷ ReturnForm (Some 176) ∷
      ArrowForm (record { params = []; body = (173 ∷ 177 ∷ []) }) true ∷ CallForm 168 (169 ∷ 178 ∷ []) ∷
      ExprStmtForm 179 ∷ NameForm (codes "t") ∷ TextForm (codes "join undefined") ∷ ArrayForm [] ∷
      MemberForm 183 (codes "join") ∷ DeclForm (codes "f") (Some 184) ∷ LetForm (185 ∷ []) ∷
      NameForm (codes "f") ∷ NameForm (codes "print") ∷ CallForm 187 (188 ∷ []) ∷ ReturnForm (Some 189) ∷
      ArrowForm (record { params = []; body = (186 ∷ 190 ∷ []) }) true ∷ CallForm 181 (182 ∷ 191 ∷ []) ∷
      ExprStmtForm 192 ∷ NameForm (codes "t") ∷ TextForm (codes "hasOwnProperty") ∷ NameForm (codes "Object") ∷
      MemberForm 196 (codes "prototype") ∷ MemberForm 197 (codes "hasOwnProperty") ∷
      MemberForm 198 (codes "call") ∷ TextForm (codes "a") ∷ TextForm (codes "length") ∷
      CallForm 199 (200 ∷ 201 ∷ []) ∷ ArrowForm (record { params = []; body = (202 ∷ []) }) false ∷
      CallForm 194 (195 ∷ 203 ∷ []) ∷ ExprStmtForm 204 ∷ NameForm (codes "t") ∷ TextForm (codes "hasOwn key") ∷
      ObjectForm [] ∷ GroupForm 208 ∷ MemberForm 209 (codes "hasOwnProperty") ∷ ObjectForm [] ∷
      CallForm 210 (211 ∷ []) ∷ ArrowForm (record { params = []; body = (212 ∷ []) }) false ∷
      CallForm 206 (207 ∷ 213 ∷ []) ∷ ExprStmtForm 214 ∷ NameForm (codes "t") ∷
      TextForm (codes "hasOwn undefined") ∷ NumberForm (pos 1) ∷ ValueForm (Written (codes "undefined")) 218 ∷
      ObjectForm (219 ∷ []) ∷ GroupForm 220 ∷ MemberForm 221 (codes "hasOwnProperty") ∷ CallForm 222 [] ∷
      ArrowForm (record { params = []; body = (223 ∷ []) }) false ∷ CallForm 216 (217 ∷ 224 ∷ []) ∷
      ExprStmtForm 225 ∷ NameForm (codes "t") ∷ TextForm (codes "call") ∷ NameForm (codes "Reflect") ∷
      MemberForm 229 (codes "get") ∷ NameForm (codes "Function_prototype") ∷ TextForm (codes "call") ∷
      CallForm 230 (231 ∷ 232 ∷ []) ∷ MemberForm 233 (codes "call") ∷ ObjectForm [] ∷ CallForm 234 (235 ∷ []) ∷
      ArrowForm (record { params = []; body = (236 ∷ []) }) false ∷ CallForm 227 (228 ∷ 237 ∷ []) ∷
      ExprStmtForm 238 ∷ NameForm (codes "t") ∷ TextForm (codes "apply") ∷ NameForm (codes "print") ∷
      MemberForm 242 (codes "apply") ∷ MemberForm 243 (codes "call") ∷ ArrayForm [] ∷ NumberForm (pos 1) ∷
      CallForm 244 (245 ∷ 246 ∷ []) ∷ ArrowForm (record { params = []; body = (247 ∷ []) }) false ∷
      CallForm 240 (241 ∷ 248 ∷ []) ∷ ExprStmtForm 249 ∷ NameForm (codes "t") ∷ TextForm (codes "apply list") ∷
      NameForm (codes "print") ∷ MemberForm 253 (codes "apply") ∷ NumberForm (pos 1) ∷ TextForm (codes "ab") ∷
      CallForm 254 (255 ∷ 256 ∷ []) ∷ ArrowForm (record { params = []; body = (257 ∷ []) }) false ∷
      CallForm 251 (252 ∷ 258 ∷ []) ∷ ExprStmtForm 259 ∷ NameForm (codes "t") ∷ TextForm (codes "apply null") ∷
      NameForm (codes "String") ∷ MemberForm 263 (codes "apply") ∷ NumberForm (pos 1) ∷ LiteralForm (Null) ∷
      CallForm 264 (265 ∷ 266 ∷ []) ∷ ArrowForm (record { params = []; body = (267 ∷ []) }) false ∷
      CallForm 261 (262 ∷ 268 ∷ []) ∷ ExprStmtForm 269 ∷ NameForm (codes "t") ∷ TextForm (codes "apply length") ∷
      NameForm (codes "Array") ∷ MemberForm 273 (codes "apply") ∷ NumberForm (pos 1) ∷ NumberForm (pos 2) ∷
      ValueForm (Written (codes "length")) 276 ∷ ObjectForm (277 ∷ []) ∷ CallForm 274 (275 ∷ 278 ∷ []) ∷
      MemberForm 279 (codes "length") ∷ ArrowForm (record { params = []; body = (280 ∷ []) }) false ∷
      CallForm 271 (272 ∷ 281 ∷ []) ∷ ExprStmtForm 282 ∷ NameForm (codes "t") ∷ TextForm (codes "call args") ∷
      NameForm (codes "Array") ∷ MemberForm 286 (codes "call") ∷ NumberForm (pos 1) ∷ NumberForm (pos 2) ∷
      NumberForm (pos 3) ∷ CallForm 287 (288 ∷ 289 ∷ 290 ∷ []) ∷ MemberForm 291 (codes "join") ∷
      CallForm 292 [] ∷ ArrowForm (record { params = []; body = (293 ∷ []) }) false ∷
      CallForm 284 (285 ∷ 294 ∷ []) ∷ ExprStmtForm 295 ∷ NameForm (codes "t") ∷ TextForm (codes "call one") ∷
      NameForm (codes "Array") ∷ MemberForm 299 (codes "call") ∷ NumberForm (pos 1) ∷ NumberForm (pos 2) ∷
      CallForm 300 (301 ∷ 302 ∷ []) ∷ MemberForm 303 (codes "length") ∷
      ArrowForm (record { params = []; body = (304 ∷ []) }) false ∷ CallForm 297 (298 ∷ 305 ∷ []) ∷
      ExprStmtForm 306 ∷ NameForm (codes "t") ∷ TextForm (codes "Object 1") ∷ NameForm (codes "Object") ∷
      NumberForm (pos 1) ∷ CallForm 310 (311 ∷ []) ∷
      ArrowForm (record { params = []; body = (312 ∷ []) }) false ∷ CallForm 308 (309 ∷ 313 ∷ []) ∷
      ExprStmtForm 314 ∷ NameForm (codes "t") ∷ TextForm (codes "Object new") ∷ NameForm (codes "Object") ∷
      TextForm (codes "a") ∷ NewForm 318 (319 ∷ []) ∷
      ArrowForm (record { params = []; body = (320 ∷ []) }) false ∷ CallForm 316 (317 ∷ 321 ∷ []) ∷
      ExprStmtForm 322 ∷ NameForm (codes "t") ∷ TextForm (codes "Object null") ∷ NameForm (codes "Object") ∷
      LiteralForm (Null) ∷ NewForm 326 (327 ∷ []) ∷ ArrowForm (record { params = []; body = (328 ∷ []) }) false ∷
      CallForm 324 (325 ∷ 329 ∷ []) ∷ ExprStmtForm 330 ∷ NameForm (codes "t") ∷ TextForm (codes "Object self") ∷
      NameForm (codes "Object") ∷ NameForm (codes "print") ∷ CallForm 334 (335 ∷ []) ∷ NameForm (codes "print") ∷
      BinaryForm TripleEqual 336 337 ∷ ArrowForm (record { params = []; body = (338 ∷ []) }) false ∷
      CallForm 332 (333 ∷ 339 ∷ []) ∷ ExprStmtForm 340 ∷ NameForm (codes "t") ∷ TextForm (codes "String") ∷
      NameForm (codes "String") ∷ LiteralForm (Undefined) ∷ CallForm 344 (345 ∷ []) ∷
      ArrowForm (record { params = []; body = (346 ∷ []) }) false ∷ CallForm 342 (343 ∷ 347 ∷ []) ∷
      ExprStmtForm 348 ∷ NameForm (codes "t") ∷ TextForm (codes "String none") ∷ NameForm (codes "String") ∷
      CallForm 352 [] ∷ MemberForm 353 (codes "length") ∷
      ArrowForm (record { params = []; body = (354 ∷ []) }) false ∷ CallForm 350 (351 ∷ 355 ∷ []) ∷
      ExprStmtForm 356 ∷ NameForm (codes "t") ∷ TextForm (codes "String more") ∷ NameForm (codes "String") ∷
      NumberForm (pos 1) ∷ ObjectForm [] ∷ CallForm 360 (361 ∷ 362 ∷ []) ∷
      ArrowForm (record { params = []; body = (363 ∷ []) }) false ∷ CallForm 358 (359 ∷ 364 ∷ []) ∷
      ExprStmtForm 365 ∷ NameForm (codes "t") ∷ TextForm (codes "new String") ∷ NameForm (codes "String") ∷
      TextForm (codes "a") ∷ NewForm 369 (370 ∷ []) ∷
      ArrowForm (record { params = []; body = (371 ∷ []) }) false ∷ CallForm 367 (368 ∷ 372 ∷ []) ∷
      ExprStmtForm 373 ∷ NameForm (codes "t") ∷ TextForm (codes "new print") ∷ NameForm (codes "print") ∷
      NumberForm (pos 1) ∷ NewForm 377 (378 ∷ []) ∷ ArrowForm (record { params = []; body = (379 ∷ []) }) false ∷
      CallForm 375 (376 ∷ 380 ∷ []) ∷ ExprStmtForm 381 ∷ NameForm (codes "t") ∷
      TextForm (codes "labelled more") ∷ NameForm (codes "labelled") ∷ TextForm (codes "a") ∷ ObjectForm [] ∷
      CallForm 385 (386 ∷ 387 ∷ []) ∷ ArrowForm (record { params = []; body = (388 ∷ []) }) false ∷
      CallForm 383 (384 ∷ 389 ∷ []) ∷ ExprStmtForm 390 ∷ NameForm (codes "t") ∷ TextForm (codes "labelled bad") ∷
      NameForm (codes "labelled") ∷ LiteralForm (Truth true) ∷ CallForm 394 (395 ∷ []) ∷
      ArrowForm (record { params = []; body = (396 ∷ []) }) false ∷ CallForm 392 (393 ∷ 397 ∷ []) ∷
      ExprStmtForm 398 ∷ NameForm (codes "t") ∷ TextForm (codes "labelled own") ∷ NameForm (codes "Reflect") ∷
      MemberForm 402 (codes "ownKeys") ∷ NameForm (codes "labelled") ∷ TextForm [] ∷ CallForm 404 (405 ∷ []) ∷
      CallForm 403 (406 ∷ []) ∷ MemberForm 407 (codes "length") ∷
      ArrowForm (record { params = []; body = (408 ∷ []) }) false ∷ CallForm 400 (401 ∷ 409 ∷ []) ∷
      ExprStmtForm 410 ∷ NameForm (codes "t") ∷ TextForm (codes "later value") ∷ NameForm (codes "later") ∷
      NameForm (codes "Reflect") ∷ CallForm 414 (415 ∷ []) ∷
      ArrowForm (record { params = []; body = (416 ∷ []) }) false ∷ CallForm 412 (413 ∷ 417 ∷ []) ∷
      ExprStmtForm 418 ∷ NameForm (codes "t") ∷ TextForm (codes "print object") ∷ NameForm (codes "print") ∷
      TextForm (codes "a") ∷ ObjectForm [] ∷ CallForm 422 (423 ∷ 424 ∷ []) ∷
      ArrowForm (record { params = []; body = (425 ∷ []) }) false ∷ CallForm 420 (421 ∷ 426 ∷ []) ∷
      ExprStmtForm 427 ∷ NameForm (codes "t") ∷ TextForm (codes "Proxy call") ∷ NameForm (codes "Proxy") ∷
      ObjectForm [] ∷ ObjectForm [] ∷ CallForm 431 (432 ∷ 433 ∷ []) ∷
      ArrowForm (record { params = []; body = (434 ∷ []) }) false ∷ CallForm 429 (430 ∷ 435 ∷ []) ∷
      ExprStmtForm 436 ∷ NameForm (codes "t") ∷ TextForm (codes "Proxy built-in") ∷ NameForm (codes "Proxy") ∷
      NameForm (codes "print") ∷ NameForm (codes "Reflect") ∷ NewForm 440 (441 ∷ 442 ∷ []) ∷
      MemberForm 443 (codes "length") ∷ ArrowForm (record { params = []; body = (444 ∷ []) }) false ∷
      CallForm 438 (439 ∷ 445 ∷ []) ∷ ExprStmtForm 446 ∷ NameForm (codes "t") ∷ TextForm (codes "Proxy null") ∷
      NameForm (codes "Proxy") ∷ ObjectForm [] ∷ LiteralForm (Null) ∷ NewForm 450 (451 ∷ 452 ∷ []) ∷
      ArrowForm (record { params = []; body = (453 ∷ []) }) false ∷ CallForm 448 (449 ∷ 454 ∷ []) ∷
      ExprStmtForm 455 ∷ NameForm (codes "t") ∷ TextForm (codes "revocable nested") ∷ NameForm (codes "Proxy") ∷
      MemberForm 459 (codes "revocable") ∷ NameForm (codes "Proxy") ∷ ObjectForm [] ∷ ObjectForm [] ∷
      NewForm 461 (462 ∷ 463 ∷ []) ∷ ObjectForm [] ∷ CallForm 460 (464 ∷ 465 ∷ []) ∷
      ArrowForm (record { params = []; body = (466 ∷ []) }) false ∷ CallForm 457 (458 ∷ 467 ∷ []) ∷
      ExprStmtForm 468 ∷ NameForm (codes "t") ∷ TextForm (codes "revoke form") ∷ NameForm (codes "Proxy") ∷
      MemberForm 472 (codes "revocable") ∷ ObjectForm [] ∷ ObjectForm [] ∷ CallForm 473 (474 ∷ 475 ∷ []) ∷
      DeclForm (codes "r") (Some 476) ∷ LetForm (477 ∷ []) ∷ NameForm (codes "Reflect") ∷
      MemberForm 479 (codes "ownKeys") ∷ NameForm (codes "r") ∷ CallForm 480 (481 ∷ []) ∷
      MemberForm 482 (codes "join") ∷ CallForm 483 [] ∷ NameForm (codes "r") ∷ MemberForm 485 (codes "revoke") ∷
      MemberForm 486 (codes "length") ∷ BinaryForm Plus 484 487 ∷ NameForm (codes "r") ∷
      MemberForm 489 (codes "revoke") ∷ MemberForm 490 (codes "name") ∷ BinaryForm Plus 488 491 ∷
      NameForm (codes "Reflect") ∷ MemberForm 493 (codes "ownKeys") ∷ NameForm (codes "r") ∷
      MemberForm 495 (codes "revoke") ∷ CallForm 494 (496 ∷ []) ∷ MemberForm 497 (codes "join") ∷
      CallForm 498 [] ∷ BinaryForm Plus 492 499 ∷ ReturnForm (Some 500) ∷
      ArrowForm (record { params = []; body = (478 ∷ 501 ∷ []) }) true ∷ CallForm 470 (471 ∷ 502 ∷ []) ∷
      ExprStmtForm 503 ∷ NameForm (codes "t") ∷ TextForm (codes "construct Proxy") ∷ NameForm (codes "Reflect") ∷
      MemberForm 507 (codes "construct") ∷ NameForm (codes "Proxy") ∷ NumberForm (pos 4) ∷
      ValueForm (Written (codes "a")) 510 ∷ ObjectForm (511 ∷ []) ∷ ObjectForm [] ∷ ArrayForm (512 ∷ 513 ∷ []) ∷
      NameForm (codes "Array") ∷ CallForm 508 (509 ∷ 514 ∷ 515 ∷ []) ∷ MemberForm 516 (codes "a") ∷
      ArrowForm (record { params = []; body = (517 ∷ []) }) false ∷ CallForm 505 (506 ∷ 518 ∷ []) ∷
      ExprStmtForm 519 ∷ NameForm (codes "t") ∷ TextForm (codes "create") ∷ NameForm (codes "Object") ∷
      MemberForm 523 (codes "create") ∷ CallForm 524 [] ∷
      ArrowForm (record { params = []; body = (525 ∷ []) }) false ∷ CallForm 521 (522 ∷ 526 ∷ []) ∷
      ExprStmtForm 527 ∷ NameForm (codes "t") ∷ TextForm (codes "create second") ∷ NameForm (codes "Object") ∷
      MemberForm 531 (codes "create") ∷ LiteralForm (Null) ∷ LiteralForm (Null) ∷ CallForm 532 (533 ∷ 534 ∷ []) ∷
      ArrowForm (record { params = []; body = (535 ∷ []) }) false ∷ CallForm 529 (530 ∷ 536 ∷ []) ∷
      ExprStmtForm 537 ∷ NameForm (codes "t") ∷ TextForm (codes "create null") ∷ NameForm (codes "Reflect") ∷
      MemberForm 541 (codes "getPrototypeOf") ∷ NameForm (codes "Object") ∷ MemberForm 543 (codes "create") ∷
      LiteralForm (Null) ∷ CallForm 544 (545 ∷ []) ∷ CallForm 542 (546 ∷ []) ∷
      ArrowForm (record { params = []; body = (547 ∷ []) }) false ∷ CallForm 539 (540 ∷ 548 ∷ []) ∷
      ExprStmtForm 549 ∷ NameForm (codes "t") ∷ TextForm (codes "keys text") ∷ NameForm (codes "Object") ∷
      MemberForm 553 (codes "keys") ∷ TextForm (codes "ab") ∷ CallForm 554 (555 ∷ []) ∷
      ArrowForm (record { params = []; body = (556 ∷ []) }) false ∷ CallForm 551 (552 ∷ 557 ∷ []) ∷
      ExprStmtForm 558 ∷ NameForm (codes "t") ∷ TextForm (codes "freeze text") ∷ NameForm (codes "Object") ∷
      MemberForm 562 (codes "freeze") ∷ TextForm (codes "ab") ∷ CallForm 563 (564 ∷ []) ∷
      ArrowForm (record { params = []; body = (565 ∷ []) }) false ∷ CallForm 560 (561 ∷ 566 ∷ []) ∷
      ExprStmtForm 567 ∷ NameForm (codes "t") ∷ TextForm (codes "freeze none") ∷ NameForm (codes "Object") ∷
      MemberForm 571 (codes "freeze") ∷ CallForm 572 [] ∷
      ArrowForm (record { params = []; body = (573 ∷ []) }) false ∷ CallForm 569 (570 ∷ 574 ∷ []) ∷
      ExprStmtForm 575 ∷
      ScriptForm (53 ∷ 59 ∷ 71 ∷ 83 ∷ 95 ∷ 107 ∷ 119 ∷ 131 ∷ 143 ∷ 155 ∷ 167 ∷ 180 ∷ 193 ∷ 205 ∷ 215 ∷ 226 ∷
      239 ∷ 250 ∷ 260 ∷ 270 ∷ 283 ∷ 296 ∷ 307 ∷ 315 ∷ 323 ∷ 331 ∷ 341 ∷ 349 ∷ 357 ∷ 366 ∷ 374 ∷ 382 ∷ 391 ∷
      399 ∷ 411 ∷ 419 ∷ 428 ∷ 437 ∷ 447 ∷ 456 ∷ 469 ∷ 504 ∷ 520 ∷ 528 ∷ 538 ∷ 550 ∷ 559 ∷ 568 ∷ 576 ∷ []) ∷
      [];
  names =
      bound 31 (codes "e") false ∷ bound 53 (codes "n") false ∷ bound 53 (codes "f") false ∷
      bound 53 (codes "r") false ∷ bound 178 (codes "f") false ∷ bound 191 (codes "f") false ∷
      bound 502 (codes "r") false ∷ bound 577 (codes "t") false ∷ bound 577 (codes "Function_prototype") false ∷
      [];
}

abbrev right : Program
right = record {
  forms =
      ScriptForm [] ∷
      [];
  names = [];
}

abbrev policy : List Rule
policy = []

abbrev schedule : List Letter
schedule = []

abbrev told : List (List ℕ)
told =
    (codes "L push TE") ∷
    (codes "L pop TE") ∷
    (codes "L map TE") ∷
    (codes "L forEach TE") ∷
    (codes "L filter TE") ∷
    (codes "L reduce TE") ∷
    (codes "L indexOf TE") ∷
    (codes "L slice TE") ∷
    (codes "L join TE") ∷
    (codes "L push undefined TE") ∷
    (codes "L join undefined TE") ∷
    (codes "L hasOwnProperty TE") ∷
    (codes "L hasOwn key TE") ∷
    (codes "L hasOwn undefined true") ∷
    (codes "L call TE") ∷
    (codes "L apply TE") ∷
    (codes "L apply list TE") ∷
    (codes "L apply null ") ∷
    (codes "L apply length 2") ∷
    (codes "L call args 2,3") ∷
    (codes "L call one 2") ∷
    (codes "L Object 1 TE") ∷
    (codes "L Object new TE") ∷
    (codes "L Object null obj") ∷
    (codes "L Object self true") ∷
    (codes "L String undefined") ∷
    (codes "L String none 0") ∷
    (codes "L String more 1") ∷
    (codes "L new String TE") ∷
    (codes "L new print TE") ∷
    (codes "L labelled more obj") ∷
    (codes "L labelled bad TE") ∷
    (codes "L labelled own 0") ∷
    (codes "L later value TE") ∷
    (codes "L print object TE") ∷
    (codes "L Proxy call TE") ∷
    (codes "L Proxy built-in 0") ∷
    (codes "L Proxy null TE") ∷
    (codes "L revocable nested TE") ∷
    (codes "L revoke form proxy,revoke0length,name") ∷
    (codes "L construct Proxy 4") ∷
    (codes "L create TE") ∷
    (codes "L create second TE") ∷
    (codes "L create null null") ∷
    (codes "L keys text TE") ∷
    (codes "L freeze text ab") ∷
    (codes "L freeze none undefined") ∷
    (codes "= done") ∷
    []

abbrev stage : Stage
stage = Story (left ∷ right ∷ []) policy schedule 1000000

pub Row : Type 0
Row = Shows false false stage told

pub row : Row
unfolding Row given Validate encode_utf8
row = (refl, refl)
