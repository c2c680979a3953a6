use Rattle.std.specs.Prelude.{refl, ℕ, List, [], ◌∷◌, ◌++◌, true, false, Some, None, codes, pos}
use Rattle.std.specs.Char.{encode_utf8}
use Rattle.mb_tree.specs.declared.kind.Sign.TheVariants.{Plus, Times, TripleEqual, NotDoubleEqual, Instanceof, Typeof}
use Rattle.mb_desc.specs.Validate.{Validate}
use Rattle.mb_world.specs.Value.{Undefined, Null}
use Rattle.mb_world.specs.Form.{Written, ScriptForm, LetForm, DeclForm, FunctionDeclForm, BlockForm, ExprStmtForm, ReturnForm, TryForm, ParamForm, ThisForm, NameForm, NumberForm, TextForm, LiteralForm, ArrayForm, ObjectForm, ValueForm, MethodForm, GetterForm, FunctionForm, ArrowForm, GroupForm, MemberForm, AssignForm, CallForm, NewForm, CondForm, AndForm, UnaryForm, BinaryForm}
use Rattle.mb_world.specs.Graph.{Program, Rule}
use Rattle.mb_model.specs.Engine.{given}
use Rattle.mb_model.specs.Story.{Stage, Letter, Story}
use Rattle.mb_rows.specs.Shows.{bound, Shows}

-- run
-- left
--     function t(n, f) { let r; try { r = f(); } catch (e) { r = e instanceof TypeError ? "TE" : e instanceof RangeError ? "RE" : e instanceof ReferenceError ? "FE" : e; } print(n, typeof r === "object" && r !== null ? "obj" : typeof r === "function" ? "fun" : r); }
--     let Function_prototype = Object.getPrototypeOf(print);
--     t("seal null", () => Object.seal(null));
--     t("isFrozen none", () => Object.isFrozen());
--     t("isFrozen Array.prototype", () => Object.isFrozen(Array.prototype) && Object.isFrozen(print) && Object.isFrozen(Object.prototype));
--     t("setProto prim", () => Object.setPrototypeOf(5, {}));
--     t("setProto undefined", () => Object.setPrototypeOf(undefined, {}));
--     t("setProto bad", () => Object.setPrototypeOf(5, undefined));
--     t("setProto built-in", () => Object.setPrototypeOf(print, Object.getPrototypeOf(print)) === print);
--     t("setProto built-in other", () => Object.setPrototypeOf(print, null));
--     t("getProto text", () => Object.getPrototypeOf("a"));
--     t("define prim", () => Object.defineProperty(1, "a", { }));
--     t("define key", () => Object.defineProperty({}, {}, 1));
--     t("define desc", () => Object.defineProperty({}, "a"));
--     t("define same on built-in", () => Object.defineProperty(print, "length", { value: 0 }) === print);
--     t("define on built-in", () => Object.defineProperty(print, "q", {}));
--     t("gopd", () => Object.getOwnPropertyDescriptor(1, "a"));
--     t("R.apply", () => Reflect.apply(print));
--     t("R.apply first", () => Reflect.apply({}, 1, 1));
--     t("R.construct nt", () => Reflect.construct(Array, [], undefined));
--     t("R.construct arrow", () => Reflect.construct(() => 1, []));
--     t("R.construct list", () => Reflect.construct(Array));
--     t("R.get receiver", () => Reflect.get({ get a() { return this; } }, "a", undefined));
--     t("R.get text", () => Reflect.get("ab", "length"));
--     t("R.set receiver", () => Reflect.set({}, "a", 1, undefined));
--     t("R.set none", () => { let o = {}; return Reflect.set(o) + "" + Reflect.ownKeys(o).join(); });
--     t("R.setPrototypeOf", () => Reflect.setPrototypeOf({}));
--     t("R.define none", () => Reflect.defineProperty({}, "a"));
--     t("R.ownKeys array", () => Reflect.ownKeys(["q"]).join());
--     t("R.delete", () => Reflect.deleteProperty({}));
--     t("R.has", () => Reflect.has({ undefined: 1 }));
--     t("isArray none", () => Array.isArray());
--     t("isArray prototype", () => Array.isArray(Array.prototype));
--     t("Error object", () => new Error({}));
--     t("Error null", () => new Error(null).message);
--     t("Error keys", () => Reflect.ownKeys(Error("m")).join() + Object.keys(Error("m")).join());
--     t("Error none", () => Reflect.ownKeys(new RangeError()).length + new RangeError().message + new RangeError().name);
--     t("set message", () => { new Error().message = "a"; });
--     t("set message own", () => { let e = new Error("a"); e.message = "b"; return e.message; });
--     t("Error proto", () => Reflect.getPrototypeOf(TypeError) === Error && Reflect.getPrototypeOf(TypeError.prototype) === Error.prototype);
--     t("constructor", () => Reflect.ownKeys(TypeError.prototype).join());
--     t("Object keys", () => Reflect.ownKeys(Object).join());
--     t("Array keys", () => Reflect.ownKeys(Array).join());
--     t("Proxy keys", () => Reflect.ownKeys(Proxy).join());
--     t("Reflect keys", () => Reflect.ownKeys(Reflect).join());
--     t("Array.prototype keys", () => Reflect.ownKeys(Array.prototype).join());
--     t("function keys", () => Reflect.ownKeys(function (a, b) { }).join() + (function (a, b) { }).length);
--     t("method keys", () => { let o = { m(a) { } }; return Reflect.ownKeys(o.m).join() + o.m.name; });
--     t("call.length", () => print.call.length + print.apply.length * 10 + print.call.name);
-- right
--     (empty)

abbrev left : Program
left = record {
  forms =
      ParamForm (codes "n") ∷ ParamForm (codes "f") ∷ DeclForm (codes "r") None ∷ LetForm (2 ∷ []) ∷
      NameForm (codes "r") ∷ NameForm (codes "f") ∷ CallForm 5 [] ∷ AssignForm 4 6 ∷ ExprStmtForm 7 ∷
      BlockForm (8 ∷ []) ∷ ParamForm (codes "e") ∷ NameForm (codes "r") ∷ NameForm (codes "e") ∷
      NameForm (codes "TypeError") ∷ BinaryForm Instanceof 12 13 ∷ TextForm (codes "TE") ∷ NameForm (codes "e") ∷
      NameForm (codes "RangeError") ∷ BinaryForm Instanceof 16 17 ∷ TextForm (codes "RE") ∷
      NameForm (codes "e") ∷ NameForm (codes "ReferenceError") ∷ BinaryForm Instanceof 20 21 ∷
      TextForm (codes "FE") ∷ NameForm (codes "e") ∷ CondForm 22 23 24 ∷ CondForm 18 19 25 ∷ CondForm 14 15 26 ∷
      AssignForm 11 27 ∷ ExprStmtForm 28 ∷ BlockForm (29 ∷ []) ∷ TryForm 9 (Some (codes "e")) (Some 30) None ∷
      NameForm (codes "print") ∷ NameForm (codes "n") ∷ NameForm (codes "r") ∷ UnaryForm Typeof 34 ∷
      TextForm (codes "object") ∷ BinaryForm TripleEqual 35 36 ∷ NameForm (codes "r") ∷ LiteralForm (Null) ∷
      BinaryForm NotDoubleEqual 38 39 ∷ AndForm 37 40 ∷ TextForm (codes "obj") ∷ NameForm (codes "r") ∷
      UnaryForm Typeof 43 ∷ TextForm (codes "function") ∷ BinaryForm TripleEqual 44 45 ∷ TextForm (codes "fun") ∷
      NameForm (codes "r") ∷ CondForm 46 47 48 ∷ CondForm 41 42 49 ∷ CallForm 32 (33 ∷ 50 ∷ []) ∷
      ExprStmtForm 51 ∷
      FunctionDeclForm (codes "t") (record { params = (codes "n") ∷ (codes "f") ∷ []; body = (3 ∷ 31 ∷ 52 ∷ []) }) ∷
      NameForm (codes "Object") ∷ MemberForm 54 (codes "getPrototypeOf") ∷ NameForm (codes "print") ∷
      CallForm 55 (56 ∷ []) ∷ DeclForm (codes "Function_prototype") (Some 57) ∷ LetForm (58 ∷ []) ∷
      NameForm (codes "t") ∷ TextForm (codes "seal null") ∷ NameForm (codes "Object") ∷
      MemberForm 62 (codes "seal") ∷ LiteralForm (Null) ∷ CallForm 63 (64 ∷ []) ∷
      ArrowForm (record { params = []; body = (65 ∷ []) }) false ∷ CallForm 60 (61 ∷ 66 ∷ []) ∷ ExprStmtForm 67 ∷
      NameForm (codes "t") ∷ TextForm (codes "isFrozen none") ∷ NameForm (codes "Object") ∷
      MemberForm 71 (codes "isFrozen") ∷ CallForm 72 [] ∷
      ArrowForm (record { params = []; body = (73 ∷ []) }) false ∷ CallForm 69 (70 ∷ 74 ∷ []) ∷ ExprStmtForm 75 ∷
      NameForm (codes "t") ∷ TextForm (codes "isFrozen Array.prototype") ∷ NameForm (codes "Object") ∷
      MemberForm 79 (codes "isFrozen") ∷ NameForm (codes "Array") ∷ MemberForm 81 (codes "prototype") ∷
      CallForm 80 (82 ∷ []) ∷ NameForm (codes "Object") ∷ MemberForm 84 (codes "isFrozen") ∷
      NameForm (codes "print") ∷ CallForm 85 (86 ∷ []) ∷ AndForm 83 87 ∷ NameForm (codes "Object") ∷
      MemberForm 89 (codes "isFrozen") ∷ NameForm (codes "Object") ∷ MemberForm 91 (codes "prototype") ∷
      CallForm 90 (92 ∷ []) ∷ AndForm 88 93 ∷ ArrowForm (record { params = []; body = (94 ∷ []) }) false ∷
      CallForm 77 (78 ∷ 95 ∷ []) ∷ ExprStmtForm 96 ∷ NameForm (codes "t") ∷ TextForm (codes "setProto prim") ∷
      NameForm (codes "Object") ∷ MemberForm 100 (codes "setPrototypeOf") ∷ NumberForm (pos 5) ∷ ObjectForm [] ∷
      CallForm 101 (102 ∷ 103 ∷ []) ∷ ArrowForm (record { params = []; body = (104 ∷ []) }) false ∷
      CallForm 98 (99 ∷ 105 ∷ []) ∷ ExprStmtForm 106 ∷ NameForm (codes "t") ∷
      TextForm (codes "setProto undefined") ∷ NameForm (codes "Object") ∷
      MemberForm 110 (codes "setPrototypeOf") ∷ LiteralForm (Undefined) ∷ ObjectForm [] ∷
      CallForm 111 (112 ∷ 113 ∷ []) ∷ ArrowForm (record { params = []; body = (114 ∷ []) }) false ∷
      CallForm 108 (109 ∷ 115 ∷ []) ∷ ExprStmtForm 116 ∷ NameForm (codes "t") ∷ TextForm (codes "setProto bad") ∷
      NameForm (codes "Object") ∷ MemberForm 120 (codes "setPrototypeOf") ∷ NumberForm (pos 5) ∷
      LiteralForm (Undefined) ∷ CallForm 121 (122 ∷ 123 ∷ []) ∷
      ArrowForm (record { params = []; body = (124 ∷ []) }) false ∷ CallForm 118 (119 ∷ 125 ∷ []) ∷
      ExprStmtForm 126 ∷ NameForm (codes "t") ∷ TextForm (codes "setProto built-in") ∷
      NameForm (codes "Object") ∷ MemberForm 130 (codes "setPrototypeOf") ∷ NameForm (codes "print") ∷
      NameForm (codes "Object") ∷ MemberForm 133 (codes "getPrototypeOf") ∷ NameForm (codes "print") ∷
      CallForm 134 (135 ∷ []) ∷ CallForm 131 (132 ∷ 136 ∷ []) ∷ NameForm (codes "print") ∷
      BinaryForm TripleEqual 137 138 ∷ ArrowForm (record { params = []; body = (139 ∷ []) }) false ∷
      CallForm 128 (129 ∷ 140 ∷ []) ∷ ExprStmtForm 141 ∷ NameForm (codes "t") ∷
      TextForm (codes "setProto built-in other") ∷ NameForm (codes "Object") ∷
      MemberForm 145 (codes "setPrototypeOf") ∷ NameForm (codes "print") ∷ LiteralForm (Null) ∷
      CallForm 146 (147 ∷ 148 ∷ []) ∷ ArrowForm (record { params = []; body = (149 ∷ []) }) false ∷
      CallForm 143 (144 ∷ 150 ∷ []) ∷ ExprStmtForm 151 ∷ NameForm (codes "t") ∷
      TextForm (codes "getProto text") ∷ NameForm (codes "Object") ∷ MemberForm 155 (codes "getPrototypeOf") ∷
      TextForm (codes "a") ∷ CallForm 156 (157 ∷ []) ∷
      ArrowForm (record { params = []; body = (158 ∷ []) }) false ∷ CallForm 153 (154 ∷ 159 ∷ []) ∷
      ExprStmtForm 160 ∷ NameForm (codes "t") ∷ TextForm (codes "define prim") ∷ NameForm (codes "Object") ∷
      MemberForm 164 (codes "defineProperty") ∷ NumberForm (pos 1) ∷ TextForm (codes "a") ∷ ObjectForm [] ∷
      CallForm 165 (166 ∷ 167 ∷ 168 ∷ []) ∷ ArrowForm (record { params = []; body = (169 ∷ []) }) false ∷
      CallForm 162 (163 ∷ 170 ∷ []) ∷ ExprStmtForm 171 ∷ NameForm (codes "t") ∷ TextForm (codes "define key") ∷
      NameForm (codes "Object") ∷ MemberForm 175 (codes "defineProperty") ∷ ObjectForm [] ∷ ObjectForm [] ∷
      NumberForm (pos 1) ∷ CallForm 176 (177 ∷ 178 ∷ 179 ∷ []) ∷
      ArrowForm (record { params = []; body = (180 ∷ []) }) false ∷ CallForm 173 (174 ∷ 181 ∷ []) ∷
      ExprStmtForm 182 ∷ NameForm (codes "t") ∷ TextForm (codes "define desc") ∷ NameForm (codes "Object") ∷
      MemberForm 186 (codes "defineProperty") ∷ ObjectForm [] ∷ TextForm (codes "a") ∷
      CallForm 187 (188 ∷ 189 ∷ []) ∷ ArrowForm (record { params = []; body = (190 ∷ []) }) false ∷
      CallForm 184 (185 ∷ 191 ∷ []) ∷ ExprStmtForm 192 ∷ NameForm (codes "t") ∷
      TextForm (codes "define same on built-in") ∷ NameForm (codes "Object") ∷
      MemberForm 196 (codes "defineProperty") ∷ NameForm (codes "print") ∷ TextForm (codes "length") ∷
      NumberForm (pos 0) ∷ ValueForm (Written (codes "value")) 200 ∷ ObjectForm (201 ∷ []) ∷
      CallForm 197 (198 ∷ 199 ∷ 202 ∷ []) ∷ NameForm (codes "print") ∷ BinaryForm TripleEqual 203 204 ∷
      ArrowForm (record { params = []; body = (205 ∷ []) }) false ∷ CallForm 194 (195 ∷ 206 ∷ []) ∷
      ExprStmtForm 207 ∷ NameForm (codes "t") ∷ TextForm (codes "define on built-in") ∷
      NameForm (codes "Object") ∷ MemberForm 211 (codes "defineProperty") ∷ NameForm (codes "print") ∷
      TextForm (codes "q") ∷ ObjectForm [] ∷ CallForm 212 (213 ∷ 214 ∷ 215 ∷ []) ∷
      ArrowForm (record { params = []; body = (216 ∷ []) }) false ∷ CallForm 209 (210 ∷ 217 ∷ []) ∷
      ExprStmtForm 218 ∷ NameForm (codes "t") ∷ TextForm (codes "gopd") ∷ NameForm (codes "Object") ∷
      MemberForm 222 (codes "getOwnPropertyDescriptor") ∷ NumberForm (pos 1) ∷ TextForm (codes "a") ∷
      CallForm 223 (224 ∷ 225 ∷ []) ∷ ArrowForm (record { params = []; body = (226 ∷ []) }) false ∷
      CallForm 220 (221 ∷ 227 ∷ []) ∷ ExprStmtForm 228 ∷ NameForm (codes "t") ∷ TextForm (codes "R.apply") ∷
      NameForm (codes "Reflect") ∷ MemberForm 232 (codes "apply") ∷ NameForm (codes "print") ∷
      CallForm 233 (234 ∷ []) ∷ ArrowForm (record { params = []; body = (235 ∷ []) }) false ∷
      CallForm 230 (231 ∷ 236 ∷ []) ∷ ExprStmtForm 237 ∷ NameForm (codes "t") ∷
      TextForm (codes "R.apply first") ∷ NameForm (codes "Reflect") ∷ MemberForm 241 (codes "apply") ∷
      ObjectForm [] ∷ NumberForm (pos 1) ∷ NumberForm (pos 1) ∷ CallForm 242 (243 ∷ 244 ∷ 245 ∷ []) ∷
      ArrowForm (record { params = []; body = (246 ∷ []) }) false ∷ CallForm 239 (240 ∷ 247 ∷ []) ∷
      ExprStmtForm 248 ∷ NameForm (codes "t") ∷ TextForm (codes "R.construct nt") ∷ NameForm (codes "Reflect") ∷
      MemberForm 252 (codes "construct") ∷ NameForm (codes "Array") ∷ ArrayForm [] ∷ LiteralForm (Undefined) ∷
      CallForm 253 (254 ∷ 255 ∷ 256 ∷ []) ∷ ArrowForm (record { params = []; body = (257 ∷ []) }) false ∷
      CallForm 250 (251 ∷ 258 ∷ []) ∷ ExprStmtForm 259 ∷ NameForm (codes "t") ∷
      TextForm (codes "R.construct arrow") ∷ NameForm (codes "Reflect") ∷ MemberForm 263 (codes "construct") ∷
      NumberForm (pos 1) ∷ ArrowForm (record { params = []; body = (265 ∷ []) }) false ∷ ArrayForm [] ∷
      CallForm 264 (266 ∷ 267 ∷ []) ∷ ArrowForm (record { params = []; body = (268 ∷ []) }) false ∷
      CallForm 261 (262 ∷ 269 ∷ []) ∷ ExprStmtForm 270 ∷ NameForm (codes "t") ∷
      TextForm (codes "R.construct list") ∷ NameForm (codes "Reflect") ∷ MemberForm 274 (codes "construct") ∷
      NameForm (codes "Array") ∷ CallForm 275 (276 ∷ []) ∷
      ArrowForm (record { params = []; body = (277 ∷ []) }) false ∷ CallForm 272 (273 ∷ 278 ∷ []) ∷
      ExprStmtForm 279 ∷ NameForm (codes "t") ∷ TextForm (codes "R.get receiver") ∷ NameForm (codes "Reflect") ∷
      MemberForm 283 (codes "get") ∷ ThisForm ∷ ReturnForm (Some 285) ∷
      GetterForm (Written (codes "a")) (record { params = []; body = (286 ∷ []) }) ∷ ObjectForm (287 ∷ []) ∷
      TextForm (codes "a") ∷ LiteralForm (Undefined) ∷ CallForm 284 (288 ∷ 289 ∷ 290 ∷ []) ∷
      ArrowForm (record { params = []; body = (291 ∷ []) }) false ∷ CallForm 281 (282 ∷ 292 ∷ []) ∷
      ExprStmtForm 293 ∷ NameForm (codes "t") ∷ TextForm (codes "R.get text") ∷ NameForm (codes "Reflect") ∷
      MemberForm 297 (codes "get") ∷ TextForm (codes "ab") ∷ TextForm (codes "length") ∷
      CallForm 298 (299 ∷ 300 ∷ []) ∷ ArrowForm (record { params = []; body = (301 ∷ []) }) false ∷
      CallForm 295 (296 ∷ 302 ∷ []) ∷ ExprStmtForm 303 ∷ NameForm (codes "t") ∷
      TextForm (codes "R.set receiver") ∷ NameForm (codes "Reflect") ∷ MemberForm 307 (codes "set") ∷
      ObjectForm [] ∷ TextForm (codes "a") ∷ NumberForm (pos 1) ∷ LiteralForm (Undefined) ∷
      CallForm 308 (309 ∷ 310 ∷ 311 ∷ 312 ∷ []) ∷ ArrowForm (record { params = []; body = (313 ∷ []) }) false ∷
      CallForm 305 (306 ∷ 314 ∷ []) ∷ ExprStmtForm 315 ∷ NameForm (codes "t") ∷ TextForm (codes "R.set none") ∷
      ObjectForm [] ∷ DeclForm (codes "o") (Some 319) ∷ LetForm (320 ∷ []) ∷ NameForm (codes "Reflect") ∷
      MemberForm 322 (codes "set") ∷ NameForm (codes "o") ∷ CallForm 323 (324 ∷ []) ∷ TextForm [] ∷
      BinaryForm Plus 325 326 ∷ NameForm (codes "Reflect") ∷ MemberForm 328 (codes "ownKeys") ∷
      NameForm (codes "o") ∷ CallForm 329 (330 ∷ []) ∷ MemberForm 331 (codes "join") ∷ CallForm 332 [] ∷
      BinaryForm Plus 327 333 ∷ ReturnForm (Some 334) ∷
      ArrowForm (record { params = []; body = (321 ∷ 335 ∷ []) }) true ∷ CallForm 317 (318 ∷ 336 ∷ []) ∷
      ExprStmtForm 337 ∷ NameForm (codes "t") ∷ TextForm (codes "R.setPrototypeOf") ∷
      NameForm (codes "Reflect") ∷ MemberForm 341 (codes "setPrototypeOf") ∷ ObjectForm [] ∷
      CallForm 342 (343 ∷ []) ∷ ArrowForm (record { params = []; body = (344 ∷ []) }) false ∷
      CallForm 339 (340 ∷ 345 ∷ []) ∷ ExprStmtForm 346 ∷ NameForm (codes "t") ∷
      TextForm (codes "R.define none") ∷ NameForm (codes "Reflect") ∷ MemberForm 350 (codes "defineProperty") ∷
      ObjectForm [] ∷ TextForm (codes "a") ∷ CallForm 351 (352 ∷ 353 ∷ []) ∷
      ArrowForm (record { params = []; body = (354 ∷ []) }) false ∷ CallForm 348 (349 ∷ 355 ∷ []) ∷
      ExprStmtForm 356 ∷ NameForm (codes "t") ∷ TextForm (codes "R.ownKeys array") ∷ NameForm (codes "Reflect") ∷
      MemberForm 360 (codes "ownKeys") ∷ TextForm (codes "q") ∷ ArrayForm (362 ∷ []) ∷ CallForm 361 (363 ∷ []) ∷
      MemberForm 364 (codes "join") ∷ CallForm 365 [] ∷
      ArrowForm (record { params = []; body = (366 ∷ []) }) false ∷ CallForm 358 (359 ∷ 367 ∷ []) ∷
      ExprStmtForm 368 ∷ NameForm (codes "t") ∷ TextForm (codes "R.delete") ∷ NameForm (codes "Reflect") ∷
      MemberForm 372 (codes "deleteProperty") ∷ ObjectForm [] ∷ CallForm 373 (374 ∷ []) ∷
      ArrowForm (record { params = []; body = (375 ∷ []) }) false ∷ CallForm 370 (371 ∷ 376 ∷ []) ∷
      ExprStmtForm 377 ∷ NameForm (codes "t") ∷ TextForm (codes "R.has") ∷ NameForm (codes "Reflect") ∷
      MemberForm 381 (codes "has") ∷ NumberForm (pos 1) ∷ ValueForm (Written (codes "undefined")) 383 ∷
      ObjectForm (384 ∷ []) ∷ CallForm 382 (385 ∷ []) ∷
      ArrowForm (record { params = []; body = (386 ∷ []) }) false ∷ CallForm 379 (380 ∷ 387 ∷ []) ∷
      ExprStmtForm 388 ∷ NameForm (codes "t") ∷ TextForm (codes "isArray none") ∷ NameForm (codes "Array") ∷
      MemberForm 392 (codes "isArray") ∷ CallForm 393 [] ∷
      ArrowForm (record { params = []; body = (394 ∷ []) }) false ∷ CallForm 390 (391 ∷ 395 ∷ []) ∷
      ExprStmtForm 396 ∷ NameForm (codes "t") ∷ TextForm (codes "isArray prototype") ∷ NameForm (codes "Array") ∷
      MemberForm 400 (codes "isArray") ∷ NameForm (codes "Array") ∷ MemberForm 402 (codes "prototype") ∷
      CallForm 401 (403 ∷ []) ∷ ArrowForm (record { params = []; body = (404 ∷ []) }) false ∷
      CallForm 398 (399 ∷ 405 ∷ []) ∷ ExprStmtForm 406 ∷ NameForm (codes "t") ∷ TextForm (codes "Error object") ∷
      NameForm (codes "Error") ∷ ObjectForm [] ∷ NewForm 410 (411 ∷ []) ∷
      ArrowForm (record { params = []; body = (412 ∷ []) }) false ∷ CallForm 408 (409 ∷ 413 ∷ []) ∷
      ExprStmtForm 414 ∷ NameForm (codes "t") ∷ TextForm (codes "Error null") ∷ NameForm (codes "Error") ∷
      LiteralForm (Null) ∷ NewForm 418 (419 ∷ []) ∷ MemberForm 420 (codes "message") ∷
      ArrowForm (record { params = []; body = (421 ∷ []) }) false ∷ CallForm 416 (417 ∷ 422 ∷ []) ∷
      ExprStmtForm 423 ∷ NameForm (codes "t") ∷ TextForm (codes "Error keys") ∷ NameForm (codes "Reflect") ∷
      MemberForm 427 (codes "ownKeys") ∷ NameForm (codes "Error") ∷ TextForm (codes "m") ∷
      CallForm 429 (430 ∷ []) ∷ CallForm 428 (431 ∷ []) ∷ MemberForm 432 (codes "join") ∷ CallForm 433 [] ∷
      NameForm (codes "Object") ∷ MemberForm 435 (codes "keys") ∷ NameForm (codes "Error") ∷
      TextForm (codes "m") ∷ CallForm 437 (438 ∷ []) ∷ CallForm 436 (439 ∷ []) ∷ MemberForm 440 (codes "join") ∷
      CallForm 441 [] ∷ BinaryForm Plus 434 442 ∷ ArrowForm (record { params = []; body = (443 ∷ []) }) false ∷
      CallForm 425 (426 ∷ 444 ∷ []) ∷ ExprStmtForm 445 ∷ NameForm (codes "t") ∷ TextForm (codes "Error none") ∷
      NameForm (codes "Reflect") ∷ MemberForm 449 (codes "ownKeys") ∷ NameForm (codes "RangeError") ∷
      NewForm 451 [] ∷ CallForm 450 (452 ∷ []) ∷ MemberForm 453 (codes "length") ∷
      NameForm (codes "RangeError") ∷ NewForm 455 [] ∷ MemberForm 456 (codes "message") ∷
      BinaryForm Plus 454 457 ∷ NameForm (codes "RangeError") ∷ NewForm 459 [] ∷ MemberForm 460 (codes "name") ∷
      BinaryForm Plus 458 461 ∷ ArrowForm (record { params = []; body = (462 ∷ []) }) false ∷
      CallForm 447 (448 ∷ 463 ∷ []) ∷ ExprStmtForm 464 ∷ NameForm (codes "t") ∷ TextForm (codes "set message") ∷
      NameForm (codes "Error") ∷ NewForm 468 [] ∷ MemberForm 469 (codes "message") ∷ TextForm (codes "a") ∷
      AssignForm 470 471 ∷ ExprStmtForm 472 ∷ ArrowForm (record { params = []; body = (473 ∷ []) }) true ∷
      CallForm 466 (467 ∷ 474 ∷ []) ∷ ExprStmtForm 475 ∷ NameForm (codes "t") ∷
      TextForm (codes "set message own") ∷ NameForm (codes "Error") ∷ TextForm (codes "a") ∷
      NewForm 479 (480 ∷ []) ∷ DeclForm (codes "e") (Some 481) ∷ LetForm (482 ∷ []) ∷ NameForm (codes "e") ∷
      MemberForm 484 (codes "message") ∷ TextForm (codes "b") ∷ AssignForm 485 486 ∷ ExprStmtForm 487 ∷
      NameForm (codes "e") ∷ MemberForm 489 (codes "message") ∷ ReturnForm (Some 490) ∷
      ArrowForm (record { params = []; body = (483 ∷ 488 ∷ 491 ∷ []) }) true ∷ CallForm 477 (478 ∷ 492 ∷ []) ∷
      ExprStmtForm 493 ∷ NameForm (codes "t") ∷ TextForm (codes "Error proto") ∷ NameForm (codes "Reflect") ∷
      MemberForm 497 (codes "getPrototypeOf") ∷ NameForm (codes "TypeError") ∷ CallForm 498 (499 ∷ []) ∷
      NameForm (codes "Error") ∷ BinaryForm TripleEqual 500 501 ∷ NameForm (codes "Reflect") ∷
      MemberForm 503 (codes "getPrototypeOf") ∷ NameForm (codes "TypeError") ∷
      MemberForm 505 (codes "prototype") ∷ CallForm 504 (506 ∷ []) ∷ NameForm (codes "Error") ∷
      MemberForm 508 (codes "prototype") ∷ BinaryForm TripleEqual 507 509 ∷ AndForm 502 510 ∷
      ArrowForm (record { params = []; body = (511 ∷ []) }) false ∷ CallForm 495 (496 ∷ 512 ∷ []) ∷
      ExprStmtForm 513 ∷ NameForm (codes "t") ∷ TextForm (codes "constructor") ∷ NameForm (codes "Reflect") ∷
      MemberForm 517 (codes "ownKeys") ∷ NameForm (codes "TypeError") ∷ MemberForm 519 (codes "prototype") ∷
      CallForm 518 (520 ∷ []) ∷ MemberForm 521 (codes "join") ∷ CallForm 522 [] ∷
      ArrowForm (record { params = []; body = (523 ∷ []) }) false ∷ CallForm 515 (516 ∷ 524 ∷ []) ∷
      ExprStmtForm 525 ∷ NameForm (codes "t") ∷ TextForm (codes "Object keys") ∷ NameForm (codes "Reflect") ∷
      MemberForm 529 (codes "ownKeys") ∷ NameForm (codes "Object") ∷ CallForm 530 (531 ∷ []) ∷
      MemberForm 532 (codes "join") ∷ CallForm 533 [] ∷
      ArrowForm (record { params = []; body = (534 ∷ []) }) false ∷ CallForm 527 (528 ∷ 535 ∷ []) ∷
      ExprStmtForm 536 ∷ NameForm (codes "t") ∷ TextForm (codes "Array keys") ∷ NameForm (codes "Reflect") ∷
      MemberForm 540 (codes "ownKeys") ∷ NameForm (codes "Array") ∷ CallForm 541 (542 ∷ []) ∷
      MemberForm 543 (codes "join") ∷ CallForm 544 [] ∷
      ArrowForm (record { params = []; body = (545 ∷ []) }) false ∷ CallForm 538 (539 ∷ 546 ∷ []) ∷
      ExprStmtForm 547 ∷ NameForm (codes "t") ∷ TextForm (codes "Proxy keys") ∷ NameForm (codes "Reflect") ∷
      MemberForm 551 (codes "ownKeys") ∷ NameForm (codes "Proxy") ∷ CallForm 552 (553 ∷ []) ∷
      MemberForm 554 (codes "join") ∷ CallForm 555 [] ∷
      ArrowForm (record { params = []; body = (556 ∷ []) }) false ∷ CallForm 549 (550 ∷ 557 ∷ []) ∷
      ExprStmtForm 558 ∷ NameForm (codes "t") ∷ TextForm (codes "Reflect keys") ∷ NameForm (codes "Reflect") ∷
      MemberForm 562 (codes "ownKeys") ∷ NameForm (codes "Reflect") ∷ CallForm 563 (564 ∷ []) ∷
      MemberForm 565 (codes "join") ∷ CallForm 566 [] ∷
      ArrowForm (record { params = []; body = (567 ∷ []) }) false ∷ CallForm 560 (561 ∷ 568 ∷ []) ∷
      ExprStmtForm 569 ∷ NameForm (codes "t") ∷ TextForm (codes "Array.prototype keys") ∷
      NameForm (codes "Reflect") ∷ MemberForm 573 (codes "ownKeys") ∷ NameForm (codes "Array") ∷
      MemberForm 575 (codes "prototype") ∷ CallForm 574 (576 ∷ []) ∷ MemberForm 577 (codes "join") ∷
      CallForm 578 [] ∷ ArrowForm (record { params = []; body = (579 ∷ []) }) false ∷
      CallForm 571 (572 ∷ 580 ∷ []) ∷ ExprStmtForm 581 ∷ NameForm (codes "t") ∷
      TextForm (codes "function keys") ∷ NameForm (codes "Reflect") ∷ MemberForm 585 (codes "ownKeys") ∷
      ParamForm (codes "a") ∷ ParamForm (codes "b") ∷
      FunctionForm None (record { params = (codes "a") ∷ (codes "b") ∷ []; body = [] }) ∷
      CallForm 586 (589 ∷ []) ∷ MemberForm 590 (codes "join") ∷ CallForm 591 [] ∷ ParamForm (codes "a") ∷
      ParamForm (codes "b") ∷ FunctionForm None (record { params = (codes "a") ∷ (codes "b") ∷ []; body = [] }) ∷
      GroupForm 595 ∷ MemberForm 596 (codes "length") ∷ BinaryForm Plus 592 597 ∷
      ArrowForm (record { params = []; body = (598 ∷ []) }) false ∷ CallForm 583 (584 ∷ 599 ∷ []) ∷
      ExprStmtForm 600 ∷ NameForm (codes "t") ∷ TextForm (codes "method keys") ∷ ParamForm (codes "a") ∷
      MethodForm (Written (codes "m")) (record { params = (codes "a") ∷ []; body = [] }) ∷
      ObjectForm (605 ∷ []) ∷ DeclForm (codes "o") (Some 606) ∷ LetForm (607 ∷ []) ∷ NameForm (codes "Reflect") ∷
      MemberForm 609 (codes "ownKeys") ∷ NameForm (codes "o") ∷ MemberForm 611 (codes "m") ∷
      CallForm 610 (612 ∷ []) ∷ MemberForm 613 (codes "join") ∷ CallForm 614 [] ∷ NameForm (codes "o") ∷
      MemberForm 616 (codes "m") ∷ MemberForm 617 (codes "name") ∷ BinaryForm Plus 615 618 ∷
      ReturnForm (Some 619) ∷ ArrowForm (record { params = []; body = (608 ∷ 620 ∷ []) }) true ∷
      CallForm 602 (603 ∷ 621 ∷ []) ∷ ExprStmtForm 622 ∷ NameForm (codes "t") ∷ TextForm (codes "call.length") ∷
      NameForm (codes "print") ∷ MemberForm 626 (codes "call") ∷ MemberForm 627 (codes "length") ∷
      NameForm (codes "print") ∷ MemberForm 629 (codes "apply") ∷ MemberForm 630 (codes "length") ∷
      NumberForm (pos 10) ∷ BinaryForm Times 631 632 ∷ BinaryForm Plus 628 633 ∷ NameForm (codes "print") ∷
      MemberForm 635 (codes "call") ∷ MemberForm 636 (codes "name") ∷ BinaryForm Plus 634 637 ∷
      ArrowForm (record { params = []; body = (638 ∷ []) }) false ∷ CallForm 624 (625 ∷ 639 ∷ []) ∷
      ExprStmtForm 640 ∷
      ScriptForm (53 ∷ 59 ∷ 68 ∷ 76 ∷ 97 ∷ 107 ∷ 117 ∷ 127 ∷ 142 ∷ 152 ∷ 161 ∷ 172 ∷ 183 ∷ 193 ∷ 208 ∷ 219 ∷
      229 ∷ 238 ∷ 249 ∷ 260 ∷ 271 ∷ 280 ∷ 294 ∷ 304 ∷ 316 ∷ 338 ∷ 347 ∷ 357 ∷ 369 ∷ 378 ∷ 389 ∷ 397 ∷ 407 ∷
      415 ∷ 424 ∷ 446 ∷ 465 ∷ 476 ∷ 494 ∷ 514 ∷ 526 ∷ 537 ∷ 548 ∷ 559 ∷ 570 ∷ 582 ∷ 601 ∷ 623 ∷ 641 ∷ []) ∷
      [];
  names =
      bound 31 (codes "e") false ∷ bound 53 (codes "n") false ∷ bound 53 (codes "f") false ∷
      bound 53 (codes "r") false ∷ bound 336 (codes "o") false ∷ bound 492 (codes "e") false ∷
      bound 589 (codes "a") false ∷ bound 589 (codes "b") false ∷ bound 595 (codes "a") false ∷
      bound 595 (codes "b") false ∷ bound 605 (codes "a") false ∷ bound 621 (codes "o") false ∷
      bound 642 (codes "t") false ∷ bound 642 (codes "Function_prototype") false ∷
      [];
}

abbrev right : Program
right = record {
  forms =
      ScriptForm [] ∷
      [];
  names = [];
}

abbrev policy : List Rule
policy = []

abbrev schedule : List Letter
schedule = []

abbrev told : List (List ℕ)
told =
    (codes "L seal null null") ∷
    (codes "L isFrozen none true") ∷
    (codes "L isFrozen Array.prototype true") ∷
    (codes "L setProto prim 5") ∷
    (codes "L setProto undefined TE") ∷
    (codes "L setProto bad TE") ∷
    (codes "L setProto built-in true") ∷
    (codes "L setProto built-in other TE") ∷
    (codes "L getProto text TE") ∷
    (codes "L define prim TE") ∷
    (codes "L define key TE") ∷
    (codes "L define desc TE") ∷
    (codes "L define same on built-in true") ∷
    (codes "L define on built-in TE") ∷
    (codes "L gopd TE") ∷
    (codes "L R.apply TE") ∷
    (codes "L R.apply first TE") ∷
    (codes "L R.construct nt TE") ∷
    (codes "L R.construct arrow TE") ∷
    (codes "L R.construct list TE") ∷
    (codes "L R.get receiver undefined") ∷
    (codes "L R.get text TE") ∷
    (codes "L R.set receiver false") ∷
    (codes "L R.set none trueundefined") ∷
    (codes "L R.setPrototypeOf TE") ∷
    (codes "L R.define none TE") ∷
    (codes "L R.ownKeys array 0,length") ∷
    (codes "L R.delete true") ∷
    (codes "L R.has true") ∷
    (codes "L isArray none false") ∷
    (codes "L isArray prototype false") ∷
    (codes "L Error object TE") ∷
    (codes "L Error null null") ∷
    (codes "L Error keys message") ∷
    (codes "L Error none 0RangeError") ∷
    (codes "L set message TE") ∷
    (codes "L set message own b") ∷
    (codes "L Error proto true") ∷
    (codes "L constructor constructor,name,message") ∷
    (codes "L Object keys length,name,prototype,create,keys,freeze,isFrozen,seal,getPrototyp" ++
    codes "eOf,setPrototypeOf,defineProperty,getOwnPropertyDescriptor,getOwnPropertySymbols") ∷
    (codes "L Array keys length,name,prototype,isArray") ∷
    (codes "L Proxy keys length,name,revocable") ∷
    (codes "L Reflect keys apply,construct,defineProperty,deleteProperty,get,getOwnPropertyD" ++
    codes "escriptor,getPrototypeOf,has,isExtensible,ownKeys,preventExtensions,set,setProto" ++ codes "typeOf") ∷
    (codes "L Array.prototype keys constructor,push,pop,map,forEach,filter,reduce,indexOf,sl" ++ codes "ice,join") ∷
    (codes "L function keys length,name,prototype2") ∷
    (codes "L method keys length,namem") ∷
    (codes "L call.length 21call") ∷
    (codes "= done") ∷
    []

abbrev stage : Stage
stage = Story (left ∷ right ∷ []) policy schedule 1000000

pub Row : Type 0
Row = Shows false false stage told

pub row : Row
unfolding Row given Validate encode_utf8
row = (refl, refl)
