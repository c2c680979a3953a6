use Rattle.std.specs.Prelude.{refl, ℕ, List, [], ◌∷◌, true, false, Some, None, codes, pos}
use Rattle.std.specs.Char.{encode_utf8}
use Rattle.mb_tree.specs.declared.kind.Sign.TheVariants.{Plus, TripleEqual, NotDoubleEqual, Instanceof, Typeof, Delete as DeleteSign}
use Rattle.mb_desc.specs.Validate.{Validate}
use Rattle.mb_world.specs.Value.{Undefined, Null, Truth}
use Rattle.mb_world.specs.Form.{Written, ScriptForm, LetForm, DeclForm, FunctionDeclForm, BlockForm, ExprStmtForm, ReturnForm, TryForm, ParamForm, NameForm, NumberForm, TextForm, LiteralForm, ObjectForm, ValueForm, ArrowForm, GroupForm, MemberForm, IndexForm, AssignForm, CallForm, NewForm, CondForm, AndForm, UnaryForm, BinaryForm}
use Rattle.mb_world.specs.Graph.{Program, Rule}
use Rattle.mb_model.specs.Engine.{given}
use Rattle.mb_model.specs.Story.{Stage, Letter, Story}
use Rattle.mb_rows.specs.Shows.{bound, Shows}

-- run
-- left
--     desk.go = (base, inside, said) => new Proxy(base, { getOwnPropertyDescriptor: (T, k) => { inside(T); return said; } });
--     desk.no = () => { };
--     desk.close = (T) => { Reflect.preventExtensions(T); };
--     desk.fix = (v, w) => (T) => { Object.defineProperty(T, "a", { value: v, writable: w, enumerable: true, configurable: false }); };
--     desk.acc = (g, s) => (T) => { Object.defineProperty(T, "a", { get: g, set: s, enumerable: false, configurable: false }); };
--     desk.drop = (T) => { delete T.a; };
--     desk.q = (p) => { let d = Reflect.getOwnPropertyDescriptor(p, "a"); return d === undefined ? "none" : Reflect.ownKeys(d).map((k) => k + ":" + (typeof d[k] === "function" ? "f" : d[k])).join(" "); };
--
--     function t(n, f) { let r; try { r = f(); } catch (e) { r = e instanceof TypeError ? "TE" : e instanceof RangeError ? "RE" : e instanceof ReferenceError ? "FE" : e; } print(n, typeof r === "object" && r !== null ? "obj" : typeof r === "function" ? "fun" : r); }
--     t("6a", () => desk.q(desk.go({}, desk.no, 1)));
--     t("6b", () => desk.q(desk.go({}, desk.no, null)));
--     t("6c", () => desk.q(desk.go({}, desk.no, undefined)));
--     t("6d", () => desk.q(desk.go({}, desk.no, { get: 1 })));
--     t("6e", () => desk.q(desk.go({}, desk.no, { get: undefined, writable: false, configurable: true })));
--     t("6f", () => desk.q(desk.go({}, desk.no, { configurable: 1 })));
--     t("7a", () => desk.q(desk.go({ a: 1 }, desk.fix(1, true), undefined)));
--     t("7b", () => desk.q(desk.go({ a: 1 }, desk.no, undefined)));
--     t("7c", () => desk.q(desk.go({ a: 1 }, desk.drop, undefined)));
--     t("8a", () => desk.q(desk.go({ a: 1 }, desk.close, undefined)));
--     t("8b", () => desk.q(desk.go({}, desk.close, undefined)));
--     t("9a", () => desk.q(desk.go({}, desk.close, { configurable: true })));
--     t("9b", () => desk.q(desk.go({ a: 1 }, desk.fix(1, false), { value: 2, enumerable: true })));
--     t("9c", () => desk.q(desk.go({ a: 1 }, desk.fix(1, false), { value: 1, enumerable: true })));
--     t("9d", () => desk.q(desk.go({ a: 1 }, desk.fix(1, false), { value: 1 })));
--     t("9e", () => desk.q(desk.go({ a: 1 }, desk.fix(1, false), { value: 1, enumerable: true, configurable: true })));
--     t("9f", () => desk.q(desk.go({ a: 1 }, desk.acc(print, undefined), { get: print })));
--     t("9g", () => desk.q(desk.go({ a: 1 }, desk.acc(print, undefined), { get: String })));
--     t("9h", () => desk.q(desk.go({ a: 1 }, desk.acc(undefined, undefined), { })));
--     t("9i", () => desk.q(desk.go({ a: 1 }, desk.acc(undefined, undefined), { set: undefined })));
--     t("10a", () => desk.q(desk.go({}, desk.no, { value: 1 })));
--     t("10b", () => desk.q(desk.go({ a: 1 }, desk.no, { value: 1, writable: true, enumerable: true, configurable: 0 })));
--     t("10c", () => desk.q(desk.go({}, desk.fix(1, true), { value: 1, writable: true, enumerable: true })));
--     t("10d", () => desk.q(desk.go({}, desk.fix(1, true), { value: 2, writable: true, enumerable: true })));
--     t("11a", () => desk.q(desk.go({}, desk.fix(1, true), { value: 1, writable: false, enumerable: true })));
--     t("11b", () => desk.q(desk.go({}, desk.fix(1, false), { value: 1, writable: false, enumerable: true })));
--     t("11c", () => desk.q(desk.go({}, desk.fix(1, false), { value: 1, writable: true, enumerable: true })));
-- right
--     (empty)

abbrev left : Program
left = record {
  forms =
      NameForm (codes "desk") ∷ MemberForm 0 (codes "go") ∷ ParamForm (codes "base") ∷
      ParamForm (codes "inside") ∷ ParamForm (codes "said") ∷ NameForm (codes "Proxy") ∷
      NameForm (codes "base") ∷ ParamForm (codes "T") ∷ ParamForm (codes "k") ∷ NameForm (codes "inside") ∷
      NameForm (codes "T") ∷ CallForm 9 (10 ∷ []) ∷ ExprStmtForm 11 ∷ NameForm (codes "said") ∷
      ReturnForm (Some 13) ∷
      ArrowForm (record { params = (codes "T") ∷ (codes "k") ∷ []; body = (12 ∷ 14 ∷ []) }) true ∷
      ValueForm (Written (codes "getOwnPropertyDescriptor")) 15 ∷ ObjectForm (16 ∷ []) ∷
      NewForm 5 (6 ∷ 17 ∷ []) ∷
      ArrowForm (record {
        params = (codes "base") ∷ (codes "inside") ∷ (codes "said") ∷ [];
        body = (18 ∷
            []);
      }) false ∷
      AssignForm 1 19 ∷ ExprStmtForm 20 ∷ NameForm (codes "desk") ∷ MemberForm 22 (codes "no") ∷
      ArrowForm (record { params = []; body = [] }) true ∷ AssignForm 23 24 ∷ ExprStmtForm 25 ∷
      NameForm (codes "desk") ∷ MemberForm 27 (codes "close") ∷ ParamForm (codes "T") ∷
      NameForm (codes "Reflect") ∷ MemberForm 30 (codes "preventExtensions") ∷ NameForm (codes "T") ∷
      CallForm 31 (32 ∷ []) ∷ ExprStmtForm 33 ∷
      ArrowForm (record { params = (codes "T") ∷ []; body = (34 ∷ []) }) true ∷ AssignForm 28 35 ∷
      ExprStmtForm 36 ∷ NameForm (codes "desk") ∷ MemberForm 38 (codes "fix") ∷ ParamForm (codes "v") ∷
      ParamForm (codes "w") ∷ ParamForm (codes "T") ∷ NameForm (codes "Object") ∷
      MemberForm 43 (codes "defineProperty") ∷ NameForm (codes "T") ∷ TextForm (codes "a") ∷
      NameForm (codes "v") ∷ ValueForm (Written (codes "value")) 47 ∷ NameForm (codes "w") ∷
      ValueForm (Written (codes "writable")) 49 ∷ LiteralForm (Truth true) ∷
      ValueForm (Written (codes "enumerable")) 51 ∷ LiteralForm (Truth false) ∷
      ValueForm (Written (codes "configurable")) 53 ∷ ObjectForm (48 ∷ 50 ∷ 52 ∷ 54 ∷ []) ∷
      CallForm 44 (45 ∷ 46 ∷ 55 ∷ []) ∷ ExprStmtForm 56 ∷
      ArrowForm (record { params = (codes "T") ∷ []; body = (57 ∷ []) }) true ∷
      ArrowForm (record { params = (codes "v") ∷ (codes "w") ∷ []; body = (58 ∷ []) }) false ∷ AssignForm 39 59 ∷
      ExprStmtForm 60 ∷ NameForm (codes "desk") ∷ MemberForm 62 (codes "acc") ∷ ParamForm (codes "g") ∷
      ParamForm (codes "s") ∷ ParamForm (codes "T") ∷ NameForm (codes "Object") ∷
      MemberForm 67 (codes "defineProperty") ∷ NameForm (codes "T") ∷ TextForm (codes "a") ∷
      NameForm (codes "g") ∷ ValueForm (Written (codes "get")) 71 ∷ NameForm (codes "s") ∷
      ValueForm (Written (codes "set")) 73 ∷ LiteralForm (Truth false) ∷
      ValueForm (Written (codes "enumerable")) 75 ∷ LiteralForm (Truth false) ∷
      ValueForm (Written (codes "configurable")) 77 ∷ ObjectForm (72 ∷ 74 ∷ 76 ∷ 78 ∷ []) ∷
      CallForm 68 (69 ∷ 70 ∷ 79 ∷ []) ∷ ExprStmtForm 80 ∷
      ArrowForm (record { params = (codes "T") ∷ []; body = (81 ∷ []) }) true ∷
      ArrowForm (record { params = (codes "g") ∷ (codes "s") ∷ []; body = (82 ∷ []) }) false ∷ AssignForm 63 83 ∷
      ExprStmtForm 84 ∷ NameForm (codes "desk") ∷ MemberForm 86 (codes "drop") ∷ ParamForm (codes "T") ∷
      NameForm (codes "T") ∷ MemberForm 89 (codes "a") ∷ UnaryForm DeleteSign 90 ∷ ExprStmtForm 91 ∷
      ArrowForm (record { params = (codes "T") ∷ []; body = (92 ∷ []) }) true ∷ AssignForm 87 93 ∷
      ExprStmtForm 94 ∷ NameForm (codes "desk") ∷ MemberForm 96 (codes "q") ∷ ParamForm (codes "p") ∷
      NameForm (codes "Reflect") ∷ MemberForm 99 (codes "getOwnPropertyDescriptor") ∷ NameForm (codes "p") ∷
      TextForm (codes "a") ∷ CallForm 100 (101 ∷ 102 ∷ []) ∷ DeclForm (codes "d") (Some 103) ∷
      LetForm (104 ∷ []) ∷ NameForm (codes "d") ∷ LiteralForm (Undefined) ∷ BinaryForm TripleEqual 106 107 ∷
      TextForm (codes "none") ∷ NameForm (codes "Reflect") ∷ MemberForm 110 (codes "ownKeys") ∷
      NameForm (codes "d") ∷ CallForm 111 (112 ∷ []) ∷ MemberForm 113 (codes "map") ∷ ParamForm (codes "k") ∷
      NameForm (codes "k") ∷ TextForm (codes ":") ∷ BinaryForm Plus 116 117 ∷ NameForm (codes "d") ∷
      NameForm (codes "k") ∷ IndexForm 119 120 ∷ UnaryForm Typeof 121 ∷ TextForm (codes "function") ∷
      BinaryForm TripleEqual 122 123 ∷ TextForm (codes "f") ∷ NameForm (codes "d") ∷ NameForm (codes "k") ∷
      IndexForm 126 127 ∷ CondForm 124 125 128 ∷ GroupForm 129 ∷ BinaryForm Plus 118 130 ∷
      ArrowForm (record { params = (codes "k") ∷ []; body = (131 ∷ []) }) false ∷ CallForm 114 (132 ∷ []) ∷
      MemberForm 133 (codes "join") ∷ TextForm (codes " ") ∷ CallForm 134 (135 ∷ []) ∷ CondForm 108 109 136 ∷
      ReturnForm (Some 137) ∷ ArrowForm (record { params = (codes "p") ∷ []; body = (105 ∷ 138 ∷ []) }) true ∷
      AssignForm 97 139 ∷ ExprStmtForm 140 ∷ ParamForm (codes "n") ∷ ParamForm (codes "f") ∷
      DeclForm (codes "r") None ∷ LetForm (144 ∷ []) ∷ NameForm (codes "r") ∷ NameForm (codes "f") ∷
      CallForm 147 [] ∷ AssignForm 146 148 ∷ ExprStmtForm 149 ∷ BlockForm (150 ∷ []) ∷ ParamForm (codes "e") ∷
      NameForm (codes "r") ∷ NameForm (codes "e") ∷ NameForm (codes "TypeError") ∷
      BinaryForm Instanceof 154 155 ∷ TextForm (codes "TE") ∷ NameForm (codes "e") ∷
      NameForm (codes "RangeError") ∷ BinaryForm Instanceof 158 159 ∷ TextForm (codes "RE") ∷
      NameForm (codes "e") ∷ NameForm (codes "ReferenceError") ∷ BinaryForm Instanceof 162 163 ∷
      TextForm (codes "FE") ∷ NameForm (codes "e") ∷ CondForm 164 165 166 ∷ CondForm 160 161 167 ∷
      CondForm 156 157 168 ∷ AssignForm 153 169 ∷ ExprStmtForm 170 ∷ BlockForm (171 ∷ []) ∷
      TryForm 151 (Some (codes "e")) (Some 172) None ∷ NameForm (codes "print") ∷ NameForm (codes "n") ∷
      NameForm (codes "r") ∷ UnaryForm Typeof 176 ∷ TextForm (codes "object") ∷ BinaryForm TripleEqual 177 178 ∷
      NameForm (codes "r") ∷ LiteralForm (Null) ∷ BinaryForm NotDoubleEqual 180 181 ∷ AndForm 179 182 ∷
      TextForm (codes "obj") ∷ NameForm (codes "r") ∷ UnaryForm Typeof 185 ∷ TextForm (codes "function") ∷
      BinaryForm TripleEqual 186 187 ∷ TextForm (codes "fun") ∷ NameForm (codes "r") ∷ CondForm 188 189 190 ∷
      CondForm 183 184 191 ∷ CallForm 174 (175 ∷ 192 ∷ []) ∷ ExprStmtForm 193 ∷
      FunctionDeclForm (codes "t") (record {
        params = (codes "n") ∷ (codes "f") ∷ [];
        body = (145 ∷ 173 ∷ 194 ∷
            []);
      }) ∷
      NameForm (codes "t") ∷ TextForm (codes "6a") ∷ NameForm (codes "desk") ∷ MemberForm 198 (codes "q") ∷
      NameForm (codes "desk") ∷ MemberForm 200 (codes "go") ∷ ObjectForm [] ∷ NameForm (codes "desk") ∷
      MemberForm 203 (codes "no") ∷ NumberForm (pos 1) ∷ CallForm 201 (202 ∷ 204 ∷ 205 ∷ []) ∷
      CallForm 199 (206 ∷ []) ∷ ArrowForm (record { params = []; body = (207 ∷ []) }) false ∷
      CallForm 196 (197 ∷ 208 ∷ []) ∷ ExprStmtForm 209 ∷ NameForm (codes "t") ∷ TextForm (codes "6b") ∷
      NameForm (codes "desk") ∷ MemberForm 213 (codes "q") ∷ NameForm (codes "desk") ∷
      MemberForm 215 (codes "go") ∷ ObjectForm [] ∷ NameForm (codes "desk") ∷ MemberForm 218 (codes "no") ∷
      LiteralForm (Null) ∷ CallForm 216 (217 ∷ 219 ∷ 220 ∷ []) ∷ CallForm 214 (221 ∷ []) ∷
      ArrowForm (record { params = []; body = (222 ∷ []) }) false ∷ CallForm 211 (212 ∷ 223 ∷ []) ∷
      ExprStmtForm 224 ∷ NameForm (codes "t") ∷ TextForm (codes "6c") ∷ NameForm (codes "desk") ∷
      MemberForm 228 (codes "q") ∷ NameForm (codes "desk") ∷ MemberForm 230 (codes "go") ∷ ObjectForm [] ∷
      NameForm (codes "desk") ∷ MemberForm 233 (codes "no") ∷ LiteralForm (Undefined) ∷
      CallForm 231 (232 ∷ 234 ∷ 235 ∷ []) ∷ CallForm 229 (236 ∷ []) ∷
      ArrowForm (record { params = []; body = (237 ∷ []) }) false ∷ CallForm 226 (227 ∷ 238 ∷ []) ∷
      ExprStmtForm 239 ∷ NameForm (codes "t") ∷ TextForm (codes "6d") ∷ NameForm (codes "desk") ∷
      MemberForm 243 (codes "q") ∷ NameForm (codes "desk") ∷ MemberForm 245 (codes "go") ∷ ObjectForm [] ∷
      NameForm (codes "desk") ∷ MemberForm 248 (codes "no") ∷ NumberForm (pos 1) ∷
      ValueForm (Written (codes "get")) 250 ∷ ObjectForm (251 ∷ []) ∷ CallForm 246 (247 ∷ 249 ∷ 252 ∷ []) ∷
      CallForm 244 (253 ∷ []) ∷ ArrowForm (record { params = []; body = (254 ∷ []) }) false ∷
      CallForm 241 (242 ∷ 255 ∷ []) ∷ ExprStmtForm 256 ∷ NameForm (codes "t") ∷ TextForm (codes "6e") ∷
      NameForm (codes "desk") ∷ MemberForm 260 (codes "q") ∷ NameForm (codes "desk") ∷
      MemberForm 262 (codes "go") ∷ ObjectForm [] ∷ NameForm (codes "desk") ∷ MemberForm 265 (codes "no") ∷
      LiteralForm (Undefined) ∷ ValueForm (Written (codes "get")) 267 ∷ LiteralForm (Truth false) ∷
      ValueForm (Written (codes "writable")) 269 ∷ LiteralForm (Truth true) ∷
      ValueForm (Written (codes "configurable")) 271 ∷ ObjectForm (268 ∷ 270 ∷ 272 ∷ []) ∷
      CallForm 263 (264 ∷ 266 ∷ 273 ∷ []) ∷ CallForm 261 (274 ∷ []) ∷
      ArrowForm (record { params = []; body = (275 ∷ []) }) false ∷ CallForm 258 (259 ∷ 276 ∷ []) ∷
      ExprStmtForm 277 ∷ NameForm (codes "t") ∷ TextForm (codes "6f") ∷ NameForm (codes "desk") ∷
      MemberForm 281 (codes "q") ∷ NameForm (codes "desk") ∷ MemberForm 283 (codes "go") ∷ ObjectForm [] ∷
      NameForm (codes "desk") ∷ MemberForm 286 (codes "no") ∷ NumberForm (pos 1) ∷
      ValueForm (Written (codes "configurable")) 288 ∷ ObjectForm (289 ∷ []) ∷
      CallForm 284 (285 ∷ 287 ∷ 290 ∷ []) ∷ CallForm 282 (291 ∷ []) ∷
      ArrowForm (record { params = []; body = (292 ∷ []) }) false ∷ CallForm 279 (280 ∷ 293 ∷ []) ∷
      ExprStmtForm 294 ∷ NameForm (codes "t") ∷ TextForm (codes "7a") ∷ NameForm (codes "desk") ∷
      MemberForm 298 (codes "q") ∷ NameForm (codes "desk") ∷ MemberForm 300 (codes "go") ∷ NumberForm (pos 1) ∷
      ValueForm (Written (codes "a")) 302 ∷ ObjectForm (303 ∷ []) ∷ NameForm (codes "desk") ∷
      MemberForm 305 (codes "fix") ∷ NumberForm (pos 1) ∷ LiteralForm (Truth true) ∷
      CallForm 306 (307 ∷ 308 ∷ []) ∷ LiteralForm (Undefined) ∷ CallForm 301 (304 ∷ 309 ∷ 310 ∷ []) ∷
      CallForm 299 (311 ∷ []) ∷ ArrowForm (record { params = []; body = (312 ∷ []) }) false ∷
      CallForm 296 (297 ∷ 313 ∷ []) ∷ ExprStmtForm 314 ∷ NameForm (codes "t") ∷ TextForm (codes "7b") ∷
      NameForm (codes "desk") ∷ MemberForm 318 (codes "q") ∷ NameForm (codes "desk") ∷
      MemberForm 320 (codes "go") ∷ NumberForm (pos 1) ∷ ValueForm (Written (codes "a")) 322 ∷
      ObjectForm (323 ∷ []) ∷ NameForm (codes "desk") ∷ MemberForm 325 (codes "no") ∷ LiteralForm (Undefined) ∷
      CallForm 321 (324 ∷ 326 ∷ 327 ∷ []) ∷ CallForm 319 (328 ∷ []) ∷
      ArrowForm (record { params = []; body = (329 ∷ []) }) false ∷ CallForm 316 (317 ∷ 330 ∷ []) ∷
      ExprStmtForm 331 ∷ NameForm (codes "t") ∷ TextForm (codes "7c") ∷ NameForm (codes "desk") ∷
      MemberForm 335 (codes "q") ∷ NameForm (codes "desk") ∷ MemberForm 337 (codes "go") ∷ NumberForm (pos 1) ∷
      ValueForm (Written (codes "a")) 339 ∷ ObjectForm (340 ∷ []) ∷ NameForm (codes "desk") ∷
      MemberForm 342 (codes "drop") ∷ LiteralForm (Undefined) ∷ CallForm 338 (341 ∷ 343 ∷ 344 ∷ []) ∷
      CallForm 336 (345 ∷ []) ∷ ArrowForm (record { params = []; body = (346 ∷ []) }) false ∷
      CallForm 333 (334 ∷ 347 ∷ []) ∷ ExprStmtForm 348 ∷ NameForm (codes "t") ∷ TextForm (codes "8a") ∷
      NameForm (codes "desk") ∷ MemberForm 352 (codes "q") ∷ NameForm (codes "desk") ∷
      MemberForm 354 (codes "go") ∷ NumberForm (pos 1) ∷ ValueForm (Written (codes "a")) 356 ∷
      ObjectForm (357 ∷ []) ∷ NameForm (codes "desk") ∷ MemberForm 359 (codes "close") ∷
      LiteralForm (Undefined) ∷ CallForm 355 (358 ∷ 360 ∷ 361 ∷ []) ∷ CallForm 353 (362 ∷ []) ∷
      ArrowForm (record { params = []; body = (363 ∷ []) }) false ∷ CallForm 350 (351 ∷ 364 ∷ []) ∷
      ExprStmtForm 365 ∷ NameForm (codes "t") ∷ TextForm (codes "8b") ∷ NameForm (codes "desk") ∷
      MemberForm 369 (codes "q") ∷ NameForm (codes "desk") ∷ MemberForm 371 (codes "go") ∷ ObjectForm [] ∷
      NameForm (codes "desk") ∷ MemberForm 374 (codes "close") ∷ LiteralForm (Undefined) ∷
      CallForm 372 (373 ∷ 375 ∷ 376 ∷ []) ∷ CallForm 370 (377 ∷ []) ∷
      ArrowForm (record { params = []; body = (378 ∷ []) }) false ∷ CallForm 367 (368 ∷ 379 ∷ []) ∷
      ExprStmtForm 380 ∷ NameForm (codes "t") ∷ TextForm (codes "9a") ∷ NameForm (codes "desk") ∷
      MemberForm 384 (codes "q") ∷ NameForm (codes "desk") ∷ MemberForm 386 (codes "go") ∷ ObjectForm [] ∷
      NameForm (codes "desk") ∷ MemberForm 389 (codes "close") ∷ LiteralForm (Truth true) ∷
      ValueForm (Written (codes "configurable")) 391 ∷ ObjectForm (392 ∷ []) ∷
      CallForm 387 (388 ∷ 390 ∷ 393 ∷ []) ∷ CallForm 385 (394 ∷ []) ∷
      ArrowForm (record { params = []; body = (395 ∷ []) }) false ∷ CallForm 382 (383 ∷ 396 ∷ []) ∷
      ExprStmtForm 397 ∷ NameForm (codes "t") ∷ TextForm (codes "9b") ∷ NameForm (codes "desk") ∷
      MemberForm 401 (codes "q") ∷ NameForm (codes "desk") ∷ MemberForm 403 (codes "go") ∷ NumberForm (pos 1) ∷
      ValueForm (Written (codes "a")) 405 ∷ ObjectForm (406 ∷ []) ∷ NameForm (codes "desk") ∷
      MemberForm 408 (codes "fix") ∷ NumberForm (pos 1) ∷ LiteralForm (Truth false) ∷
      CallForm 409 (410 ∷ 411 ∷ []) ∷ NumberForm (pos 2) ∷ ValueForm (Written (codes "value")) 413 ∷
      LiteralForm (Truth true) ∷ ValueForm (Written (codes "enumerable")) 415 ∷ ObjectForm (414 ∷ 416 ∷ []) ∷
      CallForm 404 (407 ∷ 412 ∷ 417 ∷ []) ∷ CallForm 402 (418 ∷ []) ∷
      ArrowForm (record { params = []; body = (419 ∷ []) }) false ∷ CallForm 399 (400 ∷ 420 ∷ []) ∷
      ExprStmtForm 421 ∷ NameForm (codes "t") ∷ TextForm (codes "9c") ∷ NameForm (codes "desk") ∷
      MemberForm 425 (codes "q") ∷ NameForm (codes "desk") ∷ MemberForm 427 (codes "go") ∷ NumberForm (pos 1) ∷
      ValueForm (Written (codes "a")) 429 ∷ ObjectForm (430 ∷ []) ∷ NameForm (codes "desk") ∷
      MemberForm 432 (codes "fix") ∷ NumberForm (pos 1) ∷ LiteralForm (Truth false) ∷
      CallForm 433 (434 ∷ 435 ∷ []) ∷ NumberForm (pos 1) ∷ ValueForm (Written (codes "value")) 437 ∷
      LiteralForm (Truth true) ∷ ValueForm (Written (codes "enumerable")) 439 ∷ ObjectForm (438 ∷ 440 ∷ []) ∷
      CallForm 428 (431 ∷ 436 ∷ 441 ∷ []) ∷ CallForm 426 (442 ∷ []) ∷
      ArrowForm (record { params = []; body = (443 ∷ []) }) false ∷ CallForm 423 (424 ∷ 444 ∷ []) ∷
      ExprStmtForm 445 ∷ NameForm (codes "t") ∷ TextForm (codes "9d") ∷ NameForm (codes "desk") ∷
      MemberForm 449 (codes "q") ∷ NameForm (codes "desk") ∷ MemberForm 451 (codes "go") ∷ NumberForm (pos 1) ∷
      ValueForm (Written (codes "a")) 453 ∷ ObjectForm (454 ∷ []) ∷ NameForm (codes "desk") ∷
      MemberForm 456 (codes "fix") ∷ NumberForm (pos 1) ∷ LiteralForm (Truth false) ∷
      CallForm 457 (458 ∷ 459 ∷ []) ∷ NumberForm (pos 1) ∷ ValueForm (Written (codes "value")) 461 ∷
      ObjectForm (462 ∷ []) ∷ CallForm 452 (455 ∷ 460 ∷ 463 ∷ []) ∷ CallForm 450 (464 ∷ []) ∷
      ArrowForm (record { params = []; body = (465 ∷ []) }) false ∷ CallForm 447 (448 ∷ 466 ∷ []) ∷
      ExprStmtForm 467 ∷ NameForm (codes "t") ∷ TextForm (codes "9e") ∷ NameForm (codes "desk") ∷
      MemberForm 471 (codes "q") ∷ NameForm (codes "desk") ∷ MemberForm 473 (codes "go") ∷ NumberForm (pos 1) ∷
      ValueForm (Written (codes "a")) 475 ∷ ObjectForm (476 ∷ []) ∷ NameForm (codes "desk") ∷
      MemberForm 478 (codes "fix") ∷ NumberForm (pos 1) ∷ LiteralForm (Truth false) ∷
      CallForm 479 (480 ∷ 481 ∷ []) ∷ NumberForm (pos 1) ∷ ValueForm (Written (codes "value")) 483 ∷
      LiteralForm (Truth true) ∷ ValueForm (Written (codes "enumerable")) 485 ∷ LiteralForm (Truth true) ∷
      ValueForm (Written (codes "configurable")) 487 ∷ ObjectForm (484 ∷ 486 ∷ 488 ∷ []) ∷
      CallForm 474 (477 ∷ 482 ∷ 489 ∷ []) ∷ CallForm 472 (490 ∷ []) ∷
      ArrowForm (record { params = []; body = (491 ∷ []) }) false ∷ CallForm 469 (470 ∷ 492 ∷ []) ∷
      ExprStmtForm 493 ∷ NameForm (codes "t") ∷ TextForm (codes "9f") ∷ NameForm (codes "desk") ∷
      MemberForm 497 (codes "q") ∷ NameForm (codes "desk") ∷ MemberForm 499 (codes "go") ∷ NumberForm (pos 1) ∷
      ValueForm (Written (codes "a")) 501 ∷ ObjectForm (502 ∷ []) ∷ NameForm (codes "desk") ∷
      MemberForm 504 (codes "acc") ∷ NameForm (codes "print") ∷ LiteralForm (Undefined) ∷
      CallForm 505 (506 ∷ 507 ∷ []) ∷ NameForm (codes "print") ∷ ValueForm (Written (codes "get")) 509 ∷
      ObjectForm (510 ∷ []) ∷ CallForm 500 (503 ∷ 508 ∷ 511 ∷ []) ∷ CallForm 498 (512 ∷ []) ∷
      ArrowForm (record { params = []; body = (513 ∷ []) }) false ∷ CallForm 495 (496 ∷ 514 ∷ []) ∷
      ExprStmtForm 515 ∷ NameForm (codes "t") ∷ TextForm (codes "9g") ∷ NameForm (codes "desk") ∷
      MemberForm 519 (codes "q") ∷ NameForm (codes "desk") ∷ MemberForm 521 (codes "go") ∷ NumberForm (pos 1) ∷
      ValueForm (Written (codes "a")) 523 ∷ ObjectForm (524 ∷ []) ∷ NameForm (codes "desk") ∷
      MemberForm 526 (codes "acc") ∷ NameForm (codes "print") ∷ LiteralForm (Undefined) ∷
      CallForm 527 (528 ∷ 529 ∷ []) ∷ NameForm (codes "String") ∷ ValueForm (Written (codes "get")) 531 ∷
      ObjectForm (532 ∷ []) ∷ CallForm 522 (525 ∷ 530 ∷ 533 ∷ []) ∷ CallForm 520 (534 ∷ []) ∷
      ArrowForm (record { params = []; body = (535 ∷ []) }) false ∷ CallForm 517 (518 ∷ 536 ∷ []) ∷
      ExprStmtForm 537 ∷ NameForm (codes "t") ∷ TextForm (codes "9h") ∷ NameForm (codes "desk") ∷
      MemberForm 541 (codes "q") ∷ NameForm (codes "desk") ∷ MemberForm 543 (codes "go") ∷ NumberForm (pos 1) ∷
      ValueForm (Written (codes "a")) 545 ∷ ObjectForm (546 ∷ []) ∷ NameForm (codes "desk") ∷
      MemberForm 548 (codes "acc") ∷ LiteralForm (Undefined) ∷ LiteralForm (Undefined) ∷
      CallForm 549 (550 ∷ 551 ∷ []) ∷ ObjectForm [] ∷ CallForm 544 (547 ∷ 552 ∷ 553 ∷ []) ∷
      CallForm 542 (554 ∷ []) ∷ ArrowForm (record { params = []; body = (555 ∷ []) }) false ∷
      CallForm 539 (540 ∷ 556 ∷ []) ∷ ExprStmtForm 557 ∷ NameForm (codes "t") ∷ TextForm (codes "9i") ∷
      NameForm (codes "desk") ∷ MemberForm 561 (codes "q") ∷ NameForm (codes "desk") ∷
      MemberForm 563 (codes "go") ∷ NumberForm (pos 1) ∷ ValueForm (Written (codes "a")) 565 ∷
      ObjectForm (566 ∷ []) ∷ NameForm (codes "desk") ∷ MemberForm 568 (codes "acc") ∷ LiteralForm (Undefined) ∷
      LiteralForm (Undefined) ∷ CallForm 569 (570 ∷ 571 ∷ []) ∷ LiteralForm (Undefined) ∷
      ValueForm (Written (codes "set")) 573 ∷ ObjectForm (574 ∷ []) ∷ CallForm 564 (567 ∷ 572 ∷ 575 ∷ []) ∷
      CallForm 562 (576 ∷ []) ∷ ArrowForm (record { params = []; body = (577 ∷ []) }) false ∷
      CallForm 559 (560 ∷ 578 ∷ []) ∷ ExprStmtForm 579 ∷ NameForm (codes "t") ∷ TextForm (codes "10a") ∷
      NameForm (codes "desk") ∷ MemberForm 583 (codes "q") ∷ NameForm (codes "desk") ∷
      MemberForm 585 (codes "go") ∷ ObjectForm [] ∷ NameForm (codes "desk") ∷ MemberForm 588 (codes "no") ∷
      NumberForm (pos 1) ∷ ValueForm (Written (codes "value")) 590 ∷ ObjectForm (591 ∷ []) ∷
      CallForm 586 (587 ∷ 589 ∷ 592 ∷ []) ∷ CallForm 584 (593 ∷ []) ∷
      ArrowForm (record { params = []; body = (594 ∷ []) }) false ∷ CallForm 581 (582 ∷ 595 ∷ []) ∷
      ExprStmtForm 596 ∷ NameForm (codes "t") ∷ TextForm (codes "10b") ∷ NameForm (codes "desk") ∷
      MemberForm 600 (codes "q") ∷ NameForm (codes "desk") ∷ MemberForm 602 (codes "go") ∷ NumberForm (pos 1) ∷
      ValueForm (Written (codes "a")) 604 ∷ ObjectForm (605 ∷ []) ∷ NameForm (codes "desk") ∷
      MemberForm 607 (codes "no") ∷ NumberForm (pos 1) ∷ ValueForm (Written (codes "value")) 609 ∷
      LiteralForm (Truth true) ∷ ValueForm (Written (codes "writable")) 611 ∷ LiteralForm (Truth true) ∷
      ValueForm (Written (codes "enumerable")) 613 ∷ NumberForm (pos 0) ∷
      ValueForm (Written (codes "configurable")) 615 ∷ ObjectForm (610 ∷ 612 ∷ 614 ∷ 616 ∷ []) ∷
      CallForm 603 (606 ∷ 608 ∷ 617 ∷ []) ∷ CallForm 601 (618 ∷ []) ∷
      ArrowForm (record { params = []; body = (619 ∷ []) }) false ∷ CallForm 598 (599 ∷ 620 ∷ []) ∷
      ExprStmtForm 621 ∷ NameForm (codes "t") ∷ TextForm (codes "10c") ∷ NameForm (codes "desk") ∷
      MemberForm 625 (codes "q") ∷ NameForm (codes "desk") ∷ MemberForm 627 (codes "go") ∷ ObjectForm [] ∷
      NameForm (codes "desk") ∷ MemberForm 630 (codes "fix") ∷ NumberForm (pos 1) ∷ LiteralForm (Truth true) ∷
      CallForm 631 (632 ∷ 633 ∷ []) ∷ NumberForm (pos 1) ∷ ValueForm (Written (codes "value")) 635 ∷
      LiteralForm (Truth true) ∷ ValueForm (Written (codes "writable")) 637 ∷ LiteralForm (Truth true) ∷
      ValueForm (Written (codes "enumerable")) 639 ∷ ObjectForm (636 ∷ 638 ∷ 640 ∷ []) ∷
      CallForm 628 (629 ∷ 634 ∷ 641 ∷ []) ∷ CallForm 626 (642 ∷ []) ∷
      ArrowForm (record { params = []; body = (643 ∷ []) }) false ∷ CallForm 623 (624 ∷ 644 ∷ []) ∷
      ExprStmtForm 645 ∷ NameForm (codes "t") ∷ TextForm (codes "10d") ∷ NameForm (codes "desk") ∷
      MemberForm 649 (codes "q") ∷ NameForm (codes "desk") ∷ MemberForm 651 (codes "go") ∷ ObjectForm [] ∷
      NameForm (codes "desk") ∷ MemberForm 654 (codes "fix") ∷ NumberForm (pos 1) ∷ LiteralForm (Truth true) ∷
      CallForm 655 (656 ∷ 657 ∷ []) ∷ NumberForm (pos 2) ∷ ValueForm (Written (codes "value")) 659 ∷
      LiteralForm (Truth true) ∷ ValueForm (Written (codes "writable")) 661 ∷ LiteralForm (Truth true) ∷
      ValueForm (Written (codes "enumerable")) 663 ∷ ObjectForm (660 ∷ 662 ∷ 664 ∷ []) ∷
      CallForm 652 (653 ∷ 658 ∷ 665 ∷ []) ∷ CallForm 650 (666 ∷ []) ∷
      ArrowForm (record { params = []; body = (667 ∷ []) }) false ∷ CallForm 647 (648 ∷ 668 ∷ []) ∷
      ExprStmtForm 669 ∷ NameForm (codes "t") ∷ TextForm (codes "11a") ∷ NameForm (codes "desk") ∷
      MemberForm 673 (codes "q") ∷ NameForm (codes "desk") ∷ MemberForm 675 (codes "go") ∷ ObjectForm [] ∷
      NameForm (codes "desk") ∷ MemberForm 678 (codes "fix") ∷ NumberForm (pos 1) ∷ LiteralForm (Truth true) ∷
      CallForm 679 (680 ∷ 681 ∷ []) ∷ NumberForm (pos 1) ∷ ValueForm (Written (codes "value")) 683 ∷
      LiteralForm (Truth false) ∷ ValueForm (Written (codes "writable")) 685 ∷ LiteralForm (Truth true) ∷
      ValueForm (Written (codes "enumerable")) 687 ∷ ObjectForm (684 ∷ 686 ∷ 688 ∷ []) ∷
      CallForm 676 (677 ∷ 682 ∷ 689 ∷ []) ∷ CallForm 674 (690 ∷ []) ∷
      ArrowForm (record { params = []; body = (691 ∷ []) }) false ∷ CallForm 671 (672 ∷ 692 ∷ []) ∷
      ExprStmtForm 693 ∷ NameForm (codes "t") ∷ TextForm (codes "11b") ∷ NameForm (codes "desk") ∷
      MemberForm 697 (codes "q") ∷ NameForm (codes "desk") ∷ MemberForm 699 (codes "go") ∷ ObjectForm [] ∷
      NameForm (codes "desk") ∷ MemberForm 702 (codes "fix") ∷ NumberForm (pos 1) ∷ LiteralForm (Truth false) ∷
      CallForm 703 (704 ∷ 705 ∷ []) ∷ NumberForm (pos 1) ∷ ValueForm (Written (codes "value")) 707 ∷
      LiteralForm (Truth false) ∷ ValueForm (Written (codes "writable")) 709 ∷ LiteralForm (Truth true) ∷
      ValueForm (Written (codes "enumerable")) 711 ∷ ObjectForm (708 ∷ 710 ∷ 712 ∷ []) ∷
      CallForm 700 (701 ∷ 706 ∷ 713 ∷ []) ∷ CallForm 698 (714 ∷ []) ∷
      ArrowForm (record { params = []; body = (715 ∷ []) }) false ∷ CallForm 695 (696 ∷ 716 ∷ []) ∷
      ExprStmtForm 717 ∷ NameForm (codes "t") ∷ TextForm (codes "11c") ∷ NameForm (codes "desk") ∷
      MemberForm 721 (codes "q") ∷ NameForm (codes "desk") ∷ MemberForm 723 (codes "go") ∷ ObjectForm [] ∷
      NameForm (codes "desk") ∷ MemberForm 726 (codes "fix") ∷ NumberForm (pos 1) ∷ LiteralForm (Truth false) ∷
      CallForm 727 (728 ∷ 729 ∷ []) ∷ NumberForm (pos 1) ∷ ValueForm (Written (codes "value")) 731 ∷
      LiteralForm (Truth true) ∷ ValueForm (Written (codes "writable")) 733 ∷ LiteralForm (Truth true) ∷
      ValueForm (Written (codes "enumerable")) 735 ∷ ObjectForm (732 ∷ 734 ∷ 736 ∷ []) ∷
      CallForm 724 (725 ∷ 730 ∷ 737 ∷ []) ∷ CallForm 722 (738 ∷ []) ∷
      ArrowForm (record { params = []; body = (739 ∷ []) }) false ∷ CallForm 719 (720 ∷ 740 ∷ []) ∷
      ExprStmtForm 741 ∷
      ScriptForm (21 ∷ 26 ∷ 37 ∷ 61 ∷ 85 ∷ 95 ∷ 141 ∷ 195 ∷ 210 ∷ 225 ∷ 240 ∷ 257 ∷ 278 ∷ 295 ∷ 315 ∷ 332 ∷ 349 ∷
      366 ∷ 381 ∷ 398 ∷ 422 ∷ 446 ∷ 468 ∷ 494 ∷ 516 ∷ 538 ∷ 558 ∷ 580 ∷ 597 ∷ 622 ∷ 646 ∷ 670 ∷ 694 ∷ 718 ∷
      742 ∷ []) ∷
      [];
  names =
      bound 15 (codes "T") false ∷ bound 15 (codes "k") false ∷ bound 19 (codes "base") false ∷
      bound 19 (codes "inside") false ∷ bound 19 (codes "said") false ∷ bound 35 (codes "T") false ∷
      bound 58 (codes "T") false ∷ bound 59 (codes "v") false ∷ bound 59 (codes "w") false ∷
      bound 82 (codes "T") false ∷ bound 83 (codes "g") false ∷ bound 83 (codes "s") false ∷
      bound 93 (codes "T") false ∷ bound 132 (codes "k") false ∷ bound 139 (codes "p") false ∷
      bound 139 (codes "d") false ∷ bound 173 (codes "e") false ∷ bound 195 (codes "n") false ∷
      bound 195 (codes "f") false ∷ bound 195 (codes "r") false ∷ bound 743 (codes "t") false ∷
      [];
}

abbrev right : Program
right = record {
  forms =
      ScriptForm [] ∷
      [];
  names = [];
}

abbrev policy : List Rule
policy = []

abbrev schedule : List Letter
schedule = []

abbrev told : List (List ℕ)
told =
    (codes "L 6a TE") ∷
    (codes "L 6b TE") ∷
    (codes "L 6c none") ∷
    (codes "L 6d TE") ∷
    (codes "L 6e TE") ∷
    (codes "L 6f value:undefined writable:false enumerable:false configurable:true") ∷
    (codes "L 7a TE") ∷
    (codes "L 7b none") ∷
    (codes "L 7c none") ∷
    (codes "L 8a TE") ∷
    (codes "L 8b none") ∷
    (codes "L 9a TE") ∷
    (codes "L 9b TE") ∷
    (codes "L 9c value:1 writable:false enumerable:true configurable:false") ∷
    (codes "L 9d TE") ∷
    (codes "L 9e TE") ∷
    (codes "L 9f get:f set:undefined enumerable:false configurable:false") ∷
    (codes "L 9g TE") ∷
    (codes "L 9h TE") ∷
    (codes "L 9i get:undefined set:undefined enumerable:false configurable:false") ∷
    (codes "L 10a TE") ∷
    (codes "L 10b TE") ∷
    (codes "L 10c value:1 writable:true enumerable:true configurable:false") ∷
    (codes "L 10d value:2 writable:true enumerable:true configurable:false") ∷
    (codes "L 11a TE") ∷
    (codes "L 11b value:1 writable:false enumerable:true configurable:false") ∷
    (codes "L 11c TE") ∷
    (codes "= done") ∷
    []

abbrev stage : Stage
stage = Story (left ∷ right ∷ []) policy schedule 1000000

pub Row : Type 0
Row = Shows false false stage told

pub row : Row
unfolding Row given Validate encode_utf8
row = (refl, refl)
