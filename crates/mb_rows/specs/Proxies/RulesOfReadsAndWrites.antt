use Rattle.std.specs.Prelude.{refl, ℕ, List, [], ◌∷◌, true, false, Some, None, codes, pos}
use Rattle.std.specs.Char.{encode_utf8}
use Rattle.mb_tree.specs.declared.kind.Sign.TheVariants.{TripleEqual, NotDoubleEqual, In, Instanceof, Typeof, Delete as DeleteSign}
use Rattle.mb_desc.specs.Validate.{Validate}
use Rattle.mb_world.specs.Value.{Undefined, Null, Truth}
use Rattle.mb_world.specs.Form.{Written, ScriptForm, LetForm, DeclForm, FunctionDeclForm, BlockForm, ExprStmtForm, ReturnForm, TryForm, ParamForm, NameForm, NumberForm, TextForm, LiteralForm, ObjectForm, ValueForm, ArrowForm, GroupForm, MemberForm, IndexForm, AssignForm, CallForm, NewForm, CondForm, AndForm, UnaryForm, BinaryForm}
use Rattle.mb_world.specs.Graph.{Program, Rule}
use Rattle.mb_model.specs.Engine.{given}
use Rattle.mb_model.specs.Story.{Stage, Letter, Story}
use Rattle.mb_rows.specs.Shows.{bound, Shows}

-- run
-- left
--     desk.px = (base, trap, inside, said) => { let h = {}; h[trap] = (T) => { inside(T); return said; }; return new Proxy(base, h); };
--     desk.no = () => { };
--     desk.close = (T) => { Reflect.preventExtensions(T); };
--     desk.dropclose = (T) => { delete T.a; Reflect.preventExtensions(T); };
--     desk.fix = (v, w) => (T) => { Object.defineProperty(T, "a", { value: v, writable: w, configurable: false }); };
--     desk.acc = (g, s) => (T) => { Object.defineProperty(T, "a", { get: g, set: s, configurable: false }); };
--
--     function t(n, f) { let r; try { r = f(); } catch (e) { r = e instanceof TypeError ? "TE" : e instanceof RangeError ? "RE" : e instanceof ReferenceError ? "FE" : e; } print(n, typeof r === "object" && r !== null ? "obj" : typeof r === "function" ? "fun" : r); }
--     t("17a", () => "a" in desk.px({ a: 1 }, "has", desk.fix(1, true), false));
--     t("17b", () => "a" in desk.px({ a: 1 }, "has", desk.close, 0));
--     t("17c", () => "a" in desk.px({ a: 1 }, "has", desk.no, null));
--     t("17d", () => "a" in desk.px({ a: 1 }, "has", desk.dropclose, ""));
--     t("17e", () => "a" in desk.px({}, "has", desk.close, "x"));
--     t("17f", () => Reflect.has(desk.px({ a: 1 }, "has", desk.fix(1, true), 1), "a"));
--     t("18a", () => desk.px({ a: 1 }, "get", desk.fix(1, false), 2).a);
--     t("18b", () => desk.px({ a: 1 }, "get", desk.fix(5, false), 5).a);
--     t("18c", () => desk.px({ a: 1 }, "get", desk.fix(1, true), 2).a);
--     t("18d", () => desk.px({ a: 1 }, "get", desk.acc(undefined, print), 1).a);
--     t("18e", () => desk.px({ a: 1 }, "get", desk.acc(undefined, print), undefined).a);
--     t("18f", () => desk.px({ a: 1 }, "get", desk.acc(print, undefined), 3).a);
--     t("18g", () => desk.px({}, "get", desk.close, 4).a);
--     t("18h", () => desk.px({ a: 1 }, "get", desk.fix("1", false), 1).a);
--     t("19a", () => Reflect.set(desk.px({ a: 1 }, "set", desk.fix(1, false), true), "a", 2));
--     t("19b", () => Reflect.set(desk.px({ a: 1 }, "set", desk.fix(1, false), 1), "a", 1));
--     t("19c", () => Reflect.set(desk.px({ a: 1 }, "set", desk.fix(1, true), 1), "a", 2));
--     t("19d", () => Reflect.set(desk.px({ a: 1 }, "set", desk.acc(print, undefined), 1), "a", 2));
--     t("19e", () => Reflect.set(desk.px({ a: 1 }, "set", desk.acc(undefined, print), 1), "a", 2));
--     t("19f", () => Reflect.set(desk.px({ a: 1 }, "set", desk.fix(1, false), 0), "a", 2));
--     t("19g", () => Reflect.set(desk.px({ a: 1 }, "set", desk.acc(undefined, undefined), false), "a", undefined));
--     t("20a", () => Reflect.deleteProperty(desk.px({ a: 1 }, "deleteProperty", desk.fix(1, true), 1), "a"));
--     t("20b", () => Reflect.deleteProperty(desk.px({ a: 1 }, "deleteProperty", desk.close, 1), "a"));
--     t("20c", () => Reflect.deleteProperty(desk.px({ a: 1 }, "deleteProperty", desk.dropclose, 1), "a"));
--     t("20d", () => Reflect.deleteProperty(desk.px({ a: 1 }, "deleteProperty", desk.no, 1), "a"));
--     t("20e", () => Reflect.deleteProperty(desk.px({ a: 1 }, "deleteProperty", desk.fix(1, true), 0), "a"));
--     t("20f", () => (() => { let p = desk.px({ a: 1 }, "deleteProperty", desk.no, 0); return delete p.a; })());
-- right
--     (empty)

abbrev left : Program
left = record {
  forms =
      NameForm (codes "desk") ∷ MemberForm 0 (codes "px") ∷ ParamForm (codes "base") ∷ ParamForm (codes "trap") ∷
      ParamForm (codes "inside") ∷ ParamForm (codes "said") ∷ ObjectForm [] ∷ DeclForm (codes "h") (Some 6) ∷
      LetForm (7 ∷ []) ∷ NameForm (codes "h") ∷ NameForm (codes "trap") ∷ IndexForm 9 10 ∷
      ParamForm (codes "T") ∷ NameForm (codes "inside") ∷ NameForm (codes "T") ∷ CallForm 13 (14 ∷ []) ∷
      ExprStmtForm 15 ∷ NameForm (codes "said") ∷ ReturnForm (Some 17) ∷
      ArrowForm (record { params = (codes "T") ∷ []; body = (16 ∷ 18 ∷ []) }) true ∷ AssignForm 11 19 ∷
      ExprStmtForm 20 ∷ NameForm (codes "Proxy") ∷ NameForm (codes "base") ∷ NameForm (codes "h") ∷
      NewForm 22 (23 ∷ 24 ∷ []) ∷ ReturnForm (Some 25) ∷
      ArrowForm (record {
        params = (codes "base") ∷ (codes "trap") ∷ (codes "inside") ∷ (codes "said") ∷ [];
        body = (8 ∷ 21 ∷ 26 ∷ []);
      }) true ∷
      AssignForm 1 27 ∷ ExprStmtForm 28 ∷ NameForm (codes "desk") ∷ MemberForm 30 (codes "no") ∷
      ArrowForm (record { params = []; body = [] }) true ∷ AssignForm 31 32 ∷ ExprStmtForm 33 ∷
      NameForm (codes "desk") ∷ MemberForm 35 (codes "close") ∷ ParamForm (codes "T") ∷
      NameForm (codes "Reflect") ∷ MemberForm 38 (codes "preventExtensions") ∷ NameForm (codes "T") ∷
      CallForm 39 (40 ∷ []) ∷ ExprStmtForm 41 ∷
      ArrowForm (record { params = (codes "T") ∷ []; body = (42 ∷ []) }) true ∷ AssignForm 36 43 ∷
      ExprStmtForm 44 ∷ NameForm (codes "desk") ∷ MemberForm 46 (codes "dropclose") ∷ ParamForm (codes "T") ∷
      NameForm (codes "T") ∷ MemberForm 49 (codes "a") ∷ UnaryForm DeleteSign 50 ∷ ExprStmtForm 51 ∷
      NameForm (codes "Reflect") ∷ MemberForm 53 (codes "preventExtensions") ∷ NameForm (codes "T") ∷
      CallForm 54 (55 ∷ []) ∷ ExprStmtForm 56 ∷
      ArrowForm (record { params = (codes "T") ∷ []; body = (52 ∷ 57 ∷ []) }) true ∷ AssignForm 47 58 ∷
      ExprStmtForm 59 ∷ NameForm (codes "desk") ∷ MemberForm 61 (codes "fix") ∷ ParamForm (codes "v") ∷
      ParamForm (codes "w") ∷ ParamForm (codes "T") ∷ NameForm (codes "Object") ∷
      MemberForm 66 (codes "defineProperty") ∷ NameForm (codes "T") ∷ TextForm (codes "a") ∷
      NameForm (codes "v") ∷ ValueForm (Written (codes "value")) 70 ∷ NameForm (codes "w") ∷
      ValueForm (Written (codes "writable")) 72 ∷ LiteralForm (Truth false) ∷
      ValueForm (Written (codes "configurable")) 74 ∷ ObjectForm (71 ∷ 73 ∷ 75 ∷ []) ∷
      CallForm 67 (68 ∷ 69 ∷ 76 ∷ []) ∷ ExprStmtForm 77 ∷
      ArrowForm (record { params = (codes "T") ∷ []; body = (78 ∷ []) }) true ∷
      ArrowForm (record { params = (codes "v") ∷ (codes "w") ∷ []; body = (79 ∷ []) }) false ∷ AssignForm 62 80 ∷
      ExprStmtForm 81 ∷ NameForm (codes "desk") ∷ MemberForm 83 (codes "acc") ∷ ParamForm (codes "g") ∷
      ParamForm (codes "s") ∷ ParamForm (codes "T") ∷ NameForm (codes "Object") ∷
      MemberForm 88 (codes "defineProperty") ∷ NameForm (codes "T") ∷ TextForm (codes "a") ∷
      NameForm (codes "g") ∷ ValueForm (Written (codes "get")) 92 ∷ NameForm (codes "s") ∷
      ValueForm (Written (codes "set")) 94 ∷ LiteralForm (Truth false) ∷
      ValueForm (Written (codes "configurable")) 96 ∷ ObjectForm (93 ∷ 95 ∷ 97 ∷ []) ∷
      CallForm 89 (90 ∷ 91 ∷ 98 ∷ []) ∷ ExprStmtForm 99 ∷
      ArrowForm (record { params = (codes "T") ∷ []; body = (100 ∷ []) }) true ∷
      ArrowForm (record { params = (codes "g") ∷ (codes "s") ∷ []; body = (101 ∷ []) }) false ∷
      AssignForm 84 102 ∷ ExprStmtForm 103 ∷ ParamForm (codes "n") ∷ ParamForm (codes "f") ∷
      DeclForm (codes "r") None ∷ LetForm (107 ∷ []) ∷ NameForm (codes "r") ∷ NameForm (codes "f") ∷
      CallForm 110 [] ∷ AssignForm 109 111 ∷ ExprStmtForm 112 ∷ BlockForm (113 ∷ []) ∷ ParamForm (codes "e") ∷
      NameForm (codes "r") ∷ NameForm (codes "e") ∷ NameForm (codes "TypeError") ∷
      BinaryForm Instanceof 117 118 ∷ TextForm (codes "TE") ∷ NameForm (codes "e") ∷
      NameForm (codes "RangeError") ∷ BinaryForm Instanceof 121 122 ∷ TextForm (codes "RE") ∷
      NameForm (codes "e") ∷ NameForm (codes "ReferenceError") ∷ BinaryForm Instanceof 125 126 ∷
      TextForm (codes "FE") ∷ NameForm (codes "e") ∷ CondForm 127 128 129 ∷ CondForm 123 124 130 ∷
      CondForm 119 120 131 ∷ AssignForm 116 132 ∷ ExprStmtForm 133 ∷ BlockForm (134 ∷ []) ∷
      TryForm 114 (Some (codes "e")) (Some 135) None ∷ NameForm (codes "print") ∷ NameForm (codes "n") ∷
      NameForm (codes "r") ∷ UnaryForm Typeof 139 ∷ TextForm (codes "object") ∷ BinaryForm TripleEqual 140 141 ∷
      NameForm (codes "r") ∷ LiteralForm (Null) ∷ BinaryForm NotDoubleEqual 143 144 ∷ AndForm 142 145 ∷
      TextForm (codes "obj") ∷ NameForm (codes "r") ∷ UnaryForm Typeof 148 ∷ TextForm (codes "function") ∷
      BinaryForm TripleEqual 149 150 ∷ TextForm (codes "fun") ∷ NameForm (codes "r") ∷ CondForm 151 152 153 ∷
      CondForm 146 147 154 ∷ CallForm 137 (138 ∷ 155 ∷ []) ∷ ExprStmtForm 156 ∷
      FunctionDeclForm (codes "t") (record {
        params = (codes "n") ∷ (codes "f") ∷ [];
        body = (108 ∷ 136 ∷ 157 ∷
            []);
      }) ∷
      NameForm (codes "t") ∷ TextForm (codes "17a") ∷ TextForm (codes "a") ∷ NameForm (codes "desk") ∷
      MemberForm 162 (codes "px") ∷ NumberForm (pos 1) ∷ ValueForm (Written (codes "a")) 164 ∷
      ObjectForm (165 ∷ []) ∷ TextForm (codes "has") ∷ NameForm (codes "desk") ∷ MemberForm 168 (codes "fix") ∷
      NumberForm (pos 1) ∷ LiteralForm (Truth true) ∷ CallForm 169 (170 ∷ 171 ∷ []) ∷ LiteralForm (Truth false) ∷
      CallForm 163 (166 ∷ 167 ∷ 172 ∷ 173 ∷ []) ∷ BinaryForm In 161 174 ∷
      ArrowForm (record { params = []; body = (175 ∷ []) }) false ∷ CallForm 159 (160 ∷ 176 ∷ []) ∷
      ExprStmtForm 177 ∷ NameForm (codes "t") ∷ TextForm (codes "17b") ∷ TextForm (codes "a") ∷
      NameForm (codes "desk") ∷ MemberForm 182 (codes "px") ∷ NumberForm (pos 1) ∷
      ValueForm (Written (codes "a")) 184 ∷ ObjectForm (185 ∷ []) ∷ TextForm (codes "has") ∷
      NameForm (codes "desk") ∷ MemberForm 188 (codes "close") ∷ NumberForm (pos 0) ∷
      CallForm 183 (186 ∷ 187 ∷ 189 ∷ 190 ∷ []) ∷ BinaryForm In 181 191 ∷
      ArrowForm (record { params = []; body = (192 ∷ []) }) false ∷ CallForm 179 (180 ∷ 193 ∷ []) ∷
      ExprStmtForm 194 ∷ NameForm (codes "t") ∷ TextForm (codes "17c") ∷ TextForm (codes "a") ∷
      NameForm (codes "desk") ∷ MemberForm 199 (codes "px") ∷ NumberForm (pos 1) ∷
      ValueForm (Written (codes "a")) 201 ∷ ObjectForm (202 ∷ []) ∷ TextForm (codes "has") ∷
      NameForm (codes "desk") ∷ MemberForm 205 (codes "no") ∷ LiteralForm (Null) ∷
      CallForm 200 (203 ∷ 204 ∷ 206 ∷ 207 ∷ []) ∷ BinaryForm In 198 208 ∷
      ArrowForm (record { params = []; body = (209 ∷ []) }) false ∷ CallForm 196 (197 ∷ 210 ∷ []) ∷
      ExprStmtForm 211 ∷ NameForm (codes "t") ∷ TextForm (codes "17d") ∷ TextForm (codes "a") ∷
      NameForm (codes "desk") ∷ MemberForm 216 (codes "px") ∷ NumberForm (pos 1) ∷
      ValueForm (Written (codes "a")) 218 ∷ ObjectForm (219 ∷ []) ∷ TextForm (codes "has") ∷
      NameForm (codes "desk") ∷ MemberForm 222 (codes "dropclose") ∷ TextForm [] ∷
      CallForm 217 (220 ∷ 221 ∷ 223 ∷ 224 ∷ []) ∷ BinaryForm In 215 225 ∷
      ArrowForm (record { params = []; body = (226 ∷ []) }) false ∷ CallForm 213 (214 ∷ 227 ∷ []) ∷
      ExprStmtForm 228 ∷ NameForm (codes "t") ∷ TextForm (codes "17e") ∷ TextForm (codes "a") ∷
      NameForm (codes "desk") ∷ MemberForm 233 (codes "px") ∷ ObjectForm [] ∷ TextForm (codes "has") ∷
      NameForm (codes "desk") ∷ MemberForm 237 (codes "close") ∷ TextForm (codes "x") ∷
      CallForm 234 (235 ∷ 236 ∷ 238 ∷ 239 ∷ []) ∷ BinaryForm In 232 240 ∷
      ArrowForm (record { params = []; body = (241 ∷ []) }) false ∷ CallForm 230 (231 ∷ 242 ∷ []) ∷
      ExprStmtForm 243 ∷ NameForm (codes "t") ∷ TextForm (codes "17f") ∷ NameForm (codes "Reflect") ∷
      MemberForm 247 (codes "has") ∷ NameForm (codes "desk") ∷ MemberForm 249 (codes "px") ∷ NumberForm (pos 1) ∷
      ValueForm (Written (codes "a")) 251 ∷ ObjectForm (252 ∷ []) ∷ TextForm (codes "has") ∷
      NameForm (codes "desk") ∷ MemberForm 255 (codes "fix") ∷ NumberForm (pos 1) ∷ LiteralForm (Truth true) ∷
      CallForm 256 (257 ∷ 258 ∷ []) ∷ NumberForm (pos 1) ∷ CallForm 250 (253 ∷ 254 ∷ 259 ∷ 260 ∷ []) ∷
      TextForm (codes "a") ∷ CallForm 248 (261 ∷ 262 ∷ []) ∷
      ArrowForm (record { params = []; body = (263 ∷ []) }) false ∷ CallForm 245 (246 ∷ 264 ∷ []) ∷
      ExprStmtForm 265 ∷ NameForm (codes "t") ∷ TextForm (codes "18a") ∷ NameForm (codes "desk") ∷
      MemberForm 269 (codes "px") ∷ NumberForm (pos 1) ∷ ValueForm (Written (codes "a")) 271 ∷
      ObjectForm (272 ∷ []) ∷ TextForm (codes "get") ∷ NameForm (codes "desk") ∷ MemberForm 275 (codes "fix") ∷
      NumberForm (pos 1) ∷ LiteralForm (Truth false) ∷ CallForm 276 (277 ∷ 278 ∷ []) ∷ NumberForm (pos 2) ∷
      CallForm 270 (273 ∷ 274 ∷ 279 ∷ 280 ∷ []) ∷ MemberForm 281 (codes "a") ∷
      ArrowForm (record { params = []; body = (282 ∷ []) }) false ∷ CallForm 267 (268 ∷ 283 ∷ []) ∷
      ExprStmtForm 284 ∷ NameForm (codes "t") ∷ TextForm (codes "18b") ∷ NameForm (codes "desk") ∷
      MemberForm 288 (codes "px") ∷ NumberForm (pos 1) ∷ ValueForm (Written (codes "a")) 290 ∷
      ObjectForm (291 ∷ []) ∷ TextForm (codes "get") ∷ NameForm (codes "desk") ∷ MemberForm 294 (codes "fix") ∷
      NumberForm (pos 5) ∷ LiteralForm (Truth false) ∷ CallForm 295 (296 ∷ 297 ∷ []) ∷ NumberForm (pos 5) ∷
      CallForm 289 (292 ∷ 293 ∷ 298 ∷ 299 ∷ []) ∷ MemberForm 300 (codes "a") ∷
      ArrowForm (record { params = []; body = (301 ∷ []) }) false ∷ CallForm 286 (287 ∷ 302 ∷ []) ∷
      ExprStmtForm 303 ∷ NameForm (codes "t") ∷ TextForm (codes "18c") ∷ NameForm (codes "desk") ∷
      MemberForm 307 (codes "px") ∷ NumberForm (pos 1) ∷ ValueForm (Written (codes "a")) 309 ∷
      ObjectForm (310 ∷ []) ∷ TextForm (codes "get") ∷ NameForm (codes "desk") ∷ MemberForm 313 (codes "fix") ∷
      NumberForm (pos 1) ∷ LiteralForm (Truth true) ∷ CallForm 314 (315 ∷ 316 ∷ []) ∷ NumberForm (pos 2) ∷
      CallForm 308 (311 ∷ 312 ∷ 317 ∷ 318 ∷ []) ∷ MemberForm 319 (codes "a") ∷
      ArrowForm (record { params = []; body = (320 ∷ []) }) false ∷ CallForm 305 (306 ∷ 321 ∷ []) ∷
      ExprStmtForm 322 ∷ NameForm (codes "t") ∷ TextForm (codes "18d") ∷ NameForm (codes "desk") ∷
      MemberForm 326 (codes "px") ∷ NumberForm (pos 1) ∷ ValueForm (Written (codes "a")) 328 ∷
      ObjectForm (329 ∷ []) ∷ TextForm (codes "get") ∷ NameForm (codes "desk") ∷ MemberForm 332 (codes "acc") ∷
      LiteralForm (Undefined) ∷ NameForm (codes "print") ∷ CallForm 333 (334 ∷ 335 ∷ []) ∷ NumberForm (pos 1) ∷
      CallForm 327 (330 ∷ 331 ∷ 336 ∷ 337 ∷ []) ∷ MemberForm 338 (codes "a") ∷
      ArrowForm (record { params = []; body = (339 ∷ []) }) false ∷ CallForm 324 (325 ∷ 340 ∷ []) ∷
      ExprStmtForm 341 ∷ NameForm (codes "t") ∷ TextForm (codes "18e") ∷ NameForm (codes "desk") ∷
      MemberForm 345 (codes "px") ∷ NumberForm (pos 1) ∷ ValueForm (Written (codes "a")) 347 ∷
      ObjectForm (348 ∷ []) ∷ TextForm (codes "get") ∷ NameForm (codes "desk") ∷ MemberForm 351 (codes "acc") ∷
      LiteralForm (Undefined) ∷ NameForm (codes "print") ∷ CallForm 352 (353 ∷ 354 ∷ []) ∷
      LiteralForm (Undefined) ∷ CallForm 346 (349 ∷ 350 ∷ 355 ∷ 356 ∷ []) ∷ MemberForm 357 (codes "a") ∷
      ArrowForm (record { params = []; body = (358 ∷ []) }) false ∷ CallForm 343 (344 ∷ 359 ∷ []) ∷
      ExprStmtForm 360 ∷ NameForm (codes "t") ∷ TextForm (codes "18f") ∷ NameForm (codes "desk") ∷
      MemberForm 364 (codes "px") ∷ NumberForm (pos 1) ∷ ValueForm (Written (codes "a")) 366 ∷
      ObjectForm (367 ∷ []) ∷ TextForm (codes "get") ∷ NameForm (codes "desk") ∷ MemberForm 370 (codes "acc") ∷
      NameForm (codes "print") ∷ LiteralForm (Undefined) ∷ CallForm 371 (372 ∷ 373 ∷ []) ∷ NumberForm (pos 3) ∷
      CallForm 365 (368 ∷ 369 ∷ 374 ∷ 375 ∷ []) ∷ MemberForm 376 (codes "a") ∷
      ArrowForm (record { params = []; body = (377 ∷ []) }) false ∷ CallForm 362 (363 ∷ 378 ∷ []) ∷
      ExprStmtForm 379 ∷ NameForm (codes "t") ∷ TextForm (codes "18g") ∷ NameForm (codes "desk") ∷
      MemberForm 383 (codes "px") ∷ ObjectForm [] ∷ TextForm (codes "get") ∷ NameForm (codes "desk") ∷
      MemberForm 387 (codes "close") ∷ NumberForm (pos 4) ∷ CallForm 384 (385 ∷ 386 ∷ 388 ∷ 389 ∷ []) ∷
      MemberForm 390 (codes "a") ∷ ArrowForm (record { params = []; body = (391 ∷ []) }) false ∷
      CallForm 381 (382 ∷ 392 ∷ []) ∷ ExprStmtForm 393 ∷ NameForm (codes "t") ∷ TextForm (codes "18h") ∷
      NameForm (codes "desk") ∷ MemberForm 397 (codes "px") ∷ NumberForm (pos 1) ∷
      ValueForm (Written (codes "a")) 399 ∷ ObjectForm (400 ∷ []) ∷ TextForm (codes "get") ∷
      NameForm (codes "desk") ∷ MemberForm 403 (codes "fix") ∷ TextForm (codes "1") ∷ LiteralForm (Truth false) ∷
      CallForm 404 (405 ∷ 406 ∷ []) ∷ NumberForm (pos 1) ∷ CallForm 398 (401 ∷ 402 ∷ 407 ∷ 408 ∷ []) ∷
      MemberForm 409 (codes "a") ∷ ArrowForm (record { params = []; body = (410 ∷ []) }) false ∷
      CallForm 395 (396 ∷ 411 ∷ []) ∷ ExprStmtForm 412 ∷ NameForm (codes "t") ∷ TextForm (codes "19a") ∷
      NameForm (codes "Reflect") ∷ MemberForm 416 (codes "set") ∷ NameForm (codes "desk") ∷
      MemberForm 418 (codes "px") ∷ NumberForm (pos 1) ∷ ValueForm (Written (codes "a")) 420 ∷
      ObjectForm (421 ∷ []) ∷ TextForm (codes "set") ∷ NameForm (codes "desk") ∷ MemberForm 424 (codes "fix") ∷
      NumberForm (pos 1) ∷ LiteralForm (Truth false) ∷ CallForm 425 (426 ∷ 427 ∷ []) ∷ LiteralForm (Truth true) ∷
      CallForm 419 (422 ∷ 423 ∷ 428 ∷ 429 ∷ []) ∷ TextForm (codes "a") ∷ NumberForm (pos 2) ∷
      CallForm 417 (430 ∷ 431 ∷ 432 ∷ []) ∷ ArrowForm (record { params = []; body = (433 ∷ []) }) false ∷
      CallForm 414 (415 ∷ 434 ∷ []) ∷ ExprStmtForm 435 ∷ NameForm (codes "t") ∷ TextForm (codes "19b") ∷
      NameForm (codes "Reflect") ∷ MemberForm 439 (codes "set") ∷ NameForm (codes "desk") ∷
      MemberForm 441 (codes "px") ∷ NumberForm (pos 1) ∷ ValueForm (Written (codes "a")) 443 ∷
      ObjectForm (444 ∷ []) ∷ TextForm (codes "set") ∷ NameForm (codes "desk") ∷ MemberForm 447 (codes "fix") ∷
      NumberForm (pos 1) ∷ LiteralForm (Truth false) ∷ CallForm 448 (449 ∷ 450 ∷ []) ∷ NumberForm (pos 1) ∷
      CallForm 442 (445 ∷ 446 ∷ 451 ∷ 452 ∷ []) ∷ TextForm (codes "a") ∷ NumberForm (pos 1) ∷
      CallForm 440 (453 ∷ 454 ∷ 455 ∷ []) ∷ ArrowForm (record { params = []; body = (456 ∷ []) }) false ∷
      CallForm 437 (438 ∷ 457 ∷ []) ∷ ExprStmtForm 458 ∷ NameForm (codes "t") ∷ TextForm (codes "19c") ∷
      NameForm (codes "Reflect") ∷ MemberForm 462 (codes "set") ∷ NameForm (codes "desk") ∷
      MemberForm 464 (codes "px") ∷ NumberForm (pos 1) ∷ ValueForm (Written (codes "a")) 466 ∷
      ObjectForm (467 ∷ []) ∷ TextForm (codes "set") ∷ NameForm (codes "desk") ∷ MemberForm 470 (codes "fix") ∷
      NumberForm (pos 1) ∷ LiteralForm (Truth true) ∷ CallForm 471 (472 ∷ 473 ∷ []) ∷ NumberForm (pos 1) ∷
      CallForm 465 (468 ∷ 469 ∷ 474 ∷ 475 ∷ []) ∷ TextForm (codes "a") ∷ NumberForm (pos 2) ∷
      CallForm 463 (476 ∷ 477 ∷ 478 ∷ []) ∷ ArrowForm (record { params = []; body = (479 ∷ []) }) false ∷
      CallForm 460 (461 ∷ 480 ∷ []) ∷ ExprStmtForm 481 ∷ NameForm (codes "t") ∷ TextForm (codes "19d") ∷
      NameForm (codes "Reflect") ∷ MemberForm 485 (codes "set") ∷ NameForm (codes "desk") ∷
      MemberForm 487 (codes "px") ∷ NumberForm (pos 1) ∷ ValueForm (Written (codes "a")) 489 ∷
      ObjectForm (490 ∷ []) ∷ TextForm (codes "set") ∷ NameForm (codes "desk") ∷ MemberForm 493 (codes "acc") ∷
      NameForm (codes "print") ∷ LiteralForm (Undefined) ∷ CallForm 494 (495 ∷ 496 ∷ []) ∷ NumberForm (pos 1) ∷
      CallForm 488 (491 ∷ 492 ∷ 497 ∷ 498 ∷ []) ∷ TextForm (codes "a") ∷ NumberForm (pos 2) ∷
      CallForm 486 (499 ∷ 500 ∷ 501 ∷ []) ∷ ArrowForm (record { params = []; body = (502 ∷ []) }) false ∷
      CallForm 483 (484 ∷ 503 ∷ []) ∷ ExprStmtForm 504 ∷ NameForm (codes "t") ∷ TextForm (codes "19e") ∷
      NameForm (codes "Reflect") ∷ MemberForm 508 (codes "set") ∷ NameForm (codes "desk") ∷
      MemberForm 510 (codes "px") ∷ NumberForm (pos 1) ∷ ValueForm (Written (codes "a")) 512 ∷
      ObjectForm (513 ∷ []) ∷ TextForm (codes "set") ∷ NameForm (codes "desk") ∷ MemberForm 516 (codes "acc") ∷
      LiteralForm (Undefined) ∷ NameForm (codes "print") ∷ CallForm 517 (518 ∷ 519 ∷ []) ∷ NumberForm (pos 1) ∷
      CallForm 511 (514 ∷ 515 ∷ 520 ∷ 521 ∷ []) ∷ TextForm (codes "a") ∷ NumberForm (pos 2) ∷
      CallForm 509 (522 ∷ 523 ∷ 524 ∷ []) ∷ ArrowForm (record { params = []; body = (525 ∷ []) }) false ∷
      CallForm 506 (507 ∷ 526 ∷ []) ∷ ExprStmtForm 527 ∷ NameForm (codes "t") ∷ TextForm (codes "19f") ∷
      NameForm (codes "Reflect") ∷ MemberForm 531 (codes "set") ∷ NameForm (codes "desk") ∷
      MemberForm 533 (codes "px") ∷ NumberForm (pos 1) ∷ ValueForm (Written (codes "a")) 535 ∷
      ObjectForm (536 ∷ []) ∷ TextForm (codes "set") ∷ NameForm (codes "desk") ∷ MemberForm 539 (codes "fix") ∷
      NumberForm (pos 1) ∷ LiteralForm (Truth false) ∷ CallForm 540 (541 ∷ 542 ∷ []) ∷ NumberForm (pos 0) ∷
      CallForm 534 (537 ∷ 538 ∷ 543 ∷ 544 ∷ []) ∷ TextForm (codes "a") ∷ NumberForm (pos 2) ∷
      CallForm 532 (545 ∷ 546 ∷ 547 ∷ []) ∷ ArrowForm (record { params = []; body = (548 ∷ []) }) false ∷
      CallForm 529 (530 ∷ 549 ∷ []) ∷ ExprStmtForm 550 ∷ NameForm (codes "t") ∷ TextForm (codes "19g") ∷
      NameForm (codes "Reflect") ∷ MemberForm 554 (codes "set") ∷ NameForm (codes "desk") ∷
      MemberForm 556 (codes "px") ∷ NumberForm (pos 1) ∷ ValueForm (Written (codes "a")) 558 ∷
      ObjectForm (559 ∷ []) ∷ TextForm (codes "set") ∷ NameForm (codes "desk") ∷ MemberForm 562 (codes "acc") ∷
      LiteralForm (Undefined) ∷ LiteralForm (Undefined) ∷ CallForm 563 (564 ∷ 565 ∷ []) ∷
      LiteralForm (Truth false) ∷ CallForm 557 (560 ∷ 561 ∷ 566 ∷ 567 ∷ []) ∷ TextForm (codes "a") ∷
      LiteralForm (Undefined) ∷ CallForm 555 (568 ∷ 569 ∷ 570 ∷ []) ∷
      ArrowForm (record { params = []; body = (571 ∷ []) }) false ∷ CallForm 552 (553 ∷ 572 ∷ []) ∷
      ExprStmtForm 573 ∷ NameForm (codes "t") ∷ TextForm (codes "20a") ∷ NameForm (codes "Reflect") ∷
      MemberForm 577 (codes "deleteProperty") ∷ NameForm (codes "desk") ∷ MemberForm 579 (codes "px") ∷
      NumberForm (pos 1) ∷ ValueForm (Written (codes "a")) 581 ∷ ObjectForm (582 ∷ []) ∷
      TextForm (codes "deleteProperty") ∷ NameForm (codes "desk") ∷ MemberForm 585 (codes "fix") ∷
      NumberForm (pos 1) ∷ LiteralForm (Truth true) ∷ CallForm 586 (587 ∷ 588 ∷ []) ∷ NumberForm (pos 1) ∷
      CallForm 580 (583 ∷ 584 ∷ 589 ∷ 590 ∷ []) ∷ TextForm (codes "a") ∷ CallForm 578 (591 ∷ 592 ∷ []) ∷
      ArrowForm (record { params = []; body = (593 ∷ []) }) false ∷ CallForm 575 (576 ∷ 594 ∷ []) ∷
      ExprStmtForm 595 ∷ NameForm (codes "t") ∷ TextForm (codes "20b") ∷ NameForm (codes "Reflect") ∷
      MemberForm 599 (codes "deleteProperty") ∷ NameForm (codes "desk") ∷ MemberForm 601 (codes "px") ∷
      NumberForm (pos 1) ∷ ValueForm (Written (codes "a")) 603 ∷ ObjectForm (604 ∷ []) ∷
      TextForm (codes "deleteProperty") ∷ NameForm (codes "desk") ∷ MemberForm 607 (codes "close") ∷
      NumberForm (pos 1) ∷ CallForm 602 (605 ∷ 606 ∷ 608 ∷ 609 ∷ []) ∷ TextForm (codes "a") ∷
      CallForm 600 (610 ∷ 611 ∷ []) ∷ ArrowForm (record { params = []; body = (612 ∷ []) }) false ∷
      CallForm 597 (598 ∷ 613 ∷ []) ∷ ExprStmtForm 614 ∷ NameForm (codes "t") ∷ TextForm (codes "20c") ∷
      NameForm (codes "Reflect") ∷ MemberForm 618 (codes "deleteProperty") ∷ NameForm (codes "desk") ∷
      MemberForm 620 (codes "px") ∷ NumberForm (pos 1) ∷ ValueForm (Written (codes "a")) 622 ∷
      ObjectForm (623 ∷ []) ∷ TextForm (codes "deleteProperty") ∷ NameForm (codes "desk") ∷
      MemberForm 626 (codes "dropclose") ∷ NumberForm (pos 1) ∷ CallForm 621 (624 ∷ 625 ∷ 627 ∷ 628 ∷ []) ∷
      TextForm (codes "a") ∷ CallForm 619 (629 ∷ 630 ∷ []) ∷
      ArrowForm (record { params = []; body = (631 ∷ []) }) false ∷ CallForm 616 (617 ∷ 632 ∷ []) ∷
      ExprStmtForm 633 ∷ NameForm (codes "t") ∷ TextForm (codes "20d") ∷ NameForm (codes "Reflect") ∷
      MemberForm 637 (codes "deleteProperty") ∷ NameForm (codes "desk") ∷ MemberForm 639 (codes "px") ∷
      NumberForm (pos 1) ∷ ValueForm (Written (codes "a")) 641 ∷ ObjectForm (642 ∷ []) ∷
      TextForm (codes "deleteProperty") ∷ NameForm (codes "desk") ∷ MemberForm 645 (codes "no") ∷
      NumberForm (pos 1) ∷ CallForm 640 (643 ∷ 644 ∷ 646 ∷ 647 ∷ []) ∷ TextForm (codes "a") ∷
      CallForm 638 (648 ∷ 649 ∷ []) ∷ ArrowForm (record { params = []; body = (650 ∷ []) }) false ∷
      CallForm 635 (636 ∷ 651 ∷ []) ∷ ExprStmtForm 652 ∷ NameForm (codes "t") ∷ TextForm (codes "20e") ∷
      NameForm (codes "Reflect") ∷ MemberForm 656 (codes "deleteProperty") ∷ NameForm (codes "desk") ∷
      MemberForm 658 (codes "px") ∷ NumberForm (pos 1) ∷ ValueForm (Written (codes "a")) 660 ∷
      ObjectForm (661 ∷ []) ∷ TextForm (codes "deleteProperty") ∷ NameForm (codes "desk") ∷
      MemberForm 664 (codes "fix") ∷ NumberForm (pos 1) ∷ LiteralForm (Truth true) ∷
      CallForm 665 (666 ∷ 667 ∷ []) ∷ NumberForm (pos 0) ∷ CallForm 659 (662 ∷ 663 ∷ 668 ∷ 669 ∷ []) ∷
      TextForm (codes "a") ∷ CallForm 657 (670 ∷ 671 ∷ []) ∷
      ArrowForm (record { params = []; body = (672 ∷ []) }) false ∷ CallForm 654 (655 ∷ 673 ∷ []) ∷
      ExprStmtForm 674 ∷ NameForm (codes "t") ∷ TextForm (codes "20f") ∷ NameForm (codes "desk") ∷
      MemberForm 678 (codes "px") ∷ NumberForm (pos 1) ∷ ValueForm (Written (codes "a")) 680 ∷
      ObjectForm (681 ∷ []) ∷ TextForm (codes "deleteProperty") ∷ NameForm (codes "desk") ∷
      MemberForm 684 (codes "no") ∷ NumberForm (pos 0) ∷ CallForm 679 (682 ∷ 683 ∷ 685 ∷ 686 ∷ []) ∷
      DeclForm (codes "p") (Some 687) ∷ LetForm (688 ∷ []) ∷ NameForm (codes "p") ∷ MemberForm 690 (codes "a") ∷
      UnaryForm DeleteSign 691 ∷ ReturnForm (Some 692) ∷
      ArrowForm (record { params = []; body = (689 ∷ 693 ∷ []) }) true ∷ GroupForm 694 ∷ CallForm 695 [] ∷
      ArrowForm (record { params = []; body = (696 ∷ []) }) false ∷ CallForm 676 (677 ∷ 697 ∷ []) ∷
      ExprStmtForm 698 ∷
      ScriptForm (29 ∷ 34 ∷ 45 ∷ 60 ∷ 82 ∷ 104 ∷ 158 ∷ 178 ∷ 195 ∷ 212 ∷ 229 ∷ 244 ∷ 266 ∷ 285 ∷ 304 ∷ 323 ∷
      342 ∷ 361 ∷ 380 ∷ 394 ∷ 413 ∷ 436 ∷ 459 ∷ 482 ∷ 505 ∷ 528 ∷ 551 ∷ 574 ∷ 596 ∷ 615 ∷ 634 ∷ 653 ∷ 675 ∷
      699 ∷ []) ∷
      [];
  names =
      bound 19 (codes "T") false ∷ bound 27 (codes "base") false ∷ bound 27 (codes "trap") false ∷
      bound 27 (codes "inside") false ∷ bound 27 (codes "said") false ∷ bound 27 (codes "h") false ∷
      bound 43 (codes "T") false ∷ bound 58 (codes "T") false ∷ bound 79 (codes "T") false ∷
      bound 80 (codes "v") false ∷ bound 80 (codes "w") false ∷ bound 101 (codes "T") false ∷
      bound 102 (codes "g") false ∷ bound 102 (codes "s") false ∷ bound 136 (codes "e") false ∷
      bound 158 (codes "n") false ∷ bound 158 (codes "f") false ∷ bound 158 (codes "r") false ∷
      bound 694 (codes "p") false ∷ bound 700 (codes "t") false ∷
      [];
}

abbrev right : Program
right = record {
  forms =
      ScriptForm [] ∷
      [];
  names = [];
}

abbrev policy : List Rule
policy = []

abbrev schedule : List Letter
schedule = []

abbrev told : List (List ℕ)
told =
    (codes "L 17a TE") ∷
    (codes "L 17b TE") ∷
    (codes "L 17c false") ∷
    (codes "L 17d false") ∷
    (codes "L 17e true") ∷
    (codes "L 17f true") ∷
    (codes "L 18a TE") ∷
    (codes "L 18b 5") ∷
    (codes "L 18c 2") ∷
    (codes "L 18d TE") ∷
    (codes "L 18e undefined") ∷
    (codes "L 18f 3") ∷
    (codes "L 18g 4") ∷
    (codes "L 18h TE") ∷
    (codes "L 19a TE") ∷
    (codes "L 19b true") ∷
    (codes "L 19c true") ∷
    (codes "L 19d TE") ∷
    (codes "L 19e true") ∷
    (codes "L 19f false") ∷
    (codes "L 19g false") ∷
    (codes "L 20a TE") ∷
    (codes "L 20b TE") ∷
    (codes "L 20c true") ∷
    (codes "L 20d true") ∷
    (codes "L 20e false") ∷
    (codes "L 20f TE") ∷
    (codes "= done") ∷
    []

abbrev stage : Stage
stage = Story (left ∷ right ∷ []) policy schedule 1000000

pub Row : Type 0
Row = Shows false false stage told

pub row : Row
unfolding Row given Validate encode_utf8
row = (refl, refl)
