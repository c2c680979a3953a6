use Rattle.std.specs.Prelude.{◌≡◌, refl, ℕ, List, [], ◌∷◌, true, false, Some, None, codes, pos}
use Rattle.std.specs.Char.{encode_utf8}
use Rattle.mb_tree.specs.declared.kind.Sign.TheVariants.{TripleEqual, NotDoubleEqual, Instanceof, Typeof}
use Rattle.mb_desc.specs.Validate.{Validate}
use Rattle.mb_world.specs.Value.{Undefined, Null, Truth}
use Rattle.mb_world.specs.Form.{Written, ScriptForm, LetForm, DeclForm, FunctionDeclForm, BlockForm, ExprStmtForm, IfForm, ReturnForm, TryForm, ParamForm, NameForm, NumberForm, TextForm, LiteralForm, ObjectForm, ValueForm, ArrowForm, MemberForm, AssignForm, CallForm, NewForm, CondForm, AndForm, UnaryForm, BinaryForm}
use Rattle.mb_world.specs.Graph.{Program, Rule}
use Rattle.mb_model.specs.Engine.{given}
use Rattle.mb_model.specs.Story.{Stage, Letter, Story}
use Rattle.mb_rows.specs.Shows.{bound, Shows}

-- run
-- left
--     desk.gp = (x, close) => new Proxy({}, { getPrototypeOf: (T) => { if (close) { Reflect.preventExtensions(T); } return x === "real" ? Object.prototype : x; } });
--     desk.sp = (x, close) => new Proxy({}, { setPrototypeOf: (T, p) => { if (close) { Reflect.preventExtensions(T); } return x; } });
--
--     function t(n, f) { let r; try { r = f(); } catch (e) { r = e instanceof TypeError ? "TE" : e instanceof RangeError ? "RE" : e instanceof ReferenceError ? "FE" : e; } print(n, typeof r === "object" && r !== null ? "obj" : typeof r === "function" ? "fun" : r); }
--     t("1a", () => Reflect.getPrototypeOf(desk.gp(1)));
--     t("1b", () => Reflect.getPrototypeOf(desk.gp(undefined)));
--     t("1c", () => Reflect.getPrototypeOf(desk.gp(null)));
--     t("1d", () => Reflect.getPrototypeOf(desk.gp({})));
--     t("1e", () => Reflect.getPrototypeOf(desk.gp(print)));
--     t("1f", () => Reflect.getPrototypeOf(desk.gp("text")));
--     t("2a", () => Reflect.getPrototypeOf(desk.gp(null, true)));
--     t("2b", () => Reflect.getPrototypeOf(desk.gp({}, true)));
--     t("2c", () => Reflect.getPrototypeOf(desk.gp("real", true)) === Object.prototype);
--     t("2d", () => desk.gp({}, true) instanceof Object);
--     t("2e", () => Object.getPrototypeOf(desk.gp(null)));
--     t("3a", () => Reflect.setPrototypeOf(desk.sp(true, true), null));
--     t("3b", () => Reflect.setPrototypeOf(desk.sp(1, true), Object.prototype));
--     t("3c", () => Reflect.setPrototypeOf(desk.sp(0, true), null));
--     t("3d", () => Reflect.setPrototypeOf(desk.sp("x"), null));
--     t("3e", () => Object.setPrototypeOf(desk.sp(""), null));
--     t("3f", () => Reflect.setPrototypeOf(desk.sp(true), 1));
-- right
--     function t(n, f) { let r; try { r = f(); } catch (e) { r = e instanceof TypeError ? "TE" : e instanceof RangeError ? "RE" : e instanceof ReferenceError ? "FE" : e; } print(n, typeof r === "object" && r !== null ? "obj" : typeof r === "function" ? "fun" : r); }
--     t("1a", () => Reflect.getPrototypeOf(desk.gp(1)));
--     t("1b", () => Reflect.getPrototypeOf(desk.gp(undefined)));
--     t("1c", () => Reflect.getPrototypeOf(desk.gp(null)));
--     t("1d", () => Reflect.getPrototypeOf(desk.gp({})));
--     t("1e", () => Reflect.getPrototypeOf(desk.gp(print)));
--     t("1f", () => Reflect.getPrototypeOf(desk.gp("text")));
--     t("2a", () => Reflect.getPrototypeOf(desk.gp(null, true)));
--     t("2b", () => Reflect.getPrototypeOf(desk.gp({}, true)));
--     t("2c", () => Reflect.getPrototypeOf(desk.gp("real", true)) === Object.prototype);
--     t("2d", () => desk.gp({}, true) instanceof Object);
--     t("2e", () => Object.getPrototypeOf(desk.gp(null)));
--     t("3a", () => Reflect.setPrototypeOf(desk.sp(true, true), null));
--     t("3b", () => Reflect.setPrototypeOf(desk.sp(1, true), Object.prototype));
--     t("3c", () => Reflect.setPrototypeOf(desk.sp(0, true), null));
--     t("3d", () => Reflect.setPrototypeOf(desk.sp("x"), null));
--     t("3e", () => Object.setPrototypeOf(desk.sp(""), null));
--     t("3f", () => Reflect.setPrototypeOf(desk.sp(true), 1));

abbrev left : Program
left = record {
  forms =
      NameForm (codes "desk") ∷ MemberForm 0 (codes "gp") ∷ ParamForm (codes "x") ∷ ParamForm (codes "close") ∷
      NameForm (codes "Proxy") ∷ ObjectForm [] ∷ ParamForm (codes "T") ∷ NameForm (codes "close") ∷
      NameForm (codes "Reflect") ∷ MemberForm 8 (codes "preventExtensions") ∷ NameForm (codes "T") ∷
      CallForm 9 (10 ∷ []) ∷ ExprStmtForm 11 ∷ BlockForm (12 ∷ []) ∷ IfForm 7 13 None ∷ NameForm (codes "x") ∷
      TextForm (codes "real") ∷ BinaryForm TripleEqual 15 16 ∷ NameForm (codes "Object") ∷
      MemberForm 18 (codes "prototype") ∷ NameForm (codes "x") ∷ CondForm 17 19 20 ∷ ReturnForm (Some 21) ∷
      ArrowForm (record { params = (codes "T") ∷ []; body = (14 ∷ 22 ∷ []) }) true ∷
      ValueForm (Written (codes "getPrototypeOf")) 23 ∷ ObjectForm (24 ∷ []) ∷ NewForm 4 (5 ∷ 25 ∷ []) ∷
      ArrowForm (record { params = (codes "x") ∷ (codes "close") ∷ []; body = (26 ∷ []) }) false ∷
      AssignForm 1 27 ∷ ExprStmtForm 28 ∷ NameForm (codes "desk") ∷ MemberForm 30 (codes "sp") ∷
      ParamForm (codes "x") ∷ ParamForm (codes "close") ∷ NameForm (codes "Proxy") ∷ ObjectForm [] ∷
      ParamForm (codes "T") ∷ ParamForm (codes "p") ∷ NameForm (codes "close") ∷ NameForm (codes "Reflect") ∷
      MemberForm 39 (codes "preventExtensions") ∷ NameForm (codes "T") ∷ CallForm 40 (41 ∷ []) ∷
      ExprStmtForm 42 ∷ BlockForm (43 ∷ []) ∷ IfForm 38 44 None ∷ NameForm (codes "x") ∷ ReturnForm (Some 46) ∷
      ArrowForm (record { params = (codes "T") ∷ (codes "p") ∷ []; body = (45 ∷ 47 ∷ []) }) true ∷
      ValueForm (Written (codes "setPrototypeOf")) 48 ∷ ObjectForm (49 ∷ []) ∷ NewForm 34 (35 ∷ 50 ∷ []) ∷
      ArrowForm (record { params = (codes "x") ∷ (codes "close") ∷ []; body = (51 ∷ []) }) false ∷
      AssignForm 31 52 ∷ ExprStmtForm 53 ∷ ParamForm (codes "n") ∷ ParamForm (codes "f") ∷
      DeclForm (codes "r") None ∷ LetForm (57 ∷ []) ∷ NameForm (codes "r") ∷ NameForm (codes "f") ∷
      CallForm 60 [] ∷ AssignForm 59 61 ∷ ExprStmtForm 62 ∷ BlockForm (63 ∷ []) ∷ ParamForm (codes "e") ∷
      NameForm (codes "r") ∷ NameForm (codes "e") ∷ NameForm (codes "TypeError") ∷ BinaryForm Instanceof 67 68 ∷
      TextForm (codes "TE") ∷ NameForm (codes "e") ∷ NameForm (codes "RangeError") ∷
      BinaryForm Instanceof 71 72 ∷ TextForm (codes "RE") ∷ NameForm (codes "e") ∷
      NameForm (codes "ReferenceError") ∷ BinaryForm Instanceof 75 76 ∷ TextForm (codes "FE") ∷
      NameForm (codes "e") ∷ CondForm 77 78 79 ∷ CondForm 73 74 80 ∷ CondForm 69 70 81 ∷ AssignForm 66 82 ∷
      ExprStmtForm 83 ∷ BlockForm (84 ∷ []) ∷ TryForm 64 (Some (codes "e")) (Some 85) None ∷
      NameForm (codes "print") ∷ NameForm (codes "n") ∷ NameForm (codes "r") ∷ UnaryForm Typeof 89 ∷
      TextForm (codes "object") ∷ BinaryForm TripleEqual 90 91 ∷ NameForm (codes "r") ∷ LiteralForm (Null) ∷
      BinaryForm NotDoubleEqual 93 94 ∷ AndForm 92 95 ∷ TextForm (codes "obj") ∷ NameForm (codes "r") ∷
      UnaryForm Typeof 98 ∷ TextForm (codes "function") ∷ BinaryForm TripleEqual 99 100 ∷
      TextForm (codes "fun") ∷ NameForm (codes "r") ∷ CondForm 101 102 103 ∷ CondForm 96 97 104 ∷
      CallForm 87 (88 ∷ 105 ∷ []) ∷ ExprStmtForm 106 ∷
      FunctionDeclForm (codes "t") (record { params = (codes "n") ∷ (codes "f") ∷ []; body = (58 ∷ 86 ∷ 107 ∷ []) }) ∷
      NameForm (codes "t") ∷ TextForm (codes "1a") ∷ NameForm (codes "Reflect") ∷
      MemberForm 111 (codes "getPrototypeOf") ∷ NameForm (codes "desk") ∷ MemberForm 113 (codes "gp") ∷
      NumberForm (pos 1) ∷ CallForm 114 (115 ∷ []) ∷ CallForm 112 (116 ∷ []) ∷
      ArrowForm (record { params = []; body = (117 ∷ []) }) false ∷ CallForm 109 (110 ∷ 118 ∷ []) ∷
      ExprStmtForm 119 ∷ NameForm (codes "t") ∷ TextForm (codes "1b") ∷ NameForm (codes "Reflect") ∷
      MemberForm 123 (codes "getPrototypeOf") ∷ NameForm (codes "desk") ∷ MemberForm 125 (codes "gp") ∷
      LiteralForm (Undefined) ∷ CallForm 126 (127 ∷ []) ∷ CallForm 124 (128 ∷ []) ∷
      ArrowForm (record { params = []; body = (129 ∷ []) }) false ∷ CallForm 121 (122 ∷ 130 ∷ []) ∷
      ExprStmtForm 131 ∷ NameForm (codes "t") ∷ TextForm (codes "1c") ∷ NameForm (codes "Reflect") ∷
      MemberForm 135 (codes "getPrototypeOf") ∷ NameForm (codes "desk") ∷ MemberForm 137 (codes "gp") ∷
      LiteralForm (Null) ∷ CallForm 138 (139 ∷ []) ∷ CallForm 136 (140 ∷ []) ∷
      ArrowForm (record { params = []; body = (141 ∷ []) }) false ∷ CallForm 133 (134 ∷ 142 ∷ []) ∷
      ExprStmtForm 143 ∷ NameForm (codes "t") ∷ TextForm (codes "1d") ∷ NameForm (codes "Reflect") ∷
      MemberForm 147 (codes "getPrototypeOf") ∷ NameForm (codes "desk") ∷ MemberForm 149 (codes "gp") ∷
      ObjectForm [] ∷ CallForm 150 (151 ∷ []) ∷ CallForm 148 (152 ∷ []) ∷
      ArrowForm (record { params = []; body = (153 ∷ []) }) false ∷ CallForm 145 (146 ∷ 154 ∷ []) ∷
      ExprStmtForm 155 ∷ NameForm (codes "t") ∷ TextForm (codes "1e") ∷ NameForm (codes "Reflect") ∷
      MemberForm 159 (codes "getPrototypeOf") ∷ NameForm (codes "desk") ∷ MemberForm 161 (codes "gp") ∷
      NameForm (codes "print") ∷ CallForm 162 (163 ∷ []) ∷ CallForm 160 (164 ∷ []) ∷
      ArrowForm (record { params = []; body = (165 ∷ []) }) false ∷ CallForm 157 (158 ∷ 166 ∷ []) ∷
      ExprStmtForm 167 ∷ NameForm (codes "t") ∷ TextForm (codes "1f") ∷ NameForm (codes "Reflect") ∷
      MemberForm 171 (codes "getPrototypeOf") ∷ NameForm (codes "desk") ∷ MemberForm 173 (codes "gp") ∷
      TextForm (codes "text") ∷ CallForm 174 (175 ∷ []) ∷ CallForm 172 (176 ∷ []) ∷
      ArrowForm (record { params = []; body = (177 ∷ []) }) false ∷ CallForm 169 (170 ∷ 178 ∷ []) ∷
      ExprStmtForm 179 ∷ NameForm (codes "t") ∷ TextForm (codes "2a") ∷ NameForm (codes "Reflect") ∷
      MemberForm 183 (codes "getPrototypeOf") ∷ NameForm (codes "desk") ∷ MemberForm 185 (codes "gp") ∷
      LiteralForm (Null) ∷ LiteralForm (Truth true) ∷ CallForm 186 (187 ∷ 188 ∷ []) ∷ CallForm 184 (189 ∷ []) ∷
      ArrowForm (record { params = []; body = (190 ∷ []) }) false ∷ CallForm 181 (182 ∷ 191 ∷ []) ∷
      ExprStmtForm 192 ∷ NameForm (codes "t") ∷ TextForm (codes "2b") ∷ NameForm (codes "Reflect") ∷
      MemberForm 196 (codes "getPrototypeOf") ∷ NameForm (codes "desk") ∷ MemberForm 198 (codes "gp") ∷
      ObjectForm [] ∷ LiteralForm (Truth true) ∷ CallForm 199 (200 ∷ 201 ∷ []) ∷ CallForm 197 (202 ∷ []) ∷
      ArrowForm (record { params = []; body = (203 ∷ []) }) false ∷ CallForm 194 (195 ∷ 204 ∷ []) ∷
      ExprStmtForm 205 ∷ NameForm (codes "t") ∷ TextForm (codes "2c") ∷ NameForm (codes "Reflect") ∷
      MemberForm 209 (codes "getPrototypeOf") ∷ NameForm (codes "desk") ∷ MemberForm 211 (codes "gp") ∷
      TextForm (codes "real") ∷ LiteralForm (Truth true) ∷ CallForm 212 (213 ∷ 214 ∷ []) ∷
      CallForm 210 (215 ∷ []) ∷ NameForm (codes "Object") ∷ MemberForm 217 (codes "prototype") ∷
      BinaryForm TripleEqual 216 218 ∷ ArrowForm (record { params = []; body = (219 ∷ []) }) false ∷
      CallForm 207 (208 ∷ 220 ∷ []) ∷ ExprStmtForm 221 ∷ NameForm (codes "t") ∷ TextForm (codes "2d") ∷
      NameForm (codes "desk") ∷ MemberForm 225 (codes "gp") ∷ ObjectForm [] ∷ LiteralForm (Truth true) ∷
      CallForm 226 (227 ∷ 228 ∷ []) ∷ NameForm (codes "Object") ∷ BinaryForm Instanceof 229 230 ∷
      ArrowForm (record { params = []; body = (231 ∷ []) }) false ∷ CallForm 223 (224 ∷ 232 ∷ []) ∷
      ExprStmtForm 233 ∷ NameForm (codes "t") ∷ TextForm (codes "2e") ∷ NameForm (codes "Object") ∷
      MemberForm 237 (codes "getPrototypeOf") ∷ NameForm (codes "desk") ∷ MemberForm 239 (codes "gp") ∷
      LiteralForm (Null) ∷ CallForm 240 (241 ∷ []) ∷ CallForm 238 (242 ∷ []) ∷
      ArrowForm (record { params = []; body = (243 ∷ []) }) false ∷ CallForm 235 (236 ∷ 244 ∷ []) ∷
      ExprStmtForm 245 ∷ NameForm (codes "t") ∷ TextForm (codes "3a") ∷ NameForm (codes "Reflect") ∷
      MemberForm 249 (codes "setPrototypeOf") ∷ NameForm (codes "desk") ∷ MemberForm 251 (codes "sp") ∷
      LiteralForm (Truth true) ∷ LiteralForm (Truth true) ∷ CallForm 252 (253 ∷ 254 ∷ []) ∷ LiteralForm (Null) ∷
      CallForm 250 (255 ∷ 256 ∷ []) ∷ ArrowForm (record { params = []; body = (257 ∷ []) }) false ∷
      CallForm 247 (248 ∷ 258 ∷ []) ∷ ExprStmtForm 259 ∷ NameForm (codes "t") ∷ TextForm (codes "3b") ∷
      NameForm (codes "Reflect") ∷ MemberForm 263 (codes "setPrototypeOf") ∷ NameForm (codes "desk") ∷
      MemberForm 265 (codes "sp") ∷ NumberForm (pos 1) ∷ LiteralForm (Truth true) ∷
      CallForm 266 (267 ∷ 268 ∷ []) ∷ NameForm (codes "Object") ∷ MemberForm 270 (codes "prototype") ∷
      CallForm 264 (269 ∷ 271 ∷ []) ∷ ArrowForm (record { params = []; body = (272 ∷ []) }) false ∷
      CallForm 261 (262 ∷ 273 ∷ []) ∷ ExprStmtForm 274 ∷ NameForm (codes "t") ∷ TextForm (codes "3c") ∷
      NameForm (codes "Reflect") ∷ MemberForm 278 (codes "setPrototypeOf") ∷ NameForm (codes "desk") ∷
      MemberForm 280 (codes "sp") ∷ NumberForm (pos 0) ∷ LiteralForm (Truth true) ∷
      CallForm 281 (282 ∷ 283 ∷ []) ∷ LiteralForm (Null) ∷ CallForm 279 (284 ∷ 285 ∷ []) ∷
      ArrowForm (record { params = []; body = (286 ∷ []) }) false ∷ CallForm 276 (277 ∷ 287 ∷ []) ∷
      ExprStmtForm 288 ∷ NameForm (codes "t") ∷ TextForm (codes "3d") ∷ NameForm (codes "Reflect") ∷
      MemberForm 292 (codes "setPrototypeOf") ∷ NameForm (codes "desk") ∷ MemberForm 294 (codes "sp") ∷
      TextForm (codes "x") ∷ CallForm 295 (296 ∷ []) ∷ LiteralForm (Null) ∷ CallForm 293 (297 ∷ 298 ∷ []) ∷
      ArrowForm (record { params = []; body = (299 ∷ []) }) false ∷ CallForm 290 (291 ∷ 300 ∷ []) ∷
      ExprStmtForm 301 ∷ NameForm (codes "t") ∷ TextForm (codes "3e") ∷ NameForm (codes "Object") ∷
      MemberForm 305 (codes "setPrototypeOf") ∷ NameForm (codes "desk") ∷ MemberForm 307 (codes "sp") ∷
      TextForm [] ∷ CallForm 308 (309 ∷ []) ∷ LiteralForm (Null) ∷ CallForm 306 (310 ∷ 311 ∷ []) ∷
      ArrowForm (record { params = []; body = (312 ∷ []) }) false ∷ CallForm 303 (304 ∷ 313 ∷ []) ∷
      ExprStmtForm 314 ∷ NameForm (codes "t") ∷ TextForm (codes "3f") ∷ NameForm (codes "Reflect") ∷
      MemberForm 318 (codes "setPrototypeOf") ∷ NameForm (codes "desk") ∷ MemberForm 320 (codes "sp") ∷
      LiteralForm (Truth true) ∷ CallForm 321 (322 ∷ []) ∷ NumberForm (pos 1) ∷ CallForm 319 (323 ∷ 324 ∷ []) ∷
      ArrowForm (record { params = []; body = (325 ∷ []) }) false ∷ CallForm 316 (317 ∷ 326 ∷ []) ∷
      ExprStmtForm 327 ∷
      ScriptForm (29 ∷ 54 ∷ 108 ∷ 120 ∷ 132 ∷ 144 ∷ 156 ∷ 168 ∷ 180 ∷ 193 ∷ 206 ∷ 222 ∷ 234 ∷ 246 ∷ 260 ∷ 275 ∷
      289 ∷ 302 ∷ 315 ∷ 328 ∷ []) ∷
      [];
  names =
      bound 23 (codes "T") false ∷ bound 27 (codes "x") false ∷ bound 27 (codes "close") false ∷
      bound 48 (codes "T") false ∷ bound 48 (codes "p") false ∷ bound 52 (codes "x") false ∷
      bound 52 (codes "close") false ∷ bound 86 (codes "e") false ∷ bound 108 (codes "n") false ∷
      bound 108 (codes "f") false ∷ bound 108 (codes "r") false ∷ bound 329 (codes "t") false ∷
      [];
}

abbrev right : Program
right = record {
  forms =
      ParamForm (codes "n") ∷ ParamForm (codes "f") ∷ DeclForm (codes "r") None ∷ LetForm (2 ∷ []) ∷
      NameForm (codes "r") ∷ NameForm (codes "f") ∷ CallForm 5 [] ∷ AssignForm 4 6 ∷ ExprStmtForm 7 ∷
      BlockForm (8 ∷ []) ∷ ParamForm (codes "e") ∷ NameForm (codes "r") ∷ NameForm (codes "e") ∷
      NameForm (codes "TypeError") ∷ BinaryForm Instanceof 12 13 ∷ TextForm (codes "TE") ∷ NameForm (codes "e") ∷
      NameForm (codes "RangeError") ∷ BinaryForm Instanceof 16 17 ∷ TextForm (codes "RE") ∷
      NameForm (codes "e") ∷ NameForm (codes "ReferenceError") ∷ BinaryForm Instanceof 20 21 ∷
      TextForm (codes "FE") ∷ NameForm (codes "e") ∷ CondForm 22 23 24 ∷ CondForm 18 19 25 ∷ CondForm 14 15 26 ∷
      AssignForm 11 27 ∷ ExprStmtForm 28 ∷ BlockForm (29 ∷ []) ∷ TryForm 9 (Some (codes "e")) (Some 30) None ∷
      NameForm (codes "print") ∷ NameForm (codes "n") ∷ NameForm (codes "r") ∷ UnaryForm Typeof 34 ∷
      TextForm (codes "object") ∷ BinaryForm TripleEqual 35 36 ∷ NameForm (codes "r") ∷ LiteralForm (Null) ∷
      BinaryForm NotDoubleEqual 38 39 ∷ AndForm 37 40 ∷ TextForm (codes "obj") ∷ NameForm (codes "r") ∷
      UnaryForm Typeof 43 ∷ TextForm (codes "function") ∷ BinaryForm TripleEqual 44 45 ∷ TextForm (codes "fun") ∷
      NameForm (codes "r") ∷ CondForm 46 47 48 ∷ CondForm 41 42 49 ∷ CallForm 32 (33 ∷ 50 ∷ []) ∷
      ExprStmtForm 51 ∷
      FunctionDeclForm (codes "t") (record { params = (codes "n") ∷ (codes "f") ∷ []; body = (3 ∷ 31 ∷ 52 ∷ []) }) ∷
      NameForm (codes "t") ∷ TextForm (codes "1a") ∷ NameForm (codes "Reflect") ∷
      MemberForm 56 (codes "getPrototypeOf") ∷ NameForm (codes "desk") ∷ MemberForm 58 (codes "gp") ∷
      NumberForm (pos 1) ∷ CallForm 59 (60 ∷ []) ∷ CallForm 57 (61 ∷ []) ∷
      ArrowForm (record { params = []; body = (62 ∷ []) }) false ∷ CallForm 54 (55 ∷ 63 ∷ []) ∷ ExprStmtForm 64 ∷
      NameForm (codes "t") ∷ TextForm (codes "1b") ∷ NameForm (codes "Reflect") ∷
      MemberForm 68 (codes "getPrototypeOf") ∷ NameForm (codes "desk") ∷ MemberForm 70 (codes "gp") ∷
      LiteralForm (Undefined) ∷ CallForm 71 (72 ∷ []) ∷ CallForm 69 (73 ∷ []) ∷
      ArrowForm (record { params = []; body = (74 ∷ []) }) false ∷ CallForm 66 (67 ∷ 75 ∷ []) ∷ ExprStmtForm 76 ∷
      NameForm (codes "t") ∷ TextForm (codes "1c") ∷ NameForm (codes "Reflect") ∷
      MemberForm 80 (codes "getPrototypeOf") ∷ NameForm (codes "desk") ∷ MemberForm 82 (codes "gp") ∷
      LiteralForm (Null) ∷ CallForm 83 (84 ∷ []) ∷ CallForm 81 (85 ∷ []) ∷
      ArrowForm (record { params = []; body = (86 ∷ []) }) false ∷ CallForm 78 (79 ∷ 87 ∷ []) ∷ ExprStmtForm 88 ∷
      NameForm (codes "t") ∷ TextForm (codes "1d") ∷ NameForm (codes "Reflect") ∷
      MemberForm 92 (codes "getPrototypeOf") ∷ NameForm (codes "desk") ∷ MemberForm 94 (codes "gp") ∷
      ObjectForm [] ∷ CallForm 95 (96 ∷ []) ∷ CallForm 93 (97 ∷ []) ∷
      ArrowForm (record { params = []; body = (98 ∷ []) }) false ∷ CallForm 90 (91 ∷ 99 ∷ []) ∷
      ExprStmtForm 100 ∷ NameForm (codes "t") ∷ TextForm (codes "1e") ∷ NameForm (codes "Reflect") ∷
      MemberForm 104 (codes "getPrototypeOf") ∷ NameForm (codes "desk") ∷ MemberForm 106 (codes "gp") ∷
      NameForm (codes "print") ∷ CallForm 107 (108 ∷ []) ∷ CallForm 105 (109 ∷ []) ∷
      ArrowForm (record { params = []; body = (110 ∷ []) }) false ∷ CallForm 102 (103 ∷ 111 ∷ []) ∷
      ExprStmtForm 112 ∷ NameForm (codes "t") ∷ TextForm (codes "1f") ∷ NameForm (codes "Reflect") ∷
      MemberForm 116 (codes "getPrototypeOf") ∷ NameForm (codes "desk") ∷ MemberForm 118 (codes "gp") ∷
      TextForm (codes "text") ∷ CallForm 119 (120 ∷ []) ∷ CallForm 117 (121 ∷ []) ∷
      ArrowForm (record { params = []; body = (122 ∷ []) }) false ∷ CallForm 114 (115 ∷ 123 ∷ []) ∷
      ExprStmtForm 124 ∷ NameForm (codes "t") ∷ TextForm (codes "2a") ∷ NameForm (codes "Reflect") ∷
      MemberForm 128 (codes "getPrototypeOf") ∷ NameForm (codes "desk") ∷ MemberForm 130 (codes "gp") ∷
      LiteralForm (Null) ∷ LiteralForm (Truth true) ∷ CallForm 131 (132 ∷ 133 ∷ []) ∷ CallForm 129 (134 ∷ []) ∷
      ArrowForm (record { params = []; body = (135 ∷ []) }) false ∷ CallForm 126 (127 ∷ 136 ∷ []) ∷
      ExprStmtForm 137 ∷ NameForm (codes "t") ∷ TextForm (codes "2b") ∷ NameForm (codes "Reflect") ∷
      MemberForm 141 (codes "getPrototypeOf") ∷ NameForm (codes "desk") ∷ MemberForm 143 (codes "gp") ∷
      ObjectForm [] ∷ LiteralForm (Truth true) ∷ CallForm 144 (145 ∷ 146 ∷ []) ∷ CallForm 142 (147 ∷ []) ∷
      ArrowForm (record { params = []; body = (148 ∷ []) }) false ∷ CallForm 139 (140 ∷ 149 ∷ []) ∷
      ExprStmtForm 150 ∷ NameForm (codes "t") ∷ TextForm (codes "2c") ∷ NameForm (codes "Reflect") ∷
      MemberForm 154 (codes "getPrototypeOf") ∷ NameForm (codes "desk") ∷ MemberForm 156 (codes "gp") ∷
      TextForm (codes "real") ∷ LiteralForm (Truth true) ∷ CallForm 157 (158 ∷ 159 ∷ []) ∷
      CallForm 155 (160 ∷ []) ∷ NameForm (codes "Object") ∷ MemberForm 162 (codes "prototype") ∷
      BinaryForm TripleEqual 161 163 ∷ ArrowForm (record { params = []; body = (164 ∷ []) }) false ∷
      CallForm 152 (153 ∷ 165 ∷ []) ∷ ExprStmtForm 166 ∷ NameForm (codes "t") ∷ TextForm (codes "2d") ∷
      NameForm (codes "desk") ∷ MemberForm 170 (codes "gp") ∷ ObjectForm [] ∷ LiteralForm (Truth true) ∷
      CallForm 171 (172 ∷ 173 ∷ []) ∷ NameForm (codes "Object") ∷ BinaryForm Instanceof 174 175 ∷
      ArrowForm (record { params = []; body = (176 ∷ []) }) false ∷ CallForm 168 (169 ∷ 177 ∷ []) ∷
      ExprStmtForm 178 ∷ NameForm (codes "t") ∷ TextForm (codes "2e") ∷ NameForm (codes "Object") ∷
      MemberForm 182 (codes "getPrototypeOf") ∷ NameForm (codes "desk") ∷ MemberForm 184 (codes "gp") ∷
      LiteralForm (Null) ∷ CallForm 185 (186 ∷ []) ∷ CallForm 183 (187 ∷ []) ∷
      ArrowForm (record { params = []; body = (188 ∷ []) }) false ∷ CallForm 180 (181 ∷ 189 ∷ []) ∷
      ExprStmtForm 190 ∷ NameForm (codes "t") ∷ TextForm (codes "3a") ∷ NameForm (codes "Reflect") ∷
      MemberForm 194 (codes "setPrototypeOf") ∷ NameForm (codes "desk") ∷ MemberForm 196 (codes "sp") ∷
      LiteralForm (Truth true) ∷ LiteralForm (Truth true) ∷ CallForm 197 (198 ∷ 199 ∷ []) ∷ LiteralForm (Null) ∷
      CallForm 195 (200 ∷ 201 ∷ []) ∷ ArrowForm (record { params = []; body = (202 ∷ []) }) false ∷
      CallForm 192 (193 ∷ 203 ∷ []) ∷ ExprStmtForm 204 ∷ NameForm (codes "t") ∷ TextForm (codes "3b") ∷
      NameForm (codes "Reflect") ∷ MemberForm 208 (codes "setPrototypeOf") ∷ NameForm (codes "desk") ∷
      MemberForm 210 (codes "sp") ∷ NumberForm (pos 1) ∷ LiteralForm (Truth true) ∷
      CallForm 211 (212 ∷ 213 ∷ []) ∷ NameForm (codes "Object") ∷ MemberForm 215 (codes "prototype") ∷
      CallForm 209 (214 ∷ 216 ∷ []) ∷ ArrowForm (record { params = []; body = (217 ∷ []) }) false ∷
      CallForm 206 (207 ∷ 218 ∷ []) ∷ ExprStmtForm 219 ∷ NameForm (codes "t") ∷ TextForm (codes "3c") ∷
      NameForm (codes "Reflect") ∷ MemberForm 223 (codes "setPrototypeOf") ∷ NameForm (codes "desk") ∷
      MemberForm 225 (codes "sp") ∷ NumberForm (pos 0) ∷ LiteralForm (Truth true) ∷
      CallForm 226 (227 ∷ 228 ∷ []) ∷ LiteralForm (Null) ∷ CallForm 224 (229 ∷ 230 ∷ []) ∷
      ArrowForm (record { params = []; body = (231 ∷ []) }) false ∷ CallForm 221 (222 ∷ 232 ∷ []) ∷
      ExprStmtForm 233 ∷ NameForm (codes "t") ∷ TextForm (codes "3d") ∷ NameForm (codes "Reflect") ∷
      MemberForm 237 (codes "setPrototypeOf") ∷ NameForm (codes "desk") ∷ MemberForm 239 (codes "sp") ∷
      TextForm (codes "x") ∷ CallForm 240 (241 ∷ []) ∷ LiteralForm (Null) ∷ CallForm 238 (242 ∷ 243 ∷ []) ∷
      ArrowForm (record { params = []; body = (244 ∷ []) }) false ∷ CallForm 235 (236 ∷ 245 ∷ []) ∷
      ExprStmtForm 246 ∷ NameForm (codes "t") ∷ TextForm (codes "3e") ∷ NameForm (codes "Object") ∷
      MemberForm 250 (codes "setPrototypeOf") ∷ NameForm (codes "desk") ∷ MemberForm 252 (codes "sp") ∷
      TextForm [] ∷ CallForm 253 (254 ∷ []) ∷ LiteralForm (Null) ∷ CallForm 251 (255 ∷ 256 ∷ []) ∷
      ArrowForm (record { params = []; body = (257 ∷ []) }) false ∷ CallForm 248 (249 ∷ 258 ∷ []) ∷
      ExprStmtForm 259 ∷ NameForm (codes "t") ∷ TextForm (codes "3f") ∷ NameForm (codes "Reflect") ∷
      MemberForm 263 (codes "setPrototypeOf") ∷ NameForm (codes "desk") ∷ MemberForm 265 (codes "sp") ∷
      LiteralForm (Truth true) ∷ CallForm 266 (267 ∷ []) ∷ NumberForm (pos 1) ∷ CallForm 264 (268 ∷ 269 ∷ []) ∷
      ArrowForm (record { params = []; body = (270 ∷ []) }) false ∷ CallForm 261 (262 ∷ 271 ∷ []) ∷
      ExprStmtForm 272 ∷
      ScriptForm (53 ∷ 65 ∷ 77 ∷ 89 ∷ 101 ∷ 113 ∷ 125 ∷ 138 ∷ 151 ∷ 167 ∷ 179 ∷ 191 ∷ 205 ∷ 220 ∷ 234 ∷ 247 ∷
      260 ∷ 273 ∷ []) ∷
      [];
  names =
      bound 31 (codes "e") false ∷ bound 53 (codes "n") false ∷ bound 53 (codes "f") false ∷
      bound 53 (codes "r") false ∷ bound 274 (codes "t") false ∷
      [];
}

abbrev policy : List Rule
policy = []

abbrev schedule : List Letter
schedule = []

abbrev told : List (List ℕ)
told =
    (codes "L 1a TE") ∷
    (codes "L 1b TE") ∷
    (codes "L 1c null") ∷
    (codes "L 1d obj") ∷
    (codes "L 1e fun") ∷
    (codes "L 1f TE") ∷
    (codes "L 2a TE") ∷
    (codes "L 2b TE") ∷
    (codes "L 2c true") ∷
    (codes "L 2d TE") ∷
    (codes "L 2e null") ∷
    (codes "L 3a TE") ∷
    (codes "L 3b true") ∷
    (codes "L 3c false") ∷
    (codes "L 3d true") ∷
    (codes "L 3e TE") ∷
    (codes "L 3f TE") ∷
    (codes "R 1a TE") ∷
    (codes "R 1b TE") ∷
    (codes "R 1c null") ∷
    (codes "R 1d obj") ∷
    (codes "R 1e fun") ∷
    (codes "R 1f TE") ∷
    (codes "R 2a TE") ∷
    (codes "R 2b TE") ∷
    (codes "R 2c true") ∷
    (codes "R 2d TE") ∷
    (codes "R 2e null") ∷
    (codes "R 3a TE") ∷
    (codes "R 3b true") ∷
    (codes "R 3c false") ∷
    (codes "R 3d true") ∷
    (codes "R 3e TE") ∷
    (codes "R 3f TE") ∷
    (codes "= done") ∷
    []

abbrev stage : Stage
stage = Story (left ∷ right ∷ []) policy schedule 1000000

pub Row : Type 0
Row = Shows false false stage told × (stage.left ≡ 997084)

pub row : Row
unfolding Row given Validate encode_utf8
row = ((refl, refl), refl)
