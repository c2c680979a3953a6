use Rattle.std.specs.Prelude.{◌≡◌, refl, ℕ, List, [], ◌∷◌, true, false, Some, None, codes, pos}
use Rattle.std.specs.Char.{encode_utf8}
use Rattle.mb_tree.specs.declared.kind.Sign.TheVariants.{TripleEqual, NotDoubleEqual, Instanceof, Typeof}
use Rattle.mb_desc.specs.Validate.{Validate}
use Rattle.mb_world.specs.Value.{Undefined, Null, Truth}
use Rattle.mb_world.specs.Form.{Written, ScriptForm, LetForm, DeclForm, FunctionDeclForm, BlockForm, ExprStmtForm, IfForm, ReturnForm, TryForm, ParamForm, NameForm, NumberForm, TextForm, LiteralForm, ObjectForm, ValueForm, ArrowForm, MemberForm, AssignForm, CallForm, NewForm, CondForm, AndForm, UnaryForm, BinaryForm}
use Rattle.mb_world.specs.Graph.{Program, Rule}
use Rattle.mb_model.specs.Engine.{given}
use Rattle.mb_model.specs.Story.{Stage, Letter, Story}
use Rattle.mb_rows.specs.Shows.{bound, Shows}

-- run
-- left
--     desk.ie = (x, close) => new Proxy({}, { isExtensible: (T) => { if (close) { Reflect.preventExtensions(T); } return x; } });
--     desk.pe = (x, close) => new Proxy({}, { preventExtensions: (T) => { if (close) { Reflect.preventExtensions(T); } return x; } });
--
--     function t(n, f) { let r; try { r = f(); } catch (e) { r = e instanceof TypeError ? "TE" : e instanceof RangeError ? "RE" : e instanceof ReferenceError ? "FE" : e; } print(n, typeof r === "object" && r !== null ? "obj" : typeof r === "function" ? "fun" : r); }
--     t("4a", () => Reflect.isExtensible(desk.ie(0)));
--     t("4b", () => Reflect.isExtensible(desk.ie(1)));
--     t("4c", () => Reflect.isExtensible(desk.ie(0, true)));
--     t("4d", () => Reflect.isExtensible(desk.ie("a", true)));
--     t("4e", () => Reflect.isExtensible(desk.ie({})));
--     t("4f", () => Object.isFrozen(desk.ie(undefined, true)));
--     t("5a", () => Reflect.preventExtensions(desk.pe(true)));
--     t("5b", () => Reflect.preventExtensions(desk.pe({}, true)));
--     t("5c", () => Reflect.preventExtensions(desk.pe(null, true)));
--     t("5d", () => Reflect.preventExtensions(desk.pe(0)));
--     t("5e", () => Object.freeze(desk.pe(false)));
--     t("5f", () => Object.freeze(desk.pe(1, true)));
--     t("5g", () => Object.seal(desk.pe(1)));
-- right
--     function t(n, f) { let r; try { r = f(); } catch (e) { r = e instanceof TypeError ? "TE" : e instanceof RangeError ? "RE" : e instanceof ReferenceError ? "FE" : e; } print(n, typeof r === "object" && r !== null ? "obj" : typeof r === "function" ? "fun" : r); }
--     t("4a", () => Reflect.isExtensible(desk.ie(0)));
--     t("4b", () => Reflect.isExtensible(desk.ie(1)));
--     t("4c", () => Reflect.isExtensible(desk.ie(0, true)));
--     t("4d", () => Reflect.isExtensible(desk.ie("a", true)));
--     t("4e", () => Reflect.isExtensible(desk.ie({})));
--     t("4f", () => Object.isFrozen(desk.ie(undefined, true)));
--     t("5a", () => Reflect.preventExtensions(desk.pe(true)));
--     t("5b", () => Reflect.preventExtensions(desk.pe({}, true)));
--     t("5c", () => Reflect.preventExtensions(desk.pe(null, true)));
--     t("5d", () => Reflect.preventExtensions(desk.pe(0)));
--     t("5e", () => Object.freeze(desk.pe(false)));
--     t("5f", () => Object.freeze(desk.pe(1, true)));
--     t("5g", () => Object.seal(desk.pe(1)));

abbrev left : Program
left = record {
  forms =
      NameForm (codes "desk") ∷ MemberForm 0 (codes "ie") ∷ ParamForm (codes "x") ∷ ParamForm (codes "close") ∷
      NameForm (codes "Proxy") ∷ ObjectForm [] ∷ ParamForm (codes "T") ∷ NameForm (codes "close") ∷
      NameForm (codes "Reflect") ∷ MemberForm 8 (codes "preventExtensions") ∷ NameForm (codes "T") ∷
      CallForm 9 (10 ∷ []) ∷ ExprStmtForm 11 ∷ BlockForm (12 ∷ []) ∷ IfForm 7 13 None ∷ NameForm (codes "x") ∷
      ReturnForm (Some 15) ∷ ArrowForm (record { params = (codes "T") ∷ []; body = (14 ∷ 16 ∷ []) }) true ∷
      ValueForm (Written (codes "isExtensible")) 17 ∷ ObjectForm (18 ∷ []) ∷ NewForm 4 (5 ∷ 19 ∷ []) ∷
      ArrowForm (record { params = (codes "x") ∷ (codes "close") ∷ []; body = (20 ∷ []) }) false ∷
      AssignForm 1 21 ∷ ExprStmtForm 22 ∷ NameForm (codes "desk") ∷ MemberForm 24 (codes "pe") ∷
      ParamForm (codes "x") ∷ ParamForm (codes "close") ∷ NameForm (codes "Proxy") ∷ ObjectForm [] ∷
      ParamForm (codes "T") ∷ NameForm (codes "close") ∷ NameForm (codes "Reflect") ∷
      MemberForm 32 (codes "preventExtensions") ∷ NameForm (codes "T") ∷ CallForm 33 (34 ∷ []) ∷
      ExprStmtForm 35 ∷ BlockForm (36 ∷ []) ∷ IfForm 31 37 None ∷ NameForm (codes "x") ∷ ReturnForm (Some 39) ∷
      ArrowForm (record { params = (codes "T") ∷ []; body = (38 ∷ 40 ∷ []) }) true ∷
      ValueForm (Written (codes "preventExtensions")) 41 ∷ ObjectForm (42 ∷ []) ∷ NewForm 28 (29 ∷ 43 ∷ []) ∷
      ArrowForm (record { params = (codes "x") ∷ (codes "close") ∷ []; body = (44 ∷ []) }) false ∷
      AssignForm 25 45 ∷ ExprStmtForm 46 ∷ ParamForm (codes "n") ∷ ParamForm (codes "f") ∷
      DeclForm (codes "r") None ∷ LetForm (50 ∷ []) ∷ NameForm (codes "r") ∷ NameForm (codes "f") ∷
      CallForm 53 [] ∷ AssignForm 52 54 ∷ ExprStmtForm 55 ∷ BlockForm (56 ∷ []) ∷ ParamForm (codes "e") ∷
      NameForm (codes "r") ∷ NameForm (codes "e") ∷ NameForm (codes "TypeError") ∷ BinaryForm Instanceof 60 61 ∷
      TextForm (codes "TE") ∷ NameForm (codes "e") ∷ NameForm (codes "RangeError") ∷
      BinaryForm Instanceof 64 65 ∷ TextForm (codes "RE") ∷ NameForm (codes "e") ∷
      NameForm (codes "ReferenceError") ∷ BinaryForm Instanceof 68 69 ∷ TextForm (codes "FE") ∷
      NameForm (codes "e") ∷ CondForm 70 71 72 ∷ CondForm 66 67 73 ∷ CondForm 62 63 74 ∷ AssignForm 59 75 ∷
      ExprStmtForm 76 ∷ BlockForm (77 ∷ []) ∷ TryForm 57 (Some (codes "e")) (Some 78) None ∷
      NameForm (codes "print") ∷ NameForm (codes "n") ∷ NameForm (codes "r") ∷ UnaryForm Typeof 82 ∷
      TextForm (codes "object") ∷ BinaryForm TripleEqual 83 84 ∷ NameForm (codes "r") ∷ LiteralForm (Null) ∷
      BinaryForm NotDoubleEqual 86 87 ∷ AndForm 85 88 ∷ TextForm (codes "obj") ∷ NameForm (codes "r") ∷
      UnaryForm Typeof 91 ∷ TextForm (codes "function") ∷ BinaryForm TripleEqual 92 93 ∷ TextForm (codes "fun") ∷
      NameForm (codes "r") ∷ CondForm 94 95 96 ∷ CondForm 89 90 97 ∷ CallForm 80 (81 ∷ 98 ∷ []) ∷
      ExprStmtForm 99 ∷
      FunctionDeclForm (codes "t") (record { params = (codes "n") ∷ (codes "f") ∷ []; body = (51 ∷ 79 ∷ 100 ∷ []) }) ∷
      NameForm (codes "t") ∷ TextForm (codes "4a") ∷ NameForm (codes "Reflect") ∷
      MemberForm 104 (codes "isExtensible") ∷ NameForm (codes "desk") ∷ MemberForm 106 (codes "ie") ∷
      NumberForm (pos 0) ∷ CallForm 107 (108 ∷ []) ∷ CallForm 105 (109 ∷ []) ∷
      ArrowForm (record { params = []; body = (110 ∷ []) }) false ∷ CallForm 102 (103 ∷ 111 ∷ []) ∷
      ExprStmtForm 112 ∷ NameForm (codes "t") ∷ TextForm (codes "4b") ∷ NameForm (codes "Reflect") ∷
      MemberForm 116 (codes "isExtensible") ∷ NameForm (codes "desk") ∷ MemberForm 118 (codes "ie") ∷
      NumberForm (pos 1) ∷ CallForm 119 (120 ∷ []) ∷ CallForm 117 (121 ∷ []) ∷
      ArrowForm (record { params = []; body = (122 ∷ []) }) false ∷ CallForm 114 (115 ∷ 123 ∷ []) ∷
      ExprStmtForm 124 ∷ NameForm (codes "t") ∷ TextForm (codes "4c") ∷ NameForm (codes "Reflect") ∷
      MemberForm 128 (codes "isExtensible") ∷ NameForm (codes "desk") ∷ MemberForm 130 (codes "ie") ∷
      NumberForm (pos 0) ∷ LiteralForm (Truth true) ∷ CallForm 131 (132 ∷ 133 ∷ []) ∷ CallForm 129 (134 ∷ []) ∷
      ArrowForm (record { params = []; body = (135 ∷ []) }) false ∷ CallForm 126 (127 ∷ 136 ∷ []) ∷
      ExprStmtForm 137 ∷ NameForm (codes "t") ∷ TextForm (codes "4d") ∷ NameForm (codes "Reflect") ∷
      MemberForm 141 (codes "isExtensible") ∷ NameForm (codes "desk") ∷ MemberForm 143 (codes "ie") ∷
      TextForm (codes "a") ∷ LiteralForm (Truth true) ∷ CallForm 144 (145 ∷ 146 ∷ []) ∷ CallForm 142 (147 ∷ []) ∷
      ArrowForm (record { params = []; body = (148 ∷ []) }) false ∷ CallForm 139 (140 ∷ 149 ∷ []) ∷
      ExprStmtForm 150 ∷ NameForm (codes "t") ∷ TextForm (codes "4e") ∷ NameForm (codes "Reflect") ∷
      MemberForm 154 (codes "isExtensible") ∷ NameForm (codes "desk") ∷ MemberForm 156 (codes "ie") ∷
      ObjectForm [] ∷ CallForm 157 (158 ∷ []) ∷ CallForm 155 (159 ∷ []) ∷
      ArrowForm (record { params = []; body = (160 ∷ []) }) false ∷ CallForm 152 (153 ∷ 161 ∷ []) ∷
      ExprStmtForm 162 ∷ NameForm (codes "t") ∷ TextForm (codes "4f") ∷ NameForm (codes "Object") ∷
      MemberForm 166 (codes "isFrozen") ∷ NameForm (codes "desk") ∷ MemberForm 168 (codes "ie") ∷
      LiteralForm (Undefined) ∷ LiteralForm (Truth true) ∷ CallForm 169 (170 ∷ 171 ∷ []) ∷
      CallForm 167 (172 ∷ []) ∷ ArrowForm (record { params = []; body = (173 ∷ []) }) false ∷
      CallForm 164 (165 ∷ 174 ∷ []) ∷ ExprStmtForm 175 ∷ NameForm (codes "t") ∷ TextForm (codes "5a") ∷
      NameForm (codes "Reflect") ∷ MemberForm 179 (codes "preventExtensions") ∷ NameForm (codes "desk") ∷
      MemberForm 181 (codes "pe") ∷ LiteralForm (Truth true) ∷ CallForm 182 (183 ∷ []) ∷
      CallForm 180 (184 ∷ []) ∷ ArrowForm (record { params = []; body = (185 ∷ []) }) false ∷
      CallForm 177 (178 ∷ 186 ∷ []) ∷ ExprStmtForm 187 ∷ NameForm (codes "t") ∷ TextForm (codes "5b") ∷
      NameForm (codes "Reflect") ∷ MemberForm 191 (codes "preventExtensions") ∷ NameForm (codes "desk") ∷
      MemberForm 193 (codes "pe") ∷ ObjectForm [] ∷ LiteralForm (Truth true) ∷ CallForm 194 (195 ∷ 196 ∷ []) ∷
      CallForm 192 (197 ∷ []) ∷ ArrowForm (record { params = []; body = (198 ∷ []) }) false ∷
      CallForm 189 (190 ∷ 199 ∷ []) ∷ ExprStmtForm 200 ∷ NameForm (codes "t") ∷ TextForm (codes "5c") ∷
      NameForm (codes "Reflect") ∷ MemberForm 204 (codes "preventExtensions") ∷ NameForm (codes "desk") ∷
      MemberForm 206 (codes "pe") ∷ LiteralForm (Null) ∷ LiteralForm (Truth true) ∷
      CallForm 207 (208 ∷ 209 ∷ []) ∷ CallForm 205 (210 ∷ []) ∷
      ArrowForm (record { params = []; body = (211 ∷ []) }) false ∷ CallForm 202 (203 ∷ 212 ∷ []) ∷
      ExprStmtForm 213 ∷ NameForm (codes "t") ∷ TextForm (codes "5d") ∷ NameForm (codes "Reflect") ∷
      MemberForm 217 (codes "preventExtensions") ∷ NameForm (codes "desk") ∷ MemberForm 219 (codes "pe") ∷
      NumberForm (pos 0) ∷ CallForm 220 (221 ∷ []) ∷ CallForm 218 (222 ∷ []) ∷
      ArrowForm (record { params = []; body = (223 ∷ []) }) false ∷ CallForm 215 (216 ∷ 224 ∷ []) ∷
      ExprStmtForm 225 ∷ NameForm (codes "t") ∷ TextForm (codes "5e") ∷ NameForm (codes "Object") ∷
      MemberForm 229 (codes "freeze") ∷ NameForm (codes "desk") ∷ MemberForm 231 (codes "pe") ∷
      LiteralForm (Truth false) ∷ CallForm 232 (233 ∷ []) ∷ CallForm 230 (234 ∷ []) ∷
      ArrowForm (record { params = []; body = (235 ∷ []) }) false ∷ CallForm 227 (228 ∷ 236 ∷ []) ∷
      ExprStmtForm 237 ∷ NameForm (codes "t") ∷ TextForm (codes "5f") ∷ NameForm (codes "Object") ∷
      MemberForm 241 (codes "freeze") ∷ NameForm (codes "desk") ∷ MemberForm 243 (codes "pe") ∷
      NumberForm (pos 1) ∷ LiteralForm (Truth true) ∷ CallForm 244 (245 ∷ 246 ∷ []) ∷ CallForm 242 (247 ∷ []) ∷
      ArrowForm (record { params = []; body = (248 ∷ []) }) false ∷ CallForm 239 (240 ∷ 249 ∷ []) ∷
      ExprStmtForm 250 ∷ NameForm (codes "t") ∷ TextForm (codes "5g") ∷ NameForm (codes "Object") ∷
      MemberForm 254 (codes "seal") ∷ NameForm (codes "desk") ∷ MemberForm 256 (codes "pe") ∷
      NumberForm (pos 1) ∷ CallForm 257 (258 ∷ []) ∷ CallForm 255 (259 ∷ []) ∷
      ArrowForm (record { params = []; body = (260 ∷ []) }) false ∷ CallForm 252 (253 ∷ 261 ∷ []) ∷
      ExprStmtForm 262 ∷
      ScriptForm (23 ∷ 47 ∷ 101 ∷ 113 ∷ 125 ∷ 138 ∷ 151 ∷ 163 ∷ 176 ∷ 188 ∷ 201 ∷ 214 ∷ 226 ∷ 238 ∷ 251 ∷ 263 ∷ []) ∷
      [];
  names =
      bound 17 (codes "T") false ∷ bound 21 (codes "x") false ∷ bound 21 (codes "close") false ∷
      bound 41 (codes "T") false ∷ bound 45 (codes "x") false ∷ bound 45 (codes "close") false ∷
      bound 79 (codes "e") false ∷ bound 101 (codes "n") false ∷ bound 101 (codes "f") false ∷
      bound 101 (codes "r") false ∷ bound 264 (codes "t") false ∷
      [];
}

abbrev right : Program
right = record {
  forms =
      ParamForm (codes "n") ∷ ParamForm (codes "f") ∷ DeclForm (codes "r") None ∷ LetForm (2 ∷ []) ∷
      NameForm (codes "r") ∷ NameForm (codes "f") ∷ CallForm 5 [] ∷ AssignForm 4 6 ∷ ExprStmtForm 7 ∷
      BlockForm (8 ∷ []) ∷ ParamForm (codes "e") ∷ NameForm (codes "r") ∷ NameForm (codes "e") ∷
      NameForm (codes "TypeError") ∷ BinaryForm Instanceof 12 13 ∷ TextForm (codes "TE") ∷ NameForm (codes "e") ∷
      NameForm (codes "RangeError") ∷ BinaryForm Instanceof 16 17 ∷ TextForm (codes "RE") ∷
      NameForm (codes "e") ∷ NameForm (codes "ReferenceError") ∷ BinaryForm Instanceof 20 21 ∷
      TextForm (codes "FE") ∷ NameForm (codes "e") ∷ CondForm 22 23 24 ∷ CondForm 18 19 25 ∷ CondForm 14 15 26 ∷
      AssignForm 11 27 ∷ ExprStmtForm 28 ∷ BlockForm (29 ∷ []) ∷ TryForm 9 (Some (codes "e")) (Some 30) None ∷
      NameForm (codes "print") ∷ NameForm (codes "n") ∷ NameForm (codes "r") ∷ UnaryForm Typeof 34 ∷
      TextForm (codes "object") ∷ BinaryForm TripleEqual 35 36 ∷ NameForm (codes "r") ∷ LiteralForm (Null) ∷
      BinaryForm NotDoubleEqual 38 39 ∷ AndForm 37 40 ∷ TextForm (codes "obj") ∷ NameForm (codes "r") ∷
      UnaryForm Typeof 43 ∷ TextForm (codes "function") ∷ BinaryForm TripleEqual 44 45 ∷ TextForm (codes "fun") ∷
      NameForm (codes "r") ∷ CondForm 46 47 48 ∷ CondForm 41 42 49 ∷ CallForm 32 (33 ∷ 50 ∷ []) ∷
      ExprStmtForm 51 ∷
      FunctionDeclForm (codes "t") (record { params = (codes "n") ∷ (codes "f") ∷ []; body = (3 ∷ 31 ∷ 52 ∷ []) }) ∷
      NameForm (codes "t") ∷ TextForm (codes "4a") ∷ NameForm (codes "Reflect") ∷
      MemberForm 56 (codes "isExtensible") ∷ NameForm (codes "desk") ∷ MemberForm 58 (codes "ie") ∷
      NumberForm (pos 0) ∷ CallForm 59 (60 ∷ []) ∷ CallForm 57 (61 ∷ []) ∷
      ArrowForm (record { params = []; body = (62 ∷ []) }) false ∷ CallForm 54 (55 ∷ 63 ∷ []) ∷ ExprStmtForm 64 ∷
      NameForm (codes "t") ∷ TextForm (codes "4b") ∷ NameForm (codes "Reflect") ∷
      MemberForm 68 (codes "isExtensible") ∷ NameForm (codes "desk") ∷ MemberForm 70 (codes "ie") ∷
      NumberForm (pos 1) ∷ CallForm 71 (72 ∷ []) ∷ CallForm 69 (73 ∷ []) ∷
      ArrowForm (record { params = []; body = (74 ∷ []) }) false ∷ CallForm 66 (67 ∷ 75 ∷ []) ∷ ExprStmtForm 76 ∷
      NameForm (codes "t") ∷ TextForm (codes "4c") ∷ NameForm (codes "Reflect") ∷
      MemberForm 80 (codes "isExtensible") ∷ NameForm (codes "desk") ∷ MemberForm 82 (codes "ie") ∷
      NumberForm (pos 0) ∷ LiteralForm (Truth true) ∷ CallForm 83 (84 ∷ 85 ∷ []) ∷ CallForm 81 (86 ∷ []) ∷
      ArrowForm (record { params = []; body = (87 ∷ []) }) false ∷ CallForm 78 (79 ∷ 88 ∷ []) ∷ ExprStmtForm 89 ∷
      NameForm (codes "t") ∷ TextForm (codes "4d") ∷ NameForm (codes "Reflect") ∷
      MemberForm 93 (codes "isExtensible") ∷ NameForm (codes "desk") ∷ MemberForm 95 (codes "ie") ∷
      TextForm (codes "a") ∷ LiteralForm (Truth true) ∷ CallForm 96 (97 ∷ 98 ∷ []) ∷ CallForm 94 (99 ∷ []) ∷
      ArrowForm (record { params = []; body = (100 ∷ []) }) false ∷ CallForm 91 (92 ∷ 101 ∷ []) ∷
      ExprStmtForm 102 ∷ NameForm (codes "t") ∷ TextForm (codes "4e") ∷ NameForm (codes "Reflect") ∷
      MemberForm 106 (codes "isExtensible") ∷ NameForm (codes "desk") ∷ MemberForm 108 (codes "ie") ∷
      ObjectForm [] ∷ CallForm 109 (110 ∷ []) ∷ CallForm 107 (111 ∷ []) ∷
      ArrowForm (record { params = []; body = (112 ∷ []) }) false ∷ CallForm 104 (105 ∷ 113 ∷ []) ∷
      ExprStmtForm 114 ∷ NameForm (codes "t") ∷ TextForm (codes "4f") ∷ NameForm (codes "Object") ∷
      MemberForm 118 (codes "isFrozen") ∷ NameForm (codes "desk") ∷ MemberForm 120 (codes "ie") ∷
      LiteralForm (Undefined) ∷ LiteralForm (Truth true) ∷ CallForm 121 (122 ∷ 123 ∷ []) ∷
      CallForm 119 (124 ∷ []) ∷ ArrowForm (record { params = []; body = (125 ∷ []) }) false ∷
      CallForm 116 (117 ∷ 126 ∷ []) ∷ ExprStmtForm 127 ∷ NameForm (codes "t") ∷ TextForm (codes "5a") ∷
      NameForm (codes "Reflect") ∷ MemberForm 131 (codes "preventExtensions") ∷ NameForm (codes "desk") ∷
      MemberForm 133 (codes "pe") ∷ LiteralForm (Truth true) ∷ CallForm 134 (135 ∷ []) ∷
      CallForm 132 (136 ∷ []) ∷ ArrowForm (record { params = []; body = (137 ∷ []) }) false ∷
      CallForm 129 (130 ∷ 138 ∷ []) ∷ ExprStmtForm 139 ∷ NameForm (codes "t") ∷ TextForm (codes "5b") ∷
      NameForm (codes "Reflect") ∷ MemberForm 143 (codes "preventExtensions") ∷ NameForm (codes "desk") ∷
      MemberForm 145 (codes "pe") ∷ ObjectForm [] ∷ LiteralForm (Truth true) ∷ CallForm 146 (147 ∷ 148 ∷ []) ∷
      CallForm 144 (149 ∷ []) ∷ ArrowForm (record { params = []; body = (150 ∷ []) }) false ∷
      CallForm 141 (142 ∷ 151 ∷ []) ∷ ExprStmtForm 152 ∷ NameForm (codes "t") ∷ TextForm (codes "5c") ∷
      NameForm (codes "Reflect") ∷ MemberForm 156 (codes "preventExtensions") ∷ NameForm (codes "desk") ∷
      MemberForm 158 (codes "pe") ∷ LiteralForm (Null) ∷ LiteralForm (Truth true) ∷
      CallForm 159 (160 ∷ 161 ∷ []) ∷ CallForm 157 (162 ∷ []) ∷
      ArrowForm (record { params = []; body = (163 ∷ []) }) false ∷ CallForm 154 (155 ∷ 164 ∷ []) ∷
      ExprStmtForm 165 ∷ NameForm (codes "t") ∷ TextForm (codes "5d") ∷ NameForm (codes "Reflect") ∷
      MemberForm 169 (codes "preventExtensions") ∷ NameForm (codes "desk") ∷ MemberForm 171 (codes "pe") ∷
      NumberForm (pos 0) ∷ CallForm 172 (173 ∷ []) ∷ CallForm 170 (174 ∷ []) ∷
      ArrowForm (record { params = []; body = (175 ∷ []) }) false ∷ CallForm 167 (168 ∷ 176 ∷ []) ∷
      ExprStmtForm 177 ∷ NameForm (codes "t") ∷ TextForm (codes "5e") ∷ NameForm (codes "Object") ∷
      MemberForm 181 (codes "freeze") ∷ NameForm (codes "desk") ∷ MemberForm 183 (codes "pe") ∷
      LiteralForm (Truth false) ∷ CallForm 184 (185 ∷ []) ∷ CallForm 182 (186 ∷ []) ∷
      ArrowForm (record { params = []; body = (187 ∷ []) }) false ∷ CallForm 179 (180 ∷ 188 ∷ []) ∷
      ExprStmtForm 189 ∷ NameForm (codes "t") ∷ TextForm (codes "5f") ∷ NameForm (codes "Object") ∷
      MemberForm 193 (codes "freeze") ∷ NameForm (codes "desk") ∷ MemberForm 195 (codes "pe") ∷
      NumberForm (pos 1) ∷ LiteralForm (Truth true) ∷ CallForm 196 (197 ∷ 198 ∷ []) ∷ CallForm 194 (199 ∷ []) ∷
      ArrowForm (record { params = []; body = (200 ∷ []) }) false ∷ CallForm 191 (192 ∷ 201 ∷ []) ∷
      ExprStmtForm 202 ∷ NameForm (codes "t") ∷ TextForm (codes "5g") ∷ NameForm (codes "Object") ∷
      MemberForm 206 (codes "seal") ∷ NameForm (codes "desk") ∷ MemberForm 208 (codes "pe") ∷
      NumberForm (pos 1) ∷ CallForm 209 (210 ∷ []) ∷ CallForm 207 (211 ∷ []) ∷
      ArrowForm (record { params = []; body = (212 ∷ []) }) false ∷ CallForm 204 (205 ∷ 213 ∷ []) ∷
      ExprStmtForm 214 ∷
      ScriptForm (53 ∷ 65 ∷ 77 ∷ 90 ∷ 103 ∷ 115 ∷ 128 ∷ 140 ∷ 153 ∷ 166 ∷ 178 ∷ 190 ∷ 203 ∷ 215 ∷ []) ∷
      [];
  names =
      bound 31 (codes "e") false ∷ bound 53 (codes "n") false ∷ bound 53 (codes "f") false ∷
      bound 53 (codes "r") false ∷ bound 216 (codes "t") false ∷
      [];
}

abbrev policy : List Rule
policy = []

abbrev schedule : List Letter
schedule = []

abbrev told : List (List ℕ)
told =
    (codes "L 4a TE") ∷
    (codes "L 4b true") ∷
    (codes "L 4c false") ∷
    (codes "L 4d TE") ∷
    (codes "L 4e true") ∷
    (codes "L 4f true") ∷
    (codes "L 5a TE") ∷
    (codes "L 5b true") ∷
    (codes "L 5c false") ∷
    (codes "L 5d false") ∷
    (codes "L 5e TE") ∷
    (codes "L 5f obj") ∷
    (codes "L 5g TE") ∷
    (codes "R 4a TE") ∷
    (codes "R 4b true") ∷
    (codes "R 4c false") ∷
    (codes "R 4d TE") ∷
    (codes "R 4e true") ∷
    (codes "R 4f true") ∷
    (codes "R 5a TE") ∷
    (codes "R 5b true") ∷
    (codes "R 5c false") ∷
    (codes "R 5d false") ∷
    (codes "R 5e TE") ∷
    (codes "R 5f obj") ∷
    (codes "R 5g TE") ∷
    (codes "= done") ∷
    []

abbrev stage : Stage
stage = Story (left ∷ right ∷ []) policy schedule 1000000

pub Row : Type 0
Row = Shows false false stage told × (stage.left ≡ 997874)

pub row : Row
unfolding Row given Validate encode_utf8
row = ((refl, refl), refl)
