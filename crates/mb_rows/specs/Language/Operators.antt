use Rattle.std.specs.Prelude.{refl, ℕ, List, [], ◌∷◌, ◌++◌, true, false, Some, None, codes, pos}
use Rattle.std.specs.Char.{encode_utf8}
use Rattle.mb_tree.specs.declared.kind.Sign.TheVariants.{Plus, TripleEqual, NotDoubleEqual, Greater, LessEqual, GreaterEqual, Instanceof, Not, Typeof}
use Rattle.mb_desc.specs.Validate.{Validate}
use Rattle.mb_world.specs.Value.{Undefined, Null, Truth}
use Rattle.mb_world.specs.Form.{Written, ScriptForm, LetForm, DeclForm, BlockForm, EmptyForm, ExprStmtForm, IfForm, ReturnForm, TryForm, ParamForm, ThisForm, NameForm, NumberForm, TextForm, LiteralForm, ArrayForm, ObjectForm, ValueForm, MethodForm, FunctionForm, ArrowForm, GroupForm, MemberForm, IndexForm, AssignForm, CompoundForm, CallForm, CondForm, OrForm, AndForm, SeqForm, UnaryForm, BinaryForm}
use Rattle.mb_world.specs.Graph.{Program, Rule}
use Rattle.mb_model.specs.Engine.{given}
use Rattle.mb_model.specs.Story.{Stage, Letter, Story}
use Rattle.mb_rows.specs.Shows.{bound, Shows}

-- run
-- left
--
--     print(true || zz, false || 1, 0 || "", "" && zz, 1 && 2, null && zz, undefined || null, (1, 2, 3), true ? 1 : zz, 0 ? zz : 2);
--     print(1 > 2, 2 >= 2, 1 <= 0, "b" > "a", "b" >= "c", "" <= "", 1 === 1, 1 === "1", null === undefined, "a" !== "a", {} === {}, print === print);
--     print(typeof undefined, typeof null, typeof true, typeof 1, typeof "", typeof print, typeof {}, typeof [], typeof Object.prototype, typeof Array.prototype, typeof Reflect);
--     print(!0, !"", !{}, !null, !!"0");
--     let f = () => { return; }; print(f(), (() => { })(), (function () { return; })());
--     try { null.x; } catch (e) { print(e instanceof TypeError); }
--     try { null.x = 1; } catch (e) { print(e instanceof TypeError); }
--     try { true.x = 1; } catch (e) { print(e instanceof TypeError); }
--     try { (5).x = 1; } catch (e) { print(e instanceof TypeError); }
--     let o = { f() { return this; }, g: { h() { return this; } } };
--     print(o.f() === o, (o.f)() === o, ((o.f))() === o, (0, o.f)(), o["f"]() === o, (o.g).h() === o.g, (true && o.f)(), "abc".length, "abc"[1 + 1]);
--     let k = 0; let key = () => { k += 1; return "f"; }; o[key()]().zz; print(k);
--     if (0) print("no"); else if ("") print("no"); else print("yes");
--     if (1) ; else zz;
--     let n = { "4294967295": 1, "4294967294": 2, "10": 3, "9": 4, "-1": 5, "01": 6, "1.5": 7, "99999999999": 8, "0": 9 }; print(Reflect.ownKeys(n).join());
-- right
--     (empty)

abbrev left : Program
left = record {
  forms =
      NameForm (codes "print") ∷ LiteralForm (Truth true) ∷ NameForm (codes "zz") ∷ OrForm 1 2 ∷
      LiteralForm (Truth false) ∷ NumberForm (pos 1) ∷ OrForm 4 5 ∷ NumberForm (pos 0) ∷ TextForm [] ∷
      OrForm 7 8 ∷ TextForm [] ∷ NameForm (codes "zz") ∷ AndForm 10 11 ∷ NumberForm (pos 1) ∷
      NumberForm (pos 2) ∷ AndForm 13 14 ∷ LiteralForm (Null) ∷ NameForm (codes "zz") ∷ AndForm 16 17 ∷
      LiteralForm (Undefined) ∷ LiteralForm (Null) ∷ OrForm 19 20 ∷ NumberForm (pos 1) ∷ NumberForm (pos 2) ∷
      NumberForm (pos 3) ∷ SeqForm (22 ∷ 23 ∷ 24 ∷ []) ∷ GroupForm 25 ∷ LiteralForm (Truth true) ∷
      NumberForm (pos 1) ∷ NameForm (codes "zz") ∷ CondForm 27 28 29 ∷ NumberForm (pos 0) ∷
      NameForm (codes "zz") ∷ NumberForm (pos 2) ∷ CondForm 31 32 33 ∷
      CallForm 0 (3 ∷ 6 ∷ 9 ∷ 12 ∷ 15 ∷ 18 ∷ 21 ∷ 26 ∷ 30 ∷ 34 ∷ []) ∷ ExprStmtForm 35 ∷
      NameForm (codes "print") ∷ NumberForm (pos 1) ∷ NumberForm (pos 2) ∷ BinaryForm Greater 38 39 ∷
      NumberForm (pos 2) ∷ NumberForm (pos 2) ∷ BinaryForm GreaterEqual 41 42 ∷ NumberForm (pos 1) ∷
      NumberForm (pos 0) ∷ BinaryForm LessEqual 44 45 ∷ TextForm (codes "b") ∷ TextForm (codes "a") ∷
      BinaryForm Greater 47 48 ∷ TextForm (codes "b") ∷ TextForm (codes "c") ∷ BinaryForm GreaterEqual 50 51 ∷
      TextForm [] ∷ TextForm [] ∷ BinaryForm LessEqual 53 54 ∷ NumberForm (pos 1) ∷ NumberForm (pos 1) ∷
      BinaryForm TripleEqual 56 57 ∷ NumberForm (pos 1) ∷ TextForm (codes "1") ∷ BinaryForm TripleEqual 59 60 ∷
      LiteralForm (Null) ∷ LiteralForm (Undefined) ∷ BinaryForm TripleEqual 62 63 ∷ TextForm (codes "a") ∷
      TextForm (codes "a") ∷ BinaryForm NotDoubleEqual 65 66 ∷ ObjectForm [] ∷ ObjectForm [] ∷
      BinaryForm TripleEqual 68 69 ∷ NameForm (codes "print") ∷ NameForm (codes "print") ∷
      BinaryForm TripleEqual 71 72 ∷
      CallForm 37 (40 ∷ 43 ∷ 46 ∷ 49 ∷ 52 ∷ 55 ∷ 58 ∷ 61 ∷ 64 ∷ 67 ∷ 70 ∷ 73 ∷ []) ∷ ExprStmtForm 74 ∷
      NameForm (codes "print") ∷ LiteralForm (Undefined) ∷ UnaryForm Typeof 77 ∷ LiteralForm (Null) ∷
      UnaryForm Typeof 79 ∷ LiteralForm (Truth true) ∷ UnaryForm Typeof 81 ∷ NumberForm (pos 1) ∷
      UnaryForm Typeof 83 ∷ TextForm [] ∷ UnaryForm Typeof 85 ∷ NameForm (codes "print") ∷ UnaryForm Typeof 87 ∷
      ObjectForm [] ∷ UnaryForm Typeof 89 ∷ ArrayForm [] ∷ UnaryForm Typeof 91 ∷ NameForm (codes "Object") ∷
      MemberForm 93 (codes "prototype") ∷ UnaryForm Typeof 94 ∷ NameForm (codes "Array") ∷
      MemberForm 96 (codes "prototype") ∷ UnaryForm Typeof 97 ∷ NameForm (codes "Reflect") ∷
      UnaryForm Typeof 99 ∷ CallForm 76 (78 ∷ 80 ∷ 82 ∷ 84 ∷ 86 ∷ 88 ∷ 90 ∷ 92 ∷ 95 ∷ 98 ∷ 100 ∷ []) ∷
      ExprStmtForm 101 ∷ NameForm (codes "print") ∷ NumberForm (pos 0) ∷ UnaryForm Not 104 ∷ TextForm [] ∷
      UnaryForm Not 106 ∷ ObjectForm [] ∷ UnaryForm Not 108 ∷ LiteralForm (Null) ∷ UnaryForm Not 110 ∷
      TextForm (codes "0") ∷ UnaryForm Not 112 ∷ UnaryForm Not 113 ∷
      CallForm 103 (105 ∷ 107 ∷ 109 ∷ 111 ∷ 114 ∷ []) ∷ ExprStmtForm 115 ∷ ReturnForm None ∷
      ArrowForm (record { params = []; body = (117 ∷ []) }) true ∷ DeclForm (codes "f") (Some 118) ∷
      LetForm (119 ∷ []) ∷ NameForm (codes "print") ∷ NameForm (codes "f") ∷ CallForm 122 [] ∷
      ArrowForm (record { params = []; body = [] }) true ∷ GroupForm 124 ∷ CallForm 125 [] ∷ ReturnForm None ∷
      FunctionForm None (record { params = []; body = (127 ∷ []) }) ∷ GroupForm 128 ∷ CallForm 129 [] ∷
      CallForm 121 (123 ∷ 126 ∷ 130 ∷ []) ∷ ExprStmtForm 131 ∷ LiteralForm (Null) ∷ MemberForm 133 (codes "x") ∷
      ExprStmtForm 134 ∷ BlockForm (135 ∷ []) ∷ ParamForm (codes "e") ∷ NameForm (codes "print") ∷
      NameForm (codes "e") ∷ NameForm (codes "TypeError") ∷ BinaryForm Instanceof 139 140 ∷
      CallForm 138 (141 ∷ []) ∷ ExprStmtForm 142 ∷ BlockForm (143 ∷ []) ∷
      TryForm 136 (Some (codes "e")) (Some 144) None ∷ LiteralForm (Null) ∷ MemberForm 146 (codes "x") ∷
      NumberForm (pos 1) ∷ AssignForm 147 148 ∷ ExprStmtForm 149 ∷ BlockForm (150 ∷ []) ∷ ParamForm (codes "e") ∷
      NameForm (codes "print") ∷ NameForm (codes "e") ∷ NameForm (codes "TypeError") ∷
      BinaryForm Instanceof 154 155 ∷ CallForm 153 (156 ∷ []) ∷ ExprStmtForm 157 ∷ BlockForm (158 ∷ []) ∷
      TryForm 151 (Some (codes "e")) (Some 159) None ∷ LiteralForm (Truth true) ∷ MemberForm 161 (codes "x") ∷
      NumberForm (pos 1) ∷ AssignForm 162 163 ∷ ExprStmtForm 164 ∷ BlockForm (165 ∷ []) ∷ ParamForm (codes "e") ∷
      NameForm (codes "print") ∷ NameForm (codes "e") ∷ NameForm (codes "TypeError") ∷
      BinaryForm Instanceof 169 170 ∷ CallForm 168 (171 ∷ []) ∷ ExprStmtForm 172 ∷ BlockForm (173 ∷ []) ∷
      TryForm 166 (Some (codes "e")) (Some 174) None ∷ NumberForm (pos 5) ∷ GroupForm 176 ∷
      MemberForm 177 (codes "x") ∷ NumberForm (pos 1) ∷ AssignForm 178 179 ∷ ExprStmtForm 180 ∷
      BlockForm (181 ∷ []) ∷ ParamForm (codes "e") ∷ NameForm (codes "print") ∷ NameForm (codes "e") ∷
      NameForm (codes "TypeError") ∷ BinaryForm Instanceof 185 186 ∷ CallForm 184 (187 ∷ []) ∷ ExprStmtForm 188 ∷
      BlockForm (189 ∷ []) ∷ TryForm 182 (Some (codes "e")) (Some 190) None ∷ ThisForm ∷ ReturnForm (Some 192) ∷
      MethodForm (Written (codes "f")) (record { params = []; body = (193 ∷ []) }) ∷ ThisForm ∷
      ReturnForm (Some 195) ∷ MethodForm (Written (codes "h")) (record { params = []; body = (196 ∷ []) }) ∷
      ObjectForm (197 ∷ []) ∷ ValueForm (Written (codes "g")) 198 ∷ ObjectForm (194 ∷ 199 ∷ []) ∷
      DeclForm (codes "o") (Some 200) ∷ LetForm (201 ∷ []) ∷ NameForm (codes "print") ∷ NameForm (codes "o") ∷
      MemberForm 204 (codes "f") ∷ CallForm 205 [] ∷ NameForm (codes "o") ∷ BinaryForm TripleEqual 206 207 ∷
      NameForm (codes "o") ∷ MemberForm 209 (codes "f") ∷ GroupForm 210 ∷ CallForm 211 [] ∷
      NameForm (codes "o") ∷ BinaryForm TripleEqual 212 213 ∷ NameForm (codes "o") ∷ MemberForm 215 (codes "f") ∷
      GroupForm 216 ∷ GroupForm 217 ∷ CallForm 218 [] ∷ NameForm (codes "o") ∷ BinaryForm TripleEqual 219 220 ∷
      NumberForm (pos 0) ∷ NameForm (codes "o") ∷ MemberForm 223 (codes "f") ∷ SeqForm (222 ∷ 224 ∷ []) ∷
      GroupForm 225 ∷ CallForm 226 [] ∷ NameForm (codes "o") ∷ TextForm (codes "f") ∷ IndexForm 228 229 ∷
      CallForm 230 [] ∷ NameForm (codes "o") ∷ BinaryForm TripleEqual 231 232 ∷ NameForm (codes "o") ∷
      MemberForm 234 (codes "g") ∷ GroupForm 235 ∷ MemberForm 236 (codes "h") ∷ CallForm 237 [] ∷
      NameForm (codes "o") ∷ MemberForm 239 (codes "g") ∷ BinaryForm TripleEqual 238 240 ∷
      LiteralForm (Truth true) ∷ NameForm (codes "o") ∷ MemberForm 243 (codes "f") ∷ AndForm 242 244 ∷
      GroupForm 245 ∷ CallForm 246 [] ∷ TextForm (codes "abc") ∷ MemberForm 248 (codes "length") ∷
      TextForm (codes "abc") ∷ NumberForm (pos 1) ∷ NumberForm (pos 1) ∷ BinaryForm Plus 251 252 ∷
      IndexForm 250 253 ∷ CallForm 203 (208 ∷ 214 ∷ 221 ∷ 227 ∷ 233 ∷ 241 ∷ 247 ∷ 249 ∷ 254 ∷ []) ∷
      ExprStmtForm 255 ∷ NumberForm (pos 0) ∷ DeclForm (codes "k") (Some 257) ∷ LetForm (258 ∷ []) ∷
      NameForm (codes "k") ∷ NumberForm (pos 1) ∷ CompoundForm Plus 260 261 ∷ ExprStmtForm 262 ∷
      TextForm (codes "f") ∷ ReturnForm (Some 264) ∷
      ArrowForm (record { params = []; body = (263 ∷ 265 ∷ []) }) true ∷ DeclForm (codes "key") (Some 266) ∷
      LetForm (267 ∷ []) ∷ NameForm (codes "o") ∷ NameForm (codes "key") ∷ CallForm 270 [] ∷ IndexForm 269 271 ∷
      CallForm 272 [] ∷ MemberForm 273 (codes "zz") ∷ ExprStmtForm 274 ∷ NameForm (codes "print") ∷
      NameForm (codes "k") ∷ CallForm 276 (277 ∷ []) ∷ ExprStmtForm 278 ∷ NumberForm (pos 0) ∷
      NameForm (codes "print") ∷ TextForm (codes "no") ∷ CallForm 281 (282 ∷ []) ∷ ExprStmtForm 283 ∷
      TextForm [] ∷ NameForm (codes "print") ∷ TextForm (codes "no") ∷ CallForm 286 (287 ∷ []) ∷
      ExprStmtForm 288 ∷ NameForm (codes "print") ∷ TextForm (codes "yes") ∷ CallForm 290 (291 ∷ []) ∷
      ExprStmtForm 292 ∷ IfForm 285 289 (Some 293) ∷ IfForm 280 284 (Some 294) ∷ NumberForm (pos 1) ∷ EmptyForm ∷
      NameForm (codes "zz") ∷ ExprStmtForm 298 ∷ IfForm 296 297 (Some 299) ∷ NumberForm (pos 1) ∷
      ValueForm (Written (codes "4294967295")) 301 ∷ NumberForm (pos 2) ∷
      ValueForm (Written (codes "4294967294")) 303 ∷ NumberForm (pos 3) ∷ ValueForm (Written (codes "10")) 305 ∷
      NumberForm (pos 4) ∷ ValueForm (Written (codes "9")) 307 ∷ NumberForm (pos 5) ∷
      ValueForm (Written (codes "-1")) 309 ∷ NumberForm (pos 6) ∷ ValueForm (Written (codes "01")) 311 ∷
      NumberForm (pos 7) ∷ ValueForm (Written (codes "1.5")) 313 ∷ NumberForm (pos 8) ∷
      ValueForm (Written (codes "99999999999")) 315 ∷ NumberForm (pos 9) ∷ ValueForm (Written (codes "0")) 317 ∷
      ObjectForm (302 ∷ 304 ∷ 306 ∷ 308 ∷ 310 ∷ 312 ∷ 314 ∷ 316 ∷ 318 ∷ []) ∷ DeclForm (codes "n") (Some 319) ∷
      LetForm (320 ∷ []) ∷ NameForm (codes "print") ∷ NameForm (codes "Reflect") ∷
      MemberForm 323 (codes "ownKeys") ∷ NameForm (codes "n") ∷ CallForm 324 (325 ∷ []) ∷
      MemberForm 326 (codes "join") ∷ CallForm 327 [] ∷ CallForm 322 (328 ∷ []) ∷ ExprStmtForm 329 ∷
      ScriptForm (36 ∷ 75 ∷ 102 ∷ 116 ∷ 120 ∷ 132 ∷ 145 ∷ 160 ∷ 175 ∷ 191 ∷ 202 ∷ 256 ∷ 259 ∷ 268 ∷ 275 ∷ 279 ∷
      295 ∷ 300 ∷ 321 ∷ 330 ∷ []) ∷
      [];
  names =
      bound 145 (codes "e") false ∷ bound 160 (codes "e") false ∷ bound 175 (codes "e") false ∷
      bound 191 (codes "e") false ∷ bound 331 (codes "f") false ∷ bound 331 (codes "o") false ∷
      bound 331 (codes "k") false ∷ bound 331 (codes "key") false ∷ bound 331 (codes "n") false ∷
      [];
}

abbrev right : Program
right = record {
  forms =
      ScriptForm [] ∷
      [];
  names = [];
}

abbrev policy : List Rule
policy = []

abbrev schedule : List Letter
schedule = []

abbrev told : List (List ℕ)
told =
    (codes "L true 1   2 null null 3 1 2") ∷
    (codes "L false true false true false true true false false false false true") ∷
    (codes "L undefined object boolean number string function object object object object ob" ++ codes "ject") ∷
    (codes "L true true false true true") ∷
    (codes "L undefined undefined undefined") ∷
    (codes "L true") ∷
    (codes "L true") ∷
    (codes "L true") ∷
    (codes "L true") ∷
    (codes "L true true true undefined true true undefined 3 c") ∷
    (codes "L 1") ∷
    (codes "L yes") ∷
    (codes "L 0,9,10,4294967294,4294967295,-1,01,1.5,99999999999") ∷
    (codes "= done") ∷
    []

abbrev stage : Stage
stage = Story (left ∷ right ∷ []) policy schedule 1000000

pub Row : Type 0
Row = Shows false false stage told

pub row : Row
unfolding Row given Validate encode_utf8
row = (refl, refl)
