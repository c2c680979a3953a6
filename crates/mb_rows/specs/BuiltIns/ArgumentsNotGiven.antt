use Rattle.std.specs.Prelude.{refl, ℕ, List, [], ◌∷◌, true, false, Some, None, codes, pos}
use Rattle.std.specs.Char.{encode_utf8}
use Rattle.mb_tree.specs.declared.kind.Sign.TheVariants.{Plus, Less, Instanceof, Typeof}
use Rattle.mb_desc.specs.Validate.{Validate}
use Rattle.mb_world.specs.Form.{ScriptForm, LetForm, ConstForm, DeclForm, FunctionDeclForm, BlockForm, ExprStmtForm, ForForm, ReturnForm, TryForm, ParamForm, NameForm, NumberForm, TextForm, ArrowForm, GroupForm, MemberForm, AssignForm, CompoundForm, UpdateForm, CallForm, SeqForm, UnaryForm, BinaryForm}
use Rattle.mb_world.specs.Graph.{Program, Rule}
use Rattle.mb_model.specs.Engine.{given}
use Rattle.mb_model.specs.Story.{Stage, Letter, Story}
use Rattle.mb_rows.specs.Shows.{bound, Shows}

-- run
-- left
--
--     let f = () => x;
--     try { f(); } catch (e) { print(e instanceof ReferenceError); }
--     try { typeof x; } catch (e) { print(e instanceof ReferenceError); }
--     try { x = 1; } catch (e) { print(e instanceof ReferenceError); }
--     try { c = print("rhs"); } catch (e) { print(e instanceof ReferenceError); }
--     try { x++; } catch (e) { print(e instanceof ReferenceError); }
--     print(typeof nowhere, typeof (nowhere), typeof ((nowhere)), typeof f, typeof (f));
--     try { typeof nowhere.x; } catch (e) { print(e instanceof ReferenceError); }
--     try { typeof (nowhere, 1); } catch (e) { print(e instanceof ReferenceError); }
--     let x = 2;
--     const c = 3;
--     try { c = 4; } catch (e) { print(e instanceof TypeError); }
--     try { c += 4; } catch (e) { print(e instanceof TypeError); }
--     print(f(), c);
--     try { let y = y; } catch (e) { print(e instanceof ReferenceError); }
--     { try { g2(); } catch (e) { print("none"); } function g2() { return h2(); } function h2() { return q; } let q = 5; print(g2()); }
--     try { g2; } catch (e) { print(e instanceof ReferenceError); }
--     g3 = 7; function g3() { } print(g3);
--     let i1 = 1, i2 = i1 + 1, i3; print(i2, i3);
--     try { let print = print; } catch (e) { print(e instanceof ReferenceError); }
--     for (let d = 0; d < 1; d += 1) { try { let d = d; } catch (e) { print(e instanceof ReferenceError); } }
--     try { for (let d = d; ;) { } } catch (e) { print(e instanceof ReferenceError); }
-- right
--     (empty)

abbrev left : Program
left = record {
  forms =
      NameForm (codes "x") ∷ ArrowForm (record { params = []; body = (0 ∷ []) }) false ∷
      DeclForm (codes "f") (Some 1) ∷ LetForm (2 ∷ []) ∷ NameForm (codes "f") ∷ CallForm 4 [] ∷ ExprStmtForm 5 ∷
      BlockForm (6 ∷ []) ∷ ParamForm (codes "e") ∷ NameForm (codes "print") ∷ NameForm (codes "e") ∷
      NameForm (codes "ReferenceError") ∷ BinaryForm Instanceof 10 11 ∷ CallForm 9 (12 ∷ []) ∷ ExprStmtForm 13 ∷
      BlockForm (14 ∷ []) ∷ TryForm 7 (Some (codes "e")) (Some 15) None ∷ NameForm (codes "x") ∷
      UnaryForm Typeof 17 ∷ ExprStmtForm 18 ∷ BlockForm (19 ∷ []) ∷ ParamForm (codes "e") ∷
      NameForm (codes "print") ∷ NameForm (codes "e") ∷ NameForm (codes "ReferenceError") ∷
      BinaryForm Instanceof 23 24 ∷ CallForm 22 (25 ∷ []) ∷ ExprStmtForm 26 ∷ BlockForm (27 ∷ []) ∷
      TryForm 20 (Some (codes "e")) (Some 28) None ∷ NameForm (codes "x") ∷ NumberForm (pos 1) ∷
      AssignForm 30 31 ∷ ExprStmtForm 32 ∷ BlockForm (33 ∷ []) ∷ ParamForm (codes "e") ∷
      NameForm (codes "print") ∷ NameForm (codes "e") ∷ NameForm (codes "ReferenceError") ∷
      BinaryForm Instanceof 37 38 ∷ CallForm 36 (39 ∷ []) ∷ ExprStmtForm 40 ∷ BlockForm (41 ∷ []) ∷
      TryForm 34 (Some (codes "e")) (Some 42) None ∷ NameForm (codes "c") ∷ NameForm (codes "print") ∷
      TextForm (codes "rhs") ∷ CallForm 45 (46 ∷ []) ∷ AssignForm 44 47 ∷ ExprStmtForm 48 ∷ BlockForm (49 ∷ []) ∷
      ParamForm (codes "e") ∷ NameForm (codes "print") ∷ NameForm (codes "e") ∷
      NameForm (codes "ReferenceError") ∷ BinaryForm Instanceof 53 54 ∷ CallForm 52 (55 ∷ []) ∷ ExprStmtForm 56 ∷
      BlockForm (57 ∷ []) ∷ TryForm 50 (Some (codes "e")) (Some 58) None ∷ NameForm (codes "x") ∷
      UpdateForm true false 60 ∷ ExprStmtForm 61 ∷ BlockForm (62 ∷ []) ∷ ParamForm (codes "e") ∷
      NameForm (codes "print") ∷ NameForm (codes "e") ∷ NameForm (codes "ReferenceError") ∷
      BinaryForm Instanceof 66 67 ∷ CallForm 65 (68 ∷ []) ∷ ExprStmtForm 69 ∷ BlockForm (70 ∷ []) ∷
      TryForm 63 (Some (codes "e")) (Some 71) None ∷ NameForm (codes "print") ∷ NameForm (codes "nowhere") ∷
      UnaryForm Typeof 74 ∷ NameForm (codes "nowhere") ∷ GroupForm 76 ∷ UnaryForm Typeof 77 ∷
      NameForm (codes "nowhere") ∷ GroupForm 79 ∷ GroupForm 80 ∷ UnaryForm Typeof 81 ∷ NameForm (codes "f") ∷
      UnaryForm Typeof 83 ∷ NameForm (codes "f") ∷ GroupForm 85 ∷ UnaryForm Typeof 86 ∷
      CallForm 73 (75 ∷ 78 ∷ 82 ∷ 84 ∷ 87 ∷ []) ∷ ExprStmtForm 88 ∷ NameForm (codes "nowhere") ∷
      MemberForm 90 (codes "x") ∷ UnaryForm Typeof 91 ∷ ExprStmtForm 92 ∷ BlockForm (93 ∷ []) ∷
      ParamForm (codes "e") ∷ NameForm (codes "print") ∷ NameForm (codes "e") ∷
      NameForm (codes "ReferenceError") ∷ BinaryForm Instanceof 97 98 ∷ CallForm 96 (99 ∷ []) ∷
      ExprStmtForm 100 ∷ BlockForm (101 ∷ []) ∷ TryForm 94 (Some (codes "e")) (Some 102) None ∷
      NameForm (codes "nowhere") ∷ NumberForm (pos 1) ∷ SeqForm (104 ∷ 105 ∷ []) ∷ GroupForm 106 ∷
      UnaryForm Typeof 107 ∷ ExprStmtForm 108 ∷ BlockForm (109 ∷ []) ∷ ParamForm (codes "e") ∷
      NameForm (codes "print") ∷ NameForm (codes "e") ∷ NameForm (codes "ReferenceError") ∷
      BinaryForm Instanceof 113 114 ∷ CallForm 112 (115 ∷ []) ∷ ExprStmtForm 116 ∷ BlockForm (117 ∷ []) ∷
      TryForm 110 (Some (codes "e")) (Some 118) None ∷ NumberForm (pos 2) ∷ DeclForm (codes "x") (Some 120) ∷
      LetForm (121 ∷ []) ∷ NumberForm (pos 3) ∷ DeclForm (codes "c") (Some 123) ∷ ConstForm (124 ∷ []) ∷
      NameForm (codes "c") ∷ NumberForm (pos 4) ∷ AssignForm 126 127 ∷ ExprStmtForm 128 ∷ BlockForm (129 ∷ []) ∷
      ParamForm (codes "e") ∷ NameForm (codes "print") ∷ NameForm (codes "e") ∷ NameForm (codes "TypeError") ∷
      BinaryForm Instanceof 133 134 ∷ CallForm 132 (135 ∷ []) ∷ ExprStmtForm 136 ∷ BlockForm (137 ∷ []) ∷
      TryForm 130 (Some (codes "e")) (Some 138) None ∷ NameForm (codes "c") ∷ NumberForm (pos 4) ∷
      CompoundForm Plus 140 141 ∷ ExprStmtForm 142 ∷ BlockForm (143 ∷ []) ∷ ParamForm (codes "e") ∷
      NameForm (codes "print") ∷ NameForm (codes "e") ∷ NameForm (codes "TypeError") ∷
      BinaryForm Instanceof 147 148 ∷ CallForm 146 (149 ∷ []) ∷ ExprStmtForm 150 ∷ BlockForm (151 ∷ []) ∷
      TryForm 144 (Some (codes "e")) (Some 152) None ∷ NameForm (codes "print") ∷ NameForm (codes "f") ∷
      CallForm 155 [] ∷ NameForm (codes "c") ∷ CallForm 154 (156 ∷ 157 ∷ []) ∷ ExprStmtForm 158 ∷
      NameForm (codes "y") ∷ DeclForm (codes "y") (Some 160) ∷ LetForm (161 ∷ []) ∷ BlockForm (162 ∷ []) ∷
      ParamForm (codes "e") ∷ NameForm (codes "print") ∷ NameForm (codes "e") ∷
      NameForm (codes "ReferenceError") ∷ BinaryForm Instanceof 166 167 ∷ CallForm 165 (168 ∷ []) ∷
      ExprStmtForm 169 ∷ BlockForm (170 ∷ []) ∷ TryForm 163 (Some (codes "e")) (Some 171) None ∷
      NameForm (codes "g2") ∷ CallForm 173 [] ∷ ExprStmtForm 174 ∷ BlockForm (175 ∷ []) ∷ ParamForm (codes "e") ∷
      NameForm (codes "print") ∷ TextForm (codes "none") ∷ CallForm 178 (179 ∷ []) ∷ ExprStmtForm 180 ∷
      BlockForm (181 ∷ []) ∷ TryForm 176 (Some (codes "e")) (Some 182) None ∷ NameForm (codes "h2") ∷
      CallForm 184 [] ∷ ReturnForm (Some 185) ∷
      FunctionDeclForm (codes "g2") (record { params = []; body = (186 ∷ []) }) ∷ NameForm (codes "q") ∷
      ReturnForm (Some 188) ∷ FunctionDeclForm (codes "h2") (record { params = []; body = (189 ∷ []) }) ∷
      NumberForm (pos 5) ∷ DeclForm (codes "q") (Some 191) ∷ LetForm (192 ∷ []) ∷ NameForm (codes "print") ∷
      NameForm (codes "g2") ∷ CallForm 195 [] ∷ CallForm 194 (196 ∷ []) ∷ ExprStmtForm 197 ∷
      BlockForm (183 ∷ 187 ∷ 190 ∷ 193 ∷ 198 ∷ []) ∷ NameForm (codes "g2") ∷ ExprStmtForm 200 ∷
      BlockForm (201 ∷ []) ∷ ParamForm (codes "e") ∷ NameForm (codes "print") ∷ NameForm (codes "e") ∷
      NameForm (codes "ReferenceError") ∷ BinaryForm Instanceof 205 206 ∷ CallForm 204 (207 ∷ []) ∷
      ExprStmtForm 208 ∷ BlockForm (209 ∷ []) ∷ TryForm 202 (Some (codes "e")) (Some 210) None ∷
      NameForm (codes "g3") ∷ NumberForm (pos 7) ∷ AssignForm 212 213 ∷ ExprStmtForm 214 ∷
      FunctionDeclForm (codes "g3") (record { params = []; body = [] }) ∷ NameForm (codes "print") ∷
      NameForm (codes "g3") ∷ CallForm 217 (218 ∷ []) ∷ ExprStmtForm 219 ∷ NumberForm (pos 1) ∷
      DeclForm (codes "i1") (Some 221) ∷ NameForm (codes "i1") ∷ NumberForm (pos 1) ∷ BinaryForm Plus 223 224 ∷
      DeclForm (codes "i2") (Some 225) ∷ DeclForm (codes "i3") None ∷ LetForm (222 ∷ 226 ∷ 227 ∷ []) ∷
      NameForm (codes "print") ∷ NameForm (codes "i2") ∷ NameForm (codes "i3") ∷ CallForm 229 (230 ∷ 231 ∷ []) ∷
      ExprStmtForm 232 ∷ NameForm (codes "print") ∷ DeclForm (codes "print") (Some 234) ∷ LetForm (235 ∷ []) ∷
      BlockForm (236 ∷ []) ∷ ParamForm (codes "e") ∷ NameForm (codes "print") ∷ NameForm (codes "e") ∷
      NameForm (codes "ReferenceError") ∷ BinaryForm Instanceof 240 241 ∷ CallForm 239 (242 ∷ []) ∷
      ExprStmtForm 243 ∷ BlockForm (244 ∷ []) ∷ TryForm 237 (Some (codes "e")) (Some 245) None ∷
      NumberForm (pos 0) ∷ DeclForm (codes "d") (Some 247) ∷ LetForm (248 ∷ []) ∷ NameForm (codes "d") ∷
      NumberForm (pos 1) ∷ BinaryForm Less 250 251 ∷ NameForm (codes "d") ∷ NumberForm (pos 1) ∷
      CompoundForm Plus 253 254 ∷ NameForm (codes "d") ∷ DeclForm (codes "d") (Some 256) ∷ LetForm (257 ∷ []) ∷
      BlockForm (258 ∷ []) ∷ ParamForm (codes "e") ∷ NameForm (codes "print") ∷ NameForm (codes "e") ∷
      NameForm (codes "ReferenceError") ∷ BinaryForm Instanceof 262 263 ∷ CallForm 261 (264 ∷ []) ∷
      ExprStmtForm 265 ∷ BlockForm (266 ∷ []) ∷ TryForm 259 (Some (codes "e")) (Some 267) None ∷
      BlockForm (268 ∷ []) ∷ ForForm (Some 249) (Some 252) (Some 255) 269 ∷ NameForm (codes "d") ∷
      DeclForm (codes "d") (Some 271) ∷ LetForm (272 ∷ []) ∷ BlockForm [] ∷ ForForm (Some 273) None None 274 ∷
      BlockForm (275 ∷ []) ∷ ParamForm (codes "e") ∷ NameForm (codes "print") ∷ NameForm (codes "e") ∷
      NameForm (codes "ReferenceError") ∷ BinaryForm Instanceof 279 280 ∷ CallForm 278 (281 ∷ []) ∷
      ExprStmtForm 282 ∷ BlockForm (283 ∷ []) ∷ TryForm 276 (Some (codes "e")) (Some 284) None ∷
      ScriptForm (3 ∷ 16 ∷ 29 ∷ 43 ∷ 59 ∷ 72 ∷ 89 ∷ 103 ∷ 119 ∷ 122 ∷ 125 ∷ 139 ∷ 153 ∷ 159 ∷ 172 ∷ 199 ∷ 211 ∷
      215 ∷ 216 ∷ 220 ∷ 228 ∷ 233 ∷ 246 ∷ 270 ∷ 285 ∷ []) ∷
      [];
  names =
      bound 16 (codes "e") false ∷ bound 29 (codes "e") false ∷ bound 43 (codes "e") false ∷
      bound 59 (codes "e") false ∷ bound 72 (codes "e") false ∷ bound 103 (codes "e") false ∷
      bound 119 (codes "e") false ∷ bound 139 (codes "e") false ∷ bound 153 (codes "e") false ∷
      bound 163 (codes "y") false ∷ bound 172 (codes "e") false ∷ bound 183 (codes "e") false ∷
      bound 199 (codes "g2") false ∷ bound 199 (codes "h2") false ∷ bound 199 (codes "q") false ∷
      bound 211 (codes "e") false ∷ bound 237 (codes "print") false ∷ bound 246 (codes "e") false ∷
      bound 259 (codes "d") false ∷ bound 268 (codes "e") false ∷ bound 270 (codes "d") false ∷
      bound 275 (codes "d") false ∷ bound 285 (codes "e") false ∷ bound 286 (codes "f") false ∷
      bound 286 (codes "x") false ∷ bound 286 (codes "c") true ∷ bound 286 (codes "g3") false ∷
      bound 286 (codes "i1") false ∷ bound 286 (codes "i2") false ∷ bound 286 (codes "i3") false ∷
      [];
}

abbrev right : Program
right = record {
  forms =
      ScriptForm [] ∷
      [];
  names = [];
}

abbrev policy : List Rule
policy = []

abbrev schedule : List Letter
schedule = []

abbrev told : List (List ℕ)
told =
    (codes "L true") ∷
    (codes "L true") ∷
    (codes "L true") ∷
    (codes "L rhs") ∷
    (codes "L true") ∷
    (codes "L true") ∷
    (codes "L undefined undefined undefined function function") ∷
    (codes "L true") ∷
    (codes "L true") ∷
    (codes "L true") ∷
    (codes "L true") ∷
    (codes "L 2 3") ∷
    (codes "L true") ∷
    (codes "L none") ∷
    (codes "L 5") ∷
    (codes "L true") ∷
    (codes "L 7") ∷
    (codes "L 2 undefined") ∷
    (codes "L true") ∷
    (codes "L true") ∷
    (codes "L true") ∷
    (codes "= done") ∷
    []

abbrev stage : Stage
stage = Story (left ∷ right ∷ []) policy schedule 1000000

pub Row : Type 0
Row = Shows false false stage told

pub row : Row
unfolding Row given Validate encode_utf8
row = (refl, refl)
