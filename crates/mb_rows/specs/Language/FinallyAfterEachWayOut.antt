use Rattle.std.specs.Prelude.{refl, ℕ, List, [], ◌∷◌, true, false, Some, None, codes, pos}
use Rattle.std.specs.Char.{encode_utf8}
use Rattle.mb_tree.specs.declared.kind.Sign.TheVariants.{Plus, TripleEqual, Less}
use Rattle.mb_desc.specs.Validate.{Validate}
use Rattle.mb_world.specs.Form.{ScriptForm, LetForm, DeclForm, BlockForm, ExprStmtForm, IfForm, ForForm, ReturnForm, ThrowForm, BreakForm, ContinueForm, TryForm, ParamForm, NameForm, NumberForm, TextForm, ArrowForm, CompoundForm, CallForm, AndForm, BinaryForm}
use Rattle.mb_world.specs.Graph.{Program, Rule}
use Rattle.mb_model.specs.Engine.{given}
use Rattle.mb_model.specs.Story.{Stage, Letter, Story}
use Rattle.mb_rows.specs.Shows.{bound, Shows}

-- run
-- left
--     let f = (m) => { for (let i = 0; i < 3; i += 1) { try { if (m === 0) { return 1; } if (m === 1) { throw 2; } if (m === 2) { break; } if (m === 3) { continue; } } catch (e) { if (m === 1) { return e; } } finally { if (i === 1) { print("fin", m); } if (m === 4) { return 5; } if (m === 5) { break; } if (m === 0 && i === 0) { continue; } } } return "end"; }; print(f(0)); print(f(1)); print(f(2)); print(f(3)); print(f(4)); print(f(5));
-- right
--     (empty)

abbrev left : Program
left = record {
  forms =
      ParamForm (codes "m") ∷ NumberForm (pos 0) ∷ DeclForm (codes "i") (Some 1) ∷ LetForm (2 ∷ []) ∷
      NameForm (codes "i") ∷ NumberForm (pos 3) ∷ BinaryForm Less 4 5 ∷ NameForm (codes "i") ∷
      NumberForm (pos 1) ∷ CompoundForm Plus 7 8 ∷ NameForm (codes "m") ∷ NumberForm (pos 0) ∷
      BinaryForm TripleEqual 10 11 ∷ NumberForm (pos 1) ∷ ReturnForm (Some 13) ∷ BlockForm (14 ∷ []) ∷
      IfForm 12 15 None ∷ NameForm (codes "m") ∷ NumberForm (pos 1) ∷ BinaryForm TripleEqual 17 18 ∷
      NumberForm (pos 2) ∷ ThrowForm 20 ∷ BlockForm (21 ∷ []) ∷ IfForm 19 22 None ∷ NameForm (codes "m") ∷
      NumberForm (pos 2) ∷ BinaryForm TripleEqual 24 25 ∷ BreakForm ∷ BlockForm (27 ∷ []) ∷ IfForm 26 28 None ∷
      NameForm (codes "m") ∷ NumberForm (pos 3) ∷ BinaryForm TripleEqual 30 31 ∷ ContinueForm ∷
      BlockForm (33 ∷ []) ∷ IfForm 32 34 None ∷ BlockForm (16 ∷ 23 ∷ 29 ∷ 35 ∷ []) ∷ ParamForm (codes "e") ∷
      NameForm (codes "m") ∷ NumberForm (pos 1) ∷ BinaryForm TripleEqual 38 39 ∷ NameForm (codes "e") ∷
      ReturnForm (Some 41) ∷ BlockForm (42 ∷ []) ∷ IfForm 40 43 None ∷ BlockForm (44 ∷ []) ∷
      NameForm (codes "i") ∷ NumberForm (pos 1) ∷ BinaryForm TripleEqual 46 47 ∷ NameForm (codes "print") ∷
      TextForm (codes "fin") ∷ NameForm (codes "m") ∷ CallForm 49 (50 ∷ 51 ∷ []) ∷ ExprStmtForm 52 ∷
      BlockForm (53 ∷ []) ∷ IfForm 48 54 None ∷ NameForm (codes "m") ∷ NumberForm (pos 4) ∷
      BinaryForm TripleEqual 56 57 ∷ NumberForm (pos 5) ∷ ReturnForm (Some 59) ∷ BlockForm (60 ∷ []) ∷
      IfForm 58 61 None ∷ NameForm (codes "m") ∷ NumberForm (pos 5) ∷ BinaryForm TripleEqual 63 64 ∷ BreakForm ∷
      BlockForm (66 ∷ []) ∷ IfForm 65 67 None ∷ NameForm (codes "m") ∷ NumberForm (pos 0) ∷
      BinaryForm TripleEqual 69 70 ∷ NameForm (codes "i") ∷ NumberForm (pos 0) ∷ BinaryForm TripleEqual 72 73 ∷
      AndForm 71 74 ∷ ContinueForm ∷ BlockForm (76 ∷ []) ∷ IfForm 75 77 None ∷
      BlockForm (55 ∷ 62 ∷ 68 ∷ 78 ∷ []) ∷ TryForm 36 (Some (codes "e")) (Some 45) (Some 79) ∷
      BlockForm (80 ∷ []) ∷ ForForm (Some 3) (Some 6) (Some 9) 81 ∷ TextForm (codes "end") ∷
      ReturnForm (Some 83) ∷ ArrowForm (record { params = (codes "m") ∷ []; body = (82 ∷ 84 ∷ []) }) true ∷
      DeclForm (codes "f") (Some 85) ∷ LetForm (86 ∷ []) ∷ NameForm (codes "print") ∷ NameForm (codes "f") ∷
      NumberForm (pos 0) ∷ CallForm 89 (90 ∷ []) ∷ CallForm 88 (91 ∷ []) ∷ ExprStmtForm 92 ∷
      NameForm (codes "print") ∷ NameForm (codes "f") ∷ NumberForm (pos 1) ∷ CallForm 95 (96 ∷ []) ∷
      CallForm 94 (97 ∷ []) ∷ ExprStmtForm 98 ∷ NameForm (codes "print") ∷ NameForm (codes "f") ∷
      NumberForm (pos 2) ∷ CallForm 101 (102 ∷ []) ∷ CallForm 100 (103 ∷ []) ∷ ExprStmtForm 104 ∷
      NameForm (codes "print") ∷ NameForm (codes "f") ∷ NumberForm (pos 3) ∷ CallForm 107 (108 ∷ []) ∷
      CallForm 106 (109 ∷ []) ∷ ExprStmtForm 110 ∷ NameForm (codes "print") ∷ NameForm (codes "f") ∷
      NumberForm (pos 4) ∷ CallForm 113 (114 ∷ []) ∷ CallForm 112 (115 ∷ []) ∷ ExprStmtForm 116 ∷
      NameForm (codes "print") ∷ NameForm (codes "f") ∷ NumberForm (pos 5) ∷ CallForm 119 (120 ∷ []) ∷
      CallForm 118 (121 ∷ []) ∷ ExprStmtForm 122 ∷ ScriptForm (87 ∷ 93 ∷ 99 ∷ 105 ∷ 111 ∷ 117 ∷ 123 ∷ []) ∷
      [];
  names =
      bound 80 (codes "e") false ∷ bound 82 (codes "i") false ∷ bound 85 (codes "m") false ∷
      bound 124 (codes "f") false ∷
      [];
}

abbrev right : Program
right = record {
  forms =
      ScriptForm [] ∷
      [];
  names = [];
}

abbrev policy : List Rule
policy = []

abbrev schedule : List Letter
schedule = []

abbrev told : List (List ℕ)
told =
    (codes "L fin 0") ∷
    (codes "L 1") ∷
    (codes "L 2") ∷
    (codes "L end") ∷
    (codes "L fin 3") ∷
    (codes "L end") ∷
    (codes "L 5") ∷
    (codes "L end") ∷
    (codes "= done") ∷
    []

abbrev stage : Stage
stage = Story (left ∷ right ∷ []) policy schedule 1000000

pub Row : Type 0
Row = Shows false false stage told

pub row : Row
unfolding Row given Validate encode_utf8
row = (refl, refl)
