use Rattle.std.specs.Prelude.{◌≡◌, refl, ℕ, List, [], ◌∷◌, false, Some, None, codes, pos}
use Rattle.std.specs.Char.{encode_utf8}
use Rattle.mb_tree.specs.declared.kind.Sign.TheVariants.{Plus, TripleEqual, Less}
use Rattle.mb_desc.specs.Validate.{Validate}
use Rattle.mb_world.specs.Form.{ScriptForm, LetForm, DeclForm, BlockForm, ExprStmtForm, IfForm, ForForm, ContinueForm, NameForm, NumberForm, CompoundForm, CallForm, BinaryForm}
use Rattle.mb_world.specs.Graph.{Program, Rule}
use Rattle.mb_model.specs.Engine.{given}
use Rattle.mb_model.specs.Story.{Stage, Letter, Story}
use Rattle.mb_rows.specs.Shows.{bound, Shows}

-- run --budget 33
-- left
--     for (let i = 0; i < 2; i += 1) { if (i === 0) { continue; } print(i); }
-- right
--     (empty)

abbrev left : Program
left = record {
  forms =
      NumberForm (pos 0) ∷ DeclForm (codes "i") (Some 0) ∷ LetForm (1 ∷ []) ∷ NameForm (codes "i") ∷
      NumberForm (pos 2) ∷ BinaryForm Less 3 4 ∷ NameForm (codes "i") ∷ NumberForm (pos 1) ∷
      CompoundForm Plus 6 7 ∷ NameForm (codes "i") ∷ NumberForm (pos 0) ∷ BinaryForm TripleEqual 9 10 ∷
      ContinueForm ∷ BlockForm (12 ∷ []) ∷ IfForm 11 13 None ∷ NameForm (codes "print") ∷ NameForm (codes "i") ∷
      CallForm 15 (16 ∷ []) ∷ ExprStmtForm 17 ∷ BlockForm (14 ∷ 18 ∷ []) ∷
      ForForm (Some 2) (Some 5) (Some 8) 19 ∷ ScriptForm (20 ∷ []) ∷
      [];
  names =
      bound 20 (codes "i") false ∷
      [];
}

abbrev right : Program
right = record {
  forms =
      ScriptForm [] ∷
      [];
  names = [];
}

abbrev policy : List Rule
policy = []

abbrev schedule : List Letter
schedule = []

abbrev told : List (List ℕ)
told =
    (codes "L 1") ∷
    (codes "= spent") ∷
    []

abbrev stage : Stage
stage = Story (left ∷ right ∷ []) policy schedule 33

pub Row : Type 0
Row = Shows false false stage told × (stage.left ≡ 0)

pub row : Row
unfolding Row given Validate encode_utf8
row = ((refl, refl), refl)
