use Rattle.std.specs.Prelude.{◌≡◌, refl, ℕ, List, [], ◌∷◌, false, Some, None, codes, pos}
use Rattle.std.specs.Char.{encode_utf8}
use Rattle.mb_tree.specs.declared.kind.Sign.TheVariants.{Plus, Less}
use Rattle.mb_desc.specs.Validate.{Validate}
use Rattle.mb_world.specs.Form.{ScriptForm, LetForm, DeclForm, EmptyForm, ForForm, NameForm, NumberForm, AssignForm, CompoundForm, BinaryForm}
use Rattle.mb_world.specs.Graph.{Program, Rule}
use Rattle.mb_model.specs.Engine.{given}
use Rattle.mb_model.specs.Story.{Stage, Letter, Story}
use Rattle.mb_rows.specs.Shows.{bound, Shows}

-- run
-- left
--     let k; for (k = 0; k < 1; k += 1) ;
-- right
--     (empty)

abbrev left : Program
left = record {
  forms =
      DeclForm (codes "k") None ∷ LetForm (0 ∷ []) ∷ NameForm (codes "k") ∷ NumberForm (pos 0) ∷ AssignForm 2 3 ∷
      NameForm (codes "k") ∷ NumberForm (pos 1) ∷ BinaryForm Less 5 6 ∷ NameForm (codes "k") ∷
      NumberForm (pos 1) ∷ CompoundForm Plus 8 9 ∷ EmptyForm ∷ ForForm (Some 4) (Some 7) (Some 10) 11 ∷
      ScriptForm (1 ∷ 12 ∷ []) ∷
      [];
  names =
      bound 13 (codes "k") false ∷
      [];
}

abbrev right : Program
right = record {
  forms =
      ScriptForm [] ∷
      [];
  names = [];
}

abbrev policy : List Rule
policy = []

abbrev schedule : List Letter
schedule = []

abbrev told : List (List ℕ)
told =
    (codes "= done") ∷
    []

abbrev stage : Stage
stage = Story (left ∷ right ∷ []) policy schedule 1000000

pub Row : Type 0
Row = Shows false false stage told × (stage.left ≡ 999984)

pub row : Row
unfolding Row given Validate encode_utf8
row = ((refl, refl), refl)
