use Rattle.std.specs.Prelude.{◌≡◌, refl, ℕ, List, [], ◌∷◌, false, Some, None, codes, pos}
use Rattle.std.specs.Char.{encode_utf8}
use Rattle.mb_desc.specs.Validate.{Validate}
use Rattle.mb_world.specs.Form.{ScriptForm, BlockForm, EmptyForm, ThrowForm, TryForm, NumberForm}
use Rattle.mb_world.specs.Graph.{Program, Rule}
use Rattle.mb_model.specs.Engine.{given}
use Rattle.mb_model.specs.Story.{Stage, Letter, Story}
use Rattle.mb_rows.specs.Shows.{Shows}

-- run
-- left
--     try { throw 1; } catch { ; } finally { }
-- right
--     (empty)

abbrev left : Program
left = record {
  forms =
      NumberForm (pos 1) ∷ ThrowForm 0 ∷ BlockForm (1 ∷ []) ∷ EmptyForm ∷ BlockForm (3 ∷ []) ∷ BlockForm [] ∷
      TryForm 2 None (Some 4) (Some 5) ∷ ScriptForm (6 ∷ []) ∷
      [];
  names = [];
}

abbrev right : Program
right = record {
  forms =
      ScriptForm [] ∷
      [];
  names = [];
}

abbrev policy : List Rule
policy = []

abbrev schedule : List Letter
schedule = []

abbrev told : List (List ℕ)
told =
    (codes "= done") ∷
    []

abbrev stage : Stage
stage = Story (left ∷ right ∷ []) policy schedule 1000000

pub Row : Type 0
Row = Shows false false stage told × (stage.left ≡ 999993)

pub row : Row
unfolding Row given Validate encode_utf8
row = ((refl, refl), refl)
