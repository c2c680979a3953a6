use Rattle.std.specs.Prelude.{refl, ℕ, List, [], ◌∷◌, false, codes}
use Rattle.std.specs.Char.{encode_utf8}
use Rattle.mb_desc.specs.Validate.{Validate}
use Rattle.mb_world.specs.Form.{ScriptForm, ThrowForm, TextForm, ObjectForm}
use Rattle.mb_world.specs.Graph.{Program, Rule}
use Rattle.mb_model.specs.Engine.{given}
use Rattle.mb_model.specs.Story.{Stage, Letter, Story}
use Rattle.mb_rows.specs.Shows.{Shows}

-- run
-- left
--     throw "x";
-- right
--     throw {};

abbrev left : Program
left = record {
  forms =
      TextForm (codes "x") ∷ ThrowForm 0 ∷ ScriptForm (1 ∷ []) ∷
      [];
  names = [];
}

abbrev right : Program
right = record {
  forms =
      ObjectForm [] ∷ ThrowForm 0 ∷ ScriptForm (1 ∷ []) ∷
      [];
  names = [];
}

abbrev policy : List Rule
policy = []

abbrev schedule : List Letter
schedule = []

abbrev told : List (List ℕ)
told =
    (codes "L! value x") ∷
    (codes "R! object") ∷
    (codes "= uncaught") ∷
    []

abbrev stage : Stage
stage = Story (left ∷ right ∷ []) policy schedule 1000000

pub Row : Type 0
Row = Shows false false stage told

pub row : Row
unfolding Row given Validate encode_utf8
row = (refl, refl)
