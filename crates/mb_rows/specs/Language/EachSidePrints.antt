use Rattle.std.specs.Prelude.{refl, ℕ, List, [], ◌∷◌, false, codes, pos}
use Rattle.std.specs.Char.{encode_utf8}
use Rattle.mb_desc.specs.Validate.{Validate}
use Rattle.mb_world.specs.Form.{ScriptForm, ExprStmtForm, NameForm, NumberForm, CallForm}
use Rattle.mb_world.specs.Graph.{Program, Rule}
use Rattle.mb_model.specs.Engine.{given}
use Rattle.mb_model.specs.Story.{Stage, Letter, Story}
use Rattle.mb_rows.specs.Shows.{Shows}

-- run
-- left
--     print(1);
-- right
--     print(2);

abbrev left : Program
left = record {
  forms =
      NameForm (codes "print") ∷ NumberForm (pos 1) ∷ CallForm 0 (1 ∷ []) ∷ ExprStmtForm 2 ∷
      ScriptForm (3 ∷ []) ∷
      [];
  names = [];
}

abbrev right : Program
right = record {
  forms =
      NameForm (codes "print") ∷ NumberForm (pos 2) ∷ CallForm 0 (1 ∷ []) ∷ ExprStmtForm 2 ∷
      ScriptForm (3 ∷ []) ∷
      [];
  names = [];
}

abbrev policy : List Rule
policy = []

abbrev schedule : List Letter
schedule = []

abbrev told : List (List ℕ)
told =
    (codes "L 1") ∷
    (codes "R 2") ∷
    (codes "= done") ∷
    []

abbrev stage : Stage
stage = Story (left ∷ right ∷ []) policy schedule 1000000

pub Row : Type 0
Row = Shows false false stage told

pub row : Row
unfolding Row given Validate encode_utf8
row = (refl, refl)
