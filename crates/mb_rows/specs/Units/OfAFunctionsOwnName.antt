use Rattle.std.specs.Prelude.{◌≡◌, refl, ℕ, List, [], ◌∷◌, true, false, Some, None, codes}
use Rattle.std.specs.Char.{encode_utf8}
use Rattle.mb_desc.specs.Validate.{Validate}
use Rattle.mb_world.specs.Form.{ScriptForm, ExprStmtForm, FunctionForm, GroupForm}
use Rattle.mb_world.specs.Graph.{Program, Rule}
use Rattle.mb_model.specs.Engine.{given}
use Rattle.mb_model.specs.Story.{Stage, Letter, Story}
use Rattle.mb_rows.specs.Shows.{bound, Shows}

-- run
-- left
--     (function g() { }); (function () { });
-- right
--     (empty)

abbrev left : Program
left = record {
  forms =
      FunctionForm (Some (codes "g")) (record { params = []; body = [] }) ∷ GroupForm 0 ∷ ExprStmtForm 1 ∷
      FunctionForm None (record { params = []; body = [] }) ∷ GroupForm 3 ∷ ExprStmtForm 4 ∷
      ScriptForm (2 ∷ 5 ∷ []) ∷
      [];
  names =
      bound 0 (codes "g") true ∷
      [];
}

abbrev right : Program
right = record {
  forms =
      ScriptForm [] ∷
      [];
  names = [];
}

abbrev policy : List Rule
policy = []

abbrev schedule : List Letter
schedule = []

abbrev told : List (List ℕ)
told =
    (codes "= done") ∷
    []

abbrev stage : Stage
stage = Story (left ∷ right ∷ []) policy schedule 1000000

pub Row : Type 0
Row = Shows false false stage told × (stage.left ≡ 999993)

pub row : Row
unfolding Row given Validate encode_utf8
row = ((refl, refl), refl)
