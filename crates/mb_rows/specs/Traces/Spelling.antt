use Rattle.std.specs.Prelude.{refl, ℕ, List, [], ◌∷◌, true, false, codes}
use Rattle.std.specs.Char.{encode_utf8}
use Rattle.mb_desc.specs.Validate.{Validate}
use Rattle.mb_world.specs.Form.{ScriptForm, ExprStmtForm, NameForm, TextForm, IndexForm, AssignForm, CallForm}
use Rattle.mb_world.specs.Graph.{Program, Rule}
use Rattle.mb_model.specs.Engine.{given}
use Rattle.mb_model.specs.Story.{Stage, Letter, Story}
use Rattle.mb_rows.specs.Shows.{Shows}

-- run --trace
-- left
--     desk["a\"b\n\ud83d"] = "\"\\\u007f";
-- right
--     print(desk["a\"b\n\ud83d"]);

abbrev left : Program
left = record {
  forms =
      NameForm (codes "desk") ∷ TextForm (97 ∷ 34 ∷ 98 ∷ 10 ∷ 55357 ∷ []) ∷ IndexForm 0 1 ∷
      TextForm (34 ∷ 92 ∷ 127 ∷ []) ∷ AssignForm 2 3 ∷ ExprStmtForm 4 ∷ ScriptForm (5 ∷ []) ∷
      [];
  names = [];
}

abbrev right : Program
right = record {
  forms =
      NameForm (codes "print") ∷ NameForm (codes "desk") ∷ TextForm (97 ∷ 34 ∷ 98 ∷ 10 ∷ 55357 ∷ []) ∷
      IndexForm 1 2 ∷ CallForm 0 (3 ∷ []) ∷ ExprStmtForm 4 ∷ ScriptForm (5 ∷ []) ∷
      [];
  names = [];
}

abbrev policy : List Rule
policy = []

abbrev schedule : List Letter
schedule = []

abbrev told : List (List ℕ)
told =
    (codes "T 0 R #0 get \"a\\\"b\\n\\ud83d\" - \"\\\"\\\\\\u007f\"") ∷
    (codes "R \"\\\\\\u007f") ∷
    (codes "= done") ∷
    []

abbrev stage : Stage
stage = Story (left ∷ right ∷ []) policy schedule 1000000

pub Row : Type 0
Row = Shows true false stage told

pub row : Row
unfolding Row given Validate encode_utf8
row = (refl, refl)
