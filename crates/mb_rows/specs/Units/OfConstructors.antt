use Rattle.std.specs.Prelude.{◌≡◌, refl, ℕ, List, [], ◌∷◌, false, codes, pos}
use Rattle.std.specs.Char.{encode_utf8}
use Rattle.mb_desc.specs.Validate.{Validate}
use Rattle.mb_world.specs.Form.{ScriptForm, ExprStmtForm, NameForm, NumberForm, TextForm, CallForm, NewForm}
use Rattle.mb_world.specs.Graph.{Program, Rule}
use Rattle.mb_model.specs.Engine.{given}
use Rattle.mb_model.specs.Story.{Stage, Letter, Story}
use Rattle.mb_rows.specs.Shows.{Shows}

-- run
-- left
--     new Array(2); new Object(); new Error("a"); Error("a"); Array(2);
-- right
--     (empty)

abbrev left : Program
left = record {
  forms =
      NameForm (codes "Array") ∷ NumberForm (pos 2) ∷ NewForm 0 (1 ∷ []) ∷ ExprStmtForm 2 ∷
      NameForm (codes "Object") ∷ NewForm 4 [] ∷ ExprStmtForm 5 ∷ NameForm (codes "Error") ∷
      TextForm (codes "a") ∷ NewForm 7 (8 ∷ []) ∷ ExprStmtForm 9 ∷ NameForm (codes "Error") ∷
      TextForm (codes "a") ∷ CallForm 11 (12 ∷ []) ∷ ExprStmtForm 13 ∷ NameForm (codes "Array") ∷
      NumberForm (pos 2) ∷ CallForm 15 (16 ∷ []) ∷ ExprStmtForm 17 ∷ ScriptForm (3 ∷ 6 ∷ 10 ∷ 14 ∷ 18 ∷ []) ∷
      [];
  names = [];
}

abbrev right : Program
right = record {
  forms =
      ScriptForm [] ∷
      [];
  names = [];
}

abbrev policy : List Rule
policy = []

abbrev schedule : List Letter
schedule = []

abbrev told : List (List ℕ)
told =
    (codes "= done") ∷
    []

abbrev stage : Stage
stage = Story (left ∷ right ∷ []) policy schedule 1000000

pub Row : Type 0
Row = Shows false false stage told × (stage.left ≡ 999971)

pub row : Row
unfolding Row given Validate encode_utf8
row = ((refl, refl), refl)
