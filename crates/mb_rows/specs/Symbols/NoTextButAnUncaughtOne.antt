use Rattle.std.specs.Prelude.{refl, ℕ, List, [], ◌∷◌, false, codes}
use Rattle.std.specs.Char.{encode_utf8}
use Rattle.mb_desc.specs.Validate.{Validate}
use Rattle.mb_world.specs.Form.{ScriptForm, ExprStmtForm, ThrowForm, NameForm, TextForm, CallForm}
use Rattle.mb_world.specs.Graph.{Program, Rule}
use Rattle.mb_model.specs.Engine.{given}
use Rattle.mb_model.specs.Story.{Stage, Letter, Story}
use Rattle.mb_rows.specs.Shows.{Shows}

-- run
-- left
--     print(Symbol());
-- right
--     throw Symbol("z");

abbrev left : Program
left = record {
  forms =
      NameForm (codes "print") ∷ NameForm (codes "Symbol") ∷ CallForm 1 [] ∷ CallForm 0 (2 ∷ []) ∷
      ExprStmtForm 3 ∷ ScriptForm (4 ∷ []) ∷
      [];
  names = [];
}

abbrev right : Program
right = record {
  forms =
      NameForm (codes "Symbol") ∷ TextForm (codes "z") ∷ CallForm 0 (1 ∷ []) ∷ ThrowForm 2 ∷
      ScriptForm (3 ∷ []) ∷
      [];
  names = [];
}

abbrev policy : List Rule
policy = []

abbrev schedule : List Letter
schedule = []

abbrev told : List (List ℕ)
told =
    (codes "L! TypeError") ∷
    (codes "R! value Symbol(z)") ∷
    (codes "= uncaught") ∷
    []

abbrev stage : Stage
stage = Story (left ∷ right ∷ []) policy schedule 1000000

pub Row : Type 0
Row = Shows false false stage told

pub row : Row
unfolding Row given Validate encode_utf8
row = (refl, refl)
