use Rattle.std.specs.Prelude.{refl, ℕ, List, [], ◌∷◌, ◌++◌, true, false, codes, pos}
use Rattle.std.specs.Char.{encode_utf8}
use Rattle.mb_desc.specs.Validate.{Validate}
use Rattle.mb_world.specs.Form.{ScriptForm, ExprStmtForm, NameForm, NumberForm, IndexForm, AssignForm, CallForm}
use Rattle.mb_world.specs.Graph.{Program, Rule}
use Rattle.mb_model.specs.Engine.{given}
use Rattle.mb_model.specs.Story.{Stage, Letter, Story}
use Rattle.mb_rows.specs.Shows.{Shows}

-- run --trace
-- left
--     (empty)
-- right
--     desk[Symbol()] = 1;

abbrev left : Program
left = record {
  forms =
      ScriptForm [] ∷
      [];
  names = [];
}

abbrev right : Program
right = record {
  forms =
      NameForm (codes "desk") ∷ NameForm (codes "Symbol") ∷ CallForm 1 [] ∷ IndexForm 0 2 ∷ NumberForm (pos 1) ∷
      AssignForm 3 4 ∷ ExprStmtForm 5 ∷ ScriptForm (6 ∷ []) ∷
      [];
  names = [];
}

abbrev policy : List Rule
policy = []

abbrev schedule : List Letter
schedule = []

abbrev told : List (List ℕ)
told =
    (codes "T 0 R #0 getOwnPropertyDescriptor @@0 - none") ∷
    (codes "T 1 R #0 defineProperty @@0 {value=1,writable=true,enumerable=true,configurable=" ++ codes "true} true") ∷
    (codes "T 0 R #0 set @@0 1 true") ∷
    (codes "= done") ∷
    []

abbrev stage : Stage
stage = Story (left ∷ right ∷ []) policy schedule 1000000

pub Row : Type 0
Row = Shows true false stage told

pub row : Row
unfolding Row given Validate encode_utf8
row = (refl, refl)
