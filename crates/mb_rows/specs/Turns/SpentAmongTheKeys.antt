use Rattle.std.specs.Prelude.{◌≡◌, refl, ℕ, List, [], ◌∷◌, false, codes, pos}
use Rattle.std.specs.Char.{encode_utf8}
use Rattle.mb_desc.specs.Validate.{Validate}
use Rattle.mb_world.specs.Form.{Written, ScriptForm, ExprStmtForm, NameForm, NumberForm, ObjectForm, ValueForm, MemberForm, CallForm}
use Rattle.mb_world.specs.Graph.{Program, Rule}
use Rattle.mb_model.specs.Engine.{given}
use Rattle.mb_model.specs.Story.{Stage, Letter, Story}
use Rattle.mb_rows.specs.Shows.{Shows}

-- run --budget 17
-- left
--     Reflect.ownKeys({ a: 1, b: 2, c: 3 });
-- right
--     (empty)

abbrev left : Program
left = record {
  forms =
      NameForm (codes "Reflect") ∷ MemberForm 0 (codes "ownKeys") ∷ NumberForm (pos 1) ∷
      ValueForm (Written (codes "a")) 2 ∷ NumberForm (pos 2) ∷ ValueForm (Written (codes "b")) 4 ∷
      NumberForm (pos 3) ∷ ValueForm (Written (codes "c")) 6 ∷ ObjectForm (3 ∷ 5 ∷ 7 ∷ []) ∷
      CallForm 1 (8 ∷ []) ∷ ExprStmtForm 9 ∷ ScriptForm (10 ∷ []) ∷
      [];
  names = [];
}

abbrev right : Program
right = record {
  forms =
      ScriptForm [] ∷
      [];
  names = [];
}

abbrev policy : List Rule
policy = []

abbrev schedule : List Letter
schedule = []

abbrev told : List (List ℕ)
told =
    (codes "= spent") ∷
    []

abbrev stage : Stage
stage = Story (left ∷ right ∷ []) policy schedule 17

pub Row : Type 0
Row = Shows false false stage told × (stage.left ≡ 0)

pub row : Row
unfolding Row given Validate encode_utf8
row = ((refl, refl), refl)
