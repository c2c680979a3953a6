use Rattle.std.specs.Prelude.{◌≡◌, refl, ℕ, List, [], ◌∷◌, false, codes, pos}
use Rattle.std.specs.Char.{encode_utf8}
use Rattle.mb_desc.specs.Validate.{Validate}
use Rattle.mb_world.specs.Form.{Written, ScriptForm, ExprStmtForm, NameForm, NumberForm, ObjectForm, ValueForm, MemberForm, CallForm}
use Rattle.mb_world.specs.Graph.{Program, Rule}
use Rattle.mb_model.specs.Engine.{given}
use Rattle.mb_model.specs.Story.{Stage, Letter, Story}
use Rattle.mb_rows.specs.Shows.{Shows}

-- run
-- left
--     Reflect.ownKeys({ a: 1, b: 2 });
-- right
--     (empty)

abbrev left : Program
left = record {
  forms =
      NameForm (codes "Reflect") ∷ MemberForm 0 (codes "ownKeys") ∷ NumberForm (pos 1) ∷
      ValueForm (Written (codes "a")) 2 ∷ NumberForm (pos 2) ∷ ValueForm (Written (codes "b")) 4 ∷
      ObjectForm (3 ∷ 5 ∷ []) ∷ CallForm 1 (6 ∷ []) ∷ ExprStmtForm 7 ∷ ScriptForm (8 ∷ []) ∷
      [];
  names = [];
}

abbrev right : Program
right = record {
  forms =
      ScriptForm [] ∷
      [];
  names = [];
}

abbrev policy : List Rule
policy = []

abbrev schedule : List Letter
schedule = []

abbrev told : List (List ℕ)
told =
    (codes "= done") ∷
    []

abbrev stage : Stage
stage = Story (left ∷ right ∷ []) policy schedule 1000000

pub Row : Type 0
Row = Shows false false stage told × (stage.left ≡ 999983)

pub row : Row
unfolding Row given Validate encode_utf8
row = ((refl, refl), refl)
