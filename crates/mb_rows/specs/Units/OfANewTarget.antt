use Rattle.std.specs.Prelude.{◌≡◌, refl, ℕ, List, [], ◌∷◌, false, codes, pos}
use Rattle.std.specs.Char.{encode_utf8}
use Rattle.mb_desc.specs.Validate.{Validate}
use Rattle.mb_world.specs.Form.{ScriptForm, FunctionDeclForm, ExprStmtForm, NameForm, NumberForm, ArrayForm, MemberForm, CallForm}
use Rattle.mb_world.specs.Graph.{Program, Rule}
use Rattle.mb_model.specs.Engine.{given}
use Rattle.mb_model.specs.Story.{Stage, Letter, Story}
use Rattle.mb_rows.specs.Shows.{bound, Shows}

-- run
-- left
--     function N() { } Reflect.construct(TypeError, [5], N);
-- right
--     (empty)

abbrev left : Program
left = record {
  forms =
      FunctionDeclForm (codes "N") (record { params = []; body = [] }) ∷ NameForm (codes "Reflect") ∷
      MemberForm 1 (codes "construct") ∷ NameForm (codes "TypeError") ∷ NumberForm (pos 5) ∷ ArrayForm (4 ∷ []) ∷
      NameForm (codes "N") ∷ CallForm 2 (3 ∷ 5 ∷ 6 ∷ []) ∷ ExprStmtForm 7 ∷ ScriptForm (0 ∷ 8 ∷ []) ∷
      [];
  names =
      bound 9 (codes "N") false ∷
      [];
}

abbrev right : Program
right = record {
  forms =
      ScriptForm [] ∷
      [];
  names = [];
}

abbrev policy : List Rule
policy = []

abbrev schedule : List Letter
schedule = []

abbrev told : List (List ℕ)
told =
    (codes "= done") ∷
    []

abbrev stage : Stage
stage = Story (left ∷ right ∷ []) policy schedule 1000000

pub Row : Type 0
Row = Shows false false stage told × (stage.left ≡ 999981)

pub row : Row
unfolding Row given Validate encode_utf8
row = ((refl, refl), refl)
