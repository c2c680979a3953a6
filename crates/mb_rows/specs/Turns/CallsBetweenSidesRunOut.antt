use Rattle.std.specs.Prelude.{refl, ℕ, List, [], ◌∷◌, false, codes}
use Rattle.std.specs.Char.{encode_utf8}
use Rattle.mb_desc.specs.Validate.{Validate}
use Rattle.mb_world.specs.Form.{ScriptForm, ExprStmtForm, NameForm, ArrowForm, MemberForm, AssignForm, CallForm}
use Rattle.mb_world.specs.Graph.{Program, Rule}
use Rattle.mb_model.specs.Engine.{given}
use Rattle.mb_model.specs.Story.{Stage, Letter, Story}
use Rattle.mb_rows.specs.Shows.{Shows}

-- run --budget 400
-- left
--     desk.f = () => desk.g();
-- right
--     desk.g = () => desk.f();
--     desk.f();

abbrev left : Program
left = record {
  forms =
      NameForm (codes "desk") ∷ MemberForm 0 (codes "f") ∷ NameForm (codes "desk") ∷ MemberForm 2 (codes "g") ∷
      CallForm 3 [] ∷ ArrowForm (record { params = []; body = (4 ∷ []) }) false ∷ AssignForm 1 5 ∷
      ExprStmtForm 6 ∷ ScriptForm (7 ∷ []) ∷
      [];
  names = [];
}

abbrev right : Program
right = record {
  forms =
      NameForm (codes "desk") ∷ MemberForm 0 (codes "g") ∷ NameForm (codes "desk") ∷ MemberForm 2 (codes "f") ∷
      CallForm 3 [] ∷ ArrowForm (record { params = []; body = (4 ∷ []) }) false ∷ AssignForm 1 5 ∷
      ExprStmtForm 6 ∷ NameForm (codes "desk") ∷ MemberForm 8 (codes "f") ∷ CallForm 9 [] ∷ ExprStmtForm 10 ∷
      ScriptForm (7 ∷ 11 ∷ []) ∷
      [];
  names = [];
}

abbrev policy : List Rule
policy = []

abbrev schedule : List Letter
schedule = []

abbrev told : List (List ℕ)
told =
    (codes "= spent") ∷
    []

abbrev stage : Stage
stage = Story (left ∷ right ∷ []) policy schedule 400

pub Row : Type 0
Row = Shows false false stage told

pub row : Row
unfolding Row given Validate encode_utf8
row = (refl, refl)
