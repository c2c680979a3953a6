use Rattle.std.specs.Prelude.{refl, ℕ, List, [], ◌∷◌, false, codes}
use Rattle.std.specs.Char.{encode_utf8}
use Rattle.mb_desc.specs.Validate.{Validate}
use Rattle.mb_world.specs.Form.{ScriptForm, ExprStmtForm, NameForm, ObjectForm, ArrowForm, MemberForm, AssignForm, CallForm}
use Rattle.mb_world.specs.Graph.{Program, Rule}
use Rattle.mb_model.specs.Engine.{given}
use Rattle.mb_model.specs.Story.{Stage, Letter, Story}
use Rattle.mb_rows.specs.Shows.{Shows}

-- run
-- left
--     desk.a = {};
--     later(() => print(Reflect.setPrototypeOf(desk.a, desk.b)));
-- right
--     desk.b = Object.create(desk.a);

abbrev left : Program
left = record {
  forms =
      NameForm (codes "desk") ∷ MemberForm 0 (codes "a") ∷ ObjectForm [] ∷ AssignForm 1 2 ∷ ExprStmtForm 3 ∷
      NameForm (codes "later") ∷ NameForm (codes "print") ∷ NameForm (codes "Reflect") ∷
      MemberForm 7 (codes "setPrototypeOf") ∷ NameForm (codes "desk") ∷ MemberForm 9 (codes "a") ∷
      NameForm (codes "desk") ∷ MemberForm 11 (codes "b") ∷ CallForm 8 (10 ∷ 12 ∷ []) ∷ CallForm 6 (13 ∷ []) ∷
      ArrowForm (record { params = []; body = (14 ∷ []) }) false ∷ CallForm 5 (15 ∷ []) ∷ ExprStmtForm 16 ∷
      ScriptForm (4 ∷ 17 ∷ []) ∷
      [];
  names = [];
}

abbrev right : Program
right = record {
  forms =
      NameForm (codes "desk") ∷ MemberForm 0 (codes "b") ∷ NameForm (codes "Object") ∷
      MemberForm 2 (codes "create") ∷ NameForm (codes "desk") ∷ MemberForm 4 (codes "a") ∷ CallForm 3 (5 ∷ []) ∷
      AssignForm 1 6 ∷ ExprStmtForm 7 ∷ ScriptForm (8 ∷ []) ∷
      [];
  names = [];
}

abbrev policy : List Rule
policy = []

abbrev schedule : List Letter
schedule = []

abbrev told : List (List ℕ)
told =
    (codes "L false") ∷
    (codes "= done") ∷
    []

abbrev stage : Stage
stage = Story (left ∷ right ∷ []) policy schedule 1000000

pub Row : Type 0
Row = Shows false false stage told

pub row : Row
unfolding Row given Validate encode_utf8
row = (refl, refl)
