use Rattle.std.specs.Prelude.{refl, ℕ, List, [], ◌∷◌, false, codes, pos}
use Rattle.std.specs.Char.{encode_utf8}
use Rattle.mb_desc.specs.Validate.{Validate}
use Rattle.mb_world.specs.Form.{ScriptForm, ExprStmtForm, NameForm, NumberForm, ArrowForm, MemberForm, AssignForm, CallForm}
use Rattle.mb_world.specs.Graph.{Program, Rule}
use Rattle.mb_model.specs.Engine.{given}
use Rattle.mb_model.specs.Story.{Stage, Letter, Side, Cut, Story}
use Rattle.mb_rows.specs.Shows.{Shows}

-- run --schedule LRX
-- left
--     later(() => print(desk.f()));
-- right
--     desk.f = () => 1;

abbrev left : Program
left = record {
  forms =
      NameForm (codes "later") ∷ NameForm (codes "print") ∷ NameForm (codes "desk") ∷ MemberForm 2 (codes "f") ∷
      CallForm 3 [] ∷ CallForm 1 (4 ∷ []) ∷ ArrowForm (record { params = []; body = (5 ∷ []) }) false ∷
      CallForm 0 (6 ∷ []) ∷ ExprStmtForm 7 ∷ ScriptForm (8 ∷ []) ∷
      [];
  names = [];
}

abbrev right : Program
right = record {
  forms =
      NameForm (codes "desk") ∷ MemberForm 0 (codes "f") ∷ NumberForm (pos 1) ∷
      ArrowForm (record { params = []; body = (2 ∷ []) }) false ∷ AssignForm 1 3 ∷ ExprStmtForm 4 ∷
      ScriptForm (5 ∷ []) ∷
      [];
  names = [];
}

abbrev policy : List Rule
policy = []

abbrev schedule : List Letter
schedule =
    Side 0 ∷
    Side 1 ∷
    Cut ∷
    []

abbrev told : List (List ℕ)
told =
    (codes "L! TypeError") ∷
    (codes "= uncaught") ∷
    []

abbrev stage : Stage
stage = Story (left ∷ right ∷ []) policy schedule 1000000

pub Row : Type 0
Row = Shows false false stage told

pub row : Row
unfolding Row given Validate encode_utf8
row = (refl, refl)
