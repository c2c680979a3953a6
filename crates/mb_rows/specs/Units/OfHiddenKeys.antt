use Rattle.std.specs.Prelude.{◌≡◌, refl, ℕ, List, [], ◌∷◌, false, None, codes, pos}
use Rattle.std.specs.Char.{encode_utf8}
use Rattle.mb_desc.specs.Validate.{Validate}
use Rattle.mb_world.specs.Form.{ScriptForm, ExprStmtForm, NameForm, NumberForm, TextForm, MemberForm, AssignForm, CallForm}
use Rattle.mb_world.specs.Graph.{Program, Rule, Hide}
use Rattle.mb_model.specs.Engine.{given}
use Rattle.mb_model.specs.Story.{Stage, Letter, Story}
use Rattle.mb_rows.specs.Shows.{Shows}

-- run
-- left
--     desk.h = labelled("H"); desk.h.k = 1; desk.h.z = 2;
-- right
--     Reflect.ownKeys(desk.h);
-- policy
--     version = 1
--     [[rule]]
--     label = "H"
--     kind = "hide"
--     key = "k"

abbrev left : Program
left = record {
  forms =
      NameForm (codes "desk") ∷ MemberForm 0 (codes "h") ∷ NameForm (codes "labelled") ∷ TextForm (codes "H") ∷
      CallForm 2 (3 ∷ []) ∷ AssignForm 1 4 ∷ ExprStmtForm 5 ∷ NameForm (codes "desk") ∷
      MemberForm 7 (codes "h") ∷ MemberForm 8 (codes "k") ∷ NumberForm (pos 1) ∷ AssignForm 9 10 ∷
      ExprStmtForm 11 ∷ NameForm (codes "desk") ∷ MemberForm 13 (codes "h") ∷ MemberForm 14 (codes "z") ∷
      NumberForm (pos 2) ∷ AssignForm 15 16 ∷ ExprStmtForm 17 ∷ ScriptForm (6 ∷ 12 ∷ 18 ∷ []) ∷
      [];
  names = [];
}

abbrev right : Program
right = record {
  forms =
      NameForm (codes "Reflect") ∷ MemberForm 0 (codes "ownKeys") ∷ NameForm (codes "desk") ∷
      MemberForm 2 (codes "h") ∷ CallForm 1 (3 ∷ []) ∷ ExprStmtForm 4 ∷ ScriptForm (5 ∷ []) ∷
      [];
  names = [];
}

abbrev policy : List Rule
policy =
    record { label = (codes "H"); kind = Hide (codes "k"); owner = None; viewer = None } ∷
    []

abbrev schedule : List Letter
schedule = []

abbrev told : List (List ℕ)
told =
    (codes "= done") ∷
    []

abbrev stage : Stage
stage = Story (left ∷ right ∷ []) policy schedule 1000000

pub Row : Type 0
Row = Shows false false stage told × (stage.left ≡ 999952)

pub row : Row
unfolding Row given Validate encode_utf8
row = ((refl, refl), refl)
