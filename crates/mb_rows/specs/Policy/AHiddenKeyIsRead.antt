use Rattle.std.specs.Prelude.{◌≡◌, refl, ℕ, List, [], ◌∷◌, true, false, None, codes, pos}
use Rattle.std.specs.Char.{encode_utf8}
use Rattle.mb_desc.specs.Validate.{Validate}
use Rattle.mb_world.specs.Form.{ScriptForm, ExprStmtForm, NameForm, NumberForm, TextForm, MemberForm, AssignForm, CallForm}
use Rattle.mb_world.specs.Graph.{Program, Rule, Hide}
use Rattle.mb_model.specs.Engine.{given}
use Rattle.mb_model.specs.Story.{Stage, Letter, Story}
use Rattle.mb_rows.specs.Shows.{Shows}

-- run --trace
-- left
--     desk.acc = labelled("Account");
--     desk.acc.balance = 5;
-- right
--     print(desk.acc.balance);
-- policy
--     version = 1
--
--     [[rule]]
--     kind = "hide"
--     label = "Account"
--     key = "balance"

abbrev left : Program
left = record {
  forms =
      NameForm (codes "desk") ∷ MemberForm 0 (codes "acc") ∷ NameForm (codes "labelled") ∷
      TextForm (codes "Account") ∷ CallForm 2 (3 ∷ []) ∷ AssignForm 1 4 ∷ ExprStmtForm 5 ∷
      NameForm (codes "desk") ∷ MemberForm 7 (codes "acc") ∷ MemberForm 8 (codes "balance") ∷
      NumberForm (pos 5) ∷ AssignForm 9 10 ∷ ExprStmtForm 11 ∷ ScriptForm (6 ∷ 12 ∷ []) ∷
      [];
  names = [];
}

abbrev right : Program
right = record {
  forms =
      NameForm (codes "print") ∷ NameForm (codes "desk") ∷ MemberForm 1 (codes "acc") ∷
      MemberForm 2 (codes "balance") ∷ CallForm 0 (3 ∷ []) ∷ ExprStmtForm 4 ∷ ScriptForm (5 ∷ []) ∷
      [];
  names = [];
}

abbrev policy : List Rule
policy =
    record { label = (codes "Account"); kind = Hide (codes "balance"); owner = None; viewer = None } ∷
    []

abbrev schedule : List Letter
schedule = []

abbrev told : List (List ℕ)
told =
    (codes "T 0 R #0 get \"acc\" - #1") ∷
    (codes "T 1 R #1 get \"balance\" - undefined") ∷
    (codes "R undefined") ∷
    (codes "= done") ∷
    []

abbrev stage : Stage
stage = Story (left ∷ right ∷ []) policy schedule 1000000

pub Row : Type 0
Row = Shows true false stage told × (stage.left ≡ 999965)

pub row : Row
unfolding Row given Validate encode_utf8
row = ((refl, refl), refl)
