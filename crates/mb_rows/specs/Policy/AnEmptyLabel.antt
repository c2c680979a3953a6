use Rattle.std.specs.Prelude.{◌≡◌, refl, ℕ, List, [], ◌∷◌, false, None, codes, pos}
use Rattle.std.specs.Char.{encode_utf8}
use Rattle.mb_desc.specs.Validate.{Validate}
use Rattle.mb_world.specs.Form.{Written, ScriptForm, ExprStmtForm, NameForm, NumberForm, TextForm, ObjectForm, ValueForm, MemberForm, AssignForm, CallForm}
use Rattle.mb_world.specs.Graph.{Program, Rule, Hide}
use Rattle.mb_model.specs.Engine.{given}
use Rattle.mb_model.specs.Story.{Stage, Letter, Story}
use Rattle.mb_rows.specs.Shows.{Shows}

-- run
-- left
--     desk.o = labelled(""); desk.o.k = 1; desk.p = { k: 2 };
-- right
--     print(desk.o.k, desk.p.k);
-- policy
--     version = 1
--     [[rule]]
--     label = ""
--     kind = "hide"
--     key = "k"

abbrev left : Program
left = record {
  forms =
      NameForm (codes "desk") ∷ MemberForm 0 (codes "o") ∷ NameForm (codes "labelled") ∷ TextForm [] ∷
      CallForm 2 (3 ∷ []) ∷ AssignForm 1 4 ∷ ExprStmtForm 5 ∷ NameForm (codes "desk") ∷
      MemberForm 7 (codes "o") ∷ MemberForm 8 (codes "k") ∷ NumberForm (pos 1) ∷ AssignForm 9 10 ∷
      ExprStmtForm 11 ∷ NameForm (codes "desk") ∷ MemberForm 13 (codes "p") ∷ NumberForm (pos 2) ∷
      ValueForm (Written (codes "k")) 15 ∷ ObjectForm (16 ∷ []) ∷ AssignForm 14 17 ∷ ExprStmtForm 18 ∷
      ScriptForm (6 ∷ 12 ∷ 19 ∷ []) ∷
      [];
  names = [];
}

abbrev right : Program
right = record {
  forms =
      NameForm (codes "print") ∷ NameForm (codes "desk") ∷ MemberForm 1 (codes "o") ∷ MemberForm 2 (codes "k") ∷
      NameForm (codes "desk") ∷ MemberForm 4 (codes "p") ∷ MemberForm 5 (codes "k") ∷ CallForm 0 (3 ∷ 6 ∷ []) ∷
      ExprStmtForm 7 ∷ ScriptForm (8 ∷ []) ∷
      [];
  names = [];
}

abbrev policy : List Rule
policy =
    record { label = []; kind = Hide (codes "k"); owner = None; viewer = None } ∷
    []

abbrev schedule : List Letter
schedule = []

abbrev told : List (List ℕ)
told =
    (codes "R undefined 2") ∷
    (codes "= done") ∷
    []

abbrev stage : Stage
stage = Story (left ∷ right ∷ []) policy schedule 1000000

pub Row : Type 0
Row = Shows false false stage told × (stage.left ≡ 999949)

pub row : Row
unfolding Row given Validate encode_utf8
row = ((refl, refl), refl)
