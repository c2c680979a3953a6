use Rattle.std.specs.Prelude.{refl, ℕ, List, [], ◌∷◌, true, false, Some, codes, pos}
use Rattle.std.specs.Char.{encode_utf8}
use Rattle.mb_desc.specs.Validate.{Validate}
use Rattle.mb_world.specs.Form.{ScriptForm, ExprStmtForm, NameForm, NumberForm, MemberForm, AssignForm, CallForm}
use Rattle.mb_world.specs.Graph.{Program, Rule, Hide}
use Rattle.mb_model.specs.Engine.{given}
use Rattle.mb_model.specs.Story.{Stage, Letter, Story}
use Rattle.mb_rows.specs.Shows.{Shows}

-- sides
-- side_a
--     desk.x = 1;
-- side_b
--     print(desk.x);
-- side_c
--     print(desk.x);
-- policy
--     version = 2
--
--     [[rule]]
--     kind = "hide"
--     label = "desk"
--     key = "x"
--     owner = "A"
--     viewer = "C"

abbrev side_a : Program
side_a = record {
  forms =
      NameForm (codes "desk") ∷ MemberForm 0 (codes "x") ∷ NumberForm (pos 1) ∷ AssignForm 1 2 ∷ ExprStmtForm 3 ∷
      ScriptForm (4 ∷ []) ∷
      [];
  names = [];
}

abbrev side_b : Program
side_b = record {
  forms =
      NameForm (codes "print") ∷ NameForm (codes "desk") ∷ MemberForm 1 (codes "x") ∷ CallForm 0 (2 ∷ []) ∷
      ExprStmtForm 3 ∷ ScriptForm (4 ∷ []) ∷
      [];
  names = [];
}

abbrev side_c : Program
side_c = record {
  forms =
      NameForm (codes "print") ∷ NameForm (codes "desk") ∷ MemberForm 1 (codes "x") ∷ CallForm 0 (2 ∷ []) ∷
      ExprStmtForm 3 ∷ ScriptForm (4 ∷ []) ∷
      [];
  names = [];
}

abbrev policy : List Rule
policy =
    record { label = (codes "desk"); kind = Hide (codes "x"); owner = (Some 0); viewer = (Some 2) } ∷
    []

abbrev schedule : List Letter
schedule = []

abbrev told : List (List ℕ)
told =
    (codes "B 1") ∷
    (codes "C undefined") ∷
    (codes "= done") ∷
    []

abbrev stage : Stage
stage = Story (side_a ∷ side_b ∷ side_c ∷ []) policy schedule 1000000

pub Row : Type 0
Row = Shows false true stage told

pub row : Row
unfolding Row given Validate encode_utf8
row = (refl, refl)
