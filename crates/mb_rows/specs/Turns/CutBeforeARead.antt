use Rattle.std.specs.Prelude.{refl, ℕ, List, [], ◌∷◌, false, Some, None, codes, pos}
use Rattle.std.specs.Char.{encode_utf8}
use Rattle.mb_desc.specs.Validate.{Validate}
use Rattle.mb_world.specs.Form.{ScriptForm, BlockForm, ExprStmtForm, TryForm, ParamForm, NameForm, NumberForm, TextForm, MemberForm, AssignForm, CallForm}
use Rattle.mb_world.specs.Graph.{Program, Rule}
use Rattle.mb_model.specs.Engine.{given}
use Rattle.mb_model.specs.Story.{Stage, Letter, Side, Cut, Story}
use Rattle.mb_rows.specs.Shows.{bound, Shows}

-- run --schedule LXR
-- left
--     desk.x = 1;
-- right
--     try { desk.x; } catch (e) { print("cut"); }

abbrev left : Program
left = record {
  forms =
      NameForm (codes "desk") ∷ MemberForm 0 (codes "x") ∷ NumberForm (pos 1) ∷ AssignForm 1 2 ∷ ExprStmtForm 3 ∷
      ScriptForm (4 ∷ []) ∷
      [];
  names = [];
}

abbrev right : Program
right = record {
  forms =
      NameForm (codes "desk") ∷ MemberForm 0 (codes "x") ∷ ExprStmtForm 1 ∷ BlockForm (2 ∷ []) ∷
      ParamForm (codes "e") ∷ NameForm (codes "print") ∷ TextForm (codes "cut") ∷ CallForm 5 (6 ∷ []) ∷
      ExprStmtForm 7 ∷ BlockForm (8 ∷ []) ∷ TryForm 3 (Some (codes "e")) (Some 9) None ∷ ScriptForm (10 ∷ []) ∷
      [];
  names =
      bound 10 (codes "e") false ∷
      [];
}

abbrev policy : List Rule
policy = []

abbrev schedule : List Letter
schedule =
    Side 0 ∷
    Cut ∷
    Side 1 ∷
    []

abbrev told : List (List ℕ)
told =
    (codes "R cut") ∷
    (codes "= done") ∷
    []

abbrev stage : Stage
stage = Story (left ∷ right ∷ []) policy schedule 1000000

pub Row : Type 0
Row = Shows false false stage told

pub row : Row
unfolding Row given Validate encode_utf8
row = (refl, refl)
