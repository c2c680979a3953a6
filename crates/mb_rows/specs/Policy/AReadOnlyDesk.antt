use Rattle.std.specs.Prelude.{refl, ℕ, List, [], ◌∷◌, false, Some, None, codes, pos}
use Rattle.std.specs.Char.{encode_utf8}
use Rattle.mb_desc.specs.Validate.{Validate}
use Rattle.mb_world.specs.Form.{ScriptForm, LetForm, DeclForm, BlockForm, ExprStmtForm, TryForm, ParamForm, NameForm, NumberForm, TextForm, MemberForm, AssignForm, CallForm}
use Rattle.mb_world.specs.Graph.{Program, Rule, ReadOnly}
use Rattle.mb_model.specs.Engine.{given}
use Rattle.mb_model.specs.Story.{Stage, Letter, Story}
use Rattle.mb_rows.specs.Shows.{bound, Shows}

-- run
-- left
--     desk.x = 1;
-- right
--     try { desk.x = 2; } catch (e) { print("one"); }
--     let c = Object.create(desk);
--     try { c.y = 3; } catch (e) { print("two"); }
--     print(desk.x);
-- policy
--     version = 1
--
--     [[rule]]
--     kind = "read-only"
--     label = "desk"

abbrev left : Program
left = record {
  forms =
      NameForm (codes "desk") ∷ MemberForm 0 (codes "x") ∷ NumberForm (pos 1) ∷ AssignForm 1 2 ∷ ExprStmtForm 3 ∷
      ScriptForm (4 ∷ []) ∷
      [];
  names = [];
}

abbrev right : Program
right = record {
  forms =
      NameForm (codes "desk") ∷ MemberForm 0 (codes "x") ∷ NumberForm (pos 2) ∷ AssignForm 1 2 ∷ ExprStmtForm 3 ∷
      BlockForm (4 ∷ []) ∷ ParamForm (codes "e") ∷ NameForm (codes "print") ∷ TextForm (codes "one") ∷
      CallForm 7 (8 ∷ []) ∷ ExprStmtForm 9 ∷ BlockForm (10 ∷ []) ∷ TryForm 5 (Some (codes "e")) (Some 11) None ∷
      NameForm (codes "Object") ∷ MemberForm 13 (codes "create") ∷ NameForm (codes "desk") ∷
      CallForm 14 (15 ∷ []) ∷ DeclForm (codes "c") (Some 16) ∷ LetForm (17 ∷ []) ∷ NameForm (codes "c") ∷
      MemberForm 19 (codes "y") ∷ NumberForm (pos 3) ∷ AssignForm 20 21 ∷ ExprStmtForm 22 ∷ BlockForm (23 ∷ []) ∷
      ParamForm (codes "e") ∷ NameForm (codes "print") ∷ TextForm (codes "two") ∷ CallForm 26 (27 ∷ []) ∷
      ExprStmtForm 28 ∷ BlockForm (29 ∷ []) ∷ TryForm 24 (Some (codes "e")) (Some 30) None ∷
      NameForm (codes "print") ∷ NameForm (codes "desk") ∷ MemberForm 33 (codes "x") ∷ CallForm 32 (34 ∷ []) ∷
      ExprStmtForm 35 ∷ ScriptForm (12 ∷ 18 ∷ 31 ∷ 36 ∷ []) ∷
      [];
  names =
      bound 12 (codes "e") false ∷ bound 31 (codes "e") false ∷ bound 37 (codes "c") false ∷
      [];
}

abbrev policy : List Rule
policy =
    record { label = (codes "desk"); kind = ReadOnly; owner = None; viewer = None } ∷
    []

abbrev schedule : List Letter
schedule = []

abbrev told : List (List ℕ)
told =
    (codes "R one") ∷
    (codes "R two") ∷
    (codes "R 1") ∷
    (codes "= done") ∷
    []

abbrev stage : Stage
stage = Story (left ∷ right ∷ []) policy schedule 1000000

pub Row : Type 0
Row = Shows false false stage told

pub row : Row
unfolding Row given Validate encode_utf8
row = (refl, refl)
