use Rattle.std.specs.Prelude.{◌≡◌, refl, ℕ, List, [], ◌∷◌, true, false, Some, None, codes}
use Rattle.std.specs.Char.{encode_utf8}
use Rattle.mb_desc.specs.Validate.{Validate}
use Rattle.mb_world.specs.Form.{ScriptForm, FunctionDeclForm, BlockForm, ExprStmtForm, TryForm, ParamForm, NameForm, TextForm, ArrayForm, ObjectForm, ArrowForm, MemberForm, AssignForm, CallForm}
use Rattle.mb_world.specs.Graph.{Program, Rule}
use Rattle.mb_model.specs.Engine.{given}
use Rattle.mb_model.specs.Story.{Stage, Letter, Story}
use Rattle.mb_rows.specs.Shows.{bound, Shows}

-- run --trace
-- left
--     desk.keep = (e) => { print(e.message); };
-- right
--     function N() { }
--     try { Reflect.construct(TypeError, [{}], N); } catch (e) { desk.keep(e); }
--     desk.keep(Error("a"));

abbrev left : Program
left = record {
  forms =
      NameForm (codes "desk") ∷ MemberForm 0 (codes "keep") ∷ ParamForm (codes "e") ∷ NameForm (codes "print") ∷
      NameForm (codes "e") ∷ MemberForm 4 (codes "message") ∷ CallForm 3 (5 ∷ []) ∷ ExprStmtForm 6 ∷
      ArrowForm (record { params = (codes "e") ∷ []; body = (7 ∷ []) }) true ∷ AssignForm 1 8 ∷ ExprStmtForm 9 ∷
      ScriptForm (10 ∷ []) ∷
      [];
  names =
      bound 8 (codes "e") false ∷
      [];
}

abbrev right : Program
right = record {
  forms =
      FunctionDeclForm (codes "N") (record { params = []; body = [] }) ∷ NameForm (codes "Reflect") ∷
      MemberForm 1 (codes "construct") ∷ NameForm (codes "TypeError") ∷ ObjectForm [] ∷ ArrayForm (4 ∷ []) ∷
      NameForm (codes "N") ∷ CallForm 2 (3 ∷ 5 ∷ 6 ∷ []) ∷ ExprStmtForm 7 ∷ BlockForm (8 ∷ []) ∷
      ParamForm (codes "e") ∷ NameForm (codes "desk") ∷ MemberForm 11 (codes "keep") ∷ NameForm (codes "e") ∷
      CallForm 12 (13 ∷ []) ∷ ExprStmtForm 14 ∷ BlockForm (15 ∷ []) ∷
      TryForm 9 (Some (codes "e")) (Some 16) None ∷ NameForm (codes "desk") ∷ MemberForm 18 (codes "keep") ∷
      NameForm (codes "Error") ∷ TextForm (codes "a") ∷ CallForm 20 (21 ∷ []) ∷ CallForm 19 (22 ∷ []) ∷
      ExprStmtForm 23 ∷ ScriptForm (0 ∷ 17 ∷ 24 ∷ []) ∷
      [];
  names =
      bound 17 (codes "e") false ∷ bound 25 (codes "N") false ∷
      [];
}

abbrev policy : List Rule
policy = []

abbrev schedule : List Letter
schedule = []

abbrev told : List (List ℕ)
told =
    (codes "T 0 R #0 get \"keep\" - #1") ∷
    (codes "T 1 L #7 get \"message\" - \"\"") ∷
    (codes "L ") ∷
    (codes "T 1 R #1 apply - - undefined") ∷
    (codes "T 3 R #0 get \"keep\" - #1") ∷
    (codes "T 4 L #8 get \"message\" - \"a\"") ∷
    (codes "L a") ∷
    (codes "T 4 R #1 apply - - undefined") ∷
    (codes "= done") ∷
    []

abbrev stage : Stage
stage = Story (left ∷ right ∷ []) policy schedule 1000000

pub Row : Type 0
Row = Shows true false stage told × (stage.left ≡ 999929)

pub row : Row
unfolding Row given Validate encode_utf8
row = ((refl, refl), refl)
