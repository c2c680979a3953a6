use Rattle.std.specs.Prelude.{refl, ℕ, List, [], ◌∷◌, true, false, codes}
use Rattle.std.specs.Char.{encode_utf8}
use Rattle.mb_desc.specs.Validate.{Validate}
use Rattle.mb_world.specs.Form.{ScriptForm, ExprStmtForm, ThrowForm, ParamForm, NameForm, TextForm, ArrowForm, MemberForm, AssignForm, CallForm}
use Rattle.mb_world.specs.Graph.{Program, Rule}
use Rattle.mb_model.specs.Engine.{given}
use Rattle.mb_model.specs.Story.{Stage, Letter, Story}
use Rattle.mb_rows.specs.Shows.{bound, Shows}

-- run --trace
-- left
--     desk.l = (f) => { later(f); later(() => { throw f; }); };
-- right
--     desk.l(() => print("in")); later(() => print("own")); later(desk.l);

abbrev left : Program
left = record {
  forms =
      NameForm (codes "desk") ∷ MemberForm 0 (codes "l") ∷ ParamForm (codes "f") ∷ NameForm (codes "later") ∷
      NameForm (codes "f") ∷ CallForm 3 (4 ∷ []) ∷ ExprStmtForm 5 ∷ NameForm (codes "later") ∷
      NameForm (codes "f") ∷ ThrowForm 8 ∷ ArrowForm (record { params = []; body = (9 ∷ []) }) true ∷
      CallForm 7 (10 ∷ []) ∷ ExprStmtForm 11 ∷
      ArrowForm (record { params = (codes "f") ∷ []; body = (6 ∷ 12 ∷ []) }) true ∷ AssignForm 1 13 ∷
      ExprStmtForm 14 ∷ ScriptForm (15 ∷ []) ∷
      [];
  names =
      bound 13 (codes "f") false ∷
      [];
}

abbrev right : Program
right = record {
  forms =
      NameForm (codes "desk") ∷ MemberForm 0 (codes "l") ∷ NameForm (codes "print") ∷ TextForm (codes "in") ∷
      CallForm 2 (3 ∷ []) ∷ ArrowForm (record { params = []; body = (4 ∷ []) }) false ∷ CallForm 1 (5 ∷ []) ∷
      ExprStmtForm 6 ∷ NameForm (codes "later") ∷ NameForm (codes "print") ∷ TextForm (codes "own") ∷
      CallForm 9 (10 ∷ []) ∷ ArrowForm (record { params = []; body = (11 ∷ []) }) false ∷ CallForm 8 (12 ∷ []) ∷
      ExprStmtForm 13 ∷ NameForm (codes "later") ∷ NameForm (codes "desk") ∷ MemberForm 16 (codes "l") ∷
      CallForm 15 (17 ∷ []) ∷ ExprStmtForm 18 ∷ ScriptForm (7 ∷ 14 ∷ 19 ∷ []) ∷
      [];
  names = [];
}

abbrev policy : List Rule
policy = []

abbrev schedule : List Letter
schedule = []

abbrev told : List (List ℕ)
told =
    (codes "T 0 R #0 get \"l\" - #1") ∷
    (codes "T 1 R #1 apply - - undefined") ∷
    (codes "T 2 R #0 get \"l\" - #1") ∷
    (codes "R in") ∷
    (codes "T 3 L #2 apply - - undefined") ∷
    (codes "R own") ∷
    (codes "L! object") ∷
    (codes "T 4 R #1 apply - - throw #5") ∷
    (codes "R! TypeError") ∷
    (codes "= uncaught") ∷
    []

abbrev stage : Stage
stage = Story (left ∷ right ∷ []) policy schedule 1000000

pub Row : Type 0
Row = Shows true false stage told

pub row : Row
unfolding Row given Validate encode_utf8
row = (refl, refl)
