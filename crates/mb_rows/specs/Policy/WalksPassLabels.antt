use Rattle.std.specs.Prelude.{refl, ℕ, List, [], ◌∷◌, false, Some, None, codes}
use Rattle.std.specs.Char.{encode_utf8}
use Rattle.mb_desc.specs.Validate.{Validate}
use Rattle.mb_world.specs.Value.{Null}
use Rattle.mb_world.specs.Form.{ScriptForm, LetForm, DeclForm, FunctionDeclForm, ExprStmtForm, ReturnForm, ParamForm, ThisForm, NameForm, TextForm, LiteralForm, ObjectForm, ArrowForm, MemberForm, AssignForm, CallForm}
use Rattle.mb_world.specs.Graph.{Program, Rule, Revoke}
use Rattle.mb_model.specs.Engine.{given}
use Rattle.mb_model.specs.Story.{Stage, Letter, Story}
use Rattle.mb_rows.specs.Shows.{bound, Shows}

-- run
-- left
--     desk.a = {}; desk.c = () => Reflect.setPrototypeOf(desk.a, desk.b);
-- right
--     function Pin(a) { return Reflect.setPrototypeOf(this, a); } Pin.prototype = null; let x = labelled("Pin"); Reflect.setPrototypeOf(x, desk.a); desk.b = x; print(desk.c());
-- policy
--     version = 1
--     [[rule]]
--     label = "Pin"
--     kind = "revoke"

abbrev left : Program
left = record {
  forms =
      NameForm (codes "desk") ∷ MemberForm 0 (codes "a") ∷ ObjectForm [] ∷ AssignForm 1 2 ∷ ExprStmtForm 3 ∷
      NameForm (codes "desk") ∷ MemberForm 5 (codes "c") ∷ NameForm (codes "Reflect") ∷
      MemberForm 7 (codes "setPrototypeOf") ∷ NameForm (codes "desk") ∷ MemberForm 9 (codes "a") ∷
      NameForm (codes "desk") ∷ MemberForm 11 (codes "b") ∷ CallForm 8 (10 ∷ 12 ∷ []) ∷
      ArrowForm (record { params = []; body = (13 ∷ []) }) false ∷ AssignForm 6 14 ∷ ExprStmtForm 15 ∷
      ScriptForm (4 ∷ 16 ∷ []) ∷
      [];
  names = [];
}

abbrev right : Program
right = record {
  forms =
      ParamForm (codes "a") ∷ NameForm (codes "Reflect") ∷ MemberForm 1 (codes "setPrototypeOf") ∷ ThisForm ∷
      NameForm (codes "a") ∷ CallForm 2 (3 ∷ 4 ∷ []) ∷ ReturnForm (Some 5) ∷
      FunctionDeclForm (codes "Pin") (record { params = (codes "a") ∷ []; body = (6 ∷ []) }) ∷
      NameForm (codes "Pin") ∷ MemberForm 8 (codes "prototype") ∷ LiteralForm (Null) ∷ AssignForm 9 10 ∷
      ExprStmtForm 11 ∷ NameForm (codes "labelled") ∷ TextForm (codes "Pin") ∷ CallForm 13 (14 ∷ []) ∷
      DeclForm (codes "x") (Some 15) ∷ LetForm (16 ∷ []) ∷ NameForm (codes "Reflect") ∷
      MemberForm 18 (codes "setPrototypeOf") ∷ NameForm (codes "x") ∷ NameForm (codes "desk") ∷
      MemberForm 21 (codes "a") ∷ CallForm 19 (20 ∷ 22 ∷ []) ∷ ExprStmtForm 23 ∷ NameForm (codes "desk") ∷
      MemberForm 25 (codes "b") ∷ NameForm (codes "x") ∷ AssignForm 26 27 ∷ ExprStmtForm 28 ∷
      NameForm (codes "print") ∷ NameForm (codes "desk") ∷ MemberForm 31 (codes "c") ∷ CallForm 32 [] ∷
      CallForm 30 (33 ∷ []) ∷ ExprStmtForm 34 ∷ ScriptForm (7 ∷ 12 ∷ 17 ∷ 24 ∷ 29 ∷ 35 ∷ []) ∷
      [];
  names =
      bound 7 (codes "a") false ∷ bound 36 (codes "Pin") false ∷ bound 36 (codes "x") false ∷
      [];
}

abbrev policy : List Rule
policy =
    record { label = (codes "Pin"); kind = Revoke; owner = None; viewer = None } ∷
    []

abbrev schedule : List Letter
schedule = []

abbrev told : List (List ℕ)
told =
    (codes "R false") ∷
    (codes "= done") ∷
    []

abbrev stage : Stage
stage = Story (left ∷ right ∷ []) policy schedule 1000000

pub Row : Type 0
Row = Shows false false stage told

pub row : Row
unfolding Row given Validate encode_utf8
row = (refl, refl)
