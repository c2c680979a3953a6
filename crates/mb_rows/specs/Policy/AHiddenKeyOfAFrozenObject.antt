use Rattle.std.specs.Prelude.{refl, ℕ, List, [], ◌∷◌, false, None, codes, pos}
use Rattle.std.specs.Char.{encode_utf8}
use Rattle.mb_desc.specs.Validate.{Validate}
use Rattle.mb_world.specs.Form.{Written, ScriptForm, FunctionDeclForm, ExprStmtForm, ParamForm, ThisForm, NameForm, NumberForm, TextForm, ObjectForm, ValueForm, MemberForm, AssignForm, CallForm, NewForm}
use Rattle.mb_world.specs.Graph.{Program, Rule, Hide}
use Rattle.mb_model.specs.Engine.{given}
use Rattle.mb_model.specs.Story.{Stage, Letter, Story}
use Rattle.mb_rows.specs.Shows.{bound, Shows}

-- run
-- left
--     function Account(n) {
--       Object.defineProperty(this, "balance", { value: n });
--       this.owner = "ann";
--       Object.freeze(this);
--     }
--     desk.acc = new Account(5);
-- right
--     print(Reflect.ownKeys(desk.acc).join());
--     print(Object.isFrozen(desk.acc));
--     print(desk.acc.balance);
-- policy
--     version = 1
--
--     [[rule]]
--     kind = "hide"
--     label = "Account"
--     key = "balance"

abbrev left : Program
left = record {
  forms =
      ParamForm (codes "n") ∷ NameForm (codes "Object") ∷ MemberForm 1 (codes "defineProperty") ∷ ThisForm ∷
      TextForm (codes "balance") ∷ NameForm (codes "n") ∷ ValueForm (Written (codes "value")) 5 ∷
      ObjectForm (6 ∷ []) ∷ CallForm 2 (3 ∷ 4 ∷ 7 ∷ []) ∷ ExprStmtForm 8 ∷ ThisForm ∷
      MemberForm 10 (codes "owner") ∷ TextForm (codes "ann") ∷ AssignForm 11 12 ∷ ExprStmtForm 13 ∷
      NameForm (codes "Object") ∷ MemberForm 15 (codes "freeze") ∷ ThisForm ∷ CallForm 16 (17 ∷ []) ∷
      ExprStmtForm 18 ∷
      FunctionDeclForm (codes "Account") (record { params = (codes "n") ∷ []; body = (9 ∷ 14 ∷ 19 ∷ []) }) ∷
      NameForm (codes "desk") ∷ MemberForm 21 (codes "acc") ∷ NameForm (codes "Account") ∷ NumberForm (pos 5) ∷
      NewForm 23 (24 ∷ []) ∷ AssignForm 22 25 ∷ ExprStmtForm 26 ∷ ScriptForm (20 ∷ 27 ∷ []) ∷
      [];
  names =
      bound 20 (codes "n") false ∷ bound 28 (codes "Account") false ∷
      [];
}

abbrev right : Program
right = record {
  forms =
      NameForm (codes "print") ∷ NameForm (codes "Reflect") ∷ MemberForm 1 (codes "ownKeys") ∷
      NameForm (codes "desk") ∷ MemberForm 3 (codes "acc") ∷ CallForm 2 (4 ∷ []) ∷ MemberForm 5 (codes "join") ∷
      CallForm 6 [] ∷ CallForm 0 (7 ∷ []) ∷ ExprStmtForm 8 ∷ NameForm (codes "print") ∷
      NameForm (codes "Object") ∷ MemberForm 11 (codes "isFrozen") ∷ NameForm (codes "desk") ∷
      MemberForm 13 (codes "acc") ∷ CallForm 12 (14 ∷ []) ∷ CallForm 10 (15 ∷ []) ∷ ExprStmtForm 16 ∷
      NameForm (codes "print") ∷ NameForm (codes "desk") ∷ MemberForm 19 (codes "acc") ∷
      MemberForm 20 (codes "balance") ∷ CallForm 18 (21 ∷ []) ∷ ExprStmtForm 22 ∷ ScriptForm (9 ∷ 17 ∷ 23 ∷ []) ∷
      [];
  names = [];
}

abbrev policy : List Rule
policy =
    record { label = (codes "Account"); kind = Hide (codes "balance"); owner = None; viewer = None } ∷
    []

abbrev schedule : List Letter
schedule = []

abbrev told : List (List ℕ)
told =
    (codes "R owner") ∷
    (codes "R true") ∷
    (codes "R undefined") ∷
    (codes "= done") ∷
    []

abbrev stage : Stage
stage = Story (left ∷ right ∷ []) policy schedule 1000000

pub Row : Type 0
Row = Shows false false stage told

pub row : Row
unfolding Row given Validate encode_utf8
row = (refl, refl)
