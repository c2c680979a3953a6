use Rattle.std.specs.Prelude.{refl, ℕ, List, [], ◌∷◌, true, false, Some, codes, pos}
use Rattle.std.specs.Char.{encode_utf8}
use Rattle.mb_desc.specs.Validate.{Validate}
use Rattle.mb_world.specs.Value.{Truth}
use Rattle.mb_world.specs.Form.{Written, ScriptForm, ExprStmtForm, ReturnForm, NameForm, NumberForm, TextForm, LiteralForm, ObjectForm, ValueForm, GetterForm, ArrowForm, MemberForm, AssignForm, CallForm}
use Rattle.mb_world.specs.Graph.{Program, Rule}
use Rattle.mb_model.specs.Engine.{given}
use Rattle.mb_model.specs.Story.{Stage, Letter, Story}
use Rattle.mb_rows.specs.Shows.{Shows}

-- run
-- left
--     desk.o = { get k() {
--       Object.defineProperty(desk.o, "k", { value: 1, writable: false, configurable: false });
--       desk.peek();
--       return 7;
--     } };
-- right
--     desk.peek = () => { print(Reflect.getOwnPropertyDescriptor(desk.o, "k").value); };
--     print(desk.o.k);

abbrev left : Program
left = record {
  forms =
      NameForm (codes "desk") ∷ MemberForm 0 (codes "o") ∷ NameForm (codes "Object") ∷
      MemberForm 2 (codes "defineProperty") ∷ NameForm (codes "desk") ∷ MemberForm 4 (codes "o") ∷
      TextForm (codes "k") ∷ NumberForm (pos 1) ∷ ValueForm (Written (codes "value")) 7 ∷
      LiteralForm (Truth false) ∷ ValueForm (Written (codes "writable")) 9 ∷ LiteralForm (Truth false) ∷
      ValueForm (Written (codes "configurable")) 11 ∷ ObjectForm (8 ∷ 10 ∷ 12 ∷ []) ∷
      CallForm 3 (5 ∷ 6 ∷ 13 ∷ []) ∷ ExprStmtForm 14 ∷ NameForm (codes "desk") ∷ MemberForm 16 (codes "peek") ∷
      CallForm 17 [] ∷ ExprStmtForm 18 ∷ NumberForm (pos 7) ∷ ReturnForm (Some 20) ∷
      GetterForm (Written (codes "k")) (record { params = []; body = (15 ∷ 19 ∷ 21 ∷ []) }) ∷
      ObjectForm (22 ∷ []) ∷ AssignForm 1 23 ∷ ExprStmtForm 24 ∷ ScriptForm (25 ∷ []) ∷
      [];
  names = [];
}

abbrev right : Program
right = record {
  forms =
      NameForm (codes "desk") ∷ MemberForm 0 (codes "peek") ∷ NameForm (codes "print") ∷
      NameForm (codes "Reflect") ∷ MemberForm 3 (codes "getOwnPropertyDescriptor") ∷ NameForm (codes "desk") ∷
      MemberForm 5 (codes "o") ∷ TextForm (codes "k") ∷ CallForm 4 (6 ∷ 7 ∷ []) ∷ MemberForm 8 (codes "value") ∷
      CallForm 2 (9 ∷ []) ∷ ExprStmtForm 10 ∷ ArrowForm (record { params = []; body = (11 ∷ []) }) true ∷
      AssignForm 1 12 ∷ ExprStmtForm 13 ∷ NameForm (codes "print") ∷ NameForm (codes "desk") ∷
      MemberForm 16 (codes "o") ∷ MemberForm 17 (codes "k") ∷ CallForm 15 (18 ∷ []) ∷ ExprStmtForm 19 ∷
      ScriptForm (14 ∷ 20 ∷ []) ∷
      [];
  names = [];
}

abbrev policy : List Rule
policy = []

abbrev schedule : List Letter
schedule = []

abbrev told : List (List ℕ)
told =
    (codes "R 1") ∷
    (codes "R 7") ∷
    (codes "= done") ∷
    []

abbrev stage : Stage
stage = Story (left ∷ right ∷ []) policy schedule 1000000

pub Row : Type 0
Row = Shows false false stage told

pub row : Row
unfolding Row given Validate encode_utf8
row = (refl, refl)
