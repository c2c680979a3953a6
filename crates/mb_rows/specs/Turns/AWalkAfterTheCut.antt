use Rattle.std.specs.Prelude.{◌≡◌, refl, ℕ, List, [], ◌∷◌, ◌++◌, true, false, Some, None, codes}
use Rattle.std.specs.Char.{encode_utf8}
use Rattle.mb_tree.specs.declared.kind.Sign.TheVariants.{TripleEqual, Instanceof}
use Rattle.mb_desc.specs.Validate.{Validate}
use Rattle.mb_world.specs.Form.{ScriptForm, BlockForm, ExprStmtForm, TryForm, ParamForm, NameForm, ObjectForm, ArrowForm, MemberForm, AssignForm, CallForm, BinaryForm}
use Rattle.mb_world.specs.Graph.{Program, Rule}
use Rattle.mb_model.specs.Engine.{given}
use Rattle.mb_model.specs.Story.{Stage, Letter, Side, Cut, Story}
use Rattle.mb_rows.specs.Shows.{bound, Shows}

-- run --schedule LRX --trace
-- left
--     desk.a = {}; later(() => { print(Reflect.setPrototypeOf(desk.a, desk.b)); print(Reflect.getPrototypeOf(desk.a) === desk.b); try { desk.a.zzz; } catch (e) { print(e instanceof TypeError); } });
-- right
--     desk.b = Object.create(desk.a);

abbrev left : Program
left = record {
  forms =
      NameForm (codes "desk") ∷ MemberForm 0 (codes "a") ∷ ObjectForm [] ∷ AssignForm 1 2 ∷ ExprStmtForm 3 ∷
      NameForm (codes "later") ∷ NameForm (codes "print") ∷ NameForm (codes "Reflect") ∷
      MemberForm 7 (codes "setPrototypeOf") ∷ NameForm (codes "desk") ∷ MemberForm 9 (codes "a") ∷
      NameForm (codes "desk") ∷ MemberForm 11 (codes "b") ∷ CallForm 8 (10 ∷ 12 ∷ []) ∷ CallForm 6 (13 ∷ []) ∷
      ExprStmtForm 14 ∷ NameForm (codes "print") ∷ NameForm (codes "Reflect") ∷
      MemberForm 17 (codes "getPrototypeOf") ∷ NameForm (codes "desk") ∷ MemberForm 19 (codes "a") ∷
      CallForm 18 (20 ∷ []) ∷ NameForm (codes "desk") ∷ MemberForm 22 (codes "b") ∷
      BinaryForm TripleEqual 21 23 ∷ CallForm 16 (24 ∷ []) ∷ ExprStmtForm 25 ∷ NameForm (codes "desk") ∷
      MemberForm 27 (codes "a") ∷ MemberForm 28 (codes "zzz") ∷ ExprStmtForm 29 ∷ BlockForm (30 ∷ []) ∷
      ParamForm (codes "e") ∷ NameForm (codes "print") ∷ NameForm (codes "e") ∷ NameForm (codes "TypeError") ∷
      BinaryForm Instanceof 34 35 ∷ CallForm 33 (36 ∷ []) ∷ ExprStmtForm 37 ∷ BlockForm (38 ∷ []) ∷
      TryForm 31 (Some (codes "e")) (Some 39) None ∷
      ArrowForm (record { params = []; body = (15 ∷ 26 ∷ 40 ∷ []) }) true ∷ CallForm 5 (41 ∷ []) ∷
      ExprStmtForm 42 ∷ ScriptForm (4 ∷ 43 ∷ []) ∷
      [];
  names =
      bound 40 (codes "e") false ∷
      [];
}

abbrev right : Program
right = record {
  forms =
      NameForm (codes "desk") ∷ MemberForm 0 (codes "b") ∷ NameForm (codes "Object") ∷
      MemberForm 2 (codes "create") ∷ NameForm (codes "desk") ∷ MemberForm 4 (codes "a") ∷ CallForm 3 (5 ∷ []) ∷
      AssignForm 1 6 ∷ ExprStmtForm 7 ∷ ScriptForm (8 ∷ []) ∷
      [];
  names = [];
}

abbrev policy : List Rule
policy = []

abbrev schedule : List Letter
schedule =
    Side 0 ∷
    Side 1 ∷
    Cut ∷
    []

abbrev told : List (List ℕ)
told =
    (codes "T 0 R #0 get \"a\" - #1") ∷
    (codes "T 1 R #0 getOwnPropertyDescriptor \"b\" - none") ∷
    (codes "T 2 R #0 defineProperty \"b\" {value=#3,writable=true,enumerable=true,configurable" ++
    codes "=true} true") ∷
    (codes "T 1 R #0 set \"b\" #3 true") ∷
    (codes "L true") ∷
    (codes "L true") ∷
    (codes "T 4 L #3 get \"zzz\" - throw #4") ∷
    (codes "L true") ∷
    (codes "= done") ∷
    []

abbrev stage : Stage
stage = Story (left ∷ right ∷ []) policy schedule 1000000

pub Row : Type 0
Row = Shows true false stage told × (stage.left ≡ 999907)

pub row : Row
unfolding Row given Validate encode_utf8
row = ((refl, refl), refl)
