use Rattle.std.specs.Prelude.{◌≡◌, refl, ℕ, List, [], ◌∷◌, true, false, Some, codes, pos}
use Rattle.std.specs.Char.{encode_utf8}
use Rattle.mb_tree.specs.declared.kind.Sign.TheVariants.{TripleEqual}
use Rattle.mb_desc.specs.Validate.{Validate}
use Rattle.mb_world.specs.Form.{Written, ScriptForm, ExprStmtForm, ReturnForm, ThisForm, NameForm, NumberForm, TextForm, ObjectForm, GetterForm, MemberForm, AssignForm, CallForm, NewForm, BinaryForm}
use Rattle.mb_world.specs.Graph.{Program, Rule}
use Rattle.mb_model.specs.Engine.{given}
use Rattle.mb_model.specs.Story.{Stage, Letter, Story}
use Rattle.mb_rows.specs.Shows.{Shows}

-- run --trace
-- left
--     desk.T = { get g() { print("getter", this === desk.P); return 1; } }; desk.P = new Proxy(desk.T, {});
-- right
--     print(desk.P.g);

abbrev left : Program
left = record {
  forms =
      NameForm (codes "desk") ∷ MemberForm 0 (codes "T") ∷ NameForm (codes "print") ∷ TextForm (codes "getter") ∷
      ThisForm ∷ NameForm (codes "desk") ∷ MemberForm 5 (codes "P") ∷ BinaryForm TripleEqual 4 6 ∷
      CallForm 2 (3 ∷ 7 ∷ []) ∷ ExprStmtForm 8 ∷ NumberForm (pos 1) ∷ ReturnForm (Some 10) ∷
      GetterForm (Written (codes "g")) (record { params = []; body = (9 ∷ 11 ∷ []) }) ∷ ObjectForm (12 ∷ []) ∷
      AssignForm 1 13 ∷ ExprStmtForm 14 ∷ NameForm (codes "desk") ∷ MemberForm 16 (codes "P") ∷
      NameForm (codes "Proxy") ∷ NameForm (codes "desk") ∷ MemberForm 19 (codes "T") ∷ ObjectForm [] ∷
      NewForm 18 (20 ∷ 21 ∷ []) ∷ AssignForm 17 22 ∷ ExprStmtForm 23 ∷ ScriptForm (15 ∷ 24 ∷ []) ∷
      [];
  names = [];
}

abbrev right : Program
right = record {
  forms =
      NameForm (codes "print") ∷ NameForm (codes "desk") ∷ MemberForm 1 (codes "P") ∷ MemberForm 2 (codes "g") ∷
      CallForm 0 (3 ∷ []) ∷ ExprStmtForm 4 ∷ ScriptForm (5 ∷ []) ∷
      [];
  names = [];
}

abbrev policy : List Rule
policy = []

abbrev schedule : List Letter
schedule = []

abbrev told : List (List ℕ)
told =
    (codes "T 0 R #0 get \"P\" - #4") ∷
    (codes "L getter true") ∷
    (codes "T 1 R #2 apply - - 1") ∷
    (codes "T 1 R #4 get \"g\" - 1") ∷
    (codes "R 1") ∷
    (codes "= done") ∷
    []

abbrev stage : Stage
stage = Story (left ∷ right ∷ []) policy schedule 1000000

pub Row : Type 0
Row = Shows true false stage told × (stage.left ≡ 999946)

pub row : Row
unfolding Row given Validate encode_utf8
row = ((refl, refl), refl)
