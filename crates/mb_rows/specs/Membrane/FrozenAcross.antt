use Rattle.std.specs.Prelude.{refl, ℕ, List, [], ◌∷◌, false, codes}
use Rattle.std.specs.Char.{encode_utf8}
use Rattle.mb_tree.specs.declared.kind.Sign.TheVariants.{TripleEqual}
use Rattle.mb_desc.specs.Validate.{Validate}
use Rattle.mb_world.specs.Form.{Written, ScriptForm, ExprStmtForm, NameForm, ObjectForm, ValueForm, MemberForm, AssignForm, CallForm, BinaryForm}
use Rattle.mb_world.specs.Graph.{Program, Rule}
use Rattle.mb_model.specs.Engine.{given}
use Rattle.mb_model.specs.Story.{Stage, Letter, Story}
use Rattle.mb_rows.specs.Shows.{Shows}

-- run
-- left
--     desk.f = Object.freeze({ inner: {} });
-- right
--     print(Object.isFrozen(desk.f));
--     print(desk.f.inner === desk.f.inner);

abbrev left : Program
left = record {
  forms =
      NameForm (codes "desk") ∷ MemberForm 0 (codes "f") ∷ NameForm (codes "Object") ∷
      MemberForm 2 (codes "freeze") ∷ ObjectForm [] ∷ ValueForm (Written (codes "inner")) 4 ∷
      ObjectForm (5 ∷ []) ∷ CallForm 3 (6 ∷ []) ∷ AssignForm 1 7 ∷ ExprStmtForm 8 ∷ ScriptForm (9 ∷ []) ∷
      [];
  names = [];
}

abbrev right : Program
right = record {
  forms =
      NameForm (codes "print") ∷ NameForm (codes "Object") ∷ MemberForm 1 (codes "isFrozen") ∷
      NameForm (codes "desk") ∷ MemberForm 3 (codes "f") ∷ CallForm 2 (4 ∷ []) ∷ CallForm 0 (5 ∷ []) ∷
      ExprStmtForm 6 ∷ NameForm (codes "print") ∷ NameForm (codes "desk") ∷ MemberForm 9 (codes "f") ∷
      MemberForm 10 (codes "inner") ∷ NameForm (codes "desk") ∷ MemberForm 12 (codes "f") ∷
      MemberForm 13 (codes "inner") ∷ BinaryForm TripleEqual 11 14 ∷ CallForm 8 (15 ∷ []) ∷ ExprStmtForm 16 ∷
      ScriptForm (7 ∷ 17 ∷ []) ∷
      [];
  names = [];
}

abbrev policy : List Rule
policy = []

abbrev schedule : List Letter
schedule = []

abbrev told : List (List ℕ)
told =
    (codes "R true") ∷
    (codes "R true") ∷
    (codes "= done") ∷
    []

abbrev stage : Stage
stage = Story (left ∷ right ∷ []) policy schedule 1000000

pub Row : Type 0
Row = Shows false false stage told

pub row : Row
unfolding Row given Validate encode_utf8
row = (refl, refl)
