use Rattle.std.specs.Prelude.{refl, ℕ, List, [], ◌∷◌, false, codes}
use Rattle.std.specs.Char.{encode_utf8}
use Rattle.mb_tree.specs.declared.kind.Sign.TheVariants.{TripleEqual}
use Rattle.mb_desc.specs.Validate.{Validate}
use Rattle.mb_world.specs.Form.{ScriptForm, ExprStmtForm, ParamForm, NameForm, ObjectForm, ArrowForm, MemberForm, AssignForm, CallForm, BinaryForm}
use Rattle.mb_world.specs.Graph.{Program, Rule}
use Rattle.mb_model.specs.Engine.{given}
use Rattle.mb_model.specs.Story.{Stage, Letter, Story}
use Rattle.mb_rows.specs.Shows.{bound, Shows}

-- run
-- left
--     desk.o = {};
--     desk.same = (x) => x === desk.o;
-- right
--     print(desk.same(desk.o));

abbrev left : Program
left = record {
  forms =
      NameForm (codes "desk") ∷ MemberForm 0 (codes "o") ∷ ObjectForm [] ∷ AssignForm 1 2 ∷ ExprStmtForm 3 ∷
      NameForm (codes "desk") ∷ MemberForm 5 (codes "same") ∷ ParamForm (codes "x") ∷ NameForm (codes "x") ∷
      NameForm (codes "desk") ∷ MemberForm 9 (codes "o") ∷ BinaryForm TripleEqual 8 10 ∷
      ArrowForm (record { params = (codes "x") ∷ []; body = (11 ∷ []) }) false ∷ AssignForm 6 12 ∷
      ExprStmtForm 13 ∷ ScriptForm (4 ∷ 14 ∷ []) ∷
      [];
  names =
      bound 12 (codes "x") false ∷
      [];
}

abbrev right : Program
right = record {
  forms =
      NameForm (codes "print") ∷ NameForm (codes "desk") ∷ MemberForm 1 (codes "same") ∷
      NameForm (codes "desk") ∷ MemberForm 3 (codes "o") ∷ CallForm 2 (4 ∷ []) ∷ CallForm 0 (5 ∷ []) ∷
      ExprStmtForm 6 ∷ ScriptForm (7 ∷ []) ∷
      [];
  names = [];
}

abbrev policy : List Rule
policy = []

abbrev schedule : List Letter
schedule = []

abbrev told : List (List ℕ)
told =
    (codes "R true") ∷
    (codes "= done") ∷
    []

abbrev stage : Stage
stage = Story (left ∷ right ∷ []) policy schedule 1000000

pub Row : Type 0
Row = Shows false false stage told

pub row : Row
unfolding Row given Validate encode_utf8
row = (refl, refl)
