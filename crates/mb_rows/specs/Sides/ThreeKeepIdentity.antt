use Rattle.std.specs.Prelude.{refl, ℕ, List, [], ◌∷◌, true, false, Some, codes}
use Rattle.std.specs.Char.{encode_utf8}
use Rattle.mb_tree.specs.declared.kind.Sign.TheVariants.{TripleEqual}
use Rattle.mb_desc.specs.Validate.{Validate}
use Rattle.mb_world.specs.Form.{ScriptForm, LetForm, DeclForm, ExprStmtForm, ParamForm, NameForm, ObjectForm, ArrowForm, MemberForm, AssignForm, CallForm, BinaryForm}
use Rattle.mb_world.specs.Graph.{Program, Rule}
use Rattle.mb_model.specs.Engine.{given}
use Rattle.mb_model.specs.Story.{Stage, Letter, Story}
use Rattle.mb_rows.specs.Shows.{bound, Shows}

-- sides
-- side_a
--     desk.o = {};
-- side_b
--     desk.f = (x) => x;
-- side_c
--     let t = {};
--     print(desk.f(t) === t);
--     print(desk.f(desk.o) === desk.o);

abbrev side_a : Program
side_a = record {
  forms =
      NameForm (codes "desk") ∷ MemberForm 0 (codes "o") ∷ ObjectForm [] ∷ AssignForm 1 2 ∷ ExprStmtForm 3 ∷
      ScriptForm (4 ∷ []) ∷
      [];
  names = [];
}

abbrev side_b : Program
side_b = record {
  forms =
      NameForm (codes "desk") ∷ MemberForm 0 (codes "f") ∷ ParamForm (codes "x") ∷ NameForm (codes "x") ∷
      ArrowForm (record { params = (codes "x") ∷ []; body = (3 ∷ []) }) false ∷ AssignForm 1 4 ∷ ExprStmtForm 5 ∷
      ScriptForm (6 ∷ []) ∷
      [];
  names =
      bound 4 (codes "x") false ∷
      [];
}

abbrev side_c : Program
side_c = record {
  forms =
      ObjectForm [] ∷ DeclForm (codes "t") (Some 0) ∷ LetForm (1 ∷ []) ∷ NameForm (codes "print") ∷
      NameForm (codes "desk") ∷ MemberForm 4 (codes "f") ∷ NameForm (codes "t") ∷ CallForm 5 (6 ∷ []) ∷
      NameForm (codes "t") ∷ BinaryForm TripleEqual 7 8 ∷ CallForm 3 (9 ∷ []) ∷ ExprStmtForm 10 ∷
      NameForm (codes "print") ∷ NameForm (codes "desk") ∷ MemberForm 13 (codes "f") ∷ NameForm (codes "desk") ∷
      MemberForm 15 (codes "o") ∷ CallForm 14 (16 ∷ []) ∷ NameForm (codes "desk") ∷ MemberForm 18 (codes "o") ∷
      BinaryForm TripleEqual 17 19 ∷ CallForm 12 (20 ∷ []) ∷ ExprStmtForm 21 ∷ ScriptForm (2 ∷ 11 ∷ 22 ∷ []) ∷
      [];
  names =
      bound 23 (codes "t") false ∷
      [];
}

abbrev policy : List Rule
policy = []

abbrev schedule : List Letter
schedule = []

abbrev told : List (List ℕ)
told =
    (codes "C true") ∷
    (codes "C true") ∷
    (codes "= done") ∷
    []

abbrev stage : Stage
stage = Story (side_a ∷ side_b ∷ side_c ∷ []) policy schedule 1000000

pub Row : Type 0
Row = Shows false true stage told

pub row : Row
unfolding Row given Validate encode_utf8
row = (refl, refl)
