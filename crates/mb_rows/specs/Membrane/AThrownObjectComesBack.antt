use Rattle.std.specs.Prelude.{refl, ℕ, List, [], ◌∷◌, true, false, Some, None, codes}
use Rattle.std.specs.Char.{encode_utf8}
use Rattle.mb_tree.specs.declared.kind.Sign.TheVariants.{TripleEqual}
use Rattle.mb_desc.specs.Validate.{Validate}
use Rattle.mb_world.specs.Form.{ScriptForm, LetForm, DeclForm, BlockForm, ExprStmtForm, ThrowForm, TryForm, ParamForm, NameForm, ObjectForm, ArrowForm, MemberForm, AssignForm, CallForm, BinaryForm}
use Rattle.mb_world.specs.Graph.{Program, Rule}
use Rattle.mb_model.specs.Engine.{given}
use Rattle.mb_model.specs.Story.{Stage, Letter, Story}
use Rattle.mb_rows.specs.Shows.{bound, Shows}

-- run
-- left
--     let t = {};
--     desk.go = () => { throw t; };
--     desk.back = (x) => print(x === t);
-- right
--     try { desk.go(); } catch (e) { desk.back(e); }

abbrev left : Program
left = record {
  forms =
      ObjectForm [] ∷ DeclForm (codes "t") (Some 0) ∷ LetForm (1 ∷ []) ∷ NameForm (codes "desk") ∷
      MemberForm 3 (codes "go") ∷ NameForm (codes "t") ∷ ThrowForm 5 ∷
      ArrowForm (record { params = []; body = (6 ∷ []) }) true ∷ AssignForm 4 7 ∷ ExprStmtForm 8 ∷
      NameForm (codes "desk") ∷ MemberForm 10 (codes "back") ∷ ParamForm (codes "x") ∷ NameForm (codes "print") ∷
      NameForm (codes "x") ∷ NameForm (codes "t") ∷ BinaryForm TripleEqual 14 15 ∷ CallForm 13 (16 ∷ []) ∷
      ArrowForm (record { params = (codes "x") ∷ []; body = (17 ∷ []) }) false ∷ AssignForm 11 18 ∷
      ExprStmtForm 19 ∷ ScriptForm (2 ∷ 9 ∷ 20 ∷ []) ∷
      [];
  names =
      bound 18 (codes "x") false ∷ bound 21 (codes "t") false ∷
      [];
}

abbrev right : Program
right = record {
  forms =
      NameForm (codes "desk") ∷ MemberForm 0 (codes "go") ∷ CallForm 1 [] ∷ ExprStmtForm 2 ∷ BlockForm (3 ∷ []) ∷
      ParamForm (codes "e") ∷ NameForm (codes "desk") ∷ MemberForm 6 (codes "back") ∷ NameForm (codes "e") ∷
      CallForm 7 (8 ∷ []) ∷ ExprStmtForm 9 ∷ BlockForm (10 ∷ []) ∷ TryForm 4 (Some (codes "e")) (Some 11) None ∷
      ScriptForm (12 ∷ []) ∷
      [];
  names =
      bound 12 (codes "e") false ∷
      [];
}

abbrev policy : List Rule
policy = []

abbrev schedule : List Letter
schedule = []

abbrev told : List (List ℕ)
told =
    (codes "L true") ∷
    (codes "= done") ∷
    []

abbrev stage : Stage
stage = Story (left ∷ right ∷ []) policy schedule 1000000

pub Row : Type 0
Row = Shows false false stage told

pub row : Row
unfolding Row given Validate encode_utf8
row = (refl, refl)
