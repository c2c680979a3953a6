use Rattle.std.specs.Prelude.{◌≡◌, refl, ℕ, List, [], ◌∷◌, ◌++◌, true, false, Some, codes}
use Rattle.std.specs.Char.{encode_utf8}
use Rattle.mb_desc.specs.Validate.{Validate}
use Rattle.mb_world.specs.Form.{ScriptForm, LetForm, DeclForm, FunctionDeclForm, ExprStmtForm, NameForm, ObjectForm, ArrowForm, MemberForm, AssignForm, CallForm}
use Rattle.mb_world.specs.Graph.{Program, Rule}
use Rattle.mb_model.specs.Engine.{given}
use Rattle.mb_model.specs.Story.{Stage, Letter, Story}
use Rattle.mb_rows.specs.Shows.{bound, Shows}

-- run --trace
-- left
--     let f = () => { function g() { } }; f();
-- right
--     desk.x = {}; desk.x;

abbrev left : Program
left = record {
  forms =
      FunctionDeclForm (codes "g") (record { params = []; body = [] }) ∷
      ArrowForm (record { params = []; body = (0 ∷ []) }) true ∷ DeclForm (codes "f") (Some 1) ∷
      LetForm (2 ∷ []) ∷ NameForm (codes "f") ∷ CallForm 4 [] ∷ ExprStmtForm 5 ∷ ScriptForm (3 ∷ 6 ∷ []) ∷
      [];
  names =
      bound 1 (codes "g") false ∷ bound 7 (codes "f") false ∷
      [];
}

abbrev right : Program
right = record {
  forms =
      NameForm (codes "desk") ∷ MemberForm 0 (codes "x") ∷ ObjectForm [] ∷ AssignForm 1 2 ∷ ExprStmtForm 3 ∷
      NameForm (codes "desk") ∷ MemberForm 5 (codes "x") ∷ ExprStmtForm 6 ∷ ScriptForm (4 ∷ 7 ∷ []) ∷
      [];
  names = [];
}

abbrev policy : List Rule
policy = []

abbrev schedule : List Letter
schedule = []

abbrev told : List (List ℕ)
told =
    (codes "T 0 R #0 getOwnPropertyDescriptor \"x\" - none") ∷
    (codes "T 1 R #0 defineProperty \"x\" {value=#4,writable=true,enumerable=true,configurable" ++
    codes "=true} true") ∷
    (codes "T 0 R #0 set \"x\" #4 true") ∷
    (codes "T 3 R #0 get \"x\" - #4") ∷
    (codes "= done") ∷
    []

abbrev stage : Stage
stage = Story (left ∷ right ∷ []) policy schedule 1000000

pub Row : Type 0
Row = Shows true false stage told × (stage.left ≡ 999977)

pub row : Row
unfolding Row given Validate encode_utf8
row = ((refl, refl), refl)
