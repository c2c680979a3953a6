use Rattle.std.specs.Prelude.{◌≡◌, refl, ℕ, List, [], ◌∷◌, false, Some, None, codes, pos}
use Rattle.std.specs.Char.{encode_utf8}
use Rattle.mb_tree.specs.declared.kind.Sign.TheVariants.{Typeof}
use Rattle.mb_desc.specs.Validate.{Validate}
use Rattle.mb_world.specs.Form.{ScriptForm, LetForm, DeclForm, FunctionDeclForm, ExprStmtForm, ParamForm, NameForm, NumberForm, ArrowForm, GroupForm, CallForm, UnaryForm}
use Rattle.mb_world.specs.Graph.{Program, Rule}
use Rattle.mb_model.specs.Engine.{given}
use Rattle.mb_model.specs.Story.{Stage, Letter, Story}
use Rattle.mb_rows.specs.Shows.{bound, Shows}

-- run
-- left
--     let f = () => x; typeof (zz); let x = 2; function q(a, b) { let c; } q();
-- right
--     (empty)

abbrev left : Program
left = record {
  forms =
      NameForm (codes "x") ∷ ArrowForm (record { params = []; body = (0 ∷ []) }) false ∷
      DeclForm (codes "f") (Some 1) ∷ LetForm (2 ∷ []) ∷ NameForm (codes "zz") ∷ GroupForm 4 ∷
      UnaryForm Typeof 5 ∷ ExprStmtForm 6 ∷ NumberForm (pos 2) ∷ DeclForm (codes "x") (Some 8) ∷
      LetForm (9 ∷ []) ∷ ParamForm (codes "a") ∷ ParamForm (codes "b") ∷ DeclForm (codes "c") None ∷
      LetForm (13 ∷ []) ∷
      FunctionDeclForm (codes "q") (record { params = (codes "a") ∷ (codes "b") ∷ []; body = (14 ∷ []) }) ∷
      NameForm (codes "q") ∷ CallForm 16 [] ∷ ExprStmtForm 17 ∷ ScriptForm (3 ∷ 7 ∷ 10 ∷ 15 ∷ 18 ∷ []) ∷
      [];
  names =
      bound 15 (codes "a") false ∷ bound 15 (codes "b") false ∷ bound 15 (codes "c") false ∷
      bound 19 (codes "f") false ∷ bound 19 (codes "x") false ∷ bound 19 (codes "q") false ∷
      [];
}

abbrev right : Program
right = record {
  forms =
      ScriptForm [] ∷
      [];
  names = [];
}

abbrev policy : List Rule
policy = []

abbrev schedule : List Letter
schedule = []

abbrev told : List (List ℕ)
told =
    (codes "= done") ∷
    []

abbrev stage : Stage
stage = Story (left ∷ right ∷ []) policy schedule 1000000

pub Row : Type 0
Row = Shows false false stage told × (stage.left ≡ 999979)

pub row : Row
unfolding Row given Validate encode_utf8
row = ((refl, refl), refl)
