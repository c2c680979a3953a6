use Rattle.std.specs.Prelude.{◌≡◌, refl, ℕ, List, [], ◌∷◌, false, Some, codes, pos}
use Rattle.std.specs.Char.{encode_utf8}
use Rattle.mb_tree.specs.declared.kind.Sign.TheVariants.{Plus}
use Rattle.mb_desc.specs.Validate.{Validate}
use Rattle.mb_world.specs.Value.{Truth}
use Rattle.mb_world.specs.Form.{ScriptForm, LetForm, DeclForm, ExprStmtForm, DoWhileForm, NameForm, NumberForm, LiteralForm, CompoundForm}
use Rattle.mb_world.specs.Graph.{Program, Rule}
use Rattle.mb_model.specs.Engine.{given}
use Rattle.mb_model.specs.Story.{Stage, Letter, Story}
use Rattle.mb_rows.specs.Shows.{bound, Shows}

-- run
-- left
--     let m = 0; do m += 1; while (false);
-- right
--     (empty)

abbrev left : Program
left = record {
  forms =
      NumberForm (pos 0) ∷ DeclForm (codes "m") (Some 0) ∷ LetForm (1 ∷ []) ∷ NameForm (codes "m") ∷
      NumberForm (pos 1) ∷ CompoundForm Plus 3 4 ∷ ExprStmtForm 5 ∷ LiteralForm (Truth false) ∷ DoWhileForm 6 7 ∷
      ScriptForm (2 ∷ 8 ∷ []) ∷
      [];
  names =
      bound 9 (codes "m") false ∷
      [];
}

abbrev right : Program
right = record {
  forms =
      ScriptForm [] ∷
      [];
  names = [];
}

abbrev policy : List Rule
policy = []

abbrev schedule : List Letter
schedule = []

abbrev told : List (List ℕ)
told =
    (codes "= done") ∷
    []

abbrev stage : Stage
stage = Story (left ∷ right ∷ []) policy schedule 1000000

pub Row : Type 0
Row = Shows false false stage told × (stage.left ≡ 999991)

pub row : Row
unfolding Row given Validate encode_utf8
row = ((refl, refl), refl)
