use Rattle.std.specs.Prelude.{◌≡◌, refl, ℕ, List, [], ◌∷◌, false, Some, codes, pos}
use Rattle.std.specs.Char.{encode_utf8}
use Rattle.mb_tree.specs.declared.kind.Sign.TheVariants.{Plus}
use Rattle.mb_desc.specs.Validate.{Validate}
use Rattle.mb_world.specs.Form.{ScriptForm, LetForm, DeclForm, ExprStmtForm, NameForm, NumberForm, TextForm, CompoundForm, BinaryForm}
use Rattle.mb_world.specs.Graph.{Program, Rule}
use Rattle.mb_model.specs.Engine.{given}
use Rattle.mb_model.specs.Story.{Stage, Letter, Story}
use Rattle.mb_rows.specs.Shows.{bound, Shows}

-- run
-- left
--     "aaaaaaaaaaaaaaaaaaaaaaaaaaaaaaaaaaaaaaaaaaaaaaaaaaaaaaaaaaaaaaaa" + "bbbbbbbbbbbbbbbbbbbbbbbbbbbbbbbbbbbbbbbbbbbbbbbbbbbbbbbbbbbbbbbb"; "ccccccccccccccccccccccccccccccc" + "dddddddddddddddddddddddddddddddd"; let t = "eeeeeeeeeeeeeeeeeeeeeeeeeeeeeeeeeeeeeeeeeeeeeeeeeeeeeeeeeeeeeee"; t += 5;
-- right
--     (empty)

abbrev left : Program
left = record {
  forms =
      TextForm (codes "aaaaaaaaaaaaaaaaaaaaaaaaaaaaaaaaaaaaaaaaaaaaaaaaaaaaaaaaaaaaaaaa") ∷
      TextForm (codes "bbbbbbbbbbbbbbbbbbbbbbbbbbbbbbbbbbbbbbbbbbbbbbbbbbbbbbbbbbbbbbbb") ∷ BinaryForm Plus 0 1 ∷
      ExprStmtForm 2 ∷ TextForm (codes "ccccccccccccccccccccccccccccccc") ∷
      TextForm (codes "dddddddddddddddddddddddddddddddd") ∷ BinaryForm Plus 4 5 ∷ ExprStmtForm 6 ∷
      TextForm (codes "eeeeeeeeeeeeeeeeeeeeeeeeeeeeeeeeeeeeeeeeeeeeeeeeeeeeeeeeeeeeeee") ∷
      DeclForm (codes "t") (Some 8) ∷ LetForm (9 ∷ []) ∷ NameForm (codes "t") ∷ NumberForm (pos 5) ∷
      CompoundForm Plus 11 12 ∷ ExprStmtForm 13 ∷ ScriptForm (3 ∷ 7 ∷ 10 ∷ 14 ∷ []) ∷
      [];
  names =
      bound 15 (codes "t") false ∷
      [];
}

abbrev right : Program
right = record {
  forms =
      ScriptForm [] ∷
      [];
  names = [];
}

abbrev policy : List Rule
policy = []

abbrev schedule : List Letter
schedule = []

abbrev told : List (List ℕ)
told =
    (codes "= done") ∷
    []

abbrev stage : Stage
stage = Story (left ∷ right ∷ []) policy schedule 1000000

pub Row : Type 0
Row = Shows false false stage told × (stage.left ≡ 999982)

pub row : Row
unfolding Row given Validate encode_utf8
row = ((refl, refl), refl)
