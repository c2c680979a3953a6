use Rattle.std.specs.Prelude.{refl, ℕ, List, [], ◌∷◌, false, codes}
use Rattle.std.specs.Char.{encode_utf8}
use Rattle.mb_tree.specs.declared.kind.Sign.TheVariants.{Less}
use Rattle.mb_desc.specs.Validate.{Validate}
use Rattle.mb_world.specs.Form.{ScriptForm, ExprStmtForm, NameForm, TextForm, CallForm, BinaryForm}
use Rattle.mb_world.specs.Graph.{Program, Rule}
use Rattle.mb_model.specs.Engine.{given}
use Rattle.mb_model.specs.Story.{Stage, Letter, Story}
use Rattle.mb_rows.specs.Shows.{Shows}

-- run
-- left
--     print("a" < "b", "b" < "a", "a" < "a", "" < "a", "a" < "", "ab" < "a", "a" < "ab", "ab" < "ac", "b" < "ac");
-- right
--     (empty)

abbrev left : Program
left = record {
  forms =
      NameForm (codes "print") ∷ TextForm (codes "a") ∷ TextForm (codes "b") ∷ BinaryForm Less 1 2 ∷
      TextForm (codes "b") ∷ TextForm (codes "a") ∷ BinaryForm Less 4 5 ∷ TextForm (codes "a") ∷
      TextForm (codes "a") ∷ BinaryForm Less 7 8 ∷ TextForm [] ∷ TextForm (codes "a") ∷ BinaryForm Less 10 11 ∷
      TextForm (codes "a") ∷ TextForm [] ∷ BinaryForm Less 13 14 ∷ TextForm (codes "ab") ∷ TextForm (codes "a") ∷
      BinaryForm Less 16 17 ∷ TextForm (codes "a") ∷ TextForm (codes "ab") ∷ BinaryForm Less 19 20 ∷
      TextForm (codes "ab") ∷ TextForm (codes "ac") ∷ BinaryForm Less 22 23 ∷ TextForm (codes "b") ∷
      TextForm (codes "ac") ∷ BinaryForm Less 25 26 ∷ CallForm 0 (3 ∷ 6 ∷ 9 ∷ 12 ∷ 15 ∷ 18 ∷ 21 ∷ 24 ∷ 27 ∷ []) ∷
      ExprStmtForm 28 ∷ ScriptForm (29 ∷ []) ∷
      [];
  names = [];
}

abbrev right : Program
right = record {
  forms =
      ScriptForm [] ∷
      [];
  names = [];
}

abbrev policy : List Rule
policy = []

abbrev schedule : List Letter
schedule = []

abbrev told : List (List ℕ)
told =
    (codes "L true false false true false false true true false") ∷
    (codes "= done") ∷
    []

abbrev stage : Stage
stage = Story (left ∷ right ∷ []) policy schedule 1000000

pub Row : Type 0
Row = Shows false false stage told

pub row : Row
unfolding Row given Validate encode_utf8
row = (refl, refl)
