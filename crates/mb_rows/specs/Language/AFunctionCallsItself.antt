use Rattle.std.specs.Prelude.{refl, ℕ, List, [], ◌∷◌, false, Some, codes, pos}
use Rattle.std.specs.Char.{encode_utf8}
use Rattle.mb_tree.specs.declared.kind.Sign.TheVariants.{Plus, Minus, Less}
use Rattle.mb_desc.specs.Validate.{Validate}
use Rattle.mb_world.specs.Form.{ScriptForm, LetForm, DeclForm, ExprStmtForm, ParamForm, NameForm, NumberForm, ArrowForm, CallForm, CondForm, BinaryForm}
use Rattle.mb_world.specs.Graph.{Program, Rule}
use Rattle.mb_model.specs.Engine.{given}
use Rattle.mb_model.specs.Story.{Stage, Letter, Story}
use Rattle.mb_rows.specs.Shows.{bound, Shows}

-- run
-- left
--     let f = (n) => n < 1 ? 0 : n + f(n - 1);
--     print(f(3));
-- right
--     (empty)

abbrev left : Program
left = record {
  forms =
      ParamForm (codes "n") ∷ NameForm (codes "n") ∷ NumberForm (pos 1) ∷ BinaryForm Less 1 2 ∷
      NumberForm (pos 0) ∷ NameForm (codes "n") ∷ NameForm (codes "f") ∷ NameForm (codes "n") ∷
      NumberForm (pos 1) ∷ BinaryForm Minus 7 8 ∷ CallForm 6 (9 ∷ []) ∷ BinaryForm Plus 5 10 ∷ CondForm 3 4 11 ∷
      ArrowForm (record { params = (codes "n") ∷ []; body = (12 ∷ []) }) false ∷ DeclForm (codes "f") (Some 13) ∷
      LetForm (14 ∷ []) ∷ NameForm (codes "print") ∷ NameForm (codes "f") ∷ NumberForm (pos 3) ∷
      CallForm 17 (18 ∷ []) ∷ CallForm 16 (19 ∷ []) ∷ ExprStmtForm 20 ∷ ScriptForm (15 ∷ 21 ∷ []) ∷
      [];
  names =
      bound 13 (codes "n") false ∷ bound 22 (codes "f") false ∷
      [];
}

abbrev right : Program
right = record {
  forms =
      ScriptForm [] ∷
      [];
  names = [];
}

abbrev policy : List Rule
policy = []

abbrev schedule : List Letter
schedule = []

abbrev told : List (List ℕ)
told =
    (codes "L 6") ∷
    (codes "= done") ∷
    []

abbrev stage : Stage
stage = Story (left ∷ right ∷ []) policy schedule 1000000

pub Row : Type 0
Row = Shows false false stage told

pub row : Row
unfolding Row given Validate encode_utf8
row = (refl, refl)
