use Rattle.std.specs.Prelude.{refl, ℕ, List, [], ◌∷◌, true, false, codes}
use Rattle.std.specs.Char.{encode_utf8}
use Rattle.mb_desc.specs.Validate.{Validate}
use Rattle.mb_world.specs.Form.{ScriptForm, ExprStmtForm, NameForm, TextForm, CallForm}
use Rattle.mb_world.specs.Graph.{Program, Rule}
use Rattle.mb_model.specs.Engine.{given}
use Rattle.mb_model.specs.Story.{Stage, Letter, Side, Story}
use Rattle.mb_rows.specs.Shows.{Shows}

-- sides --schedule CAB
-- side_a
--     print("a");
-- side_b
--     print("b");
-- side_c
--     print("c");

abbrev side_a : Program
side_a = record {
  forms =
      NameForm (codes "print") ∷ TextForm (codes "a") ∷ CallForm 0 (1 ∷ []) ∷ ExprStmtForm 2 ∷
      ScriptForm (3 ∷ []) ∷
      [];
  names = [];
}

abbrev side_b : Program
side_b = record {
  forms =
      NameForm (codes "print") ∷ TextForm (codes "b") ∷ CallForm 0 (1 ∷ []) ∷ ExprStmtForm 2 ∷
      ScriptForm (3 ∷ []) ∷
      [];
  names = [];
}

abbrev side_c : Program
side_c = record {
  forms =
      NameForm (codes "print") ∷ TextForm (codes "c") ∷ CallForm 0 (1 ∷ []) ∷ ExprStmtForm 2 ∷
      ScriptForm (3 ∷ []) ∷
      [];
  names = [];
}

abbrev policy : List Rule
policy = []

abbrev schedule : List Letter
schedule =
    Side 2 ∷
    Side 0 ∷
    Side 1 ∷
    []

abbrev told : List (List ℕ)
told =
    (codes "C c") ∷
    (codes "A a") ∷
    (codes "B b") ∷
    (codes "= done") ∷
    []

abbrev stage : Stage
stage = Story (side_a ∷ side_b ∷ side_c ∷ []) policy schedule 1000000

pub Row : Type 0
Row = Shows false true stage told

pub row : Row
unfolding Row given Validate encode_utf8
row = (refl, refl)
