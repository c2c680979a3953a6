use Rattle.std.specs.Prelude.{◌≡◌, refl, ℕ, List, [], ◌∷◌, false, codes, pos}
use Rattle.std.specs.Char.{encode_utf8}
use Rattle.mb_desc.specs.Validate.{Validate}
use Rattle.mb_world.specs.Form.{ScriptForm, ExprStmtForm, NameForm, NumberForm, TextForm, ArrayForm, GroupForm, MemberForm, CallForm, SeqForm}
use Rattle.mb_world.specs.Graph.{Program, Rule}
use Rattle.mb_model.specs.Engine.{given}
use Rattle.mb_model.specs.Story.{Stage, Letter, Story}
use Rattle.mb_rows.specs.Shows.{Shows}

-- run
-- left
--     print(("0123456789".length, [1, 2].join("0123456789012345678901234567890123456789012345678901234567890123")), "a");
-- right
--     (empty)

abbrev left : Program
left = record {
  forms =
      NameForm (codes "print") ∷ TextForm (codes "0123456789") ∷ MemberForm 1 (codes "length") ∷
      NumberForm (pos 1) ∷ NumberForm (pos 2) ∷ ArrayForm (3 ∷ 4 ∷ []) ∷ MemberForm 5 (codes "join") ∷
      TextForm (codes "0123456789012345678901234567890123456789012345678901234567890123") ∷ CallForm 6 (7 ∷ []) ∷
      SeqForm (2 ∷ 8 ∷ []) ∷ GroupForm 9 ∷ TextForm (codes "a") ∷ CallForm 0 (10 ∷ 11 ∷ []) ∷ ExprStmtForm 12 ∷
      ScriptForm (13 ∷ []) ∷
      [];
  names = [];
}

abbrev right : Program
right = record {
  forms =
      ScriptForm [] ∷
      [];
  names = [];
}

abbrev policy : List Rule
policy = []

abbrev schedule : List Letter
schedule = []

abbrev told : List (List ℕ)
told =
    (codes "L 101234567890123456789012345678901234567890123456789012345678901232 a") ∷
    (codes "= done") ∷
    []

abbrev stage : Stage
stage = Story (left ∷ right ∷ []) policy schedule 1000000

pub Row : Type 0
Row = Shows false false stage told × (stage.left ≡ 999973)

pub row : Row
unfolding Row given Validate encode_utf8
row = ((refl, refl), refl)
