use Rattle.std.specs.Prelude.{◌≡◌, refl, ℕ, List, [], ◌∷◌, ◌++◌, true, false, codes, pos}
use Rattle.std.specs.Char.{encode_utf8}
use Rattle.mb_tree.specs.declared.kind.Sign.TheVariants.{Plus}
use Rattle.mb_desc.specs.Validate.{Validate}
use Rattle.mb_world.specs.Form.{ScriptForm, ExprStmtForm, NameForm, NumberForm, TextForm, GroupForm, MemberForm, IndexForm, AssignForm, CompoundForm, CallForm, SeqForm}
use Rattle.mb_world.specs.Graph.{Program, Rule}
use Rattle.mb_model.specs.Engine.{given}
use Rattle.mb_model.specs.Story.{Stage, Letter, Story}
use Rattle.mb_rows.specs.Shows.{Shows}

-- run --trace
-- left
--     desk.x = 5;
-- right
--     desk[(print("k"), "x")] += (print("v"), 1);

abbrev left : Program
left = record {
  forms =
      NameForm (codes "desk") ∷ MemberForm 0 (codes "x") ∷ NumberForm (pos 5) ∷ AssignForm 1 2 ∷ ExprStmtForm 3 ∷
      ScriptForm (4 ∷ []) ∷
      [];
  names = [];
}

abbrev right : Program
right = record {
  forms =
      NameForm (codes "desk") ∷ NameForm (codes "print") ∷ TextForm (codes "k") ∷ CallForm 1 (2 ∷ []) ∷
      TextForm (codes "x") ∷ SeqForm (3 ∷ 4 ∷ []) ∷ GroupForm 5 ∷ IndexForm 0 6 ∷ NameForm (codes "print") ∷
      TextForm (codes "v") ∷ CallForm 8 (9 ∷ []) ∷ NumberForm (pos 1) ∷ SeqForm (10 ∷ 11 ∷ []) ∷ GroupForm 12 ∷
      CompoundForm Plus 7 13 ∷ ExprStmtForm 14 ∷ ScriptForm (15 ∷ []) ∷
      [];
  names = [];
}

abbrev policy : List Rule
policy = []

abbrev schedule : List Letter
schedule = []

abbrev told : List (List ℕ)
told =
    (codes "R k") ∷
    (codes "T 0 R #0 get \"x\" - 5") ∷
    (codes "R v") ∷
    (codes "T 1 R #0 getOwnPropertyDescriptor \"x\" - {value=5,writable=true,enumerable=true,c" ++
    codes "onfigurable=true}") ∷
    (codes "T 2 R #0 defineProperty \"x\" {value=6} true") ∷
    (codes "T 1 R #0 set \"x\" 6 true") ∷
    (codes "= done") ∷
    []

abbrev stage : Stage
stage = Story (left ∷ right ∷ []) policy schedule 1000000

pub Row : Type 0
Row = Shows true false stage told × (stage.left ≡ 999967)

pub row : Row
unfolding Row given Validate encode_utf8
row = ((refl, refl), refl)
