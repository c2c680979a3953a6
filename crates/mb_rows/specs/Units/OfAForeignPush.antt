use Rattle.std.specs.Prelude.{◌≡◌, refl, ℕ, List, [], ◌∷◌, ◌++◌, true, false, codes, pos}
use Rattle.std.specs.Char.{encode_utf8}
use Rattle.mb_desc.specs.Validate.{Validate}
use Rattle.mb_world.specs.Form.{ScriptForm, ExprStmtForm, NameForm, NumberForm, ArrayForm, MemberForm, AssignForm, CallForm}
use Rattle.mb_world.specs.Graph.{Program, Rule}
use Rattle.mb_model.specs.Engine.{given}
use Rattle.mb_model.specs.Story.{Stage, Letter, Story}
use Rattle.mb_rows.specs.Shows.{Shows}

-- run --trace
-- left
--     desk.a = [1, 2];
-- right
--     desk.a.push(5);

abbrev left : Program
left = record {
  forms =
      NameForm (codes "desk") ∷ MemberForm 0 (codes "a") ∷ NumberForm (pos 1) ∷ NumberForm (pos 2) ∷
      ArrayForm (2 ∷ 3 ∷ []) ∷ AssignForm 1 4 ∷ ExprStmtForm 5 ∷ ScriptForm (6 ∷ []) ∷
      [];
  names = [];
}

abbrev right : Program
right = record {
  forms =
      NameForm (codes "desk") ∷ MemberForm 0 (codes "a") ∷ MemberForm 1 (codes "push") ∷ NumberForm (pos 5) ∷
      CallForm 2 (3 ∷ []) ∷ ExprStmtForm 4 ∷ ScriptForm (5 ∷ []) ∷
      [];
  names = [];
}

abbrev policy : List Rule
policy = []

abbrev schedule : List Letter
schedule = []

abbrev told : List (List ℕ)
told =
    (codes "T 0 R #0 get \"a\" - #1") ∷
    (codes "T 1 R #1 get \"push\" - @Array.prototype.push") ∷
    (codes "T 2 R #1 get \"length\" - 2") ∷
    (codes "T 3 R #1 getOwnPropertyDescriptor \"2\" - none") ∷
    (codes "T 4 R #1 defineProperty \"2\" {value=5,writable=true,enumerable=true,configurable=" ++
    codes "true} true") ∷
    (codes "T 3 R #1 set \"2\" 5 true") ∷
    (codes "T 6 R #1 getOwnPropertyDescriptor \"length\" - {value=3,writable=true,enumerable=f" ++
    codes "alse,configurable=false}") ∷
    (codes "T 7 R #1 defineProperty \"length\" {value=3} true") ∷
    (codes "T 6 R #1 set \"length\" 3 true") ∷
    (codes "= done") ∷
    []

abbrev stage : Stage
stage = Story (left ∷ right ∷ []) policy schedule 1000000

pub Row : Type 0
Row = Shows true false stage told × (stage.left ≡ 999968)

pub row : Row
unfolding Row given Validate encode_utf8
row = ((refl, refl), refl)
