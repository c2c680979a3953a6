use Rattle.std.specs.Prelude.{◌≡◌, refl, ℕ, List, [], ◌∷◌, false, Some, codes, pos}
use Rattle.std.specs.Char.{encode_utf8}
use Rattle.mb_desc.specs.Validate.{Validate}
use Rattle.mb_world.specs.Form.{Written, ScriptForm, LetForm, DeclForm, ExprStmtForm, ReturnForm, NameForm, NumberForm, ObjectForm, ValueForm, GetterForm, MemberForm, CallForm}
use Rattle.mb_world.specs.Graph.{Program, Rule}
use Rattle.mb_model.specs.Engine.{given}
use Rattle.mb_model.specs.Story.{Stage, Letter, Story}
use Rattle.mb_rows.specs.Shows.{bound, Shows}

-- run
-- left
--     let o = { a: 1, get b() { return 1; } }; Object.freeze(o); Object.isFrozen(o); Object.keys(o);
-- right
--     (empty)

abbrev left : Program
left = record {
  forms =
      NumberForm (pos 1) ∷ ValueForm (Written (codes "a")) 0 ∷ NumberForm (pos 1) ∷ ReturnForm (Some 2) ∷
      GetterForm (Written (codes "b")) (record { params = []; body = (3 ∷ []) }) ∷ ObjectForm (1 ∷ 4 ∷ []) ∷
      DeclForm (codes "o") (Some 5) ∷ LetForm (6 ∷ []) ∷ NameForm (codes "Object") ∷
      MemberForm 8 (codes "freeze") ∷ NameForm (codes "o") ∷ CallForm 9 (10 ∷ []) ∷ ExprStmtForm 11 ∷
      NameForm (codes "Object") ∷ MemberForm 13 (codes "isFrozen") ∷ NameForm (codes "o") ∷
      CallForm 14 (15 ∷ []) ∷ ExprStmtForm 16 ∷ NameForm (codes "Object") ∷ MemberForm 18 (codes "keys") ∷
      NameForm (codes "o") ∷ CallForm 19 (20 ∷ []) ∷ ExprStmtForm 21 ∷ ScriptForm (7 ∷ 12 ∷ 17 ∷ 22 ∷ []) ∷
      [];
  names =
      bound 23 (codes "o") false ∷
      [];
}

abbrev right : Program
right = record {
  forms =
      ScriptForm [] ∷
      [];
  names = [];
}

abbrev policy : List Rule
policy = []

abbrev schedule : List Letter
schedule = []

abbrev told : List (List ℕ)
told =
    (codes "= done") ∷
    []

abbrev stage : Stage
stage = Story (left ∷ right ∷ []) policy schedule 1000000

pub Row : Type 0
Row = Shows false false stage told × (stage.left ≡ 999945)

pub row : Row
unfolding Row given Validate encode_utf8
row = ((refl, refl), refl)
