use Rattle.std.specs.Prelude.{◌≡◌, refl, ℕ, List, [], ◌∷◌, false, Some, codes}
use Rattle.std.specs.Char.{encode_utf8}
use Rattle.mb_desc.specs.Validate.{Validate}
use Rattle.mb_world.specs.Value.{Null}
use Rattle.mb_world.specs.Form.{ScriptForm, LetForm, DeclForm, ExprStmtForm, NameForm, LiteralForm, ObjectForm, MemberForm, CallForm}
use Rattle.mb_world.specs.Graph.{Program, Rule}
use Rattle.mb_model.specs.Engine.{given}
use Rattle.mb_model.specs.Story.{Stage, Letter, Story}
use Rattle.mb_rows.specs.Shows.{bound, Shows}

-- run
-- left
--     let a = {}; let b = Object.create(a); let c = Object.create(b); print(Reflect.setPrototypeOf(a, c), Reflect.setPrototypeOf(a, a), Reflect.setPrototypeOf(c, null), Reflect.setPrototypeOf(c, b));
-- right
--     (empty)

abbrev left : Program
left = record {
  forms =
      ObjectForm [] ∷ DeclForm (codes "a") (Some 0) ∷ LetForm (1 ∷ []) ∷ NameForm (codes "Object") ∷
      MemberForm 3 (codes "create") ∷ NameForm (codes "a") ∷ CallForm 4 (5 ∷ []) ∷
      DeclForm (codes "b") (Some 6) ∷ LetForm (7 ∷ []) ∷ NameForm (codes "Object") ∷
      MemberForm 9 (codes "create") ∷ NameForm (codes "b") ∷ CallForm 10 (11 ∷ []) ∷
      DeclForm (codes "c") (Some 12) ∷ LetForm (13 ∷ []) ∷ NameForm (codes "print") ∷
      NameForm (codes "Reflect") ∷ MemberForm 16 (codes "setPrototypeOf") ∷ NameForm (codes "a") ∷
      NameForm (codes "c") ∷ CallForm 17 (18 ∷ 19 ∷ []) ∷ NameForm (codes "Reflect") ∷
      MemberForm 21 (codes "setPrototypeOf") ∷ NameForm (codes "a") ∷ NameForm (codes "a") ∷
      CallForm 22 (23 ∷ 24 ∷ []) ∷ NameForm (codes "Reflect") ∷ MemberForm 26 (codes "setPrototypeOf") ∷
      NameForm (codes "c") ∷ LiteralForm (Null) ∷ CallForm 27 (28 ∷ 29 ∷ []) ∷ NameForm (codes "Reflect") ∷
      MemberForm 31 (codes "setPrototypeOf") ∷ NameForm (codes "c") ∷ NameForm (codes "b") ∷
      CallForm 32 (33 ∷ 34 ∷ []) ∷ CallForm 15 (20 ∷ 25 ∷ 30 ∷ 35 ∷ []) ∷ ExprStmtForm 36 ∷
      ScriptForm (2 ∷ 8 ∷ 14 ∷ 37 ∷ []) ∷
      [];
  names =
      bound 38 (codes "a") false ∷ bound 38 (codes "b") false ∷ bound 38 (codes "c") false ∷
      [];
}

abbrev right : Program
right = record {
  forms =
      ScriptForm [] ∷
      [];
  names = [];
}

abbrev policy : List Rule
policy = []

abbrev schedule : List Letter
schedule = []

abbrev told : List (List ℕ)
told =
    (codes "L false false true true") ∷
    (codes "= done") ∷
    []

abbrev stage : Stage
stage = Story (left ∷ right ∷ []) policy schedule 1000000

pub Row : Type 0
Row = Shows false false stage told × (stage.left ≡ 999931)

pub row : Row
unfolding Row given Validate encode_utf8
row = ((refl, refl), refl)
