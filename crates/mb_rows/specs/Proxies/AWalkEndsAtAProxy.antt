use Rattle.std.specs.Prelude.{◌≡◌, refl, ℕ, List, [], ◌∷◌, false, Some, codes}
use Rattle.std.specs.Char.{encode_utf8}
use Rattle.mb_desc.specs.Validate.{Validate}
use Rattle.mb_world.specs.Form.{ScriptForm, LetForm, DeclForm, ExprStmtForm, NameForm, ObjectForm, MemberForm, CallForm, NewForm}
use Rattle.mb_world.specs.Graph.{Program, Rule}
use Rattle.mb_model.specs.Engine.{given}
use Rattle.mb_model.specs.Story.{Stage, Letter, Story}
use Rattle.mb_rows.specs.Shows.{bound, Shows}

-- run --budget 400
-- left
--     let a = {}; let p = new Proxy(a, {}); print(Reflect.setPrototypeOf(a, p)); let b = Object.create(p); print(Reflect.setPrototypeOf(a, b)); a.foo;
-- right
--     (empty)

abbrev left : Program
left = record {
  forms =
      ObjectForm [] ∷ DeclForm (codes "a") (Some 0) ∷ LetForm (1 ∷ []) ∷ NameForm (codes "Proxy") ∷
      NameForm (codes "a") ∷ ObjectForm [] ∷ NewForm 3 (4 ∷ 5 ∷ []) ∷ DeclForm (codes "p") (Some 6) ∷
      LetForm (7 ∷ []) ∷ NameForm (codes "print") ∷ NameForm (codes "Reflect") ∷
      MemberForm 10 (codes "setPrototypeOf") ∷ NameForm (codes "a") ∷ NameForm (codes "p") ∷
      CallForm 11 (12 ∷ 13 ∷ []) ∷ CallForm 9 (14 ∷ []) ∷ ExprStmtForm 15 ∷ NameForm (codes "Object") ∷
      MemberForm 17 (codes "create") ∷ NameForm (codes "p") ∷ CallForm 18 (19 ∷ []) ∷
      DeclForm (codes "b") (Some 20) ∷ LetForm (21 ∷ []) ∷ NameForm (codes "print") ∷
      NameForm (codes "Reflect") ∷ MemberForm 24 (codes "setPrototypeOf") ∷ NameForm (codes "a") ∷
      NameForm (codes "b") ∷ CallForm 25 (26 ∷ 27 ∷ []) ∷ CallForm 23 (28 ∷ []) ∷ ExprStmtForm 29 ∷
      NameForm (codes "a") ∷ MemberForm 31 (codes "foo") ∷ ExprStmtForm 32 ∷
      ScriptForm (2 ∷ 8 ∷ 16 ∷ 22 ∷ 30 ∷ 33 ∷ []) ∷
      [];
  names =
      bound 34 (codes "a") false ∷ bound 34 (codes "p") false ∷ bound 34 (codes "b") false ∷
      [];
}

abbrev right : Program
right = record {
  forms =
      ScriptForm [] ∷
      [];
  names = [];
}

abbrev policy : List Rule
policy = []

abbrev schedule : List Letter
schedule = []

abbrev told : List (List ℕ)
told =
    (codes "L true") ∷
    (codes "L true") ∷
    (codes "= spent") ∷
    []

abbrev stage : Stage
stage = Story (left ∷ right ∷ []) policy schedule 400

pub Row : Type 0
Row = Shows false false stage told × (stage.left ≡ 0)

pub row : Row
unfolding Row given Validate encode_utf8
row = ((refl, refl), refl)
