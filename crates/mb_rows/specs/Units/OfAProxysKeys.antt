use Rattle.std.specs.Prelude.{◌≡◌, refl, ℕ, List, [], ◌∷◌, false, Some, codes, pos}
use Rattle.std.specs.Char.{encode_utf8}
use Rattle.mb_desc.specs.Validate.{Validate}
use Rattle.mb_world.specs.Form.{Written, ScriptForm, LetForm, DeclForm, ExprStmtForm, NameForm, NumberForm, ObjectForm, ValueForm, MemberForm, CallForm, NewForm}
use Rattle.mb_world.specs.Graph.{Program, Rule}
use Rattle.mb_model.specs.Engine.{given}
use Rattle.mb_model.specs.Story.{Stage, Letter, Story}
use Rattle.mb_rows.specs.Shows.{bound, Shows}

-- run
-- left
--     let p = new Proxy({ a: 1, b: 2 }, {}); Reflect.ownKeys(p);
-- right
--     (empty)

abbrev left : Program
left = record {
  forms =
      NameForm (codes "Proxy") ∷ NumberForm (pos 1) ∷ ValueForm (Written (codes "a")) 1 ∷ NumberForm (pos 2) ∷
      ValueForm (Written (codes "b")) 3 ∷ ObjectForm (2 ∷ 4 ∷ []) ∷ ObjectForm [] ∷ NewForm 0 (5 ∷ 6 ∷ []) ∷
      DeclForm (codes "p") (Some 7) ∷ LetForm (8 ∷ []) ∷ NameForm (codes "Reflect") ∷
      MemberForm 10 (codes "ownKeys") ∷ NameForm (codes "p") ∷ CallForm 11 (12 ∷ []) ∷ ExprStmtForm 13 ∷
      ScriptForm (9 ∷ 14 ∷ []) ∷
      [];
  names =
      bound 15 (codes "p") false ∷
      [];
}

abbrev right : Program
right = record {
  forms =
      ScriptForm [] ∷
      [];
  names = [];
}

abbrev policy : List Rule
policy = []

abbrev schedule : List Letter
schedule = []

abbrev told : List (List ℕ)
told =
    (codes "= done") ∷
    []

abbrev stage : Stage
stage = Story (left ∷ right ∷ []) policy schedule 1000000

pub Row : Type 0
Row = Shows false false stage told × (stage.left ≡ 999972)

pub row : Row
unfolding Row given Validate encode_utf8
row = ((refl, refl), refl)
