use Rattle.std.specs.Prelude.{◌≡◌, refl, ℕ, List, [], ◌∷◌, true, false, Some, codes, pos}
use Rattle.std.specs.Char.{encode_utf8}
use Rattle.mb_desc.specs.Validate.{Validate}
use Rattle.mb_world.specs.Value.{Truth}
use Rattle.mb_world.specs.Form.{Written, ScriptForm, LetForm, DeclForm, ExprStmtForm, NameForm, NumberForm, LiteralForm, ObjectForm, ValueForm, ArrowForm, MemberForm, AssignForm, NewForm}
use Rattle.mb_world.specs.Graph.{Program, Rule}
use Rattle.mb_model.specs.Engine.{given}
use Rattle.mb_model.specs.Story.{Stage, Letter, Story}
use Rattle.mb_rows.specs.Shows.{bound, Shows}

-- run
-- left
--     let p = new Proxy({}, { defineProperty: () => true }); p.x = 1;
-- right
--     (empty)

abbrev left : Program
left = record {
  forms =
      NameForm (codes "Proxy") ∷ ObjectForm [] ∷ LiteralForm (Truth true) ∷
      ArrowForm (record { params = []; body = (2 ∷ []) }) false ∷
      ValueForm (Written (codes "defineProperty")) 3 ∷ ObjectForm (4 ∷ []) ∷ NewForm 0 (1 ∷ 5 ∷ []) ∷
      DeclForm (codes "p") (Some 6) ∷ LetForm (7 ∷ []) ∷ NameForm (codes "p") ∷ MemberForm 9 (codes "x") ∷
      NumberForm (pos 1) ∷ AssignForm 10 11 ∷ ExprStmtForm 12 ∷ ScriptForm (8 ∷ 13 ∷ []) ∷
      [];
  names =
      bound 14 (codes "p") false ∷
      [];
}

abbrev right : Program
right = record {
  forms =
      ScriptForm [] ∷
      [];
  names = [];
}

abbrev policy : List Rule
policy = []

abbrev schedule : List Letter
schedule = []

abbrev told : List (List ℕ)
told =
    (codes "= done") ∷
    []

abbrev stage : Stage
stage = Story (left ∷ right ∷ []) policy schedule 1000000

pub Row : Type 0
Row = Shows false false stage told × (stage.left ≡ 999969)

pub row : Row
unfolding Row given Validate encode_utf8
row = ((refl, refl), refl)
