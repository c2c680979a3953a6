use Rattle.std.specs.Prelude.{refl, ℕ, List, [], ◌∷◌, true, false, Some, None, codes, pos}
use Rattle.std.specs.Char.{encode_utf8}
use Rattle.mb_desc.specs.Validate.{Validate}
use Rattle.mb_world.specs.Form.{Written, ScriptForm, BlockForm, ExprStmtForm, TryForm, ParamForm, NameForm, NumberForm, ObjectForm, ValueForm, ArrowForm, MemberForm, AssignForm, CallForm, NewForm}
use Rattle.mb_world.specs.Graph.{Program, Rule}
use Rattle.mb_model.specs.Engine.{given}
use Rattle.mb_model.specs.Story.{Stage, Letter, Story}
use Rattle.mb_rows.specs.Shows.{bound, Shows}

-- run --trace
-- left
--     desk.p = new Proxy(Object.freeze({ a: 1 }), { get: () => 2 });
-- right
--     try { desk.p.a; } catch (e) { e.message; }

abbrev left : Program
left = record {
  forms =
      NameForm (codes "desk") ∷ MemberForm 0 (codes "p") ∷ NameForm (codes "Proxy") ∷ NameForm (codes "Object") ∷
      MemberForm 3 (codes "freeze") ∷ NumberForm (pos 1) ∷ ValueForm (Written (codes "a")) 5 ∷
      ObjectForm (6 ∷ []) ∷ CallForm 4 (7 ∷ []) ∷ NumberForm (pos 2) ∷
      ArrowForm (record { params = []; body = (9 ∷ []) }) false ∷ ValueForm (Written (codes "get")) 10 ∷
      ObjectForm (11 ∷ []) ∷ NewForm 2 (8 ∷ 12 ∷ []) ∷ AssignForm 1 13 ∷ ExprStmtForm 14 ∷ ScriptForm (15 ∷ []) ∷
      [];
  names = [];
}

abbrev right : Program
right = record {
  forms =
      NameForm (codes "desk") ∷ MemberForm 0 (codes "p") ∷ MemberForm 1 (codes "a") ∷ ExprStmtForm 2 ∷
      BlockForm (3 ∷ []) ∷ ParamForm (codes "e") ∷ NameForm (codes "e") ∷ MemberForm 6 (codes "message") ∷
      ExprStmtForm 7 ∷ BlockForm (8 ∷ []) ∷ TryForm 4 (Some (codes "e")) (Some 9) None ∷ ScriptForm (10 ∷ []) ∷
      [];
  names =
      bound 10 (codes "e") false ∷
      [];
}

abbrev policy : List Rule
policy = []

abbrev schedule : List Letter
schedule = []

abbrev told : List (List ℕ)
told =
    (codes "T 0 R #0 get \"p\" - #4") ∷
    (codes "T 1 R #4 get \"a\" - throw #5") ∷
    (codes "T 2 R #5 get \"message\" - \"\"") ∷
    (codes "= done") ∷
    []

abbrev stage : Stage
stage = Story (left ∷ right ∷ []) policy schedule 1000000

pub Row : Type 0
Row = Shows true false stage told

pub row : Row
unfolding Row given Validate encode_utf8
row = (refl, refl)
