use Rattle.std.specs.Prelude.{refl, ℕ, List, [], ◌∷◌, false, Some, None, codes}
use Rattle.std.specs.Char.{encode_utf8}
use Rattle.mb_tree.specs.declared.kind.Sign.TheVariants.{Instanceof}
use Rattle.mb_desc.specs.Validate.{Validate}
use Rattle.mb_world.specs.Form.{ScriptForm, BlockForm, ExprStmtForm, TryForm, ParamForm, NameForm, TextForm, ObjectForm, MemberForm, AssignForm, CallForm, NewForm, BinaryForm}
use Rattle.mb_world.specs.Graph.{Program, Rule}
use Rattle.mb_model.specs.Engine.{given}
use Rattle.mb_model.specs.Story.{Stage, Letter, Story}
use Rattle.mb_rows.specs.Shows.{bound, Shows}

-- run
-- left
--     desk.p = new Proxy({}, {});
-- right
--     try { new Proxy(desk.p, {}); print("made"); } catch (e) { print(e instanceof TypeError); }

abbrev left : Program
left = record {
  forms =
      NameForm (codes "desk") ∷ MemberForm 0 (codes "p") ∷ NameForm (codes "Proxy") ∷ ObjectForm [] ∷
      ObjectForm [] ∷ NewForm 2 (3 ∷ 4 ∷ []) ∷ AssignForm 1 5 ∷ ExprStmtForm 6 ∷ ScriptForm (7 ∷ []) ∷
      [];
  names = [];
}

abbrev right : Program
right = record {
  forms =
      NameForm (codes "Proxy") ∷ NameForm (codes "desk") ∷ MemberForm 1 (codes "p") ∷ ObjectForm [] ∷
      NewForm 0 (2 ∷ 3 ∷ []) ∷ ExprStmtForm 4 ∷ NameForm (codes "print") ∷ TextForm (codes "made") ∷
      CallForm 6 (7 ∷ []) ∷ ExprStmtForm 8 ∷ BlockForm (5 ∷ 9 ∷ []) ∷ ParamForm (codes "e") ∷
      NameForm (codes "print") ∷ NameForm (codes "e") ∷ NameForm (codes "TypeError") ∷
      BinaryForm Instanceof 13 14 ∷ CallForm 12 (15 ∷ []) ∷ ExprStmtForm 16 ∷ BlockForm (17 ∷ []) ∷
      TryForm 10 (Some (codes "e")) (Some 18) None ∷ ScriptForm (19 ∷ []) ∷
      [];
  names =
      bound 19 (codes "e") false ∷
      [];
}

abbrev policy : List Rule
policy = []

abbrev schedule : List Letter
schedule = []

abbrev told : List (List ℕ)
told =
    (codes "R true") ∷
    (codes "= done") ∷
    []

abbrev stage : Stage
stage = Story (left ∷ right ∷ []) policy schedule 1000000

pub Row : Type 0
Row = Shows false false stage told

pub row : Row
unfolding Row given Validate encode_utf8
row = (refl, refl)
