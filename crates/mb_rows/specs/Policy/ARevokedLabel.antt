use Rattle.std.specs.Prelude.{refl, ℕ, List, [], ◌∷◌, false, Some, None, codes, pos}
use Rattle.std.specs.Char.{encode_utf8}
use Rattle.mb_tree.specs.declared.kind.Sign.TheVariants.{Instanceof}
use Rattle.mb_desc.specs.Validate.{Validate}
use Rattle.mb_world.specs.Form.{ScriptForm, BlockForm, ExprStmtForm, TryForm, ParamForm, NameForm, NumberForm, TextForm, MemberForm, AssignForm, CallForm, BinaryForm}
use Rattle.mb_world.specs.Graph.{Program, Rule, Revoke}
use Rattle.mb_model.specs.Engine.{given}
use Rattle.mb_model.specs.Story.{Stage, Letter, Story}
use Rattle.mb_rows.specs.Shows.{bound, Shows}

-- run
-- left
--     desk.k = labelled("Pin");
--     desk.k.x = 1;
--     print(desk.k.x);
-- right
--     try { desk.k.x; } catch (e) { print(e instanceof TypeError); }
-- policy
--     version = 1
--
--     [[rule]]
--     kind = "revoke"
--     label = "Pin"

abbrev left : Program
left = record {
  forms =
      NameForm (codes "desk") ∷ MemberForm 0 (codes "k") ∷ NameForm (codes "labelled") ∷ TextForm (codes "Pin") ∷
      CallForm 2 (3 ∷ []) ∷ AssignForm 1 4 ∷ ExprStmtForm 5 ∷ NameForm (codes "desk") ∷
      MemberForm 7 (codes "k") ∷ MemberForm 8 (codes "x") ∷ NumberForm (pos 1) ∷ AssignForm 9 10 ∷
      ExprStmtForm 11 ∷ NameForm (codes "print") ∷ NameForm (codes "desk") ∷ MemberForm 14 (codes "k") ∷
      MemberForm 15 (codes "x") ∷ CallForm 13 (16 ∷ []) ∷ ExprStmtForm 17 ∷ ScriptForm (6 ∷ 12 ∷ 18 ∷ []) ∷
      [];
  names = [];
}

abbrev right : Program
right = record {
  forms =
      NameForm (codes "desk") ∷ MemberForm 0 (codes "k") ∷ MemberForm 1 (codes "x") ∷ ExprStmtForm 2 ∷
      BlockForm (3 ∷ []) ∷ ParamForm (codes "e") ∷ NameForm (codes "print") ∷ NameForm (codes "e") ∷
      NameForm (codes "TypeError") ∷ BinaryForm Instanceof 7 8 ∷ CallForm 6 (9 ∷ []) ∷ ExprStmtForm 10 ∷
      BlockForm (11 ∷ []) ∷ TryForm 4 (Some (codes "e")) (Some 12) None ∷ ScriptForm (13 ∷ []) ∷
      [];
  names =
      bound 13 (codes "e") false ∷
      [];
}

abbrev policy : List Rule
policy =
    record { label = (codes "Pin"); kind = Revoke; owner = None; viewer = None } ∷
    []

abbrev schedule : List Letter
schedule = []

abbrev told : List (List ℕ)
told =
    (codes "L 1") ∷
    (codes "R true") ∷
    (codes "= done") ∷
    []

abbrev stage : Stage
stage = Story (left ∷ right ∷ []) policy schedule 1000000

pub Row : Type 0
Row = Shows false false stage told

pub row : Row
unfolding Row given Validate encode_utf8
row = (refl, refl)
