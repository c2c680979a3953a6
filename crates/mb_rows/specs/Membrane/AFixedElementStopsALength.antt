use Rattle.std.specs.Prelude.{refl, ℕ, List, [], ◌∷◌, false, Some, None, codes, pos}
use Rattle.std.specs.Char.{encode_utf8}
use Rattle.mb_tree.specs.declared.kind.Sign.TheVariants.{Instanceof}
use Rattle.mb_desc.specs.Validate.{Validate}
use Rattle.mb_world.specs.Value.{Truth}
use Rattle.mb_world.specs.Form.{Written, ScriptForm, BlockForm, ExprStmtForm, TryForm, ParamForm, NameForm, NumberForm, TextForm, LiteralForm, ArrayForm, ObjectForm, ValueForm, MemberForm, AssignForm, CallForm, BinaryForm}
use Rattle.mb_world.specs.Graph.{Program, Rule}
use Rattle.mb_model.specs.Engine.{given}
use Rattle.mb_model.specs.Story.{Stage, Letter, Story}
use Rattle.mb_rows.specs.Shows.{bound, Shows}

-- run
-- left
--     desk.a = [1, 2, 3];
--     Object.defineProperty(desk.a, "1", { configurable: false });
-- right
--     try { desk.a.length = 0; } catch (e) { print(e instanceof TypeError); }
--     print(desk.a.length);

abbrev left : Program
left = record {
  forms =
      NameForm (codes "desk") ∷ MemberForm 0 (codes "a") ∷ NumberForm (pos 1) ∷ NumberForm (pos 2) ∷
      NumberForm (pos 3) ∷ ArrayForm (2 ∷ 3 ∷ 4 ∷ []) ∷ AssignForm 1 5 ∷ ExprStmtForm 6 ∷
      NameForm (codes "Object") ∷ MemberForm 8 (codes "defineProperty") ∷ NameForm (codes "desk") ∷
      MemberForm 10 (codes "a") ∷ TextForm (codes "1") ∷ LiteralForm (Truth false) ∷
      ValueForm (Written (codes "configurable")) 13 ∷ ObjectForm (14 ∷ []) ∷ CallForm 9 (11 ∷ 12 ∷ 15 ∷ []) ∷
      ExprStmtForm 16 ∷ ScriptForm (7 ∷ 17 ∷ []) ∷
      [];
  names = [];
}

abbrev right : Program
right = record {
  forms =
      NameForm (codes "desk") ∷ MemberForm 0 (codes "a") ∷ MemberForm 1 (codes "length") ∷ NumberForm (pos 0) ∷
      AssignForm 2 3 ∷ ExprStmtForm 4 ∷ BlockForm (5 ∷ []) ∷ ParamForm (codes "e") ∷ NameForm (codes "print") ∷
      NameForm (codes "e") ∷ NameForm (codes "TypeError") ∷ BinaryForm Instanceof 9 10 ∷ CallForm 8 (11 ∷ []) ∷
      ExprStmtForm 12 ∷ BlockForm (13 ∷ []) ∷ TryForm 6 (Some (codes "e")) (Some 14) None ∷
      NameForm (codes "print") ∷ NameForm (codes "desk") ∷ MemberForm 17 (codes "a") ∷
      MemberForm 18 (codes "length") ∷ CallForm 16 (19 ∷ []) ∷ ExprStmtForm 20 ∷ ScriptForm (15 ∷ 21 ∷ []) ∷
      [];
  names =
      bound 15 (codes "e") false ∷
      [];
}

abbrev policy : List Rule
policy = []

abbrev schedule : List Letter
schedule = []

abbrev told : List (List ℕ)
told =
    (codes "R true") ∷
    (codes "R 2") ∷
    (codes "= done") ∷
    []

abbrev stage : Stage
stage = Story (left ∷ right ∷ []) policy schedule 1000000

pub Row : Type 0
Row = Shows false false stage told

pub row : Row
unfolding Row given Validate encode_utf8
row = (refl, refl)
