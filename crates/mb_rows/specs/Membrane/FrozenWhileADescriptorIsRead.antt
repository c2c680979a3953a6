use Rattle.std.specs.Prelude.{refl, ℕ, List, [], ◌∷◌, false, Some, None, codes, pos}
use Rattle.std.specs.Char.{encode_utf8}
use Rattle.mb_tree.specs.declared.kind.Sign.TheVariants.{Instanceof}
use Rattle.mb_desc.specs.Validate.{Validate}
use Rattle.mb_world.specs.Form.{Written, ScriptForm, BlockForm, ExprStmtForm, ReturnForm, TryForm, ParamForm, NameForm, NumberForm, TextForm, ObjectForm, GetterForm, MemberForm, AssignForm, CallForm, BinaryForm}
use Rattle.mb_world.specs.Graph.{Program, Rule}
use Rattle.mb_model.specs.Engine.{given}
use Rattle.mb_model.specs.Story.{Stage, Letter, Story}
use Rattle.mb_rows.specs.Shows.{bound, Shows}

-- run
-- left
--     desk.o = {};
-- right
--     try {
--       Object.defineProperty(desk.o, "k", { get value() { Object.freeze(desk.o); return 1; } });
--     } catch (e) { print(e instanceof TypeError); }
--     print(Reflect.ownKeys(desk.o).length);

abbrev left : Program
left = record {
  forms =
      NameForm (codes "desk") ∷ MemberForm 0 (codes "o") ∷ ObjectForm [] ∷ AssignForm 1 2 ∷ ExprStmtForm 3 ∷
      ScriptForm (4 ∷ []) ∷
      [];
  names = [];
}

abbrev right : Program
right = record {
  forms =
      NameForm (codes "Object") ∷ MemberForm 0 (codes "defineProperty") ∷ NameForm (codes "desk") ∷
      MemberForm 2 (codes "o") ∷ TextForm (codes "k") ∷ NameForm (codes "Object") ∷
      MemberForm 5 (codes "freeze") ∷ NameForm (codes "desk") ∷ MemberForm 7 (codes "o") ∷ CallForm 6 (8 ∷ []) ∷
      ExprStmtForm 9 ∷ NumberForm (pos 1) ∷ ReturnForm (Some 11) ∷
      GetterForm (Written (codes "value")) (record { params = []; body = (10 ∷ 12 ∷ []) }) ∷
      ObjectForm (13 ∷ []) ∷ CallForm 1 (3 ∷ 4 ∷ 14 ∷ []) ∷ ExprStmtForm 15 ∷ BlockForm (16 ∷ []) ∷
      ParamForm (codes "e") ∷ NameForm (codes "print") ∷ NameForm (codes "e") ∷ NameForm (codes "TypeError") ∷
      BinaryForm Instanceof 20 21 ∷ CallForm 19 (22 ∷ []) ∷ ExprStmtForm 23 ∷ BlockForm (24 ∷ []) ∷
      TryForm 17 (Some (codes "e")) (Some 25) None ∷ NameForm (codes "print") ∷ NameForm (codes "Reflect") ∷
      MemberForm 28 (codes "ownKeys") ∷ NameForm (codes "desk") ∷ MemberForm 30 (codes "o") ∷
      CallForm 29 (31 ∷ []) ∷ MemberForm 32 (codes "length") ∷ CallForm 27 (33 ∷ []) ∷ ExprStmtForm 34 ∷
      ScriptForm (26 ∷ 35 ∷ []) ∷
      [];
  names =
      bound 26 (codes "e") false ∷
      [];
}

abbrev policy : List Rule
policy = []

abbrev schedule : List Letter
schedule = []

abbrev told : List (List ℕ)
told =
    (codes "R true") ∷
    (codes "R 0") ∷
    (codes "= done") ∷
    []

abbrev stage : Stage
stage = Story (left ∷ right ∷ []) policy schedule 1000000

pub Row : Type 0
Row = Shows false false stage told

pub row : Row
unfolding Row given Validate encode_utf8
row = (refl, refl)
