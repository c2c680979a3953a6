use Rattle.std.specs.Prelude.{refl, ℕ, List, [], ◌∷◌, false, codes, pos}
use Rattle.std.specs.Char.{encode_utf8}
use Rattle.mb_tree.specs.declared.kind.Sign.TheVariants.{TripleEqual}
use Rattle.mb_desc.specs.Validate.{Validate}
use Rattle.mb_world.specs.Form.{ScriptForm, ExprStmtForm, NameForm, NumberForm, TextForm, ObjectForm, MemberForm, AssignForm, CallForm, NewForm, BinaryForm}
use Rattle.mb_world.specs.Graph.{Program, Rule}
use Rattle.mb_model.specs.Engine.{given}
use Rattle.mb_model.specs.Story.{Stage, Letter}
use Rattle.mb_rows.specs.Collecting.{StoryWithCollections}
use Rattle.mb_rows.specs.Shows.{Shows}

-- run
-- left
--     desk.m = new Map();
--     desk.k = {};
--     desk.m.set(desk.k, 1);
-- right
--     print(desk.m.get(desk.k));
--     desk.m.set("z", desk.m);
--     print(desk.m.get("z") === desk.m);
--     print(desk.m.size);

abbrev left : Program
left = record {
  forms =
      NameForm (codes "desk") ∷ MemberForm 0 (codes "m") ∷ NameForm (codes "Map") ∷ NewForm 2 [] ∷
      AssignForm 1 3 ∷ ExprStmtForm 4 ∷ NameForm (codes "desk") ∷ MemberForm 6 (codes "k") ∷ ObjectForm [] ∷
      AssignForm 7 8 ∷ ExprStmtForm 9 ∷ NameForm (codes "desk") ∷ MemberForm 11 (codes "m") ∷
      MemberForm 12 (codes "set") ∷ NameForm (codes "desk") ∷ MemberForm 14 (codes "k") ∷ NumberForm (pos 1) ∷
      CallForm 13 (15 ∷ 16 ∷ []) ∷ ExprStmtForm 17 ∷ ScriptForm (5 ∷ 10 ∷ 18 ∷ []) ∷
      [];
  names = [];
}

abbrev right : Program
right = record {
  forms =
      NameForm (codes "print") ∷ NameForm (codes "desk") ∷ MemberForm 1 (codes "m") ∷
      MemberForm 2 (codes "get") ∷ NameForm (codes "desk") ∷ MemberForm 4 (codes "k") ∷ CallForm 3 (5 ∷ []) ∷
      CallForm 0 (6 ∷ []) ∷ ExprStmtForm 7 ∷ NameForm (codes "desk") ∷ MemberForm 9 (codes "m") ∷
      MemberForm 10 (codes "set") ∷ TextForm (codes "z") ∷ NameForm (codes "desk") ∷ MemberForm 13 (codes "m") ∷
      CallForm 11 (12 ∷ 14 ∷ []) ∷ ExprStmtForm 15 ∷ NameForm (codes "print") ∷ NameForm (codes "desk") ∷
      MemberForm 18 (codes "m") ∷ MemberForm 19 (codes "get") ∷ TextForm (codes "z") ∷ CallForm 20 (21 ∷ []) ∷
      NameForm (codes "desk") ∷ MemberForm 23 (codes "m") ∷ BinaryForm TripleEqual 22 24 ∷
      CallForm 17 (25 ∷ []) ∷ ExprStmtForm 26 ∷ NameForm (codes "print") ∷ NameForm (codes "desk") ∷
      MemberForm 29 (codes "m") ∷ MemberForm 30 (codes "size") ∷ CallForm 28 (31 ∷ []) ∷ ExprStmtForm 32 ∷
      ScriptForm (8 ∷ 16 ∷ 27 ∷ 33 ∷ []) ∷
      [];
  names = [];
}

abbrev policy : List Rule
policy = []

abbrev schedule : List Letter
schedule = []

abbrev told : List (List ℕ)
told =
    (codes "R 1") ∷
    (codes "R true") ∷
    (codes "R 2") ∷
    (codes "= done") ∷
    []

abbrev stage : Stage
stage = StoryWithCollections (left ∷ right ∷ []) policy schedule 1000000

pub Row : Type 0
Row = Shows false false stage told

pub row : Row
unfolding Row given Validate encode_utf8
row = (refl, refl)
