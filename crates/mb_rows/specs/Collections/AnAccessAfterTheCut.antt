use Rattle.std.specs.Prelude.{refl, ℕ, List, [], ◌∷◌, true, false, Some, None, codes, pos}
use Rattle.std.specs.Char.{encode_utf8}
use Rattle.mb_tree.specs.declared.kind.Sign.TheVariants.{Instanceof}
use Rattle.mb_desc.specs.Validate.{Validate}
use Rattle.mb_world.specs.Form.{ScriptForm, LetForm, DeclForm, BlockForm, ExprStmtForm, TryForm, ParamForm, NameForm, NumberForm, TextForm, ArrowForm, MemberForm, AssignForm, CallForm, NewForm, BinaryForm}
use Rattle.mb_world.specs.Graph.{Program, Rule}
use Rattle.mb_model.specs.Engine.{given}
use Rattle.mb_model.specs.Story.{Stage, Letter, Side, Cut}
use Rattle.mb_rows.specs.Collecting.{StoryWithCollections}
use Rattle.mb_rows.specs.Shows.{bound, Shows}

-- run --schedule LRX
-- left
--     desk.m = new Map();
--     desk.m.set(1, 1);
-- right
--     let m = desk.m, get = m.get;
--     print(get.call(m, 1));
--     later(() => {
--       try { get.call(m, 1); print("open"); } catch (e) { print(e instanceof TypeError); }
--     });

abbrev left : Program
left = record {
  forms =
      NameForm (codes "desk") ∷ MemberForm 0 (codes "m") ∷ NameForm (codes "Map") ∷ NewForm 2 [] ∷
      AssignForm 1 3 ∷ ExprStmtForm 4 ∷ NameForm (codes "desk") ∷ MemberForm 6 (codes "m") ∷
      MemberForm 7 (codes "set") ∷ NumberForm (pos 1) ∷ NumberForm (pos 1) ∷ CallForm 8 (9 ∷ 10 ∷ []) ∷
      ExprStmtForm 11 ∷ ScriptForm (5 ∷ 12 ∷ []) ∷
      [];
  names = [];
}

abbrev right : Program
right = record {
  forms =
      NameForm (codes "desk") ∷ MemberForm 0 (codes "m") ∷ DeclForm (codes "m") (Some 1) ∷ NameForm (codes "m") ∷
      MemberForm 3 (codes "get") ∷ DeclForm (codes "get") (Some 4) ∷ LetForm (2 ∷ 5 ∷ []) ∷
      NameForm (codes "print") ∷ NameForm (codes "get") ∷ MemberForm 8 (codes "call") ∷ NameForm (codes "m") ∷
      NumberForm (pos 1) ∷ CallForm 9 (10 ∷ 11 ∷ []) ∷ CallForm 7 (12 ∷ []) ∷ ExprStmtForm 13 ∷
      NameForm (codes "later") ∷ NameForm (codes "get") ∷ MemberForm 16 (codes "call") ∷ NameForm (codes "m") ∷
      NumberForm (pos 1) ∷ CallForm 17 (18 ∷ 19 ∷ []) ∷ ExprStmtForm 20 ∷ NameForm (codes "print") ∷
      TextForm (codes "open") ∷ CallForm 22 (23 ∷ []) ∷ ExprStmtForm 24 ∷ BlockForm (21 ∷ 25 ∷ []) ∷
      ParamForm (codes "e") ∷ NameForm (codes "print") ∷ NameForm (codes "e") ∷ NameForm (codes "TypeError") ∷
      BinaryForm Instanceof 29 30 ∷ CallForm 28 (31 ∷ []) ∷ ExprStmtForm 32 ∷ BlockForm (33 ∷ []) ∷
      TryForm 26 (Some (codes "e")) (Some 34) None ∷ ArrowForm (record { params = []; body = (35 ∷ []) }) true ∷
      CallForm 15 (36 ∷ []) ∷ ExprStmtForm 37 ∷ ScriptForm (6 ∷ 14 ∷ 38 ∷ []) ∷
      [];
  names =
      bound 35 (codes "e") false ∷ bound 39 (codes "m") false ∷ bound 39 (codes "get") false ∷
      [];
}

abbrev policy : List Rule
policy = []

abbrev schedule : List Letter
schedule =
    Side 0 ∷
    Side 1 ∷
    Cut ∷
    []

abbrev told : List (List ℕ)
told =
    (codes "R 1") ∷
    (codes "R true") ∷
    (codes "= done") ∷
    []

abbrev stage : Stage
stage = StoryWithCollections (left ∷ right ∷ []) policy schedule 1000000

pub Row : Type 0
Row = Shows false false stage told

pub row : Row
unfolding Row given Validate encode_utf8
row = (refl, refl)
