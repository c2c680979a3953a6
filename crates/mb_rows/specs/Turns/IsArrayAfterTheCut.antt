use Rattle.std.specs.Prelude.{refl, ℕ, List, [], ◌∷◌, true, false, Some, None, codes}
use Rattle.std.specs.Char.{encode_utf8}
use Rattle.mb_tree.specs.declared.kind.Sign.TheVariants.{Instanceof}
use Rattle.mb_desc.specs.Validate.{Validate}
use Rattle.mb_world.specs.Form.{ScriptForm, LetForm, DeclForm, BlockForm, ExprStmtForm, TryForm, ParamForm, NameForm, TextForm, ArrayForm, ArrowForm, MemberForm, AssignForm, CallForm, BinaryForm}
use Rattle.mb_world.specs.Graph.{Program, Rule}
use Rattle.mb_model.specs.Engine.{given}
use Rattle.mb_model.specs.Story.{Stage, Letter, Side, Cut, Story}
use Rattle.mb_rows.specs.Shows.{bound, Shows}

-- run --schedule LRX
-- left
--     desk.a = [];
-- right
--     let a = desk.a;
--     print(Array.isArray(a));
--     later(() => {
--       try { Array.isArray(a); print("open"); } catch (e) { print(e instanceof TypeError); }
--     });

abbrev left : Program
left = record {
  forms =
      NameForm (codes "desk") ∷ MemberForm 0 (codes "a") ∷ ArrayForm [] ∷ AssignForm 1 2 ∷ ExprStmtForm 3 ∷
      ScriptForm (4 ∷ []) ∷
      [];
  names = [];
}

abbrev right : Program
right = record {
  forms =
      NameForm (codes "desk") ∷ MemberForm 0 (codes "a") ∷ DeclForm (codes "a") (Some 1) ∷ LetForm (2 ∷ []) ∷
      NameForm (codes "print") ∷ NameForm (codes "Array") ∷ MemberForm 5 (codes "isArray") ∷
      NameForm (codes "a") ∷ CallForm 6 (7 ∷ []) ∷ CallForm 4 (8 ∷ []) ∷ ExprStmtForm 9 ∷
      NameForm (codes "later") ∷ NameForm (codes "Array") ∷ MemberForm 12 (codes "isArray") ∷
      NameForm (codes "a") ∷ CallForm 13 (14 ∷ []) ∷ ExprStmtForm 15 ∷ NameForm (codes "print") ∷
      TextForm (codes "open") ∷ CallForm 17 (18 ∷ []) ∷ ExprStmtForm 19 ∷ BlockForm (16 ∷ 20 ∷ []) ∷
      ParamForm (codes "e") ∷ NameForm (codes "print") ∷ NameForm (codes "e") ∷ NameForm (codes "TypeError") ∷
      BinaryForm Instanceof 24 25 ∷ CallForm 23 (26 ∷ []) ∷ ExprStmtForm 27 ∷ BlockForm (28 ∷ []) ∷
      TryForm 21 (Some (codes "e")) (Some 29) None ∷ ArrowForm (record { params = []; body = (30 ∷ []) }) true ∷
      CallForm 11 (31 ∷ []) ∷ ExprStmtForm 32 ∷ ScriptForm (3 ∷ 10 ∷ 33 ∷ []) ∷
      [];
  names =
      bound 30 (codes "e") false ∷ bound 34 (codes "a") false ∷
      [];
}

abbrev policy : List Rule
policy = []

abbrev schedule : List Letter
schedule =
    Side 0 ∷
    Side 1 ∷
    Cut ∷
    []

abbrev told : List (List ℕ)
told =
    (codes "R true") ∷
    (codes "R true") ∷
    (codes "= done") ∷
    []

abbrev stage : Stage
stage = Story (left ∷ right ∷ []) policy schedule 1000000

pub Row : Type 0
Row = Shows false false stage told

pub row : Row
unfolding Row given Validate encode_utf8
row = (refl, refl)
