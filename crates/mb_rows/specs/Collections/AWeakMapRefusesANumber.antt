use Rattle.std.specs.Prelude.{refl, ℕ, List, [], ◌∷◌, false, Some, None, codes, pos}
use Rattle.std.specs.Char.{encode_utf8}
use Rattle.mb_tree.specs.declared.kind.Sign.TheVariants.{Instanceof}
use Rattle.mb_desc.specs.Validate.{Validate}
use Rattle.mb_world.specs.Form.{ScriptForm, LetForm, DeclForm, BlockForm, ExprStmtForm, TryForm, ParamForm, NameForm, NumberForm, MemberForm, CallForm, NewForm, BinaryForm}
use Rattle.mb_world.specs.Graph.{Program, Rule}
use Rattle.mb_model.specs.Engine.{given}
use Rattle.mb_model.specs.Story.{Stage, Letter}
use Rattle.mb_rows.specs.Collecting.{StoryWithCollections}
use Rattle.mb_rows.specs.Shows.{bound, Shows}

-- run
-- left
--     (empty)
-- right
--     let w = new WeakMap();
--     try { w.set(1, 2); } catch (e) { print(e instanceof TypeError); }
--     print(w.has(1));

abbrev left : Program
left = record {
  forms =
      ScriptForm [] ∷
      [];
  names = [];
}

abbrev right : Program
right = record {
  forms =
      NameForm (codes "WeakMap") ∷ NewForm 0 [] ∷ DeclForm (codes "w") (Some 1) ∷ LetForm (2 ∷ []) ∷
      NameForm (codes "w") ∷ MemberForm 4 (codes "set") ∷ NumberForm (pos 1) ∷ NumberForm (pos 2) ∷
      CallForm 5 (6 ∷ 7 ∷ []) ∷ ExprStmtForm 8 ∷ BlockForm (9 ∷ []) ∷ ParamForm (codes "e") ∷
      NameForm (codes "print") ∷ NameForm (codes "e") ∷ NameForm (codes "TypeError") ∷
      BinaryForm Instanceof 13 14 ∷ CallForm 12 (15 ∷ []) ∷ ExprStmtForm 16 ∷ BlockForm (17 ∷ []) ∷
      TryForm 10 (Some (codes "e")) (Some 18) None ∷ NameForm (codes "print") ∷ NameForm (codes "w") ∷
      MemberForm 21 (codes "has") ∷ NumberForm (pos 1) ∷ CallForm 22 (23 ∷ []) ∷ CallForm 20 (24 ∷ []) ∷
      ExprStmtForm 25 ∷ ScriptForm (3 ∷ 19 ∷ 26 ∷ []) ∷
      [];
  names =
      bound 19 (codes "e") false ∷ bound 27 (codes "w") false ∷
      [];
}

abbrev policy : List Rule
policy = []

abbrev schedule : List Letter
schedule = []

abbrev told : List (List ℕ)
told =
    (codes "R true") ∷
    (codes "R false") ∷
    (codes "= done") ∷
    []

abbrev stage : Stage
stage = StoryWithCollections (left ∷ right ∷ []) policy schedule 1000000

pub Row : Type 0
Row = Shows false false stage told

pub row : Row
unfolding Row given Validate encode_utf8
row = (refl, refl)
