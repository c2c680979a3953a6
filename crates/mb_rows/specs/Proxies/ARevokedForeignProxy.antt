use Rattle.std.specs.Prelude.{refl, ℕ, List, [], ◌∷◌, false, Some, None, codes}
use Rattle.std.specs.Char.{encode_utf8}
use Rattle.mb_tree.specs.declared.kind.Sign.TheVariants.{Instanceof, Typeof}
use Rattle.mb_desc.specs.Validate.{Validate}
use Rattle.mb_world.specs.Form.{ScriptForm, LetForm, DeclForm, BlockForm, ExprStmtForm, TryForm, ParamForm, NameForm, ArrayForm, ObjectForm, MemberForm, AssignForm, CallForm, UnaryForm, BinaryForm}
use Rattle.mb_world.specs.Graph.{Program, Rule}
use Rattle.mb_model.specs.Engine.{given}
use Rattle.mb_model.specs.Story.{Stage, Letter, Story}
use Rattle.mb_rows.specs.Shows.{bound, Shows}

-- run
-- left
--     let v = Proxy.revocable([], {});
--     desk.p = v.proxy;
--     v.revoke();
-- right
--     try { Array.isArray(desk.p); } catch (e) { print(e instanceof TypeError); }
--     print(typeof desk.p);

abbrev left : Program
left = record {
  forms =
      NameForm (codes "Proxy") ∷ MemberForm 0 (codes "revocable") ∷ ArrayForm [] ∷ ObjectForm [] ∷
      CallForm 1 (2 ∷ 3 ∷ []) ∷ DeclForm (codes "v") (Some 4) ∷ LetForm (5 ∷ []) ∷ NameForm (codes "desk") ∷
      MemberForm 7 (codes "p") ∷ NameForm (codes "v") ∷ MemberForm 9 (codes "proxy") ∷ AssignForm 8 10 ∷
      ExprStmtForm 11 ∷ NameForm (codes "v") ∷ MemberForm 13 (codes "revoke") ∷ CallForm 14 [] ∷
      ExprStmtForm 15 ∷ ScriptForm (6 ∷ 12 ∷ 16 ∷ []) ∷
      [];
  names =
      bound 17 (codes "v") false ∷
      [];
}

abbrev right : Program
right = record {
  forms =
      NameForm (codes "Array") ∷ MemberForm 0 (codes "isArray") ∷ NameForm (codes "desk") ∷
      MemberForm 2 (codes "p") ∷ CallForm 1 (3 ∷ []) ∷ ExprStmtForm 4 ∷ BlockForm (5 ∷ []) ∷
      ParamForm (codes "e") ∷ NameForm (codes "print") ∷ NameForm (codes "e") ∷ NameForm (codes "TypeError") ∷
      BinaryForm Instanceof 9 10 ∷ CallForm 8 (11 ∷ []) ∷ ExprStmtForm 12 ∷ BlockForm (13 ∷ []) ∷
      TryForm 6 (Some (codes "e")) (Some 14) None ∷ NameForm (codes "print") ∷ NameForm (codes "desk") ∷
      MemberForm 17 (codes "p") ∷ UnaryForm Typeof 18 ∷ CallForm 16 (19 ∷ []) ∷ ExprStmtForm 20 ∷
      ScriptForm (15 ∷ 21 ∷ []) ∷
      [];
  names =
      bound 15 (codes "e") false ∷
      [];
}

abbrev policy : List Rule
policy = []

abbrev schedule : List Letter
schedule = []

abbrev told : List (List ℕ)
told =
    (codes "R true") ∷
    (codes "R object") ∷
    (codes "= done") ∷
    []

abbrev stage : Stage
stage = Story (left ∷ right ∷ []) policy schedule 1000000

pub Row : Type 0
Row = Shows false false stage told

pub row : Row
unfolding Row given Validate encode_utf8
row = (refl, refl)
