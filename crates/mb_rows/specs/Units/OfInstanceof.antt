use Rattle.std.specs.Prelude.{◌≡◌, refl, ℕ, List, [], ◌∷◌, false, Some, codes, pos}
use Rattle.std.specs.Char.{encode_utf8}
use Rattle.mb_tree.specs.declared.kind.Sign.TheVariants.{In}
use Rattle.mb_desc.specs.Validate.{Validate}
use Rattle.mb_world.specs.Form.{Written, ScriptForm, LetForm, DeclForm, ExprStmtForm, ReturnForm, NameForm, NumberForm, TextForm, ObjectForm, ValueForm, GetterForm, MemberForm, CallForm, BinaryForm}
use Rattle.mb_world.specs.Graph.{Program, Rule}
use Rattle.mb_model.specs.Engine.{given}
use Rattle.mb_model.specs.Story.{Stage, Letter, Story}
use Rattle.mb_rows.specs.Shows.{bound, Shows}

-- run
-- left
--     let a = { get g() { return 1; }, k: 2 }; let b = Object.create(Object.create(a)); b.k; b.g; "k" in b; "zz" in b;
-- right
--     (empty)

abbrev left : Program
left = record {
  forms =
      NumberForm (pos 1) ∷ ReturnForm (Some 0) ∷
      GetterForm (Written (codes "g")) (record { params = []; body = (1 ∷ []) }) ∷ NumberForm (pos 2) ∷
      ValueForm (Written (codes "k")) 3 ∷ ObjectForm (2 ∷ 4 ∷ []) ∷ DeclForm (codes "a") (Some 5) ∷
      LetForm (6 ∷ []) ∷ NameForm (codes "Object") ∷ MemberForm 8 (codes "create") ∷ NameForm (codes "Object") ∷
      MemberForm 10 (codes "create") ∷ NameForm (codes "a") ∷ CallForm 11 (12 ∷ []) ∷ CallForm 9 (13 ∷ []) ∷
      DeclForm (codes "b") (Some 14) ∷ LetForm (15 ∷ []) ∷ NameForm (codes "b") ∷ MemberForm 17 (codes "k") ∷
      ExprStmtForm 18 ∷ NameForm (codes "b") ∷ MemberForm 20 (codes "g") ∷ ExprStmtForm 21 ∷
      TextForm (codes "k") ∷ NameForm (codes "b") ∷ BinaryForm In 23 24 ∷ ExprStmtForm 25 ∷
      TextForm (codes "zz") ∷ NameForm (codes "b") ∷ BinaryForm In 27 28 ∷ ExprStmtForm 29 ∷
      ScriptForm (7 ∷ 16 ∷ 19 ∷ 22 ∷ 26 ∷ 30 ∷ []) ∷
      [];
  names =
      bound 31 (codes "a") false ∷ bound 31 (codes "b") false ∷
      [];
}

abbrev right : Program
right = record {
  forms =
      ScriptForm [] ∷
      [];
  names = [];
}

abbrev policy : List Rule
policy = []

abbrev schedule : List Letter
schedule = []

abbrev told : List (List ℕ)
told =
    (codes "= done") ∷
    []

abbrev stage : Stage
stage = Story (left ∷ right ∷ []) policy schedule 1000000

pub Row : Type 0
Row = Shows false false stage told × (stage.left ≡ 999948)

pub row : Row
unfolding Row given Validate encode_utf8
row = ((refl, refl), refl)
