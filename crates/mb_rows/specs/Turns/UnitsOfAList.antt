use Rattle.std.specs.Prelude.{◌≡◌, refl, length, ℕ, List, [], ◌∷◌, true, false, Some, codes, pos}
use Rattle.std.specs.Char.{encode_utf8}
use Rattle.mb_tree.specs.declared.kind.Sign.TheVariants.{Plus}
use Rattle.mb_desc.specs.Validate.{Validate}
use Rattle.mb_world.specs.Form.{Written, ScriptForm, LetForm, DeclForm, ExprStmtForm, ParamForm, NameForm, NumberForm, ArrayForm, ObjectForm, ValueForm, ArrowForm, MemberForm, IndexForm, AssignForm, CompoundForm, CallForm, CondForm}
use Rattle.mb_world.specs.Graph.{Program, Rule}
use Rattle.mb_model.specs.Engine.{given}
use Rattle.mb_model.specs.Trace.Entries.{entries}
use Rattle.mb_model.specs.Story.{Stage, Letter, Story}
use Rattle.mb_rows.specs.Shows.{bound, Shows}

-- run --budget 4000000
-- left
--     desk.list = [];
--     desk.list.push({ id: 1 });
-- right
--     let sum = 0;
--     desk.list.forEach((x) => { let v = Array.isArray(x) ? x[0] : x.id; sum += v; });
--     print(sum);

abbrev left : Program
left = record {
  forms =
      NameForm (codes "desk") ∷ MemberForm 0 (codes "list") ∷ ArrayForm [] ∷ AssignForm 1 2 ∷ ExprStmtForm 3 ∷
      NameForm (codes "desk") ∷ MemberForm 5 (codes "list") ∷ MemberForm 6 (codes "push") ∷ NumberForm (pos 1) ∷
      ValueForm (Written (codes "id")) 8 ∷ ObjectForm (9 ∷ []) ∷ CallForm 7 (10 ∷ []) ∷ ExprStmtForm 11 ∷
      ScriptForm (4 ∷ 12 ∷ []) ∷
      [];
  names = [];
}

abbrev right : Program
right = record {
  forms =
      NumberForm (pos 0) ∷ DeclForm (codes "sum") (Some 0) ∷ LetForm (1 ∷ []) ∷ NameForm (codes "desk") ∷
      MemberForm 3 (codes "list") ∷ MemberForm 4 (codes "forEach") ∷ ParamForm (codes "x") ∷
      NameForm (codes "Array") ∷ MemberForm 7 (codes "isArray") ∷ NameForm (codes "x") ∷ CallForm 8 (9 ∷ []) ∷
      NameForm (codes "x") ∷ NumberForm (pos 0) ∷ IndexForm 11 12 ∷ NameForm (codes "x") ∷
      MemberForm 14 (codes "id") ∷ CondForm 10 13 15 ∷ DeclForm (codes "v") (Some 16) ∷ LetForm (17 ∷ []) ∷
      NameForm (codes "sum") ∷ NameForm (codes "v") ∷ CompoundForm Plus 19 20 ∷ ExprStmtForm 21 ∷
      ArrowForm (record { params = (codes "x") ∷ []; body = (18 ∷ 22 ∷ []) }) true ∷ CallForm 5 (23 ∷ []) ∷
      ExprStmtForm 24 ∷ NameForm (codes "print") ∷ NameForm (codes "sum") ∷ CallForm 26 (27 ∷ []) ∷
      ExprStmtForm 28 ∷ ScriptForm (2 ∷ 25 ∷ 29 ∷ []) ∷
      [];
  names =
      bound 23 (codes "x") false ∷ bound 23 (codes "v") false ∷ bound 30 (codes "sum") false ∷
      [];
}

abbrev policy : List Rule
policy = []

abbrev schedule : List Letter
schedule = []

abbrev told : List (List ℕ)
told =
    (codes "R 1") ∷
    (codes "= done") ∷
    []

abbrev stage : Stage
stage = Story (left ∷ right ∷ []) policy schedule 4000000

-- and of 4,000,000 units it leaves all but 76; there are 4 objects, `desk` among them, and 6 entries
pub Row : Type 0
Row =
    Shows false false stage told
    × (stage.left ≡ 3999924)
    × (length stage.graph.objects ≡ 4)
    × (length (entries stage.graph.log) ≡ 6)

pub row : Row
unfolding Row given Validate encode_utf8
row = ((refl, refl), refl, refl, refl)
