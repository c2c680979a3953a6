use Rattle.std.specs.Prelude.{refl, ℕ, List, [], ◌∷◌, false, codes, pos}
use Rattle.std.specs.Char.{encode_utf8}
use Rattle.mb_tree.specs.declared.kind.Sign.TheVariants.{TripleEqual}
use Rattle.mb_desc.specs.Validate.{Validate}
use Rattle.mb_world.specs.Form.{Written, ScriptForm, ExprStmtForm, ParamForm, NameForm, NumberForm, TextForm, ObjectForm, ValueForm, ArrowForm, MemberForm, IndexForm, AssignForm, CallForm, NewForm, CondForm, BinaryForm}
use Rattle.mb_world.specs.Graph.{Program, Rule}
use Rattle.mb_model.specs.Engine.{given}
use Rattle.mb_model.specs.Story.{Stage, Letter, Story}
use Rattle.mb_rows.specs.Shows.{bound, Shows}

-- run
-- left
--     desk.p = new Proxy({ a: 1 }, { get: (o, k) => k === "a" ? 5 : o[k] });
-- right
--     print(desk.p.a);
--     print(desk.p.b);

abbrev left : Program
left = record {
  forms =
      NameForm (codes "desk") ∷ MemberForm 0 (codes "p") ∷ NameForm (codes "Proxy") ∷ NumberForm (pos 1) ∷
      ValueForm (Written (codes "a")) 3 ∷ ObjectForm (4 ∷ []) ∷ ParamForm (codes "o") ∷ ParamForm (codes "k") ∷
      NameForm (codes "k") ∷ TextForm (codes "a") ∷ BinaryForm TripleEqual 8 9 ∷ NumberForm (pos 5) ∷
      NameForm (codes "o") ∷ NameForm (codes "k") ∷ IndexForm 12 13 ∷ CondForm 10 11 14 ∷
      ArrowForm (record { params = (codes "o") ∷ (codes "k") ∷ []; body = (15 ∷ []) }) false ∷
      ValueForm (Written (codes "get")) 16 ∷ ObjectForm (17 ∷ []) ∷ NewForm 2 (5 ∷ 18 ∷ []) ∷ AssignForm 1 19 ∷
      ExprStmtForm 20 ∷ ScriptForm (21 ∷ []) ∷
      [];
  names =
      bound 16 (codes "o") false ∷ bound 16 (codes "k") false ∷
      [];
}

abbrev right : Program
right = record {
  forms =
      NameForm (codes "print") ∷ NameForm (codes "desk") ∷ MemberForm 1 (codes "p") ∷ MemberForm 2 (codes "a") ∷
      CallForm 0 (3 ∷ []) ∷ ExprStmtForm 4 ∷ NameForm (codes "print") ∷ NameForm (codes "desk") ∷
      MemberForm 7 (codes "p") ∷ MemberForm 8 (codes "b") ∷ CallForm 6 (9 ∷ []) ∷ ExprStmtForm 10 ∷
      ScriptForm (5 ∷ 11 ∷ []) ∷
      [];
  names = [];
}

abbrev policy : List Rule
policy = []

abbrev schedule : List Letter
schedule = []

abbrev told : List (List ℕ)
told =
    (codes "R 5") ∷
    (codes "R undefined") ∷
    (codes "= done") ∷
    []

abbrev stage : Stage
stage = Story (left ∷ right ∷ []) policy schedule 1000000

pub Row : Type 0
Row = Shows false false stage told

pub row : Row
unfolding Row given Validate encode_utf8
row = (refl, refl)
