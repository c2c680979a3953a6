use Rattle.std.specs.Prelude.{refl, ℕ, List, [], ◌∷◌, true, false, Some, codes}
use Rattle.std.specs.Char.{encode_utf8}
use Rattle.mb_tree.specs.declared.kind.Sign.TheVariants.{Plus, TripleEqual}
use Rattle.mb_desc.specs.Validate.{Validate}
use Rattle.mb_world.specs.Form.{Written, ScriptForm, LetForm, DeclForm, ExprStmtForm, ReturnForm, ParamForm, NameForm, TextForm, ObjectForm, ValueForm, ArrowForm, MemberForm, AssignForm, CallForm, NewForm, BinaryForm}
use Rattle.mb_world.specs.Graph.{Program, Rule}
use Rattle.mb_model.specs.Engine.{given}
use Rattle.mb_model.specs.Story.{Stage, Letter, Story}
use Rattle.mb_rows.specs.Shows.{bound, Shows}

-- run
-- left
--     desk.h = { get: (t, k, r) => { desk.t = t; return k + "!"; } };
-- right
--     let t = {};
--     let p = new Proxy(t, desk.h);
--     print(p.x);
--     print(desk.t === t);

abbrev left : Program
left = record {
  forms =
      NameForm (codes "desk") ∷ MemberForm 0 (codes "h") ∷ ParamForm (codes "t") ∷ ParamForm (codes "k") ∷
      ParamForm (codes "r") ∷ NameForm (codes "desk") ∷ MemberForm 5 (codes "t") ∷ NameForm (codes "t") ∷
      AssignForm 6 7 ∷ ExprStmtForm 8 ∷ NameForm (codes "k") ∷ TextForm (codes "!") ∷ BinaryForm Plus 10 11 ∷
      ReturnForm (Some 12) ∷
      ArrowForm (record { params = (codes "t") ∷ (codes "k") ∷ (codes "r") ∷ []; body = (9 ∷ 13 ∷ []) }) true ∷
      ValueForm (Written (codes "get")) 14 ∷ ObjectForm (15 ∷ []) ∷ AssignForm 1 16 ∷ ExprStmtForm 17 ∷
      ScriptForm (18 ∷ []) ∷
      [];
  names =
      bound 14 (codes "t") false ∷ bound 14 (codes "k") false ∷ bound 14 (codes "r") false ∷
      [];
}

abbrev right : Program
right = record {
  forms =
      ObjectForm [] ∷ DeclForm (codes "t") (Some 0) ∷ LetForm (1 ∷ []) ∷ NameForm (codes "Proxy") ∷
      NameForm (codes "t") ∷ NameForm (codes "desk") ∷ MemberForm 5 (codes "h") ∷ NewForm 3 (4 ∷ 6 ∷ []) ∷
      DeclForm (codes "p") (Some 7) ∷ LetForm (8 ∷ []) ∷ NameForm (codes "print") ∷ NameForm (codes "p") ∷
      MemberForm 11 (codes "x") ∷ CallForm 10 (12 ∷ []) ∷ ExprStmtForm 13 ∷ NameForm (codes "print") ∷
      NameForm (codes "desk") ∷ MemberForm 16 (codes "t") ∷ NameForm (codes "t") ∷ BinaryForm TripleEqual 17 18 ∷
      CallForm 15 (19 ∷ []) ∷ ExprStmtForm 20 ∷ ScriptForm (2 ∷ 9 ∷ 14 ∷ 21 ∷ []) ∷
      [];
  names =
      bound 22 (codes "t") false ∷ bound 22 (codes "p") false ∷
      [];
}

abbrev policy : List Rule
policy = []

abbrev schedule : List Letter
schedule = []

abbrev told : List (List ℕ)
told =
    (codes "R x!") ∷
    (codes "R true") ∷
    (codes "= done") ∷
    []

abbrev stage : Stage
stage = Story (left ∷ right ∷ []) policy schedule 1000000

pub Row : Type 0
Row = Shows false false stage told

pub row : Row
unfolding Row given Validate encode_utf8
row = (refl, refl)
