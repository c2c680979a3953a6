use Rattle.std.specs.Prelude.{refl, ℕ, List, [], ◌∷◌, true, false, Some, None, codes, pos}
use Rattle.std.specs.Char.{encode_utf8}
use Rattle.mb_tree.specs.declared.kind.Sign.TheVariants.{Delete as DeleteSign}
use Rattle.mb_desc.specs.Validate.{Validate}
use Rattle.mb_world.specs.Value.{Whole}
use Rattle.mb_world.specs.Form.{Written, ScriptForm, LetForm, DeclForm, ExprStmtForm, NameForm, NumberForm, TextForm, ObjectForm, ValueForm, ArrowForm, MemberForm, AssignForm, CallForm, UnaryForm}
use Rattle.mb_world.specs.Graph.{Program, Rule, Substitute}
use Rattle.mb_model.specs.Engine.{given}
use Rattle.mb_model.specs.Story.{Stage, Letter, Story}
use Rattle.mb_rows.specs.Shows.{bound, Shows}

-- run
-- left
--     desk.r = labelled("Rates");
--     desk.r.rate = 3;
--     later(() => { delete desk.r.rate; });
-- right
--     let t = () => {
--       print(desk.r.rate);
--       print(Reflect.defineProperty(desk.r, "rate", { value: 4 }));
--     };
--     t();
--     later(t);
-- policy
--     version = 1
--
--     [[rule]]
--     kind = "substitute"
--     label = "Rates"
--     key = "rate"
--     value = 5

abbrev left : Program
left = record {
  forms =
      NameForm (codes "desk") ∷ MemberForm 0 (codes "r") ∷ NameForm (codes "labelled") ∷
      TextForm (codes "Rates") ∷ CallForm 2 (3 ∷ []) ∷ AssignForm 1 4 ∷ ExprStmtForm 5 ∷
      NameForm (codes "desk") ∷ MemberForm 7 (codes "r") ∷ MemberForm 8 (codes "rate") ∷ NumberForm (pos 3) ∷
      AssignForm 9 10 ∷ ExprStmtForm 11 ∷ NameForm (codes "later") ∷ NameForm (codes "desk") ∷
      MemberForm 14 (codes "r") ∷ MemberForm 15 (codes "rate") ∷ UnaryForm DeleteSign 16 ∷ ExprStmtForm 17 ∷
      ArrowForm (record { params = []; body = (18 ∷ []) }) true ∷ CallForm 13 (19 ∷ []) ∷ ExprStmtForm 20 ∷
      ScriptForm (6 ∷ 12 ∷ 21 ∷ []) ∷
      [];
  names = [];
}

abbrev right : Program
right = record {
  forms =
      NameForm (codes "print") ∷ NameForm (codes "desk") ∷ MemberForm 1 (codes "r") ∷
      MemberForm 2 (codes "rate") ∷ CallForm 0 (3 ∷ []) ∷ ExprStmtForm 4 ∷ NameForm (codes "print") ∷
      NameForm (codes "Reflect") ∷ MemberForm 7 (codes "defineProperty") ∷ NameForm (codes "desk") ∷
      MemberForm 9 (codes "r") ∷ TextForm (codes "rate") ∷ NumberForm (pos 4) ∷
      ValueForm (Written (codes "value")) 12 ∷ ObjectForm (13 ∷ []) ∷ CallForm 8 (10 ∷ 11 ∷ 14 ∷ []) ∷
      CallForm 6 (15 ∷ []) ∷ ExprStmtForm 16 ∷ ArrowForm (record { params = []; body = (5 ∷ 17 ∷ []) }) true ∷
      DeclForm (codes "t") (Some 18) ∷ LetForm (19 ∷ []) ∷ NameForm (codes "t") ∷ CallForm 21 [] ∷
      ExprStmtForm 22 ∷ NameForm (codes "later") ∷ NameForm (codes "t") ∷ CallForm 24 (25 ∷ []) ∷
      ExprStmtForm 26 ∷ ScriptForm (20 ∷ 23 ∷ 27 ∷ []) ∷
      [];
  names =
      bound 28 (codes "t") false ∷
      [];
}

abbrev policy : List Rule
policy =
    record {
      label = (codes "Rates");
      kind = Substitute (codes "rate") (Whole (pos 5));
      owner = None;
      viewer = None;
    } ∷
    []

abbrev schedule : List Letter
schedule = []

abbrev told : List (List ℕ)
told =
    (codes "R 5") ∷
    (codes "R false") ∷
    (codes "R undefined") ∷
    (codes "R false") ∷
    (codes "= done") ∷
    []

abbrev stage : Stage
stage = Story (left ∷ right ∷ []) policy schedule 1000000

pub Row : Type 0
Row = Shows false false stage told

pub row : Row
unfolding Row given Validate encode_utf8
row = (refl, refl)
