use Rattle.std.specs.Prelude.{refl, ℕ, List, [], ◌∷◌, false, Some, codes, pos}
use Rattle.std.specs.Char.{encode_utf8}
use Rattle.mb_tree.specs.declared.kind.Sign.TheVariants.{Delete as DeleteSign}
use Rattle.mb_desc.specs.Validate.{Validate}
use Rattle.mb_world.specs.Form.{Written, ScriptForm, LetForm, DeclForm, ExprStmtForm, NameForm, NumberForm, ObjectForm, ValueForm, MemberForm, AssignForm, CallForm, UnaryForm}
use Rattle.mb_world.specs.Graph.{Program, Rule}
use Rattle.mb_model.specs.Engine.{given}
use Rattle.mb_model.specs.Story.{Stage, Letter, Story}
use Rattle.mb_rows.specs.Shows.{bound, Shows}

-- run
-- left
--     let o = { b: 0, 10: 1, a: 2, 2: 3, 1: 4 };
--     print(Reflect.ownKeys(o).join());
--     delete o.b;
--     o.b = 5;
--     print(Object.keys(o).join());
-- right
--     (empty)

abbrev left : Program
left = record {
  forms =
      NumberForm (pos 0) ∷ ValueForm (Written (codes "b")) 0 ∷ NumberForm (pos 1) ∷
      ValueForm (Written (codes "10")) 2 ∷ NumberForm (pos 2) ∷ ValueForm (Written (codes "a")) 4 ∷
      NumberForm (pos 3) ∷ ValueForm (Written (codes "2")) 6 ∷ NumberForm (pos 4) ∷
      ValueForm (Written (codes "1")) 8 ∷ ObjectForm (1 ∷ 3 ∷ 5 ∷ 7 ∷ 9 ∷ []) ∷ DeclForm (codes "o") (Some 10) ∷
      LetForm (11 ∷ []) ∷ NameForm (codes "print") ∷ NameForm (codes "Reflect") ∷
      MemberForm 14 (codes "ownKeys") ∷ NameForm (codes "o") ∷ CallForm 15 (16 ∷ []) ∷
      MemberForm 17 (codes "join") ∷ CallForm 18 [] ∷ CallForm 13 (19 ∷ []) ∷ ExprStmtForm 20 ∷
      NameForm (codes "o") ∷ MemberForm 22 (codes "b") ∷ UnaryForm DeleteSign 23 ∷ ExprStmtForm 24 ∷
      NameForm (codes "o") ∷ MemberForm 26 (codes "b") ∷ NumberForm (pos 5) ∷ AssignForm 27 28 ∷
      ExprStmtForm 29 ∷ NameForm (codes "print") ∷ NameForm (codes "Object") ∷ MemberForm 32 (codes "keys") ∷
      NameForm (codes "o") ∷ CallForm 33 (34 ∷ []) ∷ MemberForm 35 (codes "join") ∷ CallForm 36 [] ∷
      CallForm 31 (37 ∷ []) ∷ ExprStmtForm 38 ∷ ScriptForm (12 ∷ 21 ∷ 25 ∷ 30 ∷ 39 ∷ []) ∷
      [];
  names =
      bound 40 (codes "o") false ∷
      [];
}

abbrev right : Program
right = record {
  forms =
      ScriptForm [] ∷
      [];
  names = [];
}

abbrev policy : List Rule
policy = []

abbrev schedule : List Letter
schedule = []

abbrev told : List (List ℕ)
told =
    (codes "L 1,2,10,b,a") ∷
    (codes "L 1,2,10,a,b") ∷
    (codes "= done") ∷
    []

abbrev stage : Stage
stage = Story (left ∷ right ∷ []) policy schedule 1000000

pub Row : Type 0
Row = Shows false false stage told

pub row : Row
unfolding Row given Validate encode_utf8
row = (refl, refl)
