use Rattle.std.specs.Prelude.{◌≡◌, refl, ℕ, List, [], ◌∷◌, true, false, Some, codes, pos}
use Rattle.std.specs.Char.{encode_utf8}
use Rattle.mb_tree.specs.declared.kind.Sign.TheVariants.{In}
use Rattle.mb_desc.specs.Validate.{Validate}
use Rattle.mb_world.specs.Form.{Written, ScriptForm, LetForm, DeclForm, ExprStmtForm, NameForm, NumberForm, TextForm, ObjectForm, ValueForm, MemberForm, AssignForm, CallForm, NewForm, BinaryForm}
use Rattle.mb_world.specs.Graph.{Program, Rule}
use Rattle.mb_model.specs.Engine.{given}
use Rattle.mb_model.specs.Story.{Stage, Letter, Story}
use Rattle.mb_rows.specs.Shows.{bound, Shows}

-- run --trace
-- left
--     desk.T = Object.create({ x: 5 }); desk.T.y = 6;
-- right
--     let p = new Proxy(desk.T, {}); print(p.x, p.y, 'x' in p, 'q' in p); p.z = 7; print(desk.T.z);

abbrev left : Program
left = record {
  forms =
      NameForm (codes "desk") ∷ MemberForm 0 (codes "T") ∷ NameForm (codes "Object") ∷
      MemberForm 2 (codes "create") ∷ NumberForm (pos 5) ∷ ValueForm (Written (codes "x")) 4 ∷
      ObjectForm (5 ∷ []) ∷ CallForm 3 (6 ∷ []) ∷ AssignForm 1 7 ∷ ExprStmtForm 8 ∷ NameForm (codes "desk") ∷
      MemberForm 10 (codes "T") ∷ MemberForm 11 (codes "y") ∷ NumberForm (pos 6) ∷ AssignForm 12 13 ∷
      ExprStmtForm 14 ∷ ScriptForm (9 ∷ 15 ∷ []) ∷
      [];
  names = [];
}

abbrev right : Program
right = record {
  forms =
      NameForm (codes "Proxy") ∷ NameForm (codes "desk") ∷ MemberForm 1 (codes "T") ∷ ObjectForm [] ∷
      NewForm 0 (2 ∷ 3 ∷ []) ∷ DeclForm (codes "p") (Some 4) ∷ LetForm (5 ∷ []) ∷ NameForm (codes "print") ∷
      NameForm (codes "p") ∷ MemberForm 8 (codes "x") ∷ NameForm (codes "p") ∷ MemberForm 10 (codes "y") ∷
      TextForm (codes "x") ∷ NameForm (codes "p") ∷ BinaryForm In 12 13 ∷ TextForm (codes "q") ∷
      NameForm (codes "p") ∷ BinaryForm In 15 16 ∷ CallForm 7 (9 ∷ 11 ∷ 14 ∷ 17 ∷ []) ∷ ExprStmtForm 18 ∷
      NameForm (codes "p") ∷ MemberForm 20 (codes "z") ∷ NumberForm (pos 7) ∷ AssignForm 21 22 ∷
      ExprStmtForm 23 ∷ NameForm (codes "print") ∷ NameForm (codes "desk") ∷ MemberForm 26 (codes "T") ∷
      MemberForm 27 (codes "z") ∷ CallForm 25 (28 ∷ []) ∷ ExprStmtForm 29 ∷ ScriptForm (6 ∷ 19 ∷ 24 ∷ 30 ∷ []) ∷
      [];
  names =
      bound 31 (codes "p") false ∷
      [];
}

abbrev policy : List Rule
policy = []

abbrev schedule : List Letter
schedule = []

abbrev told : List (List ℕ)
told =
    (codes "T 0 R #0 get \"T\" - #2") ∷
    (codes "T 1 R #1 get \"x\" - 5") ∷
    (codes "T 2 R #1 has \"x\" - true") ∷
    (codes "T 3 R #1 has \"q\" - false") ∷
    (codes "R 5 6 true false") ∷
    (codes "T 4 R #1 set \"z\" 7 true") ∷
    (codes "T 5 R #0 get \"T\" - #2") ∷
    (codes "T 6 R #2 get \"z\" - 7") ∷
    (codes "R 7") ∷
    (codes "= done") ∷
    []

abbrev stage : Stage
stage = Story (left ∷ right ∷ []) policy schedule 1000000

pub Row : Type 0
Row = Shows true false stage told × (stage.left ≡ 999897)

pub row : Row
unfolding Row given Validate encode_utf8
row = ((refl, refl), refl)
