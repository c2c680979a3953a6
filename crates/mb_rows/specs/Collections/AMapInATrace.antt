use Rattle.std.specs.Prelude.{◌≡◌, refl, ℕ, List, [], ◌∷◌, true, false, codes, pos}
use Rattle.std.specs.Char.{encode_utf8}
use Rattle.mb_tree.specs.declared.kind.Sign.TheVariants.{Plus, TripleEqual, Typeof}
use Rattle.mb_desc.specs.Validate.{Validate}
use Rattle.mb_world.specs.Form.{Written, ScriptForm, ExprStmtForm, ParamForm, NameForm, NumberForm, ArrayForm, ObjectForm, ValueForm, ArrowForm, GroupForm, MemberForm, AssignForm, CallForm, UnaryForm, BinaryForm}
use Rattle.mb_world.specs.Graph.{Program, Rule}
use Rattle.mb_model.specs.Engine.{given}
use Rattle.mb_model.specs.Story.{Stage, Letter}
use Rattle.mb_rows.specs.Collecting.{StoryWithCollections}
use Rattle.mb_rows.specs.Shows.{bound, Shows}

-- run --trace
-- left
--     desk.a = [1, { p: 2 }];
-- right
--     print(desk.a.map((x, i, o) => (o === desk.a) + typeof x).join());

abbrev left : Program
left = record {
  forms =
      NameForm (codes "desk") ∷ MemberForm 0 (codes "a") ∷ NumberForm (pos 1) ∷ NumberForm (pos 2) ∷
      ValueForm (Written (codes "p")) 3 ∷ ObjectForm (4 ∷ []) ∷ ArrayForm (2 ∷ 5 ∷ []) ∷ AssignForm 1 6 ∷
      ExprStmtForm 7 ∷ ScriptForm (8 ∷ []) ∷
      [];
  names = [];
}

abbrev right : Program
right = record {
  forms =
      NameForm (codes "print") ∷ NameForm (codes "desk") ∷ MemberForm 1 (codes "a") ∷
      MemberForm 2 (codes "map") ∷ ParamForm (codes "x") ∷ ParamForm (codes "i") ∷ ParamForm (codes "o") ∷
      NameForm (codes "o") ∷ NameForm (codes "desk") ∷ MemberForm 8 (codes "a") ∷ BinaryForm TripleEqual 7 9 ∷
      GroupForm 10 ∷ NameForm (codes "x") ∷ UnaryForm Typeof 12 ∷ BinaryForm Plus 11 13 ∷
      ArrowForm (record { params = (codes "x") ∷ (codes "i") ∷ (codes "o") ∷ []; body = (14 ∷ []) }) false ∷
      CallForm 3 (15 ∷ []) ∷ MemberForm 16 (codes "join") ∷ CallForm 17 [] ∷ CallForm 0 (18 ∷ []) ∷
      ExprStmtForm 19 ∷ ScriptForm (20 ∷ []) ∷
      [];
  names =
      bound 15 (codes "x") false ∷ bound 15 (codes "i") false ∷ bound 15 (codes "o") false ∷
      [];
}

abbrev policy : List Rule
policy = []

abbrev schedule : List Letter
schedule = []

abbrev told : List (List ℕ)
told =
    (codes "T 0 R #0 get \"a\" - #1") ∷
    (codes "T 1 R #1 get \"map\" - @Array.prototype.map") ∷
    (codes "T 2 R #1 get \"length\" - 2") ∷
    (codes "T 3 R #1 has \"0\" - true") ∷
    (codes "T 4 R #1 get \"0\" - 1") ∷
    (codes "T 5 R #0 get \"a\" - #1") ∷
    (codes "T 6 R #1 has \"1\" - true") ∷
    (codes "T 7 R #1 get \"1\" - #2") ∷
    (codes "T 8 R #0 get \"a\" - #1") ∷
    (codes "R truenumber,trueobject") ∷
    (codes "= done") ∷
    []

abbrev stage : Stage
stage = StoryWithCollections (left ∷ right ∷ []) policy schedule 1000000

pub Row : Type 0
Row = Shows true false stage told × (stage.left ≡ 999926)

pub row : Row
unfolding Row given Validate encode_utf8
row = ((refl, refl), refl)
