use Rattle.std.specs.Prelude.{◌≡◌, refl, ℕ, List, [], ◌∷◌, ◌++◌, true, false, Some, None, codes, pos}
use Rattle.std.specs.Char.{encode_utf8}
use Rattle.mb_tree.specs.declared.kind.Sign.TheVariants.{Plus, Less}
use Rattle.mb_desc.specs.Validate.{Validate}
use Rattle.mb_world.specs.Form.{Written, ScriptForm, LetForm, DeclForm, BlockForm, ExprStmtForm, IfForm, ReturnForm, ParamForm, NameForm, NumberForm, ObjectForm, ValueForm, ArrowForm, MemberForm, AssignForm, CompoundForm, CallForm, BinaryForm}
use Rattle.mb_world.specs.Graph.{Program, Rule}
use Rattle.mb_model.specs.Engine.{given}
use Rattle.mb_model.specs.Story.{Stage, Letter, Story}
use Rattle.mb_rows.specs.Shows.{bound, Shows}

-- run --trace
-- left
--     desk.x = { v: 1 }; desk.call = (f) => f(desk.x);
-- right
--     let depth = 0;
--     let back = (o) => { depth += 1; if (depth < 3) { return desk.call(back); } o.v = depth; return Reflect.isExtensible(o); };
--     print(desk.call(back));

abbrev left : Program
left = record {
  forms =
      NameForm (codes "desk") ∷ MemberForm 0 (codes "x") ∷ NumberForm (pos 1) ∷
      ValueForm (Written (codes "v")) 2 ∷ ObjectForm (3 ∷ []) ∷ AssignForm 1 4 ∷ ExprStmtForm 5 ∷
      NameForm (codes "desk") ∷ MemberForm 7 (codes "call") ∷ ParamForm (codes "f") ∷ NameForm (codes "f") ∷
      NameForm (codes "desk") ∷ MemberForm 11 (codes "x") ∷ CallForm 10 (12 ∷ []) ∷
      ArrowForm (record { params = (codes "f") ∷ []; body = (13 ∷ []) }) false ∷ AssignForm 8 14 ∷
      ExprStmtForm 15 ∷ ScriptForm (6 ∷ 16 ∷ []) ∷
      [];
  names =
      bound 14 (codes "f") false ∷
      [];
}

abbrev right : Program
right = record {
  forms =
      NumberForm (pos 0) ∷ DeclForm (codes "depth") (Some 0) ∷ LetForm (1 ∷ []) ∷ ParamForm (codes "o") ∷
      NameForm (codes "depth") ∷ NumberForm (pos 1) ∷ CompoundForm Plus 4 5 ∷ ExprStmtForm 6 ∷
      NameForm (codes "depth") ∷ NumberForm (pos 3) ∷ BinaryForm Less 8 9 ∷ NameForm (codes "desk") ∷
      MemberForm 11 (codes "call") ∷ NameForm (codes "back") ∷ CallForm 12 (13 ∷ []) ∷ ReturnForm (Some 14) ∷
      BlockForm (15 ∷ []) ∷ IfForm 10 16 None ∷ NameForm (codes "o") ∷ MemberForm 18 (codes "v") ∷
      NameForm (codes "depth") ∷ AssignForm 19 20 ∷ ExprStmtForm 21 ∷ NameForm (codes "Reflect") ∷
      MemberForm 23 (codes "isExtensible") ∷ NameForm (codes "o") ∷ CallForm 24 (25 ∷ []) ∷
      ReturnForm (Some 26) ∷
      ArrowForm (record { params = (codes "o") ∷ []; body = (7 ∷ 17 ∷ 22 ∷ 27 ∷ []) }) true ∷
      DeclForm (codes "back") (Some 28) ∷ LetForm (29 ∷ []) ∷ NameForm (codes "print") ∷
      NameForm (codes "desk") ∷ MemberForm 32 (codes "call") ∷ NameForm (codes "back") ∷ CallForm 33 (34 ∷ []) ∷
      CallForm 31 (35 ∷ []) ∷ ExprStmtForm 36 ∷ ScriptForm (2 ∷ 30 ∷ 37 ∷ []) ∷
      [];
  names =
      bound 28 (codes "o") false ∷ bound 38 (codes "depth") false ∷ bound 38 (codes "back") false ∷
      [];
}

abbrev policy : List Rule
policy = []

abbrev schedule : List Letter
schedule = []

abbrev told : List (List ℕ)
told =
    (codes "T 0 R #0 get \"call\" - #2") ∷
    (codes "T 1 R #0 get \"call\" - #2") ∷
    (codes "T 2 R #0 get \"call\" - #2") ∷
    (codes "T 3 R #1 getOwnPropertyDescriptor \"v\" - {value=1,writable=true,enumerable=true,c" ++
    codes "onfigurable=true}") ∷
    (codes "T 4 R #1 defineProperty \"v\" {value=3} true") ∷
    (codes "T 3 R #1 set \"v\" 3 true") ∷
    (codes "T 6 R #1 isExtensible - - true") ∷
    (codes "T 3 L #3 apply - - true") ∷
    (codes "T 3 R #2 apply - - true") ∷
    (codes "T 2 L #3 apply - - true") ∷
    (codes "T 2 R #2 apply - - true") ∷
    (codes "T 1 L #3 apply - - true") ∷
    (codes "T 1 R #2 apply - - true") ∷
    (codes "R true") ∷
    (codes "= done") ∷
    []

abbrev stage : Stage
stage = Story (left ∷ right ∷ []) policy schedule 1000000

pub Row : Type 0
Row = Shows true false stage told × (stage.left ≡ 999876)

pub row : Row
unfolding Row given Validate encode_utf8
row = ((refl, refl), refl)
