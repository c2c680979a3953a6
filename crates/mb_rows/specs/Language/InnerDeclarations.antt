use Rattle.std.specs.Prelude.{refl, ℕ, List, [], ◌∷◌, true, false, Some, None, codes, pos}
use Rattle.std.specs.Char.{encode_utf8}
use Rattle.mb_tree.specs.declared.kind.Sign.TheVariants.{Plus, Typeof}
use Rattle.mb_desc.specs.Validate.{Validate}
use Rattle.mb_world.specs.Form.{Written, ScriptForm, LetForm, DeclForm, FunctionDeclForm, ExprStmtForm, ReturnForm, NameForm, NumberForm, ObjectForm, MethodForm, GetterForm, FunctionForm, ArrowForm, GroupForm, MemberForm, CallForm, UnaryForm, BinaryForm}
use Rattle.mb_world.specs.Graph.{Program, Rule}
use Rattle.mb_model.specs.Engine.{given}
use Rattle.mb_model.specs.Story.{Stage, Letter, Story}
use Rattle.mb_rows.specs.Shows.{bound, Shows}

-- run
-- left
--     let f = () => { return g(); function g() { return 7; } }; let o = { m() { return h() + 1; function h() { return 1; } }, get p() { function q() { return 3; } return q(); } }; print(f(), o.m(), o.p, (function () { return typeof z; function z() { } })());
-- right
--     (empty)

abbrev left : Program
left = record {
  forms =
      NameForm (codes "g") ∷ CallForm 0 [] ∷ ReturnForm (Some 1) ∷ NumberForm (pos 7) ∷ ReturnForm (Some 3) ∷
      FunctionDeclForm (codes "g") (record { params = []; body = (4 ∷ []) }) ∷
      ArrowForm (record { params = []; body = (2 ∷ 5 ∷ []) }) true ∷ DeclForm (codes "f") (Some 6) ∷
      LetForm (7 ∷ []) ∷ NameForm (codes "h") ∷ CallForm 9 [] ∷ NumberForm (pos 1) ∷ BinaryForm Plus 10 11 ∷
      ReturnForm (Some 12) ∷ NumberForm (pos 1) ∷ ReturnForm (Some 14) ∷
      FunctionDeclForm (codes "h") (record { params = []; body = (15 ∷ []) }) ∷
      MethodForm (Written (codes "m")) (record { params = []; body = (13 ∷ 16 ∷ []) }) ∷ NumberForm (pos 3) ∷
      ReturnForm (Some 18) ∷ FunctionDeclForm (codes "q") (record { params = []; body = (19 ∷ []) }) ∷
      NameForm (codes "q") ∷ CallForm 21 [] ∷ ReturnForm (Some 22) ∷
      GetterForm (Written (codes "p")) (record { params = []; body = (20 ∷ 23 ∷ []) }) ∷
      ObjectForm (17 ∷ 24 ∷ []) ∷ DeclForm (codes "o") (Some 25) ∷ LetForm (26 ∷ []) ∷ NameForm (codes "print") ∷
      NameForm (codes "f") ∷ CallForm 29 [] ∷ NameForm (codes "o") ∷ MemberForm 31 (codes "m") ∷ CallForm 32 [] ∷
      NameForm (codes "o") ∷ MemberForm 34 (codes "p") ∷ NameForm (codes "z") ∷ UnaryForm Typeof 36 ∷
      ReturnForm (Some 37) ∷ FunctionDeclForm (codes "z") (record { params = []; body = [] }) ∷
      FunctionForm None (record { params = []; body = (38 ∷ 39 ∷ []) }) ∷ GroupForm 40 ∷ CallForm 41 [] ∷
      CallForm 28 (30 ∷ 33 ∷ 35 ∷ 42 ∷ []) ∷ ExprStmtForm 43 ∷ ScriptForm (8 ∷ 27 ∷ 44 ∷ []) ∷
      [];
  names =
      bound 6 (codes "g") false ∷ bound 17 (codes "h") false ∷ bound 24 (codes "q") false ∷
      bound 40 (codes "z") false ∷ bound 45 (codes "f") false ∷ bound 45 (codes "o") false ∷
      [];
}

abbrev right : Program
right = record {
  forms =
      ScriptForm [] ∷
      [];
  names = [];
}

abbrev policy : List Rule
policy = []

abbrev schedule : List Letter
schedule = []

abbrev told : List (List ℕ)
told =
    (codes "L 7 2 3 function") ∷
    (codes "= done") ∷
    []

abbrev stage : Stage
stage = Story (left ∷ right ∷ []) policy schedule 1000000

pub Row : Type 0
Row = Shows false false stage told

pub row : Row
unfolding Row given Validate encode_utf8
row = (refl, refl)
