use Rattle.std.specs.Prelude.{refl, ℕ, List, [], ◌∷◌, true, false, Some, codes, pos}
use Rattle.std.specs.Char.{encode_utf8}
use Rattle.mb_tree.specs.declared.kind.Sign.TheVariants.{Instanceof}
use Rattle.mb_desc.specs.Validate.{Validate}
use Rattle.mb_world.specs.Form.{ScriptForm, LetForm, DeclForm, FunctionDeclForm, ExprStmtForm, ParamForm, ThisForm, NameForm, NumberForm, ArrayForm, MemberForm, AssignForm, CallForm, BinaryForm}
use Rattle.mb_world.specs.Graph.{Program, Rule}
use Rattle.mb_model.specs.Engine.{given}
use Rattle.mb_model.specs.Story.{Stage, Letter, Story}
use Rattle.mb_rows.specs.Shows.{bound, Shows}

-- run --trace
-- left
--     function F(a) { this.a = a; } desk.F = F;
-- right
--     function N() {} N.prototype.n = 1; let o = Reflect.construct(desk.F, [4], N); print(o.a, o.n, o instanceof N);

abbrev left : Program
left = record {
  forms =
      ParamForm (codes "a") ∷ ThisForm ∷ MemberForm 1 (codes "a") ∷ NameForm (codes "a") ∷ AssignForm 2 3 ∷
      ExprStmtForm 4 ∷ FunctionDeclForm (codes "F") (record { params = (codes "a") ∷ []; body = (5 ∷ []) }) ∷
      NameForm (codes "desk") ∷ MemberForm 7 (codes "F") ∷ NameForm (codes "F") ∷ AssignForm 8 9 ∷
      ExprStmtForm 10 ∷ ScriptForm (6 ∷ 11 ∷ []) ∷
      [];
  names =
      bound 6 (codes "a") false ∷ bound 12 (codes "F") false ∷
      [];
}

abbrev right : Program
right = record {
  forms =
      FunctionDeclForm (codes "N") (record { params = []; body = [] }) ∷ NameForm (codes "N") ∷
      MemberForm 1 (codes "prototype") ∷ MemberForm 2 (codes "n") ∷ NumberForm (pos 1) ∷ AssignForm 3 4 ∷
      ExprStmtForm 5 ∷ NameForm (codes "Reflect") ∷ MemberForm 7 (codes "construct") ∷ NameForm (codes "desk") ∷
      MemberForm 9 (codes "F") ∷ NumberForm (pos 4) ∷ ArrayForm (11 ∷ []) ∷ NameForm (codes "N") ∷
      CallForm 8 (10 ∷ 12 ∷ 13 ∷ []) ∷ DeclForm (codes "o") (Some 14) ∷ LetForm (15 ∷ []) ∷
      NameForm (codes "print") ∷ NameForm (codes "o") ∷ MemberForm 18 (codes "a") ∷ NameForm (codes "o") ∷
      MemberForm 20 (codes "n") ∷ NameForm (codes "o") ∷ NameForm (codes "N") ∷ BinaryForm Instanceof 22 23 ∷
      CallForm 17 (19 ∷ 21 ∷ 24 ∷ []) ∷ ExprStmtForm 25 ∷ ScriptForm (0 ∷ 6 ∷ 16 ∷ 26 ∷ []) ∷
      [];
  names =
      bound 27 (codes "N") false ∷ bound 27 (codes "o") false ∷
      [];
}

abbrev policy : List Rule
policy = []

abbrev schedule : List Letter
schedule = []

abbrev told : List (List ℕ)
told =
    (codes "T 0 R #0 get \"F\" - #1") ∷
    (codes "T 1 L #3 get \"prototype\" - #4") ∷
    (codes "T 2 L #4 set \"a\" 4 true") ∷
    (codes "T 1 R #1 construct - - #6") ∷
    (codes "T 4 R #6 get \"a\" - 4") ∷
    (codes "T 5 R #6 get \"n\" - 1") ∷
    (codes "T 6 R #6 getPrototypeOf - - #4") ∷
    (codes "R 4 1 true") ∷
    (codes "= done") ∷
    []

abbrev stage : Stage
stage = Story (left ∷ right ∷ []) policy schedule 1000000

pub Row : Type 0
Row = Shows true false stage told

pub row : Row
unfolding Row given Validate encode_utf8
row = (refl, refl)
