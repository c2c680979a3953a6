use Rattle.std.specs.Prelude.{refl, ℕ, List, [], ◌∷◌, false, Some, None, codes, pos}
use Rattle.std.specs.Char.{encode_utf8}
use Rattle.mb_desc.specs.Validate.{Validate}
use Rattle.mb_world.specs.Value.{Truth}
use Rattle.mb_world.specs.Form.{Written, ScriptForm, LetForm, DeclForm, BlockForm, ExprStmtForm, TryForm, ParamForm, NameForm, NumberForm, TextForm, LiteralForm, ArrayForm, ObjectForm, ValueForm, MemberForm, CallForm, CondForm}
use Rattle.mb_world.specs.Graph.{Program, Rule}
use Rattle.mb_model.specs.Engine.{given}
use Rattle.mb_model.specs.Story.{Stage, Letter, Story}
use Rattle.mb_rows.specs.Shows.{bound, Shows}

-- run
-- left
--     let a = [1, 2, 3];
--     Object.defineProperty(a, "length", { value: 1, writable: false });
--     print(a.length);
--     print(Object.getOwnPropertyDescriptor(a, "length").writable);
--     try { a.push(1); } catch (e) { print("refused"); }
--     let b = [1, 2, 3, 4];
--     Object.defineProperty(b, "2", { configurable: false });
--     print(Reflect.defineProperty(b, "length", { value: 1, writable: false }) ? "cut" : b.length);
-- right
--     (empty)

abbrev left : Program
left = record {
  forms =
      NumberForm (pos 1) ∷ NumberForm (pos 2) ∷ NumberForm (pos 3) ∷ ArrayForm (0 ∷ 1 ∷ 2 ∷ []) ∷
      DeclForm (codes "a") (Some 3) ∷ LetForm (4 ∷ []) ∷ NameForm (codes "Object") ∷
      MemberForm 6 (codes "defineProperty") ∷ NameForm (codes "a") ∷ TextForm (codes "length") ∷
      NumberForm (pos 1) ∷ ValueForm (Written (codes "value")) 10 ∷ LiteralForm (Truth false) ∷
      ValueForm (Written (codes "writable")) 12 ∷ ObjectForm (11 ∷ 13 ∷ []) ∷ CallForm 7 (8 ∷ 9 ∷ 14 ∷ []) ∷
      ExprStmtForm 15 ∷ NameForm (codes "print") ∷ NameForm (codes "a") ∷ MemberForm 18 (codes "length") ∷
      CallForm 17 (19 ∷ []) ∷ ExprStmtForm 20 ∷ NameForm (codes "print") ∷ NameForm (codes "Object") ∷
      MemberForm 23 (codes "getOwnPropertyDescriptor") ∷ NameForm (codes "a") ∷ TextForm (codes "length") ∷
      CallForm 24 (25 ∷ 26 ∷ []) ∷ MemberForm 27 (codes "writable") ∷ CallForm 22 (28 ∷ []) ∷ ExprStmtForm 29 ∷
      NameForm (codes "a") ∷ MemberForm 31 (codes "push") ∷ NumberForm (pos 1) ∷ CallForm 32 (33 ∷ []) ∷
      ExprStmtForm 34 ∷ BlockForm (35 ∷ []) ∷ ParamForm (codes "e") ∷ NameForm (codes "print") ∷
      TextForm (codes "refused") ∷ CallForm 38 (39 ∷ []) ∷ ExprStmtForm 40 ∷ BlockForm (41 ∷ []) ∷
      TryForm 36 (Some (codes "e")) (Some 42) None ∷ NumberForm (pos 1) ∷ NumberForm (pos 2) ∷
      NumberForm (pos 3) ∷ NumberForm (pos 4) ∷ ArrayForm (44 ∷ 45 ∷ 46 ∷ 47 ∷ []) ∷
      DeclForm (codes "b") (Some 48) ∷ LetForm (49 ∷ []) ∷ NameForm (codes "Object") ∷
      MemberForm 51 (codes "defineProperty") ∷ NameForm (codes "b") ∷ TextForm (codes "2") ∷
      LiteralForm (Truth false) ∷ ValueForm (Written (codes "configurable")) 55 ∷ ObjectForm (56 ∷ []) ∷
      CallForm 52 (53 ∷ 54 ∷ 57 ∷ []) ∷ ExprStmtForm 58 ∷ NameForm (codes "print") ∷ NameForm (codes "Reflect") ∷
      MemberForm 61 (codes "defineProperty") ∷ NameForm (codes "b") ∷ TextForm (codes "length") ∷
      NumberForm (pos 1) ∷ ValueForm (Written (codes "value")) 65 ∷ LiteralForm (Truth false) ∷
      ValueForm (Written (codes "writable")) 67 ∷ ObjectForm (66 ∷ 68 ∷ []) ∷ CallForm 62 (63 ∷ 64 ∷ 69 ∷ []) ∷
      TextForm (codes "cut") ∷ NameForm (codes "b") ∷ MemberForm 72 (codes "length") ∷ CondForm 70 71 73 ∷
      CallForm 60 (74 ∷ []) ∷ ExprStmtForm 75 ∷ ScriptForm (5 ∷ 16 ∷ 21 ∷ 30 ∷ 43 ∷ 50 ∷ 59 ∷ 76 ∷ []) ∷
      [];
  names =
      bound 43 (codes "e") false ∷ bound 77 (codes "a") false ∷ bound 77 (codes "b") false ∷
      [];
}

abbrev right : Program
right = record {
  forms =
      ScriptForm [] ∷
      [];
  names = [];
}

abbrev policy : List Rule
policy = []

abbrev schedule : List Letter
schedule = []

abbrev told : List (List ℕ)
told =
    (codes "L 1") ∷
    (codes "L false") ∷
    (codes "L refused") ∷
    (codes "L 3") ∷
    (codes "= done") ∷
    []

abbrev stage : Stage
stage = Story (left ∷ right ∷ []) policy schedule 1000000

pub Row : Type 0
Row = Shows false false stage told

pub row : Row
unfolding Row given Validate encode_utf8
row = (refl, refl)
