use Rattle.std.specs.Prelude.{refl, ℕ, List, [], ◌∷◌, false, Some, codes, pos}
use Rattle.std.specs.Char.{encode_utf8}
use Rattle.mb_desc.specs.Validate.{Validate}
use Rattle.mb_world.specs.Value.{Truth}
use Rattle.mb_world.specs.Form.{Written, ScriptForm, LetForm, DeclForm, ExprStmtForm, NameForm, NumberForm, TextForm, LiteralForm, ArrayForm, ObjectForm, ValueForm, ArrowForm, MemberForm, CallForm}
use Rattle.mb_world.specs.Graph.{Program, Rule}
use Rattle.mb_model.specs.Engine.{given}
use Rattle.mb_model.specs.Story.{Stage, Letter, Story}
use Rattle.mb_rows.specs.Shows.{bound, Shows}

-- run
-- left
--
--     let a = [];
--     print(Reflect.defineProperty(a, "5", { get: () => 1 }), a.length);
--     print(Reflect.defineProperty(a, "length", { value: 3, writable: false }), a.length, Reflect.ownKeys(a).join());
--     let b = [1, 2, 3];
--     Reflect.preventExtensions(b);
--     print(Reflect.defineProperty(b, "3", { value: 1 }), b.length);
--     print(Reflect.set(b, "length", 5), b.length);
--     print(Reflect.set(b, "length", 1), b.length, Reflect.ownKeys(b).join());
--     print(Reflect.set(b, "1", 1), b.length);
--     print(Reflect.set(b, "00", 1), Reflect.set([], "01", 1));
-- right
--     (empty)

abbrev left : Program
left = record {
  forms =
      ArrayForm [] ∷ DeclForm (codes "a") (Some 0) ∷ LetForm (1 ∷ []) ∷ NameForm (codes "print") ∷
      NameForm (codes "Reflect") ∷ MemberForm 4 (codes "defineProperty") ∷ NameForm (codes "a") ∷
      TextForm (codes "5") ∷ NumberForm (pos 1) ∷ ArrowForm (record { params = []; body = (8 ∷ []) }) false ∷
      ValueForm (Written (codes "get")) 9 ∷ ObjectForm (10 ∷ []) ∷ CallForm 5 (6 ∷ 7 ∷ 11 ∷ []) ∷
      NameForm (codes "a") ∷ MemberForm 13 (codes "length") ∷ CallForm 3 (12 ∷ 14 ∷ []) ∷ ExprStmtForm 15 ∷
      NameForm (codes "print") ∷ NameForm (codes "Reflect") ∷ MemberForm 18 (codes "defineProperty") ∷
      NameForm (codes "a") ∷ TextForm (codes "length") ∷ NumberForm (pos 3) ∷
      ValueForm (Written (codes "value")) 22 ∷ LiteralForm (Truth false) ∷
      ValueForm (Written (codes "writable")) 24 ∷ ObjectForm (23 ∷ 25 ∷ []) ∷ CallForm 19 (20 ∷ 21 ∷ 26 ∷ []) ∷
      NameForm (codes "a") ∷ MemberForm 28 (codes "length") ∷ NameForm (codes "Reflect") ∷
      MemberForm 30 (codes "ownKeys") ∷ NameForm (codes "a") ∷ CallForm 31 (32 ∷ []) ∷
      MemberForm 33 (codes "join") ∷ CallForm 34 [] ∷ CallForm 17 (27 ∷ 29 ∷ 35 ∷ []) ∷ ExprStmtForm 36 ∷
      NumberForm (pos 1) ∷ NumberForm (pos 2) ∷ NumberForm (pos 3) ∷ ArrayForm (38 ∷ 39 ∷ 40 ∷ []) ∷
      DeclForm (codes "b") (Some 41) ∷ LetForm (42 ∷ []) ∷ NameForm (codes "Reflect") ∷
      MemberForm 44 (codes "preventExtensions") ∷ NameForm (codes "b") ∷ CallForm 45 (46 ∷ []) ∷
      ExprStmtForm 47 ∷ NameForm (codes "print") ∷ NameForm (codes "Reflect") ∷
      MemberForm 50 (codes "defineProperty") ∷ NameForm (codes "b") ∷ TextForm (codes "3") ∷ NumberForm (pos 1) ∷
      ValueForm (Written (codes "value")) 54 ∷ ObjectForm (55 ∷ []) ∷ CallForm 51 (52 ∷ 53 ∷ 56 ∷ []) ∷
      NameForm (codes "b") ∷ MemberForm 58 (codes "length") ∷ CallForm 49 (57 ∷ 59 ∷ []) ∷ ExprStmtForm 60 ∷
      NameForm (codes "print") ∷ NameForm (codes "Reflect") ∷ MemberForm 63 (codes "set") ∷
      NameForm (codes "b") ∷ TextForm (codes "length") ∷ NumberForm (pos 5) ∷ CallForm 64 (65 ∷ 66 ∷ 67 ∷ []) ∷
      NameForm (codes "b") ∷ MemberForm 69 (codes "length") ∷ CallForm 62 (68 ∷ 70 ∷ []) ∷ ExprStmtForm 71 ∷
      NameForm (codes "print") ∷ NameForm (codes "Reflect") ∷ MemberForm 74 (codes "set") ∷
      NameForm (codes "b") ∷ TextForm (codes "length") ∷ NumberForm (pos 1) ∷ CallForm 75 (76 ∷ 77 ∷ 78 ∷ []) ∷
      NameForm (codes "b") ∷ MemberForm 80 (codes "length") ∷ NameForm (codes "Reflect") ∷
      MemberForm 82 (codes "ownKeys") ∷ NameForm (codes "b") ∷ CallForm 83 (84 ∷ []) ∷
      MemberForm 85 (codes "join") ∷ CallForm 86 [] ∷ CallForm 73 (79 ∷ 81 ∷ 87 ∷ []) ∷ ExprStmtForm 88 ∷
      NameForm (codes "print") ∷ NameForm (codes "Reflect") ∷ MemberForm 91 (codes "set") ∷
      NameForm (codes "b") ∷ TextForm (codes "1") ∷ NumberForm (pos 1) ∷ CallForm 92 (93 ∷ 94 ∷ 95 ∷ []) ∷
      NameForm (codes "b") ∷ MemberForm 97 (codes "length") ∷ CallForm 90 (96 ∷ 98 ∷ []) ∷ ExprStmtForm 99 ∷
      NameForm (codes "print") ∷ NameForm (codes "Reflect") ∷ MemberForm 102 (codes "set") ∷
      NameForm (codes "b") ∷ TextForm (codes "00") ∷ NumberForm (pos 1) ∷ CallForm 103 (104 ∷ 105 ∷ 106 ∷ []) ∷
      NameForm (codes "Reflect") ∷ MemberForm 108 (codes "set") ∷ ArrayForm [] ∷ TextForm (codes "01") ∷
      NumberForm (pos 1) ∷ CallForm 109 (110 ∷ 111 ∷ 112 ∷ []) ∷ CallForm 101 (107 ∷ 113 ∷ []) ∷
      ExprStmtForm 114 ∷ ScriptForm (2 ∷ 16 ∷ 37 ∷ 43 ∷ 48 ∷ 61 ∷ 72 ∷ 89 ∷ 100 ∷ 115 ∷ []) ∷
      [];
  names =
      bound 116 (codes "a") false ∷ bound 116 (codes "b") false ∷
      [];
}

abbrev right : Program
right = record {
  forms =
      ScriptForm [] ∷
      [];
  names = [];
}

abbrev policy : List Rule
policy = []

abbrev schedule : List Letter
schedule = []

abbrev told : List (List ℕ)
told =
    (codes "L true 6") ∷
    (codes "L false 6 5,length") ∷
    (codes "L false 3") ∷
    (codes "L true 5") ∷
    (codes "L true 1 0,length") ∷
    (codes "L false 1") ∷
    (codes "L false true") ∷
    (codes "= done") ∷
    []

abbrev stage : Stage
stage = Story (left ∷ right ∷ []) policy schedule 1000000

pub Row : Type 0
Row = Shows false false stage told

pub row : Row
unfolding Row given Validate encode_utf8
row = (refl, refl)
