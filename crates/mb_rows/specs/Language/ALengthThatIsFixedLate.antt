use Rattle.std.specs.Prelude.{refl, ℕ, List, [], ◌∷◌, true, false, Some, codes, pos}
use Rattle.std.specs.Char.{encode_utf8}
use Rattle.mb_desc.specs.Validate.{Validate}
use Rattle.mb_world.specs.Value.{Truth}
use Rattle.mb_world.specs.Form.{Written, ScriptForm, LetForm, DeclForm, ExprStmtForm, NameForm, NumberForm, TextForm, LiteralForm, ArrayForm, ObjectForm, ValueForm, ArrowForm, MemberForm, IndexForm, CallForm}
use Rattle.mb_world.specs.Graph.{Program, Rule}
use Rattle.mb_model.specs.Engine.{given}
use Rattle.mb_model.specs.Story.{Stage, Letter, Story}
use Rattle.mb_rows.specs.Shows.{bound, Shows}

-- run
-- left
--
--     let a = [1];
--     print(Reflect.defineProperty(a, "length", { get: () => 1 }));
--     print(Reflect.defineProperty(a, "length", { enumerable: true }));
--     print(Reflect.defineProperty(a, "length", { value: 0, configurable: true }), a.length);
--     print(Reflect.defineProperty(a, "length", { writable: false }));
--     print(Reflect.set(a, "length", 1));
--     print(Reflect.set(a, "0", 5), a[0]);
--     print(Reflect.set(a, "1", 5));
--     print(Reflect.deleteProperty(a, "length"));
--     print(Reflect.deleteProperty(a, "0"), Reflect.ownKeys(a).join());
--     print(Reflect.defineProperty(a, "0", { get: () => 3 }), a[0]);
-- right
--     (empty)

abbrev left : Program
left = record {
  forms =
      NumberForm (pos 1) ∷ ArrayForm (0 ∷ []) ∷ DeclForm (codes "a") (Some 1) ∷ LetForm (2 ∷ []) ∷
      NameForm (codes "print") ∷ NameForm (codes "Reflect") ∷ MemberForm 5 (codes "defineProperty") ∷
      NameForm (codes "a") ∷ TextForm (codes "length") ∷ NumberForm (pos 1) ∷
      ArrowForm (record { params = []; body = (9 ∷ []) }) false ∷ ValueForm (Written (codes "get")) 10 ∷
      ObjectForm (11 ∷ []) ∷ CallForm 6 (7 ∷ 8 ∷ 12 ∷ []) ∷ CallForm 4 (13 ∷ []) ∷ ExprStmtForm 14 ∷
      NameForm (codes "print") ∷ NameForm (codes "Reflect") ∷ MemberForm 17 (codes "defineProperty") ∷
      NameForm (codes "a") ∷ TextForm (codes "length") ∷ LiteralForm (Truth true) ∷
      ValueForm (Written (codes "enumerable")) 21 ∷ ObjectForm (22 ∷ []) ∷ CallForm 18 (19 ∷ 20 ∷ 23 ∷ []) ∷
      CallForm 16 (24 ∷ []) ∷ ExprStmtForm 25 ∷ NameForm (codes "print") ∷ NameForm (codes "Reflect") ∷
      MemberForm 28 (codes "defineProperty") ∷ NameForm (codes "a") ∷ TextForm (codes "length") ∷
      NumberForm (pos 0) ∷ ValueForm (Written (codes "value")) 32 ∷ LiteralForm (Truth true) ∷
      ValueForm (Written (codes "configurable")) 34 ∷ ObjectForm (33 ∷ 35 ∷ []) ∷
      CallForm 29 (30 ∷ 31 ∷ 36 ∷ []) ∷ NameForm (codes "a") ∷ MemberForm 38 (codes "length") ∷
      CallForm 27 (37 ∷ 39 ∷ []) ∷ ExprStmtForm 40 ∷ NameForm (codes "print") ∷ NameForm (codes "Reflect") ∷
      MemberForm 43 (codes "defineProperty") ∷ NameForm (codes "a") ∷ TextForm (codes "length") ∷
      LiteralForm (Truth false) ∷ ValueForm (Written (codes "writable")) 47 ∷ ObjectForm (48 ∷ []) ∷
      CallForm 44 (45 ∷ 46 ∷ 49 ∷ []) ∷ CallForm 42 (50 ∷ []) ∷ ExprStmtForm 51 ∷ NameForm (codes "print") ∷
      NameForm (codes "Reflect") ∷ MemberForm 54 (codes "set") ∷ NameForm (codes "a") ∷
      TextForm (codes "length") ∷ NumberForm (pos 1) ∷ CallForm 55 (56 ∷ 57 ∷ 58 ∷ []) ∷ CallForm 53 (59 ∷ []) ∷
      ExprStmtForm 60 ∷ NameForm (codes "print") ∷ NameForm (codes "Reflect") ∷ MemberForm 63 (codes "set") ∷
      NameForm (codes "a") ∷ TextForm (codes "0") ∷ NumberForm (pos 5) ∷ CallForm 64 (65 ∷ 66 ∷ 67 ∷ []) ∷
      NameForm (codes "a") ∷ NumberForm (pos 0) ∷ IndexForm 69 70 ∷ CallForm 62 (68 ∷ 71 ∷ []) ∷
      ExprStmtForm 72 ∷ NameForm (codes "print") ∷ NameForm (codes "Reflect") ∷ MemberForm 75 (codes "set") ∷
      NameForm (codes "a") ∷ TextForm (codes "1") ∷ NumberForm (pos 5) ∷ CallForm 76 (77 ∷ 78 ∷ 79 ∷ []) ∷
      CallForm 74 (80 ∷ []) ∷ ExprStmtForm 81 ∷ NameForm (codes "print") ∷ NameForm (codes "Reflect") ∷
      MemberForm 84 (codes "deleteProperty") ∷ NameForm (codes "a") ∷ TextForm (codes "length") ∷
      CallForm 85 (86 ∷ 87 ∷ []) ∷ CallForm 83 (88 ∷ []) ∷ ExprStmtForm 89 ∷ NameForm (codes "print") ∷
      NameForm (codes "Reflect") ∷ MemberForm 92 (codes "deleteProperty") ∷ NameForm (codes "a") ∷
      TextForm (codes "0") ∷ CallForm 93 (94 ∷ 95 ∷ []) ∷ NameForm (codes "Reflect") ∷
      MemberForm 97 (codes "ownKeys") ∷ NameForm (codes "a") ∷ CallForm 98 (99 ∷ []) ∷
      MemberForm 100 (codes "join") ∷ CallForm 101 [] ∷ CallForm 91 (96 ∷ 102 ∷ []) ∷ ExprStmtForm 103 ∷
      NameForm (codes "print") ∷ NameForm (codes "Reflect") ∷ MemberForm 106 (codes "defineProperty") ∷
      NameForm (codes "a") ∷ TextForm (codes "0") ∷ NumberForm (pos 3) ∷
      ArrowForm (record { params = []; body = (110 ∷ []) }) false ∷ ValueForm (Written (codes "get")) 111 ∷
      ObjectForm (112 ∷ []) ∷ CallForm 107 (108 ∷ 109 ∷ 113 ∷ []) ∷ NameForm (codes "a") ∷ NumberForm (pos 0) ∷
      IndexForm 115 116 ∷ CallForm 105 (114 ∷ 117 ∷ []) ∷ ExprStmtForm 118 ∷
      ScriptForm (3 ∷ 15 ∷ 26 ∷ 41 ∷ 52 ∷ 61 ∷ 73 ∷ 82 ∷ 90 ∷ 104 ∷ 119 ∷ []) ∷
      [];
  names =
      bound 120 (codes "a") false ∷
      [];
}

abbrev right : Program
right = record {
  forms =
      ScriptForm [] ∷
      [];
  names = [];
}

abbrev policy : List Rule
policy = []

abbrev schedule : List Letter
schedule = []

abbrev told : List (List ℕ)
told =
    (codes "L false") ∷
    (codes "L false") ∷
    (codes "L false 1") ∷
    (codes "L true") ∷
    (codes "L false") ∷
    (codes "L true 5") ∷
    (codes "L false") ∷
    (codes "L false") ∷
    (codes "L true length") ∷
    (codes "L true 3") ∷
    (codes "= done") ∷
    []

abbrev stage : Stage
stage = Story (left ∷ right ∷ []) policy schedule 1000000

pub Row : Type 0
Row = Shows false false stage told

pub row : Row
unfolding Row given Validate encode_utf8
row = (refl, refl)
