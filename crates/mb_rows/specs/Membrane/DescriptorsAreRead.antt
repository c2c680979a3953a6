use Rattle.std.specs.Prelude.{refl, ℕ, List, [], ◌∷◌, true, false, Some, None, codes, pos}
use Rattle.std.specs.Char.{encode_utf8}
use Rattle.mb_tree.specs.declared.kind.Sign.TheVariants.{Instanceof}
use Rattle.mb_desc.specs.Validate.{Validate}
use Rattle.mb_world.specs.Value.{Undefined}
use Rattle.mb_world.specs.Form.{Written, ScriptForm, LetForm, DeclForm, BlockForm, ExprStmtForm, TryForm, ParamForm, NameForm, NumberForm, TextForm, LiteralForm, ArrayForm, ObjectForm, ValueForm, GetterForm, MemberForm, AssignForm, CallForm, BinaryForm}
use Rattle.mb_world.specs.Graph.{Program, Rule}
use Rattle.mb_model.specs.Engine.{given}
use Rattle.mb_model.specs.Story.{Stage, Letter, Story}
use Rattle.mb_rows.specs.Shows.{bound, Shows}

-- run --trace
-- left
--     desk.d = { get: 5, set: undefined, value: 1 }; desk.e = { get: undefined, value: 1 };
-- right
--     try { Reflect.defineProperty({}, "k", desk.d); } catch (e) { print(e instanceof TypeError); } try { Reflect.defineProperty({}, "k", desk.e); } catch (e) { print(e instanceof TypeError); }
--     print(Reflect.ownKeys(Reflect.getOwnPropertyDescriptor({ get a() { } }, "a")).join(), Reflect.ownKeys(Reflect.getOwnPropertyDescriptor([], "length")).join());
--     try { Reflect.defineProperty({}, "k", { set: {} }); } catch (e) { print(e instanceof TypeError); }
--     try { Reflect.defineProperty({}, "k", 5); } catch (e) { print(e instanceof TypeError); }
--     let o = {}; print(Reflect.defineProperty(o, "k", Object.create({ value: 4, writable: "yes", enumerable: 0 })), o.k, Object.keys(o).length, Reflect.set(o, "k", 5), o.k);

abbrev left : Program
left = record {
  forms =
      NameForm (codes "desk") ∷ MemberForm 0 (codes "d") ∷ NumberForm (pos 5) ∷
      ValueForm (Written (codes "get")) 2 ∷ LiteralForm (Undefined) ∷ ValueForm (Written (codes "set")) 4 ∷
      NumberForm (pos 1) ∷ ValueForm (Written (codes "value")) 6 ∷ ObjectForm (3 ∷ 5 ∷ 7 ∷ []) ∷ AssignForm 1 8 ∷
      ExprStmtForm 9 ∷ NameForm (codes "desk") ∷ MemberForm 11 (codes "e") ∷ LiteralForm (Undefined) ∷
      ValueForm (Written (codes "get")) 13 ∷ NumberForm (pos 1) ∷ ValueForm (Written (codes "value")) 15 ∷
      ObjectForm (14 ∷ 16 ∷ []) ∷ AssignForm 12 17 ∷ ExprStmtForm 18 ∷ ScriptForm (10 ∷ 19 ∷ []) ∷
      [];
  names = [];
}

abbrev right : Program
right = record {
  forms =
      NameForm (codes "Reflect") ∷ MemberForm 0 (codes "defineProperty") ∷ ObjectForm [] ∷ TextForm (codes "k") ∷
      NameForm (codes "desk") ∷ MemberForm 4 (codes "d") ∷ CallForm 1 (2 ∷ 3 ∷ 5 ∷ []) ∷ ExprStmtForm 6 ∷
      BlockForm (7 ∷ []) ∷ ParamForm (codes "e") ∷ NameForm (codes "print") ∷ NameForm (codes "e") ∷
      NameForm (codes "TypeError") ∷ BinaryForm Instanceof 11 12 ∷ CallForm 10 (13 ∷ []) ∷ ExprStmtForm 14 ∷
      BlockForm (15 ∷ []) ∷ TryForm 8 (Some (codes "e")) (Some 16) None ∷ NameForm (codes "Reflect") ∷
      MemberForm 18 (codes "defineProperty") ∷ ObjectForm [] ∷ TextForm (codes "k") ∷ NameForm (codes "desk") ∷
      MemberForm 22 (codes "e") ∷ CallForm 19 (20 ∷ 21 ∷ 23 ∷ []) ∷ ExprStmtForm 24 ∷ BlockForm (25 ∷ []) ∷
      ParamForm (codes "e") ∷ NameForm (codes "print") ∷ NameForm (codes "e") ∷ NameForm (codes "TypeError") ∷
      BinaryForm Instanceof 29 30 ∷ CallForm 28 (31 ∷ []) ∷ ExprStmtForm 32 ∷ BlockForm (33 ∷ []) ∷
      TryForm 26 (Some (codes "e")) (Some 34) None ∷ NameForm (codes "print") ∷ NameForm (codes "Reflect") ∷
      MemberForm 37 (codes "ownKeys") ∷ NameForm (codes "Reflect") ∷
      MemberForm 39 (codes "getOwnPropertyDescriptor") ∷
      GetterForm (Written (codes "a")) (record { params = []; body = [] }) ∷ ObjectForm (41 ∷ []) ∷
      TextForm (codes "a") ∷ CallForm 40 (42 ∷ 43 ∷ []) ∷ CallForm 38 (44 ∷ []) ∷ MemberForm 45 (codes "join") ∷
      CallForm 46 [] ∷ NameForm (codes "Reflect") ∷ MemberForm 48 (codes "ownKeys") ∷
      NameForm (codes "Reflect") ∷ MemberForm 50 (codes "getOwnPropertyDescriptor") ∷ ArrayForm [] ∷
      TextForm (codes "length") ∷ CallForm 51 (52 ∷ 53 ∷ []) ∷ CallForm 49 (54 ∷ []) ∷
      MemberForm 55 (codes "join") ∷ CallForm 56 [] ∷ CallForm 36 (47 ∷ 57 ∷ []) ∷ ExprStmtForm 58 ∷
      NameForm (codes "Reflect") ∷ MemberForm 60 (codes "defineProperty") ∷ ObjectForm [] ∷
      TextForm (codes "k") ∷ ObjectForm [] ∷ ValueForm (Written (codes "set")) 64 ∷ ObjectForm (65 ∷ []) ∷
      CallForm 61 (62 ∷ 63 ∷ 66 ∷ []) ∷ ExprStmtForm 67 ∷ BlockForm (68 ∷ []) ∷ ParamForm (codes "e") ∷
      NameForm (codes "print") ∷ NameForm (codes "e") ∷ NameForm (codes "TypeError") ∷
      BinaryForm Instanceof 72 73 ∷ CallForm 71 (74 ∷ []) ∷ ExprStmtForm 75 ∷ BlockForm (76 ∷ []) ∷
      TryForm 69 (Some (codes "e")) (Some 77) None ∷ NameForm (codes "Reflect") ∷
      MemberForm 79 (codes "defineProperty") ∷ ObjectForm [] ∷ TextForm (codes "k") ∷ NumberForm (pos 5) ∷
      CallForm 80 (81 ∷ 82 ∷ 83 ∷ []) ∷ ExprStmtForm 84 ∷ BlockForm (85 ∷ []) ∷ ParamForm (codes "e") ∷
      NameForm (codes "print") ∷ NameForm (codes "e") ∷ NameForm (codes "TypeError") ∷
      BinaryForm Instanceof 89 90 ∷ CallForm 88 (91 ∷ []) ∷ ExprStmtForm 92 ∷ BlockForm (93 ∷ []) ∷
      TryForm 86 (Some (codes "e")) (Some 94) None ∷ ObjectForm [] ∷ DeclForm (codes "o") (Some 96) ∷
      LetForm (97 ∷ []) ∷ NameForm (codes "print") ∷ NameForm (codes "Reflect") ∷
      MemberForm 100 (codes "defineProperty") ∷ NameForm (codes "o") ∷ TextForm (codes "k") ∷
      NameForm (codes "Object") ∷ MemberForm 104 (codes "create") ∷ NumberForm (pos 4) ∷
      ValueForm (Written (codes "value")) 106 ∷ TextForm (codes "yes") ∷
      ValueForm (Written (codes "writable")) 108 ∷ NumberForm (pos 0) ∷
      ValueForm (Written (codes "enumerable")) 110 ∷ ObjectForm (107 ∷ 109 ∷ 111 ∷ []) ∷
      CallForm 105 (112 ∷ []) ∷ CallForm 101 (102 ∷ 103 ∷ 113 ∷ []) ∷ NameForm (codes "o") ∷
      MemberForm 115 (codes "k") ∷ NameForm (codes "Object") ∷ MemberForm 117 (codes "keys") ∷
      NameForm (codes "o") ∷ CallForm 118 (119 ∷ []) ∷ MemberForm 120 (codes "length") ∷
      NameForm (codes "Reflect") ∷ MemberForm 122 (codes "set") ∷ NameForm (codes "o") ∷ TextForm (codes "k") ∷
      NumberForm (pos 5) ∷ CallForm 123 (124 ∷ 125 ∷ 126 ∷ []) ∷ NameForm (codes "o") ∷
      MemberForm 128 (codes "k") ∷ CallForm 99 (114 ∷ 116 ∷ 121 ∷ 127 ∷ 129 ∷ []) ∷ ExprStmtForm 130 ∷
      ScriptForm (17 ∷ 35 ∷ 59 ∷ 78 ∷ 95 ∷ 98 ∷ 131 ∷ []) ∷
      [];
  names =
      bound 17 (codes "e") false ∷ bound 35 (codes "e") false ∷ bound 78 (codes "e") false ∷
      bound 95 (codes "e") false ∷ bound 132 (codes "o") false ∷
      [];
}

abbrev policy : List Rule
policy = []

abbrev schedule : List Letter
schedule = []

abbrev told : List (List ℕ)
told =
    (codes "T 0 R #0 get \"d\" - #1") ∷
    (codes "T 1 R #1 has \"enumerable\" - false") ∷
    (codes "T 2 R #1 has \"configurable\" - false") ∷
    (codes "T 3 R #1 has \"value\" - true") ∷
    (codes "T 4 R #1 get \"value\" - 1") ∷
    (codes "T 5 R #1 has \"writable\" - false") ∷
    (codes "T 6 R #1 has \"get\" - true") ∷
    (codes "T 7 R #1 get \"get\" - 5") ∷
    (codes "R true") ∷
    (codes "T 8 R #0 get \"e\" - #2") ∷
    (codes "T 9 R #2 has \"enumerable\" - false") ∷
    (codes "T 10 R #2 has \"configurable\" - false") ∷
    (codes "T 11 R #2 has \"value\" - true") ∷
    (codes "T 12 R #2 get \"value\" - 1") ∷
    (codes "T 13 R #2 has \"writable\" - false") ∷
    (codes "T 14 R #2 has \"get\" - true") ∷
    (codes "T 15 R #2 get \"get\" - undefined") ∷
    (codes "T 16 R #2 has \"set\" - false") ∷
    (codes "R true") ∷
    (codes "R get,set,enumerable,configurable value,writable,enumerable,configurable") ∷
    (codes "R true") ∷
    (codes "R true") ∷
    (codes "R true 4 0 true 5") ∷
    (codes "= done") ∷
    []

abbrev stage : Stage
stage = Story (left ∷ right ∷ []) policy schedule 1000000

pub Row : Type 0
Row = Shows true false stage told

pub row : Row
unfolding Row given Validate encode_utf8
row = (refl, refl)
