use Rattle.std.specs.Prelude.{refl, ℕ, List, [], ◌∷◌, ◌++◌, true, false, Some, None, codes, pos}
use Rattle.std.specs.Char.{encode_utf8}
use Rattle.mb_desc.specs.Validate.{Validate}
use Rattle.mb_world.specs.Value.{Null, Truth, Whole, Text}
use Rattle.mb_world.specs.Form.{Written, ScriptForm, LetForm, DeclForm, ExprStmtForm, NameForm, NumberForm, TextForm, LiteralForm, ObjectForm, ValueForm, ArrowForm, MemberForm, AssignForm, CallForm}
use Rattle.mb_world.specs.Graph.{Program, Rule, Hide, ReadOnly, Substitute, Revoke}
use Rattle.mb_model.specs.Engine.{given}
use Rattle.mb_model.specs.Story.{Stage, Letter, Story}
use Rattle.mb_rows.specs.Shows.{bound, Shows}

-- run --trace
-- left
--     desk.s = labelled("S"); Object.defineProperty(desk.s, "k", { get: () => 1, configurable: true, enumerable: true }); desk.s.z = 1; desk.c = Object.create(desk.s);
-- right
--
--     let s = desk.s;
--     print(s.k, Reflect.set(s, "k", 1), Reflect.set(Object.create(s), "k", 1), Reflect.defineProperty(s, "k", { value: 9, writable: false }), Reflect.deleteProperty(s, "k"), desk.c.k);
--     print(Reflect.set({}, "k", 4, s), Reflect.set({}, "y", 4, s), Reflect.setPrototypeOf(s, null), Reflect.preventExtensions(s), Reflect.ownKeys(s).join());
-- policy
--     version = 1
--     [[rule]]
--     label = "S"
--     kind = "substitute"
--     key = "k"
--     value = 9
--     [[rule]]
--     label = "H"
--     kind = "hide"
--     key = "k"
--     [[rule]]
--     label = "R"
--     kind = "read-only"
--     [[rule]]
--     label = "R"
--     kind = "hide"
--     key = "h"
--     [[rule]]
--     label = "R"
--     kind = "substitute"
--     key = "s"
--     value = "sub"
--     [[rule]]
--     label = "V"
--     kind = "revoke"
--     [[rule]]
--     label = "V"
--     kind = "read-only"

abbrev left : Program
left = record {
  forms =
      NameForm (codes "desk") ∷ MemberForm 0 (codes "s") ∷ NameForm (codes "labelled") ∷ TextForm (codes "S") ∷
      CallForm 2 (3 ∷ []) ∷ AssignForm 1 4 ∷ ExprStmtForm 5 ∷ NameForm (codes "Object") ∷
      MemberForm 7 (codes "defineProperty") ∷ NameForm (codes "desk") ∷ MemberForm 9 (codes "s") ∷
      TextForm (codes "k") ∷ NumberForm (pos 1) ∷ ArrowForm (record { params = []; body = (12 ∷ []) }) false ∷
      ValueForm (Written (codes "get")) 13 ∷ LiteralForm (Truth true) ∷
      ValueForm (Written (codes "configurable")) 15 ∷ LiteralForm (Truth true) ∷
      ValueForm (Written (codes "enumerable")) 17 ∷ ObjectForm (14 ∷ 16 ∷ 18 ∷ []) ∷
      CallForm 8 (10 ∷ 11 ∷ 19 ∷ []) ∷ ExprStmtForm 20 ∷ NameForm (codes "desk") ∷ MemberForm 22 (codes "s") ∷
      MemberForm 23 (codes "z") ∷ NumberForm (pos 1) ∷ AssignForm 24 25 ∷ ExprStmtForm 26 ∷
      NameForm (codes "desk") ∷ MemberForm 28 (codes "c") ∷ NameForm (codes "Object") ∷
      MemberForm 30 (codes "create") ∷ NameForm (codes "desk") ∷ MemberForm 32 (codes "s") ∷
      CallForm 31 (33 ∷ []) ∷ AssignForm 29 34 ∷ ExprStmtForm 35 ∷ ScriptForm (6 ∷ 21 ∷ 27 ∷ 36 ∷ []) ∷
      [];
  names = [];
}

abbrev right : Program
right = record {
  forms =
      NameForm (codes "desk") ∷ MemberForm 0 (codes "s") ∷ DeclForm (codes "s") (Some 1) ∷ LetForm (2 ∷ []) ∷
      NameForm (codes "print") ∷ NameForm (codes "s") ∷ MemberForm 5 (codes "k") ∷ NameForm (codes "Reflect") ∷
      MemberForm 7 (codes "set") ∷ NameForm (codes "s") ∷ TextForm (codes "k") ∷ NumberForm (pos 1) ∷
      CallForm 8 (9 ∷ 10 ∷ 11 ∷ []) ∷ NameForm (codes "Reflect") ∷ MemberForm 13 (codes "set") ∷
      NameForm (codes "Object") ∷ MemberForm 15 (codes "create") ∷ NameForm (codes "s") ∷ CallForm 16 (17 ∷ []) ∷
      TextForm (codes "k") ∷ NumberForm (pos 1) ∷ CallForm 14 (18 ∷ 19 ∷ 20 ∷ []) ∷ NameForm (codes "Reflect") ∷
      MemberForm 22 (codes "defineProperty") ∷ NameForm (codes "s") ∷ TextForm (codes "k") ∷ NumberForm (pos 9) ∷
      ValueForm (Written (codes "value")) 26 ∷ LiteralForm (Truth false) ∷
      ValueForm (Written (codes "writable")) 28 ∷ ObjectForm (27 ∷ 29 ∷ []) ∷ CallForm 23 (24 ∷ 25 ∷ 30 ∷ []) ∷
      NameForm (codes "Reflect") ∷ MemberForm 32 (codes "deleteProperty") ∷ NameForm (codes "s") ∷
      TextForm (codes "k") ∷ CallForm 33 (34 ∷ 35 ∷ []) ∷ NameForm (codes "desk") ∷ MemberForm 37 (codes "c") ∷
      MemberForm 38 (codes "k") ∷ CallForm 4 (6 ∷ 12 ∷ 21 ∷ 31 ∷ 36 ∷ 39 ∷ []) ∷ ExprStmtForm 40 ∷
      NameForm (codes "print") ∷ NameForm (codes "Reflect") ∷ MemberForm 43 (codes "set") ∷ ObjectForm [] ∷
      TextForm (codes "k") ∷ NumberForm (pos 4) ∷ NameForm (codes "s") ∷ CallForm 44 (45 ∷ 46 ∷ 47 ∷ 48 ∷ []) ∷
      NameForm (codes "Reflect") ∷ MemberForm 50 (codes "set") ∷ ObjectForm [] ∷ TextForm (codes "y") ∷
      NumberForm (pos 4) ∷ NameForm (codes "s") ∷ CallForm 51 (52 ∷ 53 ∷ 54 ∷ 55 ∷ []) ∷
      NameForm (codes "Reflect") ∷ MemberForm 57 (codes "setPrototypeOf") ∷ NameForm (codes "s") ∷
      LiteralForm (Null) ∷ CallForm 58 (59 ∷ 60 ∷ []) ∷ NameForm (codes "Reflect") ∷
      MemberForm 62 (codes "preventExtensions") ∷ NameForm (codes "s") ∷ CallForm 63 (64 ∷ []) ∷
      NameForm (codes "Reflect") ∷ MemberForm 66 (codes "ownKeys") ∷ NameForm (codes "s") ∷
      CallForm 67 (68 ∷ []) ∷ MemberForm 69 (codes "join") ∷ CallForm 70 [] ∷
      CallForm 42 (49 ∷ 56 ∷ 61 ∷ 65 ∷ 71 ∷ []) ∷ ExprStmtForm 72 ∷ ScriptForm (3 ∷ 41 ∷ 73 ∷ []) ∷
      [];
  names =
      bound 74 (codes "s") false ∷
      [];
}

abbrev policy : List Rule
policy =
    record { label = (codes "S"); kind = Substitute (codes "k") (Whole (pos 9)); owner = None; viewer = None } ∷
    record { label = (codes "H"); kind = Hide (codes "k"); owner = None; viewer = None } ∷
    record { label = (codes "R"); kind = ReadOnly; owner = None; viewer = None } ∷
    record { label = (codes "R"); kind = Hide (codes "h"); owner = None; viewer = None } ∷
    record { label = (codes "R"); kind = Substitute (codes "s") (Text (codes "sub")); owner = None; viewer = None } ∷
    record { label = (codes "V"); kind = Revoke; owner = None; viewer = None } ∷
    record { label = (codes "V"); kind = ReadOnly; owner = None; viewer = None } ∷
    []

abbrev schedule : List Letter
schedule = []

abbrev told : List (List ℕ)
told =
    (codes "T 0 R #0 get \"s\" - #1") ∷
    (codes "T 1 R #1 get \"k\" - 9") ∷
    (codes "T 2 R #1 set \"k\" 1 false") ∷
    (codes "T 3 R #1 set \"k\" 1 false") ∷
    (codes "T 4 R #1 defineProperty \"k\" {value=9,writable=false} false") ∷
    (codes "T 5 R #1 deleteProperty \"k\" - false") ∷
    (codes "T 6 R #0 get \"c\" - #4") ∷
    (codes "T 7 R #1 get \"k\" - 9") ∷
    (codes "T 7 R #4 get \"k\" - 9") ∷
    (codes "R 9 false false false false 9") ∷
    (codes "T 9 R #1 getOwnPropertyDescriptor \"k\" - {value=9,writable=false,enumerable=true," ++
    codes "configurable=true}") ∷
    (codes "T 10 R #1 getOwnPropertyDescriptor \"y\" - none") ∷
    (codes "T 11 R #1 defineProperty \"y\" {value=4,writable=true,enumerable=true,configurable" ++
    codes "=true} true") ∷
    (codes "T 12 R #1 setPrototypeOf - null true") ∷
    (codes "T 13 R #1 preventExtensions - - true") ∷
    (codes "T 14 R #1 ownKeys - - [\"k\",\"z\",\"y\"]") ∷
    (codes "R false true true true k,z,y") ∷
    (codes "= done") ∷
    []

abbrev stage : Stage
stage = Story (left ∷ right ∷ []) policy schedule 1000000

pub Row : Type 0
Row = Shows true false stage told

pub row : Row
unfolding Row given Validate encode_utf8
row = (refl, refl)
