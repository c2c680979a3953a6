use Rattle.std.specs.Prelude.{◌≡◌, refl, ℕ, List, [], ◌∷◌, ◌++◌, true, false, Some, codes, pos}
use Rattle.std.specs.Char.{encode_utf8}
use Rattle.mb_tree.specs.declared.kind.Sign.TheVariants.{TripleEqual, Delete as DeleteSign}
use Rattle.mb_desc.specs.Validate.{Validate}
use Rattle.mb_world.specs.Value.{Undefined, Null, Truth}
use Rattle.mb_world.specs.Form.{Written, ScriptForm, LetForm, DeclForm, ExprStmtForm, ParamForm, NameForm, NumberForm, TextForm, LiteralForm, ArrayForm, ObjectForm, ValueForm, ArrowForm, MemberForm, AssignForm, CallForm, NewForm, CondForm, UnaryForm, BinaryForm}
use Rattle.mb_world.specs.Graph.{Program, Rule}
use Rattle.mb_model.specs.Engine.{given}
use Rattle.mb_model.specs.Story.{Stage, Letter, Story}
use Rattle.mb_rows.specs.Shows.{bound, Shows}

-- run --trace
-- left
--     desk.t = { a: 1 };
-- right
--     let t = desk.t;
--     let h = { getPrototypeOf: () => null, setPrototypeOf: () => true, isExtensible: () => true, preventExtensions: () => false,
--       getOwnPropertyDescriptor: (x, k) => k === "a" ? { value: 2, configurable: true } : undefined, defineProperty: () => true,
--       has: () => false, get: () => 7, set: () => true, deleteProperty: () => true, ownKeys: () => ["a"] };
--     let p = new Proxy(t, h);
--     print(Reflect.getPrototypeOf(p), Reflect.setPrototypeOf(p, null), Reflect.isExtensible(p), Reflect.preventExtensions(p));
--     print("own"); Reflect.getOwnPropertyDescriptor(p, "a"); print("absent"); Reflect.getOwnPropertyDescriptor(p, "z");
--     print("define"); Reflect.defineProperty(p, "a", { value: 3 });
--     print("has"); Reflect.has(p, "a"); print("lacks"); Reflect.has(p, "z");
--     print("get"); p.a; print("set"); p.a = 5; print("delete"); delete p.a; print("gone"); delete p.z; print("keys"); Reflect.ownKeys(p);

abbrev left : Program
left = record {
  forms =
      NameForm (codes "desk") ∷ MemberForm 0 (codes "t") ∷ NumberForm (pos 1) ∷
      ValueForm (Written (codes "a")) 2 ∷ ObjectForm (3 ∷ []) ∷ AssignForm 1 4 ∷ ExprStmtForm 5 ∷
      ScriptForm (6 ∷ []) ∷
      [];
  names = [];
}

abbrev right : Program
right = record {
  forms =
      NameForm (codes "desk") ∷ MemberForm 0 (codes "t") ∷ DeclForm (codes "t") (Some 1) ∷ LetForm (2 ∷ []) ∷
      LiteralForm (Null) ∷ ArrowForm (record { params = []; body = (4 ∷ []) }) false ∷
      ValueForm (Written (codes "getPrototypeOf")) 5 ∷ LiteralForm (Truth true) ∷
      ArrowForm (record { params = []; body = (7 ∷ []) }) false ∷
      ValueForm (Written (codes "setPrototypeOf")) 8 ∷ LiteralForm (Truth true) ∷
      ArrowForm (record { params = []; body = (10 ∷ []) }) false ∷
      ValueForm (Written (codes "isExtensible")) 11 ∷ LiteralForm (Truth false) ∷
      ArrowForm (record { params = []; body = (13 ∷ []) }) false ∷
      ValueForm (Written (codes "preventExtensions")) 14 ∷ ParamForm (codes "x") ∷ ParamForm (codes "k") ∷
      NameForm (codes "k") ∷ TextForm (codes "a") ∷ BinaryForm TripleEqual 18 19 ∷ NumberForm (pos 2) ∷
      ValueForm (Written (codes "value")) 21 ∷ LiteralForm (Truth true) ∷
      ValueForm (Written (codes "configurable")) 23 ∷ ObjectForm (22 ∷ 24 ∷ []) ∷ LiteralForm (Undefined) ∷
      CondForm 20 25 26 ∷
      ArrowForm (record { params = (codes "x") ∷ (codes "k") ∷ []; body = (27 ∷ []) }) false ∷
      ValueForm (Written (codes "getOwnPropertyDescriptor")) 28 ∷ LiteralForm (Truth true) ∷
      ArrowForm (record { params = []; body = (30 ∷ []) }) false ∷
      ValueForm (Written (codes "defineProperty")) 31 ∷ LiteralForm (Truth false) ∷
      ArrowForm (record { params = []; body = (33 ∷ []) }) false ∷ ValueForm (Written (codes "has")) 34 ∷
      NumberForm (pos 7) ∷ ArrowForm (record { params = []; body = (36 ∷ []) }) false ∷
      ValueForm (Written (codes "get")) 37 ∷ LiteralForm (Truth true) ∷
      ArrowForm (record { params = []; body = (39 ∷ []) }) false ∷ ValueForm (Written (codes "set")) 40 ∷
      LiteralForm (Truth true) ∷ ArrowForm (record { params = []; body = (42 ∷ []) }) false ∷
      ValueForm (Written (codes "deleteProperty")) 43 ∷ TextForm (codes "a") ∷ ArrayForm (45 ∷ []) ∷
      ArrowForm (record { params = []; body = (46 ∷ []) }) false ∷ ValueForm (Written (codes "ownKeys")) 47 ∷
      ObjectForm (6 ∷ 9 ∷ 12 ∷ 15 ∷ 29 ∷ 32 ∷ 35 ∷ 38 ∷ 41 ∷ 44 ∷ 48 ∷ []) ∷ DeclForm (codes "h") (Some 49) ∷
      LetForm (50 ∷ []) ∷ NameForm (codes "Proxy") ∷ NameForm (codes "t") ∷ NameForm (codes "h") ∷
      NewForm 52 (53 ∷ 54 ∷ []) ∷ DeclForm (codes "p") (Some 55) ∷ LetForm (56 ∷ []) ∷ NameForm (codes "print") ∷
      NameForm (codes "Reflect") ∷ MemberForm 59 (codes "getPrototypeOf") ∷ NameForm (codes "p") ∷
      CallForm 60 (61 ∷ []) ∷ NameForm (codes "Reflect") ∷ MemberForm 63 (codes "setPrototypeOf") ∷
      NameForm (codes "p") ∷ LiteralForm (Null) ∷ CallForm 64 (65 ∷ 66 ∷ []) ∷ NameForm (codes "Reflect") ∷
      MemberForm 68 (codes "isExtensible") ∷ NameForm (codes "p") ∷ CallForm 69 (70 ∷ []) ∷
      NameForm (codes "Reflect") ∷ MemberForm 72 (codes "preventExtensions") ∷ NameForm (codes "p") ∷
      CallForm 73 (74 ∷ []) ∷ CallForm 58 (62 ∷ 67 ∷ 71 ∷ 75 ∷ []) ∷ ExprStmtForm 76 ∷ NameForm (codes "print") ∷
      TextForm (codes "own") ∷ CallForm 78 (79 ∷ []) ∷ ExprStmtForm 80 ∷ NameForm (codes "Reflect") ∷
      MemberForm 82 (codes "getOwnPropertyDescriptor") ∷ NameForm (codes "p") ∷ TextForm (codes "a") ∷
      CallForm 83 (84 ∷ 85 ∷ []) ∷ ExprStmtForm 86 ∷ NameForm (codes "print") ∷ TextForm (codes "absent") ∷
      CallForm 88 (89 ∷ []) ∷ ExprStmtForm 90 ∷ NameForm (codes "Reflect") ∷
      MemberForm 92 (codes "getOwnPropertyDescriptor") ∷ NameForm (codes "p") ∷ TextForm (codes "z") ∷
      CallForm 93 (94 ∷ 95 ∷ []) ∷ ExprStmtForm 96 ∷ NameForm (codes "print") ∷ TextForm (codes "define") ∷
      CallForm 98 (99 ∷ []) ∷ ExprStmtForm 100 ∷ NameForm (codes "Reflect") ∷
      MemberForm 102 (codes "defineProperty") ∷ NameForm (codes "p") ∷ TextForm (codes "a") ∷
      NumberForm (pos 3) ∷ ValueForm (Written (codes "value")) 106 ∷ ObjectForm (107 ∷ []) ∷
      CallForm 103 (104 ∷ 105 ∷ 108 ∷ []) ∷ ExprStmtForm 109 ∷ NameForm (codes "print") ∷
      TextForm (codes "has") ∷ CallForm 111 (112 ∷ []) ∷ ExprStmtForm 113 ∷ NameForm (codes "Reflect") ∷
      MemberForm 115 (codes "has") ∷ NameForm (codes "p") ∷ TextForm (codes "a") ∷
      CallForm 116 (117 ∷ 118 ∷ []) ∷ ExprStmtForm 119 ∷ NameForm (codes "print") ∷ TextForm (codes "lacks") ∷
      CallForm 121 (122 ∷ []) ∷ ExprStmtForm 123 ∷ NameForm (codes "Reflect") ∷ MemberForm 125 (codes "has") ∷
      NameForm (codes "p") ∷ TextForm (codes "z") ∷ CallForm 126 (127 ∷ 128 ∷ []) ∷ ExprStmtForm 129 ∷
      NameForm (codes "print") ∷ TextForm (codes "get") ∷ CallForm 131 (132 ∷ []) ∷ ExprStmtForm 133 ∷
      NameForm (codes "p") ∷ MemberForm 135 (codes "a") ∷ ExprStmtForm 136 ∷ NameForm (codes "print") ∷
      TextForm (codes "set") ∷ CallForm 138 (139 ∷ []) ∷ ExprStmtForm 140 ∷ NameForm (codes "p") ∷
      MemberForm 142 (codes "a") ∷ NumberForm (pos 5) ∷ AssignForm 143 144 ∷ ExprStmtForm 145 ∷
      NameForm (codes "print") ∷ TextForm (codes "delete") ∷ CallForm 147 (148 ∷ []) ∷ ExprStmtForm 149 ∷
      NameForm (codes "p") ∷ MemberForm 151 (codes "a") ∷ UnaryForm DeleteSign 152 ∷ ExprStmtForm 153 ∷
      NameForm (codes "print") ∷ TextForm (codes "gone") ∷ CallForm 155 (156 ∷ []) ∷ ExprStmtForm 157 ∷
      NameForm (codes "p") ∷ MemberForm 159 (codes "z") ∷ UnaryForm DeleteSign 160 ∷ ExprStmtForm 161 ∷
      NameForm (codes "print") ∷ TextForm (codes "keys") ∷ CallForm 163 (164 ∷ []) ∷ ExprStmtForm 165 ∷
      NameForm (codes "Reflect") ∷ MemberForm 167 (codes "ownKeys") ∷ NameForm (codes "p") ∷
      CallForm 168 (169 ∷ []) ∷ ExprStmtForm 170 ∷
      ScriptForm (3 ∷ 51 ∷ 57 ∷ 77 ∷ 81 ∷ 87 ∷ 91 ∷ 97 ∷ 101 ∷ 110 ∷ 114 ∷ 120 ∷ 124 ∷ 130 ∷ 134 ∷ 137 ∷ 141 ∷
      146 ∷ 150 ∷ 154 ∷ 158 ∷ 162 ∷ 166 ∷ 171 ∷ []) ∷
      [];
  names =
      bound 28 (codes "x") false ∷ bound 28 (codes "k") false ∷ bound 172 (codes "t") false ∷
      bound 172 (codes "h") false ∷ bound 172 (codes "p") false ∷
      [];
}

abbrev policy : List Rule
policy = []

abbrev schedule : List Letter
schedule = []

abbrev told : List (List ℕ)
told =
    (codes "T 0 R #0 get \"t\" - #1") ∷
    (codes "T 1 R #1 isExtensible - - true") ∷
    (codes "T 2 R #1 isExtensible - - true") ∷
    (codes "T 3 R #1 isExtensible - - true") ∷
    (codes "R null true true false") ∷
    (codes "R own") ∷
    (codes "T 4 R #1 getOwnPropertyDescriptor \"a\" - {value=1,writable=true,enumerable=true,c" ++
    codes "onfigurable=true}") ∷
    (codes "T 5 R #1 isExtensible - - true") ∷
    (codes "R absent") ∷
    (codes "T 6 R #1 getOwnPropertyDescriptor \"z\" - none") ∷
    (codes "R define") ∷
    (codes "T 7 R #1 getOwnPropertyDescriptor \"a\" - {value=1,writable=true,enumerable=true,c" ++
    codes "onfigurable=true}") ∷
    (codes "T 8 R #1 isExtensible - - true") ∷
    (codes "R has") ∷
    (codes "T 9 R #1 getOwnPropertyDescriptor \"a\" - {value=1,writable=true,enumerable=true,c" ++
    codes "onfigurable=true}") ∷
    (codes "T 10 R #1 isExtensible - - true") ∷
    (codes "R lacks") ∷
    (codes "T 11 R #1 getOwnPropertyDescriptor \"z\" - none") ∷
    (codes "R get") ∷
    (codes "T 12 R #1 getOwnPropertyDescriptor \"a\" - {value=1,writable=true,enumerable=true," ++
    codes "configurable=true}") ∷
    (codes "R set") ∷
    (codes "T 13 R #1 getOwnPropertyDescriptor \"a\" - {value=1,writable=true,enumerable=true," ++
    codes "configurable=true}") ∷
    (codes "R delete") ∷
    (codes "T 14 R #1 getOwnPropertyDescriptor \"a\" - {value=1,writable=true,enumerable=true," ++
    codes "configurable=true}") ∷
    (codes "T 15 R #1 isExtensible - - true") ∷
    (codes "R gone") ∷
    (codes "T 16 R #1 getOwnPropertyDescriptor \"z\" - none") ∷
    (codes "R keys") ∷
    (codes "T 17 R #1 isExtensible - - true") ∷
    (codes "T 18 R #1 ownKeys - - [\"a\"]") ∷
    (codes "T 19 R #1 getOwnPropertyDescriptor \"a\" - {value=1,writable=true,enumerable=true," ++
    codes "configurable=true}") ∷
    (codes "= done") ∷
    []

abbrev stage : Stage
stage = Story (left ∷ right ∷ []) policy schedule 1000000

pub Row : Type 0
Row = Shows true false stage told × (stage.left ≡ 999650)

pub row : Row
unfolding Row given Validate encode_utf8
row = ((refl, refl), refl)
