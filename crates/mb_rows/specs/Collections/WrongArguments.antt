use Rattle.std.specs.Prelude.{refl, ℕ, List, [], ◌∷◌, true, false, Some, None, codes, pos}
use Rattle.std.specs.Char.{encode_utf8}
use Rattle.mb_tree.specs.declared.kind.Sign.TheVariants.{Instanceof}
use Rattle.mb_desc.specs.Validate.{Validate}
use Rattle.mb_world.specs.Value.{Undefined}
use Rattle.mb_world.specs.Form.{ScriptForm, LetForm, DeclForm, BlockForm, ExprStmtForm, TryForm, ParamForm, NameForm, NumberForm, TextForm, LiteralForm, ArrayForm, ObjectForm, ArrowForm, MemberForm, CallForm, NewForm, BinaryForm}
use Rattle.mb_world.specs.Graph.{Program, Rule}
use Rattle.mb_model.specs.Engine.{given}
use Rattle.mb_model.specs.Story.{Stage, Letter}
use Rattle.mb_rows.specs.Collecting.{StoryWithCollections}
use Rattle.mb_rows.specs.Shows.{bound, Shows}

-- run
-- left
--     let m = new Map(), s = new Set(), w = new WeakMap(), k = {};
--     let t = (f) => { try { f(); print("no error"); } catch (e) { print(e instanceof TypeError); } };
--     t(() => Map());
--     t(() => Set());
--     t(() => WeakMap());
--     t(() => new Map([]));
--     t(() => new Set(undefined, 1));
--     t(() => m.get.call(s, 1));
--     t(() => s.add.call(m, 1));
--     t(() => w.set.call(m, k, 1));
--     t(() => m.clear.call(w));
--     t(() => s.has.call(1, 1));
--     t(() => m.forEach(1));
--     t(() => s.forEach.call(m, (v) => v));
-- right
--     (empty)

abbrev left : Program
left = record {
  forms =
      NameForm (codes "Map") ∷ NewForm 0 [] ∷ DeclForm (codes "m") (Some 1) ∷ NameForm (codes "Set") ∷
      NewForm 3 [] ∷ DeclForm (codes "s") (Some 4) ∷ NameForm (codes "WeakMap") ∷ NewForm 6 [] ∷
      DeclForm (codes "w") (Some 7) ∷ ObjectForm [] ∷ DeclForm (codes "k") (Some 9) ∷
      LetForm (2 ∷ 5 ∷ 8 ∷ 10 ∷ []) ∷ ParamForm (codes "f") ∷ NameForm (codes "f") ∷ CallForm 13 [] ∷
      ExprStmtForm 14 ∷ NameForm (codes "print") ∷ TextForm (codes "no error") ∷ CallForm 16 (17 ∷ []) ∷
      ExprStmtForm 18 ∷ BlockForm (15 ∷ 19 ∷ []) ∷ ParamForm (codes "e") ∷ NameForm (codes "print") ∷
      NameForm (codes "e") ∷ NameForm (codes "TypeError") ∷ BinaryForm Instanceof 23 24 ∷ CallForm 22 (25 ∷ []) ∷
      ExprStmtForm 26 ∷ BlockForm (27 ∷ []) ∷ TryForm 20 (Some (codes "e")) (Some 28) None ∷
      ArrowForm (record { params = (codes "f") ∷ []; body = (29 ∷ []) }) true ∷ DeclForm (codes "t") (Some 30) ∷
      LetForm (31 ∷ []) ∷ NameForm (codes "t") ∷ NameForm (codes "Map") ∷ CallForm 34 [] ∷
      ArrowForm (record { params = []; body = (35 ∷ []) }) false ∷ CallForm 33 (36 ∷ []) ∷ ExprStmtForm 37 ∷
      NameForm (codes "t") ∷ NameForm (codes "Set") ∷ CallForm 40 [] ∷
      ArrowForm (record { params = []; body = (41 ∷ []) }) false ∷ CallForm 39 (42 ∷ []) ∷ ExprStmtForm 43 ∷
      NameForm (codes "t") ∷ NameForm (codes "WeakMap") ∷ CallForm 46 [] ∷
      ArrowForm (record { params = []; body = (47 ∷ []) }) false ∷ CallForm 45 (48 ∷ []) ∷ ExprStmtForm 49 ∷
      NameForm (codes "t") ∷ NameForm (codes "Map") ∷ ArrayForm [] ∷ NewForm 52 (53 ∷ []) ∷
      ArrowForm (record { params = []; body = (54 ∷ []) }) false ∷ CallForm 51 (55 ∷ []) ∷ ExprStmtForm 56 ∷
      NameForm (codes "t") ∷ NameForm (codes "Set") ∷ LiteralForm (Undefined) ∷ NumberForm (pos 1) ∷
      NewForm 59 (60 ∷ 61 ∷ []) ∷ ArrowForm (record { params = []; body = (62 ∷ []) }) false ∷
      CallForm 58 (63 ∷ []) ∷ ExprStmtForm 64 ∷ NameForm (codes "t") ∷ NameForm (codes "m") ∷
      MemberForm 67 (codes "get") ∷ MemberForm 68 (codes "call") ∷ NameForm (codes "s") ∷ NumberForm (pos 1) ∷
      CallForm 69 (70 ∷ 71 ∷ []) ∷ ArrowForm (record { params = []; body = (72 ∷ []) }) false ∷
      CallForm 66 (73 ∷ []) ∷ ExprStmtForm 74 ∷ NameForm (codes "t") ∷ NameForm (codes "s") ∷
      MemberForm 77 (codes "add") ∷ MemberForm 78 (codes "call") ∷ NameForm (codes "m") ∷ NumberForm (pos 1) ∷
      CallForm 79 (80 ∷ 81 ∷ []) ∷ ArrowForm (record { params = []; body = (82 ∷ []) }) false ∷
      CallForm 76 (83 ∷ []) ∷ ExprStmtForm 84 ∷ NameForm (codes "t") ∷ NameForm (codes "w") ∷
      MemberForm 87 (codes "set") ∷ MemberForm 88 (codes "call") ∷ NameForm (codes "m") ∷ NameForm (codes "k") ∷
      NumberForm (pos 1) ∷ CallForm 89 (90 ∷ 91 ∷ 92 ∷ []) ∷
      ArrowForm (record { params = []; body = (93 ∷ []) }) false ∷ CallForm 86 (94 ∷ []) ∷ ExprStmtForm 95 ∷
      NameForm (codes "t") ∷ NameForm (codes "m") ∷ MemberForm 98 (codes "clear") ∷
      MemberForm 99 (codes "call") ∷ NameForm (codes "w") ∷ CallForm 100 (101 ∷ []) ∷
      ArrowForm (record { params = []; body = (102 ∷ []) }) false ∷ CallForm 97 (103 ∷ []) ∷ ExprStmtForm 104 ∷
      NameForm (codes "t") ∷ NameForm (codes "s") ∷ MemberForm 107 (codes "has") ∷
      MemberForm 108 (codes "call") ∷ NumberForm (pos 1) ∷ NumberForm (pos 1) ∷ CallForm 109 (110 ∷ 111 ∷ []) ∷
      ArrowForm (record { params = []; body = (112 ∷ []) }) false ∷ CallForm 106 (113 ∷ []) ∷ ExprStmtForm 114 ∷
      NameForm (codes "t") ∷ NameForm (codes "m") ∷ MemberForm 117 (codes "forEach") ∷ NumberForm (pos 1) ∷
      CallForm 118 (119 ∷ []) ∷ ArrowForm (record { params = []; body = (120 ∷ []) }) false ∷
      CallForm 116 (121 ∷ []) ∷ ExprStmtForm 122 ∷ NameForm (codes "t") ∷ NameForm (codes "s") ∷
      MemberForm 125 (codes "forEach") ∷ MemberForm 126 (codes "call") ∷ NameForm (codes "m") ∷
      ParamForm (codes "v") ∷ NameForm (codes "v") ∷
      ArrowForm (record { params = (codes "v") ∷ []; body = (130 ∷ []) }) false ∷ CallForm 127 (128 ∷ 131 ∷ []) ∷
      ArrowForm (record { params = []; body = (132 ∷ []) }) false ∷ CallForm 124 (133 ∷ []) ∷ ExprStmtForm 134 ∷
      ScriptForm (11 ∷ 32 ∷ 38 ∷ 44 ∷ 50 ∷ 57 ∷ 65 ∷ 75 ∷ 85 ∷ 96 ∷ 105 ∷ 115 ∷ 123 ∷ 135 ∷ []) ∷
      [];
  names =
      bound 29 (codes "e") false ∷ bound 30 (codes "f") false ∷ bound 131 (codes "v") false ∷
      bound 136 (codes "m") false ∷ bound 136 (codes "s") false ∷ bound 136 (codes "w") false ∷
      bound 136 (codes "k") false ∷ bound 136 (codes "t") false ∷
      [];
}

abbrev right : Program
right = record {
  forms =
      ScriptForm [] ∷
      [];
  names = [];
}

abbrev policy : List Rule
policy = []

abbrev schedule : List Letter
schedule = []

abbrev told : List (List ℕ)
told =
    (codes "L true") ∷
    (codes "L true") ∷
    (codes "L true") ∷
    (codes "L true") ∷
    (codes "L true") ∷
    (codes "L true") ∷
    (codes "L true") ∷
    (codes "L true") ∷
    (codes "L true") ∷
    (codes "L true") ∷
    (codes "L true") ∷
    (codes "L true") ∷
    (codes "= done") ∷
    []

abbrev stage : Stage
stage = StoryWithCollections (left ∷ right ∷ []) policy schedule 1000000

pub Row : Type 0
Row = Shows false false stage told

pub row : Row
unfolding Row given Validate encode_utf8
row = (refl, refl)
