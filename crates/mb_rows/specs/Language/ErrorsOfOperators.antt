use Rattle.std.specs.Prelude.{refl, ℕ, List, [], ◌∷◌, true, false, Some, None, codes, pos}
use Rattle.std.specs.Char.{encode_utf8}
use Rattle.mb_tree.specs.declared.kind.Sign.TheVariants.{Plus, Minus, Slash, Percent, Less, In, Instanceof}
use Rattle.mb_desc.specs.Validate.{Validate}
use Rattle.mb_world.specs.Value.{Null, Truth}
use Rattle.mb_world.specs.Form.{ScriptForm, LetForm, DeclForm, BlockForm, ExprStmtForm, TryForm, ParamForm, NameForm, NumberForm, TextForm, LiteralForm, ObjectForm, ArrowForm, GroupForm, MemberForm, CallForm, NewForm, CondForm, UnaryForm, BinaryForm}
use Rattle.mb_world.specs.Graph.{Program, Rule}
use Rattle.mb_model.specs.Engine.{given}
use Rattle.mb_model.specs.Story.{Stage, Letter, Story}
use Rattle.mb_rows.specs.Shows.{bound, Shows}

-- run
-- left
--     let t = (f) => {
--       try { f(); print("none"); } catch (e) { print(e instanceof TypeError ? "T" : e instanceof RangeError ? "R" : "?"); }
--     };
--     t(() => 1 / 0);
--     t(() => 3 / 2);
--     t(() => 1 % 0);
--     t(() => 1 - "a");
--     t(() => 1 < "a");
--     t(() => true + 1);
--     t(() => "a" in 1);
--     t(() => 1 instanceof 1);
--     t(() => ({}) instanceof (() => 1));
--     t(() => -"a");
--     t(() => null.x);
--     t(() => ({})());
--     t(() => new (() => 1)());
--     t(() => 9007199254740991 + 1);
--     print(4 / -2, -7 % 3, 7 % -3, -6 / 2);
-- right
--     (empty)

abbrev left : Program
left = record {
  forms =
      ParamForm (codes "f") ∷ NameForm (codes "f") ∷ CallForm 1 [] ∷ ExprStmtForm 2 ∷ NameForm (codes "print") ∷
      TextForm (codes "none") ∷ CallForm 4 (5 ∷ []) ∷ ExprStmtForm 6 ∷ BlockForm (3 ∷ 7 ∷ []) ∷
      ParamForm (codes "e") ∷ NameForm (codes "print") ∷ NameForm (codes "e") ∷ NameForm (codes "TypeError") ∷
      BinaryForm Instanceof 11 12 ∷ TextForm (codes "T") ∷ NameForm (codes "e") ∷ NameForm (codes "RangeError") ∷
      BinaryForm Instanceof 15 16 ∷ TextForm (codes "R") ∷ TextForm (codes "?") ∷ CondForm 17 18 19 ∷
      CondForm 13 14 20 ∷ CallForm 10 (21 ∷ []) ∷ ExprStmtForm 22 ∷ BlockForm (23 ∷ []) ∷
      TryForm 8 (Some (codes "e")) (Some 24) None ∷
      ArrowForm (record { params = (codes "f") ∷ []; body = (25 ∷ []) }) true ∷ DeclForm (codes "t") (Some 26) ∷
      LetForm (27 ∷ []) ∷ NameForm (codes "t") ∷ NumberForm (pos 1) ∷ NumberForm (pos 0) ∷
      BinaryForm Slash 30 31 ∷ ArrowForm (record { params = []; body = (32 ∷ []) }) false ∷
      CallForm 29 (33 ∷ []) ∷ ExprStmtForm 34 ∷ NameForm (codes "t") ∷ NumberForm (pos 3) ∷ NumberForm (pos 2) ∷
      BinaryForm Slash 37 38 ∷ ArrowForm (record { params = []; body = (39 ∷ []) }) false ∷
      CallForm 36 (40 ∷ []) ∷ ExprStmtForm 41 ∷ NameForm (codes "t") ∷ NumberForm (pos 1) ∷ NumberForm (pos 0) ∷
      BinaryForm Percent 44 45 ∷ ArrowForm (record { params = []; body = (46 ∷ []) }) false ∷
      CallForm 43 (47 ∷ []) ∷ ExprStmtForm 48 ∷ NameForm (codes "t") ∷ NumberForm (pos 1) ∷
      TextForm (codes "a") ∷ BinaryForm Minus 51 52 ∷
      ArrowForm (record { params = []; body = (53 ∷ []) }) false ∷ CallForm 50 (54 ∷ []) ∷ ExprStmtForm 55 ∷
      NameForm (codes "t") ∷ NumberForm (pos 1) ∷ TextForm (codes "a") ∷ BinaryForm Less 58 59 ∷
      ArrowForm (record { params = []; body = (60 ∷ []) }) false ∷ CallForm 57 (61 ∷ []) ∷ ExprStmtForm 62 ∷
      NameForm (codes "t") ∷ LiteralForm (Truth true) ∷ NumberForm (pos 1) ∷ BinaryForm Plus 65 66 ∷
      ArrowForm (record { params = []; body = (67 ∷ []) }) false ∷ CallForm 64 (68 ∷ []) ∷ ExprStmtForm 69 ∷
      NameForm (codes "t") ∷ TextForm (codes "a") ∷ NumberForm (pos 1) ∷ BinaryForm In 72 73 ∷
      ArrowForm (record { params = []; body = (74 ∷ []) }) false ∷ CallForm 71 (75 ∷ []) ∷ ExprStmtForm 76 ∷
      NameForm (codes "t") ∷ NumberForm (pos 1) ∷ NumberForm (pos 1) ∷ BinaryForm Instanceof 79 80 ∷
      ArrowForm (record { params = []; body = (81 ∷ []) }) false ∷ CallForm 78 (82 ∷ []) ∷ ExprStmtForm 83 ∷
      NameForm (codes "t") ∷ ObjectForm [] ∷ GroupForm 86 ∷ NumberForm (pos 1) ∷
      ArrowForm (record { params = []; body = (88 ∷ []) }) false ∷ GroupForm 89 ∷ BinaryForm Instanceof 87 90 ∷
      ArrowForm (record { params = []; body = (91 ∷ []) }) false ∷ CallForm 85 (92 ∷ []) ∷ ExprStmtForm 93 ∷
      NameForm (codes "t") ∷ TextForm (codes "a") ∷ UnaryForm Minus 96 ∷
      ArrowForm (record { params = []; body = (97 ∷ []) }) false ∷ CallForm 95 (98 ∷ []) ∷ ExprStmtForm 99 ∷
      NameForm (codes "t") ∷ LiteralForm (Null) ∷ MemberForm 102 (codes "x") ∷
      ArrowForm (record { params = []; body = (103 ∷ []) }) false ∷ CallForm 101 (104 ∷ []) ∷ ExprStmtForm 105 ∷
      NameForm (codes "t") ∷ ObjectForm [] ∷ GroupForm 108 ∷ CallForm 109 [] ∷
      ArrowForm (record { params = []; body = (110 ∷ []) }) false ∷ CallForm 107 (111 ∷ []) ∷ ExprStmtForm 112 ∷
      NameForm (codes "t") ∷ NumberForm (pos 1) ∷ ArrowForm (record { params = []; body = (115 ∷ []) }) false ∷
      GroupForm 116 ∷ NewForm 117 [] ∷ ArrowForm (record { params = []; body = (118 ∷ []) }) false ∷
      CallForm 114 (119 ∷ []) ∷ ExprStmtForm 120 ∷ NameForm (codes "t") ∷ NumberForm (pos 9007199254740991) ∷
      NumberForm (pos 1) ∷ BinaryForm Plus 123 124 ∷
      ArrowForm (record { params = []; body = (125 ∷ []) }) false ∷ CallForm 122 (126 ∷ []) ∷ ExprStmtForm 127 ∷
      NameForm (codes "print") ∷ NumberForm (pos 4) ∷ NumberForm (pos 2) ∷ UnaryForm Minus 131 ∷
      BinaryForm Slash 130 132 ∷ NumberForm (pos 7) ∷ UnaryForm Minus 134 ∷ NumberForm (pos 3) ∷
      BinaryForm Percent 135 136 ∷ NumberForm (pos 7) ∷ NumberForm (pos 3) ∷ UnaryForm Minus 139 ∷
      BinaryForm Percent 138 140 ∷ NumberForm (pos 6) ∷ UnaryForm Minus 142 ∷ NumberForm (pos 2) ∷
      BinaryForm Slash 143 144 ∷ CallForm 129 (133 ∷ 137 ∷ 141 ∷ 145 ∷ []) ∷ ExprStmtForm 146 ∷
      ScriptForm (28 ∷ 35 ∷ 42 ∷ 49 ∷ 56 ∷ 63 ∷ 70 ∷ 77 ∷ 84 ∷ 94 ∷ 100 ∷ 106 ∷ 113 ∷ 121 ∷ 128 ∷ 147 ∷ []) ∷
      [];
  names =
      bound 25 (codes "e") false ∷ bound 26 (codes "f") false ∷ bound 148 (codes "t") false ∷
      [];
}

abbrev right : Program
right = record {
  forms =
      ScriptForm [] ∷
      [];
  names = [];
}

abbrev policy : List Rule
policy = []

abbrev schedule : List Letter
schedule = []

abbrev told : List (List ℕ)
told =
    (codes "L R") ∷
    (codes "L R") ∷
    (codes "L R") ∷
    (codes "L T") ∷
    (codes "L T") ∷
    (codes "L T") ∷
    (codes "L T") ∷
    (codes "L T") ∷
    (codes "L T") ∷
    (codes "L T") ∷
    (codes "L T") ∷
    (codes "L T") ∷
    (codes "L T") ∷
    (codes "L R") ∷
    (codes "L -2 -1 1 -3") ∷
    (codes "= done") ∷
    []

abbrev stage : Stage
stage = Story (left ∷ right ∷ []) policy schedule 1000000

pub Row : Type 0
Row = Shows false false stage told

pub row : Row
unfolding Row given Validate encode_utf8
row = (refl, refl)
