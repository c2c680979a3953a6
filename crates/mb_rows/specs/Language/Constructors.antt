use Rattle.std.specs.Prelude.{refl, ℕ, List, [], ◌∷◌, true, false, Some, None, codes, pos}
use Rattle.std.specs.Char.{encode_utf8}
use Rattle.mb_tree.specs.declared.kind.Sign.TheVariants.{Plus, Less, Greater, Instanceof, Typeof}
use Rattle.mb_desc.specs.Validate.{Validate}
use Rattle.mb_world.specs.Form.{ScriptForm, LetForm, DeclForm, BlockForm, ExprStmtForm, TryForm, ParamForm, ThisForm, NameForm, NumberForm, TextForm, ArrayForm, ObjectForm, FunctionForm, ArrowForm, GroupForm, MemberForm, AssignForm, CallForm, NewForm, UnaryForm, BinaryForm}
use Rattle.mb_world.specs.Graph.{Program, Rule}
use Rattle.mb_model.specs.Engine.{given}
use Rattle.mb_model.specs.Story.{Stage, Letter, Story}
use Rattle.mb_rows.specs.Shows.{bound, Shows}

-- run
-- left
--     print("ab" < "aa", "aa" < "ab", "ab" > "aa", "a" < "ab"); let t = (f) => { try { print(f()); } catch (e) { print(e instanceof TypeError); } }; t(() => new []()); t(() => new ({})()); t(() => new (new Proxy([], {}))()); t(() => new (new Proxy(() => 1, {}))()); t(() => new (new Proxy(function () { this.a = 1; }, {}))().a); t(() => (new Proxy(() => 2, {}))()); t(() => new (Proxy.revocable({}, {}).revoke)()); t(() => new (new Error())()); t(() => typeof new Proxy(() => 1, {}) + typeof new Proxy([], {}));
-- right
--     (empty)

abbrev left : Program
left = record {
  forms =
      NameForm (codes "print") ∷ TextForm (codes "ab") ∷ TextForm (codes "aa") ∷ BinaryForm Less 1 2 ∷
      TextForm (codes "aa") ∷ TextForm (codes "ab") ∷ BinaryForm Less 4 5 ∷ TextForm (codes "ab") ∷
      TextForm (codes "aa") ∷ BinaryForm Greater 7 8 ∷ TextForm (codes "a") ∷ TextForm (codes "ab") ∷
      BinaryForm Less 10 11 ∷ CallForm 0 (3 ∷ 6 ∷ 9 ∷ 12 ∷ []) ∷ ExprStmtForm 13 ∷ ParamForm (codes "f") ∷
      NameForm (codes "print") ∷ NameForm (codes "f") ∷ CallForm 17 [] ∷ CallForm 16 (18 ∷ []) ∷
      ExprStmtForm 19 ∷ BlockForm (20 ∷ []) ∷ ParamForm (codes "e") ∷ NameForm (codes "print") ∷
      NameForm (codes "e") ∷ NameForm (codes "TypeError") ∷ BinaryForm Instanceof 24 25 ∷ CallForm 23 (26 ∷ []) ∷
      ExprStmtForm 27 ∷ BlockForm (28 ∷ []) ∷ TryForm 21 (Some (codes "e")) (Some 29) None ∷
      ArrowForm (record { params = (codes "f") ∷ []; body = (30 ∷ []) }) true ∷ DeclForm (codes "t") (Some 31) ∷
      LetForm (32 ∷ []) ∷ NameForm (codes "t") ∷ ArrayForm [] ∷ NewForm 35 [] ∷
      ArrowForm (record { params = []; body = (36 ∷ []) }) false ∷ CallForm 34 (37 ∷ []) ∷ ExprStmtForm 38 ∷
      NameForm (codes "t") ∷ ObjectForm [] ∷ GroupForm 41 ∷ NewForm 42 [] ∷
      ArrowForm (record { params = []; body = (43 ∷ []) }) false ∷ CallForm 40 (44 ∷ []) ∷ ExprStmtForm 45 ∷
      NameForm (codes "t") ∷ NameForm (codes "Proxy") ∷ ArrayForm [] ∷ ObjectForm [] ∷
      NewForm 48 (49 ∷ 50 ∷ []) ∷ GroupForm 51 ∷ NewForm 52 [] ∷
      ArrowForm (record { params = []; body = (53 ∷ []) }) false ∷ CallForm 47 (54 ∷ []) ∷ ExprStmtForm 55 ∷
      NameForm (codes "t") ∷ NameForm (codes "Proxy") ∷ NumberForm (pos 1) ∷
      ArrowForm (record { params = []; body = (59 ∷ []) }) false ∷ ObjectForm [] ∷ NewForm 58 (60 ∷ 61 ∷ []) ∷
      GroupForm 62 ∷ NewForm 63 [] ∷ ArrowForm (record { params = []; body = (64 ∷ []) }) false ∷
      CallForm 57 (65 ∷ []) ∷ ExprStmtForm 66 ∷ NameForm (codes "t") ∷ NameForm (codes "Proxy") ∷ ThisForm ∷
      MemberForm 70 (codes "a") ∷ NumberForm (pos 1) ∷ AssignForm 71 72 ∷ ExprStmtForm 73 ∷
      FunctionForm None (record { params = []; body = (74 ∷ []) }) ∷ ObjectForm [] ∷ NewForm 69 (75 ∷ 76 ∷ []) ∷
      GroupForm 77 ∷ NewForm 78 [] ∷ MemberForm 79 (codes "a") ∷
      ArrowForm (record { params = []; body = (80 ∷ []) }) false ∷ CallForm 68 (81 ∷ []) ∷ ExprStmtForm 82 ∷
      NameForm (codes "t") ∷ NameForm (codes "Proxy") ∷ NumberForm (pos 2) ∷
      ArrowForm (record { params = []; body = (86 ∷ []) }) false ∷ ObjectForm [] ∷ NewForm 85 (87 ∷ 88 ∷ []) ∷
      GroupForm 89 ∷ CallForm 90 [] ∷ ArrowForm (record { params = []; body = (91 ∷ []) }) false ∷
      CallForm 84 (92 ∷ []) ∷ ExprStmtForm 93 ∷ NameForm (codes "t") ∷ NameForm (codes "Proxy") ∷
      MemberForm 96 (codes "revocable") ∷ ObjectForm [] ∷ ObjectForm [] ∷ CallForm 97 (98 ∷ 99 ∷ []) ∷
      MemberForm 100 (codes "revoke") ∷ GroupForm 101 ∷ NewForm 102 [] ∷
      ArrowForm (record { params = []; body = (103 ∷ []) }) false ∷ CallForm 95 (104 ∷ []) ∷ ExprStmtForm 105 ∷
      NameForm (codes "t") ∷ NameForm (codes "Error") ∷ NewForm 108 [] ∷ GroupForm 109 ∷ NewForm 110 [] ∷
      ArrowForm (record { params = []; body = (111 ∷ []) }) false ∷ CallForm 107 (112 ∷ []) ∷ ExprStmtForm 113 ∷
      NameForm (codes "t") ∷ NameForm (codes "Proxy") ∷ NumberForm (pos 1) ∷
      ArrowForm (record { params = []; body = (117 ∷ []) }) false ∷ ObjectForm [] ∷
      NewForm 116 (118 ∷ 119 ∷ []) ∷ UnaryForm Typeof 120 ∷ NameForm (codes "Proxy") ∷ ArrayForm [] ∷
      ObjectForm [] ∷ NewForm 122 (123 ∷ 124 ∷ []) ∷ UnaryForm Typeof 125 ∷ BinaryForm Plus 121 126 ∷
      ArrowForm (record { params = []; body = (127 ∷ []) }) false ∷ CallForm 115 (128 ∷ []) ∷ ExprStmtForm 129 ∷
      ScriptForm (14 ∷ 33 ∷ 39 ∷ 46 ∷ 56 ∷ 67 ∷ 83 ∷ 94 ∷ 106 ∷ 114 ∷ 130 ∷ []) ∷
      [];
  names =
      bound 30 (codes "e") false ∷ bound 31 (codes "f") false ∷ bound 131 (codes "t") false ∷
      [];
}

abbrev right : Program
right = record {
  forms =
      ScriptForm [] ∷
      [];
  names = [];
}

abbrev policy : List Rule
policy = []

abbrev schedule : List Letter
schedule = []

abbrev told : List (List ℕ)
told =
    (codes "L false true true true") ∷
    (codes "L true") ∷
    (codes "L true") ∷
    (codes "L true") ∷
    (codes "L true") ∷
    (codes "L 1") ∷
    (codes "L 2") ∷
    (codes "L true") ∷
    (codes "L true") ∷
    (codes "L functionobject") ∷
    (codes "= done") ∷
    []

abbrev stage : Stage
stage = Story (left ∷ right ∷ []) policy schedule 1000000

pub Row : Type 0
Row = Shows false false stage told

pub row : Row
unfolding Row given Validate encode_utf8
row = (refl, refl)
