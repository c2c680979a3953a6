use Rattle.std.specs.Prelude.{refl, ℕ, List, [], ◌∷◌, true, false, codes, pos}
use Rattle.std.specs.Char.{encode_utf8}
use Rattle.mb_tree.specs.declared.kind.Sign.TheVariants.{Minus}
use Rattle.mb_desc.specs.Validate.{Validate}
use Rattle.mb_world.specs.Value.{Undefined, Null, Truth}
use Rattle.mb_world.specs.Form.{ScriptForm, ExprStmtForm, ThrowForm, NameForm, NumberForm, TextForm, LiteralForm, ArrayForm, ObjectForm, ArrowForm, MemberForm, AssignForm, CallForm, NewForm, UnaryForm}
use Rattle.mb_world.specs.Graph.{Program, Rule}
use Rattle.mb_model.specs.Engine.{given}
use Rattle.mb_model.specs.Story.{Stage, Letter, Story}
use Rattle.mb_rows.specs.Shows.{Shows}

-- run
-- left
--
--     desk.err = new RangeError("x");
--     desk.fun = () => { throw new Error(); };
--     later(() => { throw "a\nb"; }); later(() => { throw undefined; }); later(() => { throw null; }); later(() => { throw -5; });
--     later(() => { throw false; }); later(() => { throw []; }); later(() => { throw print; }); later(() => { throw new Proxy(new Error(), {}); });
--     later(() => { throw new ReferenceError(); }); later(() => { throw Object.create(desk.err); }); later(() => { throw ""; });
--     later(() => { throw Error.prototype; }); later(() => { zz; }); later(() => { throw desk.rerr; });
--     throw desk;
-- right
--     desk.rerr = new Error(); later(() => { throw desk.err; }); later(() => desk.fun()); later(desk.fun);

abbrev left : Program
left = record {
  forms =
      NameForm (codes "desk") ∷ MemberForm 0 (codes "err") ∷ NameForm (codes "RangeError") ∷
      TextForm (codes "x") ∷ NewForm 2 (3 ∷ []) ∷ AssignForm 1 4 ∷ ExprStmtForm 5 ∷ NameForm (codes "desk") ∷
      MemberForm 7 (codes "fun") ∷ NameForm (codes "Error") ∷ NewForm 9 [] ∷ ThrowForm 10 ∷
      ArrowForm (record { params = []; body = (11 ∷ []) }) true ∷ AssignForm 8 12 ∷ ExprStmtForm 13 ∷
      NameForm (codes "later") ∷ TextForm (97 ∷ 10 ∷ 98 ∷ []) ∷ ThrowForm 16 ∷
      ArrowForm (record { params = []; body = (17 ∷ []) }) true ∷ CallForm 15 (18 ∷ []) ∷ ExprStmtForm 19 ∷
      NameForm (codes "later") ∷ LiteralForm (Undefined) ∷ ThrowForm 22 ∷
      ArrowForm (record { params = []; body = (23 ∷ []) }) true ∷ CallForm 21 (24 ∷ []) ∷ ExprStmtForm 25 ∷
      NameForm (codes "later") ∷ LiteralForm (Null) ∷ ThrowForm 28 ∷
      ArrowForm (record { params = []; body = (29 ∷ []) }) true ∷ CallForm 27 (30 ∷ []) ∷ ExprStmtForm 31 ∷
      NameForm (codes "later") ∷ NumberForm (pos 5) ∷ UnaryForm Minus 34 ∷ ThrowForm 35 ∷
      ArrowForm (record { params = []; body = (36 ∷ []) }) true ∷ CallForm 33 (37 ∷ []) ∷ ExprStmtForm 38 ∷
      NameForm (codes "later") ∷ LiteralForm (Truth false) ∷ ThrowForm 41 ∷
      ArrowForm (record { params = []; body = (42 ∷ []) }) true ∷ CallForm 40 (43 ∷ []) ∷ ExprStmtForm 44 ∷
      NameForm (codes "later") ∷ ArrayForm [] ∷ ThrowForm 47 ∷
      ArrowForm (record { params = []; body = (48 ∷ []) }) true ∷ CallForm 46 (49 ∷ []) ∷ ExprStmtForm 50 ∷
      NameForm (codes "later") ∷ NameForm (codes "print") ∷ ThrowForm 53 ∷
      ArrowForm (record { params = []; body = (54 ∷ []) }) true ∷ CallForm 52 (55 ∷ []) ∷ ExprStmtForm 56 ∷
      NameForm (codes "later") ∷ NameForm (codes "Proxy") ∷ NameForm (codes "Error") ∷ NewForm 60 [] ∷
      ObjectForm [] ∷ NewForm 59 (61 ∷ 62 ∷ []) ∷ ThrowForm 63 ∷
      ArrowForm (record { params = []; body = (64 ∷ []) }) true ∷ CallForm 58 (65 ∷ []) ∷ ExprStmtForm 66 ∷
      NameForm (codes "later") ∷ NameForm (codes "ReferenceError") ∷ NewForm 69 [] ∷ ThrowForm 70 ∷
      ArrowForm (record { params = []; body = (71 ∷ []) }) true ∷ CallForm 68 (72 ∷ []) ∷ ExprStmtForm 73 ∷
      NameForm (codes "later") ∷ NameForm (codes "Object") ∷ MemberForm 76 (codes "create") ∷
      NameForm (codes "desk") ∷ MemberForm 78 (codes "err") ∷ CallForm 77 (79 ∷ []) ∷ ThrowForm 80 ∷
      ArrowForm (record { params = []; body = (81 ∷ []) }) true ∷ CallForm 75 (82 ∷ []) ∷ ExprStmtForm 83 ∷
      NameForm (codes "later") ∷ TextForm [] ∷ ThrowForm 86 ∷
      ArrowForm (record { params = []; body = (87 ∷ []) }) true ∷ CallForm 85 (88 ∷ []) ∷ ExprStmtForm 89 ∷
      NameForm (codes "later") ∷ NameForm (codes "Error") ∷ MemberForm 92 (codes "prototype") ∷ ThrowForm 93 ∷
      ArrowForm (record { params = []; body = (94 ∷ []) }) true ∷ CallForm 91 (95 ∷ []) ∷ ExprStmtForm 96 ∷
      NameForm (codes "later") ∷ NameForm (codes "zz") ∷ ExprStmtForm 99 ∷
      ArrowForm (record { params = []; body = (100 ∷ []) }) true ∷ CallForm 98 (101 ∷ []) ∷ ExprStmtForm 102 ∷
      NameForm (codes "later") ∷ NameForm (codes "desk") ∷ MemberForm 105 (codes "rerr") ∷ ThrowForm 106 ∷
      ArrowForm (record { params = []; body = (107 ∷ []) }) true ∷ CallForm 104 (108 ∷ []) ∷ ExprStmtForm 109 ∷
      NameForm (codes "desk") ∷ ThrowForm 111 ∷
      ScriptForm (6 ∷ 14 ∷ 20 ∷ 26 ∷ 32 ∷ 39 ∷ 45 ∷ 51 ∷ 57 ∷ 67 ∷ 74 ∷ 84 ∷ 90 ∷ 97 ∷ 103 ∷ 110 ∷ 112 ∷ []) ∷
      [];
  names = [];
}

abbrev right : Program
right = record {
  forms =
      NameForm (codes "desk") ∷ MemberForm 0 (codes "rerr") ∷ NameForm (codes "Error") ∷ NewForm 2 [] ∷
      AssignForm 1 3 ∷ ExprStmtForm 4 ∷ NameForm (codes "later") ∷ NameForm (codes "desk") ∷
      MemberForm 7 (codes "err") ∷ ThrowForm 8 ∷ ArrowForm (record { params = []; body = (9 ∷ []) }) true ∷
      CallForm 6 (10 ∷ []) ∷ ExprStmtForm 11 ∷ NameForm (codes "later") ∷ NameForm (codes "desk") ∷
      MemberForm 14 (codes "fun") ∷ CallForm 15 [] ∷ ArrowForm (record { params = []; body = (16 ∷ []) }) false ∷
      CallForm 13 (17 ∷ []) ∷ ExprStmtForm 18 ∷ NameForm (codes "later") ∷ NameForm (codes "desk") ∷
      MemberForm 21 (codes "fun") ∷ CallForm 20 (22 ∷ []) ∷ ExprStmtForm 23 ∷
      ScriptForm (5 ∷ 12 ∷ 19 ∷ 24 ∷ []) ∷
      [];
  names = [];
}

abbrev policy : List Rule
policy = []

abbrev schedule : List Letter
schedule = []

abbrev told : List (List ℕ)
told =
    (codes "L! object") ∷
    (codes "L! value a\\nb") ∷
    (codes "R! RangeError") ∷
    (codes "L! value undefined") ∷
    (codes "R! Error") ∷
    (codes "L! value null") ∷
    (codes "R! Error") ∷
    (codes "L! value -5") ∷
    (codes "L! value false") ∷
    (codes "L! object") ∷
    (codes "L! object") ∷
    (codes "L! object") ∷
    (codes "L! ReferenceError") ∷
    (codes "L! object") ∷
    (codes "L! value ") ∷
    (codes "L! object") ∷
    (codes "L! ReferenceError") ∷
    (codes "L! Error") ∷
    (codes "= uncaught") ∷
    []

abbrev stage : Stage
stage = Story (left ∷ right ∷ []) policy schedule 1000000

pub Row : Type 0
Row = Shows false false stage told

pub row : Row
unfolding Row given Validate encode_utf8
row = (refl, refl)
