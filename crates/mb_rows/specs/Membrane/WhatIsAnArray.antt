use Rattle.std.specs.Prelude.{refl, ℕ, List, [], ◌∷◌, true, false, Some, None, codes, pos}
use Rattle.std.specs.Char.{encode_utf8}
use Rattle.mb_tree.specs.declared.kind.Sign.TheVariants.{TripleEqual, Instanceof, Typeof}
use Rattle.mb_desc.specs.Validate.{Validate}
use Rattle.mb_world.specs.Value.{Undefined}
use Rattle.mb_world.specs.Form.{Written, ScriptForm, LetForm, DeclForm, BlockForm, ExprStmtForm, TryForm, ParamForm, NameForm, NumberForm, LiteralForm, ArrayForm, ObjectForm, ValueForm, ArrowForm, MemberForm, AssignForm, CallForm, NewForm, UnaryForm, BinaryForm}
use Rattle.mb_world.specs.Graph.{Program, Rule}
use Rattle.mb_model.specs.Engine.{given}
use Rattle.mb_model.specs.Story.{Stage, Letter, Story}
use Rattle.mb_rows.specs.Shows.{bound, Shows}

-- run
-- left
--     desk.a = []; desk.p = new Proxy([], {}); let r = Proxy.revocable([], {}); r.revoke(); desk.g = r.proxy; desk.f = () => 1; desk.q = new Proxy(() => 1, {});
-- right
--
--     let t = (v) => { try { print(Array.isArray(v), typeof v); } catch (e) { print(e instanceof TypeError, typeof v); } };
--     t(desk.a); t(desk.p); t(desk.g); t(desk.f); t(desk.q); t([]); t(5); t(undefined); t(print); t(Array.prototype); t(new Error()); t(new Proxy(desk.a, {})); t({ length: 0 }); t(Proxy.revocable({}, {}).revoke);
--     try { desk.g.x; } catch (e) { desk.e = e; }
--     print(Reflect.getPrototypeOf(desk.e) === TypeError.prototype);

abbrev left : Program
left = record {
  forms =
      NameForm (codes "desk") ∷ MemberForm 0 (codes "a") ∷ ArrayForm [] ∷ AssignForm 1 2 ∷ ExprStmtForm 3 ∷
      NameForm (codes "desk") ∷ MemberForm 5 (codes "p") ∷ NameForm (codes "Proxy") ∷ ArrayForm [] ∷
      ObjectForm [] ∷ NewForm 7 (8 ∷ 9 ∷ []) ∷ AssignForm 6 10 ∷ ExprStmtForm 11 ∷ NameForm (codes "Proxy") ∷
      MemberForm 13 (codes "revocable") ∷ ArrayForm [] ∷ ObjectForm [] ∷ CallForm 14 (15 ∷ 16 ∷ []) ∷
      DeclForm (codes "r") (Some 17) ∷ LetForm (18 ∷ []) ∷ NameForm (codes "r") ∷
      MemberForm 20 (codes "revoke") ∷ CallForm 21 [] ∷ ExprStmtForm 22 ∷ NameForm (codes "desk") ∷
      MemberForm 24 (codes "g") ∷ NameForm (codes "r") ∷ MemberForm 26 (codes "proxy") ∷ AssignForm 25 27 ∷
      ExprStmtForm 28 ∷ NameForm (codes "desk") ∷ MemberForm 30 (codes "f") ∷ NumberForm (pos 1) ∷
      ArrowForm (record { params = []; body = (32 ∷ []) }) false ∷ AssignForm 31 33 ∷ ExprStmtForm 34 ∷
      NameForm (codes "desk") ∷ MemberForm 36 (codes "q") ∷ NameForm (codes "Proxy") ∷ NumberForm (pos 1) ∷
      ArrowForm (record { params = []; body = (39 ∷ []) }) false ∷ ObjectForm [] ∷ NewForm 38 (40 ∷ 41 ∷ []) ∷
      AssignForm 37 42 ∷ ExprStmtForm 43 ∷ ScriptForm (4 ∷ 12 ∷ 19 ∷ 23 ∷ 29 ∷ 35 ∷ 44 ∷ []) ∷
      [];
  names =
      bound 45 (codes "r") false ∷
      [];
}

abbrev right : Program
right = record {
  forms =
      ParamForm (codes "v") ∷ NameForm (codes "print") ∷ NameForm (codes "Array") ∷
      MemberForm 2 (codes "isArray") ∷ NameForm (codes "v") ∷ CallForm 3 (4 ∷ []) ∷ NameForm (codes "v") ∷
      UnaryForm Typeof 6 ∷ CallForm 1 (5 ∷ 7 ∷ []) ∷ ExprStmtForm 8 ∷ BlockForm (9 ∷ []) ∷
      ParamForm (codes "e") ∷ NameForm (codes "print") ∷ NameForm (codes "e") ∷ NameForm (codes "TypeError") ∷
      BinaryForm Instanceof 13 14 ∷ NameForm (codes "v") ∷ UnaryForm Typeof 16 ∷ CallForm 12 (15 ∷ 17 ∷ []) ∷
      ExprStmtForm 18 ∷ BlockForm (19 ∷ []) ∷ TryForm 10 (Some (codes "e")) (Some 20) None ∷
      ArrowForm (record { params = (codes "v") ∷ []; body = (21 ∷ []) }) true ∷ DeclForm (codes "t") (Some 22) ∷
      LetForm (23 ∷ []) ∷ NameForm (codes "t") ∷ NameForm (codes "desk") ∷ MemberForm 26 (codes "a") ∷
      CallForm 25 (27 ∷ []) ∷ ExprStmtForm 28 ∷ NameForm (codes "t") ∷ NameForm (codes "desk") ∷
      MemberForm 31 (codes "p") ∷ CallForm 30 (32 ∷ []) ∷ ExprStmtForm 33 ∷ NameForm (codes "t") ∷
      NameForm (codes "desk") ∷ MemberForm 36 (codes "g") ∷ CallForm 35 (37 ∷ []) ∷ ExprStmtForm 38 ∷
      NameForm (codes "t") ∷ NameForm (codes "desk") ∷ MemberForm 41 (codes "f") ∷ CallForm 40 (42 ∷ []) ∷
      ExprStmtForm 43 ∷ NameForm (codes "t") ∷ NameForm (codes "desk") ∷ MemberForm 46 (codes "q") ∷
      CallForm 45 (47 ∷ []) ∷ ExprStmtForm 48 ∷ NameForm (codes "t") ∷ ArrayForm [] ∷ CallForm 50 (51 ∷ []) ∷
      ExprStmtForm 52 ∷ NameForm (codes "t") ∷ NumberForm (pos 5) ∷ CallForm 54 (55 ∷ []) ∷ ExprStmtForm 56 ∷
      NameForm (codes "t") ∷ LiteralForm (Undefined) ∷ CallForm 58 (59 ∷ []) ∷ ExprStmtForm 60 ∷
      NameForm (codes "t") ∷ NameForm (codes "print") ∷ CallForm 62 (63 ∷ []) ∷ ExprStmtForm 64 ∷
      NameForm (codes "t") ∷ NameForm (codes "Array") ∷ MemberForm 67 (codes "prototype") ∷
      CallForm 66 (68 ∷ []) ∷ ExprStmtForm 69 ∷ NameForm (codes "t") ∷ NameForm (codes "Error") ∷ NewForm 72 [] ∷
      CallForm 71 (73 ∷ []) ∷ ExprStmtForm 74 ∷ NameForm (codes "t") ∷ NameForm (codes "Proxy") ∷
      NameForm (codes "desk") ∷ MemberForm 78 (codes "a") ∷ ObjectForm [] ∷ NewForm 77 (79 ∷ 80 ∷ []) ∷
      CallForm 76 (81 ∷ []) ∷ ExprStmtForm 82 ∷ NameForm (codes "t") ∷ NumberForm (pos 0) ∷
      ValueForm (Written (codes "length")) 85 ∷ ObjectForm (86 ∷ []) ∷ CallForm 84 (87 ∷ []) ∷ ExprStmtForm 88 ∷
      NameForm (codes "t") ∷ NameForm (codes "Proxy") ∷ MemberForm 91 (codes "revocable") ∷ ObjectForm [] ∷
      ObjectForm [] ∷ CallForm 92 (93 ∷ 94 ∷ []) ∷ MemberForm 95 (codes "revoke") ∷ CallForm 90 (96 ∷ []) ∷
      ExprStmtForm 97 ∷ NameForm (codes "desk") ∷ MemberForm 99 (codes "g") ∷ MemberForm 100 (codes "x") ∷
      ExprStmtForm 101 ∷ BlockForm (102 ∷ []) ∷ ParamForm (codes "e") ∷ NameForm (codes "desk") ∷
      MemberForm 105 (codes "e") ∷ NameForm (codes "e") ∷ AssignForm 106 107 ∷ ExprStmtForm 108 ∷
      BlockForm (109 ∷ []) ∷ TryForm 103 (Some (codes "e")) (Some 110) None ∷ NameForm (codes "print") ∷
      NameForm (codes "Reflect") ∷ MemberForm 113 (codes "getPrototypeOf") ∷ NameForm (codes "desk") ∷
      MemberForm 115 (codes "e") ∷ CallForm 114 (116 ∷ []) ∷ NameForm (codes "TypeError") ∷
      MemberForm 118 (codes "prototype") ∷ BinaryForm TripleEqual 117 119 ∷ CallForm 112 (120 ∷ []) ∷
      ExprStmtForm 121 ∷
      ScriptForm (24 ∷ 29 ∷ 34 ∷ 39 ∷ 44 ∷ 49 ∷ 53 ∷ 57 ∷ 61 ∷ 65 ∷ 70 ∷ 75 ∷ 83 ∷ 89 ∷ 98 ∷ 111 ∷ 122 ∷ []) ∷
      [];
  names =
      bound 21 (codes "e") false ∷ bound 22 (codes "v") false ∷ bound 111 (codes "e") false ∷
      bound 123 (codes "t") false ∷
      [];
}

abbrev policy : List Rule
policy = []

abbrev schedule : List Letter
schedule = []

abbrev told : List (List ℕ)
told =
    (codes "R true object") ∷
    (codes "R true object") ∷
    (codes "R true object") ∷
    (codes "R false function") ∷
    (codes "R false function") ∷
    (codes "R true object") ∷
    (codes "R false number") ∷
    (codes "R false undefined") ∷
    (codes "R false function") ∷
    (codes "R false object") ∷
    (codes "R false object") ∷
    (codes "R true object") ∷
    (codes "R false object") ∷
    (codes "R false function") ∷
    (codes "R true") ∷
    (codes "= done") ∷
    []

abbrev stage : Stage
stage = Story (left ∷ right ∷ []) policy schedule 1000000

pub Row : Type 0
Row = Shows false false stage told

pub row : Row
unfolding Row given Validate encode_utf8
row = (refl, refl)
