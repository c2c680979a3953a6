use Rattle.std.specs.Prelude.{refl, ℕ, List, [], ◌∷◌, false, Some, None, codes, pos}
use Rattle.std.specs.Char.{encode_utf8}
use Rattle.mb_desc.specs.Validate.{Validate}
use Rattle.mb_world.specs.Value.{Null, Whole, Text}
use Rattle.mb_world.specs.Form.{Written, ScriptForm, LetForm, DeclForm, ExprStmtForm, NameForm, NumberForm, TextForm, LiteralForm, ObjectForm, ValueForm, MemberForm, AssignForm, CallForm}
use Rattle.mb_world.specs.Graph.{Program, Rule, Hide, ReadOnly, Substitute, Revoke}
use Rattle.mb_model.specs.Engine.{given}
use Rattle.mb_model.specs.Story.{Stage, Letter, Story}
use Rattle.mb_rows.specs.Shows.{bound, Shows}

-- run
-- left
--     let r = labelled("R"); r.h = 1; r.s = 2; r.z = 3; Reflect.setPrototypeOf(r, { p: 1 }); desk.r = r; let q = labelled("R"); Object.freeze(q); desk.q = q;
-- right
--
--     let r = desk.r;
--     print(r.h, r.s, r.z, r.p);
--     print(Reflect.set(r, "new", 1), Reflect.set(r, "p", 1, {}), Reflect.set({}, "z", 1, r), Reflect.defineProperty(r, "h", {}), Reflect.deleteProperty(r, "h"), Reflect.deleteProperty(r, "s"), Reflect.deleteProperty(r, "nope"), Reflect.preventExtensions(r), Reflect.preventExtensions(desk.q));
--     print(Reflect.setPrototypeOf(r, Reflect.getPrototypeOf(r)), Reflect.setPrototypeOf(r, null), Reflect.set(Object.create(r), "q", 1));
-- policy
--     version = 1
--     [[rule]]
--     label = "S"
--     kind = "substitute"
--     key = "k"
--     value = 9
--     [[rule]]
--     label = "H"
--     kind = "hide"
--     key = "k"
--     [[rule]]
--     label = "R"
--     kind = "read-only"
--     [[rule]]
--     label = "R"
--     kind = "hide"
--     key = "h"
--     [[rule]]
--     label = "R"
--     kind = "substitute"
--     key = "s"
--     value = "sub"
--     [[rule]]
--     label = "V"
--     kind = "revoke"
--     [[rule]]
--     label = "V"
--     kind = "read-only"

abbrev left : Program
left = record {
  forms =
      NameForm (codes "labelled") ∷ TextForm (codes "R") ∷ CallForm 0 (1 ∷ []) ∷ DeclForm (codes "r") (Some 2) ∷
      LetForm (3 ∷ []) ∷ NameForm (codes "r") ∷ MemberForm 5 (codes "h") ∷ NumberForm (pos 1) ∷ AssignForm 6 7 ∷
      ExprStmtForm 8 ∷ NameForm (codes "r") ∷ MemberForm 10 (codes "s") ∷ NumberForm (pos 2) ∷ AssignForm 11 12 ∷
      ExprStmtForm 13 ∷ NameForm (codes "r") ∷ MemberForm 15 (codes "z") ∷ NumberForm (pos 3) ∷
      AssignForm 16 17 ∷ ExprStmtForm 18 ∷ NameForm (codes "Reflect") ∷ MemberForm 20 (codes "setPrototypeOf") ∷
      NameForm (codes "r") ∷ NumberForm (pos 1) ∷ ValueForm (Written (codes "p")) 23 ∷ ObjectForm (24 ∷ []) ∷
      CallForm 21 (22 ∷ 25 ∷ []) ∷ ExprStmtForm 26 ∷ NameForm (codes "desk") ∷ MemberForm 28 (codes "r") ∷
      NameForm (codes "r") ∷ AssignForm 29 30 ∷ ExprStmtForm 31 ∷ NameForm (codes "labelled") ∷
      TextForm (codes "R") ∷ CallForm 33 (34 ∷ []) ∷ DeclForm (codes "q") (Some 35) ∷ LetForm (36 ∷ []) ∷
      NameForm (codes "Object") ∷ MemberForm 38 (codes "freeze") ∷ NameForm (codes "q") ∷ CallForm 39 (40 ∷ []) ∷
      ExprStmtForm 41 ∷ NameForm (codes "desk") ∷ MemberForm 43 (codes "q") ∷ NameForm (codes "q") ∷
      AssignForm 44 45 ∷ ExprStmtForm 46 ∷ ScriptForm (4 ∷ 9 ∷ 14 ∷ 19 ∷ 27 ∷ 32 ∷ 37 ∷ 42 ∷ 47 ∷ []) ∷
      [];
  names =
      bound 48 (codes "r") false ∷ bound 48 (codes "q") false ∷
      [];
}

abbrev right : Program
right = record {
  forms =
      NameForm (codes "desk") ∷ MemberForm 0 (codes "r") ∷ DeclForm (codes "r") (Some 1) ∷ LetForm (2 ∷ []) ∷
      NameForm (codes "print") ∷ NameForm (codes "r") ∷ MemberForm 5 (codes "h") ∷ NameForm (codes "r") ∷
      MemberForm 7 (codes "s") ∷ NameForm (codes "r") ∷ MemberForm 9 (codes "z") ∷ NameForm (codes "r") ∷
      MemberForm 11 (codes "p") ∷ CallForm 4 (6 ∷ 8 ∷ 10 ∷ 12 ∷ []) ∷ ExprStmtForm 13 ∷
      NameForm (codes "print") ∷ NameForm (codes "Reflect") ∷ MemberForm 16 (codes "set") ∷
      NameForm (codes "r") ∷ TextForm (codes "new") ∷ NumberForm (pos 1) ∷ CallForm 17 (18 ∷ 19 ∷ 20 ∷ []) ∷
      NameForm (codes "Reflect") ∷ MemberForm 22 (codes "set") ∷ NameForm (codes "r") ∷ TextForm (codes "p") ∷
      NumberForm (pos 1) ∷ ObjectForm [] ∷ CallForm 23 (24 ∷ 25 ∷ 26 ∷ 27 ∷ []) ∷ NameForm (codes "Reflect") ∷
      MemberForm 29 (codes "set") ∷ ObjectForm [] ∷ TextForm (codes "z") ∷ NumberForm (pos 1) ∷
      NameForm (codes "r") ∷ CallForm 30 (31 ∷ 32 ∷ 33 ∷ 34 ∷ []) ∷ NameForm (codes "Reflect") ∷
      MemberForm 36 (codes "defineProperty") ∷ NameForm (codes "r") ∷ TextForm (codes "h") ∷ ObjectForm [] ∷
      CallForm 37 (38 ∷ 39 ∷ 40 ∷ []) ∷ NameForm (codes "Reflect") ∷ MemberForm 42 (codes "deleteProperty") ∷
      NameForm (codes "r") ∷ TextForm (codes "h") ∷ CallForm 43 (44 ∷ 45 ∷ []) ∷ NameForm (codes "Reflect") ∷
      MemberForm 47 (codes "deleteProperty") ∷ NameForm (codes "r") ∷ TextForm (codes "s") ∷
      CallForm 48 (49 ∷ 50 ∷ []) ∷ NameForm (codes "Reflect") ∷ MemberForm 52 (codes "deleteProperty") ∷
      NameForm (codes "r") ∷ TextForm (codes "nope") ∷ CallForm 53 (54 ∷ 55 ∷ []) ∷ NameForm (codes "Reflect") ∷
      MemberForm 57 (codes "preventExtensions") ∷ NameForm (codes "r") ∷ CallForm 58 (59 ∷ []) ∷
      NameForm (codes "Reflect") ∷ MemberForm 61 (codes "preventExtensions") ∷ NameForm (codes "desk") ∷
      MemberForm 63 (codes "q") ∷ CallForm 62 (64 ∷ []) ∷
      CallForm 15 (21 ∷ 28 ∷ 35 ∷ 41 ∷ 46 ∷ 51 ∷ 56 ∷ 60 ∷ 65 ∷ []) ∷ ExprStmtForm 66 ∷
      NameForm (codes "print") ∷ NameForm (codes "Reflect") ∷ MemberForm 69 (codes "setPrototypeOf") ∷
      NameForm (codes "r") ∷ NameForm (codes "Reflect") ∷ MemberForm 72 (codes "getPrototypeOf") ∷
      NameForm (codes "r") ∷ CallForm 73 (74 ∷ []) ∷ CallForm 70 (71 ∷ 75 ∷ []) ∷ NameForm (codes "Reflect") ∷
      MemberForm 77 (codes "setPrototypeOf") ∷ NameForm (codes "r") ∷ LiteralForm (Null) ∷
      CallForm 78 (79 ∷ 80 ∷ []) ∷ NameForm (codes "Reflect") ∷ MemberForm 82 (codes "set") ∷
      NameForm (codes "Object") ∷ MemberForm 84 (codes "create") ∷ NameForm (codes "r") ∷ CallForm 85 (86 ∷ []) ∷
      TextForm (codes "q") ∷ NumberForm (pos 1) ∷ CallForm 83 (87 ∷ 88 ∷ 89 ∷ []) ∷
      CallForm 68 (76 ∷ 81 ∷ 90 ∷ []) ∷ ExprStmtForm 91 ∷ ScriptForm (3 ∷ 14 ∷ 67 ∷ 92 ∷ []) ∷
      [];
  names =
      bound 93 (codes "r") false ∷
      [];
}

abbrev policy : List Rule
policy =
    record { label = (codes "S"); kind = Substitute (codes "k") (Whole (pos 9)); owner = None; viewer = None } ∷
    record { label = (codes "H"); kind = Hide (codes "k"); owner = None; viewer = None } ∷
    record { label = (codes "R"); kind = ReadOnly; owner = None; viewer = None } ∷
    record { label = (codes "R"); kind = Hide (codes "h"); owner = None; viewer = None } ∷
    record { label = (codes "R"); kind = Substitute (codes "s") (Text (codes "sub")); owner = None; viewer = None } ∷
    record { label = (codes "V"); kind = Revoke; owner = None; viewer = None } ∷
    record { label = (codes "V"); kind = ReadOnly; owner = None; viewer = None } ∷
    []

abbrev schedule : List Letter
schedule = []

abbrev told : List (List ℕ)
told =
    (codes "R undefined sub 3 1") ∷
    (codes "R false false false false true false true false true") ∷
    (codes "R true false false") ∷
    (codes "= done") ∷
    []

abbrev stage : Stage
stage = Story (left ∷ right ∷ []) policy schedule 1000000

pub Row : Type 0
Row = Shows false false stage told

pub row : Row
unfolding Row given Validate encode_utf8
row = (refl, refl)
