use Rattle.std.specs.Prelude.{refl, ℕ, List, [], ◌∷◌, ◌++◌, true, false, Some, None, codes, pos}
use Rattle.std.specs.Char.{encode_utf8}
use Rattle.mb_tree.specs.declared.kind.Sign.TheVariants.{In}
use Rattle.mb_desc.specs.Validate.{Validate}
use Rattle.mb_world.specs.Value.{Whole, Text}
use Rattle.mb_world.specs.Form.{Written, ScriptForm, LetForm, DeclForm, ExprStmtForm, NameForm, NumberForm, TextForm, ObjectForm, ValueForm, MemberForm, AssignForm, CallForm, BinaryForm}
use Rattle.mb_world.specs.Graph.{Program, Rule, Hide, ReadOnly, Substitute, Revoke}
use Rattle.mb_model.specs.Engine.{given}
use Rattle.mb_model.specs.Story.{Stage, Letter, Story}
use Rattle.mb_rows.specs.Shows.{bound, Shows}

-- run --trace
-- left
--     desk.h = labelled("H"); desk.h.k = 1; desk.h.z = 2; let q = labelled("H"); Reflect.setPrototypeOf(q, { k: "above" }); q.k = 1; desk.q = q; desk.c = Object.create(desk.h); Object.freeze(desk.h);
-- right
--
--     let h = desk.h;
--     print(h.k, "k" in h, desk.q.k, "k" in desk.q, Reflect.set(h, "k", 1), Reflect.defineProperty(h, "k", { value: 1 }), Reflect.deleteProperty(h, "k"));
--     print(Object.isFrozen(h), Reflect.ownKeys(h).join(), Reflect.getOwnPropertyDescriptor(h, "k"), desk.c.k);
-- policy
--     version = 1
--     [[rule]]
--     label = "S"
--     kind = "substitute"
--     key = "k"
--     value = 9
--     [[rule]]
--     label = "H"
--     kind = "hide"
--     key = "k"
--     [[rule]]
--     label = "R"
--     kind = "read-only"
--     [[rule]]
--     label = "R"
--     kind = "hide"
--     key = "h"
--     [[rule]]
--     label = "R"
--     kind = "substitute"
--     key = "s"
--     value = "sub"
--     [[rule]]
--     label = "V"
--     kind = "revoke"
--     [[rule]]
--     label = "V"
--     kind = "read-only"

abbrev left : Program
left = record {
  forms =
      NameForm (codes "desk") ∷ MemberForm 0 (codes "h") ∷ NameForm (codes "labelled") ∷ TextForm (codes "H") ∷
      CallForm 2 (3 ∷ []) ∷ AssignForm 1 4 ∷ ExprStmtForm 5 ∷ NameForm (codes "desk") ∷
      MemberForm 7 (codes "h") ∷ MemberForm 8 (codes "k") ∷ NumberForm (pos 1) ∷ AssignForm 9 10 ∷
      ExprStmtForm 11 ∷ NameForm (codes "desk") ∷ MemberForm 13 (codes "h") ∷ MemberForm 14 (codes "z") ∷
      NumberForm (pos 2) ∷ AssignForm 15 16 ∷ ExprStmtForm 17 ∷ NameForm (codes "labelled") ∷
      TextForm (codes "H") ∷ CallForm 19 (20 ∷ []) ∷ DeclForm (codes "q") (Some 21) ∷ LetForm (22 ∷ []) ∷
      NameForm (codes "Reflect") ∷ MemberForm 24 (codes "setPrototypeOf") ∷ NameForm (codes "q") ∷
      TextForm (codes "above") ∷ ValueForm (Written (codes "k")) 27 ∷ ObjectForm (28 ∷ []) ∷
      CallForm 25 (26 ∷ 29 ∷ []) ∷ ExprStmtForm 30 ∷ NameForm (codes "q") ∷ MemberForm 32 (codes "k") ∷
      NumberForm (pos 1) ∷ AssignForm 33 34 ∷ ExprStmtForm 35 ∷ NameForm (codes "desk") ∷
      MemberForm 37 (codes "q") ∷ NameForm (codes "q") ∷ AssignForm 38 39 ∷ ExprStmtForm 40 ∷
      NameForm (codes "desk") ∷ MemberForm 42 (codes "c") ∷ NameForm (codes "Object") ∷
      MemberForm 44 (codes "create") ∷ NameForm (codes "desk") ∷ MemberForm 46 (codes "h") ∷
      CallForm 45 (47 ∷ []) ∷ AssignForm 43 48 ∷ ExprStmtForm 49 ∷ NameForm (codes "Object") ∷
      MemberForm 51 (codes "freeze") ∷ NameForm (codes "desk") ∷ MemberForm 53 (codes "h") ∷
      CallForm 52 (54 ∷ []) ∷ ExprStmtForm 55 ∷ ScriptForm (6 ∷ 12 ∷ 18 ∷ 23 ∷ 31 ∷ 36 ∷ 41 ∷ 50 ∷ 56 ∷ []) ∷
      [];
  names =
      bound 57 (codes "q") false ∷
      [];
}

abbrev right : Program
right = record {
  forms =
      NameForm (codes "desk") ∷ MemberForm 0 (codes "h") ∷ DeclForm (codes "h") (Some 1) ∷ LetForm (2 ∷ []) ∷
      NameForm (codes "print") ∷ NameForm (codes "h") ∷ MemberForm 5 (codes "k") ∷ TextForm (codes "k") ∷
      NameForm (codes "h") ∷ BinaryForm In 7 8 ∷ NameForm (codes "desk") ∷ MemberForm 10 (codes "q") ∷
      MemberForm 11 (codes "k") ∷ TextForm (codes "k") ∷ NameForm (codes "desk") ∷ MemberForm 14 (codes "q") ∷
      BinaryForm In 13 15 ∷ NameForm (codes "Reflect") ∷ MemberForm 17 (codes "set") ∷ NameForm (codes "h") ∷
      TextForm (codes "k") ∷ NumberForm (pos 1) ∷ CallForm 18 (19 ∷ 20 ∷ 21 ∷ []) ∷ NameForm (codes "Reflect") ∷
      MemberForm 23 (codes "defineProperty") ∷ NameForm (codes "h") ∷ TextForm (codes "k") ∷ NumberForm (pos 1) ∷
      ValueForm (Written (codes "value")) 27 ∷ ObjectForm (28 ∷ []) ∷ CallForm 24 (25 ∷ 26 ∷ 29 ∷ []) ∷
      NameForm (codes "Reflect") ∷ MemberForm 31 (codes "deleteProperty") ∷ NameForm (codes "h") ∷
      TextForm (codes "k") ∷ CallForm 32 (33 ∷ 34 ∷ []) ∷ CallForm 4 (6 ∷ 9 ∷ 12 ∷ 16 ∷ 22 ∷ 30 ∷ 35 ∷ []) ∷
      ExprStmtForm 36 ∷ NameForm (codes "print") ∷ NameForm (codes "Object") ∷ MemberForm 39 (codes "isFrozen") ∷
      NameForm (codes "h") ∷ CallForm 40 (41 ∷ []) ∷ NameForm (codes "Reflect") ∷
      MemberForm 43 (codes "ownKeys") ∷ NameForm (codes "h") ∷ CallForm 44 (45 ∷ []) ∷
      MemberForm 46 (codes "join") ∷ CallForm 47 [] ∷ NameForm (codes "Reflect") ∷
      MemberForm 49 (codes "getOwnPropertyDescriptor") ∷ NameForm (codes "h") ∷ TextForm (codes "k") ∷
      CallForm 50 (51 ∷ 52 ∷ []) ∷ NameForm (codes "desk") ∷ MemberForm 54 (codes "c") ∷
      MemberForm 55 (codes "k") ∷ CallForm 38 (42 ∷ 48 ∷ 53 ∷ 56 ∷ []) ∷ ExprStmtForm 57 ∷
      ScriptForm (3 ∷ 37 ∷ 58 ∷ []) ∷
      [];
  names =
      bound 59 (codes "h") false ∷
      [];
}

abbrev policy : List Rule
policy =
    record { label = (codes "S"); kind = Substitute (codes "k") (Whole (pos 9)); owner = None; viewer = None } ∷
    record { label = (codes "H"); kind = Hide (codes "k"); owner = None; viewer = None } ∷
    record { label = (codes "R"); kind = ReadOnly; owner = None; viewer = None } ∷
    record { label = (codes "R"); kind = Hide (codes "h"); owner = None; viewer = None } ∷
    record { label = (codes "R"); kind = Substitute (codes "s") (Text (codes "sub")); owner = None; viewer = None } ∷
    record { label = (codes "V"); kind = Revoke; owner = None; viewer = None } ∷
    record { label = (codes "V"); kind = ReadOnly; owner = None; viewer = None } ∷
    []

abbrev schedule : List Letter
schedule = []

abbrev told : List (List ℕ)
told =
    (codes "T 0 R #0 get \"h\" - #1") ∷
    (codes "T 1 R #1 get \"k\" - undefined") ∷
    (codes "T 2 R #1 has \"k\" - false") ∷
    (codes "T 3 R #0 get \"q\" - #2") ∷
    (codes "T 4 R #3 get \"k\" - \"above\"") ∷
    (codes "T 4 R #2 get \"k\" - \"above\"") ∷
    (codes "T 6 R #0 get \"q\" - #2") ∷
    (codes "T 7 R #3 has \"k\" - true") ∷
    (codes "T 7 R #2 has \"k\" - true") ∷
    (codes "T 9 R #1 getOwnPropertyDescriptor \"k\" - none") ∷
    (codes "T 10 R #1 defineProperty \"k\" {value=1,writable=true,enumerable=true,configurable" ++
    codes "=true} false") ∷
    (codes "T 9 R #1 set \"k\" 1 false") ∷
    (codes "T 12 R #1 defineProperty \"k\" {value=1} false") ∷
    (codes "T 13 R #1 deleteProperty \"k\" - true") ∷
    (codes "R undefined false above true false false true") ∷
    (codes "T 14 R #1 isExtensible - - false") ∷
    (codes "T 15 R #1 ownKeys - - [\"z\"]") ∷
    (codes "T 16 R #1 getOwnPropertyDescriptor \"z\" - {value=2,writable=false,enumerable=true" ++
    codes ",configurable=false}") ∷
    (codes "T 17 R #1 ownKeys - - [\"z\"]") ∷
    (codes "T 18 R #1 getOwnPropertyDescriptor \"k\" - none") ∷
    (codes "T 19 R #0 get \"c\" - #4") ∷
    (codes "T 20 R #1 get \"k\" - undefined") ∷
    (codes "T 20 R #4 get \"k\" - undefined") ∷
    (codes "R true z undefined undefined") ∷
    (codes "= done") ∷
    []

abbrev stage : Stage
stage = Story (left ∷ right ∷ []) policy schedule 1000000

pub Row : Type 0
Row = Shows true false stage told

pub row : Row
unfolding Row given Validate encode_utf8
row = (refl, refl)
