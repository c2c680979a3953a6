use Rattle.std.specs.Prelude.{refl, ℕ, List, [], ◌∷◌, ◌++◌, true, false, Some, None, codes, pos}
use Rattle.std.specs.Char.{encode_utf8}
use Rattle.mb_tree.specs.declared.kind.Sign.TheVariants.{In}
use Rattle.mb_desc.specs.Validate.{Validate}
use Rattle.mb_world.specs.Form.{Written, ScriptForm, LetForm, DeclForm, ExprStmtForm, ParamForm, NameForm, NumberForm, TextForm, ObjectForm, ValueForm, ArrowForm, MemberForm, AssignForm, CallForm, NewForm, BinaryForm}
use Rattle.mb_world.specs.Graph.{Program, Rule, Hide}
use Rattle.mb_model.specs.Engine.{given}
use Rattle.mb_model.specs.Story.{Stage, Letter, Story}
use Rattle.mb_rows.specs.Shows.{bound, Shows}

-- run --trace
-- left
--     desk.mk = (o) => new Proxy(o, {});
-- right
--     let o = labelled("H"); o.k = 1; o.z = 2; let p = desk.mk(o); print(p.k, p.z, "k" in p, Reflect.ownKeys(p).join()); p.z = 3; print(o.z); print(Reflect.defineProperty(p, "k", {value: 5}), Reflect.deleteProperty(p, "k"), o.k);
-- policy
--     version = 1
--     [[rule]]
--     label = "H"
--     kind = "hide"
--     key = "k"

abbrev left : Program
left = record {
  forms =
      NameForm (codes "desk") ∷ MemberForm 0 (codes "mk") ∷ ParamForm (codes "o") ∷ NameForm (codes "Proxy") ∷
      NameForm (codes "o") ∷ ObjectForm [] ∷ NewForm 3 (4 ∷ 5 ∷ []) ∷
      ArrowForm (record { params = (codes "o") ∷ []; body = (6 ∷ []) }) false ∷ AssignForm 1 7 ∷ ExprStmtForm 8 ∷
      ScriptForm (9 ∷ []) ∷
      [];
  names =
      bound 7 (codes "o") false ∷
      [];
}

abbrev right : Program
right = record {
  forms =
      NameForm (codes "labelled") ∷ TextForm (codes "H") ∷ CallForm 0 (1 ∷ []) ∷ DeclForm (codes "o") (Some 2) ∷
      LetForm (3 ∷ []) ∷ NameForm (codes "o") ∷ MemberForm 5 (codes "k") ∷ NumberForm (pos 1) ∷ AssignForm 6 7 ∷
      ExprStmtForm 8 ∷ NameForm (codes "o") ∷ MemberForm 10 (codes "z") ∷ NumberForm (pos 2) ∷ AssignForm 11 12 ∷
      ExprStmtForm 13 ∷ NameForm (codes "desk") ∷ MemberForm 15 (codes "mk") ∷ NameForm (codes "o") ∷
      CallForm 16 (17 ∷ []) ∷ DeclForm (codes "p") (Some 18) ∷ LetForm (19 ∷ []) ∷ NameForm (codes "print") ∷
      NameForm (codes "p") ∷ MemberForm 22 (codes "k") ∷ NameForm (codes "p") ∷ MemberForm 24 (codes "z") ∷
      TextForm (codes "k") ∷ NameForm (codes "p") ∷ BinaryForm In 26 27 ∷ NameForm (codes "Reflect") ∷
      MemberForm 29 (codes "ownKeys") ∷ NameForm (codes "p") ∷ CallForm 30 (31 ∷ []) ∷
      MemberForm 32 (codes "join") ∷ CallForm 33 [] ∷ CallForm 21 (23 ∷ 25 ∷ 28 ∷ 34 ∷ []) ∷ ExprStmtForm 35 ∷
      NameForm (codes "p") ∷ MemberForm 37 (codes "z") ∷ NumberForm (pos 3) ∷ AssignForm 38 39 ∷
      ExprStmtForm 40 ∷ NameForm (codes "print") ∷ NameForm (codes "o") ∷ MemberForm 43 (codes "z") ∷
      CallForm 42 (44 ∷ []) ∷ ExprStmtForm 45 ∷ NameForm (codes "print") ∷ NameForm (codes "Reflect") ∷
      MemberForm 48 (codes "defineProperty") ∷ NameForm (codes "p") ∷ TextForm (codes "k") ∷ NumberForm (pos 5) ∷
      ValueForm (Written (codes "value")) 52 ∷ ObjectForm (53 ∷ []) ∷ CallForm 49 (50 ∷ 51 ∷ 54 ∷ []) ∷
      NameForm (codes "Reflect") ∷ MemberForm 56 (codes "deleteProperty") ∷ NameForm (codes "p") ∷
      TextForm (codes "k") ∷ CallForm 57 (58 ∷ 59 ∷ []) ∷ NameForm (codes "o") ∷ MemberForm 61 (codes "k") ∷
      CallForm 47 (55 ∷ 60 ∷ 62 ∷ []) ∷ ExprStmtForm 63 ∷ ScriptForm (4 ∷ 9 ∷ 14 ∷ 20 ∷ 36 ∷ 41 ∷ 46 ∷ 64 ∷ []) ∷
      [];
  names =
      bound 65 (codes "o") false ∷ bound 65 (codes "p") false ∷
      [];
}

abbrev policy : List Rule
policy =
    record { label = (codes "H"); kind = Hide (codes "k"); owner = None; viewer = None } ∷
    []

abbrev schedule : List Letter
schedule = []

abbrev told : List (List ℕ)
told =
    (codes "T 0 R #0 get \"mk\" - #1") ∷
    (codes "T 1 R #1 apply - - #4") ∷
    (codes "T 2 R #4 get \"k\" - undefined") ∷
    (codes "T 3 R #4 get \"z\" - 2") ∷
    (codes "T 4 R #4 has \"k\" - false") ∷
    (codes "T 5 R #4 ownKeys - - [\"z\"]") ∷
    (codes "R undefined 2 false z") ∷
    (codes "T 6 R #4 getOwnPropertyDescriptor \"z\" - {value=2,writable=true,enumerable=true,c" ++
    codes "onfigurable=true}") ∷
    (codes "T 7 R #4 defineProperty \"z\" {value=3} true") ∷
    (codes "T 6 R #4 set \"z\" 3 true") ∷
    (codes "R 3") ∷
    (codes "T 9 R #4 defineProperty \"k\" {value=5} false") ∷
    (codes "T 10 R #4 deleteProperty \"k\" - true") ∷
    (codes "R false true 1") ∷
    (codes "= done") ∷
    []

abbrev stage : Stage
stage = Story (left ∷ right ∷ []) policy schedule 1000000

pub Row : Type 0
Row = Shows true false stage told

pub row : Row
unfolding Row given Validate encode_utf8
row = (refl, refl)
