use Rattle.std.specs.Prelude.{◌≡◌, refl, ℕ, List, [], ◌∷◌, ◌++◌, true, false, Some, None, codes, pos}
use Rattle.std.specs.Char.{encode_utf8}
use Rattle.mb_tree.specs.declared.kind.Sign.TheVariants.{Plus}
use Rattle.mb_desc.specs.Validate.{Validate}
use Rattle.mb_world.specs.Value.{Undefined}
use Rattle.mb_world.specs.Form.{Written, ScriptForm, LetForm, DeclForm, BlockForm, ExprStmtForm, ThrowForm, TryForm, ParamForm, NameForm, NumberForm, TextForm, LiteralForm, ObjectForm, ValueForm, ArrowForm, MemberForm, IndexForm, AssignForm, CallForm, AndForm, BinaryForm}
use Rattle.mb_world.specs.Graph.{Program, Rule}
use Rattle.mb_model.specs.Engine.{given}
use Rattle.mb_model.specs.Story.{Stage, Letter, Story}
use Rattle.mb_rows.specs.Shows.{bound, Shows}

-- run --trace
-- left
--     desk.o = { "xxxxxxxxxxxxxxxxxxxxxxxxxxxxxxxxxxxxxxxxxxxxxxxxxxxxxxxxxxxxxxxxy": 1 }; desk.say = (v) => v; desk.bad = (v) => { throw v; };
-- right
--     let a = "xxxxxxxxxxxxxxxxxxxxxxxxxxxxxxxxxxxxxxxxxxxxxxxxxxxxxxxxxxxxxxxx"; let b = a + "y"; let c = b + "z";
--     desk.o[a]; desk.o[b]; desk.say(c); desk.say(b); desk.say(a); desk.o[c] = c; Reflect.ownKeys(desk.o); try { desk.bad(a + "q"); } catch (e) { }
--     Reflect.getOwnPropertyDescriptor(desk.o, c); Reflect.defineProperty(desk.o, "k", { value: c + c, get: undefined } && { value: c + c });

abbrev left : Program
left = record {
  forms =
      NameForm (codes "desk") ∷ MemberForm 0 (codes "o") ∷ NumberForm (pos 1) ∷
      ValueForm (Written (codes "xxxxxxxxxxxxxxxxxxxxxxxxxxxxxxxxxxxxxxxxxxxxxxxxxxxxxxxxxxxxxxxxy")) 2 ∷
      ObjectForm (3 ∷ []) ∷ AssignForm 1 4 ∷ ExprStmtForm 5 ∷ NameForm (codes "desk") ∷
      MemberForm 7 (codes "say") ∷ ParamForm (codes "v") ∷ NameForm (codes "v") ∷
      ArrowForm (record { params = (codes "v") ∷ []; body = (10 ∷ []) }) false ∷ AssignForm 8 11 ∷
      ExprStmtForm 12 ∷ NameForm (codes "desk") ∷ MemberForm 14 (codes "bad") ∷ ParamForm (codes "v") ∷
      NameForm (codes "v") ∷ ThrowForm 17 ∷
      ArrowForm (record { params = (codes "v") ∷ []; body = (18 ∷ []) }) true ∷ AssignForm 15 19 ∷
      ExprStmtForm 20 ∷ ScriptForm (6 ∷ 13 ∷ 21 ∷ []) ∷
      [];
  names =
      bound 11 (codes "v") false ∷ bound 19 (codes "v") false ∷
      [];
}

abbrev right : Program
right = record {
  forms =
      TextForm (codes "xxxxxxxxxxxxxxxxxxxxxxxxxxxxxxxxxxxxxxxxxxxxxxxxxxxxxxxxxxxxxxxx") ∷
      DeclForm (codes "a") (Some 0) ∷ LetForm (1 ∷ []) ∷ NameForm (codes "a") ∷ TextForm (codes "y") ∷
      BinaryForm Plus 3 4 ∷ DeclForm (codes "b") (Some 5) ∷ LetForm (6 ∷ []) ∷ NameForm (codes "b") ∷
      TextForm (codes "z") ∷ BinaryForm Plus 8 9 ∷ DeclForm (codes "c") (Some 10) ∷ LetForm (11 ∷ []) ∷
      NameForm (codes "desk") ∷ MemberForm 13 (codes "o") ∷ NameForm (codes "a") ∷ IndexForm 14 15 ∷
      ExprStmtForm 16 ∷ NameForm (codes "desk") ∷ MemberForm 18 (codes "o") ∷ NameForm (codes "b") ∷
      IndexForm 19 20 ∷ ExprStmtForm 21 ∷ NameForm (codes "desk") ∷ MemberForm 23 (codes "say") ∷
      NameForm (codes "c") ∷ CallForm 24 (25 ∷ []) ∷ ExprStmtForm 26 ∷ NameForm (codes "desk") ∷
      MemberForm 28 (codes "say") ∷ NameForm (codes "b") ∷ CallForm 29 (30 ∷ []) ∷ ExprStmtForm 31 ∷
      NameForm (codes "desk") ∷ MemberForm 33 (codes "say") ∷ NameForm (codes "a") ∷ CallForm 34 (35 ∷ []) ∷
      ExprStmtForm 36 ∷ NameForm (codes "desk") ∷ MemberForm 38 (codes "o") ∷ NameForm (codes "c") ∷
      IndexForm 39 40 ∷ NameForm (codes "c") ∷ AssignForm 41 42 ∷ ExprStmtForm 43 ∷ NameForm (codes "Reflect") ∷
      MemberForm 45 (codes "ownKeys") ∷ NameForm (codes "desk") ∷ MemberForm 47 (codes "o") ∷
      CallForm 46 (48 ∷ []) ∷ ExprStmtForm 49 ∷ NameForm (codes "desk") ∷ MemberForm 51 (codes "bad") ∷
      NameForm (codes "a") ∷ TextForm (codes "q") ∷ BinaryForm Plus 53 54 ∷ CallForm 52 (55 ∷ []) ∷
      ExprStmtForm 56 ∷ BlockForm (57 ∷ []) ∷ ParamForm (codes "e") ∷ BlockForm [] ∷
      TryForm 58 (Some (codes "e")) (Some 60) None ∷ NameForm (codes "Reflect") ∷
      MemberForm 62 (codes "getOwnPropertyDescriptor") ∷ NameForm (codes "desk") ∷ MemberForm 64 (codes "o") ∷
      NameForm (codes "c") ∷ CallForm 63 (65 ∷ 66 ∷ []) ∷ ExprStmtForm 67 ∷ NameForm (codes "Reflect") ∷
      MemberForm 69 (codes "defineProperty") ∷ NameForm (codes "desk") ∷ MemberForm 71 (codes "o") ∷
      TextForm (codes "k") ∷ NameForm (codes "c") ∷ NameForm (codes "c") ∷ BinaryForm Plus 74 75 ∷
      ValueForm (Written (codes "value")) 76 ∷ LiteralForm (Undefined) ∷ ValueForm (Written (codes "get")) 78 ∷
      ObjectForm (77 ∷ 79 ∷ []) ∷ NameForm (codes "c") ∷ NameForm (codes "c") ∷ BinaryForm Plus 81 82 ∷
      ValueForm (Written (codes "value")) 83 ∷ ObjectForm (84 ∷ []) ∷ AndForm 80 85 ∷
      CallForm 70 (72 ∷ 73 ∷ 86 ∷ []) ∷ ExprStmtForm 87 ∷
      ScriptForm (2 ∷ 7 ∷ 12 ∷ 17 ∷ 22 ∷ 27 ∷ 32 ∷ 37 ∷ 44 ∷ 50 ∷ 61 ∷ 68 ∷ 88 ∷ []) ∷
      [];
  names =
      bound 61 (codes "e") false ∷ bound 89 (codes "a") false ∷ bound 89 (codes "b") false ∷
      bound 89 (codes "c") false ∷
      [];
}

abbrev policy : List Rule
policy = []

abbrev schedule : List Letter
schedule = []

abbrev told : List (List ℕ)
told =
    (codes "T 0 R #0 get \"o\" - #1") ∷
    (codes "T 1 R #1 get \"xxxxxxxxxxxxxxxxxxxxxxxxxxxxxxxxxxxxxxxxxxxxxxxxxxxxxxxxxxxxxxxx\" " ++
    codes "- undefined") ∷
    (codes "T 2 R #0 get \"o\" - #1") ∷
    (codes "T 3 R #1 get ~1 - 1") ∷
    (codes "T 4 R #0 get \"say\" - #2") ∷
    (codes "T 5 R #2 apply - - ~2") ∷
    (codes "T 6 R #0 get \"say\" - #2") ∷
    (codes "T 7 R #2 apply - - ~1") ∷
    (codes "T 8 R #0 get \"say\" - #2") ∷
    (codes "T 9 R #2 apply - - \"xxxxxxxxxxxxxxxxxxxxxxxxxxxxxxxxxxxxxxxxxxxxxxxxxxxxxxxxxxxx" ++ codes "xxxx\"") ∷
    (codes "T 10 R #0 get \"o\" - #1") ∷
    (codes "T 11 R #1 getOwnPropertyDescriptor ~2 - none") ∷
    (codes "T 12 R #1 defineProperty ~2 {value=~2,writable=true,enumerable=true,configurable" ++
    codes "=true} true") ∷
    (codes "T 11 R #1 set ~2 ~2 true") ∷
    (codes "T 14 R #0 get \"o\" - #1") ∷
    (codes "T 15 R #1 ownKeys - - [~1,~2]") ∷
    (codes "T 16 R #0 get \"bad\" - #3") ∷
    (codes "T 17 R #3 apply - - throw ~3") ∷
    (codes "T 18 R #0 get \"o\" - #1") ∷
    (codes "T 19 R #1 getOwnPropertyDescriptor ~2 - {value=~2,writable=true,enumerable=true," ++
    codes "configurable=true}") ∷
    (codes "T 20 R #0 get \"o\" - #1") ∷
    (codes "T 21 R #1 defineProperty \"k\" {value=~4} true") ∷
    (codes "= done") ∷
    []

abbrev stage : Stage
stage = Story (left ∷ right ∷ []) policy schedule 1000000

pub Row : Type 0
Row = Shows true false stage told × (stage.left ≡ 999813)

pub row : Row
unfolding Row given Validate encode_utf8
row = ((refl, refl), refl)
