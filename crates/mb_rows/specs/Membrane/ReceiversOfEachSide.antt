use Rattle.std.specs.Prelude.{◌≡◌, refl, ℕ, List, [], ◌∷◌, ◌++◌, true, false, Some, codes, pos}
use Rattle.std.specs.Char.{encode_utf8}
use Rattle.mb_tree.specs.declared.kind.Sign.TheVariants.{TripleEqual}
use Rattle.mb_desc.specs.Validate.{Validate}
use Rattle.mb_world.specs.Form.{Written, ScriptForm, LetForm, DeclForm, ExprStmtForm, ParamForm, ThisForm, NameForm, NumberForm, TextForm, ObjectForm, ValueForm, SetterForm, ArrowForm, MemberForm, AssignForm, CallForm, BinaryForm}
use Rattle.mb_world.specs.Graph.{Program, Rule}
use Rattle.mb_model.specs.Engine.{given}
use Rattle.mb_model.specs.Story.{Stage, Letter, Story}
use Rattle.mb_rows.specs.Shows.{bound, Shows}

-- run --trace
-- left
--     desk.o = {}; desk.s = { set v(x) { print(this === desk.o, x); } };
-- right
--     let r0 = {}; print(Reflect.set(desk.o, "x", 1, r0), r0.x); print(Reflect.set({}, "y", r0, desk.o)); Reflect.set(desk.s, "v", 3, desk.o); Reflect.defineProperty(desk.o, "g", { get: () => 1, enumerable: 5 }); Reflect.getOwnPropertyDescriptor(desk.o, "g"); Reflect.setPrototypeOf(desk.o, Reflect); Reflect.getPrototypeOf(desk.o);

abbrev left : Program
left = record {
  forms =
      NameForm (codes "desk") ∷ MemberForm 0 (codes "o") ∷ ObjectForm [] ∷ AssignForm 1 2 ∷ ExprStmtForm 3 ∷
      NameForm (codes "desk") ∷ MemberForm 5 (codes "s") ∷ ParamForm (codes "x") ∷ NameForm (codes "print") ∷
      ThisForm ∷ NameForm (codes "desk") ∷ MemberForm 10 (codes "o") ∷ BinaryForm TripleEqual 9 11 ∷
      NameForm (codes "x") ∷ CallForm 8 (12 ∷ 13 ∷ []) ∷ ExprStmtForm 14 ∷
      SetterForm (Written (codes "v")) (record { params = (codes "x") ∷ []; body = (15 ∷ []) }) ∷
      ObjectForm (16 ∷ []) ∷ AssignForm 6 17 ∷ ExprStmtForm 18 ∷ ScriptForm (4 ∷ 19 ∷ []) ∷
      [];
  names =
      bound 16 (codes "x") false ∷
      [];
}

abbrev right : Program
right = record {
  forms =
      ObjectForm [] ∷ DeclForm (codes "r0") (Some 0) ∷ LetForm (1 ∷ []) ∷ NameForm (codes "print") ∷
      NameForm (codes "Reflect") ∷ MemberForm 4 (codes "set") ∷ NameForm (codes "desk") ∷
      MemberForm 6 (codes "o") ∷ TextForm (codes "x") ∷ NumberForm (pos 1) ∷ NameForm (codes "r0") ∷
      CallForm 5 (7 ∷ 8 ∷ 9 ∷ 10 ∷ []) ∷ NameForm (codes "r0") ∷ MemberForm 12 (codes "x") ∷
      CallForm 3 (11 ∷ 13 ∷ []) ∷ ExprStmtForm 14 ∷ NameForm (codes "print") ∷ NameForm (codes "Reflect") ∷
      MemberForm 17 (codes "set") ∷ ObjectForm [] ∷ TextForm (codes "y") ∷ NameForm (codes "r0") ∷
      NameForm (codes "desk") ∷ MemberForm 22 (codes "o") ∷ CallForm 18 (19 ∷ 20 ∷ 21 ∷ 23 ∷ []) ∷
      CallForm 16 (24 ∷ []) ∷ ExprStmtForm 25 ∷ NameForm (codes "Reflect") ∷ MemberForm 27 (codes "set") ∷
      NameForm (codes "desk") ∷ MemberForm 29 (codes "s") ∷ TextForm (codes "v") ∷ NumberForm (pos 3) ∷
      NameForm (codes "desk") ∷ MemberForm 33 (codes "o") ∷ CallForm 28 (30 ∷ 31 ∷ 32 ∷ 34 ∷ []) ∷
      ExprStmtForm 35 ∷ NameForm (codes "Reflect") ∷ MemberForm 37 (codes "defineProperty") ∷
      NameForm (codes "desk") ∷ MemberForm 39 (codes "o") ∷ TextForm (codes "g") ∷ NumberForm (pos 1) ∷
      ArrowForm (record { params = []; body = (42 ∷ []) }) false ∷ ValueForm (Written (codes "get")) 43 ∷
      NumberForm (pos 5) ∷ ValueForm (Written (codes "enumerable")) 45 ∷ ObjectForm (44 ∷ 46 ∷ []) ∷
      CallForm 38 (40 ∷ 41 ∷ 47 ∷ []) ∷ ExprStmtForm 48 ∷ NameForm (codes "Reflect") ∷
      MemberForm 50 (codes "getOwnPropertyDescriptor") ∷ NameForm (codes "desk") ∷ MemberForm 52 (codes "o") ∷
      TextForm (codes "g") ∷ CallForm 51 (53 ∷ 54 ∷ []) ∷ ExprStmtForm 55 ∷ NameForm (codes "Reflect") ∷
      MemberForm 57 (codes "setPrototypeOf") ∷ NameForm (codes "desk") ∷ MemberForm 59 (codes "o") ∷
      NameForm (codes "Reflect") ∷ CallForm 58 (60 ∷ 61 ∷ []) ∷ ExprStmtForm 62 ∷ NameForm (codes "Reflect") ∷
      MemberForm 64 (codes "getPrototypeOf") ∷ NameForm (codes "desk") ∷ MemberForm 66 (codes "o") ∷
      CallForm 65 (67 ∷ []) ∷ ExprStmtForm 68 ∷ ScriptForm (2 ∷ 15 ∷ 26 ∷ 36 ∷ 49 ∷ 56 ∷ 63 ∷ 69 ∷ []) ∷
      [];
  names =
      bound 70 (codes "r0") false ∷
      [];
}

abbrev policy : List Rule
policy = []

abbrev schedule : List Letter
schedule = []

abbrev told : List (List ℕ)
told =
    (codes "T 0 R #0 get \"o\" - #1") ∷
    (codes "T 1 R #1 set \"x\" 1 true") ∷
    (codes "R true 1") ∷
    (codes "T 2 R #0 get \"o\" - #1") ∷
    (codes "T 3 R #1 getOwnPropertyDescriptor \"y\" - none") ∷
    (codes "T 4 R #1 defineProperty \"y\" {value=#4,writable=true,enumerable=true,configurable" ++
    codes "=true} true") ∷
    (codes "R true") ∷
    (codes "T 5 R #0 get \"s\" - #2") ∷
    (codes "T 6 R #0 get \"o\" - #1") ∷
    (codes "L true 3") ∷
    (codes "T 7 R #3 apply - - undefined") ∷
    (codes "T 7 R #2 set \"v\" 3 true") ∷
    (codes "T 9 R #0 get \"o\" - #1") ∷
    (codes "T 10 R #1 defineProperty \"g\" {get=#7,enumerable=true} true") ∷
    (codes "T 11 R #0 get \"o\" - #1") ∷
    (codes "T 12 R #1 getOwnPropertyDescriptor \"g\" - {get=#7,set=undefined,enumerable=true,c" ++
    codes "onfigurable=false}") ∷
    (codes "T 13 R #0 get \"o\" - #1") ∷
    (codes "T 14 R #1 setPrototypeOf - @Reflect true") ∷
    (codes "T 15 R #0 get \"o\" - #1") ∷
    (codes "T 16 R #1 getPrototypeOf - - @Reflect") ∷
    (codes "= done") ∷
    []

abbrev stage : Stage
stage = Story (left ∷ right ∷ []) policy schedule 1000000

pub Row : Type 0
Row = Shows true false stage told × (stage.left ≡ 999837)

pub row : Row
unfolding Row given Validate encode_utf8
row = ((refl, refl), refl)
