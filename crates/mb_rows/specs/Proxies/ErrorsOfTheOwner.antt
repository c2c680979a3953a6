use Rattle.std.specs.Prelude.{refl, ℕ, List, [], ◌∷◌, ◌++◌, true, false, Some, None, codes, pos}
use Rattle.std.specs.Char.{encode_utf8}
use Rattle.mb_desc.specs.Validate.{Validate}
use Rattle.mb_world.specs.Value.{Undefined}
use Rattle.mb_world.specs.Form.{Written, ScriptForm, LetForm, DeclForm, BlockForm, ExprStmtForm, ReturnForm, TryForm, ParamForm, NameForm, NumberForm, LiteralForm, ObjectForm, MethodForm, ArrowForm, MemberForm, AssignForm, CallForm}
use Rattle.mb_world.specs.Graph.{Program, Rule}
use Rattle.mb_model.specs.Engine.{given}
use Rattle.mb_model.specs.Story.{Stage, Letter, Story}
use Rattle.mb_rows.specs.Shows.{bound, Shows}

-- run --trace
-- left
--     desk.o = { m() { return undefined.x; }, n(f) { return f(); }, w(o) { o.k = 1; } }; desk.mine = (e) => Reflect.ownKeys(e); desk.who = (e) => { later(() => { Reflect.getPrototypeOf(e); }); };
-- right
--
--     let t = (f) => { try { f(); } catch (e) { Reflect.getPrototypeOf(e); desk.who(e); } };
--     t(() => desk.o.m()); t(() => desk.o.n(5)); t(() => desk.o.w(Object.freeze({}))); t(() => desk.o.w(5)); t(() => desk.zz());

abbrev left : Program
left = record {
  forms =
      NameForm (codes "desk") ∷ MemberForm 0 (codes "o") ∷ LiteralForm (Undefined) ∷ MemberForm 2 (codes "x") ∷
      ReturnForm (Some 3) ∷ MethodForm (Written (codes "m")) (record { params = []; body = (4 ∷ []) }) ∷
      ParamForm (codes "f") ∷ NameForm (codes "f") ∷ CallForm 7 [] ∷ ReturnForm (Some 8) ∷
      MethodForm (Written (codes "n")) (record { params = (codes "f") ∷ []; body = (9 ∷ []) }) ∷
      ParamForm (codes "o") ∷ NameForm (codes "o") ∷ MemberForm 12 (codes "k") ∷ NumberForm (pos 1) ∷
      AssignForm 13 14 ∷ ExprStmtForm 15 ∷
      MethodForm (Written (codes "w")) (record { params = (codes "o") ∷ []; body = (16 ∷ []) }) ∷
      ObjectForm (5 ∷ 10 ∷ 17 ∷ []) ∷ AssignForm 1 18 ∷ ExprStmtForm 19 ∷ NameForm (codes "desk") ∷
      MemberForm 21 (codes "mine") ∷ ParamForm (codes "e") ∷ NameForm (codes "Reflect") ∷
      MemberForm 24 (codes "ownKeys") ∷ NameForm (codes "e") ∷ CallForm 25 (26 ∷ []) ∷
      ArrowForm (record { params = (codes "e") ∷ []; body = (27 ∷ []) }) false ∷ AssignForm 22 28 ∷
      ExprStmtForm 29 ∷ NameForm (codes "desk") ∷ MemberForm 31 (codes "who") ∷ ParamForm (codes "e") ∷
      NameForm (codes "later") ∷ NameForm (codes "Reflect") ∷ MemberForm 35 (codes "getPrototypeOf") ∷
      NameForm (codes "e") ∷ CallForm 36 (37 ∷ []) ∷ ExprStmtForm 38 ∷
      ArrowForm (record { params = []; body = (39 ∷ []) }) true ∷ CallForm 34 (40 ∷ []) ∷ ExprStmtForm 41 ∷
      ArrowForm (record { params = (codes "e") ∷ []; body = (42 ∷ []) }) true ∷ AssignForm 32 43 ∷
      ExprStmtForm 44 ∷ ScriptForm (20 ∷ 30 ∷ 45 ∷ []) ∷
      [];
  names =
      bound 10 (codes "f") false ∷ bound 17 (codes "o") false ∷ bound 28 (codes "e") false ∷
      bound 43 (codes "e") false ∷
      [];
}

abbrev right : Program
right = record {
  forms =
      ParamForm (codes "f") ∷ NameForm (codes "f") ∷ CallForm 1 [] ∷ ExprStmtForm 2 ∷ BlockForm (3 ∷ []) ∷
      ParamForm (codes "e") ∷ NameForm (codes "Reflect") ∷ MemberForm 6 (codes "getPrototypeOf") ∷
      NameForm (codes "e") ∷ CallForm 7 (8 ∷ []) ∷ ExprStmtForm 9 ∷ NameForm (codes "desk") ∷
      MemberForm 11 (codes "who") ∷ NameForm (codes "e") ∷ CallForm 12 (13 ∷ []) ∷ ExprStmtForm 14 ∷
      BlockForm (10 ∷ 15 ∷ []) ∷ TryForm 4 (Some (codes "e")) (Some 16) None ∷
      ArrowForm (record { params = (codes "f") ∷ []; body = (17 ∷ []) }) true ∷ DeclForm (codes "t") (Some 18) ∷
      LetForm (19 ∷ []) ∷ NameForm (codes "t") ∷ NameForm (codes "desk") ∷ MemberForm 22 (codes "o") ∷
      MemberForm 23 (codes "m") ∷ CallForm 24 [] ∷ ArrowForm (record { params = []; body = (25 ∷ []) }) false ∷
      CallForm 21 (26 ∷ []) ∷ ExprStmtForm 27 ∷ NameForm (codes "t") ∷ NameForm (codes "desk") ∷
      MemberForm 30 (codes "o") ∷ MemberForm 31 (codes "n") ∷ NumberForm (pos 5) ∷ CallForm 32 (33 ∷ []) ∷
      ArrowForm (record { params = []; body = (34 ∷ []) }) false ∷ CallForm 29 (35 ∷ []) ∷ ExprStmtForm 36 ∷
      NameForm (codes "t") ∷ NameForm (codes "desk") ∷ MemberForm 39 (codes "o") ∷ MemberForm 40 (codes "w") ∷
      NameForm (codes "Object") ∷ MemberForm 42 (codes "freeze") ∷ ObjectForm [] ∷ CallForm 43 (44 ∷ []) ∷
      CallForm 41 (45 ∷ []) ∷ ArrowForm (record { params = []; body = (46 ∷ []) }) false ∷
      CallForm 38 (47 ∷ []) ∷ ExprStmtForm 48 ∷ NameForm (codes "t") ∷ NameForm (codes "desk") ∷
      MemberForm 51 (codes "o") ∷ MemberForm 52 (codes "w") ∷ NumberForm (pos 5) ∷ CallForm 53 (54 ∷ []) ∷
      ArrowForm (record { params = []; body = (55 ∷ []) }) false ∷ CallForm 50 (56 ∷ []) ∷ ExprStmtForm 57 ∷
      NameForm (codes "t") ∷ NameForm (codes "desk") ∷ MemberForm 60 (codes "zz") ∷ CallForm 61 [] ∷
      ArrowForm (record { params = []; body = (62 ∷ []) }) false ∷ CallForm 59 (63 ∷ []) ∷ ExprStmtForm 64 ∷
      ScriptForm (20 ∷ 28 ∷ 37 ∷ 49 ∷ 58 ∷ 65 ∷ []) ∷
      [];
  names =
      bound 17 (codes "e") false ∷ bound 18 (codes "f") false ∷ bound 66 (codes "t") false ∷
      [];
}

abbrev policy : List Rule
policy = []

abbrev schedule : List Letter
schedule = []

abbrev told : List (List ℕ)
told =
    (codes "T 0 R #0 get \"o\" - #1") ∷
    (codes "T 1 R #1 get \"m\" - #2") ∷
    (codes "T 2 R #2 apply - - throw #9") ∷
    (codes "T 3 R #9 getPrototypeOf - - @TypeError.prototype") ∷
    (codes "T 4 R #0 get \"who\" - #6") ∷
    (codes "T 5 R #6 apply - - undefined") ∷
    (codes "T 6 R #0 get \"o\" - #1") ∷
    (codes "T 7 R #1 get \"n\" - #3") ∷
    (codes "T 8 R #3 apply - - throw #12") ∷
    (codes "T 9 R #12 getPrototypeOf - - @TypeError.prototype") ∷
    (codes "T 10 R #0 get \"who\" - #6") ∷
    (codes "T 11 R #6 apply - - undefined") ∷
    (codes "T 12 R #0 get \"o\" - #1") ∷
    (codes "T 13 R #1 get \"w\" - #4") ∷
    (codes "T 14 L #15 getOwnPropertyDescriptor \"k\" - none") ∷
    (codes "T 15 L #15 defineProperty \"k\" {value=1,writable=true,enumerable=true,configurabl" ++
    codes "e=true} false") ∷
    (codes "T 14 L #15 set \"k\" 1 false") ∷
    (codes "T 14 R #4 apply - - throw #16") ∷
    (codes "T 18 R #16 getPrototypeOf - - @TypeError.prototype") ∷
    (codes "T 19 R #0 get \"who\" - #6") ∷
    (codes "T 20 R #6 apply - - undefined") ∷
    (codes "T 21 R #0 get \"o\" - #1") ∷
    (codes "T 22 R #1 get \"w\" - #4") ∷
    (codes "T 23 R #4 apply - - throw #19") ∷
    (codes "T 24 R #19 getPrototypeOf - - @TypeError.prototype") ∷
    (codes "T 25 R #0 get \"who\" - #6") ∷
    (codes "T 26 R #6 apply - - undefined") ∷
    (codes "T 27 R #0 get \"zz\" - undefined") ∷
    (codes "T 28 R #0 get \"who\" - #6") ∷
    (codes "T 29 R #6 apply - - undefined") ∷
    (codes "T 30 L #22 getPrototypeOf - - @TypeError.prototype") ∷
    (codes "= done") ∷
    []

abbrev stage : Stage
stage = Story (left ∷ right ∷ []) policy schedule 1000000

pub Row : Type 0
Row = Shows true false stage told

pub row : Row
unfolding Row given Validate encode_utf8
row = (refl, refl)
