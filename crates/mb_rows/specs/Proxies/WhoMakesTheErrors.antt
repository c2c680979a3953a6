use Rattle.std.specs.Prelude.{refl, ℕ, List, [], ◌∷◌, true, false, Some, None, codes, pos}
use Rattle.std.specs.Char.{encode_utf8}
use Rattle.mb_tree.specs.declared.kind.Sign.TheVariants.{Typeof}
use Rattle.mb_desc.specs.Validate.{Validate}
use Rattle.mb_world.specs.Form.{ScriptForm, LetForm, DeclForm, BlockForm, ExprStmtForm, TryForm, ParamForm, NameForm, NumberForm, ObjectForm, ArrowForm, MemberForm, AssignForm, CallForm, UnaryForm}
use Rattle.mb_world.specs.Graph.{Program, Rule}
use Rattle.mb_model.specs.Engine.{given}
use Rattle.mb_model.specs.Story.{Stage, Letter, Story}
use Rattle.mb_rows.specs.Shows.{bound, Shows}

-- run --trace
-- left
--     let r = Proxy.revocable(() => 1, {}); desk.g = r.proxy; desk.k = r.revoke;
-- right
--     let g = desk.g; desk.k(); try { g.x; } catch (e) { Reflect.getPrototypeOf(e); } try { g(); } catch (e) { Reflect.getPrototypeOf(e); } print(typeof g); desk.k(); print(Reflect.ownKeys(desk.k).join(), desk.k.length);

abbrev left : Program
left = record {
  forms =
      NameForm (codes "Proxy") ∷ MemberForm 0 (codes "revocable") ∷ NumberForm (pos 1) ∷
      ArrowForm (record { params = []; body = (2 ∷ []) }) false ∷ ObjectForm [] ∷ CallForm 1 (3 ∷ 4 ∷ []) ∷
      DeclForm (codes "r") (Some 5) ∷ LetForm (6 ∷ []) ∷ NameForm (codes "desk") ∷ MemberForm 8 (codes "g") ∷
      NameForm (codes "r") ∷ MemberForm 10 (codes "proxy") ∷ AssignForm 9 11 ∷ ExprStmtForm 12 ∷
      NameForm (codes "desk") ∷ MemberForm 14 (codes "k") ∷ NameForm (codes "r") ∷
      MemberForm 16 (codes "revoke") ∷ AssignForm 15 17 ∷ ExprStmtForm 18 ∷ ScriptForm (7 ∷ 13 ∷ 19 ∷ []) ∷
      [];
  names =
      bound 20 (codes "r") false ∷
      [];
}

abbrev right : Program
right = record {
  forms =
      NameForm (codes "desk") ∷ MemberForm 0 (codes "g") ∷ DeclForm (codes "g") (Some 1) ∷ LetForm (2 ∷ []) ∷
      NameForm (codes "desk") ∷ MemberForm 4 (codes "k") ∷ CallForm 5 [] ∷ ExprStmtForm 6 ∷
      NameForm (codes "g") ∷ MemberForm 8 (codes "x") ∷ ExprStmtForm 9 ∷ BlockForm (10 ∷ []) ∷
      ParamForm (codes "e") ∷ NameForm (codes "Reflect") ∷ MemberForm 13 (codes "getPrototypeOf") ∷
      NameForm (codes "e") ∷ CallForm 14 (15 ∷ []) ∷ ExprStmtForm 16 ∷ BlockForm (17 ∷ []) ∷
      TryForm 11 (Some (codes "e")) (Some 18) None ∷ NameForm (codes "g") ∷ CallForm 20 [] ∷ ExprStmtForm 21 ∷
      BlockForm (22 ∷ []) ∷ ParamForm (codes "e") ∷ NameForm (codes "Reflect") ∷
      MemberForm 25 (codes "getPrototypeOf") ∷ NameForm (codes "e") ∷ CallForm 26 (27 ∷ []) ∷ ExprStmtForm 28 ∷
      BlockForm (29 ∷ []) ∷ TryForm 23 (Some (codes "e")) (Some 30) None ∷ NameForm (codes "print") ∷
      NameForm (codes "g") ∷ UnaryForm Typeof 33 ∷ CallForm 32 (34 ∷ []) ∷ ExprStmtForm 35 ∷
      NameForm (codes "desk") ∷ MemberForm 37 (codes "k") ∷ CallForm 38 [] ∷ ExprStmtForm 39 ∷
      NameForm (codes "print") ∷ NameForm (codes "Reflect") ∷ MemberForm 42 (codes "ownKeys") ∷
      NameForm (codes "desk") ∷ MemberForm 44 (codes "k") ∷ CallForm 43 (45 ∷ []) ∷
      MemberForm 46 (codes "join") ∷ CallForm 47 [] ∷ NameForm (codes "desk") ∷ MemberForm 49 (codes "k") ∷
      MemberForm 50 (codes "length") ∷ CallForm 41 (48 ∷ 51 ∷ []) ∷ ExprStmtForm 52 ∷
      ScriptForm (3 ∷ 7 ∷ 19 ∷ 31 ∷ 36 ∷ 40 ∷ 53 ∷ []) ∷
      [];
  names =
      bound 19 (codes "e") false ∷ bound 31 (codes "e") false ∷ bound 54 (codes "g") false ∷
      [];
}

abbrev policy : List Rule
policy = []

abbrev schedule : List Letter
schedule = []

abbrev told : List (List ℕ)
told =
    (codes "T 0 R #0 get \"g\" - #3") ∷
    (codes "T 1 R #0 get \"k\" - #4") ∷
    (codes "T 2 R #4 apply - - undefined") ∷
    (codes "T 3 R #3 get \"x\" - throw #6") ∷
    (codes "T 4 R #6 getPrototypeOf - - @TypeError.prototype") ∷
    (codes "T 5 R #3 apply - - throw #7") ∷
    (codes "T 6 R #7 getPrototypeOf - - @TypeError.prototype") ∷
    (codes "R function") ∷
    (codes "T 7 R #0 get \"k\" - #4") ∷
    (codes "T 8 R #4 apply - - undefined") ∷
    (codes "T 9 R #0 get \"k\" - #4") ∷
    (codes "T 10 R #4 ownKeys - - [\"length\",\"name\"]") ∷
    (codes "T 11 R #0 get \"k\" - #4") ∷
    (codes "T 12 R #4 get \"length\" - 0") ∷
    (codes "R length,name 0") ∷
    (codes "= done") ∷
    []

abbrev stage : Stage
stage = Story (left ∷ right ∷ []) policy schedule 1000000

pub Row : Type 0
Row = Shows true false stage told

pub row : Row
unfolding Row given Validate encode_utf8
row = (refl, refl)
