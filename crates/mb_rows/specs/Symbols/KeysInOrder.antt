use Rattle.std.specs.Prelude.{refl, ℕ, List, [], ◌∷◌, true, false, Some, codes, pos}
use Rattle.std.specs.Char.{encode_utf8}
use Rattle.mb_tree.specs.declared.kind.Sign.TheVariants.{TripleEqual, Typeof}
use Rattle.mb_desc.specs.Validate.{Validate}
use Rattle.mb_world.specs.Form.{ScriptForm, LetForm, DeclForm, ExprStmtForm, NameForm, NumberForm, TextForm, ObjectForm, ArrowForm, MemberForm, IndexForm, AssignForm, CallForm, UnaryForm, BinaryForm}
use Rattle.mb_world.specs.Graph.{Program, Rule}
use Rattle.mb_model.specs.Engine.{given}
use Rattle.mb_model.specs.Story.{Stage, Letter, Story}
use Rattle.mb_rows.specs.Shows.{bound, Shows}

-- run
-- left
--     later(() => {
--       let k = Reflect.ownKeys(desk.o);
--       print(k.length);
--       print(k[2] === desk.s);
--       print(desk.o[desk.s]);
--       print(Object.keys(desk.o).join());
--       print(typeof desk.s);
--       print(String(desk.s));
--     });
-- right
--     let s = Symbol("q");
--     let o = {};
--     o[s] = 1;
--     o.b = 2;
--     o[1] = 3;
--     desk.o = o;
--     desk.s = s;

abbrev left : Program
left = record {
  forms =
      NameForm (codes "later") ∷ NameForm (codes "Reflect") ∷ MemberForm 1 (codes "ownKeys") ∷
      NameForm (codes "desk") ∷ MemberForm 3 (codes "o") ∷ CallForm 2 (4 ∷ []) ∷ DeclForm (codes "k") (Some 5) ∷
      LetForm (6 ∷ []) ∷ NameForm (codes "print") ∷ NameForm (codes "k") ∷ MemberForm 9 (codes "length") ∷
      CallForm 8 (10 ∷ []) ∷ ExprStmtForm 11 ∷ NameForm (codes "print") ∷ NameForm (codes "k") ∷
      NumberForm (pos 2) ∷ IndexForm 14 15 ∷ NameForm (codes "desk") ∷ MemberForm 17 (codes "s") ∷
      BinaryForm TripleEqual 16 18 ∷ CallForm 13 (19 ∷ []) ∷ ExprStmtForm 20 ∷ NameForm (codes "print") ∷
      NameForm (codes "desk") ∷ MemberForm 23 (codes "o") ∷ NameForm (codes "desk") ∷ MemberForm 25 (codes "s") ∷
      IndexForm 24 26 ∷ CallForm 22 (27 ∷ []) ∷ ExprStmtForm 28 ∷ NameForm (codes "print") ∷
      NameForm (codes "Object") ∷ MemberForm 31 (codes "keys") ∷ NameForm (codes "desk") ∷
      MemberForm 33 (codes "o") ∷ CallForm 32 (34 ∷ []) ∷ MemberForm 35 (codes "join") ∷ CallForm 36 [] ∷
      CallForm 30 (37 ∷ []) ∷ ExprStmtForm 38 ∷ NameForm (codes "print") ∷ NameForm (codes "desk") ∷
      MemberForm 41 (codes "s") ∷ UnaryForm Typeof 42 ∷ CallForm 40 (43 ∷ []) ∷ ExprStmtForm 44 ∷
      NameForm (codes "print") ∷ NameForm (codes "String") ∷ NameForm (codes "desk") ∷
      MemberForm 48 (codes "s") ∷ CallForm 47 (49 ∷ []) ∷ CallForm 46 (50 ∷ []) ∷ ExprStmtForm 51 ∷
      ArrowForm (record { params = []; body = (7 ∷ 12 ∷ 21 ∷ 29 ∷ 39 ∷ 45 ∷ 52 ∷ []) }) true ∷
      CallForm 0 (53 ∷ []) ∷ ExprStmtForm 54 ∷ ScriptForm (55 ∷ []) ∷
      [];
  names =
      bound 53 (codes "k") false ∷
      [];
}

abbrev right : Program
right = record {
  forms =
      NameForm (codes "Symbol") ∷ TextForm (codes "q") ∷ CallForm 0 (1 ∷ []) ∷ DeclForm (codes "s") (Some 2) ∷
      LetForm (3 ∷ []) ∷ ObjectForm [] ∷ DeclForm (codes "o") (Some 5) ∷ LetForm (6 ∷ []) ∷
      NameForm (codes "o") ∷ NameForm (codes "s") ∷ IndexForm 8 9 ∷ NumberForm (pos 1) ∷ AssignForm 10 11 ∷
      ExprStmtForm 12 ∷ NameForm (codes "o") ∷ MemberForm 14 (codes "b") ∷ NumberForm (pos 2) ∷
      AssignForm 15 16 ∷ ExprStmtForm 17 ∷ NameForm (codes "o") ∷ NumberForm (pos 1) ∷ IndexForm 19 20 ∷
      NumberForm (pos 3) ∷ AssignForm 21 22 ∷ ExprStmtForm 23 ∷ NameForm (codes "desk") ∷
      MemberForm 25 (codes "o") ∷ NameForm (codes "o") ∷ AssignForm 26 27 ∷ ExprStmtForm 28 ∷
      NameForm (codes "desk") ∷ MemberForm 30 (codes "s") ∷ NameForm (codes "s") ∷ AssignForm 31 32 ∷
      ExprStmtForm 33 ∷ ScriptForm (4 ∷ 7 ∷ 13 ∷ 18 ∷ 24 ∷ 29 ∷ 34 ∷ []) ∷
      [];
  names =
      bound 35 (codes "s") false ∷ bound 35 (codes "o") false ∷
      [];
}

abbrev policy : List Rule
policy = []

abbrev schedule : List Letter
schedule = []

abbrev told : List (List ℕ)
told =
    (codes "L 3") ∷
    (codes "L true") ∷
    (codes "L 1") ∷
    (codes "L 1,b") ∷
    (codes "L symbol") ∷
    (codes "L Symbol(q)") ∷
    (codes "= done") ∷
    []

abbrev stage : Stage
stage = Story (left ∷ right ∷ []) policy schedule 1000000

pub Row : Type 0
Row = Shows false false stage told

pub row : Row
unfolding Row given Validate encode_utf8
row = (refl, refl)
