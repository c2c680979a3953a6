use Rattle.std.specs.Prelude.{refl, ℕ, List, [], ◌∷◌, false, Some, None, codes, pos}
use Rattle.std.specs.Char.{encode_utf8}
use Rattle.mb_tree.specs.declared.kind.Sign.TheVariants.{Instanceof}
use Rattle.mb_desc.specs.Validate.{Validate}
use Rattle.mb_world.specs.Form.{Written, ScriptForm, LetForm, DeclForm, BlockForm, ExprStmtForm, TryForm, ParamForm, NameForm, NumberForm, ObjectForm, ValueForm, ArrowForm, MemberForm, CallForm, NewForm, BinaryForm}
use Rattle.mb_world.specs.Graph.{Program, Rule}
use Rattle.mb_model.specs.Engine.{given}
use Rattle.mb_model.specs.Story.{Stage, Letter, Story}
use Rattle.mb_rows.specs.Shows.{bound, Shows}

-- run
-- left
--     let p = new Proxy(Object.freeze({ a: 1 }), { get: (o, k) => 2 });
--     try { print(p.a); } catch (e) { print(e instanceof TypeError); }
-- right
--     (empty)

abbrev left : Program
left = record {
  forms =
      NameForm (codes "Proxy") ∷ NameForm (codes "Object") ∷ MemberForm 1 (codes "freeze") ∷ NumberForm (pos 1) ∷
      ValueForm (Written (codes "a")) 3 ∷ ObjectForm (4 ∷ []) ∷ CallForm 2 (5 ∷ []) ∷ ParamForm (codes "o") ∷
      ParamForm (codes "k") ∷ NumberForm (pos 2) ∷
      ArrowForm (record { params = (codes "o") ∷ (codes "k") ∷ []; body = (9 ∷ []) }) false ∷
      ValueForm (Written (codes "get")) 10 ∷ ObjectForm (11 ∷ []) ∷ NewForm 0 (6 ∷ 12 ∷ []) ∷
      DeclForm (codes "p") (Some 13) ∷ LetForm (14 ∷ []) ∷ NameForm (codes "print") ∷ NameForm (codes "p") ∷
      MemberForm 17 (codes "a") ∷ CallForm 16 (18 ∷ []) ∷ ExprStmtForm 19 ∷ BlockForm (20 ∷ []) ∷
      ParamForm (codes "e") ∷ NameForm (codes "print") ∷ NameForm (codes "e") ∷ NameForm (codes "TypeError") ∷
      BinaryForm Instanceof 24 25 ∷ CallForm 23 (26 ∷ []) ∷ ExprStmtForm 27 ∷ BlockForm (28 ∷ []) ∷
      TryForm 21 (Some (codes "e")) (Some 29) None ∷ ScriptForm (15 ∷ 30 ∷ []) ∷
      [];
  names =
      bound 10 (codes "o") false ∷ bound 10 (codes "k") false ∷ bound 30 (codes "e") false ∷
      bound 31 (codes "p") false ∷
      [];
}

abbrev right : Program
right = record {
  forms =
      ScriptForm [] ∷
      [];
  names = [];
}

abbrev policy : List Rule
policy = []

abbrev schedule : List Letter
schedule = []

abbrev told : List (List ℕ)
told =
    (codes "L true") ∷
    (codes "= done") ∷
    []

abbrev stage : Stage
stage = Story (left ∷ right ∷ []) policy schedule 1000000

pub Row : Type 0
Row = Shows false false stage told

pub row : Row
unfolding Row given Validate encode_utf8
row = (refl, refl)
