use Rattle.std.specs.Prelude.{refl, ℕ, List, [], ◌∷◌, true, false, Some, None, codes, pos}
use Rattle.std.specs.Char.{encode_utf8}
use Rattle.mb_tree.specs.declared.kind.Sign.TheVariants.{TripleEqual, Instanceof}
use Rattle.mb_desc.specs.Validate.{Validate}
use Rattle.mb_world.specs.Form.{Written, ScriptForm, BlockForm, ExprStmtForm, ThrowForm, TryForm, ParamForm, ThisForm, NameForm, NumberForm, TextForm, ObjectForm, GetterForm, SetterForm, MemberForm, AssignForm, CallForm, BinaryForm}
use Rattle.mb_world.specs.Graph.{Program, Rule}
use Rattle.mb_model.specs.Engine.{given}
use Rattle.mb_model.specs.Story.{Stage, Letter, Story}
use Rattle.mb_rows.specs.Shows.{bound, Shows}

-- run --trace
-- left
--     desk.p = { get k() { throw this; }, set w(v) { throw v; } };
-- right
--     try { desk.p.k; } catch (e) { print(e === desk.p); } print(desk.p.w); try { desk.p.k = 1; } catch (e) { print(e instanceof TypeError); } try { desk.p.w = "q"; } catch (e) { print(e); }

abbrev left : Program
left = record {
  forms =
      NameForm (codes "desk") ∷ MemberForm 0 (codes "p") ∷ ThisForm ∷ ThrowForm 2 ∷
      GetterForm (Written (codes "k")) (record { params = []; body = (3 ∷ []) }) ∷ ParamForm (codes "v") ∷
      NameForm (codes "v") ∷ ThrowForm 6 ∷
      SetterForm (Written (codes "w")) (record { params = (codes "v") ∷ []; body = (7 ∷ []) }) ∷
      ObjectForm (4 ∷ 8 ∷ []) ∷ AssignForm 1 9 ∷ ExprStmtForm 10 ∷ ScriptForm (11 ∷ []) ∷
      [];
  names =
      bound 8 (codes "v") false ∷
      [];
}

abbrev right : Program
right = record {
  forms =
      NameForm (codes "desk") ∷ MemberForm 0 (codes "p") ∷ MemberForm 1 (codes "k") ∷ ExprStmtForm 2 ∷
      BlockForm (3 ∷ []) ∷ ParamForm (codes "e") ∷ NameForm (codes "print") ∷ NameForm (codes "e") ∷
      NameForm (codes "desk") ∷ MemberForm 8 (codes "p") ∷ BinaryForm TripleEqual 7 9 ∷ CallForm 6 (10 ∷ []) ∷
      ExprStmtForm 11 ∷ BlockForm (12 ∷ []) ∷ TryForm 4 (Some (codes "e")) (Some 13) None ∷
      NameForm (codes "print") ∷ NameForm (codes "desk") ∷ MemberForm 16 (codes "p") ∷
      MemberForm 17 (codes "w") ∷ CallForm 15 (18 ∷ []) ∷ ExprStmtForm 19 ∷ NameForm (codes "desk") ∷
      MemberForm 21 (codes "p") ∷ MemberForm 22 (codes "k") ∷ NumberForm (pos 1) ∷ AssignForm 23 24 ∷
      ExprStmtForm 25 ∷ BlockForm (26 ∷ []) ∷ ParamForm (codes "e") ∷ NameForm (codes "print") ∷
      NameForm (codes "e") ∷ NameForm (codes "TypeError") ∷ BinaryForm Instanceof 30 31 ∷ CallForm 29 (32 ∷ []) ∷
      ExprStmtForm 33 ∷ BlockForm (34 ∷ []) ∷ TryForm 27 (Some (codes "e")) (Some 35) None ∷
      NameForm (codes "desk") ∷ MemberForm 37 (codes "p") ∷ MemberForm 38 (codes "w") ∷ TextForm (codes "q") ∷
      AssignForm 39 40 ∷ ExprStmtForm 41 ∷ BlockForm (42 ∷ []) ∷ ParamForm (codes "e") ∷
      NameForm (codes "print") ∷ NameForm (codes "e") ∷ CallForm 45 (46 ∷ []) ∷ ExprStmtForm 47 ∷
      BlockForm (48 ∷ []) ∷ TryForm 43 (Some (codes "e")) (Some 49) None ∷ ScriptForm (14 ∷ 20 ∷ 36 ∷ 50 ∷ []) ∷
      [];
  names =
      bound 14 (codes "e") false ∷ bound 36 (codes "e") false ∷ bound 50 (codes "e") false ∷
      [];
}

abbrev policy : List Rule
policy = []

abbrev schedule : List Letter
schedule = []

abbrev told : List (List ℕ)
told =
    (codes "T 0 R #0 get \"p\" - #1") ∷
    (codes "T 1 R #2 apply - - throw #1") ∷
    (codes "T 1 R #1 get \"k\" - throw #1") ∷
    (codes "T 3 R #0 get \"p\" - #1") ∷
    (codes "R true") ∷
    (codes "T 4 R #0 get \"p\" - #1") ∷
    (codes "T 5 R #1 get \"w\" - undefined") ∷
    (codes "R undefined") ∷
    (codes "T 6 R #0 get \"p\" - #1") ∷
    (codes "T 7 R #1 set \"k\" 1 false") ∷
    (codes "R true") ∷
    (codes "T 8 R #0 get \"p\" - #1") ∷
    (codes "T 9 R #3 apply - - throw \"q\"") ∷
    (codes "T 9 R #1 set \"w\" \"q\" throw \"q\"") ∷
    (codes "R q") ∷
    (codes "= done") ∷
    []

abbrev stage : Stage
stage = Story (left ∷ right ∷ []) policy schedule 1000000

pub Row : Type 0
Row = Shows true false stage told

pub row : Row
unfolding Row given Validate encode_utf8
row = (refl, refl)
