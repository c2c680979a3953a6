use Rattle.std.specs.Prelude.{refl, ℕ, List, [], ◌∷◌, true, false, Some, None, codes, pos}
use Rattle.std.specs.Char.{encode_utf8}
use Rattle.mb_tree.specs.declared.kind.Sign.TheVariants.{Plus}
use Rattle.mb_desc.specs.Validate.{Validate}
use Rattle.mb_world.specs.Form.{Written, ScriptForm, LetForm, DeclForm, BlockForm, ExprStmtForm, ReturnForm, ThrowForm, TryForm, ParamForm, NameForm, NumberForm, TextForm, ArrayForm, ObjectForm, ValueForm, GetterForm, ArrowForm, MemberForm, IndexForm, AssignForm, CallForm, NewForm, BinaryForm}
use Rattle.mb_world.specs.Graph.{Program, Rule}
use Rattle.mb_model.specs.Engine.{given}
use Rattle.mb_model.specs.Story.{Stage, Letter, Story}
use Rattle.mb_rows.specs.Shows.{bound, Shows}

-- run
-- left
--     let handlers = [];
--     desk.register = (f) => { handlers.push(f); };
--     later(() => {
--       let all = [{ name: "ann", get size() { return 3; } }];
--       handlers.forEach((f) => {
--         try { print(f(all)); } catch (e) { print("refused: " + e.message); }
--       });
--     });
-- right
--     desk.register((rs) => rs[0].name + rs[0].size);
--     desk.register((rs) => { throw new RangeError("no " + rs.length); });

abbrev left : Program
left = record {
  forms =
      ArrayForm [] ∷ DeclForm (codes "handlers") (Some 0) ∷ LetForm (1 ∷ []) ∷ NameForm (codes "desk") ∷
      MemberForm 3 (codes "register") ∷ ParamForm (codes "f") ∷ NameForm (codes "handlers") ∷
      MemberForm 6 (codes "push") ∷ NameForm (codes "f") ∷ CallForm 7 (8 ∷ []) ∷ ExprStmtForm 9 ∷
      ArrowForm (record { params = (codes "f") ∷ []; body = (10 ∷ []) }) true ∷ AssignForm 4 11 ∷
      ExprStmtForm 12 ∷ NameForm (codes "later") ∷ TextForm (codes "ann") ∷
      ValueForm (Written (codes "name")) 15 ∷ NumberForm (pos 3) ∷ ReturnForm (Some 17) ∷
      GetterForm (Written (codes "size")) (record { params = []; body = (18 ∷ []) }) ∷
      ObjectForm (16 ∷ 19 ∷ []) ∷ ArrayForm (20 ∷ []) ∷ DeclForm (codes "all") (Some 21) ∷ LetForm (22 ∷ []) ∷
      NameForm (codes "handlers") ∷ MemberForm 24 (codes "forEach") ∷ ParamForm (codes "f") ∷
      NameForm (codes "print") ∷ NameForm (codes "f") ∷ NameForm (codes "all") ∷ CallForm 28 (29 ∷ []) ∷
      CallForm 27 (30 ∷ []) ∷ ExprStmtForm 31 ∷ BlockForm (32 ∷ []) ∷ ParamForm (codes "e") ∷
      NameForm (codes "print") ∷ TextForm (codes "refused: ") ∷ NameForm (codes "e") ∷
      MemberForm 37 (codes "message") ∷ BinaryForm Plus 36 38 ∷ CallForm 35 (39 ∷ []) ∷ ExprStmtForm 40 ∷
      BlockForm (41 ∷ []) ∷ TryForm 33 (Some (codes "e")) (Some 42) None ∷
      ArrowForm (record { params = (codes "f") ∷ []; body = (43 ∷ []) }) true ∷ CallForm 25 (44 ∷ []) ∷
      ExprStmtForm 45 ∷ ArrowForm (record { params = []; body = (23 ∷ 46 ∷ []) }) true ∷ CallForm 14 (47 ∷ []) ∷
      ExprStmtForm 48 ∷ ScriptForm (2 ∷ 13 ∷ 49 ∷ []) ∷
      [];
  names =
      bound 11 (codes "f") false ∷ bound 43 (codes "e") false ∷ bound 44 (codes "f") false ∷
      bound 47 (codes "all") false ∷ bound 50 (codes "handlers") false ∷
      [];
}

abbrev right : Program
right = record {
  forms =
      NameForm (codes "desk") ∷ MemberForm 0 (codes "register") ∷ ParamForm (codes "rs") ∷
      NameForm (codes "rs") ∷ NumberForm (pos 0) ∷ IndexForm 3 4 ∷ MemberForm 5 (codes "name") ∷
      NameForm (codes "rs") ∷ NumberForm (pos 0) ∷ IndexForm 7 8 ∷ MemberForm 9 (codes "size") ∷
      BinaryForm Plus 6 10 ∷ ArrowForm (record { params = (codes "rs") ∷ []; body = (11 ∷ []) }) false ∷
      CallForm 1 (12 ∷ []) ∷ ExprStmtForm 13 ∷ NameForm (codes "desk") ∷ MemberForm 15 (codes "register") ∷
      ParamForm (codes "rs") ∷ NameForm (codes "RangeError") ∷ TextForm (codes "no ") ∷ NameForm (codes "rs") ∷
      MemberForm 20 (codes "length") ∷ BinaryForm Plus 19 21 ∷ NewForm 18 (22 ∷ []) ∷ ThrowForm 23 ∷
      ArrowForm (record { params = (codes "rs") ∷ []; body = (24 ∷ []) }) true ∷ CallForm 16 (25 ∷ []) ∷
      ExprStmtForm 26 ∷ ScriptForm (14 ∷ 27 ∷ []) ∷
      [];
  names =
      bound 12 (codes "rs") false ∷ bound 25 (codes "rs") false ∷
      [];
}

abbrev policy : List Rule
policy = []

abbrev schedule : List Letter
schedule = []

abbrev told : List (List ℕ)
told =
    (codes "L ann3") ∷
    (codes "L refused: no 1") ∷
    (codes "= done") ∷
    []

abbrev stage : Stage
stage = Story (left ∷ right ∷ []) policy schedule 1000000

pub Row : Type 0
Row = Shows false false stage told

pub row : Row
unfolding Row given Validate encode_utf8
row = (refl, refl)
