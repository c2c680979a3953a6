use Rattle.std.specs.Prelude.{refl, ℕ, List, [], ◌∷◌, false, Some, codes, pos}
use Rattle.std.specs.Char.{encode_utf8}
use Rattle.mb_tree.specs.declared.kind.Sign.TheVariants.{Plus, Less}
use Rattle.mb_desc.specs.Validate.{Validate}
use Rattle.mb_world.specs.Form.{ScriptForm, LetForm, DeclForm, BlockForm, ExprStmtForm, ForForm, ParamForm, NameForm, NumberForm, ArrayForm, ArrowForm, MemberForm, CompoundForm, CallForm, SeqForm, BinaryForm}
use Rattle.mb_world.specs.Graph.{Program, Rule}
use Rattle.mb_model.specs.Engine.{given}
use Rattle.mb_model.specs.Story.{Stage, Letter, Story}
use Rattle.mb_rows.specs.Shows.{bound, Shows}

-- run
-- left
--     let fs = []; for (let i = 0, g = () => i; i < 3; fs.push(() => i), i += 1) { fs.push(g); } print(fs.map((f) => f()).join());
-- right
--     (empty)

abbrev left : Program
left = record {
  forms =
      ArrayForm [] ∷ DeclForm (codes "fs") (Some 0) ∷ LetForm (1 ∷ []) ∷ NumberForm (pos 0) ∷
      DeclForm (codes "i") (Some 3) ∷ NameForm (codes "i") ∷
      ArrowForm (record { params = []; body = (5 ∷ []) }) false ∷ DeclForm (codes "g") (Some 6) ∷
      LetForm (4 ∷ 7 ∷ []) ∷ NameForm (codes "i") ∷ NumberForm (pos 3) ∷ BinaryForm Less 9 10 ∷
      NameForm (codes "fs") ∷ MemberForm 12 (codes "push") ∷ NameForm (codes "i") ∷
      ArrowForm (record { params = []; body = (14 ∷ []) }) false ∷ CallForm 13 (15 ∷ []) ∷ NameForm (codes "i") ∷
      NumberForm (pos 1) ∷ CompoundForm Plus 17 18 ∷ SeqForm (16 ∷ 19 ∷ []) ∷ NameForm (codes "fs") ∷
      MemberForm 21 (codes "push") ∷ NameForm (codes "g") ∷ CallForm 22 (23 ∷ []) ∷ ExprStmtForm 24 ∷
      BlockForm (25 ∷ []) ∷ ForForm (Some 8) (Some 11) (Some 20) 26 ∷ NameForm (codes "print") ∷
      NameForm (codes "fs") ∷ MemberForm 29 (codes "map") ∷ ParamForm (codes "f") ∷ NameForm (codes "f") ∷
      CallForm 32 [] ∷ ArrowForm (record { params = (codes "f") ∷ []; body = (33 ∷ []) }) false ∷
      CallForm 30 (34 ∷ []) ∷ MemberForm 35 (codes "join") ∷ CallForm 36 [] ∷ CallForm 28 (37 ∷ []) ∷
      ExprStmtForm 38 ∷ ScriptForm (2 ∷ 27 ∷ 39 ∷ []) ∷
      [];
  names =
      bound 27 (codes "i") false ∷ bound 27 (codes "g") false ∷ bound 34 (codes "f") false ∷
      bound 40 (codes "fs") false ∷
      [];
}

abbrev right : Program
right = record {
  forms =
      ScriptForm [] ∷
      [];
  names = [];
}

abbrev policy : List Rule
policy = []

abbrev schedule : List Letter
schedule = []

abbrev told : List (List ℕ)
told =
    (codes "L 0,1,0,2,0,3") ∷
    (codes "= done") ∷
    []

abbrev stage : Stage
stage = Story (left ∷ right ∷ []) policy schedule 1000000

pub Row : Type 0
Row = Shows false false stage told

pub row : Row
unfolding Row given Validate encode_utf8
row = (refl, refl)
