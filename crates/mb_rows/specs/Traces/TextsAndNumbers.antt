use Rattle.std.specs.Prelude.{◌≡◌, refl, ℕ, List, [], ◌∷◌, true, false, codes}
use Rattle.std.specs.Char.{encode_utf8}
use Rattle.mb_desc.specs.Validate.{Validate}
use Rattle.mb_world.specs.Form.{ScriptForm, ExprStmtForm, ThrowForm, NameForm, TextForm, ObjectForm, MemberForm, IndexForm, AssignForm, CallForm}
use Rattle.mb_world.specs.Graph.{Program, Rule}
use Rattle.mb_model.specs.Engine.{given}
use Rattle.mb_model.specs.Story.{Stage, Letter, Story}
use Rattle.mb_rows.specs.Shows.{Shows}

-- run --trace
-- left
--     desk.o = {}; print("\u{1F600}\ud83d|\udc00\ud83d\ud83d\udc00\0\t\r\n\\\"\x7f\x80"); throw "a\n\"";
-- right
--     desk.o["\"\n\u{1F600}\ud83d"] = "\\\x01";

abbrev left : Program
left = record {
  forms =
      NameForm (codes "desk") ∷ MemberForm 0 (codes "o") ∷ ObjectForm [] ∷ AssignForm 1 2 ∷ ExprStmtForm 3 ∷
      NameForm (codes "print") ∷
      TextForm (55357 ∷ 56832 ∷ 55357 ∷ 124 ∷ 56320 ∷ 55357 ∷ 55357 ∷ 56320 ∷ 0 ∷ 9 ∷ 13 ∷ 10 ∷ 92 ∷ 34 ∷ 127 ∷
      128 ∷ []) ∷
      CallForm 5 (6 ∷ []) ∷ ExprStmtForm 7 ∷ TextForm (97 ∷ 10 ∷ 34 ∷ []) ∷ ThrowForm 9 ∷
      ScriptForm (4 ∷ 8 ∷ 10 ∷ []) ∷
      [];
  names = [];
}

abbrev right : Program
right = record {
  forms =
      NameForm (codes "desk") ∷ MemberForm 0 (codes "o") ∷ TextForm (34 ∷ 10 ∷ 55357 ∷ 56832 ∷ 55357 ∷ []) ∷
      IndexForm 1 2 ∷ TextForm (92 ∷ 1 ∷ []) ∷ AssignForm 3 4 ∷ ExprStmtForm 5 ∷ ScriptForm (6 ∷ []) ∷
      [];
  names = [];
}

abbrev policy : List Rule
policy = []

abbrev schedule : List Letter
schedule = []

abbrev told : List (List ℕ)
told =
    (76 ∷ 32 ∷ 240 ∷ 159 ∷ 152 ∷ 128 ∷ 92 ∷ 117 ∷ 100 ∷ 56 ∷ 51 ∷ 100 ∷ 124 ∷ 92 ∷ 117 ∷ 100 ∷ 99 ∷ 48 ∷ 48 ∷
    92 ∷ 117 ∷ 100 ∷ 56 ∷ 51 ∷ 100 ∷ 240 ∷ 159 ∷ 144 ∷ 128 ∷ 92 ∷ 117 ∷ 48 ∷ 48 ∷ 48 ∷ 48 ∷ 92 ∷ 117 ∷ 48 ∷
    48 ∷ 48 ∷ 57 ∷ 92 ∷ 114 ∷ 92 ∷ 110 ∷ 92 ∷ 92 ∷ 34 ∷ 92 ∷ 117 ∷ 48 ∷ 48 ∷ 55 ∷ 102 ∷ 194 ∷ 128 ∷ []) ∷
    (codes "L! value a\\n\"") ∷
    (codes "T 0 R #0 get \"o\" - #1") ∷
    (84 ∷ 32 ∷ 49 ∷ 32 ∷ 82 ∷ 32 ∷ 35 ∷ 49 ∷ 32 ∷ 103 ∷ 101 ∷ 116 ∷ 79 ∷ 119 ∷ 110 ∷ 80 ∷ 114 ∷ 111 ∷ 112 ∷ 101 ∷
    114 ∷ 116 ∷ 121 ∷ 68 ∷ 101 ∷ 115 ∷ 99 ∷ 114 ∷ 105 ∷ 112 ∷ 116 ∷ 111 ∷ 114 ∷ 32 ∷ 34 ∷ 92 ∷ 34 ∷ 92 ∷ 110 ∷
    240 ∷ 159 ∷ 152 ∷ 128 ∷ 92 ∷ 117 ∷ 100 ∷ 56 ∷ 51 ∷ 100 ∷ 34 ∷ 32 ∷ 45 ∷ 32 ∷ 110 ∷ 111 ∷ 110 ∷ 101 ∷ []) ∷
    (84 ∷ 32 ∷ 50 ∷ 32 ∷ 82 ∷ 32 ∷ 35 ∷ 49 ∷ 32 ∷ 100 ∷ 101 ∷ 102 ∷ 105 ∷ 110 ∷ 101 ∷ 80 ∷ 114 ∷ 111 ∷ 112 ∷
    101 ∷ 114 ∷ 116 ∷ 121 ∷ 32 ∷ 34 ∷ 92 ∷ 34 ∷ 92 ∷ 110 ∷ 240 ∷ 159 ∷ 152 ∷ 128 ∷ 92 ∷ 117 ∷ 100 ∷ 56 ∷ 51 ∷
    100 ∷ 34 ∷ 32 ∷ 123 ∷ 118 ∷ 97 ∷ 108 ∷ 117 ∷ 101 ∷ 61 ∷ 34 ∷ 92 ∷ 92 ∷ 92 ∷ 117 ∷ 48 ∷ 48 ∷ 48 ∷ 49 ∷
    34 ∷ 44 ∷ 119 ∷ 114 ∷ 105 ∷ 116 ∷ 97 ∷ 98 ∷ 108 ∷ 101 ∷ 61 ∷ 116 ∷ 114 ∷ 117 ∷ 101 ∷ 44 ∷ 101 ∷ 110 ∷
    117 ∷ 109 ∷ 101 ∷ 114 ∷ 97 ∷ 98 ∷ 108 ∷ 101 ∷ 61 ∷ 116 ∷ 114 ∷ 117 ∷ 101 ∷ 44 ∷ 99 ∷ 111 ∷ 110 ∷
    102 ∷ 105 ∷ 103 ∷ 117 ∷ 114 ∷ 97 ∷ 98 ∷ 108 ∷ 101 ∷ 61 ∷ 116 ∷ 114 ∷ 117 ∷ 101 ∷ 125 ∷ 32 ∷ 116 ∷
    114 ∷ 117 ∷ 101 ∷ []) ∷
    (84 ∷ 32 ∷ 49 ∷ 32 ∷ 82 ∷ 32 ∷ 35 ∷ 49 ∷ 32 ∷ 115 ∷ 101 ∷ 116 ∷ 32 ∷ 34 ∷ 92 ∷ 34 ∷ 92 ∷ 110 ∷ 240 ∷ 159 ∷
    152 ∷ 128 ∷ 92 ∷ 117 ∷ 100 ∷ 56 ∷ 51 ∷ 100 ∷ 34 ∷ 32 ∷ 34 ∷ 92 ∷ 92 ∷ 92 ∷ 117 ∷ 48 ∷ 48 ∷ 48 ∷ 49 ∷ 34 ∷
    32 ∷ 116 ∷ 114 ∷ 117 ∷ 101 ∷ []) ∷
    (codes "= uncaught") ∷
    []

abbrev stage : Stage
stage = Story (left ∷ right ∷ []) policy schedule 1000000

pub Row : Type 0
Row = Shows true false stage told × (stage.left ≡ 999971)

pub row : Row
unfolding Row given Validate encode_utf8
row = ((refl, refl), refl)
