use Rattle.std.specs.Prelude.{refl, ℕ, List, [], ◌∷◌, true, false, Some, None, codes, pos}
use Rattle.std.specs.Char.{encode_utf8}
use Rattle.mb_tree.specs.declared.kind.Sign.TheVariants.{TripleEqual}
use Rattle.mb_desc.specs.Validate.{Validate}
use Rattle.mb_world.specs.Form.{ScriptForm, LetForm, DeclForm, BlockForm, ExprStmtForm, IfForm, ParamForm, NameForm, NumberForm, TextForm, ObjectForm, ArrowForm, MemberForm, CallForm, NewForm, BinaryForm}
use Rattle.mb_world.specs.Graph.{Program, Rule}
use Rattle.mb_model.specs.Engine.{given}
use Rattle.mb_model.specs.Story.{Stage, Letter}
use Rattle.mb_rows.specs.Collecting.{StoryWithCollections}
use Rattle.mb_rows.specs.Shows.{bound, Shows}

-- run
-- left
--     let m = new Map();
--     print(m.set("a", 1) === m, m.get("a"), m.get("b"), m.has("a"), m.has("b"), m.size);
--     m.set("a", 2);
--     m.set("b", 3);
--     print(m.get("a"), m.size, m.delete("a"), m.delete("a"), m.size);
--     m.forEach((v, k, o) => print(k, v, o === m));
--     m.clear();
--     print(m.size, m.has("b"));
--     let s = new Set();
--     print(s.add(1) === s, s.has(1), s.has(2), s.size, s.add(1).size, s.delete(1), s.delete(1), s.size);
--     s.add("x");
--     s.add("y");
--     s.forEach((v, k, o) => {
--       print(v, k, o === s);
--       if (v === "x") { s.delete("x"); s.add("z"); }
--     });
--     let w = new WeakMap(), k = {}, y = Symbol("y");
--     w.set(k, 1);
--     w.set(y, 2);
--     print(w.get(k), w.get(y), w.has(k), w.has({}), w.delete(k), w.has(k), w.get(k), w.delete(1), w.get(1));
-- right
--     (empty)

abbrev left : Program
left = record {
  forms =
      NameForm (codes "Map") ∷ NewForm 0 [] ∷ DeclForm (codes "m") (Some 1) ∷ LetForm (2 ∷ []) ∷
      NameForm (codes "print") ∷ NameForm (codes "m") ∷ MemberForm 5 (codes "set") ∷ TextForm (codes "a") ∷
      NumberForm (pos 1) ∷ CallForm 6 (7 ∷ 8 ∷ []) ∷ NameForm (codes "m") ∷ BinaryForm TripleEqual 9 10 ∷
      NameForm (codes "m") ∷ MemberForm 12 (codes "get") ∷ TextForm (codes "a") ∷ CallForm 13 (14 ∷ []) ∷
      NameForm (codes "m") ∷ MemberForm 16 (codes "get") ∷ TextForm (codes "b") ∷ CallForm 17 (18 ∷ []) ∷
      NameForm (codes "m") ∷ MemberForm 20 (codes "has") ∷ TextForm (codes "a") ∷ CallForm 21 (22 ∷ []) ∷
      NameForm (codes "m") ∷ MemberForm 24 (codes "has") ∷ TextForm (codes "b") ∷ CallForm 25 (26 ∷ []) ∷
      NameForm (codes "m") ∷ MemberForm 28 (codes "size") ∷ CallForm 4 (11 ∷ 15 ∷ 19 ∷ 23 ∷ 27 ∷ 29 ∷ []) ∷
      ExprStmtForm 30 ∷ NameForm (codes "m") ∷ MemberForm 32 (codes "set") ∷ TextForm (codes "a") ∷
      NumberForm (pos 2) ∷ CallForm 33 (34 ∷ 35 ∷ []) ∷ ExprStmtForm 36 ∷ NameForm (codes "m") ∷
      MemberForm 38 (codes "set") ∷ TextForm (codes "b") ∷ NumberForm (pos 3) ∷ CallForm 39 (40 ∷ 41 ∷ []) ∷
      ExprStmtForm 42 ∷ NameForm (codes "print") ∷ NameForm (codes "m") ∷ MemberForm 45 (codes "get") ∷
      TextForm (codes "a") ∷ CallForm 46 (47 ∷ []) ∷ NameForm (codes "m") ∷ MemberForm 49 (codes "size") ∷
      NameForm (codes "m") ∷ MemberForm 51 (codes "delete") ∷ TextForm (codes "a") ∷ CallForm 52 (53 ∷ []) ∷
      NameForm (codes "m") ∷ MemberForm 55 (codes "delete") ∷ TextForm (codes "a") ∷ CallForm 56 (57 ∷ []) ∷
      NameForm (codes "m") ∷ MemberForm 59 (codes "size") ∷ CallForm 44 (48 ∷ 50 ∷ 54 ∷ 58 ∷ 60 ∷ []) ∷
      ExprStmtForm 61 ∷ NameForm (codes "m") ∷ MemberForm 63 (codes "forEach") ∷ ParamForm (codes "v") ∷
      ParamForm (codes "k") ∷ ParamForm (codes "o") ∷ NameForm (codes "print") ∷ NameForm (codes "k") ∷
      NameForm (codes "v") ∷ NameForm (codes "o") ∷ NameForm (codes "m") ∷ BinaryForm TripleEqual 71 72 ∷
      CallForm 68 (69 ∷ 70 ∷ 73 ∷ []) ∷
      ArrowForm (record { params = (codes "v") ∷ (codes "k") ∷ (codes "o") ∷ []; body = (74 ∷ []) }) false ∷
      CallForm 64 (75 ∷ []) ∷ ExprStmtForm 76 ∷ NameForm (codes "m") ∷ MemberForm 78 (codes "clear") ∷
      CallForm 79 [] ∷ ExprStmtForm 80 ∷ NameForm (codes "print") ∷ NameForm (codes "m") ∷
      MemberForm 83 (codes "size") ∷ NameForm (codes "m") ∷ MemberForm 85 (codes "has") ∷ TextForm (codes "b") ∷
      CallForm 86 (87 ∷ []) ∷ CallForm 82 (84 ∷ 88 ∷ []) ∷ ExprStmtForm 89 ∷ NameForm (codes "Set") ∷
      NewForm 91 [] ∷ DeclForm (codes "s") (Some 92) ∷ LetForm (93 ∷ []) ∷ NameForm (codes "print") ∷
      NameForm (codes "s") ∷ MemberForm 96 (codes "add") ∷ NumberForm (pos 1) ∷ CallForm 97 (98 ∷ []) ∷
      NameForm (codes "s") ∷ BinaryForm TripleEqual 99 100 ∷ NameForm (codes "s") ∷
      MemberForm 102 (codes "has") ∷ NumberForm (pos 1) ∷ CallForm 103 (104 ∷ []) ∷ NameForm (codes "s") ∷
      MemberForm 106 (codes "has") ∷ NumberForm (pos 2) ∷ CallForm 107 (108 ∷ []) ∷ NameForm (codes "s") ∷
      MemberForm 110 (codes "size") ∷ NameForm (codes "s") ∷ MemberForm 112 (codes "add") ∷ NumberForm (pos 1) ∷
      CallForm 113 (114 ∷ []) ∷ MemberForm 115 (codes "size") ∷ NameForm (codes "s") ∷
      MemberForm 117 (codes "delete") ∷ NumberForm (pos 1) ∷ CallForm 118 (119 ∷ []) ∷ NameForm (codes "s") ∷
      MemberForm 121 (codes "delete") ∷ NumberForm (pos 1) ∷ CallForm 122 (123 ∷ []) ∷ NameForm (codes "s") ∷
      MemberForm 125 (codes "size") ∷ CallForm 95 (101 ∷ 105 ∷ 109 ∷ 111 ∷ 116 ∷ 120 ∷ 124 ∷ 126 ∷ []) ∷
      ExprStmtForm 127 ∷ NameForm (codes "s") ∷ MemberForm 129 (codes "add") ∷ TextForm (codes "x") ∷
      CallForm 130 (131 ∷ []) ∷ ExprStmtForm 132 ∷ NameForm (codes "s") ∷ MemberForm 134 (codes "add") ∷
      TextForm (codes "y") ∷ CallForm 135 (136 ∷ []) ∷ ExprStmtForm 137 ∷ NameForm (codes "s") ∷
      MemberForm 139 (codes "forEach") ∷ ParamForm (codes "v") ∷ ParamForm (codes "k") ∷ ParamForm (codes "o") ∷
      NameForm (codes "print") ∷ NameForm (codes "v") ∷ NameForm (codes "k") ∷ NameForm (codes "o") ∷
      NameForm (codes "s") ∷ BinaryForm TripleEqual 147 148 ∷ CallForm 144 (145 ∷ 146 ∷ 149 ∷ []) ∷
      ExprStmtForm 150 ∷ NameForm (codes "v") ∷ TextForm (codes "x") ∷ BinaryForm TripleEqual 152 153 ∷
      NameForm (codes "s") ∷ MemberForm 155 (codes "delete") ∷ TextForm (codes "x") ∷ CallForm 156 (157 ∷ []) ∷
      ExprStmtForm 158 ∷ NameForm (codes "s") ∷ MemberForm 160 (codes "add") ∷ TextForm (codes "z") ∷
      CallForm 161 (162 ∷ []) ∷ ExprStmtForm 163 ∷ BlockForm (159 ∷ 164 ∷ []) ∷ IfForm 154 165 None ∷
      ArrowForm (record { params = (codes "v") ∷ (codes "k") ∷ (codes "o") ∷ []; body = (151 ∷ 166 ∷ []) }) true ∷
      CallForm 140 (167 ∷ []) ∷ ExprStmtForm 168 ∷ NameForm (codes "WeakMap") ∷ NewForm 170 [] ∷
      DeclForm (codes "w") (Some 171) ∷ ObjectForm [] ∷ DeclForm (codes "k") (Some 173) ∷
      NameForm (codes "Symbol") ∷ TextForm (codes "y") ∷ CallForm 175 (176 ∷ []) ∷
      DeclForm (codes "y") (Some 177) ∷ LetForm (172 ∷ 174 ∷ 178 ∷ []) ∷ NameForm (codes "w") ∷
      MemberForm 180 (codes "set") ∷ NameForm (codes "k") ∷ NumberForm (pos 1) ∷ CallForm 181 (182 ∷ 183 ∷ []) ∷
      ExprStmtForm 184 ∷ NameForm (codes "w") ∷ MemberForm 186 (codes "set") ∷ NameForm (codes "y") ∷
      NumberForm (pos 2) ∷ CallForm 187 (188 ∷ 189 ∷ []) ∷ ExprStmtForm 190 ∷ NameForm (codes "print") ∷
      NameForm (codes "w") ∷ MemberForm 193 (codes "get") ∷ NameForm (codes "k") ∷ CallForm 194 (195 ∷ []) ∷
      NameForm (codes "w") ∷ MemberForm 197 (codes "get") ∷ NameForm (codes "y") ∷ CallForm 198 (199 ∷ []) ∷
      NameForm (codes "w") ∷ MemberForm 201 (codes "has") ∷ NameForm (codes "k") ∷ CallForm 202 (203 ∷ []) ∷
      NameForm (codes "w") ∷ MemberForm 205 (codes "has") ∷ ObjectForm [] ∷ CallForm 206 (207 ∷ []) ∷
      NameForm (codes "w") ∷ MemberForm 209 (codes "delete") ∷ NameForm (codes "k") ∷ CallForm 210 (211 ∷ []) ∷
      NameForm (codes "w") ∷ MemberForm 213 (codes "has") ∷ NameForm (codes "k") ∷ CallForm 214 (215 ∷ []) ∷
      NameForm (codes "w") ∷ MemberForm 217 (codes "get") ∷ NameForm (codes "k") ∷ CallForm 218 (219 ∷ []) ∷
      NameForm (codes "w") ∷ MemberForm 221 (codes "delete") ∷ NumberForm (pos 1) ∷ CallForm 222 (223 ∷ []) ∷
      NameForm (codes "w") ∷ MemberForm 225 (codes "get") ∷ NumberForm (pos 1) ∷ CallForm 226 (227 ∷ []) ∷
      CallForm 192 (196 ∷ 200 ∷ 204 ∷ 208 ∷ 212 ∷ 216 ∷ 220 ∷ 224 ∷ 228 ∷ []) ∷ ExprStmtForm 229 ∷
      ScriptForm (3 ∷ 31 ∷ 37 ∷ 43 ∷ 62 ∷ 77 ∷ 81 ∷ 90 ∷ 94 ∷ 128 ∷ 133 ∷ 138 ∷ 169 ∷ 179 ∷ 185 ∷ 191 ∷ 230 ∷ []) ∷
      [];
  names =
      bound 75 (codes "v") false ∷ bound 75 (codes "k") false ∷ bound 75 (codes "o") false ∷
      bound 167 (codes "v") false ∷ bound 167 (codes "k") false ∷ bound 167 (codes "o") false ∷
      bound 231 (codes "m") false ∷ bound 231 (codes "s") false ∷ bound 231 (codes "w") false ∷
      bound 231 (codes "k") false ∷ bound 231 (codes "y") false ∷
      [];
}

abbrev right : Program
right = record {
  forms =
      ScriptForm [] ∷
      [];
  names = [];
}

abbrev policy : List Rule
policy = []

abbrev schedule : List Letter
schedule = []

abbrev told : List (List ℕ)
told =
    (codes "L true 1 undefined true false 1") ∷
    (codes "L 2 2 true false 1") ∷
    (codes "L b 3 true") ∷
    (codes "L 0 false") ∷
    (codes "L true true false 1 1 true false 0") ∷
    (codes "L x x true") ∷
    (codes "L y y true") ∷
    (codes "L z z true") ∷
    (codes "L 1 2 true false true false undefined false undefined") ∷
    (codes "= done") ∷
    []

abbrev stage : Stage
stage = StoryWithCollections (left ∷ right ∷ []) policy schedule 1000000

pub Row : Type 0
Row = Shows false false stage told

pub row : Row
unfolding Row given Validate encode_utf8
row = (refl, refl)
