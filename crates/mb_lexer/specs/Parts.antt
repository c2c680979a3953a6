-- What parts tokens: white space, line ends and comments (ECMA-262, 12.2 to 12.4).
use Rattle.std.specs.Prelude.{ℕ, Bool, true, false, ◌&&◌, ◌||◌, not, ◌==◌, List, [], ◌∷◌, ◌++◌}
use Rattle.std.specs.List.{flat_map, list_any}
use Rattle.mb_lexer.specs.Characters.{is_blank, is_line_end, begins}

pub data Part : Type 0 where
  -- white space, or a line end
  space : ℕ → Part
  -- `//` and the characters up to the line end
  line_comment : List ℕ → Part
  -- `/*`, characters, and the first `*/`
  block_comment : List ℕ → Part

-- the characters of a part
abbrev pub part_text : Part → List ℕ
part_text (space c) = c ∷ []
part_text (line_comment cs) = 47 ∷ 47 ∷ cs
part_text (block_comment cs) = 47 ∷ 42 ∷ (cs ++ 42 ∷ 47 ∷ [])

-- whether `*/` stands somewhere
abbrev pub has_close : List ℕ → Bool
has_close [] = false
has_close (c ∷ cs) = (c == 42 && begins (λ d. d == 47) cs) || has_close cs

-- before these characters: a line comment goes on to a line end, or to the end of the text
abbrev pub is_part : Part → List ℕ → Bool
is_part (space c) rest = is_blank c || is_line_end c
is_part (line_comment cs) rest = not (list_any is_line_end cs) && not (begins (λ c. not (is_line_end c)) rest)
is_part (block_comment cs) rest = not (has_close cs)

-- each of the parts stands before these characters
abbrev pub are_parts : List Part → List ℕ → Bool
are_parts [] rest = true
are_parts (p ∷ ps) rest = is_part p (flat_map part_text ps ++ rest) && are_parts ps rest

-- whether a part has a line end
abbrev pub has_line : Part → Bool
has_line (space c) = is_line_end c
has_line (line_comment cs) = false
has_line (block_comment cs) = list_any is_line_end cs
