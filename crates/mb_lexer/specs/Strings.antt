-- What stands between the quotes of a text (ECMA-262, 12.9.4, in this profile).
use Rattle.std.specs.Prelude.{ℕ, ◌+◌, ◌*◌, Bool, true, ◌&&◌, ◌||◌, not, ◌==◌, List, [], ◌∷◌, ◌++◌, length, nat_le, if◌then◌else◌}
use Rattle.std.specs.List.{flat_map, list_all}
use Rattle.std.specs.Char.{is_digit, digit_value}
use Rattle.std.specs.Char.Escape.{encode_utf16}
use Rattle.mb_lexer.specs.Characters.{is_line_end, begins}

-- a piece of a text
pub data Piece : Type 0 where
  -- a character for itself
  plain : ℕ → Piece
  -- `\` and a character
  escaped : ℕ → Piece
  -- `\x` and two digits
  pair : ℕ → ℕ → Piece
  -- `\u` and four digits
  four : ℕ → ℕ → ℕ → ℕ → Piece
  -- `\u{`, digits and `}`
  braced : List ℕ → Piece

-- the number that digits spell in a base, after those that spell n
abbrev pub number_from : ℕ → ℕ → List ℕ → ℕ
number_from base n [] = n
number_from base n (d ∷ ds) = number_from base (n * base + digit_value d) ds

abbrev pub number_of : ℕ → List ℕ → ℕ
number_of base ds = number_from base 0 ds

-- the characters of a piece
abbrev pub piece_text : Piece → List ℕ
piece_text (plain c) = c ∷ []
piece_text (escaped c) = 92 ∷ c ∷ []
piece_text (pair a b) = 92 ∷ 120 ∷ a ∷ b ∷ []
piece_text (four a b c d) = 92 ∷ 117 ∷ a ∷ b ∷ c ∷ d ∷ []
piece_text (braced ds) = 92 ∷ 117 ∷ 123 ∷ (ds ++ 125 ∷ [])

-- what a character stands for after `\`: n t r b f v 0, or itself
abbrev pub stands_for : ℕ → ℕ
stands_for c =
    if c == 110 then 10 else if c == 116 then 9 else if c == 114 then 13 else if c == 98 then 8
    else if c == 102 then 12 else if c == 118 then 11 else if c == 48 then 0 else c

-- the 16-bit units of a piece: a code above U+FFFF has two
abbrev pub units : Piece → List ℕ
units (plain c) = encode_utf16 c
units (escaped c) = encode_utf16 (stands_for c)
units (pair a b) = encode_utf16 (number_of 16 (a ∷ b ∷ []))
units (four a b c d) = encode_utf16 (number_of 16 (a ∷ b ∷ c ∷ d ∷ []))
units (braced ds) = encode_utf16 (number_of 16 ds)

abbrev pub is_hex : ℕ → Bool
is_hex c = is_digit c 16

-- between quotes q, before these characters: a plain character is no quote, `\`, line feed or carriage return; an
-- escaped one is no digit, `x`, `u` or line end, but may be a `0` that no digit follows
abbrev pub is_piece : ℕ → Piece → List ℕ → Bool
is_piece q (plain c) rest = not (c == q || c == 92 || c == 10 || c == 13)
is_piece q (escaped c) rest =
    if c == 48 then not (begins (λ d. is_digit d 10) rest)
    else not (is_digit c 10 || c == 120 || c == 117 || is_line_end c)
is_piece q (pair a b) rest = is_hex a && is_hex b
is_piece q (four a b c d) rest = is_hex a && is_hex b && is_hex c && is_hex d
is_piece q (braced ds) rest = not (length ds == 0) && list_all is_hex ds && nat_le (number_of 16 ds) 0x10ffff

-- each of the pieces stands between quotes q, before these characters
abbrev pub are_pieces : ℕ → List Piece → List ℕ → Bool
are_pieces q [] rest = true
are_pieces q (p ∷ ps) rest = is_piece q p (flat_map piece_text ps ++ rest) && are_pieces q ps rest
