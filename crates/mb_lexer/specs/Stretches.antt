-- A text as a row of tokens and parts.
use Rattle.std.specs.Prelude.{◌≡◌, ℕ, ◌+◌, ◌<◌, Bool, true, ◌&&◌, List, [], ◌∷◌, ◌++◌, length, nat_le, nat_lt, if◌then◌else◌}
use Rattle.std.specs.Str.{chars}
use Rattle.mb_lexer.specs.Characters.{width}
use Rattle.mb_lexer.specs.Parts.{Part, part_text, is_part}
use Rattle.mb_lexer.specs.Tokens.{IsToken}
use Rattle.mb_lexer.specs.Reading.{Lexeme}

-- a token, or a part from this offset on
pub data Stretch : Type 0 where
  token : Lexeme → Stretch
  part : ℕ → Part → Stretch

-- whether the byte at this offset is one of its bytes
abbrev pub holds : ℕ → Stretch → Bool
holds k (token t) = nat_le t.from k && nat_lt k t.to
holds k (part at p) = nat_le at k && nat_lt k (at + width (part_text p))

-- how many of the stretches hold the byte
abbrev pub holders : ℕ → List Stretch → ℕ
holders k [] = 0
holders k (s ∷ ss) = (if holds k s then 1 else 0) + holders k ss

-- the tokens among the stretches
abbrev pub tokens_of : List Stretch → List Lexeme
tokens_of [] = []
tokens_of (token t ∷ ss) = t ∷ tokens_of ss
tokens_of (part at p ∷ ss) = tokens_of ss

-- The characters are the stretches, one after another, and each stands where it is.
abbrev pub Stand : List Stretch → List ℕ → Type 0
Stand [] cs = cs ≡ []
Stand (token t ∷ ss) cs =
    (here rest : List ℕ) × (cs ≡ here ++ rest) × IsToken t.content here rest × Stand ss rest
Stand (part at p ∷ ss) cs =
    (rest : List ℕ) × (cs ≡ part_text p ++ rest) × (is_part p rest ≡ true) × Stand ss rest

-- The bytes are these tokens and what parts them, and each byte is held by exactly one.
abbrev pub Tiles : List ℕ → List Lexeme → Type 0
Tiles bytes ts =
    (ss : List Stretch) × Stand ss (chars bytes) × (tokens_of ss ≡ ts)
    × ((k : ℕ) → k < length bytes → holders k ss ≡ 1)
