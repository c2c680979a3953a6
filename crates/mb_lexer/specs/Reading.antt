-- The tokens of a text, or its first fault.
use Rattle.std.specs.Prelude.{◌≡◌, ℕ, ◌+◌, Bool, true, false, ◌||◌, List, [], ◌∷◌, ◌++◌, if◌then◌else◌}
use Rattle.std.specs.List.{flat_map, list_any}
use Rattle.std.specs.Char.{is_digit}
use Rattle.std.specs.Str.{IsUtf8, IsValidUpTo, chars}
use Rattle.mb_lexer.specs.declared.fault.LexFault.{LexFault}
use Rattle.mb_lexer.specs.declared.fault.LexFault.TheVariants.{Utf8, Token as TokenFault, Number, NoMemory}
use Rattle.mb_lexer.specs.Characters.{width}
use Rattle.mb_lexer.specs.Parts.{Part, part_text, is_part, are_parts, has_line}
use Rattle.mb_lexer.specs.Tokens.{Content, IsToken}

-- a token and where it stands: the offset of its first byte and that after its last, and whether a line end parts it
-- from the token before it, or from the start
pub record Lexeme : Type 0 where
  pub content : Content
  pub from : ℕ
  pub to : ℕ
  pub after_line : Bool

-- a fault is that of a number, or any other
pub data Kind : Type 0 where
  other : Kind
  number : Kind

-- where the tokens stop: at the end of the text, or at a fault
pub data Stop : Type 0 where
  end : Stop
  fault : Kind → ℕ → Stop

-- a number's, where a digit stands
abbrev pub kind_of : ℕ → Kind
kind_of c = if is_digit c 10 then number else other

-- No part and no token stands here, and it isn't the end.
pub record IsFaulty (kind : Kind) (cs : List ℕ) : Type 0 where
  pub first : ℕ
  pub more : List ℕ
  pub left : cs ≡ first ∷ more
  pub no_part : (p : Part) (rest : List ℕ) → cs ≡ part_text p ++ rest → is_part p rest ≡ true → ⊥
  pub no_token : (t : Content) (token rest : List ℕ) → cs ≡ token ++ rest → IsToken t token rest → ⊥
  pub kind_is : kind ≡ kind_of first

-- Parts, and then the rest.
pub record Parted (cs : List ℕ) (parts : List Part) (rest : List ℕ) : Type 0 where
  pub whole : cs ≡ flat_map part_text parts ++ rest
  pub each : are_parts parts rest ≡ true

-- The characters from the offset at on are these tokens with what parts them, and then comes this stop. The flag
-- tells whether a line end went before.
abbrev pub Reads : ℕ → Bool → List ℕ → List Lexeme → Stop → Type 0
Reads at line cs [] end = (parts : List Part) × Parted cs parts []
Reads at line cs [] (fault kind place) =
    (parts : List Part) × (rest : List ℕ) × Parted cs parts rest
    × (place ≡ at + width (flat_map part_text parts)) × IsFaulty kind rest
Reads at line cs (t ∷ ts) stop =
    (parts : List Part) × (token rest : List ℕ) × Parted cs parts (token ++ rest) × IsToken t.content token rest
    × (t.from ≡ at + width (flat_map part_text parts)) × (t.to ≡ t.from + width token)
    × (t.after_line ≡ (line || list_any has_line parts)) × Reads t.to false rest ts stop

-- the bytes have these tokens
abbrev pub HasTokens : List ℕ → List Lexeme → Type 0
HasTokens bytes ts = IsUtf8 bytes × Reads 0 false (chars bytes) ts end

-- the first fault of the bytes: where they stop being UTF-8, or else where tokens stop
abbrev pub HasFault : List ℕ → LexFault → Type 0
HasFault bytes (Utf8 at) = IsValidUpTo bytes at
HasFault bytes (TokenFault at) = IsUtf8 bytes × (ts : List Lexeme) × Reads 0 false (chars bytes) ts (fault other at)
HasFault bytes (Number at) = IsUtf8 bytes × (ts : List Lexeme) × Reads 0 false (chars bytes) ts (fault number at)
HasFault bytes NoMemory = ⊥
