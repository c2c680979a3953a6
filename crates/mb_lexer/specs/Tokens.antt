-- What tokens are, and where they end.
use Rattle.std.specs.Prelude.{◌≡◌, ℕ, Bool, true, false, ◌&&◌, ◌||◌, not, ◌==◌, List, [], ◌∷◌, ◌++◌, Option, Some, None, length, codes, nat_eq, nat_le}
use Rattle.std.specs.List.{flat_map, list_all, starts_with}
use Rattle.std.specs.Char.{is_digit}
use Rattle.std.specs.Char.Escape.{encode_utf16}
use Rattle.mb_token.specs.declared.word.Word.{Word}
use Rattle.mb_token.specs.declared.word.Soft.{Soft}
use Rattle.mb_token.specs.declared.mark.Mark.{Mark}
use Rattle.mb_token.specs.Words.{word_of, soft_of}
use Rattle.mb_token.specs.Marks.{mark_text, mark_at}
use Rattle.mb_lexer.specs.Characters.{starts_name, continues_name, continues_number, is_quote, begins}
use Rattle.mb_lexer.specs.Strings.{Piece, number_of, piece_text, units, are_pieces}

-- a token, with its text where it has one
pub data Content : Type 0 where
  name : List ℕ → Content
  soft : Soft → List ℕ → Content
  reserved : Word → List ℕ → Content
  whole : ℕ → Content
  text : List ℕ → Content
  mark : Mark → Content

-- the 16-bit units of characters
abbrev pub units_of : List ℕ → List ℕ
units_of cs = flat_map encode_utf16 cs

abbrev pub soft_or_name : Option Soft → List ℕ → Content
soft_or_name (Some s) us = soft s us
soft_or_name None us = name us

abbrev pub word_or_name : Option Word → List ℕ → Content
word_or_name (Some w) us = reserved w us
word_or_name None us = soft_or_name (soft_of us) us

-- what a name of these units is: a reserved word, a soft name, or a name like others
abbrev pub named : List ℕ → Content
named us = word_or_name (word_of us) us

-- a name's characters
abbrev pub is_name : List ℕ → Bool
is_name [] = false
is_name (c ∷ cs) = starts_name c && list_all continues_name cs

-- `0`, or digits without a leading zero, up to 9007199254740991
abbrev pub is_whole : List ℕ → Bool
is_whole [] = false
is_whole (c ∷ cs) =
    list_all (λ d. is_digit d 10) (c ∷ cs) && (not (c == 48) || length cs == 0)
    && nat_le (number_of 10 (c ∷ cs)) 9007199254740991

-- whether a comment begins here
abbrev pub begins_comment : List ℕ → Bool
begins_comment cs = starts_with nat_eq cs (codes "//") || starts_with nat_eq cs (codes "/*")

-- the characters are a name of these units, as far as it goes
pub record IsName (us cs rest : List ℕ) : Type 0 where
  pub form : is_name cs ≡ true
  pub units : us ≡ units_of cs
  pub ends : begins continues_name rest ≡ false

-- a quote, pieces, and the same quote
pub record IsText (us cs : List ℕ) : Type 0 where
  pub quote : ℕ
  pub pieces : List Piece
  pub quoted : is_quote quote ≡ true
  pub form : cs ≡ quote ∷ (flat_map piece_text pieces ++ quote ∷ [])
  pub inside : are_pieces quote pieces (quote ∷ []) ≡ true
  pub units : us ≡ flat_map units pieces

-- The characters cs are this token, and it ends before rest: it goes as far as it can.
abbrev pub IsToken : Content → List ℕ → List ℕ → Type 0
IsToken (name us) cs rest = IsName us cs rest × (named us ≡ name us)
IsToken (soft s us) cs rest = IsName us cs rest × (named us ≡ soft s us)
IsToken (reserved w us) cs rest = IsName us cs rest × (named us ≡ reserved w us)
IsToken (whole n) cs rest = (is_whole cs ≡ true) × (n ≡ number_of 10 cs) × (begins continues_number rest ≡ false)
IsToken (text us) cs rest = IsText us cs
IsToken (mark m) cs rest =
    (cs ≡ mark_text m) × (mark_at (cs ++ rest) ≡ Some m) × (begins_comment (cs ++ rest) ≡ false)
