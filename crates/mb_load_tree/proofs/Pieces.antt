-- A script as a list of tokens, blanks and line feeds.
use Rattle.std.proofs.Common.{◌≡◌, ℕ, ◌+◌, ◌<◌, Bool, true, false, ◌&&◌, ◌||◌, List, [], ◌∷◌, ◌++◌, zero, suc, get_or, length, refl, sym, ap, ap₂, subst, ◌∙◌, arith}
use Rattle.std.specs.Prelude.{nat_lt}
use Rattle.std.specs.List.{list_all, list_any}
use Rattle.std.specs.Str.{IsAscii}
use Rattle.std.specs.Char.{len_utf8}
use Rattle.std.proofs.lemmas.Str.{len_utf8_ascii, chars-IsAscii, IsUtf8-from_ascii}
use Rattle.std.proofs.lemmas.Bool.{and_parts, ltb-true}
use Rattle.mb_token.specs.declared.token.Token.{Token}
use Rattle.mb_token.specs.declared.token.Spanned.{Spanned}
use Rattle.mb_lexer.specs.Characters.{width, is_blank, is_line_end}
use Rattle.mb_lexer.specs.Parts.{space, has_line}
use Rattle.mb_lexer.specs.Tokens.{Content, IsToken}
use Rattle.mb_lexer.specs.Reading.{Lexeme, end, Reads, HasTokens}
use Rattle.mb_lexer.specs.Shown.{Shows, AreSeen}

-- a token with its characters and as a parser sees it, a blank, or a line feed
pub data Piece : Type 0 where
  token : Content → List ℕ → Token → Piece
  blank : Piece
  feed : Piece

abbrev pub text_of : List Piece → List ℕ
text_of [] = []
text_of (token c cs t ∷ ps) = cs ++ text_of ps
text_of (blank ∷ ps) = 32 ∷ text_of ps
text_of (feed ∷ ps) = 10 ∷ text_of ps

abbrev pub is_low : List ℕ → Bool
is_low = list_all (λ b. nat_lt b 128)

-- each token ends where it must, is of ASCII, and has its text in the table
abbrev pub AllStand : List (List ℕ) → List Piece → Type 0
AllStand texts [] = Unit {0}
AllStand texts (token c cs t ∷ ps) = IsToken c cs (text_of ps) × (is_low cs ≡ true) × Shows texts t c × AllStand texts ps
AllStand texts (blank ∷ ps) = AllStand texts ps
AllStand texts (feed ∷ ps) = AllStand texts ps

-- the tokens from an offset on, where the flag tells whether a line end went before
abbrev pub lexemes : ℕ → Bool → List Piece → List Lexeme
lexemes at line [] = []
lexemes at line (token c cs t ∷ ps) = record { content = c; from = at; to = at + length cs; after_line = line } ∷ lexemes (at + length cs) false ps
lexemes at line (blank ∷ ps) = lexemes (suc at) line ps
lexemes at line (feed ∷ ps) = lexemes (suc at) true ps

abbrev pub tokens : ℕ → Bool → List Piece → List Spanned
tokens at line [] = []
tokens at line (token c cs t ∷ ps) = record { token = t; from = at; to = at + length cs; after_line = line } ∷ tokens (at + length cs) false ps
tokens at line (blank ∷ ps) = tokens (suc at) line ps
tokens at line (feed ∷ ps) = tokens (suc at) true ps

width-low : (bs : List ℕ) → is_low bs ≡ true → width bs ≡ length bs
width-low [] low = refl
width-low (b ∷ bs) low =
    let each = and_parts (nat_lt b 128) (is_low bs) low in
    let one : len_utf8 b ≡ 1 = len_utf8_ascii b (ltb-true b 128 each.0) in
    let rest : width bs ≡ length bs = width-low bs each.1 in
    omega arith

low-append : (xs ys : List ℕ) → is_low xs ≡ true → is_low ys ≡ true → is_low (xs ++ ys) ≡ true
low-append [] ys a b = b
low-append (x ∷ xs) ys a b = let each = and_parts (nat_lt x 128) (is_low xs) a in ap₂ (λ p q. p && q) each.0 (low-append xs ys each.1 b)

low_ascii : (bytes : List ℕ) → is_low bytes ≡ true → (i : ℕ) → get_or bytes i 0 < 128
low_ascii [] low i = omega arith
low_ascii (b ∷ bytes) low zero = ltb-true b 128 (and_parts (nat_lt b 128) (is_low bytes) low).0
low_ascii (b ∷ bytes) low (suc i) = low_ascii bytes (and_parts (nat_lt b 128) (is_low bytes) low).1 i

or_none : (b : Bool) → b || false ≡ b
or_none true = refl
or_none false = refl

or_some : (b : Bool) → b || true ≡ true
or_some true = refl
or_some false = refl

or_third : (a b c : Bool) → (a || b) || c ≡ a || (b || c)
or_third true b c = refl
or_third false b c = refl

-- a blank or a line feed more in front
space_first : (c at : ℕ) (line : Bool) (cs : List ℕ) (ls : List Lexeme) → is_blank c || is_line_end c ≡ true → len_utf8 c ≡ 1 → Reads (suc at) (line || is_line_end c) cs ls end → Reads at line (c ∷ cs) ls end
space_first c at line cs [] is one (parts, parted) = (
  space c ∷ parts,
  record { whole = ap (λ xs. c ∷ xs) parted.whole; each = ap₂ (λ p q. p && q) is parted.each },
)
space_first c at line cs (l ∷ ls) is one (parts, written, rest, parted, stands, from, to, after, more) = (
  space c ∷ parts,
  written,
  rest,
  record { whole = ap (λ xs. c ∷ xs) parted.whole; each = ap₂ (λ p q. p && q) is parted.each },
  stands,
  omega (arith, from, one),
  to,
  after ∙ or_third line (is_line_end c) (list_any has_line parts),
  more,
)

reads : (texts : List (List ℕ)) (ps : List Piece) (at : ℕ) (line : Bool) → AllStand texts ps → Reads at line (text_of ps) (lexemes at line ps) end
reads texts [] at line stand = ([], record { whole = refl; each = refl })
reads texts (token c cs t ∷ ps) at line (stands, low, shows, rest) =
    let long : width cs ≡ length cs = width-low cs low in (
      [],
      cs,
      text_of ps,
      record { whole = refl; each = refl },
      stands,
      omega arith,
      omega (arith, long),
      sym (or_none line),
      reads texts ps (at + length cs) false rest,
    )
reads texts (blank ∷ ps) at line stand =
    space_first 32 at line (text_of ps) (lexemes (suc at) line ps) refl refl
    (subst (λ b. Reads (suc at) b (text_of ps) (lexemes (suc at) line ps) end) (sym (or_none line)) (reads texts ps (suc at) line stand))
reads texts (feed ∷ ps) at line stand =
    space_first 10 at line (text_of ps) (lexemes (suc at) true ps) refl refl
    (subst (λ b. Reads (suc at) b (text_of ps) (lexemes (suc at) true ps) end) (sym (or_some line)) (reads texts ps (suc at) true stand))

all_low : (texts : List (List ℕ)) (ps : List Piece) → AllStand texts ps → is_low (text_of ps) ≡ true
all_low texts [] stand = refl
all_low texts (token c cs t ∷ ps) (stands, low, shows, rest) = low-append cs (text_of ps) low (all_low texts ps rest)
all_low texts (blank ∷ ps) stand = all_low texts ps stand
all_low texts (feed ∷ ps) stand = all_low texts ps stand

pub seen : (texts : List (List ℕ)) (ps : List Piece) (at : ℕ) (line : Bool) → AllStand texts ps → AreSeen texts (tokens at line ps) (lexemes at line ps)
seen texts [] at line stand = tt
seen texts (token c cs t ∷ ps) at line (stands, low, shows, rest) = (record { token = shows; from = refl; to = refl; after_line = refl }, seen texts ps (at + length cs) false rest)
seen texts (blank ∷ ps) at line stand = seen texts ps (suc at) line stand
seen texts (feed ∷ ps) at line stand = seen texts ps (suc at) true stand

pub have_tokens : (texts : List (List ℕ)) (ps : List Piece) → AllStand texts ps → HasTokens (text_of ps) (lexemes 0 false ps)
have_tokens texts ps stand =
    let ascii : IsAscii (text_of ps) = low_ascii (text_of ps) (all_low texts ps stand) in
    (IsUtf8-from_ascii (text_of ps) ascii, subst (λ cs. Reads 0 false cs (lexemes 0 false ps) end) (sym (chars-IsAscii (text_of ps) ascii)) (reads texts ps 0 false stand))
