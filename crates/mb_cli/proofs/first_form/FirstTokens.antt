-- The tokens of a script of the first form are tokens of the whole language.
use Rattle.std.proofs.Common.{◌≡◌, ℕ, ◌+◌, ◌≤◌, ◌<◌, ◌⊎◌, inl, inr, Bool, true, false, ◌&&◌, ◌||◌, List, [], ◌∷◌, ◌++◌, zero, suc, get_or, length, map, length-append, append_assoc, refl, sym, ap, ap₂, subst, ◌∙◌, arith}
use Rattle.std.specs.Prelude.{◌*◌, ◌==◌, nat_lt, nat_le, not, codes, ⊤}
use Rattle.std.specs.List.{flat_map, list_all, list_any}
use Rattle.std.specs.Str.{IsAscii}
use Rattle.std.specs.Char.{is_digit, is_ascii_digit, digit_value, len_utf8}
use Rattle.std.specs.Char.Escape.{encode_utf16}
use Rattle.std.specs.Fmt.{decimal}
use Rattle.std.specs.Str.Parse.{digits_value, digits_value_after, AllDigits}
use Rattle.std.proofs.lemmas.Fmt.{digits_decimal, digits_value-decimal}
use Rattle.std.proofs.lemmas.Str.{len_utf8_ascii, chars-IsAscii, IsUtf8-from_ascii}
use Rattle.std.proofs.lemmas.List.{append-nil}
use Rattle.std.proofs.lemmas.Bool.{and_parts, or_cases, lt-ltb, le-leb, ltb-true, eqb-true}
use Rattle.std.proofs.lemmas.Bool.Decides.{nat_tests}
use Rattle.unicode_ident.proofs.Computing.{unicode_ident}
use Rattle.mb_token.specs.declared.mark.Mark.TheVariants.{OpenParen, CloseParen, Semicolon}
use Rattle.mb_text.specs.Spelling.{is_plain}
use Rattle.mb_lexer.specs.Characters.{width, continues_name, continues_number, begins}
use Rattle.mb_lexer.specs.Strings as strings
use Rattle.mb_lexer.specs.Strings.{Piece, plain, number_of, number_from, are_pieces, units}
use Rattle.mb_lexer.specs.Parts.{space, part_text, is_part, are_parts, has_line}
use Rattle.mb_lexer.specs.Tokens as whole_tokens
use Rattle.mb_lexer.specs.Tokens.{Content, name, mark, is_whole, IsToken}
use Rattle.mb_lexer.specs.Reading as whole_reading
use Rattle.mb_lexer.specs.Reading.{Parted, end, Reads, HasTokens}
use Rattle.mb_cli.specs.first_form.Lexemes.{Meaning, print, open_paren, close_paren, semicolon, whole, text, largest, is_gap, IsAtFront, FirstLexeme, Lexes}
use Rattle.mb_cli.specs.first_form.Form.{Literal, quoted, statements_of}
use Rattle.mb_cli.specs.first_form.Form.{number as whole_number}
use Rattle.mb_cli.proofs.first_form.Numbers.{some_digits, no_leading_zero}
use Rattle.mb_cli.proofs.first_form.Steps.{own_digits}

-- what a token is to the whole language, and its characters
abbrev pub content_of : Meaning → Content
content_of print = name (codes "print")
content_of open_paren = mark OpenParen
content_of close_paren = mark CloseParen
content_of semicolon = mark Semicolon
content_of (whole n) = whole_tokens.whole n
content_of (text us) = whole_tokens.text us

abbrev pub characters_of : Meaning → List ℕ
characters_of print = codes "print"
characters_of open_paren = codes "("
characters_of close_paren = codes ")"
characters_of semicolon = codes ";"
characters_of (whole n) = decimal n
characters_of (text us) = 34 ∷ (us ++ 34 ∷ [])

abbrev pub lexeme_of : FirstLexeme → whole_reading.Lexeme
lexeme_of l = record { content = content_of l.token; from = l.from; to = l.to; after_line = l.after_line }

-- what may stand behind a token so that it goes no further
abbrev pub Ends : Meaning → List ℕ → Type 0
Ends print rest = begins continues_name rest ≡ false
Ends (whole n) rest = begins continues_number rest ≡ false
Ends _ rest = ⊤

-- all of ASCII
abbrev pub is_low : List ℕ → Bool
is_low = list_all (λ b. nat_lt b 128)

pub width-low : (bs : List ℕ) → is_low bs ≡ true → width bs ≡ length bs
width-low [] low = refl
width-low (b ∷ bs) low =
    let each = and_parts (nat_lt b 128) (is_low bs) low in
    let one : len_utf8 b ≡ 1 = len_utf8_ascii b (ltb-true b 128 each.0) in
    let rest : width bs ≡ length bs = width-low bs each.1 in
    omega arith

pub low-append : (xs ys : List ℕ) → is_low xs ≡ true → is_low ys ≡ true → is_low (xs ++ ys) ≡ true
low-append [] ys a b = b
low-append (x ∷ xs) ys a b = let each = and_parts (nat_lt x 128) (is_low xs) a in ap₂ (λ p q. p && q) each.0 (low-append xs ys each.1 b)

-- each of one test passes another
pub all_pass : (p q : ℕ → Bool) → ((b : ℕ) → p b ≡ true → q b ≡ true) → (bs : List ℕ) → list_all p bs ≡ true → list_all q bs ≡ true
all_pass p q each [] all = refl
all_pass p q each (b ∷ bs) all = let parts = and_parts (p b) (list_all p bs) all in ap₂ (λ x y. x && y) (each b parts.0) (all_pass p q each bs parts.1)

gap_cases : (P : ℕ → Type 0) → P 32 → P 10 → (b : ℕ) → is_gap b ≡ true → P b
gap_cases P blank line b is = by (or_cases (b == 32) (b == 10) is)
  where
    by : ((b == 32) ≡ true) ⊎ ((b == 10) ≡ true) → P b
    by (inl e) = subst P (sym (eqb-true b 32 e)) blank
    by (inr e) = subst P (sym (eqb-true b 10 e)) line

gap_low : (b : ℕ) → is_gap b ≡ true → nat_lt b 128 ≡ true
gap_low = gap_cases (λ b. nat_lt b 128 ≡ true) refl refl

-- a gap as parts

gap_whole : (gap rest : List ℕ) → gap ++ rest ≡ flat_map part_text (map space gap) ++ rest
gap_whole [] rest = refl
gap_whole (b ∷ gap) rest = ap (λ bs. b ∷ bs) (gap_whole gap rest)

gap_parts : (gap rest : List ℕ) → list_all is_gap gap ≡ true → are_parts (map space gap) rest ≡ true
gap_parts [] rest all = refl
gap_parts (b ∷ gap) rest all =
    let each = and_parts (is_gap b) (list_all is_gap gap) all in
    ap₂ (λ p q. p && q) (gap_cases (λ c. is_part (space c) (flat_map part_text (map space gap) ++ rest) ≡ true) refl refl b each.0) (gap_parts gap rest each.1)

gap_width : (gap : List ℕ) → list_all is_gap gap ≡ true → width (flat_map part_text (map space gap)) ≡ length gap
gap_width [] all = refl
gap_width (b ∷ gap) all =
    let each = and_parts (is_gap b) (list_all is_gap gap) all in
    let one : len_utf8 b ≡ 1 = gap_cases (λ c. len_utf8 c ≡ 1) refl refl b each.0 in
    let rest : width (flat_map part_text (map space gap)) ≡ length gap = gap_width gap each.1 in
    omega arith

gap_line : (gap : List ℕ) → list_all is_gap gap ≡ true → list_any has_line (map space gap) ≡ list_any (λ b. b == 10) gap
gap_line [] all = refl
gap_line (b ∷ gap) all =
    let each = and_parts (is_gap b) (list_all is_gap gap) all in
    ap₂ (λ p q. p || q) (gap_cases (λ c. has_line (space c) ≡ (c == 10)) refl refl b each.0) (gap_line gap each.1)

-- each token that stands is a token, where it goes no further

name_print : (rest : List ℕ) → begins continues_name rest ≡ false → IsToken (name (codes "print")) (codes "print") rest
unfolding unicode_ident
name_print rest ends = (record { form = refl; units = refl; ends = ends }, refl)

mark_open : (rest : List ℕ) → IsToken (mark OpenParen) (codes "(") rest
mark_open rest = (refl, refl, refl)

mark_close : (rest : List ℕ) → IsToken (mark CloseParen) (codes ")") rest
mark_close rest = (refl, refl, refl)

mark_end : (rest : List ℕ) → IsToken (mark Semicolon) (codes ";") rest
mark_end rest = (refl, refl, refl)

same_value : (n : ℕ) (ds : List ℕ) → number_from 10 n ds ≡ digits_value_after 10 n ds
same_value n [] = refl
same_value n (d ∷ ds) = same_value (n * 10 + digit_value d) ds

digits_pass : (ds : List ℕ) → AllDigits 10 ds → list_all (λ d. is_digit d 10) ds ≡ true
digits_pass [] all = refl
digits_pass (d ∷ ds) all = ap₂ (λ p q. p && q) (lt-ltb (digit_value d) 10 all.0) (digits_pass ds all.1)

whole_form : (n : ℕ) (ds : List ℕ) → n ≤ largest → decimal n ≡ ds → list_all is_ascii_digit ds ≡ true → digits_value 10 ds ≡ n → is_whole ds ≡ true
whole_form n [] small is all value = let some : 0 < length {A = ℕ} [] = some_digits n [] small is in absurd (omega arith)
whole_form n (d ∷ ds) small is all value =
    let value_is : number_of 10 (d ∷ ds) ≡ n = same_value 0 (d ∷ ds) ∙ value in
    let small_value : nat_le (number_of 10 (d ∷ ds)) 9007199254740991 ≡ true = le-leb (number_of 10 (d ∷ ds)) 9007199254740991 (omega (arith, value_is)) in
    ap₂ (λ p q. p && q) (ap₂ (λ p q. p && q) (digits_pass (d ∷ ds) (own_digits.to (d ∷ ds) all)) lead) small_value
  where
    lead : (not (d == 48) || length ds == 0) ≡ true
    lead = by (d == 48) (length ds == 0) refl refl
      where
        by : (p q : Bool) → (d == 48) ≡ p → (length ds == 0) ≡ q → (not p || q) ≡ true
        by false q e f = refl
        by true true e f = refl
        by true false e f =
            let zero_first : d ≡ 48 = eqb-true d 48 e in
            let more : 1 < length (d ∷ ds) = grind (arith, nat_tests, f) in
            absurd (no_leading_zero n (d ∷ ds) small is zero_first more)

whole_token : (n : ℕ) (rest : List ℕ) → n ≤ largest → begins continues_number rest ≡ false → IsToken (whole_tokens.whole n) (decimal n) rest
whole_token n rest small ends =
    let digits = digits_decimal own_digits n (omega arith) in
    let value : digits_value 10 (decimal n) ≡ n = digits_value-decimal own_digits n (omega arith) in
    (whole_form n (decimal n) small refl digits value, sym (same_value 0 (decimal n) ∙ value), ends)

plain_low : (u : ℕ) → is_plain u ≡ true → nat_lt u 128 ≡ true
plain_low u is = grind (arith, nat_tests, is)

plain_piece : (u : ℕ) → is_plain u ≡ true → not (u == 34 || u == 92 || u == 10 || u == 13) ≡ true
plain_piece u is = grind (arith, nat_tests, is)

plain_unit : (u : ℕ) → is_plain u ≡ true → encode_utf16 u ≡ u ∷ []
plain_unit u is = let low : u < 128 = ltb-true u 128 (plain_low u is) in simp (lt-ltb u 0x1_0000 (omega arith))

pieces_text : (us rest : List ℕ) → flat_map strings.piece_text (map plain us) ++ rest ≡ us ++ rest
pieces_text [] rest = refl
pieces_text (u ∷ us) rest = ap (λ xs. u ∷ xs) (pieces_text us rest)

pieces_stand : (us rest : List ℕ) → list_all is_plain us ≡ true → are_pieces 34 (map plain us) rest ≡ true
pieces_stand [] rest all = refl
pieces_stand (u ∷ us) rest all =
    let each = and_parts (is_plain u) (list_all is_plain us) all in
    ap₂ (λ p q. p && q) (plain_piece u each.0) (pieces_stand us rest each.1)

pieces_units : (us : List ℕ) → list_all is_plain us ≡ true → us ≡ flat_map units (map plain us)
pieces_units [] all = refl
pieces_units (u ∷ us) all =
    let each = and_parts (is_plain u) (list_all is_plain us) all in
    ap₂ (λ x y. x ++ y) (sym (plain_unit u each.0)) (pieces_units us each.1)

text_token : (us rest : List ℕ) → list_all is_plain us ≡ true → IsToken (whole_tokens.text us) (34 ∷ (us ++ 34 ∷ [])) rest
text_token us rest all = record {
  quote = 34;
  pieces = map plain us;
  quoted = refl;
  form = ap (λ xs. 34 ∷ xs) (sym (pieces_text us (34 ∷ [])));
  inside = pieces_stand us (34 ∷ []) all;
  units = pieces_units us all;
}

is_token : (m : Meaning) (bytes rest : List ℕ) → IsAtFront m bytes rest → Ends m rest → IsToken (content_of m) (characters_of m) rest
is_token print bytes rest stands ends = name_print rest ends
is_token open_paren bytes rest stands ends = mark_open rest
is_token close_paren bytes rest stands ends = mark_close rest
is_token semicolon bytes rest stands ends = mark_end rest
is_token (whole n) bytes rest stands ends = whole_token n rest stands.1 ends
is_token (text us) bytes rest stands ends = text_token us rest stands.1

stands_whole : (m : Meaning) (bytes rest : List ℕ) → IsAtFront m bytes rest → bytes ≡ characters_of m ++ rest
stands_whole print bytes rest stands = stands
stands_whole open_paren bytes rest stands = stands
stands_whole close_paren bytes rest stands = stands
stands_whole semicolon bytes rest stands = stands
stands_whole (whole n) bytes rest stands = stands.0
stands_whole (text us) bytes rest stands = stands.0 ∙ ap (λ xs. 34 ∷ xs) (sym (append_assoc us (34 ∷ []) rest))

digit_low : (b : ℕ) → is_ascii_digit b ≡ true → nat_lt b 128 ≡ true
digit_low b is = grind (arith, nat_tests, is)

token_low : (m : Meaning) (bytes rest : List ℕ) → IsAtFront m bytes rest → is_low (characters_of m) ≡ true
token_low print bytes rest stands = refl
token_low open_paren bytes rest stands = refl
token_low close_paren bytes rest stands = refl
token_low semicolon bytes rest stands = refl
token_low (whole n) bytes rest stands = let small : n ≤ largest = stands.1 in all_pass is_ascii_digit (λ b. nat_lt b 128) digit_low (decimal n) (digits_decimal own_digits n (omega arith))
token_low (text us) bytes rest stands = low-append us (34 ∷ []) (all_pass is_plain (λ b. nat_lt b 128) plain_low us stands.1) refl

-- the first of the tokens is this
abbrev pub IsNext : Meaning → List Meaning → Type 0
IsNext m [] = ⊥
IsNext m (next ∷ ms) = next ≡ m

-- Each token of these is followed by what it needs to end.
abbrev pub Follow : List Meaning → Type 0
Follow [] = ⊤
Follow (print ∷ ms) = IsNext open_paren ms × Follow ms
Follow (whole n ∷ ms) = IsNext close_paren ms × Follow ms
Follow (m ∷ ms) = Follow ms

abbrev pub tokens_of : List FirstLexeme → List Meaning
tokens_of = map (λ l. l.token)

-- behind a gap, or at once, stands this byte
begins_after : (p : ℕ → Bool) (b : ℕ) (gap here rest : List ℕ) → p 32 ≡ false → p 10 ≡ false → p b ≡ false → list_all is_gap gap ≡ true → here ≡ b ∷ rest → begins p (gap ++ here) ≡ false
begins_after p b [] here rest blank line this all is = ap (begins p) is ∙ this
begins_after p b (g ∷ gap) here rest blank line this all is = gap_cases (λ c. p c ≡ false) blank line g (and_parts (is_gap g) (list_all is_gap gap) all).0

next_begins : (p : ℕ → Bool) (b : ℕ) (m : Meaning) (to : ℕ) (rest : List ℕ) (ls : List FirstLexeme) → characters_of m ≡ b ∷ [] → p 32 ≡ false → p 10 ≡ false → p b ≡ false
    → IsNext m (tokens_of ls) → Lexes to false rest ls → begins p rest ≡ false
next_begins p b m to rest [] is blank line this next lexes = absurd next
next_begins p b m to rest (l ∷ ls) is blank line this next (after, first, more) =
    let here : first.here ≡ b ∷ after = stands_whole m first.here after (subst (λ t. IsAtFront t first.here after) next first.stands) ∙ ap (λ cs. cs ++ after) is in
    ap (begins p) first.split ∙ begins_after p b first.gap first.here after blank line this first.is_gap here

ends_print : (to : ℕ) (rest : List ℕ) (ls : List FirstLexeme) → IsNext open_paren (tokens_of ls) → Lexes to false rest ls → begins continues_name rest ≡ false
unfolding unicode_ident
ends_print to rest ls next lexes = next_begins continues_name 40 open_paren to rest ls refl refl refl refl next lexes

ends_whole : (to : ℕ) (rest : List ℕ) (ls : List FirstLexeme) → IsNext close_paren (tokens_of ls) → Lexes to false rest ls → begins continues_number rest ≡ false
unfolding unicode_ident
ends_whole to rest ls next lexes = next_begins continues_number 41 close_paren to rest ls refl refl refl refl next lexes

ends : (m : Meaning) (to : ℕ) (rest : List ℕ) (ls : List FirstLexeme) → Follow (m ∷ tokens_of ls) → Lexes to false rest ls → Ends m rest
ends print to rest ls follow lexes = ends_print to rest ls follow.0 lexes
ends (whole n) to rest ls follow lexes = ends_whole to rest ls follow.0 lexes
ends open_paren to rest ls follow lexes = tt
ends close_paren to rest ls follow lexes = tt
ends semicolon to rest ls follow lexes = tt
ends (text us) to rest ls follow lexes = tt

follow_rest : (m : Meaning) (ms : List Meaning) → Follow (m ∷ ms) → Follow ms
follow_rest print ms follow = follow.1
follow_rest (whole n) ms follow = follow.1
follow_rest open_paren ms follow = follow
follow_rest close_paren ms follow = follow
follow_rest semicolon ms follow = follow
follow_rest (text us) ms follow = follow

-- the bytes have these tokens by the whole language
pub reads_on : (ls : List FirstLexeme) (at : ℕ) (line : Bool) (bytes : List ℕ) → Follow (tokens_of ls) → Lexes at line bytes ls → Reads at line bytes (map lexeme_of ls) end
reads_on [] at line bytes follow all = (map space bytes, record { whole = sym (append-nil bytes) ∙ gap_whole bytes []; each = gap_parts bytes [] all })
reads_on (l ∷ ls) at line bytes follow (rest, first, more) =
    let token = characters_of l.token in
    let here : first.here ≡ token ++ rest = stands_whole l.token first.here rest first.stands in
    let long : width token ≡ length token = width-low token (token_low l.token first.here rest first.stands) in
    let gap : width (flat_map part_text (map space first.gap)) ≡ length first.gap = gap_width first.gap first.is_gap in
    let lengths : length bytes ≡ length first.gap + (length token + length rest) = ap length (first.split ∙ ap (λ t. first.gap ++ t) here) ∙ length-append first.gap (token ++ rest) ∙ ap (λ n. length first.gap + n) (length-append token rest) in (
      map space first.gap,
      token,
      rest,
      record { whole = first.split ∙ ap (λ t. first.gap ++ t) here ∙ gap_whole first.gap (token ++ rest); each = gap_parts first.gap (token ++ rest) first.is_gap },
      is_token l.token first.here rest first.stands (ends l.token l.to rest ls follow more),
      omega (arith, first.from, gap),
      omega (arith, first.from, first.to, lengths, long),
      first.after_line ∙ ap (λ b. line || b) (sym (gap_line first.gap first.is_gap)),
      reads_on ls l.to false rest (follow_rest l.token (tokens_of ls) follow) more,
    )

-- they are all ASCII
pub lexes_low : (ls : List FirstLexeme) (at : ℕ) (line : Bool) (bytes : List ℕ) → Lexes at line bytes ls → is_low bytes ≡ true
lexes_low [] at line bytes all = all_pass is_gap (λ b. nat_lt b 128) gap_low bytes all
lexes_low (l ∷ ls) at line bytes (rest, first, more) =
    let token = characters_of l.token in
    let here : first.here ≡ token ++ rest = stands_whole l.token first.here rest first.stands in
    ap is_low (first.split ∙ ap (λ t. first.gap ++ t) here)
    ∙ low-append first.gap (token ++ rest) (all_pass is_gap (λ b. nat_lt b 128) gap_low first.gap first.is_gap)
    (low-append token rest (token_low l.token first.here rest first.stands) (lexes_low ls l.to false rest more))

low_ascii : (bytes : List ℕ) → is_low bytes ≡ true → (i : ℕ) → get_or bytes i 0 < 128
low_ascii [] low i = omega arith
low_ascii (b ∷ bytes) low zero = ltb-true b 128 (and_parts (nat_lt b 128) (is_low bytes) low).0
low_ascii (b ∷ bytes) low (suc i) = low_ascii bytes (and_parts (nat_lt b 128) (is_low bytes) low).1 i

-- so the bytes have them
pub first_tokens : (bytes : List ℕ) (ls : List FirstLexeme) → Follow (tokens_of ls) → Lexes 0 false bytes ls → HasTokens bytes (map lexeme_of ls)
first_tokens bytes ls follow lexes =
    let ascii : IsAscii bytes = low_ascii bytes (lexes_low ls 0 false bytes lexes) in
    (IsUtf8-from_ascii bytes ascii, subst (λ cs. Reads 0 false cs (map lexeme_of ls) end) (sym (chars-IsAscii bytes ascii)) (reads_on ls 0 false bytes follow lexes))

-- and statements are so that each token ends
pub statements_follow : (literals : List Literal) → Follow (statements_of literals)
statements_follow [] = tt
statements_follow (whole_number n ∷ literals) = (refl, (refl, statements_follow literals))
statements_follow (quoted us ∷ literals) = (refl, statements_follow literals)
