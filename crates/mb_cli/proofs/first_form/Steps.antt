-- How the tokens of a text follow from its front: over a gap, over a token, or not at all.
use Rattle.std.proofs.Common.{◌≡◌, ℕ, ◌+◌, ◌≤◌, ◌<◌, ◌^◌, Bool, true, false, ◌||◌, ◌&&◌, ◌==◌, cond, List, [], ◌∷◌, ◌++◌, length, arith, refl, sym, ap, ap₂, subst, ◌∙◌, true≢false, rules, length-append}
use Rattle.std.specs.Char.{is_ascii_digit}
use Rattle.std.specs.Fmt.{decimal}
use Rattle.std.specs.List.{list_any, list_all}
use Rattle.std.specs.Str.Parse.{digits_value}
use Rattle.std.proofs.Math.Bool.{or_assoc}
use Rattle.std.proofs.lemmas.Fmt.{decimal_nonempty, digits_decimal, decimal_injective}
use Rattle.std.proofs.lemmas.Grind.{common_steps}
use Rattle.std.proofs.lemmas.Str.Parse.{IsDigitsTest, IsNumeralModel, numerals_by_value}
use Rattle.mb_text.specs.Spelling.{is_plain}
use Rattle.mb_cli.specs.first_form.Lexemes.{Meaning, print, open_paren, close_paren, semicolon, whole, text, largest, is_gap, begins_with_digit, IsAtFront, FirstLexeme, Begins, Lexes}

-- texts of digits, and what they write
tells_digits : IsDigitsTest (λ ds. list_all is_ascii_digit ds ≡ true)
tells_digits = search rules

pub own_digits : IsNumeralModel (λ ds. list_all is_ascii_digit ds ≡ true) (digits_value 10)
own_digits = numerals_by_value (λ ds. list_all is_ascii_digit ds ≡ true) tells_digits

abbrev pub begins : (ℕ → Bool) → List ℕ → Bool
begins p [] = false
begins p (b ∷ bs) = p b

-- what passes a test as far as it can is the same
pub run_unique : (p : ℕ → Bool) (xs ys rest other : List ℕ) → list_all p xs ≡ true → list_all p ys ≡ true → begins p rest ≡ false → begins p other ≡ false
    → xs ++ rest ≡ ys ++ other → (xs ≡ ys) × (rest ≡ other)
run_unique p [] [] rest other px py r o e = (refl, e)
run_unique p [] (y ∷ ys) rest other px py r o e =
    let passes : p y ≡ true = grind (arith, common_steps) in
    let here : begins p rest ≡ p y = ap (begins p) e in
    absurd (true≢false (sym passes ∙ sym here ∙ r))
run_unique p (x ∷ xs) [] rest other px py r o e =
    let passes : p x ≡ true = grind (arith, common_steps) in
    let here : p x ≡ begins p other = ap (begins p) e in
    absurd (true≢false (sym passes ∙ here ∙ o))
run_unique p (x ∷ xs) (y ∷ ys) rest other px py r o e =
    let same : x ≡ y = cc in
    let tails : xs ++ rest ≡ ys ++ other = cc in
    let px' : list_all p xs ≡ true = grind (arith, common_steps) in
    let py' : list_all p ys ≡ true = grind (arith, common_steps) in
    let more = run_unique p xs ys rest other px' py' r o tails in
    (ap₂ (λ a b. a ∷ b) same more.0, more.1)

-- the first byte tells the kind of a token
abbrev pub sort_of_byte : List ℕ → ℕ
sort_of_byte [] = 0
sort_of_byte (b ∷ bs) = cond (is_ascii_digit b) 48 b

abbrev pub sort_of : Meaning → ℕ
sort_of print = 112
sort_of open_paren = 40
sort_of close_paren = 41
sort_of semicolon = 59
sort_of (whole n) = 48
sort_of (text units) = 34

digits_sort : (ds rest : List ℕ) → list_all is_ascii_digit ds ≡ true → 0 < length ds → sort_of_byte (ds ++ rest) ≡ 48
digits_sort [] rest all some = absurd (omega arith)
digits_sort (d ∷ ds) rest all some = let is : is_ascii_digit d ≡ true = grind (arith, common_steps) in ap (λ b. cond b 48 d) is

within : (n : ℕ) → n ≤ largest → n < 2 ^ 64
within n h = omega arith

pub stands-sort : (t : Meaning) (bytes rest : List ℕ) → IsAtFront t bytes rest → sort_of_byte bytes ≡ sort_of t
stands-sort print bytes rest s = ap sort_of_byte s
stands-sort open_paren bytes rest s = ap sort_of_byte s
stands-sort close_paren bytes rest s = ap sort_of_byte s
stands-sort semicolon bytes rest s = ap sort_of_byte s
stands-sort (whole n) bytes rest s =
    ap sort_of_byte s.0 ∙ digits_sort (decimal n) rest (digits_decimal own_digits n (within n s.1)) (decimal_nonempty n (within n s.1))
stands-sort (text units) bytes rest s = ap sort_of_byte s.0

-- one token stands at a place, with one rest
pub one_token : (a b : Meaning) (bytes rest other : List ℕ) → IsAtFront a bytes rest → IsAtFront b bytes other → (a ≡ b) × (rest ≡ other)
one_token print print bytes rest other s t = (refl, cc)
one_token open_paren open_paren bytes rest other s t = (refl, cc)
one_token close_paren close_paren bytes rest other s t = (refl, cc)
one_token semicolon semicolon bytes rest other s t = (refl, cc)
one_token (whole n) (whole m) bytes rest other s t =
    let same = run_unique is_ascii_digit (decimal n) (decimal m) rest other (digits_decimal own_digits n (within n s.1)) (digits_decimal own_digits m (within m t.1)) (digits_end rest s.2) (digits_end other t.2) (sym s.0 ∙ t.0) in
    (ap whole (decimal_injective n m (within n s.1) (within m t.1) same.0), same.1)
  where
    digits_end : (bs : List ℕ) → begins_with_digit bs ≡ false → begins is_ascii_digit bs ≡ false
    digits_end [] h = refl
    digits_end (b ∷ bs) h = h
one_token (text us) (text vs) bytes rest other s t =
    let tails : us ++ (34 ∷ rest) ≡ vs ++ (34 ∷ other) = cc (s.0, t.0) in
    let same = run_unique is_plain us vs (34 ∷ rest) (34 ∷ other) s.1 t.1 refl refl tails in
    (ap text same.0, let e : 34 ∷ rest ≡ 34 ∷ other = same.1 in cc)
one_token a b bytes rest other s t =
    let same : sort_of a ≡ sort_of b = sym (stands-sort a bytes rest s) ∙ stands-sort b bytes other t in
    absurd (omega (arith, same))

-- no token begins with a byte of a gap
pub stands-no_gap : (t : Meaning) (b : ℕ) (bs rest : List ℕ) → IsAtFront t (b ∷ bs) rest → is_gap b ≡ false
stands-no_gap t b bs rest s = from_sort t b bs (stands-sort t (b ∷ bs) rest s)
  where
    from_sort : (t : Meaning) (b : ℕ) (bs : List ℕ) → sort_of_byte (b ∷ bs) ≡ sort_of t → is_gap b ≡ false
    from_sort print b bs e = grind (arith, common_steps)
    from_sort open_paren b bs e = grind (arith, common_steps)
    from_sort close_paren b bs e = grind (arith, common_steps)
    from_sort semicolon b bs e = grind (arith, common_steps)
    from_sort (whole n) b bs e = grind (arith, common_steps)
    from_sort (text us) b bs e = grind (arith, common_steps)

-- some byte stands where a token stands
pub stands-some : (t : Meaning) (rest : List ℕ) → IsAtFront t [] rest → ⊥
stands-some t rest s = from_sort t (stands-sort t [] rest s)
  where
    from_sort : (t : Meaning) → 0 ≡ sort_of t → ⊥
    from_sort print e = omega arith
    from_sort open_paren e = omega arith
    from_sort close_paren e = omega arith
    from_sort semicolon e = omega arith
    from_sort (whole n) e = omega arith
    from_sort (text us) e = omega arith

-- a token has a byte
pub stands-shorter : (t : Meaning) (bytes rest : List ℕ) → IsAtFront t bytes rest → length rest < length bytes
stands-shorter print bytes rest s = omega (arith, ap length s)
stands-shorter open_paren bytes rest s = omega (arith, ap length s)
stands-shorter close_paren bytes rest s = omega (arith, ap length s)
stands-shorter semicolon bytes rest s = omega (arith, ap length s)
stands-shorter (whole n) bytes rest s =
    let some = decimal_nonempty n (within n s.1) in
    omega (arith, some, ap length s.0 ∙ length-append (decimal n) rest)
stands-shorter (text units) bytes rest s = omega (arith, ap length s.0, length-append units (34 ∷ rest))

-- over one byte of a gap, forwards
pub gap_on : (at b : ℕ) (line : Bool) (rest : List ℕ) (ts : List FirstLexeme) → is_gap b ≡ true
    → Lexes (at + 1) (line || b == 10) rest ts → Lexes at line (b ∷ rest) ts
gap_on at b line rest [] is all = ap₂ (λ x y. x && y) is all
gap_on at b line rest (t ∷ ts) is (after, first, more) = (
  after,
  record {
    gap = b ∷ first.gap;
    here = first.here;
    split = ap (λ x. b ∷ x) first.split;
    is_gap = ap₂ (λ x y. x && y) is first.is_gap;
    stands = first.stands;
    from = omega (arith, first.from);
    to = omega (arith, first.to);
    after_line = first.after_line ∙ or_assoc line (b == 10) (list_any (λ c. c == 10) first.gap);
  },
  more,
)

-- and backwards
pub gap_back : (at b : ℕ) (line : Bool) (rest : List ℕ) (ts : List FirstLexeme) → is_gap b ≡ true
    → Lexes at line (b ∷ rest) ts → Lexes (at + 1) (line || b == 10) rest ts
gap_back at b line rest [] is all = grind (arith, common_steps)
gap_back at b line rest (t ∷ ts) is (after, first, more) =
    (after, begins_back first.gap first.here first.split first.is_gap first.stands first.from first.to first.after_line, more)
  where
    begins_back : (gap here : List ℕ) → (b ∷ rest) ≡ gap ++ here → list_all is_gap gap ≡ true → IsAtFront t.token here after → t.from ≡ at + length gap
        → t.to + length after ≡ at + length (b ∷ rest) → t.after_line ≡ (line || list_any (λ c. c == 10) gap) → Begins (at + 1) (line || b == 10) rest t after
    begins_back [] [] split all stands from to line_is = absurd (stands-some t.token after stands)
    begins_back [] (h ∷ hs) split all stands from to line_is =
        let same : b ≡ h = cc in
        absurd (true≢false (sym is ∙ ap is_gap same ∙ stands-no_gap t.token h hs after stands))
    begins_back (g ∷ gap) here split all stands from to line_is =
        let same : b ≡ g = cc in
        let tails : rest ≡ gap ++ here = cc in
        record {
          gap = gap;
          here = here;
          split = tails;
          is_gap = grind (arith, common_steps);
          stands = stands;
          from = omega arith;
          to = omega arith;
          after_line = line_is ∙ ap (λ c. line || (c == 10 || list_any (λ c. c == 10) gap)) (sym same) ∙ sym (or_assoc line (b == 10) (list_any (λ c. c == 10) gap));
        }

-- a token where one stands
abbrev pub placed : Meaning → ℕ → ℕ → Bool → FirstLexeme
placed t from to line = record { token = t; from = from; to = to; after_line = line }

or_false : (b : Bool) → (b || false) ≡ b
or_false true = refl
or_false false = refl

-- over a token, forwards
pub token_on : (t : Meaning) (at to : ℕ) (line : Bool) (bytes rest : List ℕ) (ts : List FirstLexeme) → IsAtFront t bytes rest → to + length rest ≡ at + length bytes
    → Lexes to false rest ts → Lexes at line bytes (placed t at to line ∷ ts)
token_on t at to line bytes rest ts stands ends more = (
  rest,
  record {
    gap = [];
    here = bytes;
    split = refl;
    is_gap = refl;
    stands = stands;
    from = omega arith;
    to = ends;
    after_line = sym (or_false line);
  },
  more,
)

-- the tokens from a place where this one stands: it, and those of the rest
pub record Goes (t : Meaning) (at to : ℕ) (line : Bool) (rest : List ℕ) (ts : List FirstLexeme) : Type 0 where
  pub more : List FirstLexeme
  pub first : ts ≡ placed t at to line ∷ more
  pub lexes : Lexes to false rest more

-- and backwards
pub token_back : (t : Meaning) (at to : ℕ) (line : Bool) (bytes rest : List ℕ) (ts : List FirstLexeme) → IsAtFront t bytes rest → to + length rest ≡ at + length bytes
    → Lexes at line bytes ts → Goes t at to line rest ts
token_back t at to line [] rest ts stands ends lexes = absurd (stands-some t rest stands)
token_back t at to line (b ∷ bs) rest [] stands ends all =
    let gap : is_gap b ≡ true = grind (arith, common_steps) in
    absurd (true≢false (sym gap ∙ stands-no_gap t b bs rest stands))
token_back t at to line (b ∷ bs) rest (first ∷ ts) stands ends (after, begin, more) =
    from_begin begin.gap begin.here begin.split begin.is_gap begin.stands begin.from begin.to begin.after_line
  where
    from_begin : (gap here : List ℕ) → (b ∷ bs) ≡ gap ++ here → list_all is_gap gap ≡ true → IsAtFront first.token here after → first.from ≡ at + length gap
        → first.to + length after ≡ at + length (b ∷ bs) → first.after_line ≡ (line || list_any (λ c. c == 10) gap) → Goes t at to line rest (first ∷ ts)
    from_begin (g ∷ gap) here split all st from to_is line_is =
        let same : b ≡ g = cc in
        let is : is_gap g ≡ true = grind (arith, common_steps) in
        absurd (true≢false (sym is ∙ ap is_gap (sym same) ∙ stands-no_gap t b bs rest stands))
    from_begin [] here split all st from to_is line_is =
        let same = one_token first.token t (b ∷ bs) after rest (subst (λ h. IsAtFront first.token h after) (sym split) st) stands in
        let lens : length after ≡ length rest = ap length same.1 in
        let to_same : first.to ≡ to = omega (arith, lens) in
        let from_same : first.from ≡ at = omega arith in
        let it : first ≡ placed t at to line = λ i. record { token = same.0 i; from = from_same i; to = to_same i; after_line = (line_is ∙ or_false line) i } in
        record {
          more = ts;
          first = ap (λ x. x ∷ ts) it;
          lexes = subst (λ r. Lexes to false r ts) same.1 (subst (λ n. Lexes n false after ts) to_same more);
        }

-- where neither a gap nor a token stands there are no tokens
pub no_token : (at b : ℕ) (line : Bool) (bs : List ℕ) (ts : List FirstLexeme) → is_gap b ≡ false → ((t : Meaning) (rest : List ℕ) → IsAtFront t (b ∷ bs) rest → ⊥)
    → Lexes at line (b ∷ bs) ts → ⊥
no_token at b line bs [] not_gap none all = let gap : is_gap b ≡ true = grind (arith, common_steps) in true≢false (sym gap ∙ not_gap)
no_token at b line bs (first ∷ ts) not_gap none (after, begin, more) = from_begin begin.gap begin.here begin.split begin.is_gap begin.stands
  where
    from_begin : (gap here : List ℕ) → (b ∷ bs) ≡ gap ++ here → list_all is_gap gap ≡ true → IsAtFront first.token here after → ⊥
    from_begin [] here split all st = none first.token after (subst (λ h. IsAtFront first.token h after) (sym split) st)
    from_begin (g ∷ gap) here split all st =
        let same : b ≡ g = cc in
        let is : is_gap g ≡ true = grind (arith, common_steps) in
        true≢false (sym is ∙ ap is_gap (sym same) ∙ not_gap)

gaps_back : (at : ℕ) (line : Bool) (gap here : List ℕ) (ts : List FirstLexeme) → list_all is_gap gap ≡ true → Lexes at line (gap ++ here) ts
    → Lexes (at + length gap) (line || list_any (λ c. c == 10) gap) here ts
gaps_back at line [] here ts all lexes = subst (λ n. Lexes n (line || false) here ts) (omega arith) (subst (λ l. Lexes at l here ts) (sym (or_false line)) lexes)
gaps_back at line (g ∷ gap) here ts all lexes =
    let is : is_gap g ≡ true = grind (arith, common_steps) in
    let more : list_all is_gap gap ≡ true = grind (arith, common_steps) in
    let there = gaps_back (at + 1) (line || g == 10) gap here ts more (gap_back at g line (gap ++ here) ts is lexes) in
    subst (λ n. Lexes n (line || (g == 10 || list_any (λ c. c == 10) gap)) here ts) (omega arith)
    (subst (λ l. Lexes ((at + 1) + length gap) l here ts) (or_assoc line (g == 10) (list_any (λ c. c == 10) gap)) there)

last_gap : (gap : List ℕ) (h : ℕ) (hs : List ℕ) → list_all is_gap (gap ++ (h ∷ hs)) ≡ true → is_gap h ≡ true
last_gap [] h hs all = grind (arith, common_steps)
last_gap (g ∷ gap) h hs all = last_gap gap h hs (grind (arith, common_steps))

-- the tokens of a text are its only ones
pub at_most_one : (at : ℕ) (line : Bool) (bytes : List ℕ) (a b : List FirstLexeme) → Lexes at line bytes a → Lexes at line bytes b → a ≡ b
at_most_one at line bytes [] b all lexes = nothing b lexes
  where
    nothing : (b : List FirstLexeme) → Lexes at line bytes b → [] ≡ b
    nothing [] lexes = refl
    nothing (first ∷ ts) (after, begin, more) = absurd (stops begin.gap begin.here begin.split begin.stands)
      where
        stops : (gap here : List ℕ) → bytes ≡ gap ++ here → IsAtFront first.token here after → ⊥
        stops gap [] split st = stands-some first.token after st
        stops gap (h ∷ hs) split st =
            let whole_gap : list_all is_gap (gap ++ (h ∷ hs)) ≡ true = ap (list_all is_gap) (sym split) ∙ all in
            let is : is_gap h ≡ true = last_gap gap h hs whole_gap in
            true≢false (sym is ∙ stands-no_gap first.token h hs after st)
at_most_one at line bytes (first ∷ firsts) b (after, begin, more) lexes =
    let there = gaps_back at line begin.gap begin.here b begin.is_gap (subst (λ x. Lexes at line x b) begin.split lexes) in
    let lens : length bytes ≡ length begin.gap + length begin.here = ap length begin.split ∙ length-append begin.gap begin.here in
    let goes = token_back first.token (at + length begin.gap) first.to (line || list_any (λ c. c == 10) begin.gap) begin.here after b begin.stands (omega (arith, lens, begin.to)) there in
    let it : first ≡ placed first.token (at + length begin.gap) first.to (line || list_any (λ c. c == 10) begin.gap)
    = λ i. record { token = first.token; from = begin.from i; to = first.to; after_line = begin.after_line i } in
    ap₂ (λ x xs. x ∷ xs) it (at_most_one first.to false after firsts goes.more more goes.lexes) ∙ sym goes.first
