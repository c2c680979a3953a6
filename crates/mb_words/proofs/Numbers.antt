-- Numbers that are too large.
use Rattle.std.proofs.Common.{◌≡◌, ◌∙◌, ap, refl, ℕ, ◌+◌, ◌<◌, ◌≤◌, ◌^◌, Bool, true, false, ◌&&◌, not, nat_eq, nat_le, [], ◌∷◌, length, take, Option, Some, None, if◌then◌else◌, arith, eqb-true}
use Rattle.std.specs.List.{list_all, position}
use Rattle.std.specs.Int.{IsInRange}
use Rattle.std.specs.Char.{digit_value}
use Rattle.std.specs.Str.Parse.{AllDigits, IsNumeral, digits_value, without_leading_plus}
use Rattle.std.proofs.lemmas.Bool.{leb-true, ltb-true, lt-ltb, le-ltb}
use Rattle.std.proofs.lemmas.Str.{digit_value_digit}
use Rattle.clap.proofs.WalkLemmas.{both}
use Rattle.mb_words.specs.declared.command.Command.{Command}
use Rattle.mb_words.specs.Words.{Word}
use Rattle.mb_words.specs.Values.{is_digit, is_number, number_of, is_letter, past_the_most, first_of, schedule_fault}

in_range : (b : ℕ) → is_digit b ≡ true → IsInRange 48 57 b
in_range b e = (leb-true _ _ (both _ _ e).0, leb-true _ _ (both _ _ e).1)

below_ten : (b : ℕ) → is_digit b ≡ true → digit_value b < 10
below_ten b e =
    let within : IsInRange 48 57 b = in_range b e in
    let is : digit_value b + 48 ≡ b = digit_value_digit b within in
    omega arith

all_digits : (bs : Word) → list_all is_digit bs ≡ true → AllDigits 10 bs
all_digits [] e = tt
all_digits (b ∷ bs) e = (below_ten b (both _ _ e).0, all_digits bs (both _ _ e).1)

no_plus : (b : ℕ) (x : Bool) → nat_eq b 43 ≡ x → is_digit b ≡ true → nat_eq b 43 ≡ false
no_plus b true is e =
    let within : IsInRange 48 57 b = in_range b e in
    let same : b ≡ 43 = eqb-true _ _ is in
    absurd (omega arith)
no_plus b false is e = is

abbrev NumeralAsItStands : Word → Type 0
NumeralAsItStands word = IsNumeral 10 word × (without_leading_plus word ≡ word)

numeral : (word : Word) → is_number word ≡ true → NumeralAsItStands word
numeral [] e = cc
numeral (b ∷ bs) e =
    let digits = (both _ _ (both _ _ e).1).0 in
    let plain : nat_eq b 43 ≡ false = no_plus b _ refl (both _ _ digits).0 in
    ((ltb-true _ _ (both _ _ e).0, all_digits (b ∷ bs) digits), rw plain refl)

none_of : (a b c : Bool) (n : ℕ) → c ≡ false → None ≡ (if a && (b && c) then Some n else None)
none_of false b c n e = refl
none_of true false c n e = refl
none_of true true true n e = cc
none_of true true false n e = refl

above : (n high : ℕ) (x : Bool) → nat_le n high ≡ x → (n < 2 ^ 32 → ⊥) → high < 2 ^ 32 → nat_le n high ≡ false
above n high true is small fits =
    let le : n ≤ high = leb-true _ _ is in
    absurd (small (omega arith))
above n high false is small fits = is

pub too_large : (least most : ℕ) (word : Word) → is_number word ≡ true
    → ¬ (IsNumeral 10 (without_leading_plus word) × (digits_value 10 (without_leading_plus word) < 2 ^ 32))
    → most < 2 ^ 32
    → None ≡ number_of least most word
too_large least most word e h fits =
    let n = numeral word e in
    let small : (digits_value 10 word < 2 ^ 32) → ⊥ = λ lt. (rw n.1 at h) (n.0, lt) in
    none_of (is_number word) (nat_le least (digits_value 10 word)) _ (digits_value 10 word)
    (above (digits_value 10 word) most _ refl small fits)

pub told : (command : Command) (sides : ℕ) (letters word : Word) (o : Option ℕ) → letters ≡ word
    → o ≡ position (λ b. not (is_letter command sides b)) (take 10000 letters)
    → first_of o (past_the_most letters) ≡ schedule_fault command sides word
told command sides letters word o e is =
    ap (λ (found : Option ℕ). first_of found (past_the_most letters)) is ∙ ap (schedule_fault command sides) e

pub past : (word : Word) → 10000 < length word → Some 10000 ≡ past_the_most word
past word lt = rw (lt-ltb _ _ lt) refl

pub within : (word : Word) → length word ≤ 10000 → None ≡ past_the_most word
within word le = rw (le-ltb _ _ le) refl
