-- A plain text is spelled as itself, and a whole number's text is plain.
use Rattle.std.proofs.Common.{◌≡◌, ◌≢◌, ℕ, suc, ◌<◌, ◌≤◌, ◌^◌, Bool, true, false, ◌&&◌, List, [], ◌∷◌, ◌++◌, if◌then◌else◌, encode_utf8, ℤ, pos, negsuc, refl, ap, ap₂, ◌∙◌, arith}
use Rattle.std.proofs.lemmas.Bool.Decides.{nat_tests}
use Rattle.std.proofs.lemmas.Fmt.{decimal_is_IsNumeral}
use Rattle.std.proofs.lemmas.Str.{encode_ascii}
use Rattle.std.proofs.lemmas.Str.Parse.{digit_from_value}
use Rattle.std.specs.Char.Utf16.{is_high_surrogate, is_low_surrogate, surrogate_pair_char}
use Rattle.std.specs.Fmt.{decimal, signed_decimal}
use Rattle.std.specs.Int.{IsInRange}
use Rattle.std.specs.Int.Signed.{mag}
use Rattle.std.specs.List.{list_all}
use Rattle.std.specs.Str.Parse.{AllDigits}
use Rattle.mb_text.specs.Spelling.{is_plain, spelled, spelled_unit}

both : (a b : Bool) → (a && b) ≡ true → (a ≡ true) × (b ≡ true)
both true b h = (refl, h)
both false b h = cc

pub record Plain (u : ℕ) : Type 0 where
  pub from : 32 ≤ u
  pub to : u ≤ 126
  pub no_quote : u ≢ 34
  pub no_backslash : u ≢ 92

plain_facts : (u : ℕ) → is_plain u ≡ true → Plain u
plain_facts u h = grind (arith, nat_tests, h)

unit_is_itself : (quoted : Bool) (u : ℕ) → Plain u → spelled_unit quoted u ≡ u ∷ []
unit_is_itself quoted u h = grind (arith, nat_tests, encode_ascii u, h.from, h.to, h.no_quote, h.no_backslash)

not_high : (u : ℕ) → Plain u → is_high_surrogate u ≡ false
not_high u h = grind (arith, nat_tests, h.to)

pub spelled-plain : (quoted : Bool) (units : List ℕ) → list_all is_plain units ≡ true → spelled quoted units ≡ units
spelled-plain quoted [] h = refl
spelled-plain quoted (u ∷ []) h = unit_is_itself quoted u (plain_facts u (both _ _ h).0)
spelled-plain quoted (u ∷ v ∷ us) h =
    let here = plain_facts u (both _ _ h).0 in
    let rest : spelled quoted (v ∷ us) ≡ v ∷ us = spelled-plain quoted (v ∷ us) (both _ _ h).1 in
    ap (λ b. if b && is_low_surrogate v then encode_utf8 (surrogate_pair_char u v) ++ spelled quoted us else spelled_unit quoted u ++ spelled quoted (v ∷ us)) (not_high u here)
    ∙ ap₂ (λ a b. a ++ b) (unit_is_itself quoted u here) rest

plain_digit : (c : ℕ) → IsInRange 48 57 c → is_plain c ≡ true
plain_digit c h = grind (arith, nat_tests, h)

plain_digits : (ds : List ℕ) → AllDigits 10 ds → list_all is_plain ds ≡ true
plain_digits [] h = refl
plain_digits (c ∷ cs) h = rw (plain_digit c (digit_from_value c h.0), plain_digits cs h.1) refl

pub plain-decimal : (n : ℕ) → n < 2 ^ 64 → list_all is_plain (decimal n) ≡ true
plain-decimal n h = plain_digits (decimal n) (decimal_is_IsNumeral n h).0.1

pub plain-signed_decimal : (z : ℤ) → mag z < 2 ^ 63 → list_all is_plain (signed_decimal z) ≡ true
plain-signed_decimal (pos n) h = plain-decimal n (omega arith)
plain-signed_decimal (negsuc n) h = plain-decimal (suc n) (omega arith)
