-- Options put one after the other, and what a list of options gives.
use Rattle.std.proofs.Common.{◌≡◌, ◌∙◌, ap, refl, ℕ, ◌+◌, Bool, true, false, ◌&&◌, ◌||◌, nat_le, List, [], ◌∷◌, Option, Some, None, is_some, if◌then◌else◌, arith}
use Rattle.std.proofs.lemmas.Bool.{lt-leb}
use Rattle.std.specs.Prelude.{option_and_then}
use Rattle.std.proofs.lemmas.List.Recursion.{is_count_by}
use Rattle.mb_words.specs.declared.command.OptionName.{OptionName}
use Rattle.mb_words.specs.declared.command.OptionName.TheVariants.{Policy, Schedule, Budget, Trace}
use Rattle.mb_words.specs.Words.{Word}
use Rattle.mb_words.specs.Parts.{Given, is_of, times, value_of, each_once}
use Rattle.mb_words.specs.machine.Scanning.{Slots, put, empty}

abbrev pub put_all : List Given → Slots → Option Slots
put_all [] s = Some s
put_all (o ∷ os) s = option_and_then (put_all os) (put o.0 o.1 s)

abbrev count : OptionName → List Given → ℕ
count name [] = 0
count name (o ∷ os) = if is_of name o then 1 + count name os else count name os

abbrev total : Bool → ℕ → ℕ
total false n = n
total true n = 1 + n

abbrev fit : Bool → ℕ → Bool
fit given n = nat_le (total given n) 1

abbrev pub or_else : Option Word → Option Word → Option Word
or_else None other = other
or_else (Some v) other = Some v

abbrev all_fit : List Given → Option Word → Option Word → Option Word → Bool → Bool
all_fit os p s b t = fit (is_some p) (count Policy os)
    && (fit (is_some s) (count Schedule os) && (fit (is_some b) (count Budget os) && fit t (count Trace os)))

abbrev pub merged : List Given → Option Word → Option Word → Option Word → Bool → Slots
merged os p s b t = record {
  policy = or_else p (value_of Policy os);
  schedule = or_else s (value_of Schedule os);
  budget = or_else b (value_of Budget os);
  traced = t || is_some (value_of Trace os);
}

abbrev slots : Option Word → Option Word → Option Word → Bool → Slots
slots p s b t = record { policy = p; schedule = s; budget = b; traced = t }

abbrev where_fit : Bool → Slots → Option Slots
where_fit fits s = if fits then Some s else None

twice : (k : ℕ) → nat_le (1 + (1 + k)) 1 ≡ false
twice k = lt-leb (1 + (1 + k)) 1 (omega arith)

no_first : (x b c d : Bool) (s : Slots) → x ≡ false → None ≡ where_fit (x && (b && (c && d))) s
no_first true b c d s e = cc
no_first false b c d s e = refl

no_second : (a x c d : Bool) (s : Slots) → x ≡ false → None ≡ where_fit (a && (x && (c && d))) s
no_second false x c d s e = refl
no_second true true c d s e = cc
no_second true false c d s e = refl

no_third : (a b x d : Bool) (s : Slots) → x ≡ false → None ≡ where_fit (a && (b && (x && d))) s
no_third false b x d s e = refl
no_third true false x d s e = refl
no_third true true true d s e = cc
no_third true true false d s e = refl

no_fourth : (a b c x : Bool) (s : Slots) → x ≡ false → None ≡ where_fit (a && (b && (c && x))) s
no_fourth false b c x s e = refl
no_fourth true false c x s e = refl
no_fourth true true false x s e = refl
no_fourth true true true true s e = cc
no_fourth true true true false s e = refl

-- the options are put exactly where none is given twice, with what was there
puts : (os : List Given) (p s b : Option Word) (t : Bool)
    → put_all os (slots p s b t) ≡ where_fit (all_fit os p s b t) (merged os p s b t)
puts [] None None None false = refl
puts [] None None None true = refl
puts [] None None (Some b) false = refl
puts [] None None (Some b) true = refl
puts [] None (Some s) None false = refl
puts [] None (Some s) None true = refl
puts [] None (Some s) (Some b) false = refl
puts [] None (Some s) (Some b) true = refl
puts [] (Some p) None None false = refl
puts [] (Some p) None None true = refl
puts [] (Some p) None (Some b) false = refl
puts [] (Some p) None (Some b) true = refl
puts [] (Some p) (Some s) None false = refl
puts [] (Some p) (Some s) None true = refl
puts [] (Some p) (Some s) (Some b) false = refl
puts [] (Some p) (Some s) (Some b) true = refl
puts ((Policy, v) ∷ os) None s b t = puts os (Some v) s b t
puts ((Policy, v) ∷ os) (Some p) s b t =
    no_first (fit true (1 + count Policy os)) (fit (is_some s) (count Schedule os)) (fit (is_some b) (count Budget os))
    (fit t (count Trace os)) (merged ((Policy, v) ∷ os) (Some p) s b t) (twice (count Policy os))
puts ((Schedule, v) ∷ os) p None b t = puts os p (Some v) b t
puts ((Schedule, v) ∷ os) p (Some s) b t =
    no_second (fit (is_some p) (count Policy os)) (fit true (1 + count Schedule os)) (fit (is_some b) (count Budget os))
    (fit t (count Trace os)) (merged ((Schedule, v) ∷ os) p (Some s) b t) (twice (count Schedule os))
puts ((Budget, v) ∷ os) p s None t = puts os p s (Some v) t
puts ((Budget, v) ∷ os) p s (Some b) t =
    no_third (fit (is_some p) (count Policy os)) (fit (is_some s) (count Schedule os)) (fit true (1 + count Budget os))
    (fit t (count Trace os)) (merged ((Budget, v) ∷ os) p s (Some b) t) (twice (count Budget os))
puts ((Trace, v) ∷ os) p s b false = puts os p s b true
puts ((Trace, v) ∷ os) p s b true =
    no_fourth (fit (is_some p) (count Policy os)) (fit (is_some s) (count Schedule os)) (fit (is_some b) (count Budget os))
    (fit true (1 + count Trace os)) (merged ((Trace, v) ∷ os) p s b true) (twice (count Trace os))

counts : (name : OptionName) (os : List Given) → count name os ≡ times name os
counts name os = is_count_by (count name) (is_of name) refl (λ o rest. refl) os

fits : (os : List Given) → all_fit os None None None false ≡ each_once os
fits os = rw (counts Policy os, counts Schedule os, counts Budget os, counts Trace os) refl

pub puts_all : (os : List Given) → put_all os empty ≡ (if each_once os then Some (merged os None None None false) else None)
puts_all os = puts os None None None false ∙ ap (λ (b : Bool). where_fit b (merged os None None None false)) (fits os)
