-- The index of the names of a scope.
use Rattle.std.proofs.Common.{◌≡◌, ℕ, ◌<◌, ◌+◌, List, [], ◌∷◌, ◌++◌, length, slice_get, slice_set, Option, Some, None, true, arith, length-set, refl, sym, ◌∙◌, ap, take, get_or}
use Rattle.std.specs.Prelude.{position}
use Rattle.std.specs.List.{position_or_len}
use Rattle.std.proofs.lemmas.Bool.{eqb-true}
use Rattle.std.proofs.lemmas.Bool.Decides.{nat_tests}
use Rattle.std.proofs.lemmas.List.{take_more}
use Rattle.std.proofs.lemmas.List.Folds.{position_or_len-set}
use Rattle.std.proofs.lemmas.Option.{get_or_from_slice_get}
use Rattle.mb_base.specs.declared.value.StrId.{StrId}
use Rattle.mb_base.specs.declared.value.Value.{Value}
use Rattle.mb_world.specs.declared.scope.Bound.{Bound}
use Rattle.mb_world.specs.Data.{has_name, give_at, give_if, given_value}
use Rattle.mb_world.specs.Long.{same_id}
use Rattle.mb_world.specs.machine.Firsts.{or_if}
use Rattle.mb_world.specs.machine.Places.{placed, ArePlaces, IsPlaced}
use Rattle.mb_world.proofs.Firsts.{position-push}

pub same_id-equal : (a b : StrId) → same_id a b ≡ true → a ≡ b
same_id-equal a b h = ap (λ n. let id : StrId = record { 0 = n } in id) (eqb-true a.0 b.0 h)

pub same_id-same : (a : StrId) → same_id a a ≡ true
same_id-same a = grind (arith, nat_tests)

-- one more name, noted at the end
pub placed-push : (names : List Bound) (b : Bound) (places : List (StrId × ℕ)) → ((n : StrId) → placed places n ≡ or_if (same_id n b.name) (length names) (position (has_name n) names)) → ArePlaces (names ++ b ∷ []) places
placed-push names b places h n = h n ∙ sym (position-push (has_name n) names b)

-- the step of the loop that makes an index
pub placed-step : (names : List Bound) (i : ℕ) (b : Bound) (old new : List (StrId × ℕ)) → i < length names → b ≡ get_or names i b → length (take i names) ≡ i → ((n : StrId) → placed new n ≡ or_if (same_id n b.name) i (placed old n)) → ArePlaces (take i names) old → ArePlaces (take (i + 1) names) new
placed-step names i b old new l e k f h n =
    rw (take_more names i b l, ← e)
    (f n ∙ ap (or_if (same_id n b.name) i) (h n) ∙ ap (λ m. or_if (same_id n b.name) m (position (has_name n) (take i names))) (sym k) ∙ sym (position-push (has_name n) (take i names) b))

-- a value that is given moves no name
pub placed-give : (names : List Bound) (place : ℕ) (x : Value) (places : List (StrId × ℕ)) → IsPlaced names places → IsPlaced (give_at place x names) places
placed-give names place x places h = by (slice_get names place) refl
  where
    by : (o : Option Bound) → slice_get names place ≡ o → IsPlaced (give_if place x names o) places
    by None e = h
    by (Some b) e = λ l n.
        let m : length (slice_set names place (given_value x b)) ≡ length names = length-set names place (given_value x b) in
        let q : has_name n (given_value x b) ≡ has_name n (get_or names place b) = ap (has_name n) (sym (get_or_from_slice_get names place b b e)) in
        let p : position_or_len (has_name n) (slice_set names place (given_value x b)) ≡ position_or_len (has_name n) names = position_or_len-set (has_name n) names place (given_value x b) b q in
        rw (p, m) (h (rw m at l) n)
