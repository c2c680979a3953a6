-- Lists of keys in ascending order.
use Rattle.std.proofs.Common.{◌≡◌, true≢false, ℕ, ◌+◌, ◌<◌, ◌≤◌, suc, arith, Bool, true, false, List, [], ◌∷◌, length, get_or, Option, Some, Result, Ok, Err, is_ok, refl, sym, ap, ◌∙◌, inl, inr, ◌⊎◌}
use Rattle.std.proofs.lemmas.Bool.{cases_lt}
use Rattle.std.proofs.lemmas.List.Elements.{All-from_all_within}
use Rattle.std.proofs.lemmas.List.Folds.{list_any_at, list_any_none}
use Rattle.std.proofs.lemmas.List.Sorted.{searchable_from_sorted}
use Rattle.std.specs.Cmp.{IsTotalOrder}
use Rattle.std.specs.declared.cmp.Ordering.{Ordering}
use Rattle.std.specs.declared.cmp.Ordering.TheVariants.{Less, Equal, Greater}
use Rattle.std.specs.Ordering.{is_eq, is_le, is_lt, is_some_and, ordering_reverse}
use Rattle.std.specs.List.{list_any, AllAdjacentBelow, IsAllAdjacentAnswer}
use Rattle.std.specs.List.Sorted.{IsSorted, IsBinarySearchResult, IsPartitionPoint, IsSearchInRange}

-- neighbours that don't descend make a list that ascends
pub ascending : {K : Type 0} (R : K → K → Ordering) (C : K → K → Option Ordering) → IsTotalOrder R → ((x y : K) → C x y ≡ Some (R x y)) → (keys : List K)
    → AllAdjacentBelow (λ x y. is_some_and is_le (C x y) ≡ true) keys (length keys) → IsSorted R keys
ascending R C total agrees keys up = λ k d low below. not_less (R (get_or keys k d) (get_or keys (k + 1) d)) (R (get_or keys (k + 1) d) (get_or keys k d)) (sym (ap (is_some_and is_le) (agrees (get_or keys k d) (get_or keys (k + 1) d))) ∙ up k d below) (total.antisymm (get_or keys (k + 1) d) (get_or keys k d))
  where
    not_less : (r s : Ordering) → is_le r ≡ true → s ≡ ordering_reverse r → is_lt s ≡ false
    not_less Less s h e = ap is_lt e
    not_less Equal s h e = ap is_lt e
    not_less Greater s h e = cc

-- and a list that ascends has no others
pub ascending_found : {K : Type 0} (R : K → K → Ordering) (C : K → K → Option Ordering) → IsTotalOrder R → ((x y : K) → C x y ≡ Some (R x y)) → (keys : List K) (answer : Bool)
    → IsAllAdjacentAnswer (λ x y b. is_some_and is_le (C x y) ≡ b) keys answer → IsSorted R keys → answer ≡ true
ascending_found R C total agrees keys true down up = refl
ascending_found R C total agrees [] false down up = absurd (omega (arith, down.1))
ascending_found R C total agrees (x ∷ xs) false down up =
    let k = down.0 in
    let one = get_or (x ∷ xs) k x in
    let next = get_or (x ∷ xs) (k + 1) x in
    absurd (greater (R one next) (R next one) (sym (ap (is_some_and is_le) (agrees one next)) ∙ down.2 x) (total.antisymm next one) (up k x (omega arith) down.1))
  where
    greater : (r s : Ordering) → is_le r ≡ false → s ≡ ordering_reverse r → is_lt s ≡ false → ⊥
    greater Less s h e f = true≢false h
    greater Equal s h e f = true≢false h
    greater Greater s h e f = true≢false (sym (ap is_lt e) ∙ f)

-- what stands behind the first of ascending keys ascends
pub ascending-tail : {K : Type 0} (R : K → K → Ordering) (key : K) (keys : List K) → IsSorted R (key ∷ keys) → IsSorted R keys
ascending-tail R key keys up = λ k d low below. let next : suc k + 1 ≡ suc (k + 1) = omega arith in rw next at (up (suc k) d (omega arith) (omega (arith, below)))

module _ {K : Type 0} (eq : K → K → Bool) (R : K → K → Ordering) (total : IsTotalOrder R) (ties : (x y : K) → eq x y ≡ is_eq (R x y)) where
  apart : (there key : K) → (R there key ≡ Less) ⊎ (R there key ≡ Greater) → eq there key ≡ false
  apart there key (inl e) = ties there key ∙ ap is_eq e
  apart there key (inr e) = ties there key ∙ ap is_eq e

  -- a binary search finds a key exactly where it is one of the ascending keys
  pub searched : (keys : List K) (key : K) (answer : Result ℕ ℕ) → IsSorted R keys → IsSearchInRange answer (length keys)
      → IsBinarySearchResult (λ there. R there key) keys answer → is_ok answer ≡ list_any (λ there. eq there key) keys
  searched keys key (Ok i) up within found =
      sym (list_any_at (λ there. eq there key) keys i key within (ties (get_or keys i key) key ∙ ap is_eq (found key)))
  searched keys key (Err i) up within found =
      let parts = found (searchable_from_sorted total (λ x. x) keys key up) in
      sym (list_any_none (λ there. eq there key) keys (All-from_all_within (λ there. eq there key ≡ false) keys (λ k d low below. by k d (cases_lt k i) parts below)))
    where
      by : (k : ℕ) (d : K) → (k < i) ⊎ (i ≤ k) → IsPartitionPoint (λ there. R there key ≡ Less) (λ there. R there key ≡ Greater) keys i → k < length keys → eq (get_or keys k d) key ≡ false
      by k d (inl before) parts below = apart (get_or keys k d) key (inl (parts.0 k d (omega arith) before))
      by k d (inr behind) parts below = apart (get_or keys k d) key (inr (parts.1 k d behind below))
