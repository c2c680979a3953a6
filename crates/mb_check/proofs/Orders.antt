-- Lists of keys in another order.
use Rattle.std.proofs.Common.{◌≡◌, Bool, true, false, not, ◌&&◌, List, [], ◌∷◌, ◌++◌, refl, ap, ◌∙◌}
use Rattle.std.proofs.lemmas.Bool.{and_parts, and_from, or_parts, or_from, not-true, not_from_false}
use Rattle.std.proofs.lemmas.List.Sorted.{IsPermutation-sym, IsPermutation-append, All-permutation, list_any-IsPermutation}
use Rattle.std.proofs.lemmas.List.Sums.{AllPass-from_list_all, list_all-from_AllPass}
use Rattle.std.proofs.lemmas.Map.Keys.{IsDistinct-IsPermutation, IsDistinct-head, IsDistinct-tail, IsDistinct-cons}
use Rattle.std.specs.Cmp.{IsEquivalence, both_ways}
use Rattle.std.specs.List.{list_all, list_any, IsDistinct, AllByRecursion}
use Rattle.std.specs.List.Sorted.{IsPermutation}
use Rattle.mb_check.specs.Keys.{is_among, all_among, are_distinct}
use Rattle.mb_check.specs.Laws.{AlikeInAnyOrder}
use Rattle.mb_check.specs.Rules.{first_broken}

list_all-IsPermutation : {K : Type 0} (p : K → Bool) (xs ys : List K) → IsPermutation xs ys → list_all p xs ≡ list_all p ys
list_all-IsPermutation p xs ys moved =
    both_ways (list_all p xs) (list_all p ys)
    (λ h. list_all-from_AllPass p ys (All-permutation (λ x. p x ≡ true) xs ys moved (AllPass-from_list_all p xs h)))
    (λ h. list_all-from_AllPass p xs (All-permutation (λ x. p x ≡ true) ys xs (IsPermutation-sym xs ys moved) (AllPass-from_list_all p ys h)))

-- no element passes a test, by an answer for the list or for each
none_by_recursion : {K : Type 0} (p : K → Bool) (xs : List K) → list_any p xs ≡ false → AllByRecursion (λ x. p x ≡ false) xs
none_by_recursion p [] h = tt
none_by_recursion p (x ∷ xs) h = let parts = or_parts (p x) (list_any p xs) h in (parts.0, none_by_recursion p xs parts.1)

any_by_recursion : {K : Type 0} (p : K → Bool) (xs : List K) → AllByRecursion (λ x. p x ≡ false) xs → list_any p xs ≡ false
any_by_recursion p [] h = refl
any_by_recursion p (x ∷ xs) h = or_from (p x) (list_any p xs) h.0 (any_by_recursion p xs h.1)

module _ {K : Type 0} (same : K → K → Bool) (laws : IsEquivalence same) where
  all_among-IsPermutation : (keys keys' others others' : List K) → IsPermutation keys keys' → IsPermutation others others' → all_among same keys others ≡ all_among same keys' others'
  all_among-IsPermutation keys keys' others others' moved moved' =
      ap (λ test. list_all test keys) (λ i key. list_any-IsPermutation (λ there. same there key) others others' moved' i)
      ∙ list_all-IsPermutation (λ key. is_among same key others') keys keys' moved

  distinct-from : (keys : List K) → are_distinct same keys ≡ true → IsDistinct (λ x y. same y x) keys
  unfolding IsDistinct
  distinct-from [] h = tt
  distinct-from (key ∷ keys) h =
      let parts = and_parts (not (is_among same key keys)) (are_distinct same keys) h in
      IsDistinct-cons (λ x y. same y x) key keys (none_by_recursion (λ there. same there key) keys (not-true (is_among same key keys) parts.0)) (distinct-from keys parts.1)

  distinct-to : (keys : List K) → IsDistinct (λ x y. same y x) keys → are_distinct same keys ≡ true
  distinct-to [] h = refl
  distinct-to (key ∷ keys) h =
      and_from (not (is_among same key keys)) (are_distinct same keys)
      (not_from_false (is_among same key keys) (any_by_recursion (λ there. same there key) keys (IsDistinct-head (λ x y. same y x) key keys h)))
      (distinct-to keys (IsDistinct-tail (λ x y. same y x) key keys h))

  are_distinct-IsPermutation : (keys keys' : List K) → IsPermutation keys keys' → are_distinct same keys ≡ are_distinct same keys'
  are_distinct-IsPermutation keys keys' moved =
      both_ways (are_distinct same keys) (are_distinct same keys')
      (λ h. distinct-to keys' (IsDistinct-IsPermutation (λ x y. same y x) (λ x y. laws.symm y x) keys keys' moved (distinct-from keys h)))
      (λ h. distinct-to keys (IsDistinct-IsPermutation (λ x y. same y x) (λ x y. laws.symm y x) keys' keys (IsPermutation-sym keys keys' moved) (distinct-from keys' h)))

  pub alike_in_any_order : AlikeInAnyOrder same
  alike_in_any_order said said' fixed fixed' loose loose' extensible a b c =
      let own = IsPermutation-append fixed fixed' loose loose' b c in
      λ i. first_broken (
      (not (are_distinct-IsPermutation said said' a i), 21)
      ∷ (not (all_among-IsPermutation fixed fixed' said said' b a i), 22)
      ∷ (not extensible && not (all_among-IsPermutation (fixed ++ loose) (fixed' ++ loose') said said' own a i && all_among-IsPermutation said said' (fixed ++ loose) (fixed' ++ loose') a own i), 23) ∷ [])
