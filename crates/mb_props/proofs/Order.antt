-- The order of own keys.
use Rattle.std.proofs.Common.{◌≡◌, ℕ, suc, ◌-◌, ◌^◌, ◌<◌, ◌≤◌, Bool, true, false, not, ◌&&◌, nat_eq, nat_lt, List, [], ◌∷◌, ◌++◌, length, get_or, if◌then◌else◌, refl, sym, ◌∙◌, ap, arith, nat_cmp, is_lt, append-nil, subst}
use Rattle.std.specs.List.{filter}
use Rattle.std.specs.List.Sorted.{IsPermutation, IsNonDecreasingBy, IsStableByKey}
use Rattle.std.proofs.lemmas.Bool.{eqb-true, eqb-false, ne_eqb, eq-eqb, ltb-true, ltb-false}
use Rattle.std.proofs.lemmas.List.Elements.{filter-append, filter_passes}
use Rattle.std.proofs.lemmas.List.Sorted.{IsPermutation-trans, IsPermutation-append_left, IsPermutation-filter_both, All-permutation}
use Rattle.mb_base.specs.declared.value.Key.{Key}
use Rattle.mb_base.specs.declared.value.Key.TheVariants.{Text, Symbol}
use Rattle.mb_base.specs.declared.value.StrId.{StrId}
use Rattle.mb_props.specs.KeyOrder.{index_of, has_index, is_array_index, is_name, is_symbol, array_indices, names, symbols, IsInKeyOrder, KeyOrderIsOne}

module _ {X : Type 0} where
  pub filter-same : (p q : X → Bool) → ((x : X) → p x ≡ q x) → (xs : List X) → filter p xs ≡ filter q xs
  filter-same p q h xs = let e : p ≡ q = λ i x. h x i in ap (λ (t : X → Bool). filter t xs) e

  pub filter-none : (p : X → Bool) → ((x : X) → p x ≡ false) → (xs : List X) → filter p xs ≡ []
  filter-none p h [] = refl
  filter-none p h (x ∷ xs) = let e : p x ≡ false = h x in rw e (filter-none p h xs)

  pub filter-both : (p q : X → Bool) (xs : List X) → filter p (filter q xs) ≡ filter (λ x. q x && p x) xs
  filter-both p q [] = refl
  filter-both p q (x ∷ xs) = by (q x) refl (filter-both p q xs)
    where
      by : (b : Bool) → q x ≡ b → filter p (filter q xs) ≡ filter (λ x. q x && p x) xs → filter p (filter q (x ∷ xs)) ≡ filter (λ x. q x && p x) (x ∷ xs)
      by true t rest = rw t (ap (λ (r : List X). if p x then x ∷ r else r) rest)
      by false t rest = rw t rest

  -- two lists that rise by n and have the same elements at each n, in one order, are one
  none_below : (n : X → ℕ) (xs : List X) (i : ℕ) → ((k : ℕ) (d : X) → k < length xs → i < n (get_or xs k d)) → filter (λ x. nat_eq (n x) i) xs ≡ []
  none_below n [] i h = refl
  none_below n (x ∷ xs) i h =
      let t : nat_eq (n x) i ≡ false = ne_eqb (n x) i (let l : i < n x = h 0 x (omega arith) in omega arith) in
      rw t (none_below n xs i (λ k d below. h (suc k) d (omega arith)))

  rises-tail : (n : X → ℕ) (x : X) (xs : List X) → IsNonDecreasingBy n (x ∷ xs) → IsNonDecreasingBy n xs
  rises-tail n x xs h = λ i j d le below. h (suc i) (suc j) d (omega arith) (omega arith)

  not_less : (n : X → ℕ) (x y : X) (xs ys : List X) → IsNonDecreasingBy n (y ∷ ys) → filter (λ z. nat_eq (n z) (n x)) (x ∷ xs) ≡ filter (λ z. nat_eq (n z) (n x)) (y ∷ ys) → n y ≤ n x
  not_less n x y xs ys rise same = by (nat_lt (n x) (n y)) refl
    where
      by : (b : Bool) → nat_lt (n x) (n y) ≡ b → n y ≤ n x
      by true t =
          let less : n x < n y = ltb-true _ _ t in
          let none : filter (λ z. nat_eq (n z) (n x)) (y ∷ ys) ≡ [] = none_below n (y ∷ ys) (n x) (λ k d below. let up : n (get_or (y ∷ ys) 0 d) ≤ n (get_or (y ∷ ys) k d) = rise 0 k d (omega arith) below in omega arith) in
          let here : nat_eq (n x) (n x) ≡ true = eq-eqb (n x) (n x) refl in
          let some : x ∷ filter (λ z. nat_eq (n z) (n x)) xs ≡ [] = rw here at (same ∙ none) in
          cc
      by false t = ltb-false _ _ t

  tail_same : (n : X → ℕ) (x y : X) (xs ys : List X) → n x ≡ n y → (i : ℕ) → filter (λ z. nat_eq (n z) i) (x ∷ xs) ≡ filter (λ z. nat_eq (n z) i) (y ∷ ys) → filter (λ z. nat_eq (n z) i) xs ≡ filter (λ z. nat_eq (n z) i) ys
  tail_same n x y xs ys e i same = by (nat_eq (n x) i) refl
    where
      by : (b : Bool) → nat_eq (n x) i ≡ b → filter (λ z. nat_eq (n z) i) xs ≡ filter (λ z. nat_eq (n z) i) ys
      by true t =
          let u : nat_eq (n y) i ≡ true = ap (λ m. nat_eq m i) (sym e) ∙ t in
          let s : x ∷ filter (λ z. nat_eq (n z) i) xs ≡ y ∷ filter (λ z. nat_eq (n z) i) ys = rw (t, u) at same in
          cc
      by false t =
          let u : nat_eq (n y) i ≡ false = ap (λ m. nat_eq m i) (sym e) ∙ t in
          rw (t, u) at same

  head_same : (n : X → ℕ) (x y : X) (xs ys : List X) → n x ≡ n y → filter (λ z. nat_eq (n z) (n x)) (x ∷ xs) ≡ filter (λ z. nat_eq (n z) (n x)) (y ∷ ys) → x ≡ y
  head_same n x y xs ys e same =
      let t : nat_eq (n x) (n x) ≡ true = eq-eqb (n x) (n x) refl in
      let u : nat_eq (n y) (n x) ≡ true = eq-eqb (n y) (n x) (sym e) in
      let s : x ∷ filter (λ z. nat_eq (n z) (n x)) xs ≡ y ∷ filter (λ z. nat_eq (n z) (n x)) ys = rw (t, u) at same in
      cc

  pub rising_is_one : (n : X → ℕ) (xs ys : List X) → IsNonDecreasingBy n xs → IsNonDecreasingBy n ys → ((i : ℕ) → filter (λ z. nat_eq (n z) i) xs ≡ filter (λ z. nat_eq (n z) i) ys) → xs ≡ ys
  rising_is_one n [] [] rise up same = refl
  rising_is_one n [] (y ∷ ys) rise up same =
      let t : nat_eq (n y) (n y) ≡ true = eq-eqb (n y) (n y) refl in
      let s : [] ≡ y ∷ filter (λ z. nat_eq (n z) (n y)) ys = rw t at (same (n y)) in
      cc
  rising_is_one n (x ∷ xs) [] rise up same =
      let t : nat_eq (n x) (n x) ≡ true = eq-eqb (n x) (n x) refl in
      let s : x ∷ filter (λ z. nat_eq (n z) (n x)) xs ≡ [] = rw t at (same (n x)) in
      cc
  rising_is_one n (x ∷ xs) (y ∷ ys) rise up same =
      let a : n y ≤ n x = not_less n x y xs ys up (same (n x)) in
      let b : n x ≤ n y = not_less n y x ys xs rise (sym (same (n y))) in
      let e : n x ≡ n y = omega arith in
      let h : x ≡ y = head_same n x y xs ys e (same (n x)) in
      let r : xs ≡ ys = rising_is_one n xs ys (rises-tail n x xs rise) (rises-tail n y ys up) (λ i. tail_same n x y xs ys e i (same i)) in
      cc

and-swap : (a b : Bool) → a && b ≡ b && a
and-swap true true = refl
and-swap true false = refl
and-swap false true = refl
and-swap false false = refl

-- among array indices, those of one index are those whose number is that index
counted : (i : ℕ) (xs : List Key) → filter (λ key. nat_eq (index_of key) i) (array_indices xs) ≡ filter (has_index i) (array_indices xs)
counted i xs =
    filter-both (λ key. nat_eq (index_of key) i) is_array_index xs
    ∙ filter-same (λ key. is_array_index key && nat_eq (index_of key) i) (λ key. is_array_index key && has_index i key) same xs
    ∙ sym (filter-both (has_index i) is_array_index xs)
  where
    same : (key : Key) → is_array_index key && nat_eq (index_of key) i ≡ is_array_index key && has_index i key
    same (Text text index) = refl
    same (Symbol symbol) = refl

one_index_of : (i : ℕ) (xs : List Key) → filter (has_index i) (array_indices xs) ≡ filter is_array_index (filter (has_index i) xs)
one_index_of i xs =
    filter-both (has_index i) is_array_index xs
    ∙ filter-same (λ key. is_array_index key && has_index i key) (λ key. has_index i key && is_array_index key) (λ key. and-swap (is_array_index key) (has_index i key)) xs
    ∙ sym (filter-both is_array_index (has_index i) xs)

pub key_order_is_one : KeyOrderIsOne
key_order_is_one keys one two a b =
    let same : array_indices one ≡ array_indices two =
    rising_is_one index_of (array_indices one) (array_indices two) a.ascending b.ascending
    (λ i. counted i one ∙ one_index_of i one ∙ ap (filter is_array_index) (a.one_index i ∙ sym (b.one_index i)) ∙ sym (one_index_of i two) ∙ sym (counted i two)) in
    a.in_parts ∙ ap (λ (front : List Key). front ++ names keys ++ symbols keys) same ∙ sym b.in_parts

-- what a stable sort by the index keeps
less_is : (a b : ℕ) → is_lt (nat_cmp a b) ≡ nat_lt a b
less_is a b = by (nat_lt a b) (nat_eq a b) refl refl
  where
    by : (l e : Bool) → nat_lt a b ≡ l → nat_eq a b ≡ e → is_lt (nat_cmp a b) ≡ nat_lt a b
    by true e h k = rw h refl
    by false true h k = rw (h, k) refl
    by false false h k = rw (h, k) refl

neither_less : (i n : ℕ) → not (nat_lt i n) && not (nat_lt n i) ≡ nat_eq n i
neither_less i n = by (nat_lt i n) (nat_lt n i) refl refl
  where
    by : (a b : Bool) → nat_lt i n ≡ a → nat_lt n i ≡ b → not (nat_lt i n) && not (nat_lt n i) ≡ nat_eq n i
    by true b h k = rw h (sym (ne_eqb n i (let l : i < n = ltb-true i n h in λ e. omega arith)))
    by false true h k = rw (h, k) (sym (ne_eqb n i (let l : n < i = ltb-true n i k in λ e. omega arith)))
    by false false h k = rw (h, k) (sym (eq-eqb n i (let l : n ≤ i = ltb-false i n h in let m : i ≤ n = ltb-false n i k in omega arith)))

ties_is : (i : ℕ) (key : Key) → not (is_lt (nat_cmp i (index_of key))) && not (is_lt (nat_cmp (index_of key) i)) ≡ nat_eq (index_of key) i
ties_is i key = ap (λ b. not b && not (is_lt (nat_cmp (index_of key) i))) (less_is i (index_of key)) ∙ ap (λ b. not (nat_lt i (index_of key)) && not b) (less_is (index_of key) i) ∙ neither_less i (index_of key)

-- the keys of one number, after a stable sort by it
sorted_counted : (keys sorted : List Key) → IsStableByKey index_of nat_cmp keys sorted → (i : ℕ) → filter (λ key. nat_eq (index_of key) i) sorted ≡ filter (λ key. nat_eq (index_of key) i) keys
sorted_counted keys sorted stable i =
    let key : Key = (let text : StrId = record { 0 = 0 } in Text text i) in
    sym (filter-same (λ k. not (is_lt (nat_cmp i (index_of k))) && not (is_lt (nat_cmp (index_of k) i))) (λ k. nat_eq (index_of k) i) (ties_is i) sorted)
    ∙ stable key
    ∙ filter-same (λ k. not (is_lt (nat_cmp i (index_of k))) && not (is_lt (nat_cmp (index_of k) i))) (λ k. nat_eq (index_of k) i) (ties_is i) keys

filter-all : {X : Type 0} (p : X → Bool) (xs : List X) → ((k : ℕ) (d : X) → k < length xs → p (get_or xs k d) ≡ true) → filter p xs ≡ xs
filter-all p [] h = refl
filter-all p (x ∷ xs) h = let e : p x ≡ true = h 0 x (omega arith) in rw e (ap (λ r. x ∷ r) (filter-all p xs (λ k d below. h (suc k) d (omega arith))))

-- a key that is an array index is no name
here_only : (i : ℕ) (key : Key) → i ≡ 2 ^ 32 - 1 → (is_array_index key && has_index i key ≡ false) × (is_name key && has_index i key ≡ has_index i key)
here_only i (Symbol symbol) e = (refl, refl)
here_only i (Text text index) e = by (nat_eq index (2 ^ 32 - 1)) refl (ap (nat_eq index) e)
  where
    by : (b : Bool) → nat_eq index (2 ^ 32 - 1) ≡ b → nat_eq index i ≡ nat_eq index (2 ^ 32 - 1) → (not (nat_eq index (2 ^ 32 - 1)) && nat_eq index i ≡ false) × (nat_eq index (2 ^ 32 - 1) && nat_eq index i ≡ nat_eq index i)
    by true h k = rw (k, h) (refl, refl)
    by false h k = rw (k, h) (refl, refl)

there_only : (i : ℕ) (key : Key) → (i ≡ 2 ^ 32 - 1 → ⊥) → (is_array_index key && has_index i key ≡ has_index i key) × (is_name key && has_index i key ≡ false)
there_only i (Symbol symbol) ne = (refl, refl)
there_only i (Text text index) ne = by (nat_eq index (2 ^ 32 - 1)) (nat_eq index i) refl refl
  where
    by : (a b : Bool) → nat_eq index (2 ^ 32 - 1) ≡ a → nat_eq index i ≡ b → (not (nat_eq index (2 ^ 32 - 1)) && nat_eq index i ≡ nat_eq index i) × (nat_eq index (2 ^ 32 - 1) && nat_eq index i ≡ false)
    by true true h k = absurd (ne (sym (eqb-true index i k) ∙ eqb-true index (2 ^ 32 - 1) h))
    by true false h k = rw (h, k) (refl, refl)
    by false b h k = rw h (refl, refl)

-- the array indices and then the names, each in the order of the list
parts_one_index : (i : ℕ) (keys : List Key) → filter (has_index i) (array_indices keys) ++ filter (has_index i) (names keys) ≡ filter (has_index i) keys
parts_one_index i keys =
    ap (λ (r : List Key). r ++ filter (has_index i) (names keys)) (filter-both (has_index i) is_array_index keys)
    ∙ ap (λ (r : List Key). filter (λ key. is_array_index key && has_index i key) keys ++ r) (filter-both (has_index i) is_name keys)
    ∙ by (nat_eq i (2 ^ 32 - 1)) refl
  where
    by : (b : Bool) → nat_eq i (2 ^ 32 - 1) ≡ b → filter (λ key. is_array_index key && has_index i key) keys ++ filter (λ key. is_name key && has_index i key) keys ≡ filter (has_index i) keys
    by true t =
        let e : i ≡ 2 ^ 32 - 1 = eqb-true i (2 ^ 32 - 1) t in
        ap (λ (r : List Key). r ++ filter (λ key. is_name key && has_index i key) keys) (filter-none (λ key. is_array_index key && has_index i key) (λ key. (here_only i key e).0) keys)
        ∙ filter-same (λ key. is_name key && has_index i key) (has_index i) (λ key. (here_only i key e).1) keys
    by false t =
        let ne : i ≡ 2 ^ 32 - 1 → ⊥ = eqb-false i (2 ^ 32 - 1) t in
        ap (λ (r : List Key). filter (λ key. is_array_index key && has_index i key) keys ++ r) (filter-none (λ key. is_name key && has_index i key) (λ key. (there_only i key ne).1) keys)
        ∙ append-nil (filter (λ key. is_array_index key && has_index i key) keys)
        ∙ filter-same (λ key. is_array_index key && has_index i key) (has_index i) (λ key. (there_only i key ne).0) keys

-- no symbol has an index
no_symbol_has : (i : ℕ) (keys : List Key) → filter (has_index i) (symbols keys) ≡ []
no_symbol_has i keys = filter-both (has_index i) is_symbol keys ∙ filter-none (λ key. is_symbol key && has_index i key) none keys
  where
    none : (key : Key) → is_symbol key && has_index i key ≡ false
    none (Text text index) = refl
    none (Symbol symbol) = refl

-- no name and no symbol is an array index
no_name_is : (keys : List Key) → array_indices (names keys) ≡ []
no_name_is keys = filter-both is_array_index is_name keys ∙ filter-none (λ key. is_name key && is_array_index key) none keys
  where
    and-not : (b : Bool) → b && not b ≡ false
    and-not true = refl
    and-not false = refl

    none : (key : Key) → is_name key && is_array_index key ≡ false
    none (Text text index) = and-not (nat_eq index (2 ^ 32 - 1))
    none (Symbol symbol) = refl

no_symbol_is : (keys : List Key) → array_indices (symbols keys) ≡ []
no_symbol_is keys = filter-both is_array_index is_symbol keys ∙ filter-none (λ key. is_symbol key && is_array_index key) none keys
  where
    none : (key : Key) → is_symbol key && is_array_index key ≡ false
    none (Text text index) = refl
    none (Symbol symbol) = refl

-- the three parts are all of the keys
in_three : (keys : List Key) → IsPermutation keys (array_indices keys ++ names keys ++ symbols keys)
in_three keys =
    let texts : List Key = filter (λ key. not (is_symbol key)) keys in
    let halves : IsPermutation texts (array_indices texts ++ filter (λ key. not (is_array_index key)) texts) =
    IsPermutation-filter_both is_array_index (λ key. not (is_array_index key)) (λ key. refl) texts in
    let parts : IsPermutation texts (array_indices keys ++ names keys) =
    subst (IsPermutation texts) (ap (λ (r : List Key). r ++ filter (λ key. not (is_array_index key)) texts) indices_are ∙ ap (λ (r : List Key). array_indices keys ++ r) names_are) halves in
    IsPermutation-trans keys (texts ++ symbols keys) (array_indices keys ++ names keys ++ symbols keys)
    (IsPermutation-filter_both (λ key. not (is_symbol key)) is_symbol (λ key. twice (is_symbol key)) keys)
    (IsPermutation-append_left (symbols keys) texts (array_indices keys ++ names keys) parts)
  where
    twice : (b : Bool) → b ≡ not (not b)
    twice true = refl
    twice false = refl

    twice_in : (b : Bool) → not (not b) ≡ b
    twice_in true = refl
    twice_in false = refl

    text_index : (key : Key) → not (is_symbol key) && is_array_index key ≡ is_array_index key
    text_index (Text text index) = refl
    text_index (Symbol symbol) = refl

    text_name : (key : Key) → not (is_symbol key) && not (is_array_index key) ≡ is_name key
    text_name (Text text index) = twice_in (nat_eq index (2 ^ 32 - 1))
    text_name (Symbol symbol) = refl

    indices_are : array_indices (filter (λ key. not (is_symbol key)) keys) ≡ array_indices keys
    indices_are =
        filter-both is_array_index (λ key. not (is_symbol key)) keys
        ∙ filter-same (λ key. not (is_symbol key) && is_array_index key) is_array_index text_index keys

    names_are : filter (λ key. not (is_array_index key)) (filter (λ key. not (is_symbol key)) keys) ≡ names keys
    names_are =
        filter-both (λ key. not (is_array_index key)) (λ key. not (is_symbol key)) keys
        ∙ filter-same (λ key. not (is_symbol key) && not (is_array_index key)) is_name text_name keys

-- the array indices sorted by a stable sort, and then the names and the symbols
pub in_key_order : (keys sorted : List Key) → IsPermutation (array_indices keys) sorted → IsNonDecreasingBy index_of sorted → IsStableByKey index_of nat_cmp (array_indices keys) sorted → IsInKeyOrder keys (sorted ++ names keys ++ symbols keys)
in_key_order keys sorted moved rise stable =
    let all : array_indices sorted ≡ sorted =
    filter-all is_array_index sorted (All-permutation (λ key. is_array_index key ≡ true) (array_indices keys) sorted moved (filter_passes is_array_index keys)) in
    let front : array_indices (sorted ++ names keys ++ symbols keys) ≡ sorted =
    filter-append is_array_index (sorted ++ names keys) (symbols keys)
    ∙ ap (λ (r : List Key). array_indices (sorted ++ names keys) ++ r) (no_symbol_is keys)
    ∙ append-nil (array_indices (sorted ++ names keys))
    ∙ filter-append is_array_index sorted (names keys)
    ∙ ap (λ (r : List Key). array_indices sorted ++ r) (no_name_is keys)
    ∙ append-nil (array_indices sorted)
    ∙ all in
    let one : (i : ℕ) → filter (has_index i) sorted ≡ filter (has_index i) (array_indices keys) =
    λ i. ap (filter (has_index i)) (sym all) ∙ sym (counted i sorted) ∙ ap (filter (λ key. nat_eq (index_of key) i)) all ∙ sorted_counted (array_indices keys) sorted stable i ∙ counted i keys in
    record {
      permutation =
          IsPermutation-trans keys (array_indices keys ++ names keys ++ symbols keys) (sorted ++ names keys ++ symbols keys) (in_three keys)
          (IsPermutation-append_left (symbols keys) (array_indices keys ++ names keys) (sorted ++ names keys)
          (IsPermutation-append_left (names keys) (array_indices keys) sorted moved));
      in_parts = ap (λ (r : List Key). r ++ names keys ++ symbols keys) (sym front);
      ascending = rw front rise;
      one_index = λ i.
          filter-append (has_index i) (sorted ++ names keys) (symbols keys)
          ∙ ap (λ (r : List Key). filter (has_index i) (sorted ++ names keys) ++ r) (no_symbol_has i keys)
          ∙ append-nil (filter (has_index i) (sorted ++ names keys))
          ∙ filter-append (has_index i) sorted (names keys)
          ∙ ap (λ (r : List Key). r ++ filter (has_index i) (names keys)) (one i)
          ∙ parts_one_index i keys;
    }
