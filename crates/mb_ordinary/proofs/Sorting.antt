-- The array indices of a table in order are those that the definition puts in order.
use Rattle.std.proofs.Common.{◌≡◌, ℕ, zero, suc, ◌-◌, ◌^◌, ◌<◌, ◌≤◌, Bool, true, false, not, ◌&&◌, nat_eq, nat_lt, List, [], ◌∷◌, map, Some, None, if◌then◌else◌, refl, sym, ap, ◌∙◌, arith, true≢false, decimal}
use Rattle.std.specs.Prelude.{All}
use Rattle.std.specs.List.{filter, IsDistinct, AllByRecursion}
use Rattle.std.specs.List.Sorted.{IsNonDecreasingBy}
use Rattle.std.proofs.lemmas.Bool.{eqb-true, eqb-false, ltb-true, ltb-false}
use Rattle.std.proofs.lemmas.List.Elements.{All-cons, All-head, All-tail, All-weaker, All-get_or}
use Rattle.mb_base.specs.declared.value.Key.{Key}
use Rattle.mb_base.specs.declared.value.Key.TheVariants.{Text, Symbol}
use Rattle.mb_base.specs.declared.value.StrId.{StrId}
use Rattle.mb_text.specs.Index.{index_of as spelled_index}
use Rattle.mb_text.specs.Texts.{AreDistinct, text_at}
use Rattle.mb_text.proofs.Indices.{decimal-index_of, index_of-le}
use Rattle.mb_props.specs.Table.{same_key}
use Rattle.mb_props.specs.KeyOrder.{index_of, has_index, is_array_index, array_indices, IsInKeyOrder}
use Rattle.mb_props.proofs.Order.{filter-same, filter-both, rising_is_one}
use Rattle.mb_world.specs.Key.{PropertyKey, put_index, with_index, indices}
use Rattle.mb_world.specs.Data.{Data}
use Rattle.mb_world.specs.Ids.{KeyIn}
use Rattle.mb_world.specs.Image.{names_of, key_in}
use Rattle.mb_world.proofs.Values.{text-apart}
use Rattle.mb_world.proofs.SameKeys.{own-same}
use Rattle.mb_ordinary.proofs.Spelled.{index_in, key-index}

-- ---- keys put in order by their index

abbrev pub put_key : Key → List Key → List Key
put_key k [] = k ∷ []
put_key k (q ∷ qs) = if nat_lt (index_of k) (index_of q) then k ∷ q ∷ qs else q ∷ put_key k qs

abbrev pub put_if : Bool → Key → List Key → List Key
put_if true k ks = put_key k ks
put_if false k ks = ks

abbrev pub in_order : List Key → List Key
in_order [] = []
in_order (k ∷ ks) = put_if (is_array_index k) k (in_order ks)

All-put : (P : Key → Type 0) (k : Key) (qs : List Key) → P k → All P qs → All P (put_key k qs)
All-put P k [] p h = All-cons P k [] p h
All-put P k (q ∷ qs) p h = by (nat_lt (index_of k) (index_of q)) (All-put P k qs p (All-tail P q qs h))
  where
    by : (b : Bool) → All P (put_key k qs) → All P (if b then k ∷ q ∷ qs else q ∷ put_key k qs)
    by true r = All-cons P k (q ∷ qs) p h
    by false r = All-cons P q (put_key k qs) (All-head P q qs h) r

pub are-indices : (ks : List Key) → All (λ k. is_array_index k ≡ true) (in_order ks)
are-indices [] = λ k d l. absurd (omega arith)
are-indices (k ∷ ks) = by (is_array_index k) refl (are-indices ks)
  where
    by : (b : Bool) → is_array_index k ≡ b → All (λ k. is_array_index k ≡ true) (in_order ks) → All (λ k. is_array_index k ≡ true) (put_if b k (in_order ks))
    by true e r = All-put (λ k. is_array_index k ≡ true) k (in_order ks) e r
    by false e r = r

pub All-in_order : (P : Key → Type 0) (ks : List Key) → All P ks → All P (in_order ks)
All-in_order P [] h = h
All-in_order P (k ∷ ks) h = by (is_array_index k) (All-in_order P ks (All-tail P k ks h))
  where
    by : (b : Bool) → All P (in_order ks) → All P (put_if b k (in_order ks))
    by true r = All-put P k (in_order ks) (All-head P k ks h) r
    by false r = r

-- ---- they rise

abbrev pub Rises : List Key → Type 0
Rises [] = Unit {0}
Rises (k ∷ ks) = All (λ q. index_of k ≤ index_of q) ks × Rises ks

Rises-put : (k : Key) (qs : List Key) → Rises qs → Rises (put_key k qs)
Rises-put k [] h = (λ i d l. absurd (omega arith), tt)
Rises-put k (q ∷ qs) h = by (nat_lt (index_of k) (index_of q)) refl (Rises-put k qs h.1)
  where
    by : (b : Bool) → nat_lt (index_of k) (index_of q) ≡ b → Rises (put_key k qs) → Rises (if b then k ∷ q ∷ qs else q ∷ put_key k qs)
    by true e r =
        let l : index_of k < index_of q = ltb-true _ _ e in
        (All-cons (λ z. index_of k ≤ index_of z) q qs (omega (arith, l)) (All-weaker (λ z. index_of q ≤ index_of z) (λ z. index_of k ≤ index_of z) (λ z m. omega (arith, l, m)) qs h.0), h)
    by false e r =
        let l : index_of q ≤ index_of k = ltb-false _ _ e in
        (All-put (λ z. index_of q ≤ index_of z) k qs l h.0, r)

pub Rises-in_order : (ks : List Key) → Rises (in_order ks)
Rises-in_order [] = tt
Rises-in_order (k ∷ ks) = by (is_array_index k) (Rises-in_order ks)
  where
    by : (b : Bool) → Rises (in_order ks) → Rises (put_if b k (in_order ks))
    by true r = Rises-put k (in_order ks) r
    by false r = r

never-falls : (ks : List Key) → Rises ks → IsNonDecreasingBy index_of ks
never-falls [] h i j d le below = absurd (omega arith)
never-falls (k ∷ ks) h zero zero d le below = omega arith
never-falls (k ∷ ks) h zero (suc j) d le below = All-get_or (λ q. index_of k ≤ index_of q) ks j d (omega arith) h.0
never-falls (k ∷ ks) h (suc i) zero d le below = absurd (omega arith)
never-falls (k ∷ ks) h (suc i) (suc j) d le below = never-falls ks h.1 i j d (omega arith) (omega arith)

-- ---- of each index there is one at most

abbrev pub at_index : ℕ → Key → Bool
at_index i k = nat_eq (index_of k) i

put-other : (i : ℕ) (k : Key) (qs : List Key) → at_index i k ≡ false → filter (at_index i) (put_key k qs) ≡ filter (at_index i) qs
put-other i k [] e = rw e refl
put-other i k (q ∷ qs) e = by (nat_lt (index_of k) (index_of q)) (put-other i k qs e)
  where
    by : (b : Bool) → filter (at_index i) (put_key k qs) ≡ filter (at_index i) qs → filter (at_index i) (if b then k ∷ q ∷ qs else q ∷ put_key k qs) ≡ filter (at_index i) (q ∷ qs)
    by true r = rw e refl
    by false r = ap (λ z. if at_index i q then q ∷ z else z) r

put-only : (i : ℕ) (k : Key) (qs : List Key) → at_index i k ≡ true → filter (at_index i) qs ≡ [] → filter (at_index i) (put_key k qs) ≡ k ∷ []
put-only i k [] e h = rw e refl
put-only i k (q ∷ qs) e h = by (nat_lt (index_of k) (index_of q)) (at_index i q) refl (put-only i k qs e)
  where
    by : (b c : Bool) → at_index i q ≡ c → (filter (at_index i) qs ≡ [] → filter (at_index i) (put_key k qs) ≡ k ∷ []) → filter (at_index i) (if b then k ∷ q ∷ qs else q ∷ put_key k qs) ≡ k ∷ []
    by b true f r = let z : q ∷ filter (at_index i) qs ≡ [] = rw f at h in cc
    by true false f r = let z : filter (at_index i) qs ≡ [] = rw f at h in rw (e, f) (ap (λ r. k ∷ r) z)
    by false false f r = let z : filter (at_index i) qs ≡ [] = rw f at h in rw f (r z)

not-true : (b : Bool) → not b ≡ true → b ≡ false
not-true true h = absurd (true≢false (sym h))
not-true false h = refl

pub low-index : (i : ℕ) → i ≤ 2 ^ 32 - 1 → not (nat_eq i (2 ^ 32 - 1)) ≡ true → i < 2 ^ 32 - 1
low-index i l e = let n : i ≡ 2 ^ 32 - 1 → ⊥ = eqb-false i (2 ^ 32 - 1) (not-true _ e) in omega (arith, l, n)

module _ (d : Data) (distinct : AreDistinct d.texts) where
  -- keys of one index are one key
  one-key : (k q : Key) → KeyIn d k → KeyIn d q → is_array_index k ≡ true → index_of q ≡ index_of k → same_key k q ≡ true
  one-key (Text a i) (Text b j) h g e s =
      let low : i < 2 ^ 32 - 1 = low-index i (let z = index_of-le (text_at d.texts a) in let y : i ≡ spelled_index (text_at d.texts a) = h.1 in omega (arith, z, y)) e in
      let la : spelled_index (text_at d.texts a) < 2 ^ 32 - 1 = let y : i ≡ spelled_index (text_at d.texts a) = h.1 in omega (arith, y, low) in
      let lb : spelled_index (text_at d.texts b) < 2 ^ 32 - 1 = let y : j ≡ spelled_index (text_at d.texts b) = g.1 in omega (arith, y, low, s) in
      let t : text_at d.texts a ≡ text_at d.texts b =
      sym (decimal-index_of (text_at d.texts a) la) ∙ ap decimal (sym h.1 ∙ sym s ∙ g.1) ∙ decimal-index_of (text_at d.texts b) lb in
      let x : a ≡ b = text-apart d distinct a b h.0 g.0 t in
      ap (λ (z : StrId). same_key (Text a i) (Text z j)) (sym x) ∙ ap (λ z. same_key (Text a i) (Text a z)) s ∙ own-same (Text a i)
  one-key (Text a i) (Symbol b) h g e s = absurd (eqb-false i (2 ^ 32 - 1) (not-true _ e) (sym s))
  one-key (Symbol a) q h g e s = absurd (true≢false (sym e))

  alone : (k : Key) (ks : List Key) → KeyIn d k → All (KeyIn d) ks → is_array_index k ≡ true → AllByRecursion (λ q. same_key k q ≡ false) ks → filter (at_index (index_of k)) (array_indices ks) ≡ []
  alone k [] h g e u = refl
  alone k (q ∷ ks) h g e u = by (is_array_index q) (at_index (index_of k) q) refl refl (alone k ks h (All-tail (KeyIn d) q ks g) e u.1)
    where
      by : (b c : Bool) → is_array_index q ≡ b → at_index (index_of k) q ≡ c → filter (at_index (index_of k)) (array_indices ks) ≡ [] → filter (at_index (index_of k)) (array_indices (q ∷ ks)) ≡ []
      by false c x y r = rw x r
      by true false x y r = rw (x, y) r
      by true true x y r = absurd (true≢false (sym (one-key k q h (All-head (KeyIn d) q ks g) e (eqb-true (index_of q) (index_of k) y)) ∙ u.0))

  -- the keys of an index, in order or not
  pub at-index : (i : ℕ) (ks : List Key) → All (KeyIn d) ks → IsDistinct same_key ks → filter (at_index i) (in_order ks) ≡ filter (at_index i) (array_indices ks)
  unfolding IsDistinct
  at-index i [] g u = refl
  at-index i (k ∷ ks) g u = by (is_array_index k) (at_index i k) refl refl (at-index i ks (All-tail (KeyIn d) k ks g) u.1)
    where
      by : (b c : Bool) → is_array_index k ≡ b → at_index i k ≡ c → filter (at_index i) (in_order ks) ≡ filter (at_index i) (array_indices ks) → filter (at_index i) (put_if (is_array_index k) k (in_order ks)) ≡ filter (at_index i) (array_indices (k ∷ ks))
      by false c x y r = rw x r
      by true false x y r = rw (x, y) (put-other i k (in_order ks) y ∙ r)
      by true true x y r =
          let e : index_of k ≡ i = eqb-true (index_of k) i y in
          let none : filter (at_index i) (array_indices ks) ≡ [] = rw e at (alone k ks (All-head (KeyIn d) k ks g) (All-tail (KeyIn d) k ks g) x u.0) in
          rw (x, y) (put-only i k (in_order ks) y (r ∙ none) ∙ ap (λ z. k ∷ z) (sym none))

  -- the array indices of a list in the order of own keys
  pub in-order : (ks ordered : List Key) → All (KeyIn d) ks → IsDistinct same_key ks → IsInKeyOrder ks ordered → array_indices ordered ≡ in_order ks
  in-order ks ordered g u o = rising_is_one index_of (array_indices ordered) (in_order ks) o.ascending (never-falls (in_order ks) (Rises-in_order ks))
      (λ i. of-index i ordered ∙ ap (filter is_array_index) (o.one_index i) ∙ sym (of-index i ks) ∙ sym (at-index i ks g u))
    where
      and-swap : (a b : Bool) → a && b ≡ b && a
      and-swap true true = refl
      and-swap true false = refl
      and-swap false true = refl
      and-swap false false = refl

      same : (i : ℕ) (k : Key) → is_array_index k && at_index i k ≡ has_index i k && is_array_index k
      same i (Text text index) = and-swap (not (nat_eq index (2 ^ 32 - 1))) (nat_eq index i)
      same i (Symbol symbol) = refl

      of-index : (i : ℕ) (xs : List Key) → filter (at_index i) (array_indices xs) ≡ filter is_array_index (filter (has_index i) xs)
      of-index i xs = filter-both (at_index i) is_array_index xs ∙ filter-same _ _ (same i) xs ∙ sym (filter-both is_array_index (has_index i) xs)

  -- ---- what the definition makes of the keys that they stand for

  abbrev pub indexed : Key → ℕ × PropertyKey
  indexed k = (index_of k, key_in (names_of d) k)

  put-indexed : (k : Key) (qs : List Key) → put_index (indexed k) (map indexed qs) ≡ map indexed (put_key k qs)
  put-indexed k [] = refl
  put-indexed k (q ∷ qs) = by (nat_lt (index_of k) (index_of q)) (put-indexed k qs)
    where
      by : (b : Bool) → put_index (indexed k) (map indexed qs) ≡ map indexed (put_key k qs) → (if b then indexed k ∷ indexed q ∷ map indexed qs else indexed q ∷ put_index (indexed k) (map indexed qs)) ≡ map indexed (if b then k ∷ q ∷ qs else q ∷ put_key k qs)
      by true r = refl
      by false r = ap (λ z. indexed q ∷ z) r

  pub indices-are : (ks : List Key) → All (KeyIn d) ks → indices (map (key_in (names_of d)) ks) ≡ map indexed (in_order ks)
  indices-are [] g = refl
  indices-are (k ∷ ks) g = ap (λ i. with_index (key_in (names_of d) k) i (indices (map (key_in (names_of d)) ks))) (key-index d k (All-head (KeyIn d) k ks g)) ∙ ap (λ r. with_index (key_in (names_of d) k) (index_in k) r) (indices-are ks (All-tail (KeyIn d) k ks g)) ∙ by (is_array_index k)
    where
      by : (b : Bool) → with_index (key_in (names_of d) k) (if b then Some (index_of k) else None) (map indexed (in_order ks)) ≡ map indexed (put_if b k (in_order ks))
      by true = put-indexed k (in_order ks)
      by false = refl
