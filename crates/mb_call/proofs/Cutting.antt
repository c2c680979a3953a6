-- What a shorter length leaves of an array: no index from that length on.
use Rattle.std.proofs.Common.{◌+◌, ◌++◌, ◌<◌, ◌≡◌, ◌≤◌, ◌∙◌, ◌∷◌, ◌⊎◌, Bool, List, None, Option, Some, [], ap, arith}
use Rattle.std.proofs.Common.{false, inl, inr, nat_le, nat_lt, refl, reverse, subst, sym, true, true≢false, ℕ}
use Rattle.std.proofs.lemmas.Bool.Decides.{nat_tests}
use Rattle.std.proofs.lemmas.List.{reverse-append}
use Rattle.std.specs.List.{AllByRecursion}
use Rattle.std.specs.Prelude.{if◌then◌else◌}
use Rattle.mb_desc.specs.Descriptors.{is_fixed, property_is}
use Rattle.mb_world.proofs.SameKeys.{key-equal, key-same}
use Rattle.mb_world.specs.Arrays.{Shrunk, indices_from, shrink}
use Rattle.mb_world.specs.Graph.{Property}
use Rattle.mb_world.specs.Key.{PropertyKey, index_of_key, indices, keep_if, put_index, same_key, with_index}
use Rattle.mb_world.specs.Objects.{find_property, property_keys, remove_property}

abbrev Place : Type 0
Place = ℕ × PropertyKey

-- ---- lists of places

abbrev Has : Place → List Place → Type 0
Has p [] = ⊥
Has p (q ∷ qs) = (p ≡ q) ⊎ Has p qs

abbrev Descends : List Place → Type 0
Descends [] = Unit {0}
Descends (q ∷ qs) = AllByRecursion (λ p. p.0 ≤ q.0) qs × Descends qs

abbrev Ascends : List Place → Type 0
Ascends [] = Unit {0}
Ascends (q ∷ qs) = AllByRecursion (λ p. q.0 ≤ p.0) qs × Ascends qs

all-weaker : {A : Type 0} (P Q : A → Type 0) → ((x : A) → P x → Q x) → (xs : List A) → AllByRecursion P xs
    → AllByRecursion Q xs
all-weaker P Q f [] h = tt
all-weaker P Q f (x ∷ xs) h = (f x h.0, all-weaker P Q f xs h.1)

all-last : {A : Type 0} (P : A → Type 0) (xs : List A) (x : A) → AllByRecursion P xs → P x
    → AllByRecursion P (xs ++ (x ∷ []))
all-last P [] x h k = (k, tt)
all-last P (y ∷ ys) x h k = (h.0, all-last P ys x h.1 k)

module _ (P : Place → Type 0) where
  all-put : (p : Place) (qs : List Place) → P p → AllByRecursion P qs → AllByRecursion P (put_index p qs)
  all-put p [] h k = (h, tt)
  all-put p (q ∷ qs) h k = by (nat_lt p.0 q.0) (all-put p qs h k.1)
    where
      by : (b : Bool) → AllByRecursion P (put_index p qs)
          → AllByRecursion P (if b then p ∷ q ∷ qs else q ∷ put_index p qs)
      by true r = (h, k)
      by false r = (k.0, r)

  all-from : (n : ℕ) (qs : List Place) → AllByRecursion P qs → AllByRecursion P (indices_from n qs)
  all-from n [] h = tt
  all-from n (q ∷ qs) h = by (nat_le n q.0) (all-from n qs h.1)
    where
      by : (b : Bool) → AllByRecursion P (indices_from n qs) → AllByRecursion P (keep_if b q (indices_from n qs))
      by true r = (h.0, r)
      by false r = r

  all-reverse : (qs : List Place) → AllByRecursion P qs → AllByRecursion P (reverse qs)
  all-reverse [] h = tt
  all-reverse (q ∷ qs) h = rw (reverse-append (q ∷ []) qs) (all-last P (reverse qs) q (all-reverse qs h.1) h.0)

-- ---- what they have

has-put : (p : Place) (qs : List Place) → Has p (put_index p qs)
has-put p [] = inl refl
has-put p (q ∷ qs) = by (nat_lt p.0 q.0) (has-put p qs)
  where
    by : (b : Bool) → Has p (put_index p qs) → Has p (if b then p ∷ q ∷ qs else q ∷ put_index p qs)
    by true r = inl refl
    by false r = inr r

has-other : (x p : Place) (qs : List Place) → Has x qs → Has x (put_index p qs)
has-other x p [] h = absurd h
has-other x p (q ∷ qs) h = by (nat_lt p.0 q.0) h (has-other x p qs)
  where
    by : (b : Bool) → Has x (q ∷ qs) → (Has x qs → Has x (put_index p qs))
        → Has x (if b then p ∷ q ∷ qs else q ∷ put_index p qs)
    by true i r = inr i
    by false (inl e) r = inl e
    by false (inr i) r = inr (r i)

has-with : (x : Place) (k : PropertyKey) (o : Option ℕ) (qs : List Place) → Has x qs → Has x (with_index k o qs)
has-with x k None qs h = h
has-with x k (Some i) qs h = has-other x (i, k) qs h

has-own : (k : PropertyKey) (o : Option ℕ) (j : ℕ) (qs : List Place) → o ≡ Some j → Has (j, k) (with_index k o qs)
has-own k o j qs e = rw e (has-put (j, k) qs)

has-from : (n : ℕ) (x : Place) (qs : List Place) → n ≤ x.0 → Has x qs → Has x (indices_from n qs)
has-from n x [] l h = absurd h
has-from n x (q ∷ qs) l h = by (nat_le n q.0) refl h (has-from n x qs l)
  where
    by : (b : Bool) → nat_le n q.0 ≡ b → Has x (q ∷ qs) → (Has x qs → Has x (indices_from n qs))
        → Has x (keep_if b q (indices_from n qs))
    by true e (inl i) r = inl i
    by true e (inr i) r = inr (r i)
    by false e (inl i) r =
        (let z : n ≤ q.0 = subst (λ (p : Place). n ≤ p.0) i l in
        let w : nat_le n q.0 ≡ true = grind (arith, nat_tests) in
        absurd (true≢false (sym w ∙ e)))
    by false e (inr i) r = r i

has-front : (x : Place) (qs rs : List Place) → Has x qs → Has x (qs ++ rs)
has-front x [] rs h = absurd h
has-front x (q ∷ qs) rs (inl e) = inl e
has-front x (q ∷ qs) rs (inr h) = inr (has-front x qs rs h)

has-back : (x : Place) (qs rs : List Place) → Has x rs → Has x (qs ++ rs)
has-back x [] rs h = h
has-back x (q ∷ qs) rs h = inr (has-back x qs rs h)

has-reverse : (x : Place) (qs : List Place) → Has x qs → Has x (reverse qs)
has-reverse x [] h = absurd h
has-reverse x (q ∷ qs) (inl e) = rw (reverse-append (q ∷ []) qs) (has-back x (reverse qs) (q ∷ []) (inl e))
has-reverse x (q ∷ qs) (inr h) = rw (reverse-append (q ∷ []) qs)
    (has-front x (reverse qs) (q ∷ []) (has-reverse x qs h))

all-has : (P : Place → Type 0) (x : Place) (qs : List Place) → AllByRecursion P qs → Has x qs → P x
all-has P x [] h i = absurd i
all-has P x (q ∷ qs) h (inl e) = subst P (sym e) h.0
all-has P x (q ∷ qs) h (inr i) = all-has P x qs h.1 i

-- ---- their order

ascends-put : (p : Place) (qs : List Place) → Ascends qs → Ascends (put_index p qs)
ascends-put p [] h = (tt, tt)
ascends-put p (q ∷ qs) h = by (nat_lt p.0 q.0) refl (ascends-put p qs h.1)
  where
    by : (b : Bool) → nat_lt p.0 q.0 ≡ b → Ascends (put_index p qs)
        → Ascends (if b then p ∷ q ∷ qs else q ∷ put_index p qs)
    by true e r =
        (let l : p.0 ≤ q.0 = grind (arith, nat_tests) in
        ((l, all-weaker (λ (x : Place). q.0 ≤ x.0) (λ x. p.0 ≤ x.0) (λ x m. omega (arith, l, m)) qs h.0), h))
    by false e r =
        (let l : q.0 ≤ p.0 = grind (arith, nat_tests) in (all-put (λ x. q.0 ≤ x.0) p qs l h.0, r))

ascends-with : (k : PropertyKey) (o : Option ℕ) (qs : List Place) → Ascends qs → Ascends (with_index k o qs)
ascends-with k None qs h = h
ascends-with k (Some i) qs h = ascends-put (i, k) qs h

ascends-indices : (ks : List PropertyKey) → Ascends (indices ks)
ascends-indices [] = tt
ascends-indices (k ∷ ks) = ascends-with k (index_of_key k) (indices ks) (ascends-indices ks)

ascends-from : (n : ℕ) (qs : List Place) → Ascends qs → Ascends (indices_from n qs)
ascends-from n [] h = tt
ascends-from n (q ∷ qs) h = by (nat_le n q.0) (ascends-from n qs h.1)
  where
    by : (b : Bool) → Ascends (indices_from n qs) → Ascends (keep_if b q (indices_from n qs))
    by true r = (all-from (λ x. q.0 ≤ x.0) n qs h.0, r)
    by false r = r

descends-last : (qs : List Place) (q : Place) → Descends qs → AllByRecursion (λ p. q.0 ≤ p.0) qs
    → Descends (qs ++ (q ∷ []))
descends-last [] q h k = (tt, tt)
descends-last (p ∷ ps) q h k = (all-last (λ x. x.0 ≤ p.0) ps q h.0 k.0, descends-last ps q h.1 k.1)

descends-reverse : (qs : List Place) → Ascends qs → Descends (reverse qs)
descends-reverse [] h = tt
descends-reverse (q ∷ qs) h =
    rw (reverse-append (q ∷ []) qs)
    (descends-last (reverse qs) q (descends-reverse qs h.1) (all-reverse (λ p. q.0 ≤ p.0) qs h.0))

low-from : (n : ℕ) (qs : List Place) → AllByRecursion (λ p. n ≤ p.0) (indices_from n qs)
low-from n [] = tt
low-from n (q ∷ qs) = by (nat_le n q.0) refl (low-from n qs)
  where
    by : (b : Bool) → nat_le n q.0 ≡ b → AllByRecursion (λ p. n ≤ p.0) (indices_from n qs)
        → AllByRecursion (λ p. n ≤ p.0) (keep_if b q (indices_from n qs))
    by true e r = (let l : n ≤ q.0 = grind (arith, nat_tests) in (l, r))
    by false e r = r

-- ---- properties

-- their indices are below
abbrev pub AreBelow : ℕ → List Property → Type 0
AreBelow m ps = AllByRecursion (λ (q : Property). (j : ℕ) → index_of_key q.key ≡ Some j → j < m) ps

abbrev pub AreApart : List Property → Type 0
AreApart [] = Unit {0}
AreApart (p ∷ ps) = AllByRecursion (λ (q : Property). same_key p.key q.key ≡ false) ps × AreApart ps

-- each index that isn't below n is in the list
abbrev Covers : List Place → ℕ → List Property → Type 0
Covers is n ps = AllByRecursion (λ (q : Property). (j : ℕ) → index_of_key q.key ≡ Some j → n ≤ j → Has (j, q.key) is) ps

module _ (P : Property → Type 0) where
  all-remove : (k : PropertyKey) (ps : List Property) → AllByRecursion P ps → AllByRecursion P (remove_property k ps)
  all-remove k [] h = tt
  all-remove k (p ∷ ps) h = by (same_key p.key k) (all-remove k ps h.1)
    where
      by : (b : Bool) → AllByRecursion P (remove_property k ps)
          → AllByRecursion P (if b then ps else p ∷ remove_property k ps)
      by true r = h.1
      by false r = (h.0, r)

apart-remove : (k : PropertyKey) (ps : List Property) → AreApart ps → AreApart (remove_property k ps)
apart-remove k [] h = tt
apart-remove k (p ∷ ps) h = by (same_key p.key k) (apart-remove k ps h.1)
  where
    by : (b : Bool) → AreApart (remove_property k ps) → AreApart (if b then ps else p ∷ remove_property k ps)
    by true r = h.1
    by false r = (all-remove (λ (q : Property). same_key p.key q.key ≡ false) k ps h.0, r)

no-key : (k : PropertyKey) (ps : List Property) → AreApart ps
    → AllByRecursion (λ (q : Property). q.key ≡ k → ⊥) (remove_property k ps)
no-key k [] h = tt
no-key k (p ∷ ps) h = by (same_key p.key k) refl (no-key k ps h.1)
  where
    by : (b : Bool) → same_key p.key k ≡ b → AllByRecursion (λ (q : Property). q.key ≡ k → ⊥) (remove_property k ps)
        → AllByRecursion (λ (q : Property). q.key ≡ k → ⊥) (if b then ps else p ∷ remove_property k ps)
    by true e r =
        (let i : p.key ≡ k = key-equal p.key k e in
        all-weaker (λ (q : Property). same_key p.key q.key ≡ false) (λ q. q.key ≡ k → ⊥)
        (λ q f g. true≢false (sym (key-same p.key) ∙ ap (same_key p.key) (i ∙ sym g) ∙ f)) ps h.0)
    by false e r = ((λ g. true≢false (sym (key-same k) ∙ ap (λ z. same_key z k) (sym g) ∙ e)), r)

both : {A : Type 0} (P Q R : A → Type 0) → ((x : A) → P x → Q x → R x) → (xs : List A) → AllByRecursion P xs
    → AllByRecursion Q xs → AllByRecursion R xs
both P Q R f [] h k = tt
both P Q R f (x ∷ xs) h k = (f x h.0 k.0, both P Q R f xs h.1 k.1)

-- one goes, and the others are still covered
covers-less : (i : Place) (is : List Place) (n : ℕ) (ps : List Property) → AreApart ps → Covers (i ∷ is) n ps
    → Covers is n (remove_property i.1 ps)
covers-less i is n ps h k =
    both (λ (q : Property). q.key ≡ i.1 → ⊥)
    (λ q. (j : ℕ) → index_of_key q.key ≡ Some j → n ≤ j → Has (j, q.key) (i ∷ is))
    (λ q. (j : ℕ) → index_of_key q.key ≡ Some j → n ≤ j → Has (j, q.key) is)
    (λ q f g j e l. elim (g j e l) [
      | inl s ↦ absurd (f (ap (λ (p : Place). p.1) s))
      | inr s ↦ s
    ])
    (remove_property i.1 ps) (no-key i.1 ps h)
    (all-remove (λ (q : Property). (j : ℕ) → index_of_key q.key ≡ Some j → n ≤ j → Has (j, q.key) (i ∷ is)) i.1 ps k)

below-here : (i : Place) (is : List Place) (n : ℕ) (ps : List Property) → Descends (i ∷ is) → n ≤ i.0
    → Covers (i ∷ is) n ps → AreBelow (i.0 + 1) ps
below-here i is n ps h l k =
    all-weaker (λ (q : Property). (j : ℕ) → index_of_key q.key ≡ Some j → n ≤ j → Has (j, q.key) (i ∷ is))
    (λ q. (j : ℕ) → index_of_key q.key ≡ Some j → j < i.0 + 1)
    (λ q g j e. by q j (g j e) (nat_le n j) refl) ps k
  where
    by : (q : Property) (j : ℕ) → (n ≤ j → Has (j, q.key) (i ∷ is)) → (b : Bool) → nat_le n j ≡ b → j < i.0 + 1
    by q j g true e =
        (let m : n ≤ j = grind (arith, nat_tests) in
        let z : j ≤ i.0 = all-has (λ (p : Place). p.0 ≤ i.0) (j, q.key) (i ∷ is) (omega arith, h.0) (g m) in
        omega (arith, z))
    by q j g false e = (let m : j < n = grind (arith, nat_tests) in omega (arith, m, l))

below-none : (n : ℕ) (ps : List Property) → Covers [] n ps → AreBelow n ps
below-none n ps k =
    all-weaker (λ (q : Property). (j : ℕ) → index_of_key q.key ≡ Some j → n ≤ j → ⊥)
    (λ q. (j : ℕ) → index_of_key q.key ≡ Some j → j < n) (λ q g j e. by q j (g j e) (nat_le n j) refl) ps k
  where
    by : (q : Property) (j : ℕ) → (n ≤ j → ⊥) → (b : Bool) → nat_le n j ≡ b → j < n
    by q j g true e = (let m : n ≤ j = grind (arith, nat_tests) in absurd (g m))
    by q j g false e = grind (arith, nat_tests)

-- no index from the length on is left
pub shrink-below : (is : List Place) (n : ℕ) (ps : List Property) → Descends is → AllByRecursion (λ p. n ≤ p.0) is
    → AreApart ps → Covers is n ps → AreBelow (shrink is n ps).length (shrink is n ps).left
shrink-below [] n ps d l a k = below-none n ps k
shrink-below (i ∷ is) n ps d l a k =
    by (property_is is_fixed (find_property i.1 ps)) refl
    (shrink-below is n (remove_property i.1 ps) d.1 l.1 (apart-remove i.1 ps a) (covers-less i is n ps a k))
  where
    by : (b : Bool) → property_is is_fixed (find_property i.1 ps) ≡ b
        → AreBelow (shrink is n (remove_property i.1 ps)).length (shrink is n (remove_property i.1 ps)).left
        → AreBelow (shrink (i ∷ is) n ps).length (shrink (i ∷ is) n ps).left
    by true e r = rw e (below-here i is n ps d l.0 k)
    by false e r = rw e r

-- and the length isn't above what the indices were below
pub shrink-long : (is : List Place) (n m : ℕ) (ps : List Property) → AllByRecursion (λ p. p.0 < m) is → n ≤ m
    → (shrink is n ps).length ≤ m
shrink-long [] n m ps h l = l
shrink-long (i ∷ is) n m ps h l =
    by (property_is is_fixed (find_property i.1 ps)) refl (shrink-long is n m (remove_property i.1 ps) h.1 l)
  where
    by : (b : Bool) → property_is is_fixed (find_property i.1 ps) ≡ b
        → (shrink is n (remove_property i.1 ps)).length ≤ m → (shrink (i ∷ is) n ps).length ≤ m
    by true e r = rw e (omega (arith, h.0))
    by false e r = rw e r

-- ---- the indices of an array

covers-more : (k : PropertyKey) (ks : List PropertyKey) (ps : List Property)
    → AllByRecursion (λ (q : Property). (j : ℕ) → index_of_key q.key ≡ Some j → Has (j, q.key) (indices ks)) ps
    → AllByRecursion (λ (q : Property). (j : ℕ) → index_of_key q.key ≡ Some j → Has (j, q.key) (indices (k ∷ ks))) ps
covers-more k ks ps h =
    all-weaker (λ (q : Property). (j : ℕ) → index_of_key q.key ≡ Some j → Has (j, q.key) (indices ks))
    (λ q. (j : ℕ) → index_of_key q.key ≡ Some j → Has (j, q.key) (indices (k ∷ ks)))
    (λ q f j e. has-with (j, q.key) k (index_of_key k) (indices ks) (f j e)) ps h

covers-all : (ps : List Property)
    → AllByRecursion (λ (q : Property). (j : ℕ) → index_of_key q.key ≡ Some j
    → Has (j, q.key) (indices (property_keys ps))) ps
covers-all [] = tt
covers-all (p ∷ ps) = (
  λ j e. has-own p.key (index_of_key p.key) j (indices (property_keys ps)) e,
  covers-more p.key (property_keys ps) ps (covers-all ps),
)

below-with : (m : ℕ) (k : PropertyKey) (o : Option ℕ) (qs : List Place) → ((j : ℕ) → o ≡ Some j → j < m)
    → AllByRecursion (λ p. p.0 < m) qs → AllByRecursion (λ p. p.0 < m) (with_index k o qs)
below-with m k None qs f h = h
below-with m k (Some i) qs f h = all-put (λ p. p.0 < m) (i, k) qs (f i refl) h

below-indices : (m : ℕ) (ps : List Property) → AreBelow m ps
    → AllByRecursion (λ p. p.0 < m) (indices (property_keys ps))
below-indices m [] h = tt
below-indices m (p ∷ ps) h = below-with m p.key (index_of_key p.key) (indices (property_keys ps)) h.0
    (below-indices m ps h.1)

abbrev pub gone : ℕ → List Property → List Place
gone n ps = reverse (indices_from n (indices (property_keys ps)))

module _ (n : ℕ) (ps : List Property) where
  abbrev all : List Place
  all = indices (property_keys ps)

  gone-covers : Covers (gone n ps) n ps
  gone-covers =
      all-weaker (λ (q : Property). (j : ℕ) → index_of_key q.key ≡ Some j → Has (j, q.key) all)
      (λ q. (j : ℕ) → index_of_key q.key ≡ Some j → n ≤ j → Has (j, q.key) (gone n ps))
      (λ q f j e l. has-reverse (j, q.key) (indices_from n all) (has-from n (j, q.key) all l (f j e))) ps
      (covers-all ps)

  -- what is left of an array that gets the length n
  pub cut-below : AreApart ps → AreBelow (shrink (gone n ps) n ps).length (shrink (gone n ps) n ps).left
  cut-below a =
      shrink-below (gone n ps) n ps
      (descends-reverse (indices_from n all) (ascends-from n all (ascends-indices (property_keys ps))))
      (all-reverse (λ p. n ≤ p.0) (indices_from n all) (low-from n all)) a gone-covers

  pub cut-long : (m : ℕ) → AreBelow m ps → n ≤ m → (shrink (gone n ps) n ps).length ≤ m
  cut-long m h l =
      shrink-long (gone n ps) n m ps
      (all-reverse (λ p. p.0 < m) (indices_from n all) (all-from (λ p. p.0 < m) n all (below-indices m ps h))) l

-- ---- what stands in front and has no index stays

abbrev IsIndex : Place → Type 0
IsIndex p = index_of_key p.1 ≡ Some p.0

index-with : (k : PropertyKey) (o : Option ℕ) (qs : List Place) → index_of_key k ≡ o → AllByRecursion IsIndex qs
    → AllByRecursion IsIndex (with_index k o qs)
index-with k None qs e h = h
index-with k (Some i) qs e h = all-put IsIndex (i, k) qs e h

index-all : (ks : List PropertyKey) → AllByRecursion IsIndex (indices ks)
index-all [] = tt
index-all (k ∷ ks) = index-with k (index_of_key k) (indices ks) refl (index-all ks)

abbrev pub behind : Property → Shrunk → Shrunk
behind x s = record { left = x ∷ s.left; length = s.length; whole = s.whole }

no-index : (a b : PropertyKey) (i : ℕ) → index_of_key a ≡ None → index_of_key b ≡ Some i → same_key a b ≡ false
no-index a b i e f = by (same_key a b) refl
  where
    by : (c : Bool) → same_key a b ≡ c → same_key a b ≡ false
    by true q = (let z : None ≡ Some i = sym e ∙ ap index_of_key (key-equal a b q) ∙ f in cc)
    by false q = q

shrink-behind : (is : List Place) (n : ℕ) (x : Property) (ps : List Property) → index_of_key x.key ≡ None
    → AllByRecursion IsIndex is → shrink is n (x ∷ ps) ≡ behind x (shrink is n ps)
shrink-behind [] n x ps e h = refl
shrink-behind (i ∷ is) n x ps e h =
    let q : same_key x.key i.1 ≡ false = no-index x.key i.1 i.0 e h.0 in
    by q (property_is is_fixed (find_property i.1 ps)) refl (shrink-behind is n x (remove_property i.1 ps) e h.1)
  where
    by : same_key x.key i.1 ≡ false → (b : Bool) → property_is is_fixed (find_property i.1 ps) ≡ b
        → shrink is n (x ∷ remove_property i.1 ps) ≡ behind x (shrink is n (remove_property i.1 ps))
        → shrink (i ∷ is) n (x ∷ ps) ≡ behind x (shrink (i ∷ is) n ps)
    by q true f r = rw (q, f) refl
    by q false f r = rw (q, f) r

pub shrink-first : (n : ℕ) (x : Property) (ps : List Property) → index_of_key x.key ≡ None
    → shrink (gone n (x ∷ ps)) n (x ∷ ps) ≡ behind x (shrink (gone n ps) n ps)
shrink-first n x ps e =
    ap (λ (o : Option ℕ). shrink (reverse (indices_from n (with_index x.key o (indices (property_keys ps))))) n
    (x ∷ ps)) e
    ∙ shrink-behind (gone n ps) n x ps e
    (all-reverse IsIndex (indices_from n (indices (property_keys ps)))
    (all-from IsIndex n (indices (property_keys ps)) (index-all (property_keys ps))))
