-- The array indices that a shorter length leaves out are those of the definition, whether they are looked up one by one
-- or taken from all keys in order.
use Rattle.std.proofs.Common.{◌≡◌, ℕ, zero, suc, ◌+◌, ◌-◌, ◌^◌, ◌<◌, ◌≤◌, Bool, true, false, not, ◌&&◌, ◌||◌, nat_eq, nat_lt, nat_le, List, [], ◌∷◌, ◌++◌, map, Option, Some, None, slice_get, if◌then◌else◌, refl, sym, ap, ◌∙◌, arith, true≢false, subst, decimal, option_to_list}
use Rattle.std.specs.Prelude.{All}
use Rattle.std.specs.List.{filter, IsDistinct, AllByRecursion}
use Rattle.std.specs.Map.{keys_of}
use Rattle.std.specs.Str.{bytes_eq as same_text}
use Rattle.std.proofs.lemmas.Slice.Eq.{bytes_eq-Decides}
use Rattle.std.proofs.lemmas.Option.{slice_get-get_or}
use Rattle.std.proofs.lemmas.Bool.{leb-true, ltb-true, ltb-false, lt-ltb, le-ltb, le-leb, eqb-true, eqb-false, eq-eqb, ne_eqb}
use Rattle.std.proofs.lemmas.List.Elements.{All-head, All-tail, All-weaker, All-filter, All-map, filter_passes}
use Rattle.mb_base.specs.declared.value.Key.{Key}
use Rattle.mb_base.specs.declared.value.Key.TheVariants.{Text, Symbol}
use Rattle.mb_base.specs.declared.value.StrId.{StrId}
use Rattle.mb_base.specs.declared.value.Value.{Value}
use Rattle.mb_desc.specs.declared.descriptor.Full.{Full}
use Rattle.mb_text.specs.Index.{index_of as spelled_index}
use Rattle.mb_text.specs.Texts.{AreDistinct, has_text, text_at}
use Rattle.mb_text.proofs.Indices.{decimal-index_of}
use Rattle.mb_text.proofs.WithText.{one_place}
use Rattle.mb_props.specs.Table.{same_key, found, HasDistinctKeys}
use Rattle.mb_props.specs.KeyOrder.{index_of, has_index, is_array_index, IsInKeyOrder}
use Rattle.mb_props.proofs.Order.{filter-same, filter-both, filter-none}
use Rattle.mb_world.specs.Arrays.{indices_from}
use Rattle.mb_world.specs.Data.{Data}
use Rattle.mb_world.specs.Formed.{IsBelow}
use Rattle.mb_world.specs.Ids.{KeyIn, PropertyIn}
use Rattle.mb_ordinary.proofs.Sorting.{in_order, in-order, are-indices, All-in_order, indexed, indices-are, Rises, Rises-in_order, at_index, at-index}
use Rattle.mb_world.proofs.SameKeys.{own-equal}
use Rattle.mb_array.specs.machine.Cutting.{is_from, AreIndicesFrom}
use Rattle.mb_array.proofs.Shrinking.{keys-in, indices-from}

-- ---- from all keys in order

twice : (a b : Bool) → a && (a && b) ≡ a && b
twice true b = refl
twice false b = refl

module _ (d : Data) (distinct : AreDistinct d.texts) where
  pub listing : (n : ℕ) (ps : List (Key × Full Value)) (from : List Key) → All (PropertyIn d) ps → from ≡ filter (is_from n) (in_order (keys_of ps)) → AreIndicesFrom d n ps from
  listing n ps from g e =
      let ks : List Key = keys_of ps in
      let in_ks : All (KeyIn d) ks = keys-in d ps g in
      record {
        listed = ap (map (indexed d distinct)) e ∙ sym (ap (indices_from n) (indices-are d distinct ks in_ks) ∙ indices-from d distinct n (in_order ks) (are-indices ks));
        there = subst (All (KeyIn d)) (sym e) (All-filter (is_from n) (KeyIn d) (in_order ks) (All-in_order (KeyIn d) ks in_ks));
        high = subst (All (λ k. is_from n k ≡ true)) (sym e) (filter_passes (is_from n) (in_order ks));
      }

  pub from-ordered : (n : ℕ) (ps : List (Key × Full Value)) (ordered from : List Key) → All (PropertyIn d) ps → HasDistinctKeys ps → IsInKeyOrder (keys_of ps) ordered → from ≡ filter (is_from n) ordered → AreIndicesFrom d n ps from
  from-ordered n ps ordered from g u o e =
      listing n ps from g
      (e ∙ sym (filter-both (is_from n) is_array_index ordered ∙ filter-same _ _ (λ k. twice (is_array_index k) (nat_le n (index_of k))) ordered)
      ∙ ap (filter (is_from n)) (in-order d distinct (keys_of ps) ordered (keys-in d ps g) u o))

-- ---- one by one

-- an array index that isn't below n, and below i
abbrev pub is_within : ℕ → ℕ → Key → Bool
is_within n i k = is_from n k && nat_lt (index_of k) i

no-one : (a b : Bool) → b ≡ false → a && b ≡ false
no-one true b e = e
no-one false b e = refl

pub within-none : (n : ℕ) (ks : List Key) → filter (is_within n n) ks ≡ []
within-none n ks = filter-none (is_within n n) (λ k. by k (nat_le n (index_of k)) refl) ks
  where
    by : (k : Key) (b : Bool) → nat_le n (index_of k) ≡ b → is_within n n k ≡ false
    by k true e = let l = leb-true n (index_of k) e in no-one (is_from n k) _ (le-ltb (index_of k) n (omega (arith, l)))
    by k false e = rw e (ap (λ z. z && nat_lt (index_of k) n) (no-one (is_array_index k) false refl))

past : (n i : ℕ) (ks : List Key) → All (λ k. i ≤ index_of k) ks → filter (is_within n i) ks ≡ []
past n i [] h = refl
past n i (k ∷ ks) h =
    let l : i ≤ index_of k = All-head (λ z. i ≤ index_of z) k ks h in
    let e : nat_lt (index_of k) i ≡ false = le-ltb (index_of k) i (omega (arith, l)) in
    let f : is_within n i k ≡ false = no-one (is_from n k) _ e in
    rw f (past n i ks (All-tail (λ z. i ≤ index_of z) k ks h))

within-next : (n i : ℕ) (ks : List Key) → n ≤ i → Rises ks → All (λ k. is_array_index k ≡ true) ks → filter (is_within n (i + 1)) ks ≡ filter (is_within n i) ks ++ filter (at_index i) ks
within-next n i [] le h a = refl
within-next n i (k ∷ ks) le h a = by (nat_lt (index_of k) i) (nat_eq (index_of k) i) refl refl (within-next n i ks le h.1 (All-tail (λ z. is_array_index z ≡ true) k ks a))
  where
    here : is_array_index k ≡ true
    here = All-head (λ z. is_array_index z ≡ true) k ks a

    by : (b c : Bool) → nat_lt (index_of k) i ≡ b → nat_eq (index_of k) i ≡ c → filter (is_within n (i + 1)) ks ≡ filter (is_within n i) ks ++ filter (at_index i) ks → filter (is_within n (i + 1)) (k ∷ ks) ≡ filter (is_within n i) (k ∷ ks) ++ filter (at_index i) (k ∷ ks)
    by true c e f r =
        let l : index_of k < i = ltb-true (index_of k) i e in
        let next : nat_lt (index_of k) (i + 1) ≡ true = lt-ltb (index_of k) (i + 1) (omega (arith, l)) in
        let other : nat_eq (index_of k) i ≡ false = ne_eqb (index_of k) i (λ q. omega (arith, l, q)) in
        below (nat_le n (index_of k)) refl next other
      where
        below : (x : Bool) → nat_le n (index_of k) ≡ x → nat_lt (index_of k) (i + 1) ≡ true → nat_eq (index_of k) i ≡ false → filter (is_within n (i + 1)) (k ∷ ks) ≡ filter (is_within n i) (k ∷ ks) ++ filter (at_index i) (k ∷ ks)
        below true q next other = rw (here, q, e, next, other) (ap (λ z. k ∷ z) r)
        below false q next other = rw (here, q, other) r
    by false true e f r =
        let is : index_of k ≡ i = eqb-true (index_of k) i f in
        let next : nat_lt (index_of k) (i + 1) ≡ true = lt-ltb (index_of k) (i + 1) (omega (arith, is)) in
        let up : nat_le n (index_of k) ≡ true = le-leb n (index_of k) (omega (arith, is, le)) in
        let none : filter (is_within n i) ks ≡ [] = past n i ks (All-weaker (λ z. index_of k ≤ index_of z) (λ z. i ≤ index_of z) (λ z m. omega (arith, m, is)) ks h.0) in
        rw (here, up, e, next, f, none) (ap (λ z. k ∷ z) (r ∙ ap (λ z. z ++ filter (at_index i) ks) none))
    by false false e f r =
        let l : i ≤ index_of k = ltb-false (index_of k) i e in
        let ne : index_of k ≡ i → ⊥ = eqb-false (index_of k) i f in
        let next : nat_lt (index_of k) (i + 1) ≡ false = le-ltb (index_of k) (i + 1) (omega (arith, l, ne)) in
        let now : is_within n i k ≡ false = no-one (is_from n k) _ e in
        let after : is_within n (i + 1) k ≡ false = no-one (is_from n k) _ next in
        rw (now, after, f) r

-- the index of an element is told apart from no index
at-has : (i : ℕ) → i < 2 ^ 32 - 1 → (k : Key) → is_array_index k && at_index i k ≡ has_index i k
at-has i l (Text a j) = by (nat_eq j i) refl
  where
    by : (b : Bool) → nat_eq j i ≡ b → not (nat_eq j (2 ^ 32 - 1)) && b ≡ b
    by false e = no-one (not (nat_eq j (2 ^ 32 - 1))) false refl
    by true e =
        let is : j ≡ i = eqb-true j i e in
        let ne : nat_eq j (2 ^ 32 - 1) ≡ false = ne_eqb j (2 ^ 32 - 1) (λ q. omega (arith, q, is, l)) in
        rw ne refl
at-has i l (Symbol a) = refl

-- with one more index, its element is added
pub within-more : (d : Data) (distinct : AreDistinct d.texts) (n i : ℕ) (ps : List (Key × Full Value)) → All (PropertyIn d) ps → HasDistinctKeys ps → n ≤ i → i < 2 ^ 32 - 1 → (k : Option Key) → filter (has_index i) (keys_of ps) ≡ option_to_list k → filter (is_within n (i + 1)) (in_order (keys_of ps)) ≡ filter (is_within n i) (in_order (keys_of ps)) ++ option_to_list k
within-more d distinct n i ps g u le l k e =
    let ks : List Key = keys_of ps in
    let one : filter (at_index i) (in_order ks) ≡ option_to_list k =
    at-index d distinct i ks (keys-in d ps g) u ∙ filter-both (at_index i) is_array_index ks ∙ filter-same _ _ (at-has i l) ks ∙ e in
    within-next n i (in_order ks) le (Rises-in_order ks) (are-indices ks) ∙ ap (λ z. filter (is_within n i) (in_order ks) ++ z) one

-- all are below the length
is-below : (old : ℕ) (k : Key) → IsBelow old k → is_array_index k ≡ true → nat_lt (index_of k) old ≡ true
is-below old (Text a j) h e = lt-ltb j old (h (λ q. true≢false (sym e ∙ ap not (eq-eqb j (2 ^ 32 - 1) q))))
is-below old (Symbol a) h e = absurd (true≢false (sym e))

within-all : (n old : ℕ) (ks : List Key) → All (IsBelow old) ks → All (λ k. is_array_index k ≡ true) ks → filter (is_within n old) ks ≡ filter (is_from n) ks
within-all n old [] h a = refl
within-all n old (k ∷ ks) h a =
    let low : nat_lt (index_of k) old ≡ true = is-below old k (All-head (IsBelow old) k ks h) (All-head (λ z. is_array_index z ≡ true) k ks a) in
    let r = within-all n old ks (All-tail (IsBelow old) k ks h) (All-tail (λ z. is_array_index z ≡ true) k ks a) in
    by low r (is_from n k) refl
  where
    by : nat_lt (index_of k) old ≡ true → filter (is_within n old) ks ≡ filter (is_from n) ks → (b : Bool) → is_from n k ≡ b → filter (is_within n old) (k ∷ ks) ≡ filter (is_from n) (k ∷ ks)
    by low r true e = rw (e, low) (ap (λ z. k ∷ z) r)
    by low r false e = rw e r

pub one-by-one : (d : Data) (distinct : AreDistinct d.texts) (n old : ℕ) (ps : List (Key × Full Value)) (from : List Key) → All (PropertyIn d) ps → All (λ p. IsBelow old p.0) ps → from ≡ filter (is_within n old) (in_order (keys_of ps)) → AreIndicesFrom d n ps from
one-by-one d distinct n old ps from g below e =
    let ks : List Key = keys_of ps in
    listing d distinct n ps from g
    (e ∙ within-all n old (in_order ks) (All-in_order (IsBelow old) ks (All-map (IsBelow old) (λ (p : Key × Full Value). p.0) ps below)) (are-indices ks))

-- ---- the element of an index

filter-like : (P : Key → Type 0) (p q : Key → Bool) → ((k : Key) → P k → p k ≡ q k) → (ks : List Key) → All P ks → filter p ks ≡ filter q ks
filter-like P p q same [] h = refl
filter-like P p q same (k ∷ ks) h =
    let e : p k ≡ q k = same k (All-head P k ks h) in
    rw e (ap (λ z. if q k then k ∷ z else z) (filter-like P p q same ks (All-tail P k ks h)))

same-text : (t : List ℕ) → same_text t t ≡ true
same-text t = (bytes_eq-Decides t t).1 refl

-- a text that is there is found
text-there : (texts : List (List ℕ)) (i : ℕ) (t : List ℕ) → slice_get texts i ≡ Some t → has_text texts t ≡ true
text-there [] i t e = cc
text-there (x ∷ texts) zero t e = let is : x ≡ t = cc in rw (is, same-text t) refl
text-there (x ∷ texts) (suc i) t e = by (same_text t x) (text-there texts i t e)
  where
    by : (b : Bool) → has_text texts t ≡ true → (b || has_text texts t) ≡ true
    by true r = refl
    by false r = r

-- the text of an index is its decimal
spelled : (d : Data) (a : StrId) (j i : ℕ) → KeyIn d (Text a j) → j ≡ i → i < 2 ^ 32 - 1 → slice_get d.texts a.0 ≡ Some (decimal i)
spelled d a j i h e l =
    let index : i ≡ spelled_index (text_at d.texts a) = sym e ∙ h.1 in
    let text : decimal i ≡ text_at d.texts a = ap decimal index ∙ decimal-index_of (text_at d.texts a) (omega (arith, index, l)) in
    slice_get-get_or d.texts a.0 [] h.0 ∙ ap Some (sym text)

no-such : (d : Data) (i : ℕ) → i < 2 ^ 32 - 1 → has_text d.texts (decimal i) ≡ false → (k : Key) → KeyIn d k → has_index i k ≡ false
no-such d i l none (Text a j) h = by (nat_eq j i) refl
  where
    by : (b : Bool) → nat_eq j i ≡ b → b ≡ false
    by false e = refl
    by true e = absurd (true≢false (sym (text-there d.texts a.0 (decimal i) (spelled d a j i h (eqb-true j i e) l)) ∙ none))
no-such d i l none (Symbol a) h = refl

the-same : (d : Data) (distinct : AreDistinct d.texts) (i : ℕ) (t : StrId) → i < 2 ^ 32 - 1 → slice_get d.texts t.0 ≡ Some (decimal i) → (k : Key) → KeyIn d k → has_index i k ≡ same_key (Text t i) k
the-same d distinct i t l at (Text a j) h = by (nat_eq j i) refl
  where
    by : (b : Bool) → nat_eq j i ≡ b → b ≡ nat_eq t.0 a.0 && nat_eq i j
    by false e = let ne : j ≡ i → ⊥ = eqb-false j i e in let f : nat_eq i j ≡ false = ne_eqb i j (λ q. ne (sym q)) in sym (no-one (nat_eq t.0 a.0) (nat_eq i j) f)
    by true e =
        let is : j ≡ i = eqb-true j i e in
        let f : nat_eq i j ≡ true = eq-eqb i j (sym is) in
        let id : t.0 ≡ a.0 = one_place d.texts t.0 a.0 (decimal i) distinct at (spelled d a j i h is l) in
        let g : nat_eq t.0 a.0 ≡ true = eq-eqb t.0 a.0 id in
        rw (g, f) refl
the-same d distinct i t l at (Symbol a) h = refl

none-else : (key : Key) (ks : List Key) → AllByRecursion (λ q. same_key key q ≡ false) ks → filter (same_key key) ks ≡ []
none-else key [] h = refl
none-else key (k ∷ ks) h = let e : same_key key k ≡ false = h.0 in rw e (none-else key ks h.1)

found-some : (ps : List (Key × Full Value)) (key : Key) (p : Full Value) → HasDistinctKeys ps → found ps key ≡ Some p → filter (same_key key) (keys_of ps) ≡ key ∷ []
unfolding IsDistinct
found-some [] key p u e = cc
found-some (q ∷ ps) key p u e = by (same_key key q.0) refl (found-some ps key p u.1)
  where
    by : (b : Bool) → same_key key q.0 ≡ b → (found ps key ≡ Some p → filter (same_key key) (keys_of ps) ≡ key ∷ []) → filter (same_key key) (keys_of (q ∷ ps)) ≡ key ∷ []
    by true f r =
        let is : key ≡ q.0 = own-equal key q.0 f in
        let none : filter (same_key key) (keys_of ps) ≡ [] = ap (λ k. filter (same_key k) (keys_of ps)) is ∙ none-else q.0 (keys_of ps) u.0 in
        rw (f, none) (ap (λ k. k ∷ []) (sym is))
    by false f r = let g : found ps key ≡ Some p = rw f at e in rw f (r g)

found-none : (ps : List (Key × Full Value)) (key : Key) → found ps key ≡ None → filter (same_key key) (keys_of ps) ≡ []
found-none [] key e = refl
found-none (q ∷ ps) key e = by (same_key key q.0) refl (found-none ps key)
  where
    by : (b : Bool) → same_key key q.0 ≡ b → (found ps key ≡ None → filter (same_key key) (keys_of ps) ≡ []) → filter (same_key key) (keys_of (q ∷ ps)) ≡ []
    by true f r = let bad : Some q.1 ≡ None = rw f at e in cc
    by false f r = let g : found ps key ≡ None = rw f at e in rw f (r g)

module _ (d : Data) (distinct : AreDistinct d.texts) (ps : List (Key × Full Value)) (g : All (PropertyIn d) ps) (i : ℕ) (l : i < 2 ^ 32 - 1) where
  pub no-text : has_text d.texts (decimal i) ≡ false → filter (has_index i) (keys_of ps) ≡ []
  no-text none = filter-like (KeyIn d) (has_index i) (λ k. false) (no-such d i l none) (keys_of ps) (keys-in d ps g) ∙ filter-none (λ k. false) (λ k. refl) (keys_of ps)

  by-key : (t : StrId) → slice_get d.texts t.0 ≡ Some (decimal i) → filter (has_index i) (keys_of ps) ≡ filter (same_key (Text t i)) (keys_of ps)
  by-key t at = filter-like (KeyIn d) (has_index i) (same_key (Text t i)) (the-same d distinct i t l at) (keys_of ps) (keys-in d ps g)

  pub an-element : (t : StrId) (p : Full Value) → slice_get d.texts t.0 ≡ Some (decimal i) → HasDistinctKeys ps → found ps (Text t i) ≡ Some p → filter (has_index i) (keys_of ps) ≡ Text t i ∷ []
  an-element t p at u e = by-key t at ∙ found-some ps (Text t i) p u e

  pub no-element : (t : StrId) → slice_get d.texts t.0 ≡ Some (decimal i) → found ps (Text t i) ≡ None → filter (has_index i) (keys_of ps) ≡ []
  no-element t at e = by-key t at ∙ found-none ps (Text t i) e
