-- Tables of a world and what they stand for: keys that go, indices, and the length of an array.
use Rattle.std.proofs.Common.{◌&&◌, ◌*◌, ◌+◌, ◌-◌, ◌<◌, ◌^◌, ◌≡◌, ◌≢◌, ◌∙◌, ◌∷◌, Bool, List, None, Option, Some, [], ap}
use Rattle.std.proofs.Common.{arith, false, map, nat_eq, nat_le, not, refl, subst, sym, true, true≢false, ℕ, ℤ}
use Rattle.std.proofs.lemmas.Bool.Decides.{nat_tests}
use Rattle.std.proofs.lemmas.List.Elements.{All-cons, All-head, All-nil, All-tail}
use Rattle.std.specs.List.{AllByRecursion, IsDistinct}
use Rattle.std.specs.Map.{keys_of}
use Rattle.std.specs.Prelude.{All, if◌then◌else◌}
use Rattle.mb_base.specs.declared.value.Key.{Key}
use Rattle.mb_base.specs.declared.value.Key.TheVariants as k
use Rattle.mb_base.specs.declared.value.Value.{Value}
use Rattle.mb_base.specs.declared.value.Value.TheVariants as v
use Rattle.mb_call.proofs.Cutting.{AreApart, AreBelow}
use Rattle.mb_desc.specs.Descriptors.{is_fixed, property_is}
use Rattle.mb_desc.specs.declared.descriptor.Full.{Full}
use Rattle.mb_desc.specs.declared.descriptor.Full.TheVariants.{Accessor, Datum}
use Rattle.mb_ordinary.proofs.Spelled.{index_if, key-index}
use Rattle.mb_parts.proofs.Viewing.{names-distinct}
use Rattle.mb_props.specs.Table.{same_key}
use Rattle.mb_text.specs.Texts.{AreDistinct}
use Rattle.mb_world.specs.Arrays.{shrink}
use Rattle.mb_world.specs.Data.{AtPlace, Before, Counted, Data, Hidden, Stand}
use Rattle.mb_world.specs.Formed.{IsBelow}
use Rattle.mb_world.specs.Graph.{Property}
use Rattle.mb_world.specs.Ids.{KeyIn, PropertyIn}
use Rattle.mb_world.specs.Image.{Names, Resolve, full_in, key_in, names_of, property_in, stood}
use Rattle.mb_world.specs.Key as graph
use Rattle.mb_world.specs.Key.{Named, PropertyKey, SymbolKey, at_most, digits_after, index_of_key}
use Rattle.mb_world.specs.Objects.{find_property, remove_property}
use Rattle.mb_world.specs.Value.{Whole}

-- ---- keys that go

module _ (n : Names) where
  abbrev image : List (Key × Full Value) → List Property
  image ps = map (property_in n) ps

  abbrev drop_key : PropertyKey → List (Key × Full Value) → List (Key × Full Value)
  drop_key key [] = []
  drop_key key (p ∷ ps) = if graph.same_key (key_in n p.0) key then ps else p ∷ drop_key key ps

  drop-image : (key : PropertyKey) (ps : List (Key × Full Value))
      → image (drop_key key ps) ≡ remove_property key (image ps)
  drop-image key [] = refl
  drop-image key (p ∷ ps) = by (graph.same_key (key_in n p.0) key) (drop-image key ps)
    where
      by : (b : Bool) → image (drop_key key ps) ≡ remove_property key (image ps)
          → image (if b then ps else p ∷ drop_key key ps)
          ≡ (if b then image ps else property_in n p ∷ remove_property key (image ps))
      by true r = refl
      by false r = ap (λ qs. property_in n p ∷ qs) r

  -- what is left of a table that is cut
  abbrev pub kept : List (ℕ × PropertyKey) → ℕ → List (Key × Full Value) → List (Key × Full Value)
  kept [] m ps = ps
  kept (i ∷ is) m ps =
      if property_is is_fixed (find_property i.1 (image ps)) then ps else kept is m (drop_key i.1 ps)

  pub kept-image : (is : List (ℕ × PropertyKey)) (m : ℕ) (ps : List (Key × Full Value))
      → map (property_in n) (kept is m ps) ≡ (shrink is m (map (property_in n) ps)).left
  kept-image [] m ps = refl
  kept-image (i ∷ is) m ps =
      by (property_is is_fixed (find_property i.1 (image ps))) refl
      (kept-image is m (drop_key i.1 ps) ∙ ap (λ qs. (shrink is m qs).left) (drop-image i.1 ps))
    where
      by : (b : Bool) → property_is is_fixed (find_property i.1 (image ps)) ≡ b
          → image (kept is m (drop_key i.1 ps)) ≡ (shrink is m (remove_property i.1 (image ps))).left
          → image (kept (i ∷ is) m ps) ≡ (shrink (i ∷ is) m (image ps)).left
      by true e r = rw e refl
      by false e r = rw e r

  module _ (P : Key × Full Value → Type 0) where
    drop-all : (key : PropertyKey) (ps : List (Key × Full Value)) → All P ps → All P (drop_key key ps)
    drop-all key [] h = h
    drop-all key (p ∷ ps) h =
        by (graph.same_key (key_in n p.0) key) (drop-all key ps (All-tail P p ps h))
      where
        by : (b : Bool) → All P (drop_key key ps) → All P (if b then ps else p ∷ drop_key key ps)
        by true r = All-tail P p ps h
        by false r = All-cons P p (drop_key key ps) (All-head P p ps h) r

    pub kept-all : (is : List (ℕ × PropertyKey)) (m : ℕ) (ps : List (Key × Full Value)) → All P ps
        → All P (kept is m ps)
    kept-all [] m ps h = h
    kept-all (i ∷ is) m ps h =
        by (property_is is_fixed (find_property i.1 (image ps))) (kept-all is m (drop_key i.1 ps) (drop-all i.1 ps h))
      where
        by : (b : Bool) → All P (kept is m (drop_key i.1 ps))
            → All P (if b then ps else kept is m (drop_key i.1 ps))
        by true r = h
        by false r = r

-- ---- indices

-- an array index is below 2^32 - 1
single-limit : (c i : ℕ) → digits_after 0 (c ∷ []) ≡ Some i → i < 2 ^ 32 - 1
single-limit c i e = by (nat_le 48 c) (nat_le c 57) refl e
  where
    by : (a b : Bool) → nat_le c 57 ≡ b → (if a && b then Some (0 * 10 + (c - 48)) else None) ≡ Some i
        → i < 2 ^ 32 - 1
    by true true q h = (let z : 0 * 10 + (c - 48) ≡ i = cc in grind (arith, nat_tests))
    by true false q h = cc
    by false b q h = cc

most-limit : (o : Option ℕ) (i : ℕ) → at_most 4294967294 o ≡ Some i → i < 2 ^ 32 - 1
most-limit None i e = cc
most-limit (Some m) i e = by (nat_le m 4294967294) refl e
  where
    by : (b : Bool) → nat_le m 4294967294 ≡ b → (if b then Some m else None) ≡ Some i → i < 2 ^ 32 - 1
    by true q h = (let z : m ≡ i = cc in grind (arith, nat_tests))
    by false q h = cc

more-limit : (t : List ℕ) (b : Bool) (i : ℕ) → (if b then None else at_most 4294967294 (digits_after 0 t)) ≡ Some i
    → i < 2 ^ 32 - 1
more-limit t true i e = cc
more-limit t false i e = most-limit (digits_after 0 t) i e

pub index-limit : (key : PropertyKey) (i : ℕ) → index_of_key key ≡ Some i → i < 2 ^ 32 - 1
index-limit (Named []) i e = cc
index-limit (Named (c ∷ [])) i e = single-limit c i e
index-limit (Named (c ∷ d ∷ cs)) i e = more-limit (c ∷ d ∷ cs) _ i e
index-limit (SymbolKey s) i e = cc

index-some : (m i : ℕ) → index_if m ≡ Some i → m ≡ i
index-some m i e = by (nat_eq m (2 ^ 32 - 1)) e
  where
    by : (b : Bool) → (if not b then Some m else None) ≡ Some i → m ≡ i
    by true h = cc
    by false h = cc

index-there : (m : ℕ) → m ≢ 2 ^ 32 - 1 → index_if m ≡ Some m
index-there m h = (let b : nat_eq m (2 ^ 32 - 1) ≡ false = grind (arith, nat_tests) in rw b refl)

no-limit : (i : ℕ) → nat_eq i (2 ^ 32 - 1) ≡ false → i ≢ 2 ^ 32 - 1
no-limit i q = λ s.
    let t : nat_eq i (2 ^ 32 - 1) ≡ true = grind (arith, nat_tests) in
    true≢false (sym t ∙ q)

module _ (d : Data) where
  pub below-in : (m : ℕ) (key : Key) → KeyIn d key → IsBelow m key → (j : ℕ)
      → index_of_key (key_in (names_of d) key) ≡ Some j
      → j < m
  below-in m (k.Text t i) h b j e =
      by (nat_eq i (2 ^ 32 - 1)) refl (sym (key-index d (k.Text t i) h) ∙ e)
    where
      by : (c : Bool) → nat_eq i (2 ^ 32 - 1) ≡ c → (if not c then Some i else None) ≡ Some j → j < m
      by true q h = cc
      by false q h =
          (let z : i ≡ j = cc in let l : i < m = b (no-limit i q) in omega (arith, l, z))
  below-in m (k.Symbol s) h b j e = cc

  pub below-out : (m : ℕ) (key : Key) → KeyIn d key
      → ((j : ℕ) → index_of_key (key_in (names_of d) key) ≡ Some j → j < m)
      → IsBelow m key
  below-out m (k.Text t i) h f = λ s. f i (key-index d (k.Text t i) h ∙ index-there i s)
  below-out m (k.Symbol s) h f = tt

  pub all-in : (m : ℕ) (ps : List (Key × Full Value)) → All (PropertyIn d) ps → All (λ p. IsBelow m p.0) ps
      → AreBelow m (map (property_in (names_of d)) ps)
  all-in m [] i h = tt
  all-in m (p ∷ ps) i h = (
    below-in m p.0 (All-head (PropertyIn d) p ps i).0 (All-head (λ q. IsBelow m q.0) p ps h),
    all-in m ps (All-tail (PropertyIn d) p ps i) (All-tail (λ q. IsBelow m q.0) p ps h),
  )

  pub all-out : (m : ℕ) (ps : List (Key × Full Value)) → All (PropertyIn d) ps
      → AreBelow m (map (property_in (names_of d)) ps) → All (λ p. IsBelow m p.0) ps
  all-out m [] i h = All-nil (λ p. IsBelow m p.0)
  all-out m (p ∷ ps) i h =
      All-cons (λ q. IsBelow m q.0) p ps (below-out m p.0 (All-head (PropertyIn d) p ps i).0 h.0)
      (all-out m ps (All-tail (PropertyIn d) p ps i) h.1)

-- ---- distinct keys

apart-by : (ps : List Property) → IsDistinct graph.same_key (map (λ (p : Property). p.key) ps) → AreApart ps
unfolding IsDistinct
apart-by [] h = tt
apart-by (p ∷ ps) h = (each p ps h.0, apart-by ps h.1)
  where
    each : (p : Property) (ps : List Property)
        → AllByRecursion (λ y. graph.same_key p.key y ≡ false) (map (λ (p : Property). p.key) ps)
        → AllByRecursion (λ (q : Property). graph.same_key p.key q.key ≡ false) ps
    each p [] h = tt
    each p (q ∷ qs) h = (h.0, each p qs h.1)

keys-are : (n : Names) (ps : List (Key × Full Value))
    → keys_of (map (λ (p : Key × Full Value). (key_in n p.0, full_in n p.1)) ps)
    ≡ map (λ (p : Property). p.key) (map (property_in n) ps)
keys-are n [] = refl
keys-are n (p ∷ ps) = ap (λ ks. key_in n p.0 ∷ ks) (keys-are n ps)

pub are-apart : (d : Data) → AreDistinct d.texts → (ps : List (Key × Full Value)) → All (PropertyIn d) ps
    → IsDistinct same_key (keys_of ps) → AreApart (map (property_in (names_of d)) ps)
are-apart d u ps i h =
    apart-by (map (property_in (names_of d)) ps)
    (subst (IsDistinct graph.same_key) (keys-are (names_of d) ps) (names-distinct d u ps i h))

-- ---- whole numbers

module _ (n : Names) where
  no-whole : (i : ℕ) (z : ℤ) (s : Option Stand) → stood n i s ≡ Whole z → ⊥
  no-whole i z None e = cc
  no-whole i z (Some Counted) e = cc
  no-whole i z (Some (AtPlace place)) e = cc
  no-whole i z (Some (Before behind)) e = cc
  no-whole i z (Some Hidden) e = cc

  whole-out : (y : Value) (z : ℤ) → Resolve n y ≡ Whole z → y ≡ v.Whole z
  whole-out (v.Whole a) z e = let q : a ≡ z = cc in ap v.Whole q
  whole-out v.Undefined z e = cc
  whole-out v.Null z e = cc
  whole-out (v.Bool b) z e = cc
  whole-out (v.Text t) z e = cc
  whole-out (v.Symbol t) z e = cc
  whole-out (v.Object a) z e = absurd (no-whole a.0 z _ e)

  -- a property that stands for a whole number has it
  pub datum-out : (f : Full Value) (z : ℤ) (w e c : Bool) → full_in n f ≡ Datum (Whole z) w e c
      → f ≡ Datum (v.Whole z) w e c
  datum-out (Datum y a b s) z w e c h =
      let p : Resolve n y ≡ Whole z = cc in
      let q : y ≡ v.Whole z = whole-out y z p in
      let x : a ≡ w = cc in
      let t : b ≡ e = cc in
      let r : s ≡ c = cc in
      cc
  datum-out (Accessor g s a b) z w e c h = cc
