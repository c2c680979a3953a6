-- What a table loses past a shorter length is what the object loses that it stands for.
use Rattle.std.proofs.Common.{◌≡◌, ℕ, ◌+◌, ◌-◌, ◌^◌, ◌<◌, ◌≤◌, Bool, true, false, ◌&&◌, nat_eq, nat_le, List, [], ◌∷◌, ◌++◌, map, reverse, Option, Some, None, option_map, if◌then◌else◌, refl, sym, ap, ◌∙◌, arith, true≢false, get_or}
use Rattle.std.specs.Prelude.{All}
use Rattle.std.specs.List.{filter}
use Rattle.std.specs.Map.{keys_of}
use Rattle.std.proofs.lemmas.Bool.{leb-true, ne_eqb, eq-eqb}
use Rattle.std.proofs.lemmas.List.Elements.{All-cons, All-head, All-tail}
use Rattle.std.proofs.lemmas.List.Sorted.{All-permutation, IsPermutation-reverse}
use Rattle.std.proofs.lemmas.List.{map-append}
use Rattle.std.proofs.lemmas.Grind.{reverse_onto}
use Rattle.mb_base.specs.declared.value.Key.{Key}
use Rattle.mb_base.specs.declared.value.Key.TheVariants.{Text, Symbol}
use Rattle.mb_base.specs.declared.value.StrId.{StrId}
use Rattle.mb_base.specs.declared.value.Value.{Value}
use Rattle.mb_desc.specs.declared.descriptor.Full.{Full}
use Rattle.mb_desc.specs.declared.descriptor.Full.TheVariants.{Datum, Accessor}
use Rattle.mb_text.specs.Index.{index_of as spelled_index}
use Rattle.mb_text.specs.Texts.{AreDistinct, text_at}
use Rattle.mb_text.proofs.Indices.{index_of-le}
use Rattle.mb_props.specs.Table.{same_key, found, without}
use Rattle.mb_props.specs.KeyOrder.{index_of, is_array_index}
use Rattle.mb_world.specs.Graph.{Thing}
use Rattle.mb_world.specs.Objects.{property_keys, find_property}
use Rattle.mb_desc.specs.Descriptors.{is_fixed, property_is}
use Rattle.mb_world.specs.Arrays.{Shrunk, shrink, shrunk, indices_from}
use Rattle.mb_world.specs.Key.{indices}
use Rattle.mb_world.specs.Data.{Data}
use Rattle.mb_world.specs.Ids.{KeyIn, PropertyIn}
use Rattle.mb_world.specs.Image.{Names, names_of, full_in, key_in, property_in}
use Rattle.mb_world.proofs.Worlds.{All-without}
use Rattle.mb_array.specs.machine.Cutting.{is_from, AreIndicesFrom, Cut, cut_of}
use Rattle.mb_world.proofs.SameKeys.{find-found, remove-without, own-equal}
use Rattle.mb_ordinary.proofs.Sorting.{low-index, indexed}

and-second : (a b : Bool) → a && b ≡ true → b ≡ true
and-second true b h = h
and-second false b h = absurd (true≢false (sym h))

fixed-in : (n : Names) (p : Option (Full Value)) → property_is is_fixed (option_map (full_in n) p) ≡ property_is is_fixed p
fixed-in n None = refl
fixed-in n (Some (Datum x w e c)) = refl
fixed-in n (Some (Accessor g s e c)) = refl

reverse-map : {A B : Type 0} (f : A → B) (xs : List A) → reverse (map f xs) ≡ map f (reverse xs)
reverse-map f [] = refl
reverse-map f (x ∷ xs) =
    reverse_onto (map f xs) (f x) [] ∙ ap (λ (r : List _). r ++ (f x ∷ [])) (reverse-map f xs) ∙ sym (map-append f (reverse xs) (x ∷ [])) ∙ ap (map f) (sym (reverse_onto xs x []))

-- the keys of the table are those of the object
keys-map : (n : Names) (ps : List (Key × Full Value)) → property_keys (map (property_in n) ps) ≡ map (key_in n) (keys_of ps)
keys-map n [] = refl
keys-map n (p ∷ ps) = ap (λ r. key_in n p.0 ∷ r) (keys-map n ps)

pub keys-in : (d : Data) (ps : List (Key × Full Value)) → All (PropertyIn d) ps → All (KeyIn d) (keys_of ps)
keys-in d [] h = λ k x l. absurd (omega arith)
keys-in d (p ∷ ps) h = All-cons (KeyIn d) p.0 (keys_of ps) (All-head (PropertyIn d) p ps h).0 (keys-in d ps (All-tail (PropertyIn d) p ps h))

-- ---- the indices from a place on

module _ (d : Data) (distinct : AreDistinct d.texts) where
  pub indices-from : (n : ℕ) (ks : List Key) → All (λ k. is_array_index k ≡ true) ks → indices_from n (map (indexed d distinct) ks) ≡ map (indexed d distinct) (filter (is_from n) ks)
  indices-from n [] h = refl
  indices-from n (k ∷ ks) h = by (nat_le n (index_of k)) refl (indices-from n ks (All-tail (λ k. is_array_index k ≡ true) k ks h))
    where
      here : is_array_index k ≡ true
      here = All-head (λ k. is_array_index k ≡ true) k ks h

      by : (b : Bool) → nat_le n (index_of k) ≡ b → indices_from n (map (indexed d distinct) ks) ≡ map (indexed d distinct) (filter (is_from n) ks) → indices_from n (map (indexed d distinct) (k ∷ ks)) ≡ map (indexed d distinct) (filter (is_from n) (k ∷ ks))
      by true e r = rw (here, e) (ap (λ z. indexed d distinct k ∷ z) r)
      by false e r = rw (here, e) r

-- ---- the cut

-- the record of the definition, over what a cut table stands for
abbrev pub shrunk_of : Names → Cut → Shrunk
shrunk_of n x = record { left = map (property_in n) x.left; length = x.length; whole = x.whole }

module _ (d : Data) (distinct : AreDistinct d.texts) where
  cut-shrinks : (ks : List Key) (n : ℕ) (ps : List (Key × Full Value)) → All (KeyIn d) ks → All (PropertyIn d) ps → shrink (map (indexed d distinct) ks) n (map (property_in (names_of d)) ps) ≡ shrunk_of (names_of d) (cut_of ks n ps)
  cut-shrinks [] n ps h g = refl
  cut-shrinks (k ∷ ks) n ps h g = by (property_is is_fixed (found ps k)) refl (cut-shrinks ks n (without ps k) (All-tail (KeyIn d) k ks h) (All-without (PropertyIn d) ps (same_key k) g))
    where
      here : KeyIn d k
      here = All-head (KeyIn d) k ks h

      test : property_is is_fixed (find_property (key_in (names_of d) k) (map (property_in (names_of d)) ps)) ≡ property_is is_fixed (found ps k)
      test = ap (property_is is_fixed) (find-found d distinct ps k g here) ∙ fixed-in (names_of d) (found ps k)

      by : (b : Bool) → property_is is_fixed (found ps k) ≡ b → shrink (map (indexed d distinct) ks) n (map (property_in (names_of d)) (without ps k)) ≡ shrunk_of (names_of d) (cut_of ks n (without ps k)) → shrink (map (indexed d distinct) (k ∷ ks)) n (map (property_in (names_of d)) ps) ≡ shrunk_of (names_of d) (cut_of (k ∷ ks) n ps)
      by true e r = rw (test, e) refl
      by false e r = rw (test, e) (ap (λ z. shrink (map (indexed d distinct) ks) n z) (sym (remove-without d distinct ps k g here)) ∙ r)

  -- what is shrunk is what is cut, over the keys as they are listed
  pub cut-is : (n : ℕ) (t : Thing) (ps : List (Key × Full Value)) (from : List Key) → t.properties ≡ map (property_in (names_of d)) ps → All (PropertyIn d) ps → AreIndicesFrom d n ps from → shrunk n t ≡ shrunk_of (names_of d) (cut_of (reverse from) n ps)
  cut-is n t ps from e g h =
      let is : indices_from n (indices (property_keys t.properties)) ≡ map (indexed d distinct) from =
      ap (λ r. indices_from n (indices (property_keys r))) e ∙ ap (λ r. indices_from n (indices r)) (keys-map (names_of d) ps) ∙ sym h.listed in
      ap (λ r. shrink (reverse r) n t.properties) is
      ∙ ap (λ r. shrink r n t.properties) (reverse-map (indexed d distinct) from)
      ∙ ap (shrink (map (indexed d distinct) (reverse from)) n) e
      ∙ cut-shrinks (reverse from) n ps (All-permutation (KeyIn d) from (reverse from) (IsPermutation-reverse from) h.there) g

-- ---- what is cut

and-first : (a b : Bool) → a && b ≡ true → a ≡ true
and-first true b h = refl
and-first false b h = absurd (true≢false (sym h))

low-key : (d : Data) (k : Key) → KeyIn d k → is_array_index k ≡ true → index_of k < 2 ^ 32 - 1
low-key d (Text a i) h e = low-index i (let z = index_of-le (text_at d.texts a) in let y : i ≡ spelled_index (text_at d.texts a) = h.1 in omega (arith, z, y)) e
low-key d (Symbol a) h e = absurd (true≢false (sym e))

pub low-keys : (d : Data) (n : ℕ) (ps : List (Key × Full Value)) (from : List Key) → AreIndicesFrom d n ps from → All (λ k. index_of k < 2 ^ 32 - 1) from
low-keys d n ps from h i e l =
    let k : Key = get_or from i e in
    low-key d k (h.there i e l) (and-first (is_array_index k) (nat_le n (index_of k)) (h.high i e l))

-- no array index is a name
pub no-name : (a : StrId) (k : Key) → index_of k < 2 ^ 32 - 1 → same_key (Text a (2 ^ 32 - 1)) k ≡ false
no-name a (Symbol b) h = refl
no-name a (Text b j) h = by (nat_eq a.0 b.0) (ne_eqb (2 ^ 32 - 1) j (λ e. omega (arith, e, h)))
  where
    by : (x : Bool) → nat_eq (2 ^ 32 - 1) j ≡ false → x && nat_eq (2 ^ 32 - 1) j ≡ false
    by true e = e
    by false e = refl

-- ---- what the cut leaves

abbrev stop : Key → List (Key × Full Value) → Cut
stop k ps = record { left = ps; length = index_of k + 1; whole = false }

-- a key that isn't cut keeps its property
found-without : (ps : List (Key × Full Value)) (k q : Key) → same_key q k ≡ false → found (without ps k) q ≡ found ps q
found-without [] k q e = refl
found-without (p ∷ ps) k q e = by (same_key k p.0) refl (found-without ps k q e)
  where
    by : (b : Bool) → same_key k p.0 ≡ b → found (without ps k) q ≡ found ps q → found (without (p ∷ ps) k) q ≡ found (p ∷ ps) q
    by true t r =
        let is : k ≡ p.0 = own-equal k p.0 t in
        let f : same_key q p.0 ≡ false = ap (same_key q) (sym is) ∙ e in
        rw (t, f) refl
    by false t r = rw t (ap (λ z. if same_key q p.0 then Some p.1 else z) r)

pub found-cut : (ks : List Key) (n : ℕ) (ps : List (Key × Full Value)) (q : Key) → All (λ k. same_key q k ≡ false) ks → found (cut_of ks n ps).left q ≡ found ps q
found-cut [] n ps q h = refl
found-cut (k ∷ ks) n ps q h = by (property_is is_fixed (found ps k)) (found-cut ks n (without ps k) q (All-tail (λ k. same_key q k ≡ false) k ks h))
  where
    by : (b : Bool) → found (cut_of ks n (without ps k)).left q ≡ found (without ps k) q → found (if b then stop k ps else cut_of ks n (without ps k)).left q ≡ found ps q
    by true r = refl
    by false r = r ∙ found-without ps k q (All-head (λ k. same_key q k ≡ false) k ks h)

-- all went exactly where the length is the one that was asked
pub cut-whole : (ks : List Key) (n : ℕ) (ps : List (Key × Full Value)) → All (λ k. is_from n k ≡ true) ks → (cut_of ks n ps).whole ≡ nat_eq (cut_of ks n ps).length n
cut-whole [] n ps h = sym (eq-eqb n n refl)
cut-whole (k ∷ ks) n ps h = by (property_is is_fixed (found ps k)) (cut-whole ks n (without ps k) (All-tail (λ k. is_from n k ≡ true) k ks h))
  where
    by : (b : Bool) → (cut_of ks n (without ps k)).whole ≡ nat_eq (cut_of ks n (without ps k)).length n → (if b then stop k ps else cut_of ks n (without ps k)).whole ≡ nat_eq (if b then stop k ps else cut_of ks n (without ps k)).length n
    by true r =
        let l : n ≤ index_of k = leb-true n (index_of k) (and-second (is_array_index k) (nat_le n (index_of k)) (All-head (λ k. is_from n k ≡ true) k ks h)) in
        sym (ne_eqb (index_of k + 1) n (λ e. omega (arith, e, l)))
    by false r = r

-- what is left had the property before
pub All-cut : (P : Key × Full Value → Type 0) (ks : List Key) (n : ℕ) (ps : List (Key × Full Value)) → All P ps → All P (cut_of ks n ps).left
All-cut P [] n ps h = h
All-cut P (k ∷ ks) n ps h = by (property_is is_fixed (found ps k)) (All-cut P ks n (without ps k) (All-without P ps (same_key k) h))
  where
    by : (b : Bool) → All P (cut_of ks n (without ps k)).left → All P (if b then stop k ps else cut_of ks n (without ps k)).left
    by true r = h
    by false r = r
