-- An array whose elements are stored one after the other is that of all of them.
use Rattle.std.proofs.Common.{◌&&◌, ◌+◌, ◌++◌, ◌-◌, ◌<◌, ◌^◌, ◌≡◌, ◌≤◌, ◌∙◌, ◌∷◌, Bool, List, None, Option, Some, []}
use Rattle.std.proofs.Common.{ap, append_assoc, arith, false, if◌then◌else◌, length, length-append, nat_le, not, pos}
use Rattle.std.proofs.Common.{refl, sym, true, ℕ}
use Rattle.std.proofs.lemmas.Bool.Decides.{nat_tests}
use Rattle.mb_desc.specs.Descriptors.{descriptor_of}
use Rattle.mb_desc.specs.Validate.{Validate}
use Rattle.mb_desc.specs.declared.descriptor.Desc.{Desc}
use Rattle.mb_desc.specs.declared.descriptor.Full.{Full}
use Rattle.mb_desc.specs.declared.descriptor.Full.TheVariants.{Datum}
use Rattle.mb_frames.proofs.Steps.{append-none}
use Rattle.mb_model.specs.Operations.Makings.{array_thing}
use Rattle.mb_parts.proofs.Lengths.{max-more}
use Rattle.mb_parts.proofs.Writing.{whole-is}
use Rattle.mb_text.proofs.Indices.{index_of-decimal}
use Rattle.mb_text.specs.Index.{index_of}
use Rattle.mb_world.proofs.Arrays.{length-no-index}
use Rattle.mb_world.proofs.SameKeys.{key-equal, key-same}
use Rattle.mb_world.specs.Arrays.{array_length, element_as, element_defined, element_stored, index_key, length_in}
use Rattle.mb_world.specs.Arrays.{length_key, put_elements}
use Rattle.mb_world.specs.Graph.{Array, Property, Thing}
use Rattle.mb_world.specs.Key.{Named, PropertyKey, SymbolKey, same_key}
use Rattle.mb_world.specs.Objects.{find_property, new_thing, put_property}
use Rattle.mb_world.specs.Ordinary.{Becomes, Refused, validated}
use Rattle.mb_world.specs.Property.{open_property}
use Rattle.mb_world.specs.Value.{Undefined, Val, Whole, decimal, same_value}

-- ---- keys of elements

abbrev units_of : PropertyKey → List ℕ
units_of (Named t) = t
units_of (SymbolKey n) = []

place-of : (i : ℕ) → i < 2 ^ 32 - 1 → index_of (decimal i) ≡ i
place-of i l = ap index_of (whole-is (pos i) (omega (arith, l))) ∙ index_of-decimal i (omega (arith, l))

apart : (j k : PropertyKey) → (j ≡ k → ⊥) → same_key j k ≡ false
apart j k n = by (same_key j k) refl
  where
    by : (b : Bool) → same_key j k ≡ b → same_key j k ≡ false
    by false e = e
    by true e = absurd (n (key-equal j k e))

elements-apart : (i n : ℕ) → i < n → n < 2 ^ 32 - 1 → same_key (index_key i) (index_key n) ≡ false
elements-apart i n l m =
    apart (index_key i) (index_key n) (λ e.
    let z : i ≡ n = sym (place-of i (omega (arith, l, m))) ∙ ap (λ k. index_of (units_of k)) e ∙ place-of n m in
    omega (arith, z, l))

length-apart : (n : ℕ) → n < 2 ^ 32 - 1 → same_key length_key (index_key n) ≡ false
length-apart n m =
    apart length_key (index_key n) (λ e.
    let z : 2 ^ 32 - 1 ≡ n = sym length-no-index ∙ ap (λ k. index_of (units_of k)) e ∙ place-of n m in
    omega (arith, z, m))

-- ---- properties

find-first : (k : PropertyKey) (p : Property) (ps : List Property) (b : Bool) → same_key p.key k ≡ b
    → find_property k (p ∷ ps) ≡ (if b then Some p.full else find_property k ps)
find-first k p ps b e = ap (λ (c : Bool). if c then Some p.full else find_property k ps) e

abbrev property : PropertyKey → Full Val → Property
property k f = record { key = k; full = f }

put-first : (k : PropertyKey) (f : Full Val) (p : Property) (ps : List Property) (b : Bool) → same_key p.key k ≡ b
    → put_property k f (p ∷ ps) ≡ (if b then property k f ∷ ps else p ∷ put_property k f ps)
put-first k f p ps b e = ap (λ (c : Bool). if c then property k f ∷ ps else p ∷ put_property k f ps) e

-- the elements from a place on
abbrev pub elements : ℕ → List Val → List Property
elements k [] = []
elements k (v ∷ vs) = property (index_key k) (open_property v) ∷ elements (k + 1) vs

abbrev pub top : ℕ → Property
top n = property length_key (Datum (Whole (pos n)) true false false)

find-none : (k n : ℕ) (vs : List Val) → k + length vs ≤ n → n < 2 ^ 32 - 1
    → find_property (index_key n) (elements k vs) ≡ None
find-none k n [] l m = refl
find-none k n (v ∷ vs) l m =
    find-first (index_key n) (property (index_key k) (open_property v)) (elements (k + 1) vs) false
    (elements-apart k n (omega (arith, l)) m)
    ∙ find-none (k + 1) n vs (omega (arith, l)) m

put-last : (k n : ℕ) (f : Full Val) (vs : List Val) → k + length vs ≤ n → n < 2 ^ 32 - 1
    → put_property (index_key n) f (elements k vs) ≡ elements k vs ++ (property (index_key n) f ∷ [])
put-last k n f [] l m = refl
put-last k n f (v ∷ vs) l m =
    put-first (index_key n) f (property (index_key k) (open_property v)) (elements (k + 1) vs) false
    (elements-apart k n (omega (arith, l)) m)
    ∙ ap (λ ps. property (index_key k) (open_property v) ∷ ps) (put-last (k + 1) n f vs (omega (arith, l)) m)

elements-more : (k n : ℕ) (vs : List Val) (v : Val) → n ≡ k + length vs
    → elements k vs ++ (property (index_key n) (open_property v) ∷ []) ≡ elements k (vs ++ (v ∷ []))
elements-more k n [] v e =
    let z : n ≡ k = omega (arith, e) in
    ap (λ (i : ℕ). property (index_key i) (open_property v) ∷ []) z
elements-more k n (u ∷ vs) v e =
    ap (λ ps. property (index_key k) (open_property u) ∷ ps) (elements-more (k + 1) n vs v (omega (arith, e)))

put-in : (n m : ℕ) (vs : List Val) (v : Val) → n ≡ length vs → n < 2 ^ 32 - 1
    → put_property (index_key n) (open_property v) (top m ∷ elements 0 vs) ≡ top m ∷ elements 0 (vs ++ (v ∷ []))
put-in n m vs v e l =
    put-first (index_key n) (open_property v) (top m) (elements 0 vs) false (length-apart n l)
    ∙ ap (λ ps. top m ∷ ps) (put-last 0 n (open_property v) vs (omega (arith, e)) l
    ∙ elements-more 0 n vs v (omega (arith, e)))

-- ---- arrays

-- an array of these elements
abbrev pub filled : ℕ → Val → List Val → Thing
filled s p vs = record (new_thing s None Array p) { properties = top (length vs) ∷ elements 0 vs }

module _ (s : ℕ) (p : Val) (vs : List Val) (v : Val) (n : ℕ) (e : n ≡ length vs) (l : n < 2 ^ 32 - 1) where
  abbrev t : Thing
  t = filled s p vs

  abbrev D : Desc Val
  D = descriptor_of (open_property v)

  its-length : array_length t ≡ (n, true)
  its-length =
      ap length_in (find-first length_key (top (length vs)) (elements 0 vs) true (key-same length_key))
      ∙ ap (λ (m : ℕ). (m, true)) (sym e)

  absent : find_property (index_key n) t.properties ≡ None
  absent =
      find-first (index_key n) (top (length vs)) (elements 0 vs) false (length-apart n l)
      ∙ find-none 0 n vs (omega (arith, e)) l

  accepted : validated t (index_key n) D ≡ Some (open_property v)
  unfolding Validate
  accepted = ap (λ (o : Option (Full Val)). Validate same_value Undefined true o D) absent

  abbrev with_top : ℕ → List Property → Thing
  with_top m ps = record (new_thing s None Array p) {
    properties =
        put_property length_key (Datum (Whole (pos m)) true false false) ps;
  }

  topped : (m : ℕ) → m ≡ length (vs ++ (v ∷ []))
      → with_top m (put_property (index_key n) (open_property v) t.properties) ≡ filled s p (vs ++ (v ∷ []))
  topped m q =
      ap (with_top m) (put-in n (length vs) vs v e l)
      ∙ ap (λ (ps : List Property). let r : Thing = record (new_thing s None Array p) { properties = ps } in r)
      (put-first length_key (Datum (Whole (pos m)) true false false) (top (length vs)) (elements 0 (vs ++ (v ∷ [])))
      true (key-same length_key))
      ∙ ap (λ (i : ℕ). let r : Thing = record (new_thing s None Array p) {
        properties = top i ∷ elements 0 (vs ++ (v ∷
            []));
      } in r) q

  -- one more element is stored
  pub filled-more : element_stored t n v ≡ Becomes (filled s p (vs ++ (v ∷ []))) true
  filled-more =
      let b : nat_le n n ≡ true = grind (arith, nat_tests) in
      let q : n + 1 ≡ length (vs ++ (v ∷ [])) = omega (arith, length-append vs (v ∷ []), e) in
      ap (element_defined t (index_key n) D n) its-length
      ∙ ap (λ (c : Bool). if c && not true then Refused else element_as t (index_key n) n (n, true)
      (validated t (index_key n) D)) b
      ∙ ap (element_as t (index_key n) n (n, true)) accepted
      ∙ ap (λ (m : ℕ). Becomes (with_top m (put_property (index_key n) (open_property v) t.properties)) true)
      (max-more n n b)
      ∙ ap (λ (u : Thing). Becomes u true) (topped (n + 1) q)

-- all of them at once
put-all : (k m : ℕ) (vs us : List Val) → k ≡ length us → k + length vs ≤ 2 ^ 32 - 1
    → put_elements k vs (top m ∷ elements 0 us) ≡ top m ∷ elements 0 (us ++ vs)
put-all k m [] us e l = ap (λ ws. top m ∷ elements 0 ws) (sym (append-none us))
put-all k m (v ∷ vs) us e l =
    ap (put_elements (k + 1) vs) (put-in k m us v e (omega (arith, l)))
    ∙ put-all (k + 1) m vs (us ++ (v ∷ [])) (omega (arith, length-append us (v ∷ []), e)) (omega (arith, l))
    ∙ ap (λ ws. top m ∷ elements 0 ws) (append_assoc us (v ∷ []) vs)

pub filled-all : (s : ℕ) (p : Val) (vs : List Val) → length vs ≤ 2 ^ 32 - 1
    → array_thing s p (length vs) vs ≡ filled s p vs
filled-all s p vs l =
    ap (λ (ps : List Property). let r : Thing = record (new_thing s None Array p) { properties = ps } in r)
    (put-all 0 (length vs) vs [] refl (omega (arith, l)))
