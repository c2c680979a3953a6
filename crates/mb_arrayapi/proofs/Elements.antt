-- An array that was made gets its elements, one behind the other.
use Rattle.std.proofs.Common.{◌&&◌, ◌+◌, ◌++◌, ◌-◌, ◌<◌, ◌^◌, ◌∙◌, ◌∷◌, ◌≡◌, Bool, List, None, Option, Some, [], ap}
use Rattle.std.proofs.Common.{arith, false, length, nat_le, not, pos, refl, subst, suc, sym, true, true≢false, ℕ}
use Rattle.std.proofs.lemmas.Bool.Decides.{nat_tests}
use Rattle.std.specs.Prelude.{if◌then◌else◌, max}
use Rattle.mb_desc.specs.Descriptors.{descriptor_of}
use Rattle.mb_desc.specs.Validate.{Validate}
use Rattle.mb_desc.specs.declared.descriptor.Desc.{Desc}
use Rattle.mb_desc.specs.declared.descriptor.Full.{Full}
use Rattle.mb_desc.specs.declared.descriptor.Full.TheVariants.{Datum}
use Rattle.mb_growth.proofs.Arrays.{number-other}
use Rattle.mb_model.specs.Operations.Makings.{array_thing}
use Rattle.mb_parts.proofs.Lengths.{max-left}
use Rattle.mb_parts.proofs.Tables.{find-put, put-there}
use Rattle.mb_parts.proofs.Writing.{whole-is}
use Rattle.mb_text.proofs.Indices.{index_of-decimal}
use Rattle.mb_text.specs.Index.{index_of}
use Rattle.mb_world.proofs.SameKeys.{key-equal, key-same}
use Rattle.mb_world.specs.Arrays.{array_length, element_as, element_defined, element_stored, index_key, length_in}
use Rattle.mb_world.specs.Arrays.{length_key, put_elements, with_length}
use Rattle.mb_world.specs.Graph.{Property, Thing}
use Rattle.mb_world.specs.Key.{Named, PropertyKey, SymbolKey, same_key}
use Rattle.mb_world.specs.Objects.{find_property, own_property, put_property, with_property}
use Rattle.mb_world.specs.Ordinary.{Becomes, Defined, Refused, validated}
use Rattle.mb_world.specs.Property.{open_property}
use Rattle.mb_world.specs.Value.{Undefined, Val, Whole, same_value, whole_text}

-- ---- keys of elements

index-is : (n : ℕ) → n < 2 ^ 32 - 1 → index_of (whole_text (pos n)) ≡ n
index-is n h = ap index_of (whole-is (pos n) (omega (arith, h))) ∙ index_of-decimal n (omega (arith, h))

abbrev units_of : PropertyKey → List ℕ
units_of (Named t) = t
units_of (SymbolKey s) = []

keys-apart : (i j : ℕ) → i < 2 ^ 32 - 1 → j < 2 ^ 32 - 1 → (i ≡ j → ⊥) → same_key (index_key i) (index_key j) ≡ false
keys-apart i j h k a = by (same_key (index_key i) (index_key j)) refl
  where
    by : (b : Bool) → same_key (index_key i) (index_key j) ≡ b → same_key (index_key i) (index_key j) ≡ false
    by true e =
        absurd (a (sym (index-is i h)
        ∙ ap (λ (q : PropertyKey). index_of (units_of q)) (key-equal (index_key i) (index_key j) e) ∙ index-is j k))
    by false e = e

length-apart : (i : ℕ) → same_key (index_key i) length_key ≡ false
length-apart i = by (same_key (index_key i) length_key) refl
  where
    by : (b : Bool) → same_key (index_key i) length_key ≡ b → same_key (index_key i) length_key ≡ false
    by true e =
        absurd (true≢false (sym (key-same length_key)
        ∙ ap (same_key length_key) (sym (key-equal (index_key i) length_key e)) ∙ number-other i))
    by false e = e

-- ---- elements in a table

find-elements : (q : PropertyKey) (k : ℕ) (xs : List Val) (ps : List Property)
    → ((i : ℕ) → i < k + length xs → same_key (index_key i) q ≡ false)
    → find_property q (put_elements k xs ps) ≡ find_property q ps
find-elements q k [] ps h = refl
find-elements q k (x ∷ xs) ps h =
    find-elements q (k + 1) xs (put_property (index_key k) (open_property x) ps) (λ i l. h i (omega (arith, l)))
    ∙ find-put (index_key k) q (open_property x) ps (h k (omega arith))

push-elements : (k : ℕ) (xs : List Val) (x : Val) (ps : List Property)
    → put_elements k (xs ++ (x ∷ [])) ps
    ≡ put_property (index_key (k + length xs)) (open_property x) (put_elements k xs ps)
push-elements k [] x ps =
    let e : k ≡ k + 0 = omega arith in
    ap (λ (i : ℕ). put_property (index_key i) (open_property x) ps) e
push-elements k (y ∷ xs) x ps =
    let e : k + 1 + length xs ≡ k + suc (length xs) = omega arith in
    let qs : List Property = put_property (index_key k) (open_property y) ps in
    push-elements (k + 1) xs x qs
    ∙ ap (λ (i : ℕ). put_property (index_key i) (open_property x) (put_elements (k + 1) xs qs)) e

max-still : (n i : ℕ) → i < n → max n (i + 1) ≡ n
max-still n i h = (let e : nat_le n i ≡ false = grind (arith, nat_tests) in max-left n i e)

opened : (x : Val) → Validate same_value Undefined true None (descriptor_of (open_property x)) ≡ Some (open_property x)
unfolding Validate
opened x = refl

-- ---- an element is stored behind the others

module _ (s : ℕ) (p : Val) (n : ℕ) (xs : List Val) (x : Val) (inside : length xs < n) (small : n < 2 ^ 32) where
  abbrev i : ℕ
  i = length xs

  abbrev t : Thing
  t = array_thing s p n xs

  abbrev given : Desc Val
  given = descriptor_of (open_property x)

  abbrev its-length : Full Val
  its-length = Datum (Whole (pos n)) true false false

  length-there : own_property length_key t ≡ Some its-length
  length-there =
      find-elements length_key 0 xs (with_length n true (array_thing s p 0 [])).properties (λ j l. length-apart j)

  its-array : array_length t ≡ (n, true)
  its-array = ap length_in length-there

  none-there : own_property (index_key i) t ≡ None
  none-there =
      find-elements (index_key i) 0 xs (with_length n true (array_thing s p 0 [])).properties
      (λ j l. keys-apart j i (omega (arith, l, inside, small)) (omega (arith, inside, small))
      (λ e. absurd (omega (arith, l, e))))
      ∙ rw (number-other i) refl

  accepted : validated t (index_key i) given ≡ Some (open_property x)
  accepted =
      ap (λ (o : Option (Full Val)). Validate same_value Undefined true o given) none-there ∙ opened x

  after : with_length (max n (i + 1)) true (with_property (index_key i) (open_property x) t)
      ≡ array_thing s p n (xs ++ (x ∷ []))
  after =
      let qs : List Property = t.properties in
      let z : 0 + length xs ≡ length xs = omega arith in
      let e : put_property length_key its-length (put_property (index_key i) (open_property x) qs)
      ≡ put_property (index_key i) (open_property x) qs
      = put-there length_key its-length (put_property (index_key i) (open_property x) qs)
      (find-put (index_key i) length_key (open_property x) qs (length-apart i) ∙ length-there) in
      let q : put_property (index_key i) (open_property x) qs ≡ (array_thing s p n (xs ++ (x ∷ []))).properties
      = subst (λ (m : ℕ). put_property (index_key m) (open_property x) qs
      ≡ (array_thing s p n (xs ++ (x ∷ []))).properties) z
      (sym (push-elements 0 xs x (with_length n true (array_thing s p 0 [])).properties)) in
      ap (λ (m : ℕ). with_length m true (with_property (index_key i) (open_property x) t)) (max-still n i inside)
      ∙ ap (λ (ps : List Property). let u : Thing = record t { properties = ps } in u) (e ∙ q)

  pub stored-behind : element_stored t i x ≡ Becomes (array_thing s p n (xs ++ (x ∷ []))) true
  stored-behind =
      let e : nat_le n i ≡ false = grind (arith, nat_tests) in
      ap (element_defined t (index_key i) given i) its-array
      ∙ ap (λ (b : Bool). (
      (let o : Defined =
      if b && not true then Refused else element_as t (index_key i) i (n, true) (validated t (index_key i) given) in o)
      )) e
      ∙ ap (element_as t (index_key i) i (n, true)) accepted
      ∙ ap (λ (u : Thing). Becomes u true) after
