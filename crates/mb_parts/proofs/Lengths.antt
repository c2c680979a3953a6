-- The length of an array, and what storing an element makes of it.
use Rattle.std.proofs.Common.{◌+◌, ◌<◌, ◌^◌, ◌≡◌, ◌≤◌, ◌∙◌, ◌∷◌, ◌&&◌, Bool, List, None, Option, Some, ap, arith, false}
use Rattle.std.proofs.Common.{nat_le, not, pos, refl, sym, true, true≢false, ℕ}
use Rattle.std.proofs.lemmas.Bool.Decides.{nat_tests}
use Rattle.std.specs.Prelude.{All, if◌then◌else◌, max}
use Rattle.mb_base.specs.declared.value.Key.TheVariants as k
use Rattle.mb_base.specs.declared.value.Key.{Key}
use Rattle.mb_base.specs.declared.value.StrId.{StrId}
use Rattle.mb_base.specs.declared.value.Value.TheVariants as v
use Rattle.mb_base.specs.declared.value.Value.{Value}
use Rattle.mb_desc.specs.Descriptors.{descriptor_of}
use Rattle.mb_desc.specs.declared.descriptor.Full.TheVariants.{Datum}
use Rattle.mb_desc.specs.declared.descriptor.Full.{Full}
use Rattle.mb_world.specs.Arrays.{array_length, element_as, element_stored, index_key, with_length}
use Rattle.mb_world.specs.Data.{Data, length_units}
use Rattle.mb_world.specs.Formed.{HasLength, IsBelow}
use Rattle.mb_world.specs.Graph.{Thing}
use Rattle.mb_world.specs.Image.{names_of, text_in}
use Rattle.mb_world.specs.Objects.{with_property}
use Rattle.mb_world.specs.Ordinary.{Becomes as BecomesThing, Refused, validated}
use Rattle.mb_world.specs.Property.{open_property}
use Rattle.mb_world.specs.Value.{Val}

-- ---- numbers

max-right : (a b : ℕ) → nat_le a b ≡ true → max a b ≡ b
max-right a b h = grind (arith, nat_tests)

pub max-left : (a b : ℕ) → nat_le a b ≡ false → max a (b + 1) ≡ a
max-left a b h = grind (arith, nat_tests)

pub max-more : (a b : ℕ) → nat_le a b ≡ true → max a (b + 1) ≡ b + 1
max-more a b h = grind (arith, nat_tests)

-- ---- the first property of an array

pub record LengthFirst (d : Data) (ps : List (Key × Full Value)) : Type 0 where
  pub text : StrId
  pub place : ℕ
  pub length : ℕ
  pub writable : Bool
  pub rest : List (Key × Full Value)
  pub shape : ps ≡ (k.Text text place, Datum (v.Whole (pos length)) writable false false) ∷ rest
  pub units : text_in (names_of d) text ≡ length_units
  pub limit : length < 2 ^ 32
  pub below : All (λ p. IsBelow length p.0) rest

pub length-first : (d : Data) (ps : List (Key × Full Value)) → HasLength d ps → LengthFirst d ps
length-first d ((k.Text t n, Datum (v.Whole (pos m)) w false false) ∷ rest) h = record {
  text = t;
  place = n;
  length = m;
  writable = w;
  rest = rest;
  shape = refl;
  units = h.0;
  limit = h.1;
  below = h.2;
}
length-first d _ h = absurd h

-- ---- what storing an element makes

pub stored-as : (t : Thing) (i L : ℕ) (w : Bool) (X : Val) (a : Thing) (b : Bool) → array_length t ≡ (L, w)
    → element_stored t i X ≡ BecomesThing a b
    → (p : Full Val) × (validated t (index_key i) (descriptor_of (open_property X)) ≡ Some p)
    × (a ≡ with_length (max L (i + 1)) w (with_property (index_key i) p t)) × (nat_le L i ≡ true → w ≡ true)
stored-as t i L w X a b e h =
    by (nat_le L i) refl w refl (validated t (index_key i) (descriptor_of (open_property X))) refl
    (sym (ap (λ (n : ℕ × Bool). if nat_le n.0 i && not n.1 then Refused else element_as t (index_key i) i n
    (validated t (index_key i) (descriptor_of (open_property X)))) e) ∙ h)
  where
    by : (c : Bool) → nat_le L i ≡ c → (s : Bool) → w ≡ s → (o : Option (Full Val))
        → validated t (index_key i) (descriptor_of (open_property X)) ≡ o
        → (if nat_le L i && not w then Refused else element_as t (index_key i) i (L, w)
        (validated t (index_key i) (descriptor_of (open_property X))))
        ≡ BecomesThing a b
        → (p : Full Val) × (validated t (index_key i) (descriptor_of (open_property X)) ≡ Some p)
        × (a ≡ with_length (max L (i + 1)) w (with_property (index_key i) p t)) × (nat_le L i ≡ true → w ≡ true)
    by true c false s o q g = (let z : Refused ≡ BecomesThing a b = sym (rw (c, s) refl) ∙ g in cc)
    by true c true s None q g = (let z : Refused ≡ BecomesThing a b = sym (rw (c, s, q) refl) ∙ g in cc)
    by false c true s None q g = (let z : Refused ≡ BecomesThing a b = sym (rw (c, s, q) refl) ∙ g in cc)
    by false c false s None q g = (let z : Refused ≡ BecomesThing a b = sym (rw (c, s, q) refl) ∙ g in cc)
    by true c true s (Some p) q g =
        (let z : BecomesThing (with_length (max L (i + 1)) w (with_property (index_key i) p t)) true ≡ BecomesThing a b
        = sym (rw (c, s, q) refl) ∙ g in
        let y : with_length (max L (i + 1)) w (with_property (index_key i) p t) ≡ a = cc in (p, q, sym y, λ l. s))
    by false c true s (Some p) q g =
        (let z : BecomesThing (with_length (max L (i + 1)) w (with_property (index_key i) p t)) true ≡ BecomesThing a b
        = sym (rw (c, s, q) refl) ∙ g in
        let y : with_length (max L (i + 1)) w (with_property (index_key i) p t) ≡ a = cc in (p, q, sym y, λ l. s))
    by false c false s (Some p) q g =
        (let z : BecomesThing (with_length (max L (i + 1)) w (with_property (index_key i) p t)) true ≡ BecomesThing a b
        = sym (rw (c, s, q) refl) ∙ g in
        let y : with_length (max L (i + 1)) w (with_property (index_key i) p t) ≡ a = cc in
        (p, q, sym y, λ l. absurd (true≢false (sym l ∙ c))))

-- ---- places of keys

abbrev pub place_of : Key → ℕ
place_of (k.Text t n) = n
place_of (k.Symbol t) = 0

pub below-more : (a b : ℕ) → a ≤ b → (key : Key) → IsBelow a key → IsBelow b key
below-more a b l (k.Text t n) h = λ z. omega (arith, h z, l)
below-more a b l (k.Symbol t) h = tt

pub max-above : (a b : ℕ) → b < max a (b + 1)
max-above a b = by (nat_le a b) refl
  where
    by : (c : Bool) → nat_le a b ≡ c → b < max a (b + 1)
    by true e = omega (arith, max-more a b e)
    by false e = (let z = max-left a b e in grind (arith, nat_tests))

pub max-first : (a b : ℕ) → a ≤ max a (b + 1)
max-first a b = by (nat_le a b) refl
  where
    by : (c : Bool) → nat_le a b ≡ c → a ≤ max a (b + 1)
    by true e = (let z = max-more a b e in grind (arith, nat_tests))
    by false e = omega (arith, max-left a b e)

pub max-limit : (a b n : ℕ) → a < n → b + 1 < n → max a (b + 1) < n
max-limit a b n h l = by (nat_le a b) refl
  where
    by : (c : Bool) → nat_le a b ≡ c → max a (b + 1) < n
    by true e = omega (arith, max-more a b e, l)
    by false e = omega (arith, max-left a b e, h)
