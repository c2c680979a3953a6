-- What the tests find out is what the call asks.
use Rattle.std.proofs.Common.{◌≡◌, ℕ, zero, suc, pos, ◌<◌, ◌^◌, nat_le, nat_eq, nat_lt, ◌||◌, ◌≢◌, subst, List, [], ◌∷◌, ◌++◌, length, Bool, true, false, ◌&&◌, Option, Some, None, refl, sym, ap, ◌∙◌, arith, true≢false, slice_get, slice_index_or, if◌then◌else◌, ◌-◌}
use Rattle.std.specs.Prelude.{All, Contains, is_ok}
use Rattle.std.specs.List.{list_all}
use Rattle.std.specs.Map.{keys_of}
use Rattle.std.proofs.lemmas.Bool.{leb-true, le-leb, eqb-true, ltb-true}
use Rattle.std.proofs.lemmas.List.Sorted.{All-permutation, IsPermutation-sym}
use Rattle.std.proofs.lemmas.List.Elements.{All-nil, All-cons, All-head, All-tail}
use Rattle.mb_base.specs.declared.value.Key.{Key}
use Rattle.mb_base.specs.declared.value.Key.TheVariants.{Text, Symbol}
use Rattle.mb_base.specs.declared.value.ObjId.{ObjId}
use Rattle.mb_base.specs.declared.value.StrId.{StrId}
use Rattle.mb_base.specs.declared.value.Value.{Value}
use Rattle.mb_base.specs.declared.value.Value.TheVariants as v
use Rattle.mb_desc.specs.declared.descriptor.Desc.{Desc}
use Rattle.mb_desc.specs.declared.descriptor.Full.{Full}
use Rattle.mb_desc.specs.declared.descriptor.Full.TheVariants.{Datum, Accessor}
use Rattle.mb_text.specs.Texts.{AreDistinct}
use Rattle.mb_props.specs.Table.{found}
use Rattle.mb_props.specs.KeyOrder.{IsInKeyOrder}
use Rattle.mb_world.specs.Data.{Data, property_at, length_units}
use Rattle.mb_world.specs.Formed.{option_values, IsBelow}
use Rattle.mb_ordinary.specs.Definitions.{TellsApart, compared, desc_values, property_values}
use Rattle.mb_array.specs.Define.{HasItsLength}
use Rattle.mb_array.specs.machine.Done.{length_or_range, length_parts}
use Rattle.mb_array.specs.machine.Tried.{is_plain, are_plain, is_length, is_below}
use Rattle.mb_array.proofs.Lengths.{key-is}

both : (a b : Bool) → a && b ≡ true → (a ≡ true) × (b ≡ true)
both true b h = (refl, h)
both false b h = absurd (true≢false (sym h))

plain-append : (xs ys : List Value) → are_plain xs ≡ true → are_plain ys ≡ true → are_plain (xs ++ ys) ≡ true
plain-append [] ys h k = k
plain-append (x ∷ xs) ys h k = let p = both (is_plain x) (are_plain xs) h in rw (p.0, plain-append xs ys p.1 k) refl

no-object : (xs : List Value) (a : ObjId) → are_plain xs ≡ true → Contains xs (v.Object a) → ⊥
no-object [] a h c = absurd (omega (arith, c.1))
no-object (x ∷ xs) a h c = by c.0 c.1 c.2 (no-object xs a (both (is_plain x) (are_plain xs) h).1)
  where
    by : (k : ℕ) → k < length (x ∷ xs) → slice_index_or (x ∷ xs) k (v.Object a) ≡ v.Object a → (Contains xs (v.Object a) → ⊥) → ⊥
    by zero l e r = true≢false (sym (both (is_plain x) (are_plain xs) h).0 ∙ ap is_plain e)
    by (suc k) l e r = r (k, omega (arith, l), e)

pub plain-apart : (d : Data) (o : ObjId) (key : Key) (desc : Desc Value) → are_plain (option_values desc.value) ≡ true → are_plain (option_values desc.get) ≡ true → are_plain (option_values desc.set) ≡ true → are_plain (property_values (property_at d o key)) ≡ true → TellsApart d (compared d o key desc)
plain-apart d o key desc value get set there a b p q e =
    let given : are_plain (desc_values desc) ≡ true = plain-append (option_values desc.value ++ option_values desc.get) (option_values desc.set) (plain-append (option_values desc.value) (option_values desc.get) value get) set in
    absurd (no-object (compared d o key desc) a (plain-append (desc_values desc) (property_values (property_at d o key)) given there) p)

-- a property that passes is a `length`
length-fits : (p : Option (Full Value)) → is_length p ≡ true → (n : ℕ) × (w : Bool) × (p ≡ Some (Datum (v.Whole (pos n)) w false false)) × (n < 2 ^ 32)
length-fits None h = absurd (true≢false (sym h))
length-fits (Some (Accessor g s e c)) h = absurd (true≢false (sym h))
length-fits (Some (Datum x w true c)) h = absurd (true≢false (sym h))
length-fits (Some (Datum x w false true)) h = absurd (true≢false (sym h))
length-fits (Some (Datum (v.Whole (pos n)) w false false)) h = by (nat_le n 4294967295) refl h
  where
    by : (b : Bool) → nat_le n 4294967295 ≡ b → is_ok (length_or_range (if b then Some n else None)) ≡ true → (m : ℕ) × (u : Bool) × (Some (Datum (v.Whole (pos n)) w false false) ≡ Some (Datum (v.Whole (pos m)) u false false)) × (m < 2 ^ 32)
    by true e k = let l = leb-true n 4294967295 e in (n, w, refl, omega (arith, l))
    by false e k = absurd (true≢false (sym k))
length-fits (Some (Datum _ w false false)) h = absurd (true≢false (sym h))

below-holds : (n : ℕ) (k : Key) → is_below n k ≡ true → IsBelow n k
below-holds n (Text a j) h = by (nat_eq j (2 ^ 32 - 1)) refl h
  where
    by : (b : Bool) → nat_eq j (2 ^ 32 - 1) ≡ b → (b || nat_lt j n) ≡ true → j ≢ 2 ^ 32 - 1 → j < n
    by true e g apart = absurd (apart (eqb-true j (2 ^ 32 - 1) e))
    by false e g apart = ltb-true j n g
below-holds n (Symbol a) h = tt

all-below : (n : ℕ) (ks : List Key) → list_all (is_below n) ks ≡ true → All (IsBelow n) ks
all-below n [] h = All-nil (IsBelow n)
all-below n (k ∷ ks) h = let p = both (is_below n k) (list_all (is_below n) ks) h in All-cons (IsBelow n) k ks (below-holds n k p.0) (all-below n ks p.1)

of-keys : (n : ℕ) (ps : List (Key × Full Value)) → All (IsBelow n) (keys_of ps) → All (λ p. IsBelow n p.0) ps
of-keys n [] h = All-nil (λ (p : Key × Full Value). IsBelow n p.0)
of-keys n (p ∷ ps) h = All-cons (λ (q : Key × Full Value). IsBelow n q.0) p ps (All-head (IsBelow n) p.0 (keys_of ps) h) (of-keys n ps (All-tail (IsBelow n) p.0 (keys_of ps) h))

pub has-length : (texts : List (List ℕ)) (props : List (Key × Full Value)) (id : StrId) (ordered : List Key) (m : ℕ) → AreDistinct texts → slice_get texts id.0 ≡ Some length_units → is_length (found props (Text id (2 ^ 32 - 1))) ≡ true → m ≡ (length_parts (found props (Text id (2 ^ 32 - 1)))).0 → IsInKeyOrder (keys_of props) ordered → list_all (is_below m) ordered ≡ true → HasItsLength texts props
has-length texts props id ordered m distinct e h parts order below =
    let fits = length-fits (found props (Text id (2 ^ 32 - 1))) h in
    let n : ℕ = fits.0 in
    let small : nat_le n 4294967295 ≡ true = le-leb n 4294967295 (omega (arith, fits.3)) in
    let is : (length_parts (Some (Datum (v.Whole (pos n)) fits.1 false false))).0 ≡ n = rw small refl in
    let same : m ≡ n = parts ∙ ap (λ p. (length_parts p).0) fits.2 ∙ is in
    record {
      length = n;
      writable = fits.1;
      there = ap (found props) (sym (key-is texts id distinct e)) ∙ fits.2;
      limit = fits.3;
      above = subst (λ z. All (λ (p : Key × Full Value). IsBelow z p.0) props) same (of-keys m props (All-permutation (IsBelow m) ordered (keys_of props) (IsPermutation-sym (keys_of props) ordered order.permutation) (all-below m ordered below)));
    }
