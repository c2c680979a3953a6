-- Of options, keys, whole numbers, and what a definition of `length` accepts.
use Rattle.std.proofs.Common.{◌≡◌, ◌∙◌, Bool, None, Option, Some, ap, false, is_some, option_map, pos, refl, sym, true}
use Rattle.std.proofs.Common.{true≢false, unwrap_or, ℕ, ℤ}
use Rattle.mb_base.specs.declared.value.Value.{Value}
use Rattle.mb_desc.proofs.Given.{given_is_there, not_given_stays}
use Rattle.mb_desc.specs.Descriptors.{IsOfOneKind}
use Rattle.mb_desc.specs.Laws.{KeepsFixed}
use Rattle.mb_desc.specs.Validate.{Validate}
use Rattle.mb_desc.specs.declared.descriptor.Desc.{Desc}
use Rattle.mb_desc.specs.declared.descriptor.Full.{Full}
use Rattle.mb_desc.specs.declared.descriptor.Full.TheVariants.{Accessor, Datum}
use Rattle.mb_world.proofs.SameKeys.{key-equal, key-same}
use Rattle.mb_world.specs.Image.{Names, Resolve, desc_in}
use Rattle.mb_world.specs.Key as graph
use Rattle.mb_world.specs.Key.{PropertyKey}
use Rattle.mb_world.specs.Value.{Undefined, Val, Whole, same_value, whole_of}

pub map-back : {A B : Type 0} (f : A → B) (o : Option A) (b : B) → option_map f o ≡ Some b
    → (a : A) × (o ≡ Some a) × (f a ≡ b)
map-back f None b e = cc
map-back f (Some a) b e = (a, refl, cc)

-- another key is no `length`
pub other-key : (a b : PropertyKey) → graph.same_key a b ≡ false → graph.same_key b a ≡ false
other-key a b e = by (graph.same_key b a) refl
  where
    by : (x : Bool) → graph.same_key b a ≡ x → graph.same_key b a ≡ false
    by true q = absurd (true≢false (sym (key-same a) ∙ ap (graph.same_key a) (sym (key-equal b a q)) ∙ e))
    by false q = q

some-map : (n : Names) (o : Option Value) → is_some (option_map (Resolve n) o) ≡ is_some o
some-map n None = refl
some-map n (Some x) = refl

pub one-kind : (n : Names) (desc : Desc Value) → IsOfOneKind desc → IsOfOneKind (desc_in (Resolve n) desc)
one-kind n desc h = rw (some-map n desc.value, some-map n desc.get, some-map n desc.set) h

pub whole-is : (x : Val) (z : ℤ) → whole_of x ≡ Some z → x ≡ Whole z
whole-is (Whole a) z e = let q : a ≡ z = cc in ap Whole q
whole-is _ z e = cc

-- what is accepted of it
pub length-shape : (extensible : Bool) (len : ℕ) (writable : Bool) (desc : Desc Val) (p : Full Val) → IsOfOneKind desc
    → KeepsFixed (Datum (Whole (pos len)) writable false false) p
    → Validate same_value Undefined extensible (Some (Datum (Whole (pos len)) writable false false)) desc ≡ Some p
    → (w : Bool) × (p ≡ Datum (unwrap_or desc.value (Whole (pos len))) w false false)
length-shape extensible len writable desc (Accessor a b e f) one k q = absurd k
length-shape extensible len writable desc (Datum x w e f) one k q =
    let a = given_is_there same_value Undefined extensible (Some (Datum (Whole (pos len)) writable false false)) desc
    (Datum x w e f) one q in
    let b = not_given_stays same_value Undefined extensible (Some (Datum (Whole (pos len)) writable false false)) desc
    (Datum x w e f) one q in
    let y : x ≡ unwrap_or desc.value (Whole (pos len)) = by desc.value refl a.value b.fields.0 in
    (w, rw (k.0, k.1, y) refl)
  where
    by : (o : Option Val) → desc.value ≡ o → ((z : Val) → desc.value ≡ Some z → Some x ≡ Some z)
        → (desc.value ≡ None → x ≡ Whole (pos len)) → x ≡ unwrap_or desc.value (Whole (pos len))
    by None s a b = rw s (b s)
    by (Some z) s a b = (let i : Some x ≡ Some z = a z s in rw s cc)
