-- What the rules say of the values that a home may hold, they say of what these stand for.
use Rattle.std.proofs.Common.{◌&&◌, ◌++◌, ◌∙◌, ◌∷◌, ◌≡◌, Bool, List, None, Option, Some, [], ap, not, option_map, refl}
use Rattle.std.proofs.Common.{is_some, ℕ}
use Rattle.std.proofs.lemmas.List.Elements.{All-append, All-contains, All-nil}
use Rattle.std.specs.Prelude.{All}
use Rattle.mb_base.specs.declared.value.Side.{Side}
use Rattle.mb_base.specs.declared.value.Value.TheVariants as v
use Rattle.mb_base.specs.declared.value.Value.{Value}
use Rattle.mb_check.specs.Rules as check
use Rattle.mb_check.specs.Rules.{first_broken}
use Rattle.mb_check.specs.Values as own
use Rattle.mb_check.specs.declared.verdict.Verdict.TheVariants.{Pass}
use Rattle.mb_desc.specs.Descriptors.{descriptor_of, is_configurable, is_fixed, is_unwritable, is_writable}
use Rattle.mb_desc.specs.Descriptors.{property_is}
use Rattle.mb_desc.specs.Validate.{Validate}
use Rattle.mb_desc.specs.Values.{equal}
use Rattle.mb_desc.specs.declared.descriptor.Desc.{Desc}
use Rattle.mb_desc.specs.declared.descriptor.Full.TheVariants.{Accessor, Datum}
use Rattle.mb_desc.specs.declared.descriptor.Full.{Full}
use Rattle.mb_frames.proofs.Apartness.{values-apart}
use Rattle.mb_frames.proofs.HeldLess.{accessor-values, datum-value, real-full, undefined-held}
use Rattle.mb_frames.specs.Held.{HeldDesc, HeldFull, HeldReal, HeldValue}
use Rattle.mb_frames.specs.Ready.{IsReady, MayHold}
use Rattle.mb_frames.specs.Resolved.{real_in}
use Rattle.mb_frames.specs.Sorts.{IsObject}
use Rattle.mb_model.specs.Objects.Rules as rule
use Rattle.mb_ordinary.proofs.Accepting.{compares-there, validate-map}
use Rattle.mb_ordinary.specs.Definitions.{DescIn, TellsApart, desc_values, property_values}
use Rattle.mb_parts.proofs.HeldEach.{desc-each, full-each}
use Rattle.mb_text.specs.Texts.{AreDistinct}
use Rattle.mb_world.proofs.Values.{object-object, same-as}
use Rattle.mb_world.specs.Data.{Data}
use Rattle.mb_world.specs.Ids.{FullIn}
use Rattle.mb_world.specs.Image.{Names, Resolve, desc_in, full_in, names_of}
use Rattle.mb_world.specs.Value.{Undefined, is_object, same_value}

-- ---- properties, and what they stand for

module _ (n : Names) where
  pub fixed-same : (f : Full Value) → is_fixed (full_in n f) ≡ is_fixed f
  fixed-same (Datum x w e c) = refl
  fixed-same (Accessor g s e c) = refl

  configurable-same : (f : Full Value) → is_configurable (full_in n f) ≡ is_configurable f
  configurable-same (Datum x w e c) = refl
  configurable-same (Accessor g s e c) = refl

  writable-same : (f : Full Value) → is_writable (full_in n f) ≡ is_writable f
  writable-same (Datum x w e c) = refl
  writable-same (Accessor g s e c) = refl

  unwritable-same : (f : Full Value) → is_unwritable (full_in n f) ≡ is_unwritable f
  unwritable-same (Datum x w e c) = refl
  unwritable-same (Accessor g s e c) = refl

  there-fixed : (o : Option (Full Value)) → property_is is_fixed (real_in n o) ≡ property_is is_fixed o
  there-fixed None = refl
  there-fixed (Some f) = fixed-same f

  there-writable : (o : Option (Full Value)) → property_is is_writable (real_in n o) ≡ property_is is_writable o
  there-writable None = refl
  there-writable (Some f) = writable-same f

  descriptor-in : (f : Full Value) → descriptor_of (full_in n f) ≡ desc_in (Resolve n) (descriptor_of f)
  descriptor-in (Datum x w e c) = refl
  descriptor-in (Accessor g s e c) = refl

  some-mapped : (o : Option (Full Value)) → is_some (option_map (full_in n) o) ≡ is_some o
  some-mapped None = refl
  some-mapped (Some f) = refl

  -- the rules on what is said to be absent ask no value
  pub absent-same : (a b : ℕ) (o : Option (Full Value)) (extensible : Bool)
      → check.absent a b (real_in n o) extensible ≡ check.absent a b o extensible
  absent-same a b None extensible = refl
  absent-same a b (Some f) extensible =
      ap (λ (x : Bool). first_broken ((x, a) ∷ (not extensible, b) ∷ [])) (fixed-same f)

-- ---- constructions

object-same : (n : Names) (x : Value) → is_object (Resolve n x) ≡ own.is_object x
object-same n v.Undefined = refl
object-same n v.Null = refl
object-same n (v.Bool b) = refl
object-same n (v.Whole z) = refl
object-same n (v.Text t) = refl
object-same n (v.Symbol t) = refl
object-same n (v.Object o) = object-object n o

pub construct-same : (n : Names) (said : Value) → rule.construct (Resolve n said) ≡ check.construct own.is_object said
construct-same n said = ap (λ (b : Bool). first_broken ((not b, 24) ∷ [])) (object-same n said)

pub passes-object : (x : Value) → check.construct own.is_object x ≡ Pass → IsObject x
passes-object v.Undefined e = cc
passes-object v.Null e = cc
passes-object (v.Bool b) e = cc
passes-object (v.Whole z) e = cc
passes-object (v.Text t) e = cc
passes-object (v.Symbol t) e = cc
passes-object (v.Object o) e = tt

module _ (d : Data) (u : AreDistinct d.texts) (r : IsReady d) (home : Side) where
  abbrev n : Names
  n = names_of d

  abbrev P : Value → Type 0
  P x = MayHold d home (HeldValue x)

  pub values-same : (x y : Value) → MayHold d home (HeldValue x) → MayHold d home (HeldValue y)
      → same_value (Resolve (names_of d) x) (Resolve (names_of d) y) ≡ equal x y
  values-same x y h k = same-as d u x y h.within k.within (values-apart d r home x y h k)

  tells-all : (xs : List Value) → All (λ x. MayHold d home (HeldValue x)) xs → TellsApart d xs
  tells-all xs h = λ i j p q e.
      values-apart d r home (v.Object i) (v.Object j) (All-contains P xs (v.Object i) h p)
      (All-contains P xs (v.Object j) h q) i j refl refl e

  there-each : (o : Option (Full Value)) → MayHold d home (HeldReal o)
      → All (λ x. MayHold d home (HeldValue x)) (property_values o)
  there-each None h = All-nil P
  there-each (Some f) h = full-each d home f (real-full d home f h)

  -- what is compatible with what stands for it is compatible
  compatible-same : (extensible : Bool) (desc : Desc Value) (o : Option (Full Value)) → DescIn d desc
      → All (λ x. MayHold d home (HeldValue x)) (desc_values desc) → MayHold d home (HeldReal o)
      → is_some (Validate same_value Undefined extensible (option_map (full_in (names_of d)) o)
      (desc_in (Resolve (names_of d)) desc))
      ≡ is_some (Validate equal v.Undefined extensible o desc)
  compatible-same extensible desc o i h k =
      ap is_some (validate-map n desc extensible o (compares-there d u desc i o k.within
      (tells-all (desc_values desc ++ property_values o)
      (All-append P (desc_values desc) (property_values o) h (there-each o k)))))
      ∙ some-mapped n (Validate equal v.Undefined extensible o desc)

  -- ---- prototypes

  pub get-prototype-same : (said real : Value) → MayHold d home (HeldValue said) → MayHold d home (HeldValue real)
      → rule.get_prototype (Resolve (names_of d) said) (Some (Resolve (names_of d) real))
      ≡ check.get_prototype equal said (Some real)
  get-prototype-same said real h k = ap (λ (b : Bool). first_broken ((not b, 2) ∷ [])) (values-same said real h k)

  pub set-prototype-same : (given real : Value) → MayHold d home (HeldValue given) → MayHold d home (HeldValue real)
      → rule.set_prototype (Resolve (names_of d) given) (Some (Resolve (names_of d) real))
      ≡ check.set_prototype equal given (Some real)
  set-prototype-same given real h k = ap (λ (b : Bool). first_broken ((not b, 3) ∷ [])) (values-same given real h k)

  -- ---- values

  pub get-same : (said : Value) (o : Option (Full Value)) → MayHold d home (HeldValue said)
      → MayHold d home (HeldReal o)
      → rule.get (Resolve (names_of d) said) (real_in (names_of d) o) ≡ check.get equal v.Undefined said o
  get-same said None h k = refl
  get-same said (Some (Datum x w e c)) h k =
      ap (λ (b : Bool). first_broken ((not c && not w && not b, 18) ∷ []))
      (values-same said x h (datum-value d home x w e c (real-full d home (Datum x w e c) k)))
  get-same said (Some (Accessor g s e c)) h k =
      let q = accessor-values d home g s e c (real-full d home (Accessor g s e c) k) in
      ap (λ (b : Bool). first_broken ((not c && b && not (same_value (Resolve n said) Undefined), 18) ∷ []))
      (values-same g v.Undefined q.0 (undefined-held d home))
      ∙ ap (λ (b : Bool). first_broken ((not c && equal g v.Undefined && not b, 18) ∷ []))
      (values-same said v.Undefined h (undefined-held d home))

  pub set-same : (given : Value) (o : Option (Full Value)) → MayHold d home (HeldValue given)
      → MayHold d home (HeldReal o)
      → rule.set (Resolve (names_of d) given) (real_in (names_of d) o) ≡ check.set equal v.Undefined given o
  set-same given None h k = refl
  set-same given (Some (Datum x w e c)) h k =
      ap (λ (b : Bool). first_broken ((not c && not w && not b, 19) ∷ []))
      (values-same given x h (datum-value d home x w e c (real-full d home (Datum x w e c) k)))
  set-same given (Some (Accessor g s e c)) h k =
      let q = accessor-values d home g s e c (real-full d home (Accessor g s e c) k) in
      ap (λ (b : Bool). first_broken ((not c && b, 19) ∷ [])) (values-same s v.Undefined q.1 (undefined-held d home))

  -- ---- descriptors

  full-descriptor : (f : Full Value) → FullIn d f → DescIn d (descriptor_of f)
  full-descriptor (Datum x w e c) h = record { value_in = h; get_in = tt; set_in = tt }
  full-descriptor (Accessor g s e c) h = record { value_in = tt; get_in = h.0; set_in = h.1 }

  full-values : (f : Full Value) → MayHold d home (HeldFull f)
      → All (λ x. MayHold d home (HeldValue x)) (desc_values (descriptor_of f))
  full-values (Datum x w e c) h = full-each d home (Datum x w e c) h
  full-values (Accessor g s e c) h = full-each d home (Accessor g s e c) h

  pub own-present-same : (said : Full Value) (o : Option (Full Value)) (extensible : Bool)
      → MayHold d home (HeldFull said) → MayHold d home (HeldReal o)
      → rule.own_present (full_in (names_of d) said) (real_in (names_of d) o) extensible
      ≡ check.own_present equal v.Undefined said o extensible
  own-present-same said o extensible h k =
      let a = compatible-same extensible (descriptor_of said) o (full-descriptor said h.within) (full-values said h)
      k in
      rw (
        descriptor-in n said,
        a,
        fixed-same n said,
        unwritable-same n said,
        there-fixed n o,
        there-writable n o,
      ) refl

  pub define-same : (given : Desc Value) (o : Option (Full Value)) (extensible : Bool)
      → MayHold d home (HeldDesc given) → MayHold d home (HeldReal o)
      → rule.define (desc_in (Resolve (names_of d)) given) (real_in (names_of d) o) extensible
      ≡ check.define equal v.Undefined given o extensible
  define-same given None extensible h k = refl
  define-same given (Some f) extensible h k =
      let i : DescIn d given = record {
        value_in = h.within.value_in;
        get_in = h.within.get_in;
        set_in = h.within.set_in;
      } in
      let a = compatible-same extensible given (Some f) i (desc-each d home given h) k in
      rw (a, configurable-same n f, writable-same n f) refl
