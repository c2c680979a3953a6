-- Fields of descriptors: which are there, that they may be held, and that a descriptor may be held as the property that
-- it completes to.
use Rattle.std.proofs.Common.{◌++◌, ◌||◌, Bool, List, None, Option, Some, [], ap, false, is_some, option_map, refl}
use Rattle.std.proofs.Common.{subst, sym, true, unwrap_or, ◌∙◌, ◌≡◌}
use Rattle.std.proofs.lemmas.Grind.{flat_map-append}
use Rattle.std.proofs.lemmas.List.Elements.{All-append, All-nil}
use Rattle.std.specs.List.{AllByRecursion, flat_map}
use Rattle.std.specs.Prelude.{All, if◌then◌else◌}
use Rattle.mb_base.specs.declared.value.ObjId.{ObjId}
use Rattle.mb_base.specs.declared.value.Side.{Side}
use Rattle.mb_base.specs.declared.value.Value.{Value}
use Rattle.mb_base.specs.declared.value.Value.TheVariants as v
use Rattle.mb_call.proofs.Objects.{object-defined}
use Rattle.mb_desc.specs.Descriptors.{Complete, IsOfOneKind, is_accessor_descriptor, is_data_descriptor}
use Rattle.mb_desc.specs.declared.descriptor.Desc.{Desc}
use Rattle.mb_desc.specs.declared.descriptor.Full.TheVariants.{Accessor, Datum}
use Rattle.mb_frames.proofs.HeldLess.{undefined-held, value-datum, values-accessor}
use Rattle.mb_frames.proofs.Parts.{all-both, all-first, all-second, left-part, right-part}
use Rattle.mb_frames.specs.Held.{HeldDesc, HeldFields, HeldFull, HeldValue}
use Rattle.mb_frames.specs.Ready.{MayHold}
use Rattle.mb_world.specs.Contained.{IsOwn, in_value}
use Rattle.mb_world.specs.Data.{Data}
use Rattle.mb_world.specs.Formed.{InRange, IsCallable, IsCallableOrNot, option_values}
use Rattle.mb_world.specs.Ids.{Maybe, ValueIn}
use Rattle.mb_world.specs.Image.{Names, Resolve, desc_in, full_in}
use Rattle.mb_world.specs.Value.{Undefined, Val, is_undefined}

-- ---- which fields are there

some-mapped : {A B : Type 0} (f : A → B) (x : Option A) → is_some (option_map f x) ≡ is_some x
some-mapped f None = refl
some-mapped f (Some x) = refl

pub data-same : (f : Value → Val) (e : Desc Value) → is_data_descriptor (desc_in f e) ≡ is_data_descriptor e
data-same f e = ap (λ (b : Bool). b || is_some e.writable) (some-mapped f e.value)

pub accessor-same : (f : Value → Val) (e : Desc Value)
    → is_accessor_descriptor (desc_in f e) ≡ is_accessor_descriptor e
accessor-same f e =
    ap (λ (b : Bool). b || is_some (option_map f e.set)) (some-mapped f e.get)
    ∙ ap (λ (b : Bool). is_some e.get || b) (some-mapped f e.set)

-- ---- what may be held

-- a field that is there may be held
pub record Part (d : Data) (home : Side) (x : Option Value) : Type 0 where
  pub within : Maybe (ValueIn d) x
  pub range : AllByRecursion InRange (option_values x)
  pub own : d.joined ≡ false → All (IsOwn d home) (flat_map in_value (option_values x))

module _ (d : Data) (home : Side) where
  abbrev P : ObjId → Type 0
  P = IsOwn d home

  own-first : (a b : List Value) → All P (flat_map in_value (a ++ b)) → All P (flat_map in_value a)
  own-first a b h =
      left-part P (flat_map in_value a) (flat_map in_value b) (subst (All P) (flat_map-append in_value a b) h)

  own-second : (a b : List Value) → All P (flat_map in_value (a ++ b)) → All P (flat_map in_value b)
  own-second a b h =
      right-part P (flat_map in_value a) (flat_map in_value b) (subst (All P) (flat_map-append in_value a b) h)

  own-both : (a b : List Value) → All P (flat_map in_value a) → All P (flat_map in_value b)
      → All P (flat_map in_value (a ++ b))
  own-both a b h k =
      subst (All P) (sym (flat_map-append in_value a b)) (All-append P (flat_map in_value a) (flat_map in_value b) h k)

  pub some-part : (x : Value) → MayHold d home (HeldValue x) → Part d home (Some x)
  some-part x h = record {
    within = h.within;
    range = (h.sound, tt);
    own = λ u. All-append P (in_value x) [] (h.own u) (All-nil P);
  }

  pub part-value : (x : Value) → Part d home (Some x) → MayHold d home (HeldValue x)
  part-value x p = record {
    within = p.within;
    sound = p.range.0;
    own = λ u. left-part P (in_value x) [] (p.own u);
  }

  -- the parts of fields that may be held
  module _ (e : Desc Value) (h : MayHold d home (HeldFields e)) where
    abbrev values : List Value
    values = option_values e.value

    abbrev getters : List Value
    getters = option_values e.get

    abbrev setters : List Value
    setters = option_values e.set

    pub value-part : Part d home e.value
    value-part = record {
      within = h.within.value_in;
      range = all-first InRange values getters (all-first InRange (values ++ getters) setters h.sound.wholes);
      own = λ u. own-first values getters (own-first (values ++ getters) setters (h.own u));
    }

    pub getter-part : Part d home e.get
    getter-part = record {
      within = h.within.get_in;
      range = all-second InRange values getters (all-first InRange (values ++ getters) setters h.sound.wholes);
      own = λ u. own-second values getters (own-first (values ++ getters) setters (h.own u));
    }

    pub setter-part : Part d home e.set
    setter-part = record {
      within = h.within.set_in;
      range = all-second InRange (values ++ getters) setters h.sound.wholes;
      own = λ u. own-second (values ++ getters) setters (h.own u);
    }

  -- fields whose parts may be held
  pub held-fields : (e : Desc Value) → Part d home e.value → Part d home e.get → Part d home e.set
      → Maybe (IsCallableOrNot d) e.get → Maybe (IsCallableOrNot d) e.set → MayHold d home (HeldFields e)
  held-fields e x g s i j = record {
    within = record { value_in = x.within; get_in = g.within; set_in = s.within };
    sound = record {
      get = i;
      set = j;
      wholes = all-both InRange (option_values e.value ++ option_values e.get) (option_values e.set)
          (all-both InRange (option_values e.value) (option_values e.get) x.range g.range) s.range;
    };
    own = λ u. own-both (option_values e.value ++ option_values e.get) (option_values e.set)
        (own-both (option_values e.value) (option_values e.get) (x.own u) (g.own u)) (s.own u);
  }

  -- one field more
  module _ (e : Desc Value) (h : MayHold d home (HeldFields e)) where
    module _ (x : Value) (k : MayHold d home (HeldValue x)) where
      pub value-more : MayHold d home (HeldFields (record e { value = Some x }))
      value-more =
          held-fields (record e { value = Some x }) (some-part x k) (getter-part e h) (setter-part e h) h.sound.get
          h.sound.set

      pub getter-more : IsCallableOrNot d x → MayHold d home (HeldFields (record e { get = Some x }))
      getter-more c =
          held-fields (record e { get = Some x }) (value-part e h) (some-part x k) (setter-part e h) c h.sound.set

      pub setter-more : IsCallableOrNot d x → MayHold d home (HeldFields (record e { set = Some x }))
      setter-more c =
          held-fields (record e { set = Some x }) (value-part e h) (getter-part e h) (some-part x k) h.sound.get c

  -- fields of one kind are a descriptor
  pub fields-desc : (e : Desc Value) → IsOfOneKind e → MayHold d home (HeldFields e) → MayHold d home (HeldDesc e)
  fields-desc e k h = record { within = h.within; sound = (k, h.sound); own = h.own }

  pub desc-fields : (e : Desc Value) → MayHold d home (HeldDesc e) → MayHold d home (HeldFields e)
  desc-fields e h = record { within = h.within; sound = h.sound.1; own = h.own }

  -- ---- the property to which a descriptor completes

  or-undefined : (x : Option Value) → Part d home x → MayHold d home (HeldValue (unwrap_or x v.Undefined))
  or-undefined None p = undefined-held d home
  or-undefined (Some x) p = part-value x p

  calls-or-not : (x : Option Value) → Maybe (IsCallableOrNot d) x → IsCallableOrNot d (unwrap_or x v.Undefined)
  calls-or-not None h = tt
  calls-or-not (Some x) h = h

  pub complete-held : (e : Desc Value) → MayHold d home (HeldDesc e)
      → MayHold d home (HeldFull (Complete v.Undefined e))
  complete-held e h = by (is_accessor_descriptor e)
    where
      f : MayHold d home (HeldFields e)
      f = desc-fields e h

      by : (b : Bool) → MayHold d home (HeldFull (
          if b
          then Accessor (unwrap_or e.get v.Undefined) (unwrap_or e.set v.Undefined)
          (unwrap_or e.enumerable false) (unwrap_or e.configurable false)
          else Datum (unwrap_or e.value v.Undefined) (unwrap_or e.writable false)
          (unwrap_or e.enumerable false) (unwrap_or e.configurable false)))
      by true =
          values-accessor d home (unwrap_or e.get v.Undefined) (unwrap_or e.set v.Undefined)
          (unwrap_or e.enumerable false) (unwrap_or e.configurable false) (or-undefined e.get (getter-part e f))
          (or-undefined e.set (setter-part e f)) (calls-or-not e.get f.sound.get) (calls-or-not e.set f.sound.set)
      by false =
          value-datum d home (unwrap_or e.value v.Undefined) (unwrap_or e.writable false)
          (unwrap_or e.enumerable false) (unwrap_or e.configurable false) (or-undefined e.value (value-part e f))

resolved-or : (n : Names) (x : Option Value)
    → unwrap_or (option_map (Resolve n) x) Undefined ≡ Resolve n (unwrap_or x v.Undefined)
resolved-or n None = refl
resolved-or n (Some x) = refl

pub complete-in : (n : Names) (e : Desc Value)
    → full_in n (Complete v.Undefined e) ≡ Complete Undefined (desc_in (Resolve n) e)
complete-in n e = by (is_accessor_descriptor e) refl
  where
    by : (b : Bool) → is_accessor_descriptor e ≡ b
        → full_in n (Complete v.Undefined e) ≡ Complete Undefined (desc_in (Resolve n) e)
    by true q = rw (accessor-same (Resolve n) e, q, resolved-or n e.get, resolved-or n e.set) refl
    by false q = rw (accessor-same (Resolve n) e, q, resolved-or n e.value) refl

-- ---- getters and setters

-- what is callable may be one
pub callable-or-not : (d : Data) (x : Value) → IsCallable d x → IsCallableOrNot d x
callable-or-not d v.Undefined h = tt
callable-or-not d v.Null h = h
callable-or-not d (v.Bool b) h = h
callable-or-not d (v.Whole z) h = h
callable-or-not d (v.Text t) h = h
callable-or-not d (v.Symbol t) h = h
callable-or-not d (v.Object o) h = h

pub no-undefined : (n : Names) (x : Value) → (x ≡ v.Undefined → ⊥) → is_undefined (Resolve n x) ≡ false
no-undefined n v.Undefined h = absurd (h refl)
no-undefined n v.Null h = refl
no-undefined n (v.Bool b) h = refl
no-undefined n (v.Whole z) h = refl
no-undefined n (v.Text t) h = refl
no-undefined n (v.Symbol t) h = refl
no-undefined n (v.Object o) h = object-defined n o
