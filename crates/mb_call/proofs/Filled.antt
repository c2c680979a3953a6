-- A new object that gets the fields of a descriptor, one after the other.
use Rattle.std.proofs.Common.{lit<, ◌+◌, ◌++◌, ◌-◌, ◌<◌, ◌^◌, ◌≡◌, ◌≤◌, ◌∷◌, Bool, List, None, Ok, Option, Result, Some}
use Rattle.std.proofs.Common.{[], arith, get_or, option_map, refl, subst, sym, take, ℕ}
use Rattle.std.proofs.lemmas.List.Elements.{All-head, All-nil}
use Rattle.std.proofs.lemmas.List.{take_more}
use Rattle.std.specs.Prelude.{All, codes}
use Rattle.mb_base.specs.declared.value.ObjId.{ObjId}
use Rattle.mb_base.specs.declared.value.Side.{Side}
use Rattle.mb_base.specs.declared.value.Value.{Value}
use Rattle.mb_call.specs.machine.Descriptors.{PutsField, field_units, field_value, truth_if}
use Rattle.mb_desc.specs.declared.descriptor.Desc.{Desc}
use Rattle.mb_frames.proofs.Constructing.{still-inside}
use Rattle.mb_frames.proofs.Leaving.{holds-still}
use Rattle.mb_frames.proofs.Made.{IsLast, last-went, put-last}
use Rattle.mb_frames.proofs.Parts.{left-part, right-part}
use Rattle.mb_frames.proofs.Readying.{changed-then}
use Rattle.mb_frames.specs.Going.{WentOn}
use Rattle.mb_frames.specs.Held.{HeldDesc, HeldValue}
use Rattle.mb_frames.specs.Keeping.{KeepsOn, none_held}
use Rattle.mb_frames.specs.Making.{IsOpen, value_held}
use Rattle.mb_frames.specs.Ready.{Changed, Holds, IsReady, MayHold}
use Rattle.mb_frames.specs.declared.calls.Field.{Field}
use Rattle.mb_frames.specs.declared.calls.Field.TheVariants as field
use Rattle.mb_frames.specs.declared.machine.Halt.{Halt}
use Rattle.mb_model.specs.Operations.Descriptors.{desc_properties, fromdesc, put_field}
use Rattle.mb_model.specs.Operations.Descriptors as model
use Rattle.mb_parts.proofs.HeldEach.{desc-each}
use Rattle.mb_text.proofs.Indices.{no_index_by_digits}
use Rattle.mb_text.specs.Index.{index_of}
use Rattle.mb_world.proofs.Grow.{ValueIn-grows}
use Rattle.mb_world.proofs.Images.{value-grows}
use Rattle.mb_world.specs.Contained.{IsOwn}
use Rattle.mb_world.specs.Data.{Data}
use Rattle.mb_world.specs.Formed.{option_values}
use Rattle.mb_world.specs.Graph.{Plain, Thing}
use Rattle.mb_world.specs.Ids.{HasItsIds, Maybe, ValueIn}
use Rattle.mb_world.specs.Image.{Names, Resolve, desc_in, names_of, object_in}
use Rattle.mb_world.specs.Key.{Named}
use Rattle.mb_world.specs.Grows.{Grows}
use Rattle.mb_world.specs.Objects.{new_thing, with_property}
use Rattle.mb_world.specs.Property.{open_property}
use Rattle.mb_world.specs.Standard.{object_prototype}
use Rattle.mb_world.specs.Value.{Val}

-- ---- what a field makes of an object

abbrev pub with_field : Names → Desc Value → Field → Thing → Thing
with_field n desc f t =
    record t { properties = put_field (field_units f) (option_map (Resolve n) (field_value desc f)) t.properties }

abbrev pub with_fields : Names → Desc Value → List Field → Thing → Thing
with_fields n desc [] t = t
with_fields n desc (f ∷ fs) t = with_fields n desc fs (with_field n desc f t)

pub fields-push : (n : Names) (desc : Desc Value) (fs : List Field) (f : Field) (t : Thing)
    → with_fields n desc (fs ++ (f ∷ [])) t ≡ with_field n desc f (with_fields n desc fs t)
fields-push n desc [] f t = refl
fields-push n desc (g ∷ fs) f t = fields-push n desc fs f (with_field n desc g t)

truth-in : (n : Names) (b : Option Bool) → option_map (Resolve n) (truth_if b) ≡ model.truth_if b
truth-in n None = refl
truth-in n (Some b) = refl

abbrev pub all_fields : List Field
all_fields =
    field.Value ∷ field.Writable ∷ field.Get ∷ field.Set ∷ field.Enumerable ∷ field.Configurable ∷ []

-- with all of them it has the properties of the descriptor
pub fields-all : (n : Names) (desc : Desc Value) (side : ℕ)
    → with_fields n desc all_fields (new_thing side None Plain object_prototype)
    ≡ record (new_thing side None Plain object_prototype) { properties = desc_properties (desc_in (Resolve n) desc) }
fields-all n desc side =
    rw (truth-in n desc.writable, truth-in n desc.enumerable, truth-in n desc.configurable) refl

-- ---- names of fields are no indices

no-value : index_of (codes "value") ≡ 2 ^ 32 - 1
no-value = no_index_by_digits (codes "value") (λ h. let q = h 0 (lit< tt) in let z : 118 ≤ 57 = q.1 in omega arith)

no-writable : index_of (codes "writable") ≡ 2 ^ 32 - 1
no-writable = no_index_by_digits (codes "writable")
    (λ h. let q = h 0 (lit< tt) in let z : 119 ≤ 57 = q.1 in omega arith)

no-get : index_of (codes "get") ≡ 2 ^ 32 - 1
no-get = no_index_by_digits (codes "get") (λ h. let q = h 0 (lit< tt) in let z : 103 ≤ 57 = q.1 in omega arith)

no-set : index_of (codes "set") ≡ 2 ^ 32 - 1
no-set = no_index_by_digits (codes "set") (λ h. let q = h 0 (lit< tt) in let z : 115 ≤ 57 = q.1 in omega arith)

no-enumerable : index_of (codes "enumerable") ≡ 2 ^ 32 - 1
no-enumerable =
    no_index_by_digits (codes "enumerable") (λ h. let q = h 0 (lit< tt) in let z : 101 ≤ 57 = q.1 in omega arith)

no-configurable : index_of (codes "configurable") ≡ 2 ^ 32 - 1
no-configurable =
    no_index_by_digits (codes "configurable") (λ h. let q = h 0 (lit< tt) in let z : 99 ≤ 57 = q.1 in omega arith)

pub no-field : (f : Field) → index_of (field_units f) ≡ 2 ^ 32 - 1
no-field field.Enumerable = no-enumerable
no-field field.Configurable = no-configurable
no-field field.Value = no-value
no-field field.Writable = no-writable
no-field field.Get = no-get
no-field field.Set = no-set

-- ---- a field of the new object

last-by : (d d' e : Data) (id : ObjId) (t : Thing) (units : List ℕ) (x : Option Value) → HasItsIds d'
    → Maybe (ValueIn d) x
    → index_of units ≡ 2 ^ 32 - 1 → (q : IsLast d d' id t) → PutsField (Ok tt) d' e id units x
    → IsLast d e id (record t { properties = put_field units (option_map (Resolve (names_of d)) x) t.properties })
last-by d d' e id t units None i h n q p = rw p.1 q
last-by d d' e id t units (Some x) i h n q p =
    subst (λ (y : Val). IsLast d e id (with_property (Named units) (open_property y) t))
    (value-grows d d' q.grew.grows x h)
    (put-last d d' e id t units (open_property x) i (ValueIn-grows d d' q.grew.grows x h) n q p)

pub last-put : (d d' e : Data) (id : ObjId) (t : Thing) (desc : Desc Value) (f : Field) → HasItsIds d'
    → Maybe (ValueIn d) (field_value desc f) → (q : IsLast d d' id t)
    → PutsField (Ok tt) d' e id (field_units f) (field_value desc f) → IsLast d e id (with_field (names_of d) desc f t)
last-put d d' e id t desc f i h q p = last-by d d' e id t (field_units f) (field_value desc f) i h (no-field f) q p

-- ---- what stands in a field

module _ (d : Data) (home : Side) (desc : Desc Value) (h : MayHold d home (HeldDesc desc)) where
  abbrev P : Value → Type 0
  P x = MayHold d home (HeldValue x)

  option-holds : (o : Option Value) → All P (option_values o) → Holds d home (value_held o)
  option-holds None a = tt
  option-holds (Some x) a = (All-head P x [] a, tt)

  truth-holds : (b : Option Bool) → Holds d home (value_held (truth_if b))
  truth-holds None = tt
  truth-holds (Some b) = (record { within = tt; sound = tt; own = λ u. All-nil (IsOwn d home) }, tt)

  abbrev vs : List Value
  vs = option_values desc.value

  abbrev gs : List Value
  gs = option_values desc.get

  abbrev ss : List Value
  ss = option_values desc.set

  front : All P (vs ++ gs)
  front = left-part P (vs ++ gs) ss (desc-each d home desc h)

  pub field-holds : (f : Field) → Holds d home (value_held (field_value desc f))
  field-holds field.Enumerable = truth-holds desc.enumerable
  field-holds field.Configurable = truth-holds desc.configurable
  field-holds field.Value = option-holds desc.value (left-part P vs gs front)
  field-holds field.Writable = truth-holds desc.writable
  field-holds field.Get = option-holds desc.get (right-part P vs gs front)
  field-holds field.Set = option-holds desc.set (right-part P (vs ++ gs) ss (desc-each d home desc h))

  option-within : (o : Option Value) → Holds d home (value_held o) → Maybe (ValueIn d) o
  option-within None a = tt
  option-within (Some x) a = a.0.within

  pub field-within : (f : Field) → Maybe (ValueIn d) (field_value desc f)
  field-within f = option-within (field_value desc f) (field-holds f)

-- ---- the object so far

pub record IsFilled (d d' : Data) (home : Side) (id : ObjId) (desc : Desc Value) (fs : List Field) : Type 0 where
  pub last : IsLast d d' id (with_fields (names_of d) desc fs (new_thing home.0 None Plain object_prototype))
  pub opened : IsOpen d' home id
  pub changed : Changed home d d'
  pub ids : HasItsIds d'

module _ (d d' e : Data) (home : Side) (id : ObjId) (desc : Desc Value) (fs : List Field) (f : Field) (r : IsReady d)
    (inside : home.0 < d.sides) (h : MayHold d home (HeldDesc desc)) (q : IsFilled d d' home id desc fs) where
  pub filled-changed : (result : Result (Unit {0}) Halt)
      → KeepsOn home (value_held (field_value desc f)) none_held result d' e
      → Changed home d e
  filled-changed result k =
      changed-then home d d' e q.changed
      (k q.changed.ready (still-inside home d d' q.changed inside)
      (holds-still home d d' r q.changed (value_held (field_value desc f)) (field-holds d home desc h f))).changed

  pub filled-more : PutsField (Ok tt) d' e id (field_units f) (field_value desc f) → IsOpen e home id → Changed home d e
      → HasItsIds e → IsFilled d e home id desc (fs ++ (f ∷ []))
  filled-more p o k i = record {
    last = subst (IsLast d e id) (sym (fields-push (names_of d) desc fs f
        (new_thing home.0 None Plain object_prototype)))
        (last-put d d' e id (with_fields (names_of d) desc fs
        (new_thing home.0 None Plain object_prototype)) desc f q.ids
        (field-within d home desc h f) q.last p);
    opened = o;
    changed = k;
    ids = i;
  }

maybe-grows : (d d' : Data) → Grows d d' → (o : Option Value) → Maybe (ValueIn d) o → Maybe (ValueIn d') o
maybe-grows d d' g None h = tt
maybe-grows d d' g (Some x) h = ValueIn-grows d d' g x h

-- the field at a place of them all
module _ (d d' e : Data) (home : Side) (id : ObjId) (desc : Desc Value) (i : ℕ) (default : Field) (l : i < 6)
    (r : IsReady d) (inside : home.0 < d.sides) (h : MayHold d home (HeldDesc desc))
    (q : IsFilled d d' home id desc (take i all_fields)) (x : Option Value)
    (x_is : x ≡ field_value desc (get_or all_fields i default)) where
  abbrev f : Field
  f = get_or all_fields i default

  pub field-asks : Maybe (ValueIn d') x
  field-asks =
      maybe-grows d d' q.last.grew.grows x (subst (Maybe (ValueIn d)) (sym x_is) (field-within d home desc h f))

  pub next-changed : (result : Result (Unit {0}) Halt)
      → ((s : Side) → IsOpen d' s id → KeepsOn s (value_held x) none_held result d' e) → Changed home d e
  next-changed result k =
      filled-changed d d' e home id desc (take i all_fields) f r inside h q result
      (subst (λ (y : Option Value). KeepsOn home (value_held y) none_held result d' e) x_is (k home q.opened))

  pub next-filled : PutsField (Ok tt) d' e id (field_units f) x
      → ((s : Side) → IsOpen d' s id → KeepsOn s (value_held x) none_held (Ok tt) d' e)
      → ((s : Side) → IsOpen d' s id → IsOpen e s id) → HasItsIds e
      → IsFilled d e home id desc (take (i + 1) all_fields)
  next-filled p k o j =
      subst (IsFilled d e home id desc) (sym (take_more all_fields i default l))
      (filled-more d d' e home id desc (take i all_fields) f r inside h q
      (subst (PutsField (Ok tt) d' e id (field_units f)) x_is p) (o home q.opened) (next-changed (Ok tt) k) j)

-- with all fields it is the object of the descriptor
pub filled-went : (d d' : Data) (home : Side) (id : ObjId) (desc : Desc Value) → IsFilled d d' home id desc all_fields
    → WentOn Val d d' 0 0 (fromdesc home.0 (desc_in (Resolve (names_of d)) desc)) (object_in (names_of d') id)
filled-went d d' home id desc q =
    last-went d d' id _ (subst (IsLast d d' id) (fields-all (names_of d) desc home.0) q.last)
