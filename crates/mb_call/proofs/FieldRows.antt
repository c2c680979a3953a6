-- Rows that read the fields of a descriptor (ECMA-262 6.2.6.5), one after the other.
use Rattle.std.proofs.Common.{◌&&◌, ◌^◌, Bool, Err, List, None, Ok, Result, [], ap, arith, false, length, refl, sym}
use Rattle.std.proofs.Common.{true, true≢false, ℕ, ◌∙◌, ◌∷◌, ◌≡◌, ◌≤◌}
use Rattle.std.specs.Prelude.{IfOk, if◌then◌else◌}
use Rattle.mb_base.specs.declared.NoMemory.{NoMemory}
use Rattle.mb_base.specs.declared.value.Key.{Key}
use Rattle.mb_base.specs.declared.value.ObjId.{ObjId}
use Rattle.mb_base.specs.declared.value.Side.{Side}
use Rattle.mb_base.specs.declared.value.Value.{Value}
use Rattle.mb_base.specs.declared.value.Value.TheVariants as v
use Rattle.mb_call.proofs.Asking.{Part-asks, asks-kept}
use Rattle.mb_call.proofs.Fielding.{accessor-same, data-same}
use Rattle.mb_call.proofs.Objects.{no-object}
use Rattle.mb_call.specs.machine.Descriptors.{field_units, fields_from, fields_past}
use Rattle.mb_desc.specs.Descriptors.{is_accessor_descriptor, is_data_descriptor, no_fields}
use Rattle.mb_desc.specs.declared.descriptor.Desc.{Desc}
use Rattle.mb_frames.proofs.HeldLess.{key-held, object-value}
use Rattle.mb_frames.proofs.Leaving.{holds-in, holds-still}
use Rattle.mb_frames.proofs.Linking.{fits-same}
use Rattle.mb_frames.proofs.Passed.{Part-by}
use Rattle.mb_frames.specs.Held.{AreIn, Held, HeldFields, HeldObject}
use Rattle.mb_frames.specs.Holding.{desc_held}
use Rattle.mb_frames.specs.Passing.{Part, TextsGrew}
use Rattle.mb_frames.specs.Ready.{Changed, Holds, IsReady, KeepsBy, MayHold}
use Rattle.mb_frames.specs.Rest.Calls.{after_desc, field_in, fields_after}
use Rattle.mb_frames.specs.Sorts.{desc_gives}
use Rattle.mb_frames.specs.declared.calls.AfterDesc.{AfterDesc}
use Rattle.mb_frames.specs.declared.calls.CallFrame.TheVariants as c
use Rattle.mb_frames.specs.declared.calls.Field.{Field}
use Rattle.mb_frames.specs.declared.calls.Field.TheVariants as field
use Rattle.mb_frames.specs.declared.frame.Frame.TheVariants as x
use Rattle.mb_frames.specs.declared.frame.Move.{Move}
use Rattle.mb_frames.specs.declared.frame.Move.TheVariants as move
use Rattle.mb_frames.specs.declared.machine.Halt.{Halt}
use Rattle.mb_frames.specs.declared.task.Method.TheVariants as m
use Rattle.mb_frames.specs.declared.task.Task.TheVariants as task
use Rattle.mb_model.specs.Meaning.{finished}
use Rattle.mb_model.specs.Operations.Descriptors.{Field as AField, field_found, field_key, fields, todesc, todesc_from}
use Rattle.mb_model.specs.Task.{Answer, Get, HasProperty}
use Rattle.mb_model.specs.Writing.{◌>>=◌, Does, give, perform, type_error}
use Rattle.mb_parts.proofs.Texting.{texts-changed}
use Rattle.mb_world.proofs.Grow.{ObjIn-grows}
use Rattle.mb_world.proofs.Values.{object-object}
use Rattle.mb_world.specs.Data.{Data}
use Rattle.mb_world.specs.Graph.{Item}
use Rattle.mb_world.specs.Ids.{KeyIn}
use Rattle.mb_world.specs.Image.{Image, Names, Resolve, desc_in, key_in, names_of, object_in}
use Rattle.mb_world.specs.Key.{Named, PropertyKey}
use Rattle.mb_world.specs.Value.{Val}

-- ---- the key of a field

pub field-named : (y : Field) → Named (field_units y) ≡ field_key (field_in y)
field-named field.Enumerable = refl
field-named field.Configurable = refl
field-named field.Value = refl
field-named field.Writable = refl
field-named field.Get = refl
field-named field.Set = refl

pub field-short : (y : Field) → length (field_units y) ≤ 2 ^ 20
field-short field.Enumerable = omega arith
field-short field.Configurable = omega arith
field-short field.Value = omega arith
field-short field.Writable = omega arith
field-short field.Get = omega arith
field-short field.Set = omega arith

pub key-named : (n : Names) (r : Result Key NoMemory) (t : List ℕ) (k : PropertyKey) → Named t ≡ k
    → IfOk r (λ key. key_in n key ≡ Named t) → IfOk r (λ key. key_in n key ≡ k)
key-named n (Ok key) t k e h = h ∙ e
key-named n (Err refusal) t k e h = tt

-- ---- a field is asked for

module _ (home : Side) (d d' : Data) (f : ℕ) (t : TextsGrew d d') (object : ObjId) (field : Field) (e : Desc Value)
    (after : AfterDesc) (key : Key) (k : KeyIn d' key) (q : key_in (names_of d') key ≡ field_key (field_in field))
    (h : Holds d home (HeldObject object ∷ HeldFields e ∷ desc_held after)) where
  abbrev held : List Held
  held = HeldObject object ∷ HeldFields e ∷ desc_held after

  within : AreIn d (HeldObject object ∷ HeldFields e ∷ desc_held after)
  within = holds-in d home held h

  -- whether it is there
  pub Part-there : Part home
      (Ok (move.Wait (x.Call (c.FieldThere object field e after)) (task.Perform (m.HasProperty key) object home true)))
      d d' f f (fields_from (names_of d) home.0 object field e after finished)
  Part-there =
      Part-asks home d d' f t (c.FieldThere object field e after) within
      (task.Perform (m.HasProperty key) object home true)
      (perform home.0 (HasProperty (field_key (field_in field))) (object_in (names_of d) object))
      (fields_from (names_of d) home.0 object field e after finished)
      (ObjIn-grows d d' t.becomes.grows object h.0.within, (k, tt))
      (rw (q, t.becomes.grows.same_object object h.0.within) refl) (λ log. refl)

  -- and it is got
  pub Part-got : Part home
      (Ok (move.Wait (x.Call (c.FieldGot object field e after))
      (task.Perform (m.Get key (v.Object object)) object home true)))
      d d' f f
      ((field_found home.0 (object_in (names_of d) object) (desc_in (Resolve (names_of d)) e) (field_in field) true
      >>= todesc_from home.0 (object_in (names_of d) object) (fields_after field)
      >>= after_desc (names_of d) home.0 after) finished)
  Part-got =
      let o : Val = object_in (names_of d) object in
      Part-asks home d d' f t (c.FieldGot object field e after) within
      (task.Perform (m.Get key (v.Object object)) object home true)
      (perform home.0 (Get (field_key (field_in field)) o) o)
      ((field_found home.0 o (desc_in (Resolve (names_of d)) e) (field_in field) true
      >>= todesc_from home.0 o (fields_after field) >>= after_desc (names_of d) home.0 after) finished) (
        ObjIn-grows d d' t.becomes.grows object h.0.within,
        (k, (ObjIn-grows d d' t.becomes.grows object h.0.within, tt)),
      )
      (rw (q, t.becomes.grows.same_object object h.0.within) refl) (λ log. refl)

  module _ (r : IsReady d) where
    later : Changed home d d'
    later = texts-changed home d d' t r

    still : MayHold d' home (HeldObject object)
    still = (holds-still home d d' r later (HeldObject object ∷ []) (h.0, tt)).0

    pub keeps-there : KeepsBy home (desc_gives after)
        (Ok (move.Wait (x.Call (c.FieldThere object field e after))
        (task.Perform (m.HasProperty key) object home true)))
        d d'
    keeps-there =
        asks-kept home d d' (desc_gives after) (c.FieldThere object field e after) (m.HasProperty key) object refl
        (fits-same (desc_gives after)) r later h (still, (key-held d' home key k, tt))

    pub keeps-got : KeepsBy home (desc_gives after)
        (Ok (move.Wait (x.Call (c.FieldGot object field e after))
        (task.Perform (m.Get key (v.Object object)) object home true)))
        d d'
    keeps-got =
        asks-kept home d d' (desc_gives after) (c.FieldGot object field e after) (m.Get key (v.Object object)) object
        refl (fits-same (desc_gives after)) r later h
        (still, (key-held d' home key k, (object-value d' home object still, tt)))

-- ---- the fields after one

module _ (home : Side) (r : Result Move Halt) (d d' : Data) (f : ℕ) (object : ObjId) (field : Field) (e : Desc Value)
    (after : AfterDesc) where
  abbrev goes : List AField → Does Answer
  goes fs =
      todesc_from home.0 (object_in (names_of d) object) fs (desc_in (Resolve (names_of d)) e)
      >>= after_desc (names_of d) home.0 after

  -- another follows
  pub Part-next : (next : Field) → fields_after field ≡ field_in next ∷ fields_after next
      → Part home r d d' f f (fields_from (names_of d) home.0 object next e after finished)
      → Part home r d d' f f (fields_past (names_of d) home.0 object field e after finished)
  Part-next next q p =
      Part-by home r d d' f f (goes (fields_after field) finished) (goes (field_in next ∷ fields_after next) finished)
      (λ log. ap (λ (fs : List AField). goes fs finished (Image d log)) q) p

  -- behind the last one the descriptor is of one kind
  module _ (q : fields_after field ≡ []) where
    abbrev ends : Bool → Does Answer
    ends b =
        (let p : Does (Desc Val) =
        if b then type_error home.0 else give (desc_in (Resolve (names_of d)) e) in p)
        >>= after_desc (names_of d) home.0 after

    last : (b : Bool) → is_data_descriptor e && is_accessor_descriptor e ≡ b → (log : List Item)
        → goes (fields_after field) finished (Image d log) ≡ ends b finished (Image d log)
    last b i log =
        ap (λ (fs : List AField). goes fs finished (Image d log)) q
        ∙ ap (λ (u : Bool). ends (u && is_accessor_descriptor (desc_in (Resolve (names_of d)) e)) finished
        (Image d log))
        (data-same (Resolve (names_of d)) e)
        ∙ ap (λ (u : Bool). ends (is_data_descriptor e && u) finished (Image d log))
        (accessor-same (Resolve (names_of d)) e)
        ∙ ap (λ (u : Bool). ends u finished (Image d log)) i

    pub Part-mixed : is_data_descriptor e && is_accessor_descriptor e ≡ true
        → Part home r d d' f f (type_error home.0 finished)
        → Part home r d d' f f (fields_past (names_of d) home.0 object field e after finished)
    Part-mixed i p =
        Part-by home r d d' f f (goes (fields_after field) finished) (type_error home.0 finished) (last true i) p

    pub Part-whole : is_data_descriptor e && is_accessor_descriptor e ≡ false
        → Part home r d d' f f
        (after_desc (names_of d) home.0 after (desc_in (Resolve (names_of d)) e) finished)
        → Part home r d d' f f (fields_past (names_of d) home.0 object field e after finished)
    Part-whole i p =
        Part-by home r d d' f f (goes (fields_after field) finished)
        (after_desc (names_of d) home.0 after (desc_in (Resolve (names_of d)) e) finished) (last false i) p

-- ---- flags of both kinds

pub both-kinds : (a b : Bool) → a ≡ true → b ≡ true → a && b ≡ true
both-kinds true true p q = refl
both-kinds true false p q = absurd (true≢false (sym q))
both-kinds false b p q = absurd (true≢false (sym p))

pub first-kind : (a b : Bool) → b ≡ false → a && b ≡ false
first-kind true b q = q
first-kind false b q = refl

pub second-kind : (a b : Bool) → a ≡ false → a && b ≡ false
second-kind true b q = absurd (true≢false q)
second-kind false b q = refl

-- ---- the first field

abbrev none : Desc Value
none = record { value = None; writable = None; get = None; set = None; enumerable = None; configurable = None }

module _ (home : Side) (r : Result Move Halt) (d d' : Data) (f : ℕ) (after : AfterDesc) where
  abbrev starts : Val → Bool → Does Answer
  starts y b =
      (let p : Does (Desc Val) = if b then todesc_from home.0 y fields no_fields else type_error home.0 in p)
      >>= after_desc (names_of d) home.0 after

  pub Part-first : (object : ObjId)
      → Part home r d d' f f (fields_from (names_of d) home.0 object field.Enumerable none after finished)
      → Part home r d d' f f
      ((todesc home.0 (object_in (names_of d) object) >>= after_desc (names_of d) home.0 after) finished)
  Part-first object p =
      let o : Val = object_in (names_of d) object in
      Part-by home r d d' f f ((todesc home.0 o >>= after_desc (names_of d) home.0 after) finished)
      (fields_from (names_of d) home.0 object field.Enumerable none after finished)
      (λ log. ap (λ (b : Bool). starts o b finished (Image d log)) (object-object (names_of d) object)) p

  pub Part-no-fields : (y : Value) → ((o : ObjId) → y ≡ v.Object o → ⊥)
      → Part home r d d' f f (type_error home.0 finished)
      → Part home r d d' f f
      ((todesc home.0 (Resolve (names_of d) y) >>= after_desc (names_of d) home.0 after) finished)
  Part-no-fields y e p =
      Part-by home r d d' f f
      ((todesc home.0 (Resolve (names_of d) y) >>= after_desc (names_of d) home.0 after) finished)
      (type_error home.0 finished)
      (λ log. ap (λ (b : Bool). starts (Resolve (names_of d) y) b finished (Image d log))
      (no-object (names_of d) y e)) p
