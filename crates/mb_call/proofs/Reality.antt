-- The values that stand in what may be held name what the trace can tell.
use Rattle.std.proofs.Common.{◌++◌, None, Option, Some, [], ◌∷◌, List}
use Rattle.std.proofs.lemmas.List.Elements.{All-append, All-cons, All-head, All-nil}
use Rattle.std.specs.Prelude.{All}
use Rattle.mb_base.specs.declared.value.Side.{Side}
use Rattle.mb_base.specs.declared.value.Value.{Value}
use Rattle.mb_call.specs.machine.Standing.{AreReal, values_held, values_in_one}
use Rattle.mb_desc.specs.Descriptors.{descriptor_of}
use Rattle.mb_desc.specs.declared.descriptor.Desc.{Desc}
use Rattle.mb_desc.specs.declared.descriptor.Full.{Full}
use Rattle.mb_desc.specs.declared.descriptor.Full.TheVariants.{Accessor, Datum}
use Rattle.mb_frames.proofs.Apartness.{value-real}
use Rattle.mb_frames.proofs.Parts.{left-part, right-part}
use Rattle.mb_frames.proofs.HeldLess.{prototype-value, real-full, values-each}
use Rattle.mb_frames.specs.Held.{DescIn, Held, HeldDesc, HeldPrototype, HeldReal, HeldValue, HeldValues}
use Rattle.mb_frames.specs.Ready.{Holds, IsReady, MayHold}
use Rattle.mb_frames.specs.Real.{IsReal}
use Rattle.mb_frames.specs.Wholeness.{desc_values}
use Rattle.mb_parts.proofs.HeldEach.{desc-each, full-each}
use Rattle.mb_world.specs.Data.{Data}
use Rattle.mb_world.specs.Formed.{full_values, option_values}
use Rattle.mb_world.specs.Ids.{FullIn, Maybe}

module _ (d : Data) (r : IsReady d) (home : Side) where
  pub real-each : (xs : List Value) → All (λ x. MayHold d home (HeldValue x)) xs → AreReal d xs
  real-each xs h = λ n x l. value-real d r home _ (h n x l)

  pub real-held : (y : Held) → MayHold d home y → AreReal d (values_in_one y)
  real-held (HeldValue x) h = All-cons (IsReal d) x [] (value-real d r home x h) (All-nil (IsReal d))
  real-held (HeldPrototype x) h =
      All-cons (IsReal d) x [] (value-real d r home x (prototype-value d home x h)) (All-nil (IsReal d))
  real-held (HeldValues xs) h = real-each xs (values-each d home xs h)
  real-held (HeldDesc e) h = real-each (desc_values e) (desc-each d home e h)
  real-held (HeldReal None) h = All-nil (IsReal d)
  real-held (HeldReal (Some f)) h = real-each (full_values f) (full-each d home f (real-full d home f h))
  real-held _ h = All-nil (IsReal d)

  pub real-all : (ys : List Held) → Holds d home ys → AreReal d (values_held ys)
  real-all [] h = All-nil (IsReal d)
  real-all (y ∷ ys) h =
      All-append (IsReal d) (values_in_one y) (values_held ys) (real-held y h.0) (real-all ys h.1)

-- ---- the parts of what is told

module _ (d : Data) where
  real-one : (x : Value) (xs : List Value) → AreReal d (x ∷ xs) → IsReal d x
  real-one x xs h = All-head (IsReal d) x xs h

  if-real : (x : Option Value) → AreReal d (option_values x) → Maybe (IsReal d) x
  if-real None h = tt
  if-real (Some x) h = real-one x [] h

  module _ (e : Desc Value) (h : AreReal d (desc_values e)) where
    abbrev first : List Value
    first = option_values e.value ++ option_values e.get

    pub value-told : Maybe (IsReal d) e.value
    value-told =
        if-real e.value (left-part (IsReal d) (option_values e.value) (option_values e.get)
        (left-part (IsReal d) first (option_values e.set) h))

    pub getter-told : Maybe (IsReal d) e.get
    getter-told =
        if-real e.get (right-part (IsReal d) (option_values e.value) (option_values e.get)
        (left-part (IsReal d) first (option_values e.set) h))

    pub setter-told : Maybe (IsReal d) e.set
    setter-told = if-real e.set (right-part (IsReal d) first (option_values e.set) h)

  -- of a descriptor alone
  pub desc-told : (e : Desc Value) → AreReal d (values_held (HeldDesc e ∷ [])) → AreReal d (desc_values e)
  desc-told e h = left-part (IsReal d) (desc_values e) [] h

  pub property-told : (f : Full Value) → AreReal d (full_values f) → AreReal d (desc_values (descriptor_of f))
  property-told (Datum x w n c) h = h
  property-told (Accessor g s n c) h = h

  pub property-in : (f : Full Value) → FullIn d f → DescIn d (descriptor_of f)
  property-in (Datum x w n c) h = record { value_in = h; get_in = tt; set_in = tt }
  property-in (Accessor g s n c) h = record { value_in = tt; get_in = h.0; set_in = h.1 }
