-- What was found of what stands in frames stays found.
use Rattle.mb_desc.specs.declared.descriptor.Full.TheVariants.{Datum, Accessor}
use Rattle.std.proofs.Common.{Bool, List, None, Option, Some, [], ap, arith, slice_get, sym, true, ℕ, ◌∙◌, ◌∷◌, ◌≡◌}
use Rattle.mb_base.specs.declared.value.Side.{Side}
use Rattle.mb_desc.specs.declared.descriptor.Desc.{Desc}
use Rattle.mb_desc.specs.declared.descriptor.Full.{Full}
use Rattle.mb_frames.proofs.Stack.{forms-grow}
use Rattle.mb_frames.specs.Held.{AreIn, DescIn, Held, HeldArray, HeldBegan, HeldCallable, HeldCollection, HeldConstructor, HeldDesc, HeldEntered, HeldFields, HeldFull, HeldFunction, HeldIn, HeldKey, HeldKeyIf, HeldKeys, HeldNode, HeldNodeIf, HeldObject, HeldPlace, HeldPlain, HeldPrototype, HeldReal, HeldScope, HeldSide, HeldSign, HeldText, HeldTextIf, HeldValue, HeldValues, HeldVisited}
use Rattle.mb_frames.specs.Holding.{StackIn, frame_held}
use Rattle.mb_frames.specs.Kinds.{is_evaluated}
use Rattle.mb_frames.specs.Standing.{forms_at}
use Rattle.mb_frames.specs.Wholeness.{AreFields, AreSound, IsProperty, IsSound, IsStackSound, StaysFound}
use Rattle.mb_world.specs.Data.{Data}
use Rattle.mb_world.specs.Form.{Form}
use Rattle.mb_world.specs.Formed.{IsCallableOrNot}
use Rattle.mb_world.specs.Ids.{FullIn, HasItsIds, Maybe, ValueIn}
use Rattle.mb_base.specs.declared.value.Value.{Value}
use Rattle.mb_base.specs.declared.value.Value.TheVariants as v
use Rattle.mb_frames.specs.declared.machine.Waiting.{Waiting}

module _ (d d' : Data) (i : HasItsIds d) (s : StaysFound d d') where
  pub getter-stays : (y : Value) → ValueIn d y → IsCallableOrNot d y → IsCallableOrNot d' y
  getter-stays v.Undefined h k = k
  getter-stays v.Null h k = s.callable v.Null h k
  getter-stays (v.Bool b) h k = s.callable (v.Bool b) h k
  getter-stays (v.Whole z) h k = s.callable (v.Whole z) h k
  getter-stays (v.Text t) h k = s.callable (v.Text t) h k
  getter-stays (v.Symbol t) h k = s.callable (v.Symbol t) h k
  getter-stays (v.Object o) h k = s.callable (v.Object o) h k

  getter-if : (y : Option Value) → Maybe (ValueIn d) y → Maybe (IsCallableOrNot d) y → Maybe (IsCallableOrNot d') y
  getter-if None h k = k
  getter-if (Some y) h k = getter-stays y h k

  fields-stay : (y : Desc Value) → DescIn d y → AreFields d y → AreFields d' y
  fields-stay y h k = record {
    get = getter-if y.get h.get_in k.get;
    set = getter-if y.set h.set_in k.set;
    wholes = k.wholes;
  }

  property-stays : (y : Full Value) → FullIn d y → IsProperty d y → IsProperty d' y
  property-stays (Datum x w e c) h k = record { callables = k.callables; wholes = k.wholes }
  property-stays (Accessor x y e c) h k = record {
    callables = (getter-stays x h.0 k.callables.0, getter-stays y h.1 k.callables.1);
    wholes = k.wholes;
  }

  property-if : (y : Option (Full Value)) → Maybe (FullIn d) y → Maybe (IsProperty d) y → Maybe (IsProperty d') y
  property-if None h k = k
  property-if (Some y) h k = property-stays y h k

  node-stays : (home : Side) (test : Option Form → Bool) (n : ℕ) → test (slice_get (forms_at d home) n) ≡ true
      → test (slice_get (forms_at d' home) n) ≡ true
  node-stays home test n k = ap (λ fs. test (slice_get fs n)) (forms-grow d d' i s.grew home) ∙ k

  pub sound-stays : (home : Side) (y : Held) → HeldIn d y → IsSound d home y → IsSound d' home y
  sound-stays home (HeldValue y) h k = k
  sound-stays home (HeldValues ys) h k = k
  sound-stays home (HeldCallable y) h k = s.callable y h k
  sound-stays home (HeldConstructor y) h k = s.constructor y h k
  sound-stays home (HeldPrototype y) h k = k
  sound-stays home (HeldVisited y) h k = k
  sound-stays home (HeldObject id) h k = k
  sound-stays home (HeldFunction id) h k = s.functions id k
  sound-stays home (HeldCollection id) h k = s.collection id h k
  sound-stays home (HeldArray id) h k = s.arrays id home k
  sound-stays home (HeldPlain id) h k = s.plain id home k
  sound-stays home (HeldKey key) h k = k
  sound-stays home (HeldKeys keys) h k = k
  sound-stays home (HeldKeyIf key) h k = k
  sound-stays home (HeldText text) h k = k
  sound-stays home (HeldTextIf text) h k = k
  sound-stays home (HeldScope scope) h k = s.scopes scope home h k
  sound-stays home (HeldNode test n) h k = node-stays home test n k
  sound-stays home (HeldNodeIf None) h k = k
  sound-stays home (HeldSign sign) h k = k
  sound-stays home (HeldNodeIf (Some id)) h k = node-stays home is_evaluated id.0 k
  sound-stays home (HeldDesc y) h k = (k.0, fields-stay y h k.1)
  sound-stays home (HeldFields y) h k = fields-stay y h k
  sound-stays home (HeldFull full) h k = property-stays full h k
  sound-stays home (HeldReal full) h k = property-if full h k
  sound-stays home (HeldPlace place) h k = k
  sound-stays home (HeldBegan began) h k = omega (arith, k, s.entries)
  sound-stays home (HeldEntered id) h k = λ j. s.proxies id home (k (sym s.grew.joined ∙ j))
  sound-stays home (HeldSide side) h k = (omega (arith, k.0, s.grew.sides), λ j. k.1 (sym s.grew.joined ∙ j))

  are-sound : (home : Side) (ys : List Held) → AreIn d ys → AreSound d home ys → AreSound d' home ys
  are-sound home [] h k = k
  are-sound home (y ∷ ys) h k = (sound-stays home y h.0 k.0, are-sound home ys h.1 k.1)

  pub stack-sound : (ys : List Waiting) → StackIn d ys → IsStackSound d ys → IsStackSound d' ys
  stack-sound [] h k = k
  stack-sound (y ∷ ys) h k = (are-sound y.home (frame_held y.frame) h.0 k.0, stack-sound ys h.1 k.1)
