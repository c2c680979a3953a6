-- Places as values may be held.
use Rattle.std.proofs.Common.{◌≡◌, ◌≤◌, ◌^◌, arith, nat_lt, pos, true, ℕ}
use Rattle.std.proofs.lemmas.Bool.Decides.{nat_tests}
use Rattle.mb_arrayapi.specs.machine.Placing.{IsPlace}
use Rattle.mb_base.specs.declared.value.Side.{Side}
use Rattle.mb_base.specs.declared.value.Value.{Value}
use Rattle.mb_base.specs.declared.value.Value.TheVariants as v
use Rattle.mb_frames.proofs.HeldLess.{whole-held}
use Rattle.mb_frames.specs.Held.{HeldValue}
use Rattle.mb_frames.specs.Ready.{MayHold}
use Rattle.mb_model.specs.Operations.Conversions.{whole_limit}
use Rattle.mb_world.specs.Data.{Data}

pub small-held : (d : Data) (home : Side) (k : ℕ) → k ≤ whole_limit → MayHold d home (HeldValue (v.Whole (pos k)))
small-held d home k h = (let e : nat_lt k (2 ^ 53) ≡ true = grind (arith, nat_tests) in whole-held d home (pos k) e)

pub place-held : (d : Data) (home : Side) (k : ℕ) (x : Value) → IsPlace k x → MayHold d home (HeldValue x)
place-held d home k x h = rw h.is (small-held d home k h.small)
