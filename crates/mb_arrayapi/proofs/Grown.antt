-- Loops stand for the same in a world that grew.
use Rattle.std.proofs.Common.{◌≡◌, None, Option, Some, ap, option_map, refl, ℕ}
use Rattle.mb_arrayapi.specs.machine.Turning.{calls_from, turns_from}
use Rattle.mb_base.specs.declared.value.Value.{Value}
use Rattle.mb_frames.proofs.Agreeing.{Agrees, grown-agree}
use Rattle.mb_frames.specs.Held.{AreIn}
use Rattle.mb_frames.specs.Holding.{callback_held, turn_held, value_if}
use Rattle.mb_frames.specs.declared.arrays.Callback.{Callback}
use Rattle.mb_frames.specs.declared.arrays.Callback.TheVariants as callback
use Rattle.mb_frames.specs.declared.arrays.Turn.{Turn}
use Rattle.mb_frames.specs.declared.arrays.Turn.TheVariants as turn
use Rattle.mb_world.specs.Data.{Data}
use Rattle.mb_world.specs.Grows.{Grows}
use Rattle.mb_world.specs.Image.{Names, Resolve, names_of}
use Rattle.mb_world.specs.Value.{Val}

module _ (d d' : Data) (g : Grows d d') (s : ℕ) (o : Val) where
  abbrev n : Names
  n = names_of d

  abbrev n' : Names
  n' = names_of d'

  a : Agrees d (names_of d) (names_of d')
  a = grown-agree d d' g

  values-same : (y : Option Value) → AreIn d (value_if y) → option_map (Resolve n') y ≡ option_map (Resolve n) y
  values-same None h = refl
  values-same (Some x) h = ap Some (a.value x h.0)

  calls-grow : (f : Callback) → AreIn d (callback_held f) → (k m : ℕ)
      → calls_from n' s o f k m ≡ calls_from n s o f k m
  calls-grow (callback.ForEach f this) h k m = rw (a.value f h.0, a.value this h.1.0) refl
  calls-grow (callback.Map f this array) h k m = rw (a.value f h.0, a.value this h.1.0, a.object array h.1.1.0) refl
  calls-grow (callback.Filter f this array count) h k m =
      rw (a.value f h.0, a.value this h.1.0, a.object array h.1.1.0) refl
  calls-grow (callback.Reduce f so_far) h k m = rw (a.value f h.0, values-same so_far h.1) refl

  pub turns-grow : (t : Turn) → AreIn d (turn_held t) → (k m : ℕ) → turns_from n' s o t k m ≡ turns_from n s o t k m
  turns-grow (turn.Call f) h k m = calls-grow f h k m
  turns-grow (turn.IndexOf x) h k m = rw (a.value x h.0) refl
  turns-grow (turn.Slice array from) h k m = rw (a.object array h.0) refl
