-- Loops over the elements of an object: one turn.
use Rattle.std.proofs.Common.{◌+◌, ◌≡◌, None, Some, refl, suc, ℕ}
use Rattle.mb_arrayapi.specs.machine.Turning.{calls_from, turns_from}
use Rattle.mb_frames.specs.Rest.Arraying.{call_found, turn_found, turn_index}
use Rattle.mb_frames.specs.declared.arrays.Callback.{Callback}
use Rattle.mb_frames.specs.declared.arrays.Callback.TheVariants as callback
use Rattle.mb_frames.specs.declared.arrays.Turn.{Turn}
use Rattle.mb_frames.specs.declared.arrays.Turn.TheVariants as turn
use Rattle.mb_model.specs.BuiltIns.Arrays.{each_turn}
use Rattle.mb_model.specs.Writing.{◌>>=◌}
use Rattle.mb_world.specs.Image.{Names}
use Rattle.mb_world.specs.Value.{Val}

module _ (n : Names) (s : ℕ) (o : Val) where
  calls-more : (f : Callback) (k m : ℕ)
      → calls_from n s o f k (suc m) ≡ (each_turn s o k >>= call_found n s o f k m)
  calls-more (callback.ForEach f this) k m = refl
  calls-more (callback.Map f this array) k m = refl
  calls-more (callback.Filter f this array count) k m = refl
  calls-more (callback.Reduce f so_far) k m = refl

  pub turns-more : (t : Turn) (k m : ℕ)
      → turns_from n s o t k (suc m) ≡ (each_turn s o (turn_index t k) >>= turn_found n s o t k m)
  turns-more (turn.Call f) k m = calls-more f k m
  turns-more (turn.IndexOf x) k m = refl
  turns-more (turn.Slice array from) k m = refl

  calls-over : (f : Callback) (k m : ℕ) → call_found n s o f k m None ≡ calls_from n s o f (k + 1) m
  calls-over (callback.ForEach f this) k m = refl
  calls-over (callback.Map f this array) k m = refl
  calls-over (callback.Filter f this array count) k m = refl
  calls-over (callback.Reduce f None) k m = refl
  calls-over (callback.Reduce f (Some x)) k m = refl

  -- a hole is passed over
  pub turns-over : (t : Turn) (k m : ℕ) → turn_found n s o t k m None ≡ turns_from n s o t (k + 1) m
  turns-over (turn.Call f) k m = calls-over f k m
  turns-over (turn.IndexOf x) k m = refl
  turns-over (turn.Slice array from) k m = refl
