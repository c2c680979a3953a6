-- indexOf: the element at hand is the one that is looked for, or not.
use Rattle.std.proofs.Common.{◌+◌, ◌≡◌, Bool, ap, false, true, ℕ}
use Rattle.std.specs.Prelude.{Some, if◌then◌else◌}
use Rattle.mb_base.specs.declared.value.Value.{Value}
use Rattle.mb_frames.specs.Rest.Arraying.{turn_found}
use Rattle.mb_frames.specs.declared.arrays.Turn.TheVariants as turn
use Rattle.mb_model.specs.BuiltIns.ArrayMembers.{index_each}
use Rattle.mb_model.specs.BuiltIns.Arrays.{place_value}
use Rattle.mb_model.specs.Task.{Answer, Value as ValueAnswer}
use Rattle.mb_model.specs.Writing.{Does, give}
use Rattle.mb_world.specs.Image.{Names, Resolve}
use Rattle.mb_world.specs.Value.{Val, same_value}

module _ (n : Names) (s : ℕ) (o : Val) (wanted : Value) (k m : ℕ) (x : Val) where
  abbrev compared : Bool → Does Answer
  compared b = if b then give (ValueAnswer (place_value k)) else index_each s o (Resolve n wanted) m (k + 1)

  pub found-at : same_value x (Resolve n wanted) ≡ true
      → turn_found n s o (turn.IndexOf wanted) k m (Some x) ≡ give (ValueAnswer (place_value k))
  found-at e = ap compared e

  pub found-not : same_value x (Resolve n wanted) ≡ false
      → turn_found n s o (turn.IndexOf wanted) k m (Some x) ≡ index_each s o (Resolve n wanted) m (k + 1)
  found-not e = ap compared e
