-- Lengths that members write.
use Rattle.std.specs.Prelude.{ℕ}
use Rattle.mb_model.specs.BuiltIns.Arrays.{place_value}
use Rattle.mb_model.specs.Operations.Calls.{putv}
use Rattle.mb_model.specs.Task.{Answer, Value}
use Rattle.mb_model.specs.Writing.{◌>>=◌, Does, give}
use Rattle.mb_world.specs.Arrays.{length_key}
use Rattle.mb_world.specs.Value.{Val}

-- the length is set, and then a value is given
abbrev pub popped : ℕ → Val → ℕ → Val → Does Answer
popped s o n x = putv s o length_key (place_value n) >>= (λ b. give (Value x))
