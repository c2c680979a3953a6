-- Places as values.
use Rattle.std.specs.Prelude.{pos, ℕ, ◌≡◌, ◌≤◌}
use Rattle.mb_base.specs.declared.value.Value.{Value}
use Rattle.mb_base.specs.declared.value.Value.TheVariants as v
use Rattle.mb_model.specs.Operations.Conversions.{whole_limit}

-- the value is that place, in the range of the whole numbers
pub record IsPlace (place : ℕ) (x : Value) : Type 0 where
  pub is : x ≡ v.Whole (pos place)
  pub small : place ≤ whole_limit
