-- A sink over a writer as its callers see it.
use Rattle.std.specs.Prelude.{ℕ}

-- the writer, and the number of faults so far
pub record WriteState (W : Type 0) : Type 0 where
  pub writer : W
  pub faults : ℕ
