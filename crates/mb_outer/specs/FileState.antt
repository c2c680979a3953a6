-- A library over files as its callers see it.
use Rattle.std.specs.Prelude.{ℕ, Bool}

-- whether a text is started, and the number of faults so far
pub record FileState : Type 0 where
  pub started : Bool
  pub faults : ℕ
