-- What parts of rows need of the world in which they are done.
use Rattle.std.specs.Prelude.{None, is_some, true, ℕ, ◌<◌, ◌≡◌, ◌≢◌}
use Rattle.mb_base.specs.declared.value.Side.{Side}
use Rattle.mb_frames.specs.Running.{CanRun}
use Rattle.mb_frames.specs.declared.task.Context.{Context}
use Rattle.mb_world.specs.Data.{Data, built_in_of}
use Rattle.mb_world.specs.Ids.{HasItsIds, ScopeIn, ValueIn}
use Rattle.mb_world.specs.Intrinsics.{intrinsic}

-- the scope and `this` are there
abbrev pub ContextIn : Data → Context → Type 0
ContextIn d at = ScopeIn d at.scope × ValueIn d at.this

-- a side has the built-ins of the table
abbrev pub HasBuiltIns : Data → Side → Type 0
HasBuiltIns d home = (place : ℕ) → intrinsic place ≢ None → is_some (built_in_of d.joined d.cells home place) ≡ true

-- a side that acts: its errors find their prototypes
pub record Acts (d : Data) (home : Side) : Type 0 where
  pub side : home.0 < 8
  pub ids : HasItsIds d
  pub runs : CanRun d home
  pub built_ins : HasBuiltIns d home
