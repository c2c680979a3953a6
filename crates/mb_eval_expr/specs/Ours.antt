-- Which frames are those of expressions, and what each is given.
use Rattle.std.specs.Prelude.{slice_get, true, ◌≡◌}
use Rattle.mb_base.specs.declared.value.Side.{Side}
use Rattle.mb_frames.specs.Kinds.{is_expression}
use Rattle.mb_frames.specs.Standing.{forms_at}
use Rattle.mb_frames.specs.declared.frame.Frame.{Frame}
use Rattle.mb_frames.specs.declared.frame.Frame.TheVariants as x
use Rattle.mb_frames.specs.declared.task.Task.{Task}
use Rattle.mb_frames.specs.declared.task.Task.TheVariants as t
use Rattle.mb_world.specs.Data.{Data}

abbrev pub IsExpressionTask : Data → Side → Task → Type 0
IsExpressionTask d home (t.Evaluate node at) = is_expression (slice_get (forms_at d home) node.0) ≡ true
IsExpressionTask d home (t.Chain object prototype) = Unit {0}
IsExpressionTask d home task = ⊥

-- an expression that begins, the next object of `instanceof`, and an expression that waits
abbrev pub IsExpressionFrame : Data → Side → Frame → Type 0
IsExpressionFrame d home (x.Begin task) = IsExpressionTask d home task
IsExpressionFrame d home (x.Anew task) = IsExpressionTask d home task
IsExpressionFrame d home (x.Expr frame) = Unit {0}
IsExpressionFrame d home frame = ⊥
