-- What is done with the value of a reference, as the rest of the frame that may wait for it.
use Rattle.mb_eval_expr.specs.declared.uses.Use.{Use}
use Rattle.mb_eval_expr.specs.declared.uses.Use.TheVariants as u
use Rattle.mb_frames.specs.Holding.{expr_held}
use Rattle.mb_frames.specs.Held.{AreIn}
use Rattle.mb_frames.specs.Rest.Expressions.{expr_rest}
use Rattle.mb_frames.specs.Standing.{forms_at}
use Rattle.mb_base.specs.declared.value.Side.{Side}
use Rattle.mb_frames.specs.declared.expressions.ExprFrame.{ExprFrame}
use Rattle.mb_frames.specs.declared.expressions.ExprFrame.TheVariants as e
use Rattle.mb_model.specs.Task.{Answer, Value as ValueAnswer}
use Rattle.mb_model.specs.Writing.{Does}
use Rattle.mb_world.specs.Data.{Data}
use Rattle.mb_world.specs.Image.{names_of}
use Rattle.mb_world.specs.Value.{Val}

abbrev pub use_frame : Use → ExprFrame
use_frame u.Give = e.Got
use_frame (u.Compound at sign value to) = e.CompoundOld at sign value to
use_frame (u.Update at plus prefix to) = e.UpdateOld at plus prefix to
use_frame (u.Call at node this) = e.Callee at node this

abbrev pub UseIn : Data → Use → Type 0
UseIn d next = AreIn d (expr_held (use_frame next))

-- what is done with a value, by a side
abbrev pub used : Data → Side → Use → Val → Does Answer
used d home next v = expr_rest (names_of d) (forms_at d home) home.0 (use_frame next) (ValueAnswer v)
