-- Which node declares a function.
use Rattle.std.specs.Prelude.{Some, length, slice_get, ℕ, ◌≡◌}
use Rattle.mb_base.specs.declared.value.NodeId.{NodeId}
use Rattle.mb_base.specs.declared.value.Side.{Side}
use Rattle.mb_base.specs.declared.value.StrId.{StrId}
use Rattle.mb_frames.specs.Standing.{forms_at}
use Rattle.mb_world.specs.Data.{Data}
use Rattle.mb_world.specs.Form.{FunctionDeclForm, FunctionParts}
use Rattle.mb_world.specs.Ids.{TextIn}
use Rattle.mb_world.specs.Image.{names_of, text_in}

-- the node declares a function with so many Params
pub record IsDeclared (d : Data) (home : Side) (statement : NodeId) (name : StrId) (params : ℕ) : Type 0 where
  pub parts : FunctionParts
  pub there : slice_get (forms_at d home) statement.0 ≡ Some (FunctionDeclForm (text_in (names_of d) name) parts)
  pub count : length parts.params ≡ params
  pub text : TextIn d name
