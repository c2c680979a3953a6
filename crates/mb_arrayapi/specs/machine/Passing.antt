-- What a function is called with for an element.
use Rattle.std.specs.Option.{option_to_list}
use Rattle.std.specs.Prelude.{Bool, List, None, Option, [], false, pos, true, ℕ, ◌++◌, ◌∷◌, ◌≡◌, ◌≤◌}
use Rattle.mb_base.specs.declared.value.ObjId.{ObjId}
use Rattle.mb_base.specs.declared.value.Value.{Value}
use Rattle.mb_base.specs.declared.value.Value.TheVariants as v
use Rattle.mb_frames.specs.declared.arrays.Callback.{Callback}
use Rattle.mb_frames.specs.declared.arrays.Callback.TheVariants as callback
use Rattle.mb_model.specs.Operations.Conversions.{whole_limit}

-- a reduce without a value so far
abbrev pub lacks_value : Callback → Bool
lacks_value (callback.Reduce f None) = true
lacks_value other = false

abbrev pub function_of : Callback → Value
function_of (callback.ForEach f this) = f
function_of (callback.Map f this array) = f
function_of (callback.Filter f this array count) = f
function_of (callback.Reduce f so_far) = f

abbrev pub this_of : Callback → Value
this_of (callback.ForEach f this) = this
this_of (callback.Map f this array) = this
this_of (callback.Filter f this array count) = this
this_of (callback.Reduce f so_far) = v.Undefined

abbrev pub so_far_of : Callback → Option Value
so_far_of (callback.Reduce f so_far) = so_far
so_far_of other = None

-- the value so far, if there is one, the element, its place and the object
pub record IsPassed (so_far : Option Value) (x : Value) (place : ℕ) (object : ObjId) (xs : List Value) : Type 0 where
  pub are : xs ≡ option_to_list so_far ++ (x ∷ v.Whole (pos place) ∷ v.Object object ∷ [])
  pub small : place ≤ whole_limit
