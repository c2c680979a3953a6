-- Loops over the elements of an object, from a place on.
use Rattle.std.specs.Prelude.{List, option_map, ℕ, ◌∷◌, ◌+◌, negsuc}
use Rattle.mb_arrayapi.specs.declared.turns.Elements.{Elements}
use Rattle.mb_frames.specs.Held.{Held, HeldObject}
use Rattle.mb_frames.specs.Holding.{turn_held}
use Rattle.mb_frames.specs.declared.arrays.Callback.{Callback}
use Rattle.mb_frames.specs.declared.arrays.Callback.TheVariants as callback
use Rattle.mb_frames.specs.declared.arrays.Turn.{Turn}
use Rattle.mb_frames.specs.declared.arrays.Turn.TheVariants as turn
use Rattle.mb_model.specs.BuiltIns.Arguments.{undefined}
use Rattle.mb_model.specs.BuiltIns.ArrayMembers.{filter_each, for_each, index_each, map_each, reduce_each, reduced}
use Rattle.mb_model.specs.BuiltIns.ArrayMembers.{slice_each}
use Rattle.mb_model.specs.Task.{Answer, Value as ValueAnswer}
use Rattle.mb_model.specs.Writing.{Does, give}
use Rattle.mb_world.specs.Image.{Names, Resolve, object_in}
use Rattle.mb_world.specs.Value.{Val, Whole}

-- so many elements, from a place on, for each of which a function is called
abbrev pub calls_from : Names → ℕ → Val → Callback → (place left : ℕ) → Does Answer
calls_from n s o (callback.ForEach f this) k m = for_each s o (Resolve n f) (Resolve n this) m k
calls_from n s o (callback.Map f this array) k m =
    map_each s o (Resolve n f) (Resolve n this) (object_in n array) m k
calls_from n s o (callback.Filter f this array count) k m =
    filter_each s o (Resolve n f) (Resolve n this) (object_in n array) m k count
calls_from n s o (callback.Reduce f so_far) k m = reduce_each s o (Resolve n f) m k (option_map (Resolve n) so_far)

-- so many elements, from a place on
abbrev pub turns_from : Names → ℕ → Val → Turn → (place left : ℕ) → Does Answer
turns_from n s o (turn.Call f) k m = calls_from n s o f k m
turns_from n s o (turn.IndexOf x) k m = index_each s o (Resolve n x) m k
turns_from n s o (turn.Slice array from) k m = slice_each s o (object_in n array) m from k

-- the elements that are left
abbrev pub rest_of : Names → ℕ → Elements → Does Answer
rest_of n s at = turns_from n s (object_in n at.object) at.turn at.place at.left

-- those after the one at hand
abbrev pub rest_after : Names → ℕ → Elements → Does Answer
rest_after n s at = turns_from n s (object_in n at.object) at.turn (at.place + 1) at.left

abbrev pub elements_held : Elements → List Held
elements_held at = HeldObject at.object ∷ turn_held at.turn

-- ---- none is left

abbrev pub calls_ended : Names → ℕ → Callback → Does Answer
calls_ended n s (callback.ForEach f this) = undefined
calls_ended n s (callback.Map f this array) = give (ValueAnswer (object_in n array))
calls_ended n s (callback.Filter f this array count) = give (ValueAnswer (object_in n array))
calls_ended n s (callback.Reduce f so_far) = reduced s (option_map (Resolve n) so_far)

abbrev pub ended : Names → ℕ → Turn → Does Answer
ended n s (turn.Call f) = calls_ended n s f
ended n s (turn.IndexOf x) = give (ValueAnswer (Whole (negsuc 0)))
ended n s (turn.Slice array from) = give (ValueAnswer (object_in n array))
