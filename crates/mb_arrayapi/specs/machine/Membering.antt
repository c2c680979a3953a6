-- Members of Array.prototype, by their places in the table.
use Rattle.std.specs.Prelude.{Bool, List, Option, Some, false, true, ℕ, ◌≡◌, unwrap_or, slice_get}
use Rattle.mb_base.specs.declared.value.Value.{Value}
use Rattle.mb_base.specs.declared.value.Value.TheVariants as v
use Rattle.mb_frames.specs.Resolved.{values_in}
use Rattle.mb_frames.specs.Rest.Arraying.{member_from}
use Rattle.mb_frames.specs.declared.arrays.Member.{Member}
use Rattle.mb_model.specs.BuiltIns.Arrays.{array_start}
use Rattle.mb_model.specs.BuiltIns.{run_row}
use Rattle.mb_model.specs.Writing.{◌>>=◌}
use Rattle.mb_world.specs.Image.{Names}
use Rattle.mb_world.specs.Intrinsics.{ArrayPrototypeFilter, ArrayPrototypeForEach, ArrayPrototypeIndexOf}
use Rattle.mb_world.specs.Intrinsics.{ArrayPrototypeJoin, ArrayPrototypeMap, ArrayPrototypePop, ArrayPrototypePush}
use Rattle.mb_world.specs.Intrinsics.{ArrayPrototypeReduce, ArrayPrototypeSlice, Intrinsic}
use Rattle.mb_world.specs.Value.{Val}

abbrev pub is_member : Option Intrinsic → Bool
is_member (Some ArrayPrototypePush) = true
is_member (Some ArrayPrototypePop) = true
is_member (Some ArrayPrototypeMap) = true
is_member (Some ArrayPrototypeForEach) = true
is_member (Some ArrayPrototypeFilter) = true
is_member (Some ArrayPrototypeReduce) = true
is_member (Some ArrayPrototypeIndexOf) = true
is_member (Some ArrayPrototypeSlice) = true
is_member (Some ArrayPrototypeJoin) = true
is_member place = false

-- the row of the built-in at a place, with these arguments, is that of the member
abbrev pub DoesMember : ℕ → List Value → Member → Type 0
DoesMember place arguments member = (n : Names) (s : ℕ) (this target : Val) →
    run_row s place this (values_in n arguments) target ≡ (array_start s this >>= member_from n s this member)

-- the argument at a place, or undefined
abbrev pub argument : List Value → ℕ → Value
argument arguments place = unwrap_or (slice_get arguments place) v.Undefined
