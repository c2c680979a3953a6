use Rattle.std.proofs.Common.{take}
use Rattle.mb_frames.specs.Resolved.{values_in}
use Rattle.mb_parts.proofs.Filling.{IsFilling}
use Rattle.mb_parts.proofs.arrays.make_array.Given as goal
use Rattle.mb_world.specs.Image.{names_of}

abbrev pub invariant-loop-place : goal.invariant-loop-place
invariant-loop-place l =
    IsFilling l.fn.w l.w l.fn.home l.array (values_in (names_of l.fn.w) (take l.place l.values))
