use Rattle.std.proofs.Common.{◌≡◌}
use Rattle.std.specs.List.{flat_map}
use Rattle.mb_intrinsics.specs.Furnished.{sides_from, standard_cells}
use Rattle.mb_world.specs.Data.{with_cells}
use Rattle.mb_intrinsics.proofs.furnishing.add_each.Given as goal

abbrev pub invariant-loop-side : goal.invariant-loop-side
invariant-loop-side l =
    l.w ≡ with_cells l.fn.w (flat_map (standard_cells l.fn.w.texts) (sides_from 0 l.side))
