use Rattle.std.proofs.Common.{take, ◌++◌, ◌≡◌}
use Rattle.mb_intrinsics.specs.machine.Filling.{bare_cells}
use Rattle.mb_world.specs.Data.{with_cells}
use Rattle.mb_intrinsics.proofs.standard.make_all.Given as goal

abbrev pub invariant-loop-place : goal.invariant-loop-place
invariant-loop-place l =
    l.w ≡ with_cells l.fn.w (l.fn.w.cells ++ take l.place (bare_cells l.fn.w.texts l.home))
