use Rattle.std.proofs.Common.{map, take, ◌≡◌}
use Rattle.mb_intrinsics.specs.machine.Filling.{puts}
use Rattle.mb_intrinsics.specs.machine.Table.{property_in}
use Rattle.mb_world.specs.Data.{change_cell}
use Rattle.mb_intrinsics.proofs.standard.put_all.Given as goal

abbrev pub invariant-loop-key : goal.invariant-loop-key
invariant-loop-key l =
    l.w ≡ change_cell l.fn.w l.id (puts l.fn.w.texts l.home (map property_in (take l.key-index l.properties)))
