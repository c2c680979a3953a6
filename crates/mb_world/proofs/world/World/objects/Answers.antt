use Rattle.std.proofs.Common.{length, arith, ap}
use Rattle.mb_world.proofs.Stands.{few-objects}
use Rattle.mb_world.proofs.world.World.objects.Goals as goal

pub overflow_cast-result : goal.overflow_cast-result
overflow_cast-result c =
    omega (arith, c.len.ensures, ap length c.self.invariant.indexed.serials_are, few-objects c.self.inside.cells.items, c.self.invariant.sized.few_cells)
