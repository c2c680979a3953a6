use Rattle.std.proofs.Common.{refl}
use Rattle.mb_world.specs.Data.{with_slot}
use Rattle.mb_world.specs.Ids.{ObjIn, Maybe, PairIn}
use Rattle.mb_world.specs.machine.Inside.{data_of}
use Rattle.mb_world.proofs.Worlds.{read, Index-set, changed-is, CellIn-slot}
use Rattle.mb_world.proofs.world.World.set_slot.Goals as goal

pub invariant_of-self-2 : goal.invariant_of-self-2
invariant_of-self-2 c =
    let l : ObjIn (data_of c.self.inside) c.args.id = rw (← c.self.view_is) at c.requires.object in
    let p : Maybe (PairIn (data_of c.self.inside)) c.args.pair = rw (← c.self.view_is) at c.requires.pair in
    rw c.in_ok-set.ensures.set (Index-set (data_of c.self.inside) _ _ _ _ c.self.invariant c.args.id c.index_mut-cell.result.now (with_slot c.args.at c.args.pair c.index_mut-cell.result.now) (read _ _ _ l c.index_mut-cell.ensures.value) refl refl (CellIn-slot (data_of c.self.inside) c.index_mut-cell.result.now c.args.at c.args.pair p))

pub returns-clause-set : goal.returns-clause-set
returns-clause-set c =
    let l : ObjIn (data_of c.self.inside) c.args.id = rw (← c.self.view_is) at c.requires.object in
    rw (c.in_ok-set.ensures.set, ← c.self.view_is) (changed-is (data_of c.self.inside) c.args.id c.index_mut-cell.result.now (with_slot c.args.at c.args.pair) l c.index_mut-cell.ensures.value)
