use Rattle.std.proofs.Common.{refl}
use Rattle.mb_world.specs.Data.{put_in}
use Rattle.mb_world.specs.Ids.{ObjIn, KeyIn, FullIn}
use Rattle.mb_world.specs.machine.Inside.{data_of}
use Rattle.mb_world.proofs.Worlds.{read, Index-set, changed-is, CellIn-put}
use Rattle.mb_world.proofs.world.World.put.Goals as goal

pub invariant_of-self-2 : goal.invariant_of-self-2
invariant_of-self-2 c =
    let l : ObjIn (data_of c.self.inside) c.args.id = rw (← c.self.view_is) at c.requires.object in
    let k : KeyIn (data_of c.self.inside) c.args.key = rw (← c.self.view_is) at c.requires.key in
    let f : FullIn (data_of c.self.inside) c.args.full = rw (← c.self.view_is) at c.requires.full in
    rw c.in_ok-put.ensures.put (Index-set (data_of c.self.inside) _ _ _ _ c.self.invariant c.args.id c.index_mut-cell.result.now (put_in c.args.key c.args.full c.index_mut-cell.result.now) (read _ _ _ l c.index_mut-cell.ensures.value) refl refl (CellIn-put (data_of c.self.inside) c.index_mut-cell.result.now c.args.key c.args.full k f))

pub returns-clause-put : goal.returns-clause-put
returns-clause-put c =
    let l : ObjIn (data_of c.self.inside) c.args.id = rw (← c.self.view_is) at c.requires.object in
    rw (c.in_ok-put.ensures.put, ← c.self.view_is) (changed-is (data_of c.self.inside) c.args.id c.index_mut-cell.result.now (put_in c.args.key c.args.full) l c.index_mut-cell.ensures.value)
