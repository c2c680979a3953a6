use Rattle.std.proofs.Common.{refl}
use Rattle.mb_world.specs.Data.{closed}
use Rattle.mb_world.specs.Ids.{ObjIn}
use Rattle.mb_world.specs.machine.Inside.{data_of}
use Rattle.mb_world.proofs.Worlds.{read, Index-set, changed-is}
use Rattle.mb_world.proofs.world.World.close.Goals as goal

pub invariant_of-self : goal.invariant_of-self
invariant_of-self c =
    let l : ObjIn (data_of c.self.inside) c.args.id = rw (← c.self.view_is) at c.requires in
    Index-set (data_of c.self.inside) _ _ _ _ c.self.invariant c.args.id c.index_mut-cell.result.now (closed c.index_mut-cell.result.now) (read _ _ _ l c.index_mut-cell.ensures.value) refl refl (λ h. record { home_in = h.home_in; kind_in = h.kind_in; proto_in = h.proto_in; props_in = h.props_in; label_in = h.label_in; slots_in = h.slots_in })

pub returns : goal.returns
returns c =
    let l : ObjIn (data_of c.self.inside) c.args.id = rw (← c.self.view_is) at c.requires in
    rw (← c.self.view_is) (changed-is (data_of c.self.inside) c.args.id c.index_mut-cell.result.now closed l c.index_mut-cell.ensures.value)
