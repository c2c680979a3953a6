use Rattle.std.proofs.Common.{refl}
use Rattle.mb_world.specs.Data.{with_proto}
use Rattle.mb_world.specs.Ids.{ObjIn, ValueIn}
use Rattle.mb_world.specs.machine.Inside.{data_of}
use Rattle.mb_world.proofs.Worlds.{read, Index-set, changed-is}
use Rattle.mb_world.proofs.world.World.set_proto.Goals as goal

pub invariant_of-self : goal.invariant_of-self
invariant_of-self c =
    let l : ObjIn (data_of c.self.inside) c.args.id = rw (← c.self.view_is) at c.requires.object in
    let v : ValueIn (data_of c.self.inside) c.args.proto = rw (← c.self.view_is) at c.requires.proto in
    Index-set (data_of c.self.inside) _ _ _ _ c.self.invariant c.args.id c.index_mut-cell.result.now (with_proto c.args.proto c.index_mut-cell.result.now) (read _ _ _ l c.index_mut-cell.ensures.value) refl refl (λ h. record { home_in = h.home_in; kind_in = h.kind_in; proto_in = v; props_in = h.props_in; label_in = h.label_in; slots_in = h.slots_in })

pub returns : goal.returns
returns c =
    let l : ObjIn (data_of c.self.inside) c.args.id = rw (← c.self.view_is) at c.requires.object in
    rw (← c.self.view_is) (changed-is (data_of c.self.inside) c.args.id c.index_mut-cell.result.now (with_proto c.args.proto) l c.index_mut-cell.ensures.value)
