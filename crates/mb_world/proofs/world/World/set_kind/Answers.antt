use Rattle.std.proofs.Common.{refl, ap, sym, ◌∙◌}
use Rattle.mb_world.specs.Data.{with_kind, cell_at}
use Rattle.mb_world.specs.Ids.{ObjIn, KindIn}
use Rattle.mb_world.specs.machine.Inside.{data_of}
use Rattle.mb_world.proofs.Worlds.{read, Index-set, changed-is}
use Rattle.mb_world.proofs.world.World.set_kind.Goals as goal

pub invariant_of-self : goal.invariant_of-self
invariant_of-self c =
    let l : ObjIn (data_of c.self.inside) c.args.id = rw (← c.self.view_is) at c.requires.object in
    let v : KindIn (data_of c.self.inside) c.args.kind = rw (← c.self.view_is) at c.requires.kind in
    let e = read _ _ _ l c.index_mut-cell.ensures.value in
    Index-set (data_of c.self.inside) _ _ _ _ c.self.invariant c.args.id c.index_mut-cell.result.now (with_kind c.args.kind c.index_mut-cell.result.now) e (c.requires.same c.index_mut-cell.result.now (ap (λ d. cell_at d c.args.id) (sym c.self.view_is) ∙ e)) refl (λ h. record { home_in = h.home_in; kind_in = v; proto_in = h.proto_in; props_in = h.props_in; label_in = h.label_in; slots_in = h.slots_in })

pub returns : goal.returns
returns c =
    let l : ObjIn (data_of c.self.inside) c.args.id = rw (← c.self.view_is) at c.requires.object in
    rw (← c.self.view_is) (changed-is (data_of c.self.inside) c.args.id c.index_mut-cell.result.now (with_kind c.args.kind) l c.index_mut-cell.ensures.value)
