use Rattle.std.proofs.Common.{refl, ap, ◌∙◌, sym, is_some}
use Rattle.mb_world.specs.Data.{remove_in, property_in}
use Rattle.mb_world.specs.Ids.{ObjIn}
use Rattle.mb_world.specs.machine.Inside.{data_of}
use Rattle.mb_world.proofs.Worlds.{read, Index-set, changed-is, CellIn-remove}
use Rattle.mb_world.proofs.world.World.remove.Goals as goal

pub invariant_of-self : goal.invariant_of-self
invariant_of-self c =
    let l : ObjIn (data_of c.self.inside) c.args.id = rw (← c.self.view_is) at c.requires in
    rw c.remove.ensures.removed (Index-set (data_of c.self.inside) _ _ _ _ c.self.invariant c.args.id c.index_mut-cell.result.now (remove_in c.args.key c.index_mut-cell.result.now) (read _ _ _ l c.index_mut-cell.ensures.value) refl refl (CellIn-remove (data_of c.self.inside) c.index_mut-cell.result.now c.args.key))

pub returns-clause-removed : goal.returns-clause-removed
returns-clause-removed c =
    let l : ObjIn (data_of c.self.inside) c.args.id = rw (← c.self.view_is) at c.requires in
    rw (c.remove.ensures.removed, ← c.self.view_is) (changed-is (data_of c.self.inside) c.args.id c.index_mut-cell.result.now (remove_in c.args.key) l c.index_mut-cell.ensures.value)

pub returns-clause-was : goal.returns-clause-was
returns-clause-was c =
    let l : ObjIn (data_of c.self.inside) c.args.id = rw (← c.self.view_is) at c.requires in
    rw (← c.self.view_is) (c.remove.ensures.was ∙ ap (λ o. is_some (property_in c.args.key o)) (sym (read _ _ _ l c.index_mut-cell.ensures.value)))
