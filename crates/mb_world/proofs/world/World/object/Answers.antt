use Rattle.std.proofs.Common.{◌∙◌, ap, slice_get}
use Rattle.mb_world.proofs.Stands.{object-below}
use Rattle.mb_world.proofs.world.World.object.Goals as goal

pub returns-clause-within : goal.returns-clause-within
returns-clause-within c =
    rw (← c.self.view_is) (object-below c.self.inside.cells.items c.args.serial c.nth.result (c.nth.ensures ∙ ap (λ xs. slice_get xs c.args.serial) (c.deref.ensures.value ∙ c.self.invariant.indexed.serials_are)))
