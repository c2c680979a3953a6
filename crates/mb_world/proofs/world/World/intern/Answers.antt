use Rattle.mb_world.specs.machine.Inside.{data_of}
use Rattle.mb_world.proofs.Texts.{Index-text}
use Rattle.mb_world.proofs.world.World.intern.Goals as goal

pub invariant_of-self-2 : goal.invariant_of-self-2
invariant_of-self-2 c = rw c.in_ok-id.ensures.texts (Index-text (data_of c.self.inside) _ _ _ _ c.self.invariant c.args.units.now (rw c.in_ok-id.ensures.texts at c.in_ok-id.ensures.distinct))
