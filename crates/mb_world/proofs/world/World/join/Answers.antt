use Rattle.std.proofs.Common.{◌++◌}
use Rattle.mb_text.specs.Texts.{text_at}
use Rattle.mb_world.specs.machine.Inside.{data_of}
use Rattle.mb_world.proofs.Texts.{Index-text}
use Rattle.mb_world.proofs.world.World.join.Goals as goal

pub invariant_of-self-2 : goal.invariant_of-self-2
invariant_of-self-2 c = rw c.in_ok-id.ensures.texts (Index-text (data_of c.self.inside) _ _ _ _ c.self.invariant (text_at c.self.inside.texts c.args.a ++ text_at c.self.inside.texts c.args.b) (rw c.in_ok-id.ensures.texts at c.in_ok-id.ensures.distinct))
