use Rattle.std.proofs.Common.{◌<◌, ◌+◌, ◌^◌, length, arith}
use Rattle.mb_world.specs.Ids.{Maybe, TextIn}
use Rattle.mb_world.specs.machine.Inside.{data_of}
use Rattle.mb_world.proofs.Making.{Index-symbol}
use Rattle.mb_world.proofs.world.World.make_symbol.Goals as goal

pub invariant_of-self-2 : goal.invariant_of-self-2
invariant_of-self-2 c =
    let h : Maybe (TextIn (data_of c.self.inside)) c.args.description = rw (← c.self.view_is) at c.requires in
    let few : length c.self.inside.symbols.items + 1 < 2 ^ 32 = omega arith in
    rw c.in_ok-push.ensures.items (Index-symbol (data_of c.self.inside) _ _ _ _ c.self.invariant c.args.description h few)
