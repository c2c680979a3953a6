use Rattle.std.proofs.Common.{◌<◌, ◌+◌, ◌^◌, length, arith}
use Rattle.mb_world.specs.Ids.{ScopeOf}
use Rattle.mb_world.specs.machine.Inside.{data_of}
use Rattle.mb_world.proofs.Making.{Index-scope}
use Rattle.mb_world.proofs.world.World.add_scope.Goals as goal

pub invariant_of-self-2 : goal.invariant_of-self-2
invariant_of-self-2 c =
    let h : ScopeOf (data_of c.self.inside) c.args.scope = rw (← c.self.view_is) at c.requires in
    let few : length c.self.inside.scopes.items + 1 < 2 ^ 32 = omega arith in
    rw c.in_ok-push.ensures.items (Index-scope (data_of c.self.inside) _ _ _ _ c.self.invariant c.args.scope h few)
