use Rattle.mb_world.specs.Data.{giving}
use Rattle.mb_world.specs.Ids.{ScopeIn, ValueIn}
use Rattle.mb_world.specs.machine.Inside.{data_of}
use Rattle.mb_world.proofs.Worlds.{read, Index-scopes, changed-scope-is, ScopeOf-give}
use Rattle.mb_world.proofs.world.World.give.Goals as goal

pub invariant_of-self : goal.invariant_of-self
invariant_of-self c =
    let l : ScopeIn (data_of c.self.inside) c.args.scope = rw (← c.self.view_is) at c.requires.scope in
    let v : ValueIn (data_of c.self.inside) c.args.value = rw (← c.self.view_is) at c.requires.value in
    rw c.give.ensures (Index-scopes (data_of c.self.inside) _ _ _ _ c.self.invariant c.args.scope c.index_mut-scope.result.now (giving c.args.place c.args.value c.index_mut-scope.result.now) (read _ _ _ l c.index_mut-scope.ensures.value) (ScopeOf-give (data_of c.self.inside) c.index_mut-scope.result.now c.args.place c.args.value v))

pub returns : goal.returns
returns c =
    let l : ScopeIn (data_of c.self.inside) c.args.scope = rw (← c.self.view_is) at c.requires.scope in
    rw (c.give.ensures, ← c.self.view_is) (changed-scope-is (data_of c.self.inside) c.args.scope c.index_mut-scope.result.now (giving c.args.place c.args.value) l c.index_mut-scope.ensures.value)
