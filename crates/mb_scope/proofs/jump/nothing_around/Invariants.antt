use Rattle.std.proofs.Common.{◌≡◌, replicate}
use Rattle.mb_scope.specs.machine.Around.{outside}
use Rattle.mb_scope.proofs.jump.nothing_around.Given as goal

abbrev pub invariant-loop : goal.invariant-loop
invariant-loop l = l.known.items ≡ replicate l.counter outside
