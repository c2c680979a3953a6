use Rattle.std.specs.Prelude.{nat_eq}
use Rattle.std.specs.HashSet.{contains}
use Rattle.mb_scope.specs.machine.First.{IsFirst}
use Rattle.mb_scope.proofs.Repeating.{IsSeen, RepeatsBelow}
use Rattle.mb_scope.proofs.twice.first_repeat.Given as goal

abbrev pub invariant-loop-binding : goal.invariant-loop-binding
invariant-loop-binding l = record {
  names : IsSeen (contains nat_eq l.seen) l.bindings l.binding-index;
  least : IsFirst (λ id. id.0) (RepeatsBelow l.bindings l.binding-index) l.first;
}
