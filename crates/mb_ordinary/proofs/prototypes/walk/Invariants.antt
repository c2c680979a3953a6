use Rattle.std.proofs.Common.{◌≡◌}
use Rattle.mb_world.specs.Ids.{ValueIn}
use Rattle.mb_ordinary.specs.Walks.{visited, walked}
use Rattle.mb_ordinary.proofs.prototypes.walk.Given as goal

abbrev pub invariant-loop-next : goal.invariant-loop-next
invariant-loop-next l = record {
  same : walked (visited l.w l.o) l.fuel l.next ≡ walked (visited l.w l.o) l.fn.fuel l.fn.p;
  within : ValueIn l.w l.next;
}

abbrev pub decreases-loop-next : goal.decreases-loop-next
decreases-loop-next l = l.fuel
