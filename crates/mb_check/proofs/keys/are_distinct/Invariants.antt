use Rattle.std.proofs.Common.{◌≡◌, IsTrue, length}
use Rattle.std.specs.List.Sorted.{IsSorted}
use Rattle.mb_check.specs.Keys.{are_distinct}
use Rattle.mb_check.proofs.keys.are_distinct.Given as goal

abbrev pub invariant-loop-key : goal.invariant-loop-key
invariant-loop-key g l = record {
  same : are_distinct g.K.PartialEq.eq l.rest ≡ are_distinct g.K.PartialEq.eq l.keys;
  ascending : IsTrue l.ascending → IsSorted g.K.Ord.cmp l.rest;
}

abbrev pub decreases-loop-key : goal.decreases-loop-key
decreases-loop-key g l = length l.rest
