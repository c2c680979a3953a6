use Rattle.mb_maps.specs.Crossed.{CanCross}
use Rattle.mb_maps.proofs.tests.cross_all.Given as goal

abbrev pub invariant-loop-id : goal.invariant-loop-id
invariant-loop-id g l = CanCross l.w
