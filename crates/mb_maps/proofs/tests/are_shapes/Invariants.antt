use Rattle.mb_maps.specs.Crossed.{CanCross}
use Rattle.mb_maps.proofs.tests.are_shapes.Given as goal

abbrev pub invariant-loop-kind : goal.invariant-loop-kind
invariant-loop-kind g l = CanCross l.w
