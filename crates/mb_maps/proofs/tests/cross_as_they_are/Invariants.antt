use Rattle.std.proofs.Common.{◌≡◌, false}
use Rattle.mb_maps.specs.Crossed.{CanCross}
use Rattle.mb_maps.proofs.tests.cross_as_they_are.Given as goal

abbrev pub invariant-loop-value : goal.invariant-loop-value
invariant-loop-value g l = l.w.joined ≡ false → CanCross l.w
