use Rattle.std.proofs.Common.{take}
use Rattle.mb_scope.specs.machine.Around.{IsPutAround}
use Rattle.mb_scope.proofs.jump.put_around.Given as goal

abbrev pub invariant-loop-part : goal.invariant-loop-part
invariant-loop-part l = IsPutAround l.fn.known l.known (take l.part-index l.parts) l.around
