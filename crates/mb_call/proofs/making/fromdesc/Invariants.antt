use Rattle.std.proofs.Common.{take}
use Rattle.mb_call.proofs.Filled.{IsFilled}
use Rattle.mb_call.proofs.making.fromdesc.Given as goal

abbrev pub invariant-loop-field : goal.invariant-loop-field
invariant-loop-field l = IsFilled l.fn.w l.w l.fn.home l.made l.fn.desc (take l.field-index l.field-items)
