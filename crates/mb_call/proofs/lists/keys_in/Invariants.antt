use Rattle.std.proofs.Common.{take}
use Rattle.mb_call.proofs.KeyRows.{AreKeysOf}
use Rattle.mb_call.proofs.lists.keys_in.Given as goal

abbrev pub invariant-loop-x : goal.invariant-loop-x
invariant-loop-x l = AreKeysOf l.fn.w l.w (take l.x-index l.x-items) l.keys.items
