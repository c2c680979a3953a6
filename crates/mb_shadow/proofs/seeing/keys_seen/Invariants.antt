use Rattle.std.proofs.Common.{take}
use Rattle.mb_shadow.proofs.Listed.{ListsSeen}
use Rattle.mb_shadow.proofs.seeing.keys_seen.Given as goal

abbrev pub invariant-loop-key : goal.invariant-loop-key
invariant-loop-key l = ListsSeen l.w l.sight l.keys.items (take l.key-index l.key-items)
