use Rattle.std.proofs.Common.{take}
use Rattle.mb_shadow.proofs.Replacing.{AreReplaced}
use Rattle.mb_shadow.proofs.following.replace_each.Given as goal

abbrev pub invariant-loop-key : goal.invariant-loop-key
invariant-loop-key l = AreReplaced l.fn.w l.w l.sight (take l.key-index l.keys)
