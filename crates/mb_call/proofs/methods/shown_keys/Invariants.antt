use Rattle.std.proofs.Common.{take}
use Rattle.mb_call.proofs.Listing.{AreListed}
use Rattle.mb_call.proofs.methods.shown_keys.Given as goal

abbrev pub invariant-loop-key : goal.invariant-loop-key
invariant-loop-key l = AreListed l.w l.viewer l.object l.found.items (take l.key-index l.key-items)
