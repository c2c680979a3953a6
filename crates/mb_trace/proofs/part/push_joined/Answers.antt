use Rattle.std.proofs.Common.{arith}
use Rattle.mb_trace.specs.machine.Told.{numbered}
use Rattle.mb_trace.proofs.Keys.{listed}
use Rattle.mb_trace.proofs.part.push_joined.Goals as goal

pub returns-in_ok-push_more_keys-in-len1-up : goal.returns-in_ok-push_more_keys-in-len1-up
returns-in_ok-push_more_keys-in-len1-up c =
    listed (numbered c.args.w.now) c.args.w.now.texts c.args.out.now.items _ _ c.args.keys.now _ _ c.in-len1-up.len_at_least
    c.in_ok-push_key-in-len1-up.ensures c.in_ok-push_more_keys-in-len1-up.ensures (omega arith)
