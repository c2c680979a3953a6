use Rattle.std.proofs.Common.{sym}
use Rattle.mb_intrinsics.proofs.Changes.{change-same, put-taken, texts-left}
use Rattle.mb_intrinsics.proofs.standard.put_all.Goals as goal

pub loop-key-init : goal.loop-key-init
loop-key-init c = sym (change-same c.args.w.now c.args.id)

pub put-requires-clause-texts : goal.put-requires-clause-texts
put-requires-clause-texts c =
    texts-left c.args.w.now c.loop-key.w c.args.id c.args.home c.args.properties.now c.loop-key.key-index _
    c.loop-key-test.true c.loop-key.invariant c.requires.texts

pub loop-key-preserved : goal.loop-key-preserved
loop-key-preserved c =
    put-taken c.args.w.now c.loop-key.w c.put.new.w c.args.id c.args.home c.args.properties.now c.loop-key.key-index _
    c.loop-key-test.true c.loop-key.invariant c.in_ok-put.ensures.put
