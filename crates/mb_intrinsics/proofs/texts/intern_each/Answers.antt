use Rattle.mb_intrinsics.proofs.Rows.{each-step}
use Rattle.mb_intrinsics.proofs.Naming.{gains-halted}
use Rattle.mb_intrinsics.proofs.texts.intern_each.Goals as goal

pub loop-key-preserved : goal.loop-key-preserved
loop-key-preserved c =
    each-step c.args.w.now c.loop-key.w c.intern.new.w c.intern_given.new.w c.args.properties.now c.loop-key.key-index _
    c.loop-key-test.true c.loop-key.invariant c.in_ok-intern.ensures.gains c.in_ok-intern_given.ensures.gains
