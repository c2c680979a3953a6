use Rattle.mb_intrinsics.proofs.Cells.{make-step}
use Rattle.mb_intrinsics.proofs.standard.make_all.Goals as goal

pub loop-place-preserved : goal.loop-place-preserved
loop-place-preserved c =
    make-step c.args.w.now c.loop-place.w c.make.new.self c.args.home c.loop-place.place c.loop-place-test.true
    c.loop-place.invariant c.in_ok-make.ensures.made
