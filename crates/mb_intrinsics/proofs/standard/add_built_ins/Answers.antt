use Rattle.std.proofs.Common.{arith}
use Rattle.mb_intrinsics.proofs.Cells.{all-filled, fill-step}
use Rattle.mb_intrinsics.proofs.Homes.{same-texts}
use Rattle.mb_intrinsics.proofs.standard.add_built_ins.Goals as goal

pub fill-requires-clause-texts : goal.fill-requires-clause-texts
fill-requires-clause-texts c =
    same-texts c.args.w.now c.loop-place.w _ c.loop-place.invariant c.requires.texts

pub loop-place-preserved : goal.loop-place-preserved
loop-place-preserved c =
    fill-step c.args.w.now c.loop-place.w c.fill.new.w c.args.home c.loop-place.place c.loop-place-test.true
    c.requires.before c.requires.texts c.loop-place.invariant c.in_ok-fill.ensures.filled

pub returns-clause-added : goal.returns-clause-added
returns-clause-added c =
    all-filled c.args.w.now c.loop-place.w c.args.home c.loop-place.place
    (omega (arith, c.loop-place-test.false, c.loop-place.auto.place-end)) c.loop-place.invariant
