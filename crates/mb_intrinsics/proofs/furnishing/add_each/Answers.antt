use Rattle.mb_base.specs.declared.value.Side.{Side}
use Rattle.mb_intrinsics.proofs.Homes.{before-side, each-side, same-texts}
use Rattle.mb_intrinsics.proofs.furnishing.add_each.Goals as goal

pub add_built_ins-requires-clause-before : goal.add_built_ins-requires-clause-before
add_built_ins-requires-clause-before c =
    before-side c.args.w.now c.loop-side.w c.loop-side.side c.loop-side.invariant

pub add_built_ins-requires-clause-texts : goal.add_built_ins-requires-clause-texts
add_built_ins-requires-clause-texts c =
    same-texts c.args.w.now c.loop-side.w _ c.loop-side.invariant c.requires.texts

pub loop-side-preserved : goal.loop-side-preserved
loop-side-preserved c =
    let side : Side = record { 0 = c.loop-side.side } in
    each-side c.args.w.now c.loop-side.w c.add_built_ins.new.w side c.loop-side.invariant
    c.in_ok-add_built_ins.ensures.added
