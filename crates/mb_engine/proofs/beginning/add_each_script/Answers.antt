use Rattle.mb_base.specs.declared.value.Side.{Side}
use Rattle.mb_engine.proofs.Setting.{jobs-step}
use Rattle.mb_engine.proofs.beginning.add_each_script.Goals as goal

pub loop-side-preserved : goal.loop-side-preserved
loop-side-preserved c =
    let side : Side = record { 0 = c.loop-side.side } in
    jobs-step c.args.w.now c.loop-side.w c.add_job.new.self side c.loop-side.invariant c.in_ok-add_job.ensures.added
