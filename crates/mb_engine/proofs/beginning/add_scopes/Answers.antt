use Rattle.mb_base.specs.declared.value.Side.{Side}
use Rattle.mb_engine.proofs.Scopes.{scopes-none, scopes-step}
use Rattle.mb_engine.proofs.beginning.add_scopes.Goals as goal

pub loop-side-init : goal.loop-side-init
loop-side-init c = scopes-none c.args.w.now c.args.desk c.requires.ready c.requires.desk c.requires.none

pub loop-side-preserved : goal.loop-side-preserved
loop-side-preserved c =
    let side : Side = record { 0 = c.loop-side.side } in
    scopes-step c.args.w.now c.loop-side.w c.add_scope.new.w c.args.desk side c.loop-side.invariant
    c.in_ok-add_scope.ensures.added
