use Rattle.std.proofs.Common.{◌-◌, ◌≡◌, length}
use Rattle.mb_eval_expr.proofs.Targeting.{Gone}
use Rattle.mb_eval_expr.specs.machine.Targets.{layers_at}
use Rattle.mb_frames.specs.Standing.{forms_at}
use Rattle.mb_model.specs.Nodes.References.{layers_from}
use Rattle.mb_eval_expr.proofs.targets.strip.Given as goal

abbrev pub invariant-loop-step : goal.invariant-loop-step
invariant-loop-step l = record {
  gone : Gone (layers_at l.w l.home l.fn.node.0) l.step (layers_from (l.step-end - l.step) (forms_at l.w l.home)
      l.at.0);
  all : l.step-end ≡ length (forms_at l.w l.home);
}
