use Rattle.mb_eval_expr.proofs.Propping.{from_place}
use Rattle.mb_frames.specs.Passing.{Passes}
use Rattle.mb_frames.specs.Ready.{Changed}
use Rattle.mb_model.specs.Meaning.{finished}
use Rattle.mb_eval_expr.proofs.props.props_from.Given as goal

abbrev pub invariant-loop-place : goal.invariant-loop-place
invariant-loop-place l = record {
  passes : Passes l.fn.w l.w l.fn.fuel l.fuel (from_place l.fn.w l.home l.literal l.from finished)
      (from_place l.w l.home l.literal l.place finished);
  changed : Changed l.home l.fn.w l.w;
}
