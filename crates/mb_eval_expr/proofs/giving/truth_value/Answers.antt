use Rattle.mb_base.specs.declared.value.Value.TheVariants as v
use Rattle.mb_eval_expr.proofs.Keeping.{plain-held}
use Rattle.mb_frames.proofs.Keeping.{leaves-value}
use Rattle.mb_eval_expr.proofs.giving.truth_value.Goals as goal

pub returns-clause-leaves : goal.returns-clause-leaves
returns-clause-leaves c = λ home d r i h.
    leaves-value d home (v.Bool c.args.b) (plain-held d home (v.Bool c.args.b) tt tt)
