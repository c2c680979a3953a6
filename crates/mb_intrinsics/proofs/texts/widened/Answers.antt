use Rattle.std.proofs.Common.{arith, length-set, rules, ◌∙◌}
use Rattle.mb_intrinsics.proofs.Rows.{widen-step}
use Rattle.mb_intrinsics.proofs.texts.widened.Goals as goal

pub loop-at-preserved : goal.loop-at-preserved
loop-at-preserved c = (
  widen-step c.loop-at.units c.as_bytes-bytes.result.now c.loop-at.at c.from.result c.loop-at.invariant.0
      c.loop-at-test.true (omega (arith, c.loop-at.invariant.1, c.loop-at-test.true, c.requires))
      (search (rules, c.from.ensures)),
  length-set c.loop-at.units c.loop-at.at c.from.result ∙ c.loop-at.invariant.1,
)
