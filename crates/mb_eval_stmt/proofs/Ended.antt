-- How a loop's body ended.
use Rattle.std.proofs.Common.{◌≡◌, refl, sym, true, true≢false}
use Rattle.mb_frames.specs.Resolved.{outcome_in}
use Rattle.mb_frames.specs.declared.task.Outcome.{Outcome}
use Rattle.mb_frames.specs.declared.task.Outcome.TheVariants as o
use Rattle.mb_model.specs.Nodes.Statements.{body_ended}
use Rattle.mb_model.specs.Task.{Answer}
use Rattle.mb_model.specs.Writing.{Does}
use Rattle.mb_world.specs.Image.{Names}
use Rattle.mb_eval_stmt.specs.machine.Plain.{goes_round}

-- the loop goes round
pub goes-on : (n : Names) (p : Does Answer) (y : Outcome) → goes_round y ≡ true → body_ended p (outcome_in n y) ≡ p
goes-on n p (o.Normal y) h = refl
goes-on n p o.Continue h = refl
goes-on n p o.Break h = absurd (true≢false (sym h))
goes-on n p (o.Throw y) h = absurd (true≢false (sym h))
goes-on n p (o.Return y) h = absurd (true≢false (sym h))
