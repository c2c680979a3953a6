use Rattle.std.proofs.Common.{arith, sym}
use Rattle.mb_eval_stmt.proofs.Scoping.{copied-more}
use Rattle.mb_eval_stmt.proofs.scopes.copied_names.Goals as goal

pub loop-place-preserved : goal.loop-place-preserved
loop-place-preserved c = record {
  names = copied-more c.args.old.now c.loop-place.names c.push.new.self c.loop-place.place c.in-Some.bound
      c.loop-place.invariant.names (sym c.in-Some.ensures) c.in_ok-push-in-Some.ensures.pushed;
  paid = omega (arith, c.loop-place.invariant.paid, c.in_ok-charge-in-Some.ensures.paid);
}
