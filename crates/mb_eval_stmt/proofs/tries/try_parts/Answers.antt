use Rattle.std.proofs.Common.{sym}
use Rattle.mb_eval_stmt.proofs.TryRows.{caught-named}
use Rattle.mb_eval_stmt.proofs.tries.try_parts.Goals as goal

pub returns-in-Some-Try-clause-parts : goal.returns-in-Some-Try-clause-parts
returns-in-Some-Try-clause-parts c = record {
  block = c.in-Some-Try.field-0-0.0;
  there = sym (rw c.in-Some-Try.field-0-is at c.in-Some-Try.ensures.form);
  run = (rw c.in-Some-Try.field-0-is at c.in-Some-Try.ensures.parts).2;
  last = (rw c.in-Some-Try.field-0-is at c.in-Some-Try.ensures.parts).3;
  named = caught-named c.args.w.now c.args.home c.in-Some-Try.caught
      (rw c.in-Some-Try.field-0-is at c.in-Some-Try.ensures.named);
}
