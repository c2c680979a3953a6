use Rattle.std.proofs.Common.{refl, inr, ap}
use Rattle.std.specs.Prelude.{Err}
use Rattle.mb_cli.specs.declared.status.ScriptKind.TheVariants.{Shape}
use Rattle.mb_cli.proofs.first_form.Endings.{not_run_fault, not_run_long}
use Rattle.mb_cli.proofs.first_form.run.accepted.Goals as goal

pub returns-in-None-clause-refused : goal.returns-in-None-clause-refused
returns-in-None-clause-refused c held whole = inr ((Shape, refl, not_run_long held (rw c.in-None.is at whole)))

pub returns-in-Err-clause-refused : goal.returns-in-Err-clause-refused
returns-in-Err-clause-refused c held whole =
    not_run_fault c.args.side held c.in-Some.script c.in-Err.fault c.refuse.result (rw c.in-Some.is at whole)
    (λ kind e. c.in-Err.ensures.refused kind (ap Err e)) c.refuse.ensures
