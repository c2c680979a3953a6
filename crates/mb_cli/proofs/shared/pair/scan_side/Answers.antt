use Rattle.std.proofs.Common.{ap, ◌≡◌}
use Rattle.std.proofs.lemmas.Result.{err_from_is_err_and}
use Rattle.std.specs.Prelude.{Err}
use Rattle.mb_outer.specs.Shelf.{held}
use Rattle.mb_cli.proofs.Reading.{faulted, not_long, not_read, scanned_too_long, unread_of}
use Rattle.mb_cli.specs.declared.refusal.Refusal.TheVariants as refusal
use Rattle.mb_cli.specs.machine.Refusals.{of_reading}
use Rattle.mb_cli.proofs.shared.pair.scan_side.Goals as goal

-- it wasn't read whole

pub returns-in_err-lexer-clause-refused : goal.returns-in_err-lexer-clause-refused
returns-in_err-lexer-clause-refused g c =
    let p = err_from_is_err_and c.from_residual.result c.from_residual.ensures.1 in
    rw (p.1, p.2) (unread_of c.args.side c.in_err-lexer.field-0.0)

pub returns-in_err-lexer-clause-long : goal.returns-in_err-lexer-clause-long
returns-in_err-lexer-clause-long g c s told long is =
    let p = err_from_is_err_and c.from_residual.result c.from_residual.ensures.1 in
    let same : of_reading c.in_err-lexer.field-0.0 ≡ refusal.TooLong long = cc (p.1, p.2, is) in
    absurd (not_long c.in_err-lexer.field-0.0 long same)

pub returns-in_err-lexer-clause-failed : goal.returns-in_err-lexer-clause-failed
returns-in_err-lexer-clause-failed g c is =
    let p = err_from_is_err_and c.from_residual.result c.from_residual.ensures.1 in
    let same : of_reading c.in_err-lexer.field-0.0 ≡ refusal.ReadFault = cc (p.1, p.2, is) in
    c.in_err-lexer.ensures.failed (ap Err (faulted c.in_err-lexer.field-0.0 same))

pub returns-in_err-lexer-clause-read : goal.returns-in_err-lexer-clause-read
returns-in_err-lexer-clause-read g c s told =
    let p = err_from_is_err_and c.from_residual.result c.from_residual.ensures.1 in
    rw (p.1, p.2) (not_read c.in_err-lexer.field-0.0 _)

-- it has too many bytes

pub returns-in-None-clause-long : goal.returns-in-None-clause-long
returns-in-None-clause-long g c s told long is =
    scanned_too_long c.scan.new.texts (held c.args.name.now s) (rw c.in-None.is at (c.in_ok-lexer.ensures.script s told))

-- its lexer stands for it

pub returns-in-Some-clause-script : goal.returns-in-Some-clause-script
returns-in-Some-clause-script g c s told = rw c.in-Some.is at (c.in_ok-lexer.ensures.script s told)

pub returns-in-Some-clause-fed : goal.returns-in-Some-clause-fed
returns-in-Some-clause-fed g c = rw c.in-Some.is at c.in_ok-lexer.ensures.fed
