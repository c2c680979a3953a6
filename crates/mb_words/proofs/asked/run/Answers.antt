use Rattle.std.proofs.Common.{◌≡◌, ◌∙◌, rules, map, Err}
use Rattle.mb_words.specs.machine.Scanning.{slots_of, text}
use Rattle.mb_words.proofs.Timed.{run_refused, run_given}
use Rattle.mb_words.proofs.asked.run.Goals as goal

pub returns-in_err-timing : goal.returns-in_err-timing
returns-in_err-timing c =
    let is : c.from_residual.result ≡ Err c.in_err-timing.field-0.0 = search rules in
    rw is (run_refused (map text c.args.operands.now) c.in-Some.pair.0.now c.in-Some.pair.1.now (slots_of c.args.slots)
    c.in_err-timing.field-0.0 c.in-Some.ensures c.in_err-timing.ensures)

pub returns : goal.returns
returns c =
    run_given (map text c.args.operands.now) c.in-Some.pair.0.now c.in-Some.pair.1.now (slots_of c.args.slots)
    c.in_ok-timing.timing c.in-Some.ensures c.in_ok-timing.ensures
    ∙ (cc (c.in_ok-from_str.ensures.ok, c.in_ok-from_str-2.ensures.ok, c.in_ok-own_text.ensures))
