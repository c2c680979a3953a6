use Rattle.std.proofs.Common.{◌≡◌, ◌∙◌, rules, arith, map, Err, length}
use Rattle.std.proofs.lemmas.List.{length-map}
use Rattle.mb_words.specs.machine.Scanning.{slots_of, text}
use Rattle.mb_words.proofs.Timed.{sides_refused, sides_given}
use Rattle.mb_words.proofs.asked.sides.Goals as goal

pub returns-in_err-timing : goal.returns-in_err-timing
returns-in_err-timing c =
    let is : c.from_residual.result ≡ Err c.in_err-timing.field-0.0 = search rules in
    let count : length c.args.operands.now ≡ length (map text c.args.operands.now) = simp length-map in
    rw is (sides_refused (map text c.args.operands.now) (slots_of c.args.slots) c.in_err-timing.field-0.0 (length c.args.operands.now)
    count (omega arith) (omega arith) c.in_err-timing.ensures)

pub returns : goal.returns
returns c =
    let count : length c.args.operands.now ≡ length (map text c.args.operands.now) = simp length-map in
    sides_given (map text c.args.operands.now) (slots_of c.args.slots) c.in_ok-timing.timing (length c.args.operands.now)
    count (omega arith) (omega arith) c.in_ok-timing.ensures
    ∙ (cc (c.in_ok-own_texts.ensures, c.in_ok-own_text.ensures))
