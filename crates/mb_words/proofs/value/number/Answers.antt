use Rattle.std.proofs.Common.{◌≡◌, ap, sym, ◌∙◌, true, arith, rules}
use Rattle.mb_words.specs.Values.{is_number}
use Rattle.mb_words.proofs.Numbers.{too_large}
use Rattle.mb_words.proofs.value.number.Goals as goal

pub returns-in-Err : goal.returns-in-Err
returns-in-Err c =
    let is : is_number c.args.word.now ≡ true = ap is_number (sym c.as_bytes.ensures.value) ∙ sym c.is_number.ensures ∙ search rules in
    too_large c.args.least c.args.most c.args.word.now is c.in-Err.ensures.value.0 (omega arith)
