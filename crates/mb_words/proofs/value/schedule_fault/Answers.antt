use Rattle.std.proofs.Common.{◌∙◌, Some, None, arith}
use Rattle.mb_words.proofs.Numbers.{told, past, within}
use Rattle.mb_words.proofs.value.schedule_fault.Goals as goal

pub returns-in-Some : goal.returns-in-Some
returns-in-Some c = told c.args.command c.args.sides c.as_bytes-letters.result.now c.args.word.now (Some c.in-Some.at)
    c.as_bytes-letters.ensures.value c.in-Some.ensures.place

pub returns-then-letters-gt-LETTERS : goal.returns-then-letters-gt-LETTERS
returns-then-letters-gt-LETTERS c = past c.as_bytes-letters.result.now c.if-letters-gt-LETTERS.true
    ∙ told c.args.command c.args.sides c.as_bytes-letters.result.now c.args.word.now None
    c.as_bytes-letters.ensures.value c.in-None.ensures.place

pub returns-else-letters-gt-LETTERS : goal.returns-else-letters-gt-LETTERS
returns-else-letters-gt-LETTERS c = within c.as_bytes-letters.result.now (omega arith)
    ∙ told c.args.command c.args.sides c.as_bytes-letters.result.now c.args.word.now None
    c.as_bytes-letters.ensures.value c.in-None.ensures.place
