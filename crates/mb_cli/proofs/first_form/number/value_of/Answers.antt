use Rattle.mb_cli.proofs.first_form.Numbers.{IsUtf8-digits, in_text}
use Rattle.mb_cli.proofs.first_form.number.value_of.Goals as goal

pub returns-in-Ok-clause-none : goal.returns-in-Ok-clause-none
returns-in-Ok-clause-none c none =
    in_text c.args.digits.now c.in-Ok.text.now c.parse.result c.in-Ok.ensures.cases.0 c.parse.ensures.value.0 c.requires.digits c.requires.some
    (rw c.ok.ensures.value at none)

pub returns-in-Err-clause-none : goal.returns-in-Err-clause-none
returns-in-Err-clause-none c none = absurd (c.in-Err.ensures.cases.0 (IsUtf8-digits c.args.digits.now c.requires.digits))
