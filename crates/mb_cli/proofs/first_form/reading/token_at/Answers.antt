use Rattle.std.proofs.Common.{◌∙◌, rules}
use Rattle.mb_cli.specs.first_form.Lexemes.{whole}
use Rattle.mb_cli.proofs.first_form.Quoted.{other_at_quote}
use Rattle.mb_cli.proofs.first_form.reading.token_at.Goals as goal

pub returns-in-34-clause-other : goal.returns-in-34-clause-other
returns-in-34-clause-other c r token rest s = other_at_quote c.args.bytes.now c.requires.some c.in-34.is (c.text_at.ensures.other r) token rest s

pub returns-in-Some-clause-stands : goal.returns-in-Some-clause-stands
returns-in-Some-clause-stands c =
    let found = c.in-Some.ensures.found in
    (whole found.0, search rules ∙ found.1, found.2, found.3)
