use Rattle.std.proofs.Common.{◌∙◌, sym, ap, refl}
use Rattle.mb_cli.specs.first_form.machine.Literals.{tokens_of}
use Rattle.mb_cli.proofs.first_form.Statements.{has_literals, is_statements}
use Rattle.mb_cli.proofs.first_form.script.read_script.Goals as goal

pub returns-in-Some-clause-script : goal.returns-in-Some-clause-script
returns-in-Some-clause-script c =
    let read = c.in-Ok.ensures.tokens in
    let found = rw c.in-Some.is at c.in_ok-literals.ensures.found in
    has_literals c.lex.new.texts c.args.bytes.now c.in-Ok.tokens.items read.0 c.in-Some.literals.items read.1 read.2 (ap tokens_of (sym c.deref.ensures.value) ∙ found)

pub returns-clause-shape : goal.returns-clause-shape
returns-clause-shape c r meant has =
    let read = c.in-Ok.ensures.tokens in
    let none = rw c.in-None.is at c.in_ok-literals.ensures.none in
    let found = is_statements c.lex.new.texts c.args.bytes.now c.in-Ok.tokens.items read.0 meant read.1 read.2 has in
    none refl found.0 (ap tokens_of c.deref.ensures.value ∙ found.1)
