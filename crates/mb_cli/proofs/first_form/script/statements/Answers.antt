use Rattle.std.proofs.Common.{◌<◌, length, arith}
use Rattle.std.proofs.lemmas.Grind.{common_steps}
use Rattle.std.specs.Prelude.{refl}
use Rattle.mb_cli.proofs.first_form.Statements.{on_statement, no_statements}
use Rattle.mb_cli.proofs.first_form.script.statements.Goals as goal

pub loop-rest-preserved : goal.loop-rest-preserved
loop-rest-preserved c = rw c.in_ok-push-in-Some.ensures.items
    (on_statement c.args.tokens.now c.loop-rest.rest.now c.in-Some.after.now c.loop-rest.literals.items c.in-Some.literal c.loop-rest.invariant c.in-Some.ensures.found)

pub returns-in-None-clause-none : goal.returns-in-None-clause-none
returns-in-None-clause-none c none literals e =
    let some : 0 < length c.loop-rest.rest.now = grind (arith, common_steps, c.loop-rest-test.true, c.is_empty.ensures) in
    no_statements c.args.tokens.now c.loop-rest.rest.now c.loop-rest.literals.items some c.loop-rest.invariant (c.in-None.ensures.none refl) literals e
