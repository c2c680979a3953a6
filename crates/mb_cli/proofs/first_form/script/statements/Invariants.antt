use Rattle.std.proofs.Common.{◌≡◌, ◌++◌, length}
use Rattle.mb_cli.specs.first_form.machine.Literals.{tokens_of, statements_of}
use Rattle.mb_cli.proofs.first_form.script.statements.Given as goal

abbrev pub invariant-loop-rest : goal.invariant-loop-rest
invariant-loop-rest l = tokens_of l.tokens ≡ statements_of l.literals.items ++ tokens_of l.rest

abbrev pub decreases-loop-rest : goal.decreases-loop-rest
decreases-loop-rest l = length l.rest
