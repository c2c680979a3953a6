use Rattle.std.proofs.Common.{◌≤◌, length, ap, subst, arith, List}
use Rattle.std.specs.Prelude.{Err}
use Rattle.mb_cli.specs.first_form.Form.{Literal, HasLiterals}
use Rattle.mb_cli.specs.first_form.Prints.{faulty}
use Rattle.mb_cli.proofs.first_form.Endings.{by_form}
use Rattle.mb_cli.proofs.Refusals.{made_of}
use Rattle.mb_cli.proofs.first_form.run.literals_of.Goals as goal

pub judge_lexed-requires-clause-fed : goal.judge_lexed-requires-clause-fed
judge_lexed-requires-clause-fed c = record { bytes = c.args.script.bytes.items; fed = c.requires.lexed.fed; within = omega (arith, c.requires.within) }

pub returns-in_err-judge_lexed-clause-refused : goal.returns-in_err-judge_lexed-clause-refused
returns-in_err-judge_lexed-clause-refused c kind is =
    let within : length c.args.script.bytes.items ≤ 65536 = omega (arith, c.requires.within) in
    faulty within (c.in_err-judge_lexed.ensures.fault c.args.script.bytes.items kind c.requires.lexed.fed (ap Err (made_of c.from_residual.result _ _ c.from_residual.ensures.1 is)))

pub returns-in_err-read_script-clause-refused : goal.returns-in_err-read_script-clause-refused
returns-in_err-read_script-clause-refused c kind is =
    let within : length c.args.script.bytes.items ≤ 65536 = omega (arith, c.requires.within) in
    by_form c.args.script.bytes.items c.in_err-read_script.field-0.0 kind within (c.in_ok-judge_lexed.ensures.tree c.args.script.bytes.items c.requires.lexed.fed)
    (λ e. subst (λ bs. (literals : List Literal) → HasLiterals bs literals → ⊥) c.deref.ensures.value (c.in_err-read_script.ensures.shape (ap Err e)))
    (made_of c.from_residual-in_err-read_script.result _ _ c.from_residual-in_err-read_script.ensures.1 is)
