use Rattle.mb_cli.proofs.Programs.{one_of, some_program}
use Rattle.mb_cli.proofs.laws.a_script_has_one_program.Goals as goal

pub returns : goal.returns
returns c = record { some = some_program; one = one_of }
