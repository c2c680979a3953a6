use Rattle.std.proofs.Common.{ap}
use Rattle.std.specs.Prelude.{Err}
use Rattle.mb_cli.proofs.Reading.{fault_of}
use Rattle.mb_cli.proofs.shared.pair.read_program.Goals as goal

pub returns-in-Err-clause-refused : goal.returns-in-Err-clause-refused
returns-in-Err-clause-refused c bytes fed =
    fault_of c.args.side bytes c.in-Err.fault c.refuse.result c.refuse.ensures
    (λ kind e. c.in-Err.ensures.fault bytes kind fed (ap Err e))
