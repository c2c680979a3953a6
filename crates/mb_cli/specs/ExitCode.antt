-- The exit numbers.
use Rattle.std.specs.Prelude.{ℕ}
use Rattle.mb_cli.specs.declared.status.Status.{Status}
use Rattle.mb_cli.specs.declared.status.Status.TheVariants.{Done, Uncaught, BadWords, ReadFault, WriteFault, BadScript, Spent, TooLong, NoMemory}

abbrev pub code_of : Status → ℕ
code_of Done = 0
code_of Uncaught = 1
code_of (BadWords kind) = 2
code_of ReadFault = 3
code_of WriteFault = 4
code_of (BadScript side kind) = 5
code_of Spent = 7
code_of (TooLong which) = 8
code_of NoMemory = 9
