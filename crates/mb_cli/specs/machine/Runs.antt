-- How a run of two scripts ended, as a status.
use Rattle.std.specs.Prelude.{Result, Ok, Err, ⊤}
use Rattle.mb_story.specs.declared.ending.Ending.{Ending}
use Rattle.mb_story.specs.declared.ending.Ending.TheVariants as ending
use Rattle.mb_story.specs.declared.ending.RunFault.{RunFault}
use Rattle.mb_story.specs.declared.ending.RunFault.TheVariants as fault
use Rattle.mb_cli.specs.declared.status.Status.{Status}
use Rattle.mb_cli.specs.declared.status.Status.TheVariants as status

abbrev pub of_ending : Ending → Status
of_ending ending.Done = status.Done
of_ending ending.Uncaught = status.Uncaught
of_ending ending.Spent = status.Spent

abbrev pub of_fault : RunFault → Status
of_fault fault.Write = status.WriteFault
of_fault fault.NoMemory = status.NoMemory

abbrev pub status_of_run : Result Ending RunFault → Status
status_of_run (Ok e) = of_ending e
status_of_run (Err f) = of_fault f

-- the statuses of a run that was to begin
abbrev pub IsOfRun : Status → Type 0
IsOfRun status.Done = ⊤
IsOfRun status.Uncaught = ⊤
IsOfRun status.Spent = ⊤
IsOfRun status.WriteFault = ⊤
IsOfRun status.NoMemory = ⊤
IsOfRun s = ⊥
