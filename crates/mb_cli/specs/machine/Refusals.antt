-- What refuses a command, as a status.
use Rattle.std.specs.Prelude.{Result, Ok, Err}
use Rattle.mb_cli.specs.declared.refusal.Refusal.{Refusal}
use Rattle.mb_cli.specs.declared.refusal.Refusal.TheVariants as refusal
use Rattle.mb_cli.specs.declared.refusal.ReadError.{ReadError}
use Rattle.mb_cli.specs.declared.refusal.ReadError.TheVariants as reading
use Rattle.mb_cli.specs.declared.status.Status.{Status}
use Rattle.mb_cli.specs.declared.status.Status.TheVariants as status

abbrev pub of_reading : ReadError → Refusal
of_reading reading.Fault = refusal.ReadFault
of_reading reading.NoMemory = refusal.NoMemory

abbrev pub status_of : Refusal → Status
status_of refusal.ReadFault = status.ReadFault
status_of (refusal.Script side kind) = status.BadScript side kind
status_of (refusal.TooLong which) = status.TooLong which
status_of refusal.NoMemory = status.NoMemory

-- the status of a command that wasn't refused, or was
abbrev pub ending : {T : Type 0} → Result T Refusal → Status
ending (Ok x) = status.Done
ending (Err r) = status_of r
