use Rattle.std.proofs.Common.{◌≡◌, string_bytes}
use Rattle.mb_load.specs.Pair.{number, left_script}
use Rattle.mb_load.proofs.filling.Given as goal

abbrev pub invariant-loop-done : goal.invariant-loop-done
invariant-loop-done l = record { drawn : l.drawn ≡ number l.start l.done; script : string_bytes l.script ≡ left_script l.start l.done }
