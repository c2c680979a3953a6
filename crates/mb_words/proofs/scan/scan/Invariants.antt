use Rattle.std.proofs.Common.{◌≡◌, drop, map, Some, string_bytes}
use Rattle.mb_words.specs.machine.Scanning.{after, start, state_of}
use Rattle.mb_words.proofs.scan.scan.Given as goal

abbrev pub invariant-loop-word : goal.invariant-loop-word
invariant-loop-word l =
    after l.names (map string_bytes (drop l.word-index l.words)) (Some (state_of l.state))
    ≡ after l.names (map string_bytes l.words) (Some start)
