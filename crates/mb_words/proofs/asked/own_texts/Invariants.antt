use Rattle.std.proofs.Common.{◌≡◌, ◌++◌, drop, map, string_bytes}
use Rattle.mb_words.specs.machine.Scanning.{text}
use Rattle.mb_words.proofs.asked.own_texts.Given as goal

abbrev pub invariant-loop-word : goal.invariant-loop-word
invariant-loop-word l = map string_bytes l.own.items ++ map text (drop l.word-index l.words) ≡ map text l.words
