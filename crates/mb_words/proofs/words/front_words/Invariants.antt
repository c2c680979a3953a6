use Rattle.std.proofs.Common.{◌≡◌, ◌++◌, ◌∷◌, drop, map, string_bytes}
use Rattle.mb_words.specs.Words.{options_of}
use Rattle.mb_words.specs.machine.Matching.{front, name_of}
use Rattle.mb_words.specs.machine.Scanning.{chosen_by}
use Rattle.mb_words.proofs.words.front_words.Given as goal

abbrev pub invariant-loop-name : goal.invariant-loop-name
invariant-loop-name l = map string_bytes l.words.items ++ front (drop l.name-index l.name-items) (chosen_by l.chosen)
    ≡ name_of l.fn.command ∷ front (options_of l.fn.command) (chosen_by l.chosen)
