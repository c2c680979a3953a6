use Rattle.std.proofs.Common.{◌≡◌, ◌++◌, drop, map, string_bytes}
use Rattle.mb_words.specs.machine.Matching.{in_order}
use Rattle.mb_words.specs.machine.Scanning.{chosen_by, text}
use Rattle.mb_words.proofs.words.words_in_order.Given as goal

abbrev pub invariant-loop-operand : goal.invariant-loop-operand
invariant-loop-operand l = map string_bytes l.words.items ++ map text (drop l.operand-index l.chosen.operands.items)
    ≡ in_order l.fn.command (chosen_by l.chosen)
