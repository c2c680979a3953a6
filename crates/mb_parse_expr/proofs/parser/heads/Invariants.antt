use Rattle.std.proofs.Common.{length, ◌-◌, ◌≡◌, drop}
use Rattle.mb_parse_expr.specs.machine.Machine as machine
use Rattle.mb_parse_expr.proofs.parser.heads.Given as goal

abbrev pub invariant-loop-at : goal.invariant-loop-at
invariant-loop-at l = machine.heads (drop l.at l.tokens) ≡ machine.heads (drop l.from l.tokens)

abbrev pub decreases-loop-at : goal.decreases-loop-at
decreases-loop-at l = length l.tokens - l.at
