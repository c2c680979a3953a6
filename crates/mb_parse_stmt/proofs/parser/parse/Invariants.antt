use Rattle.std.proofs.Common.{◌+◌, ◌-◌, ◌*◌, length}
use Rattle.mb_tree.specs.Roses.{shapes}
use Rattle.mb_parse_stmt.specs.machine.Stops.{taken}
use Rattle.mb_parse_stmt.specs.machine.Levels.{AtLevel}
use Rattle.mb_parse_stmt.proofs.parser.parse.Given as goal

abbrev pub invariant-levels : goal.invariant-levels
invariant-levels l = AtLevel l.tokens l.outers.items l.statements (shapes l.tree)

abbrev pub decreases-levels : goal.decreases-levels
decreases-levels l = 2 * (length l.tokens - l.statements.at) + 1 - taken l.statements.mode
