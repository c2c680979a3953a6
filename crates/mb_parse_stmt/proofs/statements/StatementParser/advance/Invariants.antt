use Rattle.std.proofs.Common.{◌≡◌, ℕ, ◌+◌, ◌-◌, ◌*◌, ◌≤◌, List, length, vec_len}
use Rattle.mb_tree.specs.Roses.{Shape, shapes}
use Rattle.mb_parse_stmt.specs.machine.Stops.{IsUnderWay, taken}
use Rattle.mb_parse_stmt.proofs.Weights.{weight}
use Rattle.mb_parse_stmt.proofs.statements.StatementParser.advance.Given as goal

abbrev pub invariant-steps : goal.invariant-steps
invariant-steps l = record {
  few : vec_len l.tree.nodes ≤ 2147483648;
  kept : l.self.stop ≡ l.fn.self.stop;
  forward : l.fn.self.at + taken l.fn.self.mode ≤ l.self.at + taken l.self.mode;
  each : (start : ℕ) (base : List Shape) → IsUnderWay l.tokens start base l.fn.self (shapes l.fn.tree) → IsUnderWay l.tokens start base l.self (shapes l.tree);
}

abbrev pub decreases-steps : goal.decreases-steps
decreases-steps l = 4 * (length l.tokens - l.self.at) + length l.self.frames.items + weight l.self.mode
