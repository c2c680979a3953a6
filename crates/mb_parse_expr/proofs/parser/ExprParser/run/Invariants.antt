use Rattle.std.proofs.Common.{◌≡◌, ℕ, ◌+◌, ◌-◌, ◌*◌, ◌≤◌, List, [], length, vec_len}
use Rattle.mb_tree.specs.Roses.{Shape, Extends, shapes}
use Rattle.mb_grammar.specs.declared.level.Level.{Level}
use Rattle.mb_parse_expr.specs.machine.Progress.{Reading}
use Rattle.mb_parse_expr.specs.Pauses.{IsReading}
use Rattle.mb_parse_expr.proofs.parser.ExprParser.run.Given as goal

abbrev pub invariant-steps : goal.invariant-steps
invariant-steps l = record {
  within : l.self.at ≤ length l.tokens;
  forward : l.fn.self.at ≤ l.self.at;
  empty : l.self.statements.items ≡ [];
  few : vec_len l.tree.nodes ≤ 2147483648;
  first : Extends (shapes l.fn.tree) (shapes l.tree);
  each : (level : Level) (start : ℕ) (base : List Shape) (ds : List ℕ) → IsReading l.tokens level start base ds l.fn.self (shapes l.fn.tree) → Reading l.tokens level start base ds l.self.frames.items l.self.mode l.self.at l.self.operands.items (shapes l.tree);
}

abbrev pub decreases-steps : goal.decreases-steps
decreases-steps l = 2 * (length l.tokens - l.self.at) + length l.self.frames.items
