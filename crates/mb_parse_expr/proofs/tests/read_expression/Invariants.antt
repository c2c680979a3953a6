use Rattle.std.proofs.Common.{ℕ, ◌≤◌, List, length}
use Rattle.mb_tree.specs.Roses.{Shape, shapes}
use Rattle.mb_grammar.specs.declared.level.Level.{Level}
use Rattle.mb_parse_expr.specs.Pauses.{next_place, IsReading}
use Rattle.mb_parse_expr.proofs.tests.read_expression.Given as goal

abbrev pub invariant-bodies : goal.invariant-bodies
invariant-bodies l = record {
  within : next_place l.parser ≤ length l.tokens;
  reading : (level : Level) × (start : ℕ) × (base : List Shape) × (ds : List ℕ) × IsReading l.tokens level start base ds l.parser (shapes l.tree);
}
