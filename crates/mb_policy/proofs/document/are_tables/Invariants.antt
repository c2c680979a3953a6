use Rattle.std.proofs.Common.{◌≡◌, drop}
use Rattle.mb_policy.specs.Policy.{are_tables}
use Rattle.toml.specs.View.{items_view}
use Rattle.mb_policy.proofs.document.are_tables.Given as goal

abbrev pub invariant-loop-place : goal.invariant-loop-place
invariant-loop-place l = are_tables (items_view l.rows) ≡ are_tables (items_view (drop l.place l.rows))
