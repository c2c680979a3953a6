use Rattle.std.proofs.Common.{◌≡◌, ◌+◌, ◌≤◌, drop, map, length}
use Rattle.std.specs.Prelude.{All}
use Rattle.mb_text.specs.Texts.{KeepsIds}
use Rattle.toml.specs.View.{items_view}
use Rattle.mb_policy.specs.Policy.{rules_from}
use Rattle.mb_policy.specs.Rules.{rule_by, IsRule}
use Rattle.mb_policy.specs.machine.Answers.{after}
use Rattle.mb_policy.proofs.rows.read_rows.Given as goal

abbrev pub invariant-loop-place : goal.invariant-loop-place
invariant-loop-place l =
    (l.place ≤ 1000) × KeepsIds l.fn.texts l.texts × All (IsRule l.texts) l.rules.items
    × (rules_from l.sided 1 (items_view l.rows) ≡ after (map (rule_by l.texts) l.rules.items) (rules_from l.sided (l.place + 1) (items_view (drop l.place l.rows)))) × (length l.rules.items ≡ l.place)
