use Rattle.std.proofs.Common.{◌≡◌, rules, subst}
use Rattle.std.proofs.lemmas.List.Sorted.{answers_always, IsNonDecreasingBy-from_sort}
use Rattle.mb_world.specs.Data.{label_of}
use Rattle.mb_world.specs.machine.Grouped.{AreGrouped}
use Rattle.mb_world.proofs.Grouped.{grouped-by-sort}
use Rattle.mb_world.proofs.rule.by_label.Goals as goal

pub returns : goal.returns
returns c =
    let keys = answers_always _ _ _ (λ f a r next called. search rules) in
    let up = IsNonDecreasingBy-from_sort label_of _ (c.in_ok-sort_by_key.ensures.sorted label_of keys) in
    let same : c.in_ok-grouped.grouped.items ≡ c.args.rows.now = c.in_ok-grouped.ensures in
    subst (λ rows. AreGrouped rows c.sort_by_key.new.self.items) same
    (grouped-by-sort c.in_ok-grouped.grouped.items c.sort_by_key.new.self.items up (c.sort_by_key.ensures.stable label_of keys))
