use Rattle.std.proofs.Common.{rules}
use Rattle.std.proofs.lemmas.List.Sorted.{IsNonDecreasingBy-from_sort, answers_always}
use Rattle.mb_props.specs.KeyOrder.{index_of}
use Rattle.mb_props.proofs.Order.{in_key_order}
use Rattle.mb_props.proofs.ordered_keys.Goals as goal

pub returns : goal.returns
returns c =
    rw (c.in_ok-extend_from_slice-2.ensures.items, c.deref-2.ensures.value, c.in_ok-extend_from_slice.ensures.items, c.deref.ensures.value, c.in_ok-names.ensures, c.in_ok-symbols.ensures)
    (in_key_order (c.args.made.now) c.sort_by_key.new.self.items
    (rw (← c.in_ok-keys.ensures) c.sort_by_key.ensures.permutation)
    (IsNonDecreasingBy-from_sort index_of c.sort_by_key.new.self.items
    (c.in_ok-sort_by_key.ensures.sorted index_of (answers_always _ _ _ (λ f a r q k. search rules))))
    (rw (← c.in_ok-keys.ensures) (c.sort_by_key.ensures.stable index_of (answers_always _ _ _ (λ f a r q k. search rules)))))
