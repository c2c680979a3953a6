use Rattle.std.proofs.Common.{List, [], ap, sym, true, ◌∙◌, ◌≡◌}
use Rattle.std.proofs.lemmas.List.Sorted.{IsPermutation-refl}
use Rattle.std.specs.List.Sorted.{IsPermutation}
use Rattle.mb_base.specs.declared.value.Key.{Key}
use Rattle.mb_call.proofs.KeyRows.{distinct-same, flag-pass, is_pass}
use Rattle.mb_call.proofs.lists.are_distinct.Goals as goal
use Rattle.mb_check.specs.Keys.{are_distinct}
use Rattle.mb_check.specs.Rules.{own_keys}
use Rattle.mb_check.specs.Values.{same_key}

pub returns : goal.returns
returns c = λ d distinct known.
    let ks = c.args.keys.now in
    let sorted = c.sort.new.self.items in
    let copied : c.in_ok-sorted.sorted.items ≡ ks = c.in_ok-sorted.ensures.items_if_clones_equal (λ x y h. h) in
    let moved : IsPermutation ks sorted = rw copied at c.sort.ensures.permutation in
    let verdict : c.own_keys.result ≡ own_keys same_key ks [] [] true
    = c.own_keys.ensures
    ∙ ap (λ (xs : List Key). own_keys same_key xs [] [] true) c.deref.ensures.value
    ∙ sym (c.keys_in_any_order.ensures ks sorted [] [] [] [] true moved (IsPermutation-refl [])
    (IsPermutation-refl [])) in
    c.eq.ensures ∙ ap is_pass verdict ∙ flag-pass (are_distinct same_key ks) ∙ sym (distinct-same d distinct ks known)
