use Rattle.std.proofs.Common.{◌≡◌, ◌≤◌, length, arith, rules, sym, ap, ◌∙◌, subst}
use Rattle.std.specs.List.{slice_range}
use Rattle.std.specs.List.Sorted.{IsNonDecreasingBy}
use Rattle.std.proofs.lemmas.List.Sorted.{IsPartitionPoint-from_clause, IsPartitionedBy-ltb, IsPartitionedBy-leb}
use Rattle.mb_world.specs.Data.{label_of, labelled}
use Rattle.mb_world.proofs.Grouped.{IsPointOf, below, up_to, stretch, in-order}
use Rattle.mb_world.proofs.rule.Rules.labelled.Goals as goal

pub slice_bounds-result-count : goal.slice_bounds-result-count
slice_bounds-result-count c =
    let n = c.args.label.0 in
    let rs = c.self.inside.grouped.items in
    let first : c.deref.result.now ≡ rs = c.deref.ensures.value in
    let second : c.deref-2.result.now ≡ rs = c.deref-2.ensures.value in
    let low = IsPartitionPoint-from_clause (below n) _ _ c.partition_point-from.ensures.partitioned
    (IsPartitionedBy-ltb label_of _ n (subst (λ xs. IsNonDecreasingBy label_of xs) (sym first) c.self.invariant.ascend)) (λ a r q k. search rules) in
    let high = IsPartitionPoint-from_clause (up_to n) _ _ c.partition_point-to.ensures.partitioned
    (IsPartitionedBy-leb label_of _ n (subst (λ xs. IsNonDecreasingBy label_of xs) (sym second) c.self.invariant.ascend)) (λ a r q k. search rules) in
    let fits : c.partition_point-from.result ≤ length rs = subst (λ xs. c.partition_point-from.result ≤ length xs) first c.partition_point-from.ensures.bound in
    in-order n rs c.partition_point-from.result c.partition_point-to.result fits
    (subst (λ xs. IsPointOf (below n) xs c.partition_point-from.result) first low)
    (subst (λ xs. IsPointOf (up_to n) xs c.partition_point-to.result) second high)

pub slice_bounds-result-start : goal.slice_bounds-result-start
slice_bounds-result-start c =
    let first : length c.deref.result.now ≡ length c.self.inside.grouped.items = ap length c.deref.ensures.value in
    let second : length c.deref-2.result.now ≡ length c.self.inside.grouped.items = ap length c.deref-2.ensures.value in
    let third : length c.deref-3.result.now ≡ length c.self.inside.grouped.items = ap length c.deref-3.ensures.value in
    let from : c.partition_point-from.result ≤ length c.deref.result.now = c.partition_point-from.ensures.bound in
    let order : c.partition_point-from.result ≤ c.partition_point-to.result = slice_bounds-result-count c in
    let to : c.partition_point-to.result ≤ length c.deref-2.result.now = c.partition_point-to.ensures.bound in
    omega arith

pub returns : goal.returns
returns c =
    let n = c.args.label.0 in
    let rs = c.self.inside.grouped.items in
    let first : c.deref.result.now ≡ rs = c.deref.ensures.value in
    let second : c.deref-2.result.now ≡ rs = c.deref-2.ensures.value in
    let low = IsPartitionPoint-from_clause (below n) _ _ c.partition_point-from.ensures.partitioned
    (IsPartitionedBy-ltb label_of _ n (subst (λ xs. IsNonDecreasingBy label_of xs) (sym first) c.self.invariant.ascend)) (λ a r q k. search rules) in
    let high = IsPartitionPoint-from_clause (up_to n) _ _ c.partition_point-to.ensures.partitioned
    (IsPartitionedBy-leb label_of _ n (subst (λ xs. IsNonDecreasingBy label_of xs) (sym second) c.self.invariant.ascend)) (λ a r q k. search rules) in
    let is : labelled c.args.label rs ≡ slice_range rs c.partition_point-from.result c.partition_point-to.result =
    stretch n rs c.partition_point-from.result c.partition_point-to.result
    (subst (λ xs. IsPointOf (below n) xs c.partition_point-from.result) first low)
    (subst (λ xs. IsPointOf (up_to n) xs c.partition_point-to.result) second high) in
    ap (λ xs. slice_range xs c.partition_point-from.result c.partition_point-to.result) c.deref-3.ensures.value
    ∙ sym is
    ∙ c.self.invariant.same c.args.label
    ∙ ap (labelled c.args.label) c.self.view_is
