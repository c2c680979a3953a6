use Rattle.std.proofs.Common.{◌≡◌, ◌≤◌, ◌+◌, ◌-◌, take, drop, length, sym, ap, ◌∙◌, subst, arith}
use Rattle.std.specs.List.{slice_range}
use Rattle.std.specs.List.Sorted.{IsNonDecreasingBy}
use Rattle.mb_tree.specs.Names.{node_of}
use Rattle.mb_tree.specs.machine.Starts.{before}
use Rattle.mb_tree.proofs.Starts.{before-up, before-fits, stretch}
use Rattle.mb_tree.proofs.program.Scopes.names_at.Goals as goal

pub slice_bounds-result-count : goal.slice_bounds-result-count
slice_bounds-result-count c =
    let up : before c.args.node.0 c.args.self.now ≤ before (c.args.node.0 + 1) c.args.self.now = before-up c.args.node.0 c.args.self.now in
    let from : c.start-from.result ≡ before c.args.node.0 c.args.self.now = c.start-from.ensures in
    let to : c.start-to.result ≡ before (c.args.node.0 + 1) c.args.self.now = c.start-to.ensures in
    omega arith

pub slice_bounds-result-start : goal.slice_bounds-result-start
slice_bounds-result-start c =
    let up : before c.args.node.0 c.args.self.now ≤ before (c.args.node.0 + 1) c.args.self.now = before-up c.args.node.0 c.args.self.now in
    let from : c.start-from.result ≡ before c.args.node.0 c.args.self.now = c.start-from.ensures in
    let to : c.start-to.result ≡ before (c.args.node.0 + 1) c.args.self.now = c.start-to.ensures in
    let fits : before (c.args.node.0 + 1) c.args.self.now ≤ length c.args.self.now = before-fits (c.args.node.0 + 1) c.args.self.now in
    let same : length c.deref.result.now ≡ length c.args.self.now = ap length (c.deref.ensures.value ∙ c.self.view_is) in
    omega arith

pub returns : goal.returns
returns c =
    let from : c.start-from.result ≡ before c.args.node.0 c.args.self.now = c.start-from.ensures in
    let to : c.start-to.result ≡ before (c.args.node.0 + 1) c.args.self.now = c.start-to.ensures in
    let same : c.deref.result.now ≡ c.args.self.now = c.deref.ensures.value ∙ c.self.view_is in
    let ascend : IsNonDecreasingBy node_of c.args.self.now = subst (λ xs. IsNonDecreasingBy node_of xs) c.self.view_is c.self.invariant.ascend in
    ap (λ i. take (c.start-to.result - i) (drop i c.deref.result.now)) from
    ∙ ap (λ j. take (j - before c.args.node.0 c.args.self.now) (drop (before c.args.node.0 c.args.self.now) c.deref.result.now)) to
    ∙ ap (λ xs. slice_range xs (before c.args.node.0 c.args.self.now) (before (c.args.node.0 + 1) c.args.self.now)) same
    ∙ sym (stretch c.args.node.0 c.args.self.now ascend)
