use Rattle.std.proofs.Common.{◌≡◌, ◌<◌, ◌≤◌, ℕ, false}
use Rattle.mb_policy.specs.machine.Chains.{IsLink, name_at, clash_at, steps_left}
use Rattle.mb_policy.proofs.chain.has_clash.Given as goal

abbrev pub invariant-links : goal.invariant-links
invariant-links l =
    (to : ℕ) × ((to ≤ l.place) × IsLink l.rules to (name_at l.rules l.place) l.next
    × ((p : ℕ) → to ≤ p → p < l.place → clash_at l.rules p l.place ≡ false))

abbrev pub decreases-links : goal.decreases-links
decreases-links l = steps_left l.next
