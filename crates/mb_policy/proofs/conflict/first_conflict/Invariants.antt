use Rattle.std.proofs.Common.{◌≡◌, [], take, drop, length}
use Rattle.mb_policy.specs.Conflicts.{first_pair}
use Rattle.mb_policy.specs.machine.Chains.{clash, AreLinks, AreLatest}
use Rattle.mb_policy.proofs.conflict.first_conflict.Given as goal

abbrev pub invariant-loop-place : goal.invariant-loop-place
invariant-loop-place l =
    (length l.links.items ≡ l.place) × AreLinks l.rules l.links.items × AreLatest l.rules l.place l.latest.entries
    × (first_pair clash [] l.rules ≡ first_pair clash (take l.place l.rules) (drop l.place l.rules))
