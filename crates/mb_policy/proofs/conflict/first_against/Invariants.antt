use Rattle.std.proofs.Common.{◌≡◌, ◌+◌, drop}
use Rattle.std.specs.List.{position_from}
use Rattle.mb_policy.specs.machine.Chains.{clash}
use Rattle.mb_policy.proofs.conflict.first_against.Given as goal

abbrev pub invariant-loop-place : goal.invariant-loop-place
invariant-loop-place l =
    position_from (λ other. clash other l.rule) 1 l.rules ≡ position_from (λ other. clash other l.rule) (l.place + 1) (drop l.place l.rules)
