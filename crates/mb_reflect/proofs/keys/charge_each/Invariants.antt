use Rattle.std.proofs.Common.{◌+◌, ◌≡◌}
use Rattle.mb_reflect.proofs.keys.charge_each.Given as goal

abbrev pub invariant-loop-paid : goal.invariant-loop-paid
invariant-loop-paid l = l.fuel + l.paid ≡ l.initial.fuel
