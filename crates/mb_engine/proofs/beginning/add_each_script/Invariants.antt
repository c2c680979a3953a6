use Rattle.std.proofs.Common.{◌≡◌}
use Rattle.mb_engine.specs.machine.Beginning.{with_started}
use Rattle.mb_engine.proofs.beginning.add_each_script.Given as goal

abbrev pub invariant-loop-side : goal.invariant-loop-side
invariant-loop-side l = l.w ≡ with_started l.fn.w l.side
