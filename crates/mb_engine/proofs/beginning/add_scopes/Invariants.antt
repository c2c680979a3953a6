use Rattle.mb_engine.specs.machine.Beginning.{AddsScopes}
use Rattle.mb_engine.proofs.beginning.add_scopes.Given as goal

abbrev pub invariant-loop-side : goal.invariant-loop-side
invariant-loop-side l = AddsScopes l.desk l.side l.fn.w l.w
