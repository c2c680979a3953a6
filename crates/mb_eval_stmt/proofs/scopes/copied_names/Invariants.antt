use Rattle.std.proofs.Common.{◌+◌, ◌≡◌, take}
use Rattle.mb_eval_stmt.proofs.scopes.copied_names.Given as goal

abbrev pub invariant-loop-place : goal.invariant-loop-place
invariant-loop-place l = record {
  names : l.names ≡ take l.place l.old;
  paid : l.fn.fuel ≡ l.fuel + l.place;
}
