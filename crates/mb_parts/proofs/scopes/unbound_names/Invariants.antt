use Rattle.std.proofs.Common.{◌+◌, ◌≡◌, map, take}
use Rattle.mb_parts.specs.Scopes.{unbound}
use Rattle.mb_parts.proofs.scopes.unbound_names.Given as goal

abbrev pub invariant-loop-bind : goal.invariant-loop-bind
invariant-loop-bind l = record {
  names : l.names ≡ map unbound (take l.bind-index l.binds);
  paid : l.fn.fuel ≡ l.fuel + l.bind-index;
}
