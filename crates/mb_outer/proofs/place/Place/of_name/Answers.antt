use Rattle.std.proofs.Common.{rules, arith}
use Rattle.mb_outer.proofs.Shelves.{held-first}
use Rattle.mb_outer.proofs.place.Place.of_name.Goals as goal

pub returns-then-eq-clause-text : goal.returns-then-eq-clause-text
returns-then-eq-clause-text c = held-first c.args.shelf.now c.loop-entry.entry _ c.args.name.now (omega arith) c.index-shelf-entry.is (search rules) c.loop-entry.invariant
