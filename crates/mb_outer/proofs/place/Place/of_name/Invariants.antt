use Rattle.std.proofs.Common.{◌≡◌, drop}
use Rattle.mb_outer.specs.Shelf.{held, shelf_of}
use Rattle.mb_outer.proofs.place.Place.of_name.Given as goal

abbrev pub invariant-loop-entry : goal.invariant-loop-entry
invariant-loop-entry l = held l.name (shelf_of l.shelf) ≡ held l.name (shelf_of (drop l.entry l.shelf))
