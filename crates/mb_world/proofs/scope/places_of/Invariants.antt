use Rattle.std.proofs.Common.{take}
use Rattle.mb_world.specs.machine.Places.{ArePlaces}
use Rattle.mb_world.proofs.scope.places_of.Given as goal

abbrev pub invariant-loop-place : goal.invariant-loop-place
invariant-loop-place l = ArePlaces (take l.place l.names) l.places.entries
