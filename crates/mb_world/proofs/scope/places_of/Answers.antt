use Rattle.std.proofs.Common.{◌≡◌, false, None, get_or, sym, arith}
use Rattle.std.specs.Prelude.{slice_get, Some}
use Rattle.std.proofs.lemmas.List.{length-take-le}
use Rattle.std.proofs.lemmas.Option.{slice_get-get_or, get_or_from_slice_get}
use Rattle.mb_world.specs.declared.scope.Bound.{Bound}
use Rattle.mb_world.proofs.BoundNames.{placed-step}
use Rattle.mb_world.proofs.scope.places_of.Goals as goal

pub loop-place-preserved : goal.loop-place-preserved
loop-place-preserved c =
    let names = c.args.names.now in
    let place = c.loop-place.place in
    let bound : Bound = get_or names place (record { name = record { 0 = 0 }; value = None; fixed = false }) in
    let is : slice_get names place ≡ Some bound = slice_get-get_or names place (record { name = record { 0 = 0 }; value = None; fixed = false }) c.loop-place-test.true in
    let same : bound ≡ get_or names place bound = sym (get_or_from_slice_get names place bound bound is) in
    placed-step names place bound c.loop-place.places.entries c.note_place.new.places.entries c.loop-place-test.true same
    (length-take-le place names (omega arith)) c.in_ok-note_place.ensures.noted c.loop-place.invariant
