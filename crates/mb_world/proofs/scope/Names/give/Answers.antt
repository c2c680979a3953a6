use Rattle.std.proofs.Common.{◌≡◌, ◌<◌, length, arith, ap, subst}
use Rattle.std.specs.Prelude.{Option, Some, slice_get}
use Rattle.mb_world.specs.declared.scope.Bound.{Bound}
use Rattle.mb_world.specs.Data.{give_if}
use Rattle.mb_world.specs.machine.Places.{IsPlaced}
use Rattle.mb_world.proofs.Worlds.{read}
use Rattle.mb_world.proofs.BoundNames.{placed-give}
use Rattle.mb_world.proofs.scope.Names.give.Goals as goal

pub invariant_of-self : goal.invariant_of-self
invariant_of-self c =
    let names = c.self.inside.items.items in
    let places = c.self.inside.places.entries in
    let bound = c.index_mut-bound.result.now in
    let same : length names ≡ length c.args.self.now = ap length c.self.view_is in
    let inside : c.args.place < length c.args.self.now = c.requires in
    let within : c.args.place < length names = omega arith in
    let is : slice_get names c.args.place ≡ Some bound = read names c.args.place bound within c.index_mut-bound.ensures.value in
    let P : Option Bound → Type 0 = λ o. IsPlaced (give_if c.args.place c.args.value names o) places in
    subst P is (placed-give names c.args.place c.args.value places c.self.invariant)
