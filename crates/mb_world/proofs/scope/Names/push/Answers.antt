use Rattle.std.proofs.Common.{◌≡◌, ◌<◌, ◌+◌, List, [], ◌∷◌, ◌++◌, length, length-append, arith, ap, sym, ◌∙◌, subst}
use Rattle.mb_world.specs.declared.scope.Bound.{Bound}
use Rattle.mb_world.specs.machine.Places.{IsPlaced}
use Rattle.mb_world.proofs.BoundNames.{placed-push}
use Rattle.mb_world.proofs.scope.Names.push.Goals as goal

pub invariant_of-self-2 : goal.invariant_of-self-2
invariant_of-self-2 c =
    let names = c.deref.result.now in
    let places = c.add_place.new.places.entries in
    let all : c.push_reserved.new.self.items ≡ names ++ c.args.bound ∷ [] = c.push_reserved.ensures.items ∙ ap (λ (xs : List Bound). xs ++ c.args.bound ∷ []) (sym c.deref.ensures.value) in
    let P : List Bound → Type 0 = λ xs. IsPlaced xs places in
    let pushed : IsPlaced (names ++ c.args.bound ∷ []) places = λ l n.
    let long : length (names ++ c.args.bound ∷ []) ≡ length names + 1 = length-append names (c.args.bound ∷ []) in
    let many : 8 < length names + 1 = omega arith in
    placed-push names c.args.bound places (c.in_ok-add_place.ensures.placed many) n in
    subst P (sym all) pushed
