use Rattle.std.proofs.Common.{[], ◌∷◌, None}
use Rattle.mb_maps.proofs.SmallWorlds.{world-can}
use Rattle.mb_maps.proofs.tests.world.Goals as goal

pub returns : goal.returns
returns g c =
    world-can c.expect-w.result c.set_sides.new.self c.intern.new.self c.make_symbol.new.self c.add_scope.new.self c.built_in.new.w c.built_in-2.new.w c.built_in-3.new.w
    (97 ∷ []) None c.new-2.result (rw c.expect-w.ensures at c.new.ensures) c.set_sides.ensures (rw c.expect.ensures at c.intern.ensures.texts)
    (rw c.expect-2.ensures at c.make_symbol.ensures.made) c.new-2.ensures (rw c.expect-3.ensures at c.add_scope.ensures.added)
    c.built_in.ensures c.built_in-2.ensures c.built_in-3.ensures
