use Rattle.std.proofs.Common.{◌∙◌, sym, ap, length, arith, get_or}
use Rattle.std.proofs.lemmas.List.{length-map}
use Rattle.mb_world.specs.Data.{stand, stands}
use Rattle.mb_world.specs.Ids.{ObjIn}
use Rattle.mb_world.specs.machine.Inside.{data_of}
use Rattle.mb_world.proofs.Stands.{serial-some, length-numbers_from}
use Rattle.mb_world.proofs.world.World.serial.Goals as goal

pub index-requires-then-has_number : goal.index-requires-then-has_number
index-requires-then-has_number c =
    let l : ObjIn (data_of c.self.inside) c.args.id = rw (← c.self.view_is) at c.requires in
    omega (arith, l, ap length c.self.invariant.indexed.numbers_are, length-numbers_from 0 (stands c.self.inside.cells.items), length-map c.self.inside.cells.items stand)

pub returns-then-has_number : goal.returns-then-has_number
returns-then-has_number c =
    let l : ObjIn (data_of c.self.inside) c.args.id = rw (← c.self.view_is) at c.requires in
    rw (← c.self.view_is) (serial-some c.self.inside.cells.items c.args.id c.index.result.now c.index-then-has_number.result.now l c.index.ensures (sym c.if-has_number.ensures) (c.index-then-has_number.ensures ∙ ap (λ ns. get_or ns c.args.id.0 c.index-then-has_number.result.now) c.self.invariant.indexed.numbers_are))
