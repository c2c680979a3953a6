use Rattle.std.proofs.Common.{◌≡◌, ◌∙◌, ap, arith, length, ◌<◌, ◌+◌, ◌^◌}
use Rattle.mb_world.specs.declared.roles.Role.{Role}
use Rattle.mb_world.specs.Data.{stand, obj_id}
use Rattle.mb_world.specs.Ids.{CellIn}
use Rattle.mb_world.specs.machine.Inside.{data_of}
use Rattle.mb_world.specs.machine.Roles.{noted, plays_by}
use Rattle.mb_world.specs.machine.Firsts.{or_if}
use Rattle.mb_world.proofs.Stands.{few-objects}
use Rattle.mb_world.proofs.Making.{Index-cell}
use Rattle.mb_world.proofs.world.World.add_cell.Goals as goal

pub overflow_cast-number : goal.overflow_cast-number
overflow_cast-number c =
    omega (arith, c.len-number.ensures, ap length c.reserve-3.ensures.items, ap length c.self.invariant.indexed.serials_are, few-objects c.self.inside.cells.items, c.self.invariant.sized.few_cells)

pub invariant_of-self-2 : goal.invariant_of-self-2
invariant_of-self-2 c =
    let h : CellIn (data_of c.self.inside) c.args.cell = rw (← c.self.view_is) at c.requires in
    let n : c.len-number.result ≡ length c.self.inside.serials.items = omega (arith, c.len-number.ensures, ap length c.reserve-3.ensures.items) in
    let a : c.len-at.result ≡ length c.self.inside.cells.items = omega (arith, c.len-at.ensures) in
    let few : length c.self.inside.cells.items + 1 < 2 ^ 32 = omega arith in
    let f : (r : Role) → noted c.note_all.new.roles.entries r ≡ or_if (plays_by r c.args.cell.home (stand c.args.cell)) (obj_id (length c.self.inside.cells.items)) (noted c.self.inside.roles.entries r) = λ r. c.in_ok-note_all.ensures.noted r ∙ ap (λ x. or_if (plays_by r c.args.cell.home (stand c.args.cell)) (obj_id x) (noted c.self.inside.roles.entries r)) a in
    rw (
      c.push_reserved.ensures.items,
      c.push_if.ensures,
      c.push_reserved-2.ensures.items,
      c.reserve.ensures.items,
      c.reserve-2.ensures.items,
      c.reserve-3.ensures.items,
      n,
      a,
      c.has_number-counted.ensures,
    )
    (Index-cell (data_of c.self.inside) c.self.inside.numbers.items c.self.inside.serials.items c.self.inside.roles.entries c.self.inside.long.keys c.self.invariant c.note_all.new.roles.entries c.args.cell h few f)
