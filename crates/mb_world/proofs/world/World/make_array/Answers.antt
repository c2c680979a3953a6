use Rattle.std.proofs.Common.{◌≡◌, refl, ◌∙◌, ap, arith, length, ◌<◌, ◌+◌, ◌^◌}
use Rattle.mb_text.specs.Texts.{with_text}
use Rattle.mb_world.specs.Data.{Data, Counted, obj_id, length_units, length_id, with_texts}
use Rattle.mb_world.specs.Ids.{ValueIn, TextIn, Maybe}
use Rattle.mb_world.specs.machine.Inside.{data_of, IsIndexed}
use Rattle.mb_world.specs.machine.Arrays.{array_by}
use Rattle.mb_world.proofs.Stands.{few-objects}
use Rattle.mb_world.proofs.Texts.{Index-text}
use Rattle.mb_world.proofs.Noted.{note-none}
use Rattle.mb_world.proofs.Arrays.{array-in}
use Rattle.mb_world.proofs.Making.{Index-cell}
use Rattle.mb_world.proofs.world.World.make_array.Goals as goal

pub overflow_cast-number : goal.overflow_cast-number
overflow_cast-number c =
    omega (arith, c.len-number.ensures, ap length c.reserve-3.ensures.items, ap length c.self.invariant.indexed.serials_are, few-objects c.self.inside.cells.items, c.self.invariant.sized.few_cells)

pub invariant_of-self-2 : goal.invariant_of-self-2
invariant_of-self-2 c =
    let p : ValueIn (data_of c.self.inside) c.args.proto = rw (← c.self.view_is) at c.requires.proto in
    let m : Maybe (TextIn (data_of c.self.inside)) c.args.label = rw (← c.self.view_is) at c.requires.label in
    let n : c.len-number.result ≡ length c.self.inside.serials.items = omega (arith, c.len-number.ensures, ap length c.reserve-3.ensures.items) in
    let a : c.len-at.result ≡ length c.self.inside.cells.items = omega (arith, c.len-at.ensures) in
    let few : length c.self.inside.cells.items + 1 < 2 ^ 32 = omega arith in
    let x : c.in_ok-cell.cell ≡ array_by (length_id c.self.inside.texts) c.args.home c.args.proto c.args.label = c.in_ok-cell.ensures ∙ ap (λ id. array_by id c.args.home c.args.proto c.args.label) c.in_ok-text.ensures in
    let d : Data = with_texts (data_of c.self.inside) (with_text c.self.inside.texts length_units) in
    let w : IsIndexed d c.self.inside.numbers.items c.self.inside.serials.items c.self.inside.roles.entries c.self.inside.long.keys = Index-text (data_of c.self.inside) _ _ _ _ c.self.invariant length_units (rw c.in_ok-add_length.ensures.added at c.in_ok-add_length.ensures.distinct) in
    rw (
      c.push_reserved.ensures.items,
      c.push_reserved-2.ensures.items,
      c.push_reserved-3.ensures.items,
      c.reserve.ensures.items,
      c.reserve-2.ensures.items,
      c.reserve-3.ensures.items,
      c.in_ok-add_length.ensures.added,
      n,
      a,
      x,
    )
    (Index-cell d c.self.inside.numbers.items c.self.inside.serials.items c.self.inside.roles.entries c.self.inside.long.keys w c.self.inside.roles.entries (array_by (length_id c.self.inside.texts) c.args.home c.args.proto c.args.label) (array-in (data_of c.self.inside) c.args.home c.args.proto c.args.label c.requires.home p m) few (note-none c.args.home Counted (obj_id (length c.self.inside.cells.items)) c.self.inside.roles.entries refl))
