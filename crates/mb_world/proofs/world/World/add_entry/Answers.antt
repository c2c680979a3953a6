use Rattle.std.proofs.Common.{◌≡◌, ap, arith, length, ◌<◌, ◌+◌, ◌^◌, filter}
use Rattle.mb_world.specs.Ids.{EntryIn}
use Rattle.mb_world.specs.Long.{is_long, entry_texts}
use Rattle.mb_world.specs.machine.Inside.{data_of}
use Rattle.mb_world.proofs.LongTexts.{Index-entry}
use Rattle.mb_world.proofs.world.World.add_entry.Goals as goal

pub invariant_of-self-2 : goal.invariant_of-self-2
invariant_of-self-2 c =
    let h : EntryIn (data_of c.self.inside) c.args.entry = rw (← c.self.view_is) at c.requires in
    let f = filter (is_long c.self.inside.texts) (entry_texts c.args.entry) in
    let e : c.in_ok-found.found.items ≡ f = c.in_ok-found.ensures in
    let n : length c.in_ok-found.found.items ≡ length f = ap length e in
    let few : length c.self.inside.long.keys + length f < 2 ^ 32 = omega (arith, n, c.len.ensures, c.len-2.ensures.len, c.if-len.false, c.self.invariant.long_texts_are.few_long) in
    rw (c.push_reserved.ensures.items, c.reserve.ensures.items, c.number_all.ensures, c.in_ok-reserve-2.ensures.keys, c.deref.ensures.value, e)
    (Index-entry (data_of c.self.inside) _ _ _ _ c.self.invariant c.args.entry h few)
