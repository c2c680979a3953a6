use Rattle.std.proofs.Common.{◌<◌, length, arith, add-one}
use Rattle.std.proofs.lemmas.List.{set_split}
use Rattle.mb_world.proofs.cell.Slots.set.Goals as goal

pub returns-then-at-len-clause-set : goal.returns-then-at-len-clause-set
returns-then-at-len-clause-set c =
    let l : c.args.at < length c.self.inside.items.items = omega arith in
    rw (← c.self.view_is, add-one) (set_split c.self.inside.items.items c.args.at c.args.pair l)
