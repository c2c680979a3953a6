use Rattle.std.proofs.Common.{of_z, rules, to_z, w64, ◌≡◌}
use Rattle.mb_call.proofs.ListRows.{Part-wrong-length}
use Rattle.mb_call.proofs.lists.length_got.Goals as goal
use Rattle.mb_frames.specs.Sorts.{list_gives}

pub returns-in-Undefined-clause-part : goal.returns-in-Undefined-clause-part
returns-in-Undefined-clause-part c =
    rw c.in-Undefined.is (rw c.new-none.ensures at c.list_from.ensures.part)

pub returns-in-Whole-clause-part : goal.returns-in-Whole-clause-part
returns-in-Whole-clause-part c =
    let n : to_z w64 (of_z w64 c.in-Whole.n) ≡ c.in-Whole.n = search rules in
    rw c.in-Whole.is (rw n at (rw (c.new-none.ensures, c.not_below_zero.ensures) at c.list_from-in-Whole.ensures.part))

pub returns-in_default-clause-part : goal.returns-in_default-clause-part
returns-in_default-clause-part c =
    Part-wrong-length c.args.home c.type_error.result c.args.w.now c.type_error.new.w c.args.fuel.now c.args.list
    c.args.length c.args.after c.in_default.not-Undefined c.in_default.not-Whole
    (c.type_error.ensures.part c.args.fuel.now)

pub returns-in_default-clause-keeps : goal.returns-in_default-clause-keeps
returns-in_default-clause-keeps c = c.type_error.ensures.keeps (list_gives c.args.after)
