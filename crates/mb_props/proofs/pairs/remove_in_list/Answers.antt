use Rattle.std.proofs.Common.{is_some, sym, ap, ◌∙◌}
use Rattle.mb_props.proofs.Listed.{found-at, found-none, remove-at, remove-none, distinct-removed}
use Rattle.mb_props.proofs.pairs.remove_in_list.Goals as goal

pub returns-in-Some-clause-removed : goal.returns-in-Some-clause-removed
returns-in-Some-clause-removed g c =
    let at = sym (rw c.deref.ensures.value at c.in-Some.ensures) in
    c.remove.ensures.items ∙ remove-at c.args.key c.args.list.now.items c.in-Some.place c.remove.result at

pub returns-in-Some-clause-was : goal.returns-in-Some-clause-was
returns-in-Some-clause-was g c =
    let at = sym (rw c.deref.ensures.value at c.in-Some.ensures) in
    sym (ap is_some (found-at c.args.key c.args.list.now.items c.in-Some.place c.remove.result at))

pub returns-in-Some-clause-distinct : goal.returns-in-Some-clause-distinct
returns-in-Some-clause-distinct g c =
    let at = sym (rw c.deref.ensures.value at c.in-Some.ensures) in
    rw c.remove.ensures.items (distinct-removed c.args.key c.args.list.now.items c.in-Some.place c.remove.result at c.requires.distinct)

pub returns-in-None-clause-removed : goal.returns-in-None-clause-removed
returns-in-None-clause-removed g c =
    remove-none c.args.key c.args.list.now.items (found-none c.args.key c.args.list.now.items (sym (rw c.deref.ensures.value at c.in-None.ensures)))

pub returns-in-None-clause-was : goal.returns-in-None-clause-was
returns-in-None-clause-was g c =
    sym (ap is_some (found-none c.args.key c.args.list.now.items (sym (rw c.deref.ensures.value at c.in-None.ensures))))
