use Rattle.mb_props.proofs.Listed.{insert-none, distinct-push}
use Rattle.mb_props.proofs.pairs.add_to_list.Goals as goal

pub returns-in-Ok-clause-put : goal.returns-in-Ok-clause-put
returns-in-Ok-clause-put g c =
    rw (c.in-Ok.ensures.items, c.in_ok-reserve_exact.ensures.items)
    (insert-none c.args.key c.args.list.now.items c.args.property c.requires.absent)

pub returns-in-Ok-clause-distinct : goal.returns-in-Ok-clause-distinct
returns-in-Ok-clause-distinct g c =
    rw (c.in-Ok.ensures.items, c.in_ok-reserve_exact.ensures.items)
    (distinct-push c.args.key c.args.list.now.items c.args.property c.requires.absent c.requires.distinct)
