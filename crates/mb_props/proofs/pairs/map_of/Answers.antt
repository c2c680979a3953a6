use Rattle.std.proofs.Common.{List, take, ap, ◌∙◌}
use Rattle.mb_props.specs.Table.{insert_entry}
use Rattle.mb_props.proofs.Listed.{insert-next}
use Rattle.mb_props.proofs.pairs.map_of.Goals as goal

pub loop-key-preserved : goal.loop-key-preserved
loop-key-preserved g c =
    let i = c.loop-key.key-index in
    let e = c.loop-key-item.result in
    c.in_ok-put_in_map.ensures.put
    ∙ ap (λ (l : List _). insert_entry l e.0 e.1) c.loop-key.invariant
    ∙ ap (λ (p : _ × _). insert_entry (take i c.args.list.now) p.0 p.1) c.loop-key-item.is
    ∙ insert-next c.args.list.now i e c.loop-key-test.true c.requires.distinct
