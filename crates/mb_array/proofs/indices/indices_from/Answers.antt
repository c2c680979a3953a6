use Rattle.std.proofs.Common.{sym, subst}
use Rattle.mb_props.specs.Table.{HasDistinctKeys}
use Rattle.mb_array.specs.Define.{table_in}
use Rattle.mb_array.proofs.indices.indices_from.Goals as goal

pub one_by_one-requires-clause-cell : goal.one_by_one-requires-clause-cell
one_by_one-requires-clause-cell c =
    let facts = c.cell.ensures in
    record { cell = c.cell.result.now; there = facts.value; within = facts.within; distinct = facts.distinct }

pub one_by_one-requires-clause-distinct : goal.one_by_one-requires-clause-distinct
one_by_one-requires-clause-distinct c = subst (λ x. HasDistinctKeys (table_in x)) (sym c.cell.ensures.value) c.at.ensures.distinct
