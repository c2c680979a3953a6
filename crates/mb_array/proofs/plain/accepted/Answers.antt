use Rattle.std.proofs.Common.{sym, ◌∙◌}
use Rattle.mb_world.specs.Ids.{Maybe, FullIn}
use Rattle.mb_ordinary.proofs.Cells.{found-in, maybe-in}
use Rattle.mb_ordinary.proofs.Accepting.{accepted-in}
use Rattle.mb_array.proofs.Known.{maybe-all}
use Rattle.mb_array.proofs.plain.accepted.Goals as goal

pub returns-clause-within : goal.returns-clause-within
returns-clause-within c =
    let d = c.args.w.now in
    let cell = c.cell-cell.result.now in
    let within : Maybe (FullIn d) c.get.result = rw c.get.ensures.value (maybe-in d _ (found-in d cell.props c.args.key c.cell-cell.ensures.within.props_in)) in
    maybe-all (FullIn d) c.validate.result (λ p e. accepted-in d cell.extensible c.get.result c.args.desc p within c.requires.desc (sym c.validate.ensures ∙ e))

pub returns-clause-cell : goal.returns-clause-cell
returns-clause-cell c =
    let facts = c.cell-cell.ensures in
    record { cell = c.cell-cell.result.now; there = facts.value; within = facts.within; distinct = facts.distinct }
