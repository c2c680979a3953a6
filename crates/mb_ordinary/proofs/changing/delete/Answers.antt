use Rattle.std.proofs.Common.{◌≡◌, sym, ap, ◌∙◌}
use Rattle.mb_world.specs.Data.{property_in, property_at}
use Rattle.mb_ordinary.specs.Definitions.{is_loose}
use Rattle.mb_ordinary.proofs.Cells.{deleted-fixed, deleted-loose, not-false, not-true}
use Rattle.mb_ordinary.proofs.changing.delete.Goals as goal

pub returns-then-is_fixed-clause-meant : goal.returns-then-is_fixed-clause-meant
returns-then-is_fixed-clause-meant c =
    let facts = c.cell-cell.ensures in
    let there : property_at c.args.w.now c.args.o c.args.key ≡ c.get.result = ap (property_in c.args.key) facts.value ∙ sym c.get.ensures.value in
    deleted-fixed c.args.w.now c.args.o c.cell-cell.result.now facts.value facts.distinct facts.within c.args.key c.requires.key
    (ap is_loose there ∙ not-true (is_loose c.get.result) (sym c.is_fixed.ensures ∙ c.if-is_fixed.true))

pub returns-clause-meant : goal.returns-clause-meant
returns-clause-meant c =
    let facts = c.cell-cell.ensures in
    let there : property_at c.args.w.now c.args.o c.args.key ≡ c.get.result = ap (property_in c.args.key) facts.value ∙ sym c.get.ensures.value in
    deleted-loose c.args.w.now c.args.o c.cell-cell.result.now facts.value facts.distinct facts.within c.args.key c.requires.key c.remove.new.self
    (ap is_loose there ∙ not-false (is_loose c.get.result) (sym c.is_fixed.ensures ∙ c.if-is_fixed.false))
    c.remove.ensures.removed
