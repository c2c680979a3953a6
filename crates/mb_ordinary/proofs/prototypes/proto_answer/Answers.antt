use Rattle.std.proofs.Common.{◌≡◌, Some, None, true, false, sym, ◌∙◌}
use Rattle.mb_world.specs.Data.{cell_at}
use Rattle.mb_ordinary.specs.Walks.{answered}
use Rattle.mb_ordinary.proofs.Visiting.{answered-meant, answered-same, answered-open, answered-closed}
use Rattle.mb_ordinary.proofs.prototypes.proto_answer.Goals as goal

pub returns-then-eq-clause-meant : goal.returns-then-eq-clause-meant
returns-then-eq-clause-meant c =
    let e : Some true ≡ answered c.args.p (cell_at c.args.w.now c.args.o) = answered-same c.args.p (cell_at c.args.w.now c.args.o) c.cell-cell.result.now c.cell-cell.ensures.value (sym c.eq.ensures ∙ c.if-eq.true) in
    answered-meant c.args.w.now c.args.o c.cell-cell.result.now c.args.p (Some true) c.cell-cell.ensures.value c.cell-cell.ensures.distinct c.cell-cell.ensures.within c.requires.proto e

pub returns-then-cell-clause-meant : goal.returns-then-cell-clause-meant
returns-then-cell-clause-meant c =
    let e : None ≡ answered c.args.p (cell_at c.args.w.now c.args.o) = answered-open c.args.p (cell_at c.args.w.now c.args.o) c.cell-cell.result.now c.cell-cell.ensures.value (sym c.eq.ensures ∙ c.if-eq.false) c.if-cell.true in
    answered-meant c.args.w.now c.args.o c.cell-cell.result.now c.args.p None c.cell-cell.ensures.value c.cell-cell.ensures.distinct c.cell-cell.ensures.within c.requires.proto e

pub returns-else-cell-clause-meant : goal.returns-else-cell-clause-meant
returns-else-cell-clause-meant c =
    let e : Some false ≡ answered c.args.p (cell_at c.args.w.now c.args.o) = answered-closed c.args.p (cell_at c.args.w.now c.args.o) c.cell-cell.result.now c.cell-cell.ensures.value (sym c.eq.ensures ∙ c.if-eq.false) c.if-cell.false in
    answered-meant c.args.w.now c.args.o c.cell-cell.result.now c.args.p (Some false) c.cell-cell.ensures.value c.cell-cell.ensures.distinct c.cell-cell.ensures.within c.requires.proto e
