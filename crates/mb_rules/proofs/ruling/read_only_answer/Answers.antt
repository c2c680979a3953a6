use Rattle.mb_rules.proofs.Rulings.{proto-answer}
use Rattle.mb_rules.proofs.ruling.read_only_answer.Goals as goal

pub returns-in-Proto-clause-meant : goal.returns-in-Proto-clause-meant
returns-in-Proto-clause-meant c =
    proto-answer c.args.w.now c.args.id c.cell.result.now c.cell.ensures.value c.cell.ensures.distinct c.cell.ensures.within c.args.viewer
    c.args.change c.requires.change c.in-Proto.value c.in-Proto.is c.eq.result c.eq.ensures
