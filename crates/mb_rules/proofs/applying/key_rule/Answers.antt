use Rattle.mb_rules.proofs.Views.{key-rule-meant, key-rule-within}
use Rattle.mb_rules.proofs.applying.key_rule.Goals as goal

pub returns-clause-meant : goal.returns-clause-meant
returns-clause-meant c =
    key-rule-meant c.args.w.now c.args.id c.cell.result.now c.cell.ensures.value c.cell.ensures.distinct c.cell.ensures.within c.cell.ensures.ids c.args.viewer
    c.rules_on.result.now c.rules_on.ensures c.args.key c.requires.key c.first_of_key.result c.first_of_key.ensures

pub returns-clause-within : goal.returns-clause-within
returns-clause-within c =
    key-rule-within c.args.w.now c.args.id c.cell.result.now c.cell.ensures.value c.cell.ensures.distinct c.cell.ensures.within c.cell.ensures.ids c.args.viewer
    c.rules_on.result.now c.rules_on.ensures c.args.key c.requires.key c.first_of_key.result c.first_of_key.ensures
