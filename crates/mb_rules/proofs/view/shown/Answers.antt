use Rattle.mb_rules.proofs.Views.{shown-meant, shown-as-own, shown-within}
use Rattle.mb_rules.proofs.view.shown.Goals as goal

pub returns-clause-meant : goal.returns-clause-meant
returns-clause-meant c =
    shown-meant c.args.w.now c.args.id c.cell.result.now c.cell.ensures.value c.cell.ensures.distinct c.cell.ensures.within c.args.viewer c.args.key c.requires.key
    c.key_rule-rule.result c.key_rule-rule.ensures.meant c.get.result c.get.ensures.value c.shown_by.result c.shown_by.ensures

pub returns-clause-own : goal.returns-clause-own
returns-clause-own c =
    shown-as-own c.args.w.now c.args.id c.cell.result.now c.cell.ensures.value c.cell.ensures.distinct c.cell.ensures.within c.args.viewer c.args.key c.requires.key
    c.key_rule-rule.result c.key_rule-rule.ensures.meant c.get.result c.get.ensures.value c.shown_by.result c.shown_by.ensures

pub returns-clause-within : goal.returns-clause-within
returns-clause-within c =
    shown-within c.args.w.now c.args.id c.cell.result.now c.cell.ensures.value c.cell.ensures.distinct c.cell.ensures.within c.args.viewer c.args.key c.requires.key
    c.key_rule-rule.result c.key_rule-rule.ensures.meant c.get.result c.get.ensures.value c.shown_by.result c.shown_by.ensures c.key_rule-rule.ensures.within
