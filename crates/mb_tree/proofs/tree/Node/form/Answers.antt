use Rattle.std.proofs.Common.{◌∙◌, sym}
use Rattle.mb_tree.specs.Roses.{label_of}
use Rattle.mb_tree.proofs.Defaults.{not_first}
use Rattle.mb_tree.proofs.tree.Node.form.Goals as goal

pub returns-in_default : goal.returns-in_default
returns-in_default c = c.statement_form.ensures ∙ sym (not_first c.args.self.now.kind (label_of c.args.self.now) c.args.self.now.children.items c.in_default.not-Script c.in_default.not-Let c.in_default.not-Const c.in_default.not-Block c.in_default.not-Empty c.in_default.not-Break c.in_default.not-Continue c.in_default.not-If c.in_default.not-For c.in_default.not-Try)
