use Rattle.std.proofs.Common.{◌∙◌}
use Rattle.mb_tree.specs.Roses.{label_of}
use Rattle.mb_scope.proofs.Picking.{operand_picked}
use Rattle.mb_scope.proofs.target.operand.Goals as goal

pub returns : goal.returns
returns c = c.changed_by.ensures ∙ operand_picked c.args.node.now.kind (label_of c.args.node.now) c.args.node.now.children.items c.form.result c.form.ensures
