use Rattle.std.proofs.Common.{◌∙◌, sym}
use Rattle.mb_tree.specs.Roses.{label_of}
use Rattle.mb_tree.proofs.Defaults.{not_expression}
use Rattle.mb_tree.proofs.form.expression_form.Goals as goal

pub returns-in_default : goal.returns-in_default
returns-in_default c = c.operand_form.ensures ∙ sym (not_expression c.args.node.now.kind (label_of c.args.node.now) c.args.node.now.children.items c.in_default.not-Seq c.in_default.not-Assign c.in_default.not-Compound c.in_default.not-Arrow c.in_default.not-Cond c.in_default.not-Or c.in_default.not-And c.in_default.not-Binary c.in_default.not-Unary c.in_default.not-Update)
