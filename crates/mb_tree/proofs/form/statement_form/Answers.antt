use Rattle.std.proofs.Common.{◌∙◌, sym}
use Rattle.mb_tree.specs.Roses.{label_of}
use Rattle.mb_tree.proofs.Defaults.{not_statement}
use Rattle.mb_tree.proofs.form.statement_form.Goals as goal

pub returns-in_default : goal.returns-in_default
returns-in_default c = c.expression_form.ensures ∙ sym (not_statement c.args.node.now.kind (label_of c.args.node.now) c.args.node.now.children.items c.in_default.not-Decl c.in_default.not-FunctionDecl c.in_default.not-ExprStmt c.in_default.not-While c.in_default.not-DoWhile c.in_default.not-Return c.in_default.not-Throw c.in_default.not-Param)
