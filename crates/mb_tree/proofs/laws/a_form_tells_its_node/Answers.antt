use Rattle.mb_tree.proofs.Shapes.{form_is}
use Rattle.mb_tree.proofs.laws.a_form_tells_its_node.Goals as goal

pub returns : goal.returns
returns c node form e = form_is node.label.kind node.label node.children form e
