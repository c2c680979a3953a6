use Rattle.mb_grammar.proofs.Forms.{tree_has_forms}
use Rattle.mb_grammar.proofs.laws.each_node_has_a_form.Goals as goal

pub returns : goal.returns
returns c shapes t id node e = tree_has_forms shapes t id.0 node e
