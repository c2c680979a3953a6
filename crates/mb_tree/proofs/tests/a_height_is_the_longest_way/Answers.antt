use Rattle.mb_tree.specs.Heights.{a_call, whole}
use Rattle.mb_tree.proofs.tests.a_height_is_the_longest_way.Goals as goal

pub height-requires-clause-whole : goal.height-requires-clause-whole
height-requires-clause-whole g c = whole a_call c.in_ok-tree.ensures
