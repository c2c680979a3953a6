use Rattle.std.proofs.Common.{List, sym, ap, subst}
use Rattle.mb_tree.specs.Roses.{Shape, views}
use Rattle.mb_tree.specs.Heights.{IsWhole, empty}
use Rattle.mb_tree.proofs.tests.no_node_has_height_zero.Goals as goal

pub height-requires-clause-whole : goal.height-requires-clause-whole
height-requires-clause-whole g c = subst (λ (s : List Shape). IsWhole s) (sym (ap views c.new.ensures.items)) empty
