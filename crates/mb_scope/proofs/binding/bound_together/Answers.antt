use Rattle.std.proofs.Common.{sym}
use Rattle.mb_scope.proofs.Picking.{handler_third}
use Rattle.mb_scope.proofs.binding.bound_together.Goals as goal

pub add_block-requires-clause-there : goal.add_block-requires-clause-there
add_block-requires-clause-there c =
    let n = c.args.node.now in
    c.requires.there 2 c.in-Some.block (handler_third n.kind n.children.items c.in-Some.block (sym c.in-Some.ensures))
