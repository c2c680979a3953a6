use Rattle.std.proofs.Common.{sym}
use Rattle.mb_scope.proofs.Picking.{operand_first}
use Rattle.mb_scope.proofs.target.misses_first.Goals as goal

pub misses-requires-clause-there : goal.misses-requires-clause-there
misses-requires-clause-there c =
    let n = c.args.node.now in
    c.requires.there 0 c.in-Some.operand (operand_first n.kind n.children.items c.in-Some.operand (sym c.in-Some.ensures))
