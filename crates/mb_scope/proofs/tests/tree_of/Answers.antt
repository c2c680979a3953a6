use Rattle.std.proofs.Common.{ap, arith}
use Rattle.mb_tree.specs.Roses.{shapes, views}
use Rattle.mb_scope.proofs.Building.{built_none, built_whole}
use Rattle.mb_scope.proofs.tests.tree_of.Goals as goal

pub loop-row-init : goal.loop-row-init
loop-row-init g c = built_none (views c.new.result.items) c.new-waiting.result.items (ap views c.new.ensures.items) c.new-waiting.ensures.items

pub loop-row-preserved : goal.loop-row-preserved
loop-row-preserved g c = c.in_ok-add.ensures c.loop-row.invariant

pub returns-clause-whole : goal.returns-clause-whole
returns-clause-whole g c = built_whole (shapes c.loop-row.tree) c.loop-row.waiting.items c.loop-row.invariant (omega (arith, c.loop-row.waiting.ok.0))
