use Rattle.std.proofs.Common.{sym, subst}
use Rattle.std.specs.Prelude.{IsTrue, not}
use Rattle.mb_tree.specs.Roses.{shapes, view}
use Rattle.mb_scope.specs.Targets.{Misses}
use Rattle.mb_scope.proofs.Adding.{there}
use Rattle.mb_scope.proofs.Targeting.{property_there}
use Rattle.mb_scope.proofs.target.misses.Goals as goal

pub returns-in-Deletes : goal.returns-in-Deletes
returns-in-Deletes c =
    let s = shapes c.args.tree.now in
    let is = there c.args.tree.now c.args.operand.0 c.index.result.now c.requires.there c.index.ensures in
    subst (λ usage. (IsTrue (not c.is_property.result) → Misses s usage c.args.operand) × (Misses s usage c.args.operand → IsTrue (not c.is_property.result))) (sym c.in-Deletes.is)
    (property_there s c.args.operand (view c.index.result.now) c.is_property.result is c.is_property.ensures)
