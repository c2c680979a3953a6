use Rattle.std.proofs.Common.{rules, tests, of_calls}
use Rattle.std.proofs.lemmas.Iterator.{YieldsList-from_slice}
use Rattle.std.proofs.lemmas.Iterator.Search.{any_from_yields_List}
use Rattle.mb_rules.specs.machine.Applying.{revokes}
use Rattle.mb_rules.proofs.Views.{revoked-is}
use Rattle.mb_rules.proofs.applying.is_revoked.Goals as goal

pub returns : goal.returns
returns c =
    revoked-is c.args.w.now c.args.id c.cell.result.now c.cell.ensures.value c.cell.ensures.distinct c.cell.ensures.within c.cell.ensures.ids c.args.viewer
    c.rules_on.result.now c.rules_on.ensures c.any.result
    (any_from_yields_List (revokes c.cell.result.now.home c.args.viewer) _ _ _ c.any.ensures.ran (YieldsList-from_slice c.rules_on.result.now cc) (λ x b q k. search (rules, of_calls, tests)))
