use Rattle.std.proofs.Common.{◌≡◌}
use Rattle.mb_world.specs.View.{is_foreign}
use Rattle.mb_rules.proofs.Views.{at-object}
use Rattle.mb_rules.proofs.applying.is_foreign.Goals as goal

pub returns : goal.returns
returns c = at-object c.args.w.now c.args.id c.cell.result.now (λ t. c.is_of_another.result ≡ is_foreign c.args.viewer.0 t) c.cell.ensures.value c.is_of_another.ensures
