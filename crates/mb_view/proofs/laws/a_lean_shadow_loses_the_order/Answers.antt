use Rattle.mb_view.proofs.Needed.{lean-loses}
use Rattle.mb_view.proofs.laws.a_lean_shadow_loses_the_order.Goals as goal

pub returns : goal.returns
returns c = lean-loses
