use Rattle.mb_world.proofs.AfterCalls.{of-symbol}
use Rattle.mb_world.proofs.laws.a_symbol_is_the_last.Goals as goal

pub returns : goal.returns
returns c = of-symbol
