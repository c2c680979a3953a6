use Rattle.std.proofs.Common.{arith, None}
use Rattle.std.specs.List.{IsDistinct}
use Rattle.mb_text.proofs.texts.Texts.new.Goals as goal

pub invariant_of-result : goal.invariant_of-result
unfolding IsDistinct
invariant_of-result c = rw (c.new.ensures.items, c.new-2.ensures.empty) (omega arith, tt, λ t i. None)
