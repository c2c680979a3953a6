use Rattle.std.proofs.Common.{ap, is_some, sym, true≢false, ◌∙◌}
use Rattle.mb_arrayapi.proofs.step.ended.Goals as goal

pub unreachable-requires : goal.unreachable-requires
unreachable-requires c = true≢false (sym c.requires ∙ ap is_some c.in-None.is)
