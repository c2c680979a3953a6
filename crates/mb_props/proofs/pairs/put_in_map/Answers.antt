use Rattle.std.proofs.Common.{sym, ap, ◌∙◌}
use Rattle.std.specs.Map.{lookup}
use Rattle.mb_props.proofs.Keys.{same}
use Rattle.mb_props.proofs.pairs.put_in_map.Goals as goal

pub returns-in-Err-clause-there : goal.returns-in-Err-clause-there
returns-in-Err-clause-there g c there = absurd (there (sym (ap (λ test. lookup (test c.args.key) c.args.map.now.entries) same) ∙ c.in-Err.ensures.absent))
