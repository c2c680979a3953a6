use Rattle.std.proofs.Common.{sym, subst}
use Rattle.mb_props.specs.Table.{HasDistinctKeys}
use Rattle.mb_props.proofs.Listed.{none_distinct}
use Rattle.mb_props.proofs.Props.new.Goals as goal

pub invariant_of-result : goal.invariant_of-result
invariant_of-result g c = subst (HasDistinctKeys {P = _}) (sym c.new.ensures) none_distinct
