use Rattle.std.proofs.Common.{◌∙◌, sym}
use Rattle.mb_parse_expr.proofs.Ahead.{heads_closed}
use Rattle.mb_parse_expr.proofs.parser.heads.Goals as goal

pub returns-in-Close : goal.returns-in-Close
returns-in-Close c = c.is_arrow.ensures ∙ sym (heads_closed c.args.tokens.now c.loop-at.at _ c.loop-at-test.true (sym c.in-Close.ensures)) ∙ c.loop-at.invariant
