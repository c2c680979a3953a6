use Rattle.std.proofs.Common.{refl, ◌∙◌}
use Rattle.mb_parse_expr.proofs.Place.{reading_resumed}
use Rattle.mb_parse_expr.proofs.parser.ExprParser.resume.Goals as goal

pub returns-clause-reading : goal.returns-clause-reading
returns-clause-reading c ts level start base out ds body w a e = reading_resumed w.0 body c.args.next c.args.statements.items _ c.len.result a e (c.len.ensures ∙ c.args.statements.ok.0) refl
