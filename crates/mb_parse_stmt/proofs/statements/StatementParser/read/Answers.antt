use Rattle.mb_parse_stmt.proofs.Place.{reading_read}
use Rattle.mb_parse_stmt.proofs.statements.StatementParser.read.Goals as goal

pub returns-clause-reading : goal.returns-clause-reading
returns-clause-reading c ts start base out now level ds h t = reading_read h t _ c.in_ok-push.ensures.items
