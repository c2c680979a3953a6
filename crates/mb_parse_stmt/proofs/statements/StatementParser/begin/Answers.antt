use Rattle.std.proofs.Common.{◌≡◌, [], ◌∷◌, arith}
use Rattle.std.proofs.lemmas.Grind.{common_steps}
use Rattle.mb_parse_stmt.specs.declared.machine.Holder.TheVariants as ho
use Rattle.mb_parse_stmt.specs.declared.machine.Frame.TheVariants as f
use Rattle.mb_parse_stmt.proofs.Place.{reading_begun}
use Rattle.mb_parse_stmt.proofs.statements.StatementParser.begin.Goals as goal

pub returns-clause-reading : goal.returns-clause-reading
returns-clause-reading c ts base w =
    let pushed : c.push.new.self.items ≡ f.Statements ho.Top 0 ∷ [] = grind (arith, common_steps, c.in_ok-push.ensures.items, c.new-frames.ensures.items) in
    reading_begun c.args.stop ts c.args.at base _ _ w pushed c.new.ensures.items
