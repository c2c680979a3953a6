use Rattle.std.proofs.Common.{◌≡◌, [], ◌∷◌, ◌++◌, ap, ◌∙◌, arith}
use Rattle.std.proofs.lemmas.Grind.{common_steps}
use Rattle.mb_parse_expr.specs.declared.machine.Frame.TheVariants as f
use Rattle.mb_parse_expr.proofs.Place.{reading_begun}
use Rattle.mb_parse_expr.proofs.parser.ExprParser.begin.Goals as goal

pub returns-clause-reading : goal.returns-clause-reading
returns-clause-reading c ts base =
    let pushed : c.push.new.self.items ≡ f.Start c.args.level ∷ [] = grind (arith, common_steps, c.in_ok-push.ensures.items, c.new-frames.ensures.items) in
    reading_begun ts c.args.level c.args.at base _ _ pushed (ap (λ x. x ++ c.new-2.result.items) c.new.ensures.items ∙ c.new-2.ensures.items)
