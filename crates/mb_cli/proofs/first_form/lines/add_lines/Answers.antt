use Rattle.std.proofs.Common.{arith, ◌≡◌, ◌∙◌, ◌++◌, ◌∷◌, [], ap, pos, take, map}
use Rattle.std.proofs.lemmas.Grind.{common_steps}
use Rattle.std.proofs.lemmas.List.{take_all}
use Rattle.mb_text.proofs.Kept.{keeps_ids_more}
use Rattle.mb_cli.specs.machine.Lines.{contents_of}
use Rattle.mb_cli.specs.first_form.Text.{line_of}
use Rattle.mb_cli.proofs.first_form.Meanings.{IsLiteral-kept, means_at, length-literals, on_line}
use Rattle.mb_cli.specs.declared.first_form.script.Literal.TheVariants.{Whole}
use Rattle.mb_cli.proofs.first_form.lines.add_lines.Goals as goal

pub line_of-requires : goal.line_of-requires
line_of-requires c =
    let at = means_at c.args.texts.now c.args.literals.now c.requires.0 c.loop-literal.literal-index (Whole (pos 0)) c.requires.1 c.loop-literal-test.true in
    (at.meant, IsLiteral-kept _ _ _ at.meant c.loop-literal.invariant.ids at.is)

pub loop-literal-preserved : goal.loop-literal-preserved
loop-literal-preserved c =
    let pushed : c.push.new.self.items ≡ c.loop-literal.lines.items ++ (c.in_ok-line.line ∷ []) = grind (arith, common_steps, c.in_ok-push.ensures.items) in
    record {
      ids = keeps_ids_more _ _ _ c.loop-literal.invariant.ids c.in_ok-line.ensures.ids;
      lines = λ meant h.
          let at = means_at c.args.texts.now c.args.literals.now meant c.loop-literal.literal-index (Whole (pos 0)) h c.loop-literal-test.true in
          on_line c.args.side c.loop-literal.lines.items c.push.new.self.items c.in_ok-line.line _ meant c.loop-literal.literal-index at.meant (c.loop-literal.invariant.lines meant h)
          pushed (c.in_ok-line.ensures.line at.meant (IsLiteral-kept _ _ _ at.meant c.loop-literal.invariant.ids at.is)) at.taken;
    }

pub returns-clause-lines : goal.returns-clause-lines
returns-clause-lines c meant h =
    let long = length-literals c.args.texts.now c.args.literals.now meant h in
    let all : take c.loop-literal.literal-index meant ≡ meant = take_all c.loop-literal.literal-index meant (omega (arith, long, c.loop-literal-test.false)) in
    c.loop-literal.invariant.lines meant h ∙ ap (λ ms. contents_of c.args.lines.now.items ++ map (line_of c.args.side) ms) all
