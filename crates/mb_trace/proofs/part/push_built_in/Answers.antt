use Rattle.std.proofs.Common.{◌++◌, ◌∷◌, ap, ◌∙◌, sym}
use Rattle.mb_trace.proofs.Names.{no-name}
use Rattle.mb_trace.proofs.part.push_built_in.Goals as goal

pub returns-else-place-lt80 : goal.returns-else-place-lt80
returns-else-place-lt80 c =
    c.in_ok-push.ensures.items ∙ ap (λ ds. c.args.out.now.items ++ 64 ∷ ds) (sym (no-name c.args.place c.if-place-lt80.false))
