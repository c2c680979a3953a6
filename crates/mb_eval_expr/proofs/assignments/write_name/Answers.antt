use Rattle.mb_frames.specs.Sorts.{AValue}
use Rattle.mb_eval_expr.proofs.Keeping.{scope-held}
use Rattle.std.proofs.Common.{sym}
use Rattle.mb_eval_expr.proofs.Writes.{Part-unbound}
use Rattle.mb_world.specs.Image.{Resolve, names_of, text_in}
use Rattle.mb_eval_expr.proofs.assignments.write_name.Goals as goal

pub returns-in-None-clause-row : goal.returns-in-None-clause-row
returns-in-None-clause-row c = λ f.
    let n = names_of c.args.w.now in
    Part-unbound c.args.home c.args.w.now f c.args.scope.0 (text_in n c.args.name) (Resolve n c.args.x)
    (Resolve n c.args.gives)
    c.throws.result c.throws.new.w (λ log. sym (c.in-None.ensures.place log)) (c.throws.ensures.part f)

pub write_at-requires-clause-found : goal.write_at-requires-clause-found
write_at-requires-clause-found c = λ log. sym (c.in-Some.ensures.place log)

pub returns-in-Some-clause-keeps : goal.returns-in-Some-clause-keeps
returns-in-Some-clause-keeps c = λ r i h.
    c.write_at.ensures.keeps r i (
      scope-held c.args.w.now c.args.home c.in-Some.at c.in-Some.ensures.within.0
          (c.in-Some.ensures.home c.args.home r h.0.sound),
      h.1,
    )

pub returns-in-None-clause-keeps : goal.returns-in-None-clause-keeps
returns-in-None-clause-keeps c = λ r i h. c.throws.ensures.keeps AValue r i tt
