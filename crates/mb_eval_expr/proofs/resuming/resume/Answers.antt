use Rattle.std.proofs.Common.{ap, subst, sym, ◌∙◌}
use Rattle.mb_frames.proofs.Steps.{Step-sure}
use Rattle.mb_frames.specs.Rest.Expressions.{expr_rest}
use Rattle.mb_frames.specs.Standing.{forms_at}
use Rattle.mb_model.specs.Meaning.{finished}
use Rattle.mb_model.specs.Task.{Value as ValueAnswer}
use Rattle.mb_world.specs.Image.{names_of}
use Rattle.mb_eval_expr.proofs.Resumed.{rest-value, takes-is}
use Rattle.mb_frames.specs.Resolved.{answer_in}
use Rattle.mb_frames.specs.Stepping.{Step}
use Rattle.mb_model.specs.Task.{Answer}
use Rattle.mb_model.specs.Writing.{Does, truth, value_in}
use Rattle.std.proofs.Common.{true}
use Rattle.mb_eval_expr.proofs.Keeping.{kept-left}
use Rattle.mb_eval_expr.proofs.Steadying.{answer-value}
use Rattle.mb_frames.specs.Holding.{answer_held, expr_held}
use Rattle.mb_frames.proofs.Parts.{all-first, all-second}
use Rattle.mb_frames.specs.Ready.{MayHold}
use Rattle.mb_eval_expr.proofs.resuming.resume.Goals as goal

pub returns-in-Put-clause-row : goal.returns-in-Put-clause-row
returns-in-Put-clause-row c = λ l.
    rw (c.in-Put.is, sym (c.flag_of-yes.ensures c.args.w.now)) (c.put_done.ensures.row c.args.fuel.now true l)

pub returns-in-Deleted-clause-row : goal.returns-in-Deleted-clause-row
returns-in-Deleted-clause-row c = λ l.
    rw (c.in-Deleted.is, sym (c.flag_of-yes.ensures c.args.w.now)) (c.delete_done.ensures.row c.args.fuel.now true l)

pub returns-in-Has-clause-row : goal.returns-in-Has-clause-row
returns-in-Has-clause-row c = λ l.
    let d = c.args.w.now in
    rw (c.in-Has.is, sym (c.flag_of-yes.ensures d)) (Step-sure c.args.home true d (truth c.flag_of-yes.result finished)
    c.truth_value.result c.args.fuel.now l (c.truth_value.ensures.row c.args.home d))

pub returns-clause-row : goal.returns-clause-row
returns-clause-row c = λ l.
    let d = c.args.w.now in
    let n = names_of d in
    let t = takes-is c.args.frame c.in_default.not-Put c.in_default.not-Deleted c.in_default.not-Has in
    let v = value_in (answer_in n c.args.answer) in
    let q = rest-value n (forms_at d c.args.home) c.args.home.0 c.args.frame (answer_in n c.args.answer) t
    ∙ ap (λ y. expr_rest n (forms_at d c.args.home) c.args.home.0 c.args.frame (ValueAnswer y))
    (sym (c.value_of-x.ensures.value d)) in
    subst (λ (p : Does Answer). Step c.args.home true c.resume_value.result d c.resume_value.new.w c.args.fuel.now
    c.resume_value.new.fuel l l (p finished))
    (sym q) (c.resume_value.ensures.row l)

pub resume_value-requires-clause-ours : goal.resume_value-requires-clause-ours
resume_value-requires-clause-ours c =
    takes-is c.args.frame c.in_default.not-Put c.in_default.not-Deleted c.in_default.not-Has

pub resume_value-requires-clause-takes : goal.resume_value-requires-clause-takes
resume_value-requires-clause-takes c = rw c.value_of-x.ensures.held c.requires.takes

pub returns-in-Put-clause-keeps : goal.returns-in-Put-clause-keeps
returns-in-Put-clause-keeps c = λ r i h.
    let g = rw c.in-Put.is at h in
    c.put_done.ensures.keeps r i (g.0, tt)

pub returns-in-Deleted-clause-keeps : goal.returns-in-Deleted-clause-keeps
returns-in-Deleted-clause-keeps c = λ r i h.
    c.delete_done.ensures.keeps r i tt

pub returns-in-Has-clause-keeps : goal.returns-in-Has-clause-keeps
returns-in-Has-clause-keeps c = λ r i h.
    kept-left c.args.home c.args.w.now r (c.truth_value.ensures.leaves c.args.home c.args.w.now r i tt)

pub returns-clause-keeps : goal.returns-clause-keeps
returns-clause-keeps c = λ r i h.
    let d = c.args.w.now in
    let home = c.args.home in
    c.resume_value.ensures.keeps r i (
      rw c.value_of-x.ensures.held
          (answer-value d home r c.args.answer (all-second (MayHold d home) (expr_held c.args.frame)
          (answer_held c.args.answer) h)),
      all-first (MayHold d home) (expr_held c.args.frame) (answer_held c.args.answer) h,
    )
