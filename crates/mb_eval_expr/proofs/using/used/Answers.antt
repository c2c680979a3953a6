use Rattle.mb_eval_expr.proofs.Keeping.{kept-left}
use Rattle.mb_frames.proofs.Passed.{Part-sure}
use Rattle.mb_eval_expr.specs.declared.uses.Use.TheVariants as u
use Rattle.mb_eval_expr.specs.machine.Uses.{used}
use Rattle.mb_model.specs.Meaning.{finished}
use Rattle.mb_world.specs.Image.{Resolve, names_of}
use Rattle.mb_eval_expr.proofs.using.used.Goals as goal

pub returns-in-Give-clause-row : goal.returns-in-Give-clause-row
returns-in-Give-clause-row c = λ f.
    let d = c.args.w.now in
    rw c.in-Give.is (Part-sure c.args.home d f (used d c.args.home u.Give (Resolve (names_of d) c.args.x) finished)
    c.value.result
    (c.value.ensures.row c.args.home d c.requires.value))

pub returns-in-Compound-clause-row : goal.returns-in-Compound-clause-row
returns-in-Compound-clause-row c = λ f.
    let d = c.args.w.now in
    let h = rw c.in-Compound.is at c.requires.next in
    rw c.in-Compound.is (Part-sure c.args.home d f
    (used d c.args.home (u.Compound c.in-Compound.at c.in-Compound.sign c.in-Compound.value c.in-Compound.to)
    (Resolve (names_of d) c.args.x) finished)
    c.compound_old.result
    (c.compound_old.ensures.row c.args.home d (h.0, h.1.0) h.1.1.1.1 c.requires.value))

pub returns-in-Update-clause-row : goal.returns-in-Update-clause-row
returns-in-Update-clause-row c = λ f. rw c.in-Update.is (c.update_old.ensures.row f)

pub returns-in-Call-clause-row : goal.returns-in-Call-clause-row
returns-in-Call-clause-row c = λ f. rw c.in-Call.is (c.callee_got.ensures.row f)

pub returns-in-Give-clause-keeps : goal.returns-in-Give-clause-keeps
returns-in-Give-clause-keeps c = λ r i h.
    kept-left c.args.home c.args.w.now r (c.value.ensures.leaves c.args.home c.args.w.now r i (h.0, tt))

pub returns-in-Compound-clause-keeps : goal.returns-in-Compound-clause-keeps
returns-in-Compound-clause-keeps c = λ r i h.
    kept-left c.args.home c.args.w.now r
    (c.compound_old.ensures.leaves c.args.home c.args.w.now r i (h.0, rw c.in-Compound.is at h.1))

pub returns-in-Update-clause-keeps : goal.returns-in-Update-clause-keeps
returns-in-Update-clause-keeps c = λ r i h. c.update_old.ensures.keeps r i (h.0, rw c.in-Update.is at h.1)

pub returns-in-Call-clause-keeps : goal.returns-in-Call-clause-keeps
returns-in-Call-clause-keeps c = λ r i h. c.callee_got.ensures.keeps r i (h.0, rw c.in-Call.is at h.1)
