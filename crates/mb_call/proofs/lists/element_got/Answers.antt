use Rattle.std.proofs.Common.{sym, ◌∙◌}
use Rattle.std.proofs.lemmas.Result.{err_from_is_err_and}
use Rattle.mb_call.proofs.ListRows.{Part-more, Part-no-key}
use Rattle.mb_call.proofs.lists.element_got.Goals as goal
use Rattle.mb_frames.proofs.HeldLess.{values-more}
use Rattle.mb_frames.proofs.Keeping.{keeps-halted}
use Rattle.mb_frames.proofs.Readying.{changed-same}
use Rattle.mb_frames.specs.Sorts.{list_gives}

pub returns-then-not-may_be_listed-clause-part : goal.returns-then-not-may_be_listed-clause-part
returns-then-not-may_be_listed-clause-part c =
    Part-no-key c.args.home c.args.w.now c.args.list c.args.done c.args.after c.type_error.result c.type_error.new.w
    c.args.fuel.now c.args.fuel.now c.args.left c.args.x
    (sym (c.may_be_listed.ensures c.args.w.now) ∙ c.if-not-may_be_listed.true)
    (c.type_error.ensures.part c.args.fuel.now)

pub list_from-requires : goal.list_from-requires
list_from-requires c =
    let d = c.args.w.now in
    let home = c.args.home in
    let h = c.requires.acts.holds in
    record {
      acts = record {
        ready = c.requires.acts.ready;
        side = c.requires.acts.side;
        holds = (
          h.1.0,
          (rw c.in_ok-push.ensures.pushed (values-more d home c.args.done c.args.x h.1.1.0 h.0), h.1.1.1),
        );
      };
    }

pub returns-clause-part : goal.returns-clause-part
returns-clause-part c =
    Part-more c.args.home c.args.w.now c.args.list c.args.done c.args.after c.list_from.result c.list_from.new.w
    c.args.fuel.now c.list_from.new.fuel c.args.left c.args.x
    (sym (c.may_be_listed.ensures c.args.w.now) ∙ c.if-not-may_be_listed.false)
    (rw c.in_ok-push.ensures.pushed at c.list_from.ensures.part)

pub returns-in_err-push-clause-keeps : goal.returns-in_err-push-clause-keeps
returns-in_err-push-clause-keeps c =
    let d = c.args.w.now in
    let p = err_from_is_err_and c.from_residual.result c.from_residual.ensures.1 in
    rw p.1
    (keeps-halted c.args.home (list_gives c.args.after) p.0 d d (changed-same c.args.home d c.requires.acts.ready))

pub returns-then-not-may_be_listed-clause-keeps : goal.returns-then-not-may_be_listed-clause-keeps
returns-then-not-may_be_listed-clause-keeps c = c.type_error.ensures.keeps (list_gives c.args.after)
