use Rattle.std.proofs.Common.{◌∙◌, ◌∷◌, sym}
use Rattle.std.proofs.lemmas.Result.{err_from_is_err_and}
use Rattle.mb_arrayapi.proofs.Acting.{halts}
use Rattle.mb_arrayapi.proofs.Calls.{Part-calls, calls-kept, function-held, not-object}
use Rattle.mb_arrayapi.proofs.calling.calls.Goals as goal
use Rattle.mb_arrayapi.specs.machine.Turning.{elements_held}
use Rattle.mb_frames.specs.Held.{HeldValue}
use Rattle.mb_frames.specs.Sorts.{AValue}

pub returns-in_err-arguments-clause-keeps : goal.returns-in_err-arguments-clause-keeps
returns-in_err-arguments-clause-keeps c =
    let p = err_from_is_err_and c.from_residual.result c.from_residual.ensures.1 in
    rw p.1
    (halts c.args.w.now c.args.home (HeldValue c.args.x ∷ elements_held c.args.at) c.requires.acts AValue p.0)

pub returns-clause-part : goal.returns-clause-part
returns-clause-part c = λ f.
    let e = c.args.at in
    let a = c.requires.acts in
    let h = rw c.requires.turn at a.holds in
    rw (c.waits.ensures, c.this_of.ensures)
    (Part-calls c.args.home c.args.w.now f a.ready e.object h.1.0 c.args.callback h.1.1 c.args.x h.0 e.place
    c.in_ok-arguments.arguments (rw c.so_far_of.ensures at c.in_ok-arguments.ensures) c.in-Object.function
    (sym c.function_of.ensures ∙ c.in-Object.is) e.left c.requires.value)

pub returns-clause-keeps : goal.returns-clause-keeps
returns-clause-keeps c =
    let e = c.args.at in
    let a = c.requires.acts in
    let h = rw c.requires.turn at a.holds in
    rw (c.waits.ensures, c.this_of.ensures)
    (calls-kept c.args.home c.args.w.now 0 a.ready e.object h.1.0 c.args.callback h.1.1 c.args.x h.0 e.place
    c.in_ok-arguments.arguments (rw c.so_far_of.ensures at c.in_ok-arguments.ensures) c.in-Object.function
    (sym c.function_of.ensures ∙ c.in-Object.is) e.left)

pub unreachable-requires : goal.unreachable-requires
unreachable-requires c =
    let h = rw c.requires.turn at c.requires.acts.holds in
    not-object c.args.w.now c.function_of.result
    (rw c.function_of.ensures (function-held c.args.w.now c.args.home c.args.callback h.1.1).sound)
    c.in_default.not-Object
