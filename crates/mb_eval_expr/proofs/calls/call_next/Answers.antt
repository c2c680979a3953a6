use Rattle.std.proofs.Common.{[], ◌++◌, ◌∷◌, length-append}
use Rattle.std.proofs.lemmas.Result.{err_from_is_err_and}
use Rattle.mb_eval_expr.proofs.Keeping.{kept-still}
use Rattle.mb_frames.specs.Held.{HeldValue, HeldValues}
use Rattle.mb_frames.specs.Ready.{MayHold}
use Rattle.std.proofs.lemmas.List.{map-append}
use Rattle.mb_world.specs.Image.{Resolve, names_of}
use Rattle.mb_frames.proofs.HeldLess.{values-more}
use Rattle.mb_eval_expr.proofs.calls.call_next.Goals as goal

pub returns-clause-row : goal.returns-clause-row
returns-clause-row c = λ f.
    rw (
      map-append (Resolve (names_of c.args.w.now)) c.args.done (c.args.x ∷ []),
      length-append c.args.done
          (c.args.x ∷ []),
    )
    at (rw c.in_ok-push.ensures.pushed at (c.call_from.ensures.row f))

pub returns-clause-keeps : goal.returns-clause-keeps
returns-clause-keeps c =
    let d = c.args.w.now in
    let more : MayHold d c.args.home (HeldValues c.args.done) → MayHold d c.args.home (HeldValue c.args.x)
    → MayHold d c.args.home (HeldValues (c.args.done ++ (c.args.x ∷ [])))
    = values-more d c.args.home c.args.done c.args.x in
    λ r i h. c.call_from.ensures.keeps r i
    (rw c.in_ok-push.ensures.pushed
    (h.1.0, (h.1.1.0, (h.1.1.1.0, (h.1.1.1.1.0, (h.1.1.1.1.1.0, (more h.1.1.1.1.1.1.0 h.0, tt)))))))

pub returns-in_err-push-clause-keeps : goal.returns-in_err-push-clause-keeps
returns-in_err-push-clause-keeps c =
    let p = err_from_is_err_and c.from_residual.result c.from_residual.ensures.1 in
    rw p.1 (λ r i h. kept-still c.args.home c.args.w.now r)
