use Rattle.std.proofs.lemmas.Result.{err_from_is_err_and}
use Rattle.mb_world.specs.FormOf.{name_at}
use Rattle.mb_world.specs.Image.{Resolve, names_of, nodes_in}
use Rattle.mb_world.specs.Data.{program_of}
use Rattle.mb_eval_stmt.proofs.TryRows.{caught-unentered, caught-went}
use Rattle.mb_frames.specs.Told.{shapes_of}
use Rattle.std.proofs.Common.{Err, [], ap, slice_get, ◌∷◌}
use Rattle.mb_frames.proofs.Leaving.{holds-still}
use Rattle.mb_frames.proofs.Readying.{changed-then}
use Rattle.mb_frames.specs.Held.{HeldText, HeldValue}
use Rattle.mb_frames.specs.Kinds.{is_try_form}
use Rattle.mb_frames.specs.Standing.{forms_at}
use Rattle.mb_frames.specs.Keeping.{none_held, scope_held}
use Rattle.mb_parts.proofs.Answering.{same-keeps}
use Rattle.mb_eval_stmt.proofs.Keeping.{try-statement}
use Rattle.mb_parts.proofs.Answering.{answer-halts, answer-then, text-held}
use Rattle.mb_frames.proofs.Keeping.{inside-still}
use Rattle.mb_eval_stmt.proofs.tries.catch_scope.Goals as goal

pub returns-in_err-inner-in-Some-clause-enters : goal.returns-in_err-inner-in-Some-clause-enters
returns-in_err-inner-in-Some-clause-enters c = λ this.
    let d = c.args.w.now in
    let p = err_from_is_err_and c.from_residual.result c.from_residual.ensures.1 in
    rw (p.1, p.2, c.in-Some.is)
    (caught-unentered c.in_err-inner-in-Some.field-0.0 d c.enter_scope.new.w c.args.home c.args.scope c.args.node
    c.args.fuel.now c.enter_scope.new.fuel
    (name_at (slice_get (nodes_in d.texts (shapes_of (program_of d c.args.home))) c.in-Some.param.0))
    (Resolve (names_of d) c.args.x) this c.in_err-inner-in-Some.ensures.enters)

pub returns-in_ok-initialize-in-Some-clause-enters : goal.returns-in_ok-initialize-in-Some-clause-enters
returns-in_ok-initialize-in-Some-clause-enters c = λ this.
    let d = c.args.w.now in
    rw c.in-Some.is
    (caught-went d c.enter_scope.new.w c.initialize.new.w c.args.home c.args.scope c.in_ok-inner-in-Some.inner
    c.args.node c.args.fuel.now c.enter_scope.new.fuel c.name_of-name.result
    (name_at (slice_get (nodes_in d.texts (shapes_of (program_of d c.args.home))) c.in-Some.param.0))
    c.args.x this c.in_ok-inner-in-Some.ensures.enters c.in_ok-initialize-in-Some.ensures.changes
    c.name_of-name.ensures.text c.requires.value c.name_of-name.ensures.name)

pub returns-in_err-inner-in-Some-clause-keeps : goal.returns-in_err-inner-in-Some-clause-keeps
returns-in_err-inner-in-Some-clause-keeps c = λ r i h.
    let n = try-statement (slice_get (forms_at c.args.w.now c.args.home) c.args.node.0)
    (ap is_try_form c.requires.parts.there) in
    let p = err_from_is_err_and c.from_residual.result c.from_residual.ensures.1 in
    rw (p.1, p.2) (c.in_err-inner-in-Some.ensures.keeps n r i (h.0, tt))

pub returns-in_err-initialize-in-Some-clause-keeps : goal.returns-in_err-initialize-in-Some-clause-keeps
returns-in_err-initialize-in-Some-clause-keeps c = λ r i h.
    let home = c.args.home in
    let d = c.args.w.now in
    let d1 = c.enter_scope.new.w in
    let n = try-statement (slice_get (forms_at d home) c.args.node.0) (ap is_try_form c.requires.parts.there) in
    let k = c.in_ok-inner-in-Some.ensures.keeps n r i (h.0, tt) in
    let g = holds-still home d d1 r k.changed (HeldText c.name_of-name.result ∷ HeldValue c.args.x ∷ [])
    (text-held d home c.name_of-name.result c.name_of-name.ensures.text, (h.1.0, tt)) in
    let p = err_from_is_err_and c.from_residual-in_err-initialize-in-Some.result
    c.from_residual-in_err-initialize-in-Some.ensures.1 in
    rw (p.1, p.2)
    (answer-then scope_held home (Err c.in_err-initialize-in-Some.field-0.0) d d1 c.initialize.new.w k.changed
    (answer-halts none_held scope_held home c.in_err-initialize-in-Some.field-0.0 d1 c.initialize.new.w
    (c.in_err-initialize-in-Some.ensures.keeps home k.changed.ready (inside-still home d d1 k.changed i)
    (k.holds.0, (g.0, (g.1.0, tt))))))

pub returns-in_ok-initialize-in-Some-clause-keeps : goal.returns-in_ok-initialize-in-Some-clause-keeps
returns-in_ok-initialize-in-Some-clause-keeps c = λ r i h.
    let home = c.args.home in
    let d = c.args.w.now in
    let d1 = c.enter_scope.new.w in
    let n = try-statement (slice_get (forms_at d home) c.args.node.0) (ap is_try_form c.requires.parts.there) in
    let k = c.in_ok-inner-in-Some.ensures.keeps n r i (h.0, tt) in
    let g = holds-still home d d1 r k.changed (HeldText c.name_of-name.result ∷ HeldValue c.args.x ∷ [])
    (text-held d home c.name_of-name.result c.name_of-name.ensures.text, (h.1.0, tt)) in
    let u = c.in_ok-initialize-in-Some.ensures.keeps home k.changed.ready (inside-still home d d1 k.changed i)
    (k.holds.0, (g.0, (g.1.0, tt))) in
    record {
      changed = changed-then home d d1 c.initialize.new.w k.changed u.changed;
      holds = holds-still home d1 c.initialize.new.w k.changed.ready u.changed
          (scope_held c.in_ok-inner-in-Some.inner) k.holds;
    }

pub returns-in-None-clause-keeps : goal.returns-in-None-clause-keeps
returns-in-None-clause-keeps c = λ r i h. same-keeps scope_held c.args.home c.args.w.now c.args.scope r (h.0, tt)
