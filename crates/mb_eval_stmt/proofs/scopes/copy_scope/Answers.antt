use Rattle.std.proofs.Common.{◌∙◌, List, ap}
use Rattle.std.proofs.lemmas.Result.{err_from_is_err_and}
use Rattle.mb_world.specs.Data.{with_scope}
use Rattle.mb_world.specs.declared.scope.Bound.{Bound}
use Rattle.mb_eval_stmt.proofs.Scoping.{copy-halted, copy-went}
use Rattle.std.proofs.Common.{refl}
use Rattle.mb_eval_stmt.proofs.Entering.{copied-keeps}
use Rattle.mb_parts.proofs.Answering.{halted-keeps}
use Rattle.mb_frames.specs.Keeping.{scope_held}
use Rattle.mb_eval_stmt.proofs.scopes.copy_scope.Goals as goal

pub returns-in_err-names-clause-enters : goal.returns-in_err-names-clause-enters
returns-in_err-names-clause-enters c =
    let p = err_from_is_err_and c.from_residual.result c.from_residual.ensures.1 in
    rw (p.1, p.2)
    (copy-halted c.in_err-names.field-0.0 c.args.w.now c.args.scope c.scope-old.result.now c.args.fuel.now
    c.copied_names.new.fuel c.scope-old.ensures.value c.in_err-names.ensures.charged)

pub returns-clause-enters : goal.returns-clause-enters
returns-clause-enters c =
    let s = c.scope-old.result.now in
    copy-went c.args.w.now c.add_scope.new.self c.args.scope c.in_ok-copy.copy s c.args.fuel.now c.copied_names.new.fuel
    c.scope-old.ensures.value c.in_ok-names.ensures.charged
    (c.in_ok-copy.ensures.added
    ∙ ap (λ (ns : List Bound). with_scope c.args.w.now (record s { names = ns })) c.in_ok-names.ensures.names)
    c.in_ok-copy.ensures.id

pub returns-in_err-names-clause-keeps : goal.returns-in_err-names-clause-keeps
returns-in_err-names-clause-keeps c = λ home r i h.
    let p = err_from_is_err_and c.from_residual.result c.from_residual.ensures.1 in
    rw p.1 (halted-keeps scope_held home c.args.w.now _ p.0 r refl)

pub returns-in_err-copy-clause-keeps : goal.returns-in_err-copy-clause-keeps
returns-in_err-copy-clause-keeps c = λ home r i h.
    let p = err_from_is_err_and c.from_residual-in_err-copy.result c.from_residual-in_err-copy.ensures.1 in
    rw p.1 (halted-keeps scope_held home c.args.w.now _ p.0 r c.in_err-copy.ensures.kept)

pub returns-clause-keeps : goal.returns-clause-keeps
returns-clause-keeps c = λ home r i h.
    let s = c.scope-old.result.now in
    copied-keeps c.args.w.now c.add_scope.new.self home c.args.scope c.in_ok-copy.copy s r h c.scope-old.ensures.value
    c.scope-old.ensures.within
    (c.in_ok-copy.ensures.added
    ∙ ap (λ (ns : List Bound). with_scope c.args.w.now (record s { names = ns })) c.in_ok-names.ensures.names)
    c.in_ok-copy.ensures.id
