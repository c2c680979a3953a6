use Rattle.std.proofs.Common.{None, Some}
use Rattle.std.proofs.lemmas.Result.{err_from_is_err_and}
use Rattle.mb_frames.specs.Kinds.{is_expression}
use Rattle.mb_eval_stmt.specs.machine.Keeping.{declared_held}
use Rattle.mb_frames.specs.Keeping.{none_held}
use Rattle.mb_parts.proofs.Answering.{same-keeps}
use Rattle.mb_parts.proofs.Answering.{answer-halts, text-held}
use Rattle.mb_eval_stmt.proofs.Leaving.{undefined-held}
use Rattle.mb_frames.proofs.Keeping.{expression-is, node-held}
use Rattle.mb_eval_stmt.proofs.declarations.give_one.Goals as goal

pub returns-in-Some-default-Some-clause-keeps : goal.returns-in-Some-default-Some-clause-keeps
returns-in-Some-default-Some-clause-keeps c = λ r i h.
    let d = c.args.w.now in
    let home = c.args.home in
    let name = c.in-Some-default-Some.name in
    let value = c.in-Some-default-Some.value in
    same-keeps declared_held home d (Some (name, value)) r (
      text-held d home name c.in-Some-default-Some.ensures.text,
      (
        node-held d home is_expression value.0 (expression-is d home value
            (rw c.in-Some-default-Some.field-0-1-is at c.in-Some-default-Some.ensures.sort)),
        tt,
      ),
    )

pub returns-in_err-initialize-in-Some-default-None-clause-keeps : goal.returns-in_err-initialize-in-Some-default-None-clause-keeps
returns-in_err-initialize-in-Some-default-None-clause-keeps c = λ r i h.
    let d = c.args.w.now in
    let home = c.args.home in
    let name = c.in-Some-default-None.name in
    let e = c.in_err-initialize-in-Some-default-None.field-0.0 in
    let p = err_from_is_err_and c.from_residual.result c.from_residual.ensures.1 in
    rw (p.1, p.2)
    (answer-halts none_held declared_held home e d c.initialize.new.w
    (c.in_err-initialize-in-Some-default-None.ensures.keeps home r i
    (h.0, (text-held d home name c.in-Some-default-None.ensures.text, (undefined-held d home, tt)))))

pub returns-in_ok-initialize-in-Some-default-None-clause-keeps : goal.returns-in_ok-initialize-in-Some-default-None-clause-keeps
returns-in_ok-initialize-in-Some-default-None-clause-keeps c = λ r i h.
    let d = c.args.w.now in
    let home = c.args.home in
    let name = c.in-Some-default-None.name in
    let u = c.in_ok-initialize-in-Some-default-None.ensures.keeps home r i
    (h.0, (text-held d home name c.in-Some-default-None.ensures.text, (undefined-held d home, tt))) in
    record { changed = u.changed; holds = tt }

pub returns-in-None-clause-keeps : goal.returns-in-None-clause-keeps
returns-in-None-clause-keeps c = λ r i h. same-keeps declared_held c.args.home c.args.w.now None r tt
