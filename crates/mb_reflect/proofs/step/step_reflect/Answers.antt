use Rattle.std.proofs.Common.{◌∙◌, refl}
use Rattle.std.proofs.lemmas.Result.{err_from_is_err_and}
use Rattle.mb_frames.proofs.Steadying.{done-holds, halt-keeps}
use Rattle.mb_frames.specs.Standing.{forms_at}
use Rattle.mb_frames.specs.Stepping.{Stepped, written}
use Rattle.mb_frames.specs.declared.machine.Waiting.{Waiting}
use Rattle.mb_parts.proofs.TopFrames.{entered-none, on-top, stepped-at, stopped-at}
use Rattle.mb_reflect.proofs.Stepped.{handed, no-crossing, step-kept, step-ready, top-acts}
use Rattle.mb_reflect.proofs.step.step_reflect.Goals as goal
use Rattle.mb_reflect.proofs.step.step_reflect.Goals.{In-Some}
use Rattle.mb_reflect.specs.Ours.{IsReflectFrame}

-- ---- the frame on top

ours : (c : In-Some) → IsReflectFrame c.in-Some.top.frame
ours c =
    on-top (λ (y : Waiting). IsReflectFrame y.frame) c.args.m.now.stack.items c.pop.new.self.stack.items
    c.in-Some.top c.in-Some.ensures.popped c.requires.top

pub take-requires-clause-acts : goal.take-requires-clause-acts
take-requires-clause-acts c =
    top-acts c.args.w.now c.args.m.now c.pop.new.self.stack.items c.in-Some.top c.requires.ready
    c.in-Some.ensures.popped

pub take-requires-clause-done : goal.take-requires-clause-done
take-requires-clause-done c =
    let top = c.in-Some.top in
    rw (c.take-done.ensures.value, c.in-Some.ensures.done)
    (done-holds c.args.w.now c.args.m.now c.pop.new.self.stack.items top c.requires.ready c.in-Some.ensures.popped
    (no-crossing top.frame (ours (goal.at.take-requires-clause-done c).In-Some)))

pub take-requires-clause-ours : goal.take-requires-clause-ours
take-requires-clause-ours c = ours (goal.at.take-requires-clause-ours c).In-Some

pub take-requires-clause-handed : goal.take-requires-clause-handed
take-requires-clause-handed c =
    handed c.args.w.now c.args.m.now c.pop.new.self.stack.items c.in-Some.top c.take-done.result c.requires.ready
    c.in-Some.ensures.popped (c.take-done.ensures.value ∙ c.in-Some.ensures.done)

-- ---- a step

abbrev made : (c : goal.In_ok-make-in-Some) → Stepped c.args.m.now c.make.new.self c.args.w.now c.take.new.w
    c.args.fuel.now c.take.new.fuel (written c.args.lines.now) (written c.args.lines.now)
made c =
    stepped-at c.in-Some.top.home c.args.m.now c.make.new.self c.args.w.now c.take.new.w c.args.fuel.now
    c.take.new.fuel (written c.args.lines.now) (written c.args.lines.now) c.pop.new.self.stack.items c.in-Some.top
    c.take-done.result c.in_ok-step-in-Some.step c.in-Some.ensures.popped c.in_ok-make-in-Some.ensures.is
    c.in_ok-make-in-Some.ensures.done c.in_ok-make-in-Some.ensures.now
    (c.take-done.ensures.value ∙ c.in-Some.ensures.done)
    (λ h. absurd (entered-none c.in_ok-step-in-Some.step c.in_ok-step-in-Some.ensures.puts_none h))
    (c.in_ok-step-in-Some.ensures.step (written c.args.lines.now))

pub returns-clause-steps : goal.returns-clause-steps
returns-clause-steps c = made c

pub returns-clause-ready : goal.returns-clause-ready
returns-clause-ready c =
    step-ready c.args.m.now c.make.new.self c.args.w.now c.take.new.w c.args.fuel.now c.take.new.fuel
    (written c.args.lines.now) (written c.args.lines.now) (made c) c.requires.ready c.in_ok-step-in-Some.step refl
    (c.in_ok-step-in-Some.ensures.keeps (forms_at c.args.w.now c.in-Some.top.home) c.requires.ready.formed.sort)

pub returns-clause-kept : goal.returns-clause-kept
returns-clause-kept c =
    step-kept c.args.m.now c.make.new.self c.args.w.now c.take.new.w c.args.fuel.now c.take.new.fuel
    (written c.args.lines.now) (written c.args.lines.now) (made c) c.requires.ready c.in_ok-step-in-Some.step refl
    (c.in_ok-step-in-Some.ensures.keeps (forms_at c.args.w.now c.in-Some.top.home) c.requires.ready.formed.sort)

pub returns-clause-found : goal.returns-clause-found
returns-clause-found c =
    (c.in_ok-step-in-Some.ensures.keeps (forms_at c.args.w.now c.in-Some.top.home)
    c.requires.ready.formed.sort).changed.found

-- ---- a halt of the step

pub returns-in_err-step-in-Some-clause-steps : goal.returns-in_err-step-in-Some-clause-steps
returns-in_err-step-in-Some-clause-steps c =
    let p = err_from_is_err_and c.from_residual.result c.from_residual.ensures.1 in
    rw (p.1, p.2)
    (stopped-at c.in-Some.top.home c.in_err-step-in-Some.field-0.0 c.args.m.now _ c.args.w.now c.take.new.w
    c.args.fuel.now c.take.new.fuel (written c.args.lines.now) (written c.args.lines.now)
    c.pop.new.self.stack.items c.in-Some.top c.take-done.result c.in-Some.ensures.popped
    (c.take-done.ensures.value ∙ c.in-Some.ensures.done)
    (c.in_err-step-in-Some.ensures.step (written c.args.lines.now)))

pub returns-in_err-step-in-Some-clause-ready : goal.returns-in_err-step-in-Some-clause-ready
returns-in_err-step-in-Some-clause-ready c =
    let p = err_from_is_err_and c.from_residual.result c.from_residual.ensures.1 in
    rw p.1
    (c.in_err-step-in-Some.ensures.keeps (forms_at c.args.w.now c.in-Some.top.home)
    c.requires.ready.formed.sort).changed.ready

pub returns-in_err-step-in-Some-clause-kept : goal.returns-in_err-step-in-Some-clause-kept
returns-in_err-step-in-Some-clause-kept c =
    let m = c.args.m.now in
    let p = err_from_is_err_and c.from_residual.result c.from_residual.ensures.1 in
    rw p.1
    (halt-keeps p.0 m m c.args.w.now c.take.new.w c.pop.new.self.stack.items c.in-Some.top c.in-Some.ensures.popped
    (c.in_err-step-in-Some.ensures.keeps (forms_at c.args.w.now c.in-Some.top.home)
    c.requires.ready.formed.sort).changed)

pub returns-in_err-step-in-Some-clause-found : goal.returns-in_err-step-in-Some-clause-found
returns-in_err-step-in-Some-clause-found c =
    (c.in_err-step-in-Some.ensures.keeps (forms_at c.args.w.now c.in-Some.top.home)
    c.requires.ready.formed.sort).changed.found

-- ---- no memory for the frames

pub returns-in_err-make-in-Some-clause-ready : goal.returns-in_err-make-in-Some-clause-ready
returns-in_err-make-in-Some-clause-ready c =
    let p = err_from_is_err_and c.from_residual-in_err-make-in-Some.result
    c.from_residual-in_err-make-in-Some.ensures.1 in
    rw p.1
    (c.in_ok-step-in-Some.ensures.keeps (forms_at c.args.w.now c.in-Some.top.home)
    c.requires.ready.formed.sort).changed.ready

pub returns-in_err-make-in-Some-clause-kept : goal.returns-in_err-make-in-Some-clause-kept
returns-in_err-make-in-Some-clause-kept c =
    let m = c.args.m.now in
    let p = err_from_is_err_and c.from_residual-in_err-make-in-Some.result
    c.from_residual-in_err-make-in-Some.ensures.1 in
    rw p.1
    (halt-keeps p.0 m m c.args.w.now c.take.new.w c.pop.new.self.stack.items c.in-Some.top c.in-Some.ensures.popped
    (c.in_ok-step-in-Some.ensures.keeps (forms_at c.args.w.now c.in-Some.top.home)
    c.requires.ready.formed.sort).changed)

pub returns-in_err-make-in-Some-clause-found : goal.returns-in_err-make-in-Some-clause-found
returns-in_err-make-in-Some-clause-found c =
    (c.in_ok-step-in-Some.ensures.keeps (forms_at c.args.w.now c.in-Some.top.home)
    c.requires.ready.formed.sort).changed.found
