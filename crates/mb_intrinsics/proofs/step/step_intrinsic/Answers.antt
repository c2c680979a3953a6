use Rattle.std.proofs.Common.{refl}
use Rattle.std.proofs.lemmas.Result.{err_from_is_err_and}
use Rattle.mb_frames.proofs.Steadying.{halt-keeps}
use Rattle.mb_frames.specs.Stepping.{written}
use Rattle.mb_frames.specs.declared.machine.Waiting.{Waiting}
use Rattle.mb_intrinsics.proofs.Stepped.{step-kept, step-ready, top-acts}
use Rattle.mb_intrinsics.specs.Ours.{IsBasicFrame}
use Rattle.mb_parts.proofs.TopFrames.{entered-none, on-top, stepped-at, stopped-at}
use Rattle.mb_intrinsics.proofs.step.step_intrinsic.Goals as goal

pub take-requires-clause-acting : goal.take-requires-clause-acting
take-requires-clause-acting c =
    top-acts c.args.w.now c.args.m.now c.pop.new.self.stack.items c.in-Some.top c.requires.ready
    c.in-Some.ensures.popped

pub take-requires-clause-ours : goal.take-requires-clause-ours
take-requires-clause-ours c =
    on-top (λ (y : Waiting). IsBasicFrame y.frame) c.args.m.now.stack.items c.pop.new.self.stack.items c.in-Some.top
    c.in-Some.ensures.popped c.requires.top

pub returns-in_err-step-in-Some-clause-steps : goal.returns-in_err-step-in-Some-clause-steps
returns-in_err-step-in-Some-clause-steps c =
    let m = c.args.m.now in
    let p = err_from_is_err_and c.from_residual.result c.from_residual.ensures.1 in
    rw (p.1, p.2)
    (stopped-at c.in-Some.top.home c.in_err-step-in-Some.field-0.0 m _ c.args.w.now c.take.new.w c.args.fuel.now
    c.take.new.fuel
    (written c.args.lines.now) (written c.take.new.lines) c.pop.new.self.stack.items c.in-Some.top m.done
    c.in-Some.ensures.popped refl (c.in_err-step-in-Some.ensures.step m.done))

pub returns-in_err-step-in-Some-clause-ready : goal.returns-in_err-step-in-Some-clause-ready
returns-in_err-step-in-Some-clause-ready c =
    let p = err_from_is_err_and c.from_residual.result c.from_residual.ensures.1 in
    rw p.1 c.in_err-step-in-Some.ensures.keeps.changed.ready

pub returns-in_err-step-in-Some-clause-kept : goal.returns-in_err-step-in-Some-clause-kept
returns-in_err-step-in-Some-clause-kept c =
    let m = c.args.m.now in
    let p = err_from_is_err_and c.from_residual.result c.from_residual.ensures.1 in
    rw p.1
    (halt-keeps p.0 m m c.args.w.now c.take.new.w c.pop.new.self.stack.items c.in-Some.top c.in-Some.ensures.popped
    c.in_err-step-in-Some.ensures.keeps.changed)

pub returns-in_err-make-in-Some-clause-ready : goal.returns-in_err-make-in-Some-clause-ready
returns-in_err-make-in-Some-clause-ready c =
    let p = err_from_is_err_and c.from_residual-in_err-make-in-Some.result
    c.from_residual-in_err-make-in-Some.ensures.1 in
    rw p.1 c.in_ok-step-in-Some.ensures.keeps.changed.ready

pub returns-in_err-make-in-Some-clause-kept : goal.returns-in_err-make-in-Some-clause-kept
returns-in_err-make-in-Some-clause-kept c =
    let m = c.args.m.now in
    let p = err_from_is_err_and c.from_residual-in_err-make-in-Some.result
    c.from_residual-in_err-make-in-Some.ensures.1 in
    rw p.1
    (halt-keeps p.0 m m c.args.w.now c.take.new.w c.pop.new.self.stack.items c.in-Some.top c.in-Some.ensures.popped
    c.in_ok-step-in-Some.ensures.keeps.changed)

pub returns-clause-steps : goal.returns-clause-steps
returns-clause-steps c =
    let m = c.args.m.now in
    stepped-at c.in-Some.top.home m c.make.new.self c.args.w.now c.take.new.w c.args.fuel.now c.take.new.fuel
    (written c.args.lines.now) (written c.take.new.lines) c.pop.new.self.stack.items c.in-Some.top m.done
    c.in_ok-step-in-Some.step c.in-Some.ensures.popped c.in_ok-make-in-Some.ensures.is c.in_ok-make-in-Some.ensures.done
    c.in_ok-make-in-Some.ensures.now refl
    (λ h. absurd (entered-none c.in_ok-step-in-Some.step c.in_ok-step-in-Some.ensures.puts_none h))
    (c.in_ok-step-in-Some.ensures.step m.done)

pub returns-clause-ready : goal.returns-clause-ready
returns-clause-ready c =
    let m = c.args.m.now in
    let below = c.pop.new.self.stack.items in
    let top = c.in-Some.top in
    let was = c.in-Some.ensures.popped in
    let q = stepped-at top.home m c.make.new.self c.args.w.now c.take.new.w c.args.fuel.now c.take.new.fuel
    (written c.args.lines.now) (written c.take.new.lines) below top m.done c.in_ok-step-in-Some.step was
    c.in_ok-make-in-Some.ensures.is c.in_ok-make-in-Some.ensures.done c.in_ok-make-in-Some.ensures.now refl
    (λ h. absurd (entered-none c.in_ok-step-in-Some.step c.in_ok-step-in-Some.ensures.puts_none h))
    (c.in_ok-step-in-Some.ensures.step m.done) in
    step-ready m c.make.new.self c.args.w.now c.take.new.w c.args.fuel.now c.take.new.fuel (written c.args.lines.now)
    (written c.take.new.lines) q c.requires.ready c.in_ok-step-in-Some.step refl
    (on-top (λ (y : Waiting). IsBasicFrame y.frame) m.stack.items below top was c.requires.top)
    c.in_ok-step-in-Some.ensures.keeps

pub returns-clause-kept : goal.returns-clause-kept
returns-clause-kept c =
    let m = c.args.m.now in
    let below = c.pop.new.self.stack.items in
    let top = c.in-Some.top in
    let was = c.in-Some.ensures.popped in
    let q = stepped-at top.home m c.make.new.self c.args.w.now c.take.new.w c.args.fuel.now c.take.new.fuel
    (written c.args.lines.now) (written c.take.new.lines) below top m.done c.in_ok-step-in-Some.step was
    c.in_ok-make-in-Some.ensures.is c.in_ok-make-in-Some.ensures.done c.in_ok-make-in-Some.ensures.now refl
    (λ h. absurd (entered-none c.in_ok-step-in-Some.step c.in_ok-step-in-Some.ensures.puts_none h))
    (c.in_ok-step-in-Some.ensures.step m.done) in
    step-kept m c.make.new.self c.args.w.now c.take.new.w c.args.fuel.now c.take.new.fuel (written c.args.lines.now)
    (written c.take.new.lines) q c.requires.ready c.in_ok-step-in-Some.step refl
    (on-top (λ (y : Waiting). IsBasicFrame y.frame) m.stack.items below top was c.requires.top)
    c.in_ok-step-in-Some.ensures.keeps

pub returns-in_err-step-in-Some-clause-found : goal.returns-in_err-step-in-Some-clause-found
returns-in_err-step-in-Some-clause-found c = c.in_err-step-in-Some.ensures.keeps.changed.found

pub returns-in_err-make-in-Some-clause-found : goal.returns-in_err-make-in-Some-clause-found
returns-in_err-make-in-Some-clause-found c = c.in_ok-step-in-Some.ensures.keeps.changed.found

pub returns-clause-found : goal.returns-clause-found
returns-clause-found c = c.in_ok-step-in-Some.ensures.keeps.changed.found
