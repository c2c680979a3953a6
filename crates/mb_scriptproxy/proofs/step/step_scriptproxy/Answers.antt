use Rattle.std.proofs.Common.{◌∙◌, Err, Ok, refl}
use Rattle.std.proofs.lemmas.Result.{err_from_is_err_and}
use Rattle.mb_frames.proofs.Steadying.{done-holds, top-fit, top-holds, top-home}
use Rattle.mb_frames.specs.Holding.{FrameIn}
use Rattle.mb_frames.specs.Stepping.{Stepped, written}
use Rattle.mb_frames.specs.declared.machine.Waiting.{Waiting}
use Rattle.mb_parts.proofs.TopFrames.{last-in, on-top, stepped-at, stopped-at}
use Rattle.mb_scriptproxy.proofs.Handed.{handed, no-crossing}
use Rattle.mb_scriptproxy.proofs.Readied.{halted-kept, step-kept, step-ready}
use Rattle.mb_scriptproxy.proofs.step.step_scriptproxy.Goals as goal
use Rattle.mb_scriptproxy.proofs.step.step_scriptproxy.Goals.{In-Some}
use Rattle.mb_scriptproxy.specs.Ours.{IsProxyFrame}

-- ---- the frame on top

ours : (c : In-Some) → IsProxyFrame c.args.w.now c.in-Some.top.frame
ours c =
    on-top (λ (y : Waiting). IsProxyFrame c.args.w.now y.frame) c.args.m.now.stack.items
    c.pop.new.self.stack.items c.in-Some.top c.in-Some.ensures.popped c.requires.top

pub acting_side-side-requires : goal.acting_side-side-requires
acting_side-side-requires c =
    last-in (λ (y : Waiting). FrameIn c.args.w.now y.frame) c.args.m.now.stack.items c.pop.new.self.stack.items
    c.in-Some.top c.in-Some.ensures.popped c.requires.ready.formed.ids.frames

pub take-requires-clause-acts : goal.take-requires-clause-acts
take-requires-clause-acts c =
    let d = c.args.w.now in
    let m = c.args.m.now in
    let below = c.pop.new.self.stack.items in
    let top = c.in-Some.top in
    let h = c.requires.ready in
    let was = c.in-Some.ensures.popped in
    record { ready = h.world; side = top-home d m below top h was; holds = top-holds d m below top h was }

pub take-requires-clause-done : goal.take-requires-clause-done
take-requires-clause-done c =
    let d = c.args.w.now in
    let m = c.args.m.now in
    let below = c.pop.new.self.stack.items in
    let top = c.in-Some.top in
    let h = c.requires.ready in
    let was = c.in-Some.ensures.popped in
    record {
      ready = h.world;
      side = top-home d m below top h was;
      holds = rw (c.take-done.ensures.value, c.in-Some.ensures.done)
          (done-holds d m below top h was (no-crossing d top.frame (ours
          (goal.at.take-requires-clause-done c).In-Some)));
    }

pub take-requires-clause-ours : goal.take-requires-clause-ours
take-requires-clause-ours c = ours (goal.at.take-requires-clause-ours c).In-Some

pub take-requires-clause-fit : goal.take-requires-clause-fit
take-requires-clause-fit c =
    top-fit c.args.w.now c.args.m.now c.pop.new.self.stack.items c.in-Some.top c.requires.ready c.in-Some.ensures.popped

pub take-requires-clause-handed : goal.take-requires-clause-handed
take-requires-clause-handed c =
    handed c.args.w.now c.args.m.now c.pop.new.self.stack.items c.in-Some.top c.take-done.result c.requires.ready
    c.in-Some.ensures.popped (c.take-done.ensures.value ∙ c.in-Some.ensures.done)

-- ---- a step

abbrev made : (c : goal.In_ok-make-in-Some) → Stepped c.args.m.now c.make.new.self c.args.w.now c.take.new.w
    c.args.fuel.now
    c.take.new.fuel (written c.args.lines.now) (written c.args.lines.now)
made c =
    let l = written c.args.lines.now in
    stepped-at c.acting_side-side.result c.args.m.now c.make.new.self c.args.w.now c.take.new.w c.args.fuel.now
    c.take.new.fuel l l c.pop.new.self.stack.items c.in-Some.top
    c.take-done.result c.in_ok-step-in-Some.step c.in-Some.ensures.popped c.in_ok-make-in-Some.ensures.is
    c.in_ok-make-in-Some.ensures.done c.in_ok-make-in-Some.ensures.now
    (c.take-done.ensures.value ∙ c.in-Some.ensures.done) c.in_ok-step-in-Some.ensures.enters
    (c.in_ok-step-in-Some.ensures.step l)

pub returns-clause-steps : goal.returns-clause-steps
returns-clause-steps c = made c

pub returns-clause-ready : goal.returns-clause-ready
returns-clause-ready c =
    step-ready c.args.m.now c.make.new.self c.args.w.now c.take.new.w c.args.fuel.now c.take.new.fuel
    (written c.args.lines.now) (written c.args.lines.now) (made c) c.requires.ready c.acting_side-side.result
    c.in_ok-step-in-Some.step refl c.take-done.result c.acting_side-side.ensures
    c.in_ok-step-in-Some.ensures.keeps

pub returns-clause-kept : goal.returns-clause-kept
returns-clause-kept c =
    step-kept c.args.m.now c.make.new.self c.args.w.now c.take.new.w c.args.fuel.now c.take.new.fuel
    (written c.args.lines.now) (written c.args.lines.now) (made c) c.requires.ready c.acting_side-side.result
    c.in_ok-step-in-Some.step refl c.take-done.result c.acting_side-side.ensures
    c.in_ok-step-in-Some.ensures.keeps

pub returns-clause-found : goal.returns-clause-found
returns-clause-found c = (c.in_ok-step-in-Some.ensures.keeps c.requires.ready.formed.sort).changed.found

-- ---- a halt of the step

pub returns-in_err-step-in-Some-clause-steps : goal.returns-in_err-step-in-Some-clause-steps
returns-in_err-step-in-Some-clause-steps c =
    let p = err_from_is_err_and c.from_residual.result c.from_residual.ensures.1 in
    let l = written c.args.lines.now in
    rw (p.1, p.2)
    (stopped-at c.acting_side-side.result c.in_err-step-in-Some.field-0.0 c.args.m.now _ c.args.w.now c.take.new.w
    c.args.fuel.now c.take.new.fuel l l c.pop.new.self.stack.items c.in-Some.top c.take-done.result
    c.in-Some.ensures.popped (c.take-done.ensures.value ∙ c.in-Some.ensures.done)
    (c.in_err-step-in-Some.ensures.step l))

pub returns-in_err-step-in-Some-clause-ready : goal.returns-in_err-step-in-Some-clause-ready
returns-in_err-step-in-Some-clause-ready c =
    let p = err_from_is_err_and c.from_residual.result c.from_residual.ensures.1 in
    rw p.1 (c.in_err-step-in-Some.ensures.keeps c.requires.ready.formed.sort).changed.ready

pub returns-in_err-step-in-Some-clause-kept : goal.returns-in_err-step-in-Some-clause-kept
returns-in_err-step-in-Some-clause-kept c =
    let m = c.args.m.now in
    let p = err_from_is_err_and c.from_residual.result c.from_residual.ensures.1 in
    rw p.1
    (halted-kept p.0 (Err c.in_err-step-in-Some.field-0.0) m m c.args.w.now c.take.new.w
    c.pop.new.self.stack.items c.in-Some.top c.acting_side-side.result c.take-done.result
    c.requires.ready.formed.sort c.requires.ready c.in-Some.ensures.popped c.acting_side-side.ensures
    (c.in_err-step-in-Some.ensures.keeps c.requires.ready.formed.sort))

pub returns-in_err-step-in-Some-clause-found : goal.returns-in_err-step-in-Some-clause-found
returns-in_err-step-in-Some-clause-found c =
    (c.in_err-step-in-Some.ensures.keeps c.requires.ready.formed.sort).changed.found

-- ---- no memory for the frames

pub returns-in_err-make-in-Some-clause-ready : goal.returns-in_err-make-in-Some-clause-ready
returns-in_err-make-in-Some-clause-ready c =
    let p = err_from_is_err_and c.from_residual-in_err-make-in-Some.result
    c.from_residual-in_err-make-in-Some.ensures.1 in
    rw p.1 (c.in_ok-step-in-Some.ensures.keeps c.requires.ready.formed.sort).changed.ready

pub returns-in_err-make-in-Some-clause-kept : goal.returns-in_err-make-in-Some-clause-kept
returns-in_err-make-in-Some-clause-kept c =
    let m = c.args.m.now in
    let p = err_from_is_err_and c.from_residual-in_err-make-in-Some.result
    c.from_residual-in_err-make-in-Some.ensures.1 in
    rw p.1
    (halted-kept p.0 (Ok c.in_ok-step-in-Some.step) m m c.args.w.now c.take.new.w c.pop.new.self.stack.items
    c.in-Some.top c.acting_side-side.result c.take-done.result c.requires.ready.formed.sort c.requires.ready
    c.in-Some.ensures.popped c.acting_side-side.ensures
    (c.in_ok-step-in-Some.ensures.keeps c.requires.ready.formed.sort))

pub returns-in_err-make-in-Some-clause-found : goal.returns-in_err-make-in-Some-clause-found
returns-in_err-make-in-Some-clause-found c =
    (c.in_ok-step-in-Some.ensures.keeps c.requires.ready.formed.sort).changed.found
