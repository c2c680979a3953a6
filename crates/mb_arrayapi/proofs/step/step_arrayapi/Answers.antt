use Rattle.std.proofs.Common.{◌∙◌, refl}
use Rattle.std.proofs.lemmas.Result.{err_from_is_err_and}
use Rattle.mb_arrayapi.proofs.Stepped.{handed, no-crossing, step-kept, step-ready}
use Rattle.mb_arrayapi.proofs.step.step_arrayapi.Goals as goal
use Rattle.mb_arrayapi.specs.Ours.{IsArrayFrame}
use Rattle.mb_frames.proofs.Steadying.{done-holds, halt-keeps, top-holds, top-home}
use Rattle.mb_frames.specs.Stepping.{written}
use Rattle.mb_frames.specs.declared.machine.Waiting.{Waiting}
use Rattle.mb_parts.proofs.TopFrames.{on-top, stepped, stopped}

-- ---- the frame on top

pub take-requires-clause-acts : goal.take-requires-clause-acts
take-requires-clause-acts c =
    let d = c.args.w.now in
    let m = c.args.m.now in
    let below = c.pop.new.self.stack.items in
    let top = c.in-Some.top in
    let h = c.requires.ready in
    let was = c.in-Some.ensures.popped in
    record { ready = h.world; side = top-home d m below top h was; holds = top-holds d m below top h was }

pub take-requires-clause-done : goal.take-requires-clause-done
take-requires-clause-done c =
    let d = c.args.w.now in
    let m = c.args.m.now in
    let below = c.pop.new.self.stack.items in
    let top = c.in-Some.top in
    let h = c.requires.ready in
    let was = c.in-Some.ensures.popped in
    let ours = on-top (λ (y : Waiting). IsArrayFrame y.frame) m.stack.items below top was c.requires.top in
    record {
      ready = h.world;
      side = top-home d m below top h was;
      holds = rw (c.take-done.ensures.value, c.in-Some.ensures.done)
          (done-holds d m below top h was (no-crossing top.frame ours));
    }

pub take-requires-clause-ours : goal.take-requires-clause-ours
take-requires-clause-ours c =
    on-top (λ (y : Waiting). IsArrayFrame y.frame) c.args.m.now.stack.items c.pop.new.self.stack.items
    c.in-Some.top c.in-Some.ensures.popped c.requires.top

pub take-requires-clause-handed : goal.take-requires-clause-handed
take-requires-clause-handed c =
    handed c.args.w.now c.args.m.now c.pop.new.self.stack.items c.in-Some.top c.take-done.result c.requires.ready
    c.in-Some.ensures.popped (c.take-done.ensures.value ∙ c.in-Some.ensures.done)

-- ---- a step

pub returns-clause-steps : goal.returns-clause-steps
returns-clause-steps c =
    stepped c.args.m.now c.make.new.self c.args.w.now c.take.new.w c.args.fuel.now c.take.new.fuel
    (written c.args.lines.now) c.pop.new.self.stack.items c.in-Some.top c.take-done.result c.in_ok-step-in-Some.step
    c.in-Some.ensures.popped c.in_ok-make-in-Some.ensures.is c.in_ok-make-in-Some.ensures.done
    c.in_ok-make-in-Some.ensures.now (c.take-done.ensures.value ∙ c.in-Some.ensures.done)
    c.in_ok-step-in-Some.ensures.puts_none (c.in_ok-step-in-Some.ensures.step (written c.args.lines.now))

pub returns-clause-ready : goal.returns-clause-ready
unfolding returns-clause-steps
returns-clause-ready c =
    step-ready c.args.m.now c.make.new.self c.args.w.now c.take.new.w c.args.fuel.now c.take.new.fuel
    (written c.args.lines.now) (written c.args.lines.now) (returns-clause-steps c) c.requires.ready
    c.in_ok-step-in-Some.step refl (c.in_ok-step-in-Some.ensures.keeps c.requires.ready.formed.sort)

pub returns-clause-kept : goal.returns-clause-kept
unfolding returns-clause-steps
returns-clause-kept c =
    step-kept c.args.m.now c.make.new.self c.args.w.now c.take.new.w c.args.fuel.now c.take.new.fuel
    (written c.args.lines.now) (written c.args.lines.now) (returns-clause-steps c) c.requires.ready
    c.in_ok-step-in-Some.step refl (c.in_ok-step-in-Some.ensures.keeps c.requires.ready.formed.sort)

pub returns-clause-found : goal.returns-clause-found
returns-clause-found c = (c.in_ok-step-in-Some.ensures.keeps c.requires.ready.formed.sort).changed.found

-- ---- a halt of the step

pub returns-in_err-step-in-Some-clause-steps : goal.returns-in_err-step-in-Some-clause-steps
returns-in_err-step-in-Some-clause-steps c =
    let p = err_from_is_err_and c.from_residual.result c.from_residual.ensures.1 in
    rw (p.1, p.2)
    (stopped c.in_err-step-in-Some.field-0.0 c.args.m.now _ c.args.w.now c.take.new.w c.args.fuel.now c.take.new.fuel
    (written c.args.lines.now) c.pop.new.self.stack.items c.in-Some.top c.take-done.result c.in-Some.ensures.popped
    (c.take-done.ensures.value ∙ c.in-Some.ensures.done)
    (c.in_err-step-in-Some.ensures.step (written c.args.lines.now)))

pub returns-in_err-step-in-Some-clause-ready : goal.returns-in_err-step-in-Some-clause-ready
returns-in_err-step-in-Some-clause-ready c =
    let p = err_from_is_err_and c.from_residual.result c.from_residual.ensures.1 in
    rw p.1 ((c.in_err-step-in-Some.ensures.keeps c.requires.ready.formed.sort).changed.ready)

pub returns-in_err-step-in-Some-clause-kept : goal.returns-in_err-step-in-Some-clause-kept
returns-in_err-step-in-Some-clause-kept c =
    let m = c.args.m.now in
    let p = err_from_is_err_and c.from_residual.result c.from_residual.ensures.1 in
    rw p.1
    (halt-keeps p.0 m m c.args.w.now c.take.new.w c.pop.new.self.stack.items c.in-Some.top
    c.in-Some.ensures.popped (c.in_err-step-in-Some.ensures.keeps c.requires.ready.formed.sort).changed)

pub returns-in_err-step-in-Some-clause-found : goal.returns-in_err-step-in-Some-clause-found
returns-in_err-step-in-Some-clause-found c =
    (c.in_err-step-in-Some.ensures.keeps c.requires.ready.formed.sort).changed.found

-- ---- no memory for the frames

pub returns-in_err-make-in-Some-clause-ready : goal.returns-in_err-make-in-Some-clause-ready
returns-in_err-make-in-Some-clause-ready c =
    let q = c.from_residual-in_err-make-in-Some in
    let p = err_from_is_err_and q.result q.ensures.1 in
    rw p.1 ((c.in_ok-step-in-Some.ensures.keeps c.requires.ready.formed.sort).changed.ready)

pub returns-in_err-make-in-Some-clause-kept : goal.returns-in_err-make-in-Some-clause-kept
returns-in_err-make-in-Some-clause-kept c =
    let m = c.args.m.now in
    let q = c.from_residual-in_err-make-in-Some in
    let p = err_from_is_err_and q.result q.ensures.1 in
    rw p.1
    (halt-keeps p.0 m m c.args.w.now c.take.new.w c.pop.new.self.stack.items c.in-Some.top
    c.in-Some.ensures.popped (c.in_ok-step-in-Some.ensures.keeps c.requires.ready.formed.sort).changed)

pub returns-in_err-make-in-Some-clause-found : goal.returns-in_err-make-in-Some-clause-found
returns-in_err-make-in-Some-clause-found c =
    (c.in_ok-step-in-Some.ensures.keeps c.requires.ready.formed.sort).changed.found
