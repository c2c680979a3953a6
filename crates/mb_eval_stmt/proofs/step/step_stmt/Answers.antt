use Rattle.std.proofs.Common.{◌∙◌, refl}
use Rattle.std.proofs.lemmas.Result.{err_from_is_err_and}
use Rattle.mb_frames.proofs.Forms.{ready-runs}
use Rattle.mb_frames.proofs.Steadying.{halt-keeps, top-home}
use Rattle.mb_frames.specs.Holding.{FrameIn}
use Rattle.mb_frames.specs.Stepping.{written}
use Rattle.mb_frames.specs.declared.machine.Waiting.{Waiting}
use Rattle.mb_eval_stmt.proofs.Steadying.{has-prototypes, step-kept, step-ready, taken}
use Rattle.mb_parts.proofs.TopFrames.{last-in, on-top, stepped, stopped}
use Rattle.mb_eval_stmt.specs.Ours.{IsStatementFrame}
use Rattle.mb_eval_stmt.proofs.step.step_stmt.Goals as goal

pub take-requires-clause-world : goal.take-requires-clause-world
take-requires-clause-world c =
    ready-runs c.args.w.now c.in-Some.top.home c.requires.ready.world
    (top-home c.args.w.now c.args.m.now c.pop.new.self.stack.items c.in-Some.top c.requires.ready
    c.in-Some.ensures.popped)

pub take-requires-clause-built_ins : goal.take-requires-clause-built_ins
take-requires-clause-built_ins c =
    has-prototypes c.args.w.now c.in-Some.top.home c.requires.ready.world
    (top-home c.args.w.now c.args.m.now c.pop.new.self.stack.items c.in-Some.top c.requires.ready
    c.in-Some.ensures.popped)

pub take-requires-clause-frame : goal.take-requires-clause-frame
take-requires-clause-frame c =
    last-in (λ (y : Waiting). FrameIn c.args.w.now y.frame) c.args.m.now.stack.items c.pop.new.self.stack.items
    c.in-Some.top
    c.in-Some.ensures.popped c.requires.ready.formed.ids.frames

pub take-requires-clause-done : goal.take-requires-clause-done
take-requires-clause-done c = rw (c.take-done.ensures.value, c.in-Some.ensures.done) c.requires.ready.formed.ids.done

pub take-requires-clause-ours : goal.take-requires-clause-ours
take-requires-clause-ours c =
    on-top (λ (y : Waiting). IsStatementFrame c.args.w.now y.home y.frame) c.args.m.now.stack.items
    c.pop.new.self.stack.items
    c.in-Some.top c.in-Some.ensures.popped c.requires.top

pub returns-in_err-step-in-Some-clause-steps : goal.returns-in_err-step-in-Some-clause-steps
returns-in_err-step-in-Some-clause-steps c =
    let p = err_from_is_err_and c.from_residual.result c.from_residual.ensures.1 in
    rw (p.1, p.2)
    (stopped c.in_err-step-in-Some.field-0.0 c.args.m.now _ c.args.w.now c.take.new.w c.args.fuel.now c.take.new.fuel
    (written c.args.lines.now) c.pop.new.self.stack.items c.in-Some.top c.take-done.result c.in-Some.ensures.popped
    (c.take-done.ensures.value ∙ c.in-Some.ensures.done) (c.in_err-step-in-Some.ensures.step
    (written c.args.lines.now)))

pub returns-in_err-step-in-Some-clause-ready : goal.returns-in_err-step-in-Some-clause-ready
returns-in_err-step-in-Some-clause-ready c =
    let d = c.args.w.now in
    let m = c.args.m.now in
    let below = c.pop.new.self.stack.items in
    let top = c.in-Some.top in
    let h = c.requires.ready in
    let was = c.in-Some.ensures.popped in
    let ended = c.take-done.ensures.value ∙ c.in-Some.ensures.done in
    let ours = on-top (λ (y : Waiting). IsStatementFrame d y.home y.frame) m.stack.items below top was c.requires.top in
    let k = c.in_err-step-in-Some.ensures.keeps h.world (top-home d m below top h was)
    (taken d m below top c.take-done.result h was ended ours) in
    let p = err_from_is_err_and c.from_residual.result c.from_residual.ensures.1 in
    rw p.1 k.changed.ready

pub returns-in_err-step-in-Some-clause-kept : goal.returns-in_err-step-in-Some-clause-kept
returns-in_err-step-in-Some-clause-kept c =
    let d = c.args.w.now in
    let m = c.args.m.now in
    let below = c.pop.new.self.stack.items in
    let top = c.in-Some.top in
    let h = c.requires.ready in
    let was = c.in-Some.ensures.popped in
    let ended = c.take-done.ensures.value ∙ c.in-Some.ensures.done in
    let ours = on-top (λ (y : Waiting). IsStatementFrame d y.home y.frame) m.stack.items below top was c.requires.top in
    let k = c.in_err-step-in-Some.ensures.keeps h.world (top-home d m below top h was)
    (taken d m below top c.take-done.result h was ended ours) in
    let p = err_from_is_err_and c.from_residual.result c.from_residual.ensures.1 in
    rw p.1 (halt-keeps p.0 m m d c.take.new.w below top was k.changed)

pub returns-in_err-make-in-Some-clause-ready : goal.returns-in_err-make-in-Some-clause-ready
returns-in_err-make-in-Some-clause-ready c =
    let d = c.args.w.now in
    let m = c.args.m.now in
    let below = c.pop.new.self.stack.items in
    let top = c.in-Some.top in
    let h = c.requires.ready in
    let was = c.in-Some.ensures.popped in
    let ended = c.take-done.ensures.value ∙ c.in-Some.ensures.done in
    let ours = on-top (λ (y : Waiting). IsStatementFrame d y.home y.frame) m.stack.items below top was c.requires.top in
    let k = c.in_ok-step-in-Some.ensures.keeps h.world (top-home d m below top h was)
    (taken d m below top c.take-done.result h was ended ours) in
    let p = err_from_is_err_and c.from_residual-in_err-make-in-Some.result
    c.from_residual-in_err-make-in-Some.ensures.1 in
    rw p.1 k.changed.ready

pub returns-in_err-make-in-Some-clause-kept : goal.returns-in_err-make-in-Some-clause-kept
returns-in_err-make-in-Some-clause-kept c =
    let d = c.args.w.now in
    let m = c.args.m.now in
    let below = c.pop.new.self.stack.items in
    let top = c.in-Some.top in
    let h = c.requires.ready in
    let was = c.in-Some.ensures.popped in
    let ended = c.take-done.ensures.value ∙ c.in-Some.ensures.done in
    let ours = on-top (λ (y : Waiting). IsStatementFrame d y.home y.frame) m.stack.items below top was c.requires.top in
    let k = c.in_ok-step-in-Some.ensures.keeps h.world (top-home d m below top h was)
    (taken d m below top c.take-done.result h was ended ours) in
    let p = err_from_is_err_and c.from_residual-in_err-make-in-Some.result
    c.from_residual-in_err-make-in-Some.ensures.1 in
    rw p.1 (halt-keeps p.0 m m d c.take.new.w below top was k.changed)

pub returns-clause-steps : goal.returns-clause-steps
returns-clause-steps c =
    stepped c.args.m.now c.make.new.self c.args.w.now c.take.new.w c.args.fuel.now c.take.new.fuel
    (written c.args.lines.now) c.pop.new.self.stack.items c.in-Some.top c.take-done.result c.in_ok-step-in-Some.step
    c.in-Some.ensures.popped c.in_ok-make-in-Some.ensures.is c.in_ok-make-in-Some.ensures.done
    c.in_ok-make-in-Some.ensures.now (c.take-done.ensures.value ∙ c.in-Some.ensures.done)
    c.in_ok-step-in-Some.ensures.puts_none (c.in_ok-step-in-Some.ensures.step (written c.args.lines.now))

pub returns-clause-ready : goal.returns-clause-ready
returns-clause-ready c =
    let d = c.args.w.now in
    let m = c.args.m.now in
    let below = c.pop.new.self.stack.items in
    let top = c.in-Some.top in
    let h = c.requires.ready in
    let was = c.in-Some.ensures.popped in
    let ended = c.take-done.ensures.value ∙ c.in-Some.ensures.done in
    let ours = on-top (λ (y : Waiting). IsStatementFrame d y.home y.frame) m.stack.items below top was c.requires.top in
    let k = c.in_ok-step-in-Some.ensures.keeps h.world (top-home d m below top h was)
    (taken d m below top c.take-done.result h was ended ours) in
    let q = stepped c.args.m.now c.make.new.self c.args.w.now c.take.new.w c.args.fuel.now c.take.new.fuel
    (written c.args.lines.now) c.pop.new.self.stack.items c.in-Some.top c.take-done.result c.in_ok-step-in-Some.step
    c.in-Some.ensures.popped c.in_ok-make-in-Some.ensures.is c.in_ok-make-in-Some.ensures.done
    c.in_ok-make-in-Some.ensures.now (c.take-done.ensures.value ∙ c.in-Some.ensures.done)
    c.in_ok-step-in-Some.ensures.puts_none (c.in_ok-step-in-Some.ensures.step (written c.args.lines.now)) in
    step-ready m c.make.new.self d c.take.new.w c.args.fuel.now c.take.new.fuel (written c.args.lines.now)
    (written c.args.lines.now) q h c.in_ok-step-in-Some.step refl ours k

pub returns-clause-kept : goal.returns-clause-kept
returns-clause-kept c =
    let d = c.args.w.now in
    let m = c.args.m.now in
    let below = c.pop.new.self.stack.items in
    let top = c.in-Some.top in
    let h = c.requires.ready in
    let was = c.in-Some.ensures.popped in
    let ended = c.take-done.ensures.value ∙ c.in-Some.ensures.done in
    let ours = on-top (λ (y : Waiting). IsStatementFrame d y.home y.frame) m.stack.items below top was c.requires.top in
    let k = c.in_ok-step-in-Some.ensures.keeps h.world (top-home d m below top h was)
    (taken d m below top c.take-done.result h was ended ours) in
    let q = stepped c.args.m.now c.make.new.self c.args.w.now c.take.new.w c.args.fuel.now c.take.new.fuel
    (written c.args.lines.now) c.pop.new.self.stack.items c.in-Some.top c.take-done.result c.in_ok-step-in-Some.step
    c.in-Some.ensures.popped c.in_ok-make-in-Some.ensures.is c.in_ok-make-in-Some.ensures.done
    c.in_ok-make-in-Some.ensures.now (c.take-done.ensures.value ∙ c.in-Some.ensures.done)
    c.in_ok-step-in-Some.ensures.puts_none (c.in_ok-step-in-Some.ensures.step (written c.args.lines.now)) in
    step-kept m c.make.new.self d c.take.new.w c.args.fuel.now c.take.new.fuel (written c.args.lines.now)
    (written c.args.lines.now) q h c.in_ok-step-in-Some.step refl ours k

pub returns-in_err-step-in-Some-clause-found : goal.returns-in_err-step-in-Some-clause-found
returns-in_err-step-in-Some-clause-found c =
    let d = c.args.w.now in
    let m = c.args.m.now in
    let below = c.pop.new.self.stack.items in
    let top = c.in-Some.top in
    let h = c.requires.ready in
    let was = c.in-Some.ensures.popped in
    let ended = c.take-done.ensures.value ∙ c.in-Some.ensures.done in
    let ours = on-top (λ (y : Waiting). IsStatementFrame d y.home y.frame) m.stack.items below top was c.requires.top in
    let k = c.in_err-step-in-Some.ensures.keeps h.world (top-home d m below top h was)
    (taken d m below top c.take-done.result h was ended ours) in
    k.changed.found

pub returns-in_err-make-in-Some-clause-found : goal.returns-in_err-make-in-Some-clause-found
returns-in_err-make-in-Some-clause-found c =
    let d = c.args.w.now in
    let m = c.args.m.now in
    let below = c.pop.new.self.stack.items in
    let top = c.in-Some.top in
    let h = c.requires.ready in
    let was = c.in-Some.ensures.popped in
    let ended = c.take-done.ensures.value ∙ c.in-Some.ensures.done in
    let ours = on-top (λ (y : Waiting). IsStatementFrame d y.home y.frame) m.stack.items below top was c.requires.top in
    let k = c.in_ok-step-in-Some.ensures.keeps h.world (top-home d m below top h was)
    (taken d m below top c.take-done.result h was ended ours) in
    k.changed.found

pub returns-clause-found : goal.returns-clause-found
returns-clause-found c =
    let d = c.args.w.now in
    let m = c.args.m.now in
    let below = c.pop.new.self.stack.items in
    let top = c.in-Some.top in
    let h = c.requires.ready in
    let was = c.in-Some.ensures.popped in
    let ended = c.take-done.ensures.value ∙ c.in-Some.ensures.done in
    let ours = on-top (λ (y : Waiting). IsStatementFrame d y.home y.frame) m.stack.items below top was c.requires.top in
    let k = c.in_ok-step-in-Some.ensures.keeps h.world (top-home d m below top h was)
    (taken d m below top c.take-done.result h was ended ours) in
    k.changed.found
