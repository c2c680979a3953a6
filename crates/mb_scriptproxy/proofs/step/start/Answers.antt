use Rattle.std.proofs.Common.{Ok, ◌≡◌, ◌∷◌, [], subst, sym}
use Rattle.mb_base.specs.declared.value.Side.{Side}
use Rattle.mb_call.specs.Ours.{Acts}
use Rattle.mb_frames.proofs.Changing.{there}
use Rattle.mb_frames.proofs.HeldLess.{function-object}
use Rattle.mb_frames.proofs.Passed.{Part-by}
use Rattle.mb_frames.specs.Held.{HeldObject}
use Rattle.mb_frames.specs.Passing.{Part}
use Rattle.mb_frames.specs.Ready.{KeepsBy}
use Rattle.mb_frames.specs.Resolved.{task_in}
use Rattle.mb_frames.specs.Sorts.{AValue, run_gives}
use Rattle.mb_frames.specs.declared.task.Task.TheVariants as t
use Rattle.mb_model.specs.Meaning.{row}
use Rattle.mb_scriptproxy.proofs.Methods.{performed-row}
use Rattle.mb_scriptproxy.proofs.step.start.Goals as goal
use Rattle.mb_world.specs.Image.{Resolve, names_of}
use Rattle.mb_world.specs.Intrinsics.{intrinsic}
use Rattle.mb_world.specs.Objects.{intrinsic_is}
use Rattle.mb_world.specs.Standard.{constructs}

pub perform-requires-clause-acts : goal.perform-requires-clause-acts
perform-requires-clause-acts c = rw c.in-Perform.is at c.requires.acts

pub perform-requires-clause-proxy : goal.perform-requires-clause-proxy
perform-requires-clause-proxy c = rw c.in-Perform.is at c.requires.ours

pub perform-requires-clause-side : goal.perform-requires-clause-side
perform-requires-clause-side c = rw c.in-Perform.is at c.requires.side

pub returns-in-Perform-clause-part : goal.returns-in-Perform-clause-part
returns-in-Perform-clause-part c = λ f.
    let d = c.args.w.now in
    let home = c.args.home in
    let a = rw c.in-Perform.is at c.requires.acts in
    let k = there d c.in-Perform.object a.holds.0.within in
    let q = rw c.in-Perform.is at c.requires.ours in
    rw c.in-Perform.is
    (Part-by c.args.side c.perform.result d c.perform.new.w f f
    (row (task_in (names_of d) home.0
    (t.Perform c.in-Perform.method c.in-Perform.object c.in-Perform.viewer c.in-Perform.enters))) _
    (performed-row d a.ready home c.in-Perform.object a.holds.0 k.0 k.1 (rw k.1 at q) c.in-Perform.method
    c.in-Perform.viewer c.in-Perform.enters (rw c.in-Perform.is at c.requires.free))
    (c.perform.ensures.part f))

pub returns-in-Perform-clause-keeps : goal.returns-in-Perform-clause-keeps
returns-in-Perform-clause-keeps c = rw c.in-Perform.is c.perform.ensures.keeps

pub run-requires-clause-acts : goal.run-requires-clause-acts
run-requires-clause-acts c =
    let a = rw c.in-Run.is at c.requires.acts in
    record { ready = a.ready; side = a.side; holds = (a.holds.1.1.0, tt) }

pub run-requires-clause-ours : goal.run-requires-clause-ours
run-requires-clause-ours c = rw c.in-Run.is at c.requires.ours

pub returns-in-Run-clause-part : goal.returns-in-Run-clause-part
returns-in-Run-clause-part c = λ f.
    let d = c.args.w.now in
    let y = t.Run c.in-Run.place c.in-Run.this c.in-Run.arguments c.in-Run.target in
    let s : c.args.side ≡ c.args.home = rw c.in-Run.is at c.requires.side in
    rw c.in-Run.is
    (subst (λ (z : Side). Part z c.run.result d c.run.new.w f f (row (task_in (names_of d) c.args.home.0 y))) (sym s)
    (c.run.ensures.part (Resolve (names_of d) c.in-Run.this) f))

pub returns-in-Run-clause-keeps : goal.returns-in-Run-clause-keeps
returns-in-Run-clause-keeps c =
    let s : c.args.side ≡ c.args.home = rw c.in-Run.is at c.requires.side in
    rw c.in-Run.is
    (subst (λ (z : Side). KeepsBy z
    (run_gives c.in-Run.target (intrinsic_is constructs (intrinsic c.in-Run.place))) c.run.result c.args.w.now
    c.run.new.w) (sym s) c.run.ensures.keeps)

pub revoke-requires-clause-object : goal.revoke-requires-clause-object
revoke-requires-clause-object c = (rw c.in-Enter.is at c.requires.acts.holds).1.1.1.0.within

pub revoke-requires-clause-revoker : goal.revoke-requires-clause-revoker
revoke-requires-clause-revoker c = rw c.in-Enter.is at c.requires.ours

pub returns-in-Enter-clause-part : goal.returns-in-Enter-clause-part
returns-in-Enter-clause-part c = λ f.
    let d = c.args.w.now in
    let n = names_of d in
    let home = c.args.home in
    let y = t.Enter c.in-Enter.function c.in-Enter.this c.in-Enter.arguments in
    let a = rw c.in-Enter.is at c.requires.acts in
    let s : c.args.side ≡ home = rw c.in-Enter.is at c.requires.side in
    let i : Acts d home (HeldObject c.in-Enter.function ∷ []) = record {
      ready = a.ready;
      side = a.side;
      holds = (function-object d home c.in-Enter.function a.holds.1.1.1.0, tt);
    } in
    rw c.in-Enter.is
    (subst (λ (z : Side). Part z (Ok c.revoke.result) d c.revoke.new.w f f (row (task_in n home.0 y))) (sym s)
    (c.revoke.ensures.part home (Resolve n c.in-Enter.this) _ f i))

pub returns-in-Enter-clause-keeps : goal.returns-in-Enter-clause-keeps
returns-in-Enter-clause-keeps c =
    let d = c.args.w.now in
    let home = c.args.home in
    let a = rw c.in-Enter.is at c.requires.acts in
    let s : c.args.side ≡ home = rw c.in-Enter.is at c.requires.side in
    let i : Acts d home (HeldObject c.in-Enter.function ∷ []) = record {
      ready = a.ready;
      side = a.side;
      holds = (function-object d home c.in-Enter.function a.holds.1.1.1.0, tt);
    } in
    rw c.in-Enter.is
    (subst (λ (z : Side). KeepsBy z AValue (Ok c.revoke.result) d c.revoke.new.w) (sym s)
    (c.revoke.ensures.keeps home i))
