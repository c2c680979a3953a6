use Rattle.std.proofs.Common.{[], refl, true, ◌∷◌, ◌≡◌}
use Rattle.std.proofs.lemmas.List.Elements.{All-cons, All-nil}
use Rattle.mb_call.proofs.Looking.{part-sure}
use Rattle.mb_call.proofs.writing.call_setter.Goals as goal
use Rattle.mb_frames.proofs.Steps.{Sure-wait}
use Rattle.mb_frames.specs.declared.calls.CallFrame.TheVariants as y
use Rattle.mb_frames.specs.declared.frame.Frame.TheVariants as x
use Rattle.mb_frames.specs.declared.task.Method.TheVariants as m
use Rattle.mb_frames.specs.declared.task.Task.TheVariants as t
use Rattle.mb_model.specs.Objects.Methods.{call_setter}
use Rattle.mb_world.specs.Ids.{ValueIn}
use Rattle.mb_world.specs.Image.{Resolve, names_of, object_in}

pub returns-clause-part : goal.returns-clause-part
returns-clause-part c = λ f.
    let d = c.args.w.now in
    let n = names_of d in
    let home = c.args.home in
    let h = c.requires.acts.holds in
    let e : c.asks.result ≡ t.Perform (m.Call c.args.receiver (c.args.x ∷ [])) c.args.setter home true
    = rw (c.in_ok-push.ensures.pushed, c.new-arguments.ensures) at c.asks.ensures in
    rw e
    (part-sure d home _ (call_setter home.0 (Resolve n c.args.receiver) (Resolve n c.args.x)
    (object_in n c.args.setter))
    (Sure-wait home d (x.Call y.SetterCalled)
    (t.Perform (m.Call c.args.receiver (c.args.x ∷ [])) c.args.setter home true)
    _ _ (λ log. refl) tt (λ q g. refl)
    (h.1.1.0.within, (h.0.within, (All-cons (ValueIn d) c.args.x [] h.1.0.within (All-nil (ValueIn d)), tt)))) f)
