use Rattle.std.proofs.Common.{refl, true, ◌∷◌}
use Rattle.std.proofs.lemmas.Result.{err_from_is_err_and}
use Rattle.std.specs.Prelude.{[]}
use Rattle.mb_base.specs.declared.value.Value.TheVariants as v
use Rattle.mb_frames.proofs.HeldLess.{object-value}
use Rattle.mb_frames.proofs.Keeping.{keeps-halted}
use Rattle.mb_frames.proofs.Leaving.{holds-in, holds-still}
use Rattle.mb_frames.proofs.Linking.{fits-same}
use Rattle.mb_frames.specs.Held.{HeldObject}
use Rattle.mb_frames.specs.Holding.{method_held, task_held}
use Rattle.mb_frames.specs.Sorts.{method_gives}
use Rattle.mb_frames.specs.declared.proxies.ProxyFrame.TheVariants as p
use Rattle.mb_frames.specs.declared.task.Method.TheVariants as m
use Rattle.mb_frames.specs.declared.task.Task.TheVariants as task
use Rattle.mb_scriptproxy.proofs.Lookups.{looks-kept}
use Rattle.mb_scriptproxy.proofs.Trapped.{Part-calls}
use Rattle.mb_scriptproxy.proofs.traps.trapped.Goals as goal

pub trap_arguments-requires : goal.trap_arguments-requires
trap_arguments-requires c =
    let a = c.requires.acts in
    record { acts = record { ready = a.ready; side = a.side; holds = a.holds.1.1 } }

pub returns-clause-part : goal.returns-clause-part
returns-clause-part c = λ f.
    let d = c.args.w.now in
    let d' = c.trap_arguments.new.w in
    let home = c.args.home in
    let a = c.requires.acts in
    let list = c.in_ok-arguments.arguments in
    let k = c.in_ok-arguments.ensures.keeps in
    let h = holds-still home d d' a.ready k.changed (HeldObject c.args.trap ∷ HeldObject c.args.handler ∷ [])
    (a.holds.0, (a.holds.1.0, tt)) in
    rw c.calls.ensures
    (Part-calls home d d' c.args.target c.args.handler c.args.trap c.args.method list c.in_ok-arguments.ensures.gives
    (holds-in d home (HeldObject c.args.trap ∷ HeldObject c.args.handler ∷ HeldObject c.args.target ∷
    method_held c.args.target c.args.method) a.holds)
    (holds-in d' home (task_held (task.Perform (m.Call (v.Object c.args.handler) list) c.args.trap home true))
    (h.0, (object-value d' home c.args.handler h.1.0, (k.holds.0, tt)))) f)

pub returns-clause-keeps : goal.returns-clause-keeps
returns-clause-keeps c =
    let d = c.args.w.now in
    let d' = c.trap_arguments.new.w in
    let home = c.args.home in
    let a = c.requires.acts in
    let list = c.in_ok-arguments.arguments in
    let k = c.in_ok-arguments.ensures.keeps in
    let h = holds-still home d d' a.ready k.changed (HeldObject c.args.trap ∷ HeldObject c.args.handler ∷ [])
    (a.holds.0, (a.holds.1.0, tt)) in
    rw c.calls.ensures
    (looks-kept home d d' (method_gives c.args.method) (p.Said c.args.target c.args.method)
    (m.Call (v.Object c.args.handler) list) c.args.trap refl (fits-same (method_gives c.args.method)) a.ready k.changed
    a.holds.1.1 (h.0, (object-value d' home c.args.handler h.1.0, (k.holds.0, tt))))

pub returns-in_err-arguments-clause-keeps : goal.returns-in_err-arguments-clause-keeps
returns-in_err-arguments-clause-keeps c =
    let d = c.args.w.now in
    let q = err_from_is_err_and c.from_residual.result c.from_residual.ensures.1 in
    rw q.1
    (keeps-halted c.args.home (method_gives c.args.method) q.0 d c.trap_arguments.new.w
    c.in_err-arguments.ensures.keeps.changed)
