use Rattle.std.proofs.Common.{refl}
use Rattle.std.proofs.lemmas.Result.{err_from_is_err_and}
use Rattle.std.specs.Prelude.{[], ◌∷◌, true}
use Rattle.mb_base.specs.declared.value.Value.TheVariants as v
use Rattle.mb_frames.proofs.HeldLess.{key-held, object-value}
use Rattle.mb_frames.proofs.Keeping.{keeps-halted}
use Rattle.mb_frames.proofs.Leaving.{holds-in, holds-still}
use Rattle.mb_frames.proofs.Linking.{fits-same}
use Rattle.mb_frames.proofs.Readying.{changed-same}
use Rattle.mb_frames.specs.Held.{HeldObject}
use Rattle.mb_frames.specs.Holding.{proxy_held}
use Rattle.mb_frames.specs.Resolved.{method_in}
use Rattle.mb_frames.specs.Sorts.{method_gives}
use Rattle.mb_frames.specs.declared.proxies.ProxyFrame.TheVariants as p
use Rattle.mb_frames.specs.declared.task.Method.TheVariants as m
use Rattle.mb_frames.specs.declared.task.Task.TheVariants as task
use Rattle.mb_model.specs.Task as model
use Rattle.mb_model.specs.Trace.Ops.{op_of}
use Rattle.mb_model.specs.Writing.{perform}
use Rattle.mb_parts.proofs.Texting.{texts-changed}
use Rattle.mb_scriptproxy.proofs.Lookups.{Part-looks, looks-kept}
use Rattle.mb_scriptproxy.proofs.performing.look_up.Goals as goal
use Rattle.mb_world.proofs.Grow.{ObjIn-grows}
use Rattle.mb_world.specs.EntryLine.{op_name}
use Rattle.mb_world.specs.Image.{names_of, object_in}
use Rattle.mb_world.specs.Key.{Named}

pub returns-clause-part : goal.returns-clause-part
returns-clause-part c = λ f.
    let d = c.args.w.now in
    let d' = c.trap_key.new.w in
    let n = names_of d in
    let home = c.args.home in
    let t = c.in_ok-key.ensures.grew in
    let h = c.requires.acts.holds in
    let y = p.TrapGot c.args.asked c.args.target c.args.handler c.args.method in
    let name = Named (op_name (op_of (method_in n c.args.method))) in
    let o = object_in n c.args.handler in
    let there = ObjIn-grows d d' t.becomes.grows c.args.handler h.1.1.0.within in
    Part-looks home d d' f t y (holds-in d home (proxy_held y) h)
    (task.Perform (m.Get c.in_ok-key.key (v.Object c.args.handler)) c.args.handler home true)
    (perform home.0 (model.Get name o) o) _ (there, (c.in_ok-key.ensures.within, (there, tt)))
    (rw (c.in_ok-key.ensures.key n, t.becomes.grows.same_object c.args.handler h.1.1.0.within) refl) (λ log. refl)

pub returns-clause-keeps : goal.returns-clause-keeps
returns-clause-keeps c =
    let d = c.args.w.now in
    let d' = c.trap_key.new.w in
    let home = c.args.home in
    let a = c.requires.acts in
    let h = a.holds in
    let g = texts-changed home d d' c.in_ok-key.ensures.grew a.ready in
    let o = (holds-still home d d' a.ready g (HeldObject c.args.handler ∷ []) (h.1.1.0, tt)).0 in
    looks-kept home d d' (method_gives c.args.method)
    (p.TrapGot c.args.asked c.args.target c.args.handler c.args.method)
    (m.Get c.in_ok-key.key (v.Object c.args.handler)) c.args.handler refl (fits-same (method_gives c.args.method))
    a.ready g h
    (o, (key-held d' home c.in_ok-key.key c.in_ok-key.ensures.within, (object-value d' home c.args.handler o, tt)))

pub returns-in_err-key-clause-keeps : goal.returns-in_err-key-clause-keeps
returns-in_err-key-clause-keeps c =
    let d = c.args.w.now in
    let q = err_from_is_err_and c.from_residual.result c.from_residual.ensures.1 in
    rw (q.1, c.in_err-key.ensures.kept)
    (keeps-halted c.args.home (method_gives c.args.method) q.0 d d (changed-same c.args.home d c.requires.acts.ready))
