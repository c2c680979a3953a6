use Rattle.std.proofs.Common.{Ok, ap, subst, sym, ◌∙◌}
use Rattle.mb_base.specs.declared.value.Value.{Value}
use Rattle.mb_frames.proofs.HeldLess.{object-value, value-object}
use Rattle.mb_frames.proofs.Keeping.{keeps-left}
use Rattle.mb_frames.proofs.Passed.{Part-by}
use Rattle.mb_frames.specs.Held.{HeldValue}
use Rattle.mb_frames.specs.Ready.{MayHold}
use Rattle.mb_frames.specs.Resolved.{values_in}
use Rattle.mb_frames.specs.Sorts.{AnObject}
use Rattle.mb_model.specs.BuiltIns.Arguments.{arg}
use Rattle.mb_model.specs.BuiltIns.ProxyMaking.{proxy_create}
use Rattle.mb_model.specs.Meaning.{finished}
use Rattle.mb_model.specs.Writing.{◌>>=◌, is_value}
use Rattle.mb_scriptproxy.proofs.Creating.{Part-created, Part-unable, able-target, same-create}
use Rattle.mb_scriptproxy.proofs.making.construct_proxy.Goals as goal
use Rattle.mb_world.specs.Image.{Image, Resolve, names_of, object_in}

pub proxied-requires : goal.proxied-requires
proxied-requires c =
    let a = c.requires.acts in
    record {
      acts = record {
        ready = a.ready;
        side = a.side;
        holds = (
          c.argument.ensures.held c.args.w.now c.args.home a.holds.0,
          (c.argument-2.ensures.held c.args.w.now c.args.home a.holds.0, tt),
        );
      };
    }

pub new_proxy-requires-clause-acts : goal.new_proxy-requires-clause-acts
new_proxy-requires-clause-acts c =
    let d = c.args.w.now in
    let home = c.args.home in
    let a = c.requires.acts in
    let p = value-object d home c.in-Some.target
    (subst (λ (x : Value). MayHold d home (HeldValue x)) c.in-Some.ensures.target
    (c.argument.ensures.held d home a.holds.0)) in
    let q = value-object d home c.in-Some.handler
    (subst (λ (x : Value). MayHold d home (HeldValue x)) c.in-Some.ensures.handler
    (c.argument-2.ensures.held d home a.holds.0)) in
    record { ready = a.ready; side = a.side; holds = (p, (q, tt)) }

pub new_proxy-requires-clause-able : goal.new_proxy-requires-clause-able
new_proxy-requires-clause-able c = λ log.
    let d = c.args.w.now in
    able-target (Image d log) (names_of d) c.argument.result c.argument-2.result c.in-Some.target
    c.in-Some.ensures.target (c.in-Some.ensures.able log)

pub returns-in-None-clause-part : goal.returns-in-None-clause-part
returns-in-None-clause-part c = λ f.
    let d = c.args.w.now in
    let n = names_of d in
    let home = c.args.home in
    let s = home.0 in
    let vs = values_in n c.args.arguments.now in
    let x = Resolve n c.argument.result in
    let y = Resolve n c.argument-2.result in
    Part-by home c.type_error.result d c.type_error.new.w f f ((proxy_create s (arg vs 0) (arg vs 1) >>= is_value)
    finished)
    ((proxy_create s x y >>= is_value) finished)
    (λ log. same-create s (arg vs 0) x (arg vs 1) y (c.argument.ensures.means n) (c.argument-2.ensures.means n)
    (λ z. is_value z finished) (Image d log))
    (Part-unable home d c.argument.result c.argument-2.result c.type_error.result c.type_error.new.w f is_value
    (λ log. sym (c.in-None.ensures.able log)) (c.type_error.ensures.part f))

pub returns-in-None-clause-keeps : goal.returns-in-None-clause-keeps
returns-in-None-clause-keeps c = c.type_error.ensures.keeps AnObject

pub returns-in_ok-proxy-in-Some-clause-part : goal.returns-in_ok-proxy-in-Some-clause-part
returns-in_ok-proxy-in-Some-clause-part c = λ f.
    let d = c.args.w.now in
    let d' = c.new_proxy.new.w in
    let home = c.args.home in
    let id = c.in_ok-proxy-in-Some.proxy in
    let k = c.in_ok-proxy-in-Some.ensures.keeps in
    let n = names_of d in
    let s = home.0 in
    let vs = values_in n c.args.arguments.now in
    let x = object_in n c.in-Some.target in
    let y = object_in n c.in-Some.handler in
    let e = c.argument.ensures.means n ∙ ap (Resolve n) c.in-Some.ensures.target in
    let i = c.argument-2.ensures.means n ∙ ap (Resolve n) c.in-Some.ensures.handler in
    Part-by home (Ok c.gives.result) d d' f f ((proxy_create s (arg vs 0) (arg vs 1) >>= is_value) finished)
    ((proxy_create s x y >>= is_value) finished)
    (λ log. same-create s (arg vs 0) x (arg vs 1) y e i (λ z. is_value z finished) (Image d log))
    (Part-created home d d' x y id c.gives.result f c.in_ok-proxy-in-Some.ensures.makes
    (c.gives.ensures.sure home d' (k.holds.0.within, tt)))

pub returns-in_ok-proxy-in-Some-clause-keeps : goal.returns-in_ok-proxy-in-Some-clause-keeps
returns-in_ok-proxy-in-Some-clause-keeps c =
    let d' = c.new_proxy.new.w in
    let home = c.args.home in
    let k = c.in_ok-proxy-in-Some.ensures.keeps in
    keeps-left home AnObject c.gives.result c.args.w.now d' k.changed
    (c.gives.ensures.leaves home d' AnObject tt
    (object-value d' home c.in_ok-proxy-in-Some.proxy k.holds.0, tt))
