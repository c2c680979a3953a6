use Rattle.std.proofs.Common.{Ok, ap, subst, sym, ◌∙◌}
use Rattle.std.proofs.lemmas.Result.{err_from_is_err_and}
use Rattle.std.specs.Prelude.{[], ◌∷◌}
use Rattle.mb_base.specs.declared.value.Value.{Value}
use Rattle.mb_frames.proofs.HeldLess.{object-value, value-object}
use Rattle.mb_frames.proofs.Keeping.{inside-still, keeps-halted, keeps-left}
use Rattle.mb_frames.proofs.Leaving.{holds-still}
use Rattle.mb_frames.proofs.Passed.{Part-by}
use Rattle.mb_frames.proofs.Readying.{changed-then}
use Rattle.mb_frames.specs.Held.{HeldObject, HeldValue}
use Rattle.mb_frames.specs.Ready.{MayHold}
use Rattle.mb_frames.specs.Resolved.{values_in}
use Rattle.mb_frames.specs.Sorts.{AValue}
use Rattle.mb_model.specs.BuiltIns.Arguments.{arg}
use Rattle.mb_model.specs.BuiltIns.ProxyMaking.{proxy_create}
use Rattle.mb_model.specs.Meaning.{finished}
use Rattle.mb_model.specs.Writing.{◌>>=◌}
use Rattle.mb_scriptproxy.proofs.Creating.{Part-unable, able-target, same-create}
use Rattle.mb_scriptproxy.proofs.Pairs.{Part-pair, with_revoker}
use Rattle.mb_scriptproxy.proofs.making.revocable.Goals as goal
use Rattle.mb_world.specs.Image.{Image, Resolve, names_of, object_in}

pub proxied-requires : goal.proxied-requires
proxied-requires c =
    let a = c.requires.acts in
    record {
      acts = record {
        ready = a.ready;
        side = a.side;
        holds = (
          c.argument.ensures.held c.args.w.now c.args.home a.holds.0,
          (c.argument-2.ensures.held c.args.w.now c.args.home a.holds.0, tt),
        );
      };
    }

pub new_proxy-requires-clause-acts : goal.new_proxy-requires-clause-acts
new_proxy-requires-clause-acts c =
    let d = c.args.w.now in
    let home = c.args.home in
    let a = c.requires.acts in
    let p = value-object d home c.in-Some.target
    (subst (λ (x : Value). MayHold d home (HeldValue x)) c.in-Some.ensures.target
    (c.argument.ensures.held d home a.holds.0)) in
    let q = value-object d home c.in-Some.handler
    (subst (λ (x : Value). MayHold d home (HeldValue x)) c.in-Some.ensures.handler
    (c.argument-2.ensures.held d home a.holds.0)) in
    record { ready = a.ready; side = a.side; holds = (p, (q, tt)) }

pub new_proxy-requires-clause-able : goal.new_proxy-requires-clause-able
new_proxy-requires-clause-able c = λ log.
    let d = c.args.w.now in
    able-target (Image d log) (names_of d) c.argument.result c.argument-2.result c.in-Some.target
    c.in-Some.ensures.target (c.in-Some.ensures.able log)

pub returns-in-None-clause-part : goal.returns-in-None-clause-part
returns-in-None-clause-part c = λ f.
    let d = c.args.w.now in
    let n = names_of d in
    let home = c.args.home in
    let s = home.0 in
    let vs = values_in n c.args.arguments.now in
    let x = Resolve n c.argument.result in
    let y = Resolve n c.argument-2.result in
    Part-by home c.type_error.result d c.type_error.new.w f f ((proxy_create s (arg vs 0) (arg vs 1) >>= with_revoker
    s) finished)
    ((proxy_create s x y >>= with_revoker s) finished)
    (λ log. same-create s (arg vs 0) x (arg vs 1) y (c.argument.ensures.means n) (c.argument-2.ensures.means n)
    (λ z. with_revoker s z finished) (Image d log))
    (Part-unable home d c.argument.result c.argument-2.result c.type_error.result c.type_error.new.w f (with_revoker s)
    (λ log. sym (c.in-None.ensures.able log)) (c.type_error.ensures.part f))

pub returns-in-None-clause-keeps : goal.returns-in-None-clause-keeps
returns-in-None-clause-keeps c = c.type_error.ensures.keeps AValue

-- ---- the function that revokes it

pub new_revoker-requires-clause-acts : goal.new_revoker-requires-clause-acts
new_revoker-requires-clause-acts c =
    let k = c.in_ok-proxy-in-Some.ensures.keeps in
    record {
      ready = k.changed.ready;
      side = inside-still c.args.home c.args.w.now c.new_proxy.new.w k.changed c.requires.acts.side;
      holds = k.holds;
    }

pub returns-in_err-revoker-in-Some-clause-keeps : goal.returns-in_err-revoker-in-Some-clause-keeps
returns-in_err-revoker-in-Some-clause-keeps c =
    let d = c.args.w.now in
    let d2 = c.new_revoker.new.w in
    let home = c.args.home in
    let q = err_from_is_err_and c.from_residual-in_err-revoker-in-Some.result
    c.from_residual-in_err-revoker-in-Some.ensures.1 in
    rw q.1
    (keeps-halted home AValue q.0 d d2
    (changed-then home d c.new_proxy.new.w d2 c.in_ok-proxy-in-Some.ensures.keeps.changed
    c.in_err-revoker-in-Some.ensures.keeps.changed))

-- ---- the object with both

pub proxy_and_revoker-requires : goal.proxy_and_revoker-requires
proxy_and_revoker-requires c =
    let d = c.args.w.now in
    let d1 = c.new_proxy.new.w in
    let d2 = c.new_revoker.new.w in
    let home = c.args.home in
    let k = c.in_ok-proxy-in-Some.ensures.keeps in
    let l = c.in_ok-revoker-in-Some.ensures.keeps in
    let h = holds-still home d1 d2 k.changed.ready l.changed (HeldObject c.in_ok-proxy-in-Some.proxy ∷ []) k.holds in
    record {
      acts = record {
        ready = l.changed.ready;
        side = inside-still home d1 d2 l.changed (inside-still home d d1 k.changed c.requires.acts.side);
        holds = (h.0, l.holds);
      };
    }

pub returns-in_err-pair-in-Some-clause-keeps : goal.returns-in_err-pair-in-Some-clause-keeps
returns-in_err-pair-in-Some-clause-keeps c =
    let d = c.args.w.now in
    let d2 = c.new_revoker.new.w in
    let d3 = c.proxy_and_revoker.new.w in
    let home = c.args.home in
    let q = err_from_is_err_and c.from_residual-in_err-pair-in-Some.result
    c.from_residual-in_err-pair-in-Some.ensures.1 in
    rw q.1
    (keeps-halted home AValue q.0 d d3
    (changed-then home d d2 d3
    (changed-then home d c.new_proxy.new.w d2 c.in_ok-proxy-in-Some.ensures.keeps.changed
    c.in_ok-revoker-in-Some.ensures.keeps.changed)
    c.in_err-pair-in-Some.ensures.keeps.changed))

pub returns-in_ok-pair-in-Some-clause-part : goal.returns-in_ok-pair-in-Some-clause-part
returns-in_ok-pair-in-Some-clause-part c = λ f.
    let d = c.args.w.now in
    let d1 = c.new_proxy.new.w in
    let d2 = c.new_revoker.new.w in
    let d3 = c.proxy_and_revoker.new.w in
    let home = c.args.home in
    let proxy = c.in_ok-proxy-in-Some.proxy in
    let k = c.in_ok-proxy-in-Some.ensures.keeps in
    let l = c.in_ok-pair-in-Some.ensures.keeps in
    let n = names_of d in
    let s = home.0 in
    let vs = values_in n c.args.arguments.now in
    let x = object_in n c.in-Some.target in
    let y = object_in n c.in-Some.handler in
    let e = c.argument.ensures.means n ∙ ap (Resolve n) c.in-Some.ensures.target in
    let i = c.argument-2.ensures.means n ∙ ap (Resolve n) c.in-Some.ensures.handler in
    Part-by home (Ok c.gives.result) d d3 f f ((proxy_create s (arg vs 0) (arg vs 1) >>= with_revoker s) finished)
    ((proxy_create s x y >>= with_revoker s) finished)
    (λ log. same-create s (arg vs 0) x (arg vs 1) y e i (λ z. with_revoker s z finished) (Image d log))
    (Part-pair home d d1 d2 d3 x y proxy c.in_ok-revoker-in-Some.revoker c.in_ok-pair-in-Some.pair c.gives.result f
    k.holds.0.within c.in_ok-proxy-in-Some.ensures.makes c.in_ok-revoker-in-Some.ensures.makes
    c.in_ok-pair-in-Some.ensures.makes (c.gives.ensures.sure home d3 (l.holds.0.within, tt)))

pub returns-in_ok-pair-in-Some-clause-keeps : goal.returns-in_ok-pair-in-Some-clause-keeps
returns-in_ok-pair-in-Some-clause-keeps c =
    let d = c.args.w.now in
    let d2 = c.new_revoker.new.w in
    let d3 = c.proxy_and_revoker.new.w in
    let home = c.args.home in
    let l = c.in_ok-pair-in-Some.ensures.keeps in
    keeps-left home AValue c.gives.result d d3
    (changed-then home d d2 d3
    (changed-then home d c.new_proxy.new.w d2 c.in_ok-proxy-in-Some.ensures.keeps.changed
    c.in_ok-revoker-in-Some.ensures.keeps.changed) l.changed)
    (c.gives.ensures.leaves home d3 AValue tt (object-value d3 home c.in_ok-pair-in-Some.pair l.holds.0, tt))
