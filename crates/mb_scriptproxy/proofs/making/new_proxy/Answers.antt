use Rattle.std.proofs.Common.{[], None, Some, arith, refl}
use Rattle.std.proofs.lemmas.Result.{err_from_is_err_and}
use Rattle.mb_base.specs.declared.value.Value.TheVariants as v
use Rattle.mb_frames.proofs.HeldAs.{made-there}
use Rattle.mb_frames.proofs.Readying.{changed-same}
use Rattle.mb_scriptproxy.proofs.Creating.{created, proxy-made}
use Rattle.mb_scriptproxy.proofs.Standing.{Stands, stands-held, stands-made}
use Rattle.mb_scriptproxy.proofs.making.new_proxy.Goals as goal
use Rattle.mb_scriptproxy.proofs.making.new_proxy.Goals.{In_ok-proxy}
use Rattle.mb_world.specs.Graph.{Proxy}
use Rattle.mb_world.specs.Image.{names_of, object_in}
use Rattle.mb_world.specs.Objects.{new_thing}
use Rattle.mb_world.specs.Value.{Null}
use Rattle.mb_world.specs.declared.cell.CellKind.TheVariants as kind

-- the Proxy stands last
stands : (c : In_ok-proxy) → Stands c.args.w.now c.make.new.self c.args.home c.in_ok-proxy.proxy
    (new_thing c.args.home.0 None (Proxy (object_in (names_of c.args.w.now) c.args.target)
    (object_in (names_of c.args.w.now) c.args.handler) c.shape_of.result) Null)
stands c =
    let d = c.args.w.now in
    let a = c.requires.acts in
    stands-made d c.make.new.self c.args.home
    (kind.Proxy (Some c.args.target) (Some c.args.handler) c.shape_of.result) v.Null c.in_ok-proxy.proxy a.ready a.side
    refl refl
    (proxy-made d c.args.home c.args.target c.args.handler c.shape_of.result a.holds.0 a.holds.1.0
    (c.requires.able []) (c.shape_of.ensures [])) c.in_ok-proxy.ensures.made c.in_ok-proxy.ensures.id

pub shape_of-requires : goal.shape_of-requires
shape_of-requires c =
    let a = c.requires.acts in
    record {
      acts = record { ready = a.ready; side = a.side; holds = (a.holds.0, tt) };
      able = c.requires.able;
    }

pub make-requires-clause-home : goal.make-requires-clause-home
make-requires-clause-home c = omega (arith, c.requires.acts.side, c.requires.acts.ready.formed.sides.1)

pub make-requires-clause-kind : goal.make-requires-clause-kind
make-requires-clause-kind c = (c.requires.acts.holds.0.within, c.requires.acts.holds.1.0.within)

pub returns-clause-makes : goal.returns-clause-makes
returns-clause-makes c =
    created c.args.w.now c.make.new.self c.args.home c.args.target c.args.handler c.shape_of.result
    c.in_ok-proxy.proxy c.requires.able c.shape_of.ensures (stands c).last

pub returns-clause-keeps : goal.returns-clause-keeps
returns-clause-keeps c =
    let s = stands c in
    record {
      changed = s.changed;
      holds = (stands-held c.args.w.now c.make.new.self c.args.home c.in_ok-proxy.proxy _ s, tt);
    }

pub returns-clause-proxy : goal.returns-clause-proxy
returns-clause-proxy c =
    let d = c.args.w.now in
    let y = kind.Proxy (Some c.args.target) (Some c.args.handler) c.shape_of.result in
    rw (
      c.in_ok-proxy.ensures.made,
      made-there d c.args.home y v.Null None c.in_ok-proxy.proxy c.in_ok-proxy.ensures.id,
    ) tt

pub returns-in_err-proxy-clause-keeps : goal.returns-in_err-proxy-clause-keeps
returns-in_err-proxy-clause-keeps c =
    let p = err_from_is_err_and c.from_residual.result c.from_residual.ensures.1 in
    rw (p.1, c.in_err-proxy.ensures.kept)
    (record { changed = changed-same c.args.home c.args.w.now c.requires.acts.ready; holds = tt })
