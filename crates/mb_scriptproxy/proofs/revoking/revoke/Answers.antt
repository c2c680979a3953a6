use Rattle.std.proofs.Common.{Ok, []}
use Rattle.std.specs.Prelude.{◌∷◌}
use Rattle.mb_call.specs.Ours.{Acts}
use Rattle.mb_frames.proofs.HeldCells.{cell-held, reads-home}
use Rattle.mb_frames.proofs.Passed.{Part-by}
use Rattle.mb_frames.specs.Held.{HeldObject}
use Rattle.mb_model.specs.BuiltIns.ProxyMaking.{revoke_proxy}
use Rattle.mb_model.specs.Meaning.{finished}
use Rattle.mb_model.specs.Nodes.Functions.{enter_row}
use Rattle.mb_scriptproxy.proofs.Revoked.{entered-row}
use Rattle.mb_scriptproxy.proofs.revoking.revoke.Goals as goal
use Rattle.mb_world.proofs.Grow.{All-at}
use Rattle.mb_world.specs.Formed.{FormedCell}
use Rattle.mb_world.specs.Image.{names_of, number_at, object_in}

pub revoke_proxy-requires-clause-object : goal.revoke_proxy-requires-clause-object
revoke_proxy-requires-clause-object c = rw c.in-Revoker.is at c.cell.ensures.within.kind_in

pub revoke_proxy-requires-clause-proxy : goal.revoke_proxy-requires-clause-proxy
revoke_proxy-requires-clause-proxy c =
    let d = c.args.w.now in
    rw c.in-Revoker.is at
    (All-at (FormedCell d) d.cells c.args.function.0 c.cell.result.now c.cell.ensures.value
    c.requires.ready.formed.cells).kind

pub returns-clause-part : goal.returns-clause-part
returns-clause-part c = λ home this vs f a.
    let d = c.args.w.now in
    let n = names_of d in
    let cell = c.cell.result.now in
    let e = c.cell.ensures.value in
    let o = c.args.function in
    let proxy = c.in-Revoker.proxy in
    let k = rw c.in-Revoker.is at (cell-held d a.ready o cell e home (reads-home d home o cell a.holds.0 e)).kind in
    let i : Acts d home (HeldObject proxy ∷ []) = record { ready = a.ready; side = a.side; holds = (k, tt) } in
    Part-by home (Ok c.revoke_proxy.result) d c.revoke_proxy.new.w f f (enter_row (object_in n o) this vs finished)
    (revoke_proxy (number_at n proxy.0) finished)
    (entered-row d a.ready o cell e proxy c.in-Revoker.is this vs) (c.revoke_proxy.ensures.part home f i)

pub returns-clause-keeps : goal.returns-clause-keeps
returns-clause-keeps c = λ home a.
    let d = c.args.w.now in
    let cell = c.cell.result.now in
    let e = c.cell.ensures.value in
    let o = c.args.function in
    let k = rw c.in-Revoker.is at (cell-held d a.ready o cell e home (reads-home d home o cell a.holds.0 e)).kind in
    c.revoke_proxy.ensures.keeps home (record { ready = a.ready; side = a.side; holds = (k, tt) })
