use Rattle.std.proofs.Common.{Some, ap, sym, ◌≡◌, ◌∙◌}
use Rattle.mb_frames.proofs.HeldLess.{undefined-held}
use Rattle.mb_frames.proofs.Keeping.{keeps-left}
use Rattle.mb_frames.specs.Sorts.{AValue}
use Rattle.mb_scriptproxy.proofs.Revoked.{changed-revoked, part-revoked}
use Rattle.mb_scriptproxy.proofs.revoking.revoke_proxy.Goals as goal
use Rattle.mb_world.specs.Data.{kind_stand}
use Rattle.mb_world.specs.declared.cell.Cell.{Cell}

pub set_kind-requires-clause-same : goal.set_kind-requires-clause-same
set_kind-requires-clause-same c = λ x e.
    let q : Some c.cell.result.now ≡ Some x = sym c.cell.ensures.value ∙ e in
    let p : c.cell.result.now ≡ x = cc in
    sym (ap (λ (z : Cell). kind_stand z.kind) (sym p) ∙ ap kind_stand c.in-Proxy.is)

pub returns-clause-part : goal.returns-clause-part
returns-clause-part c = λ home f a.
    let d = c.args.w.now in
    rw c.set_kind.ensures
    (part-revoked d a.ready c.args.proxy c.cell.result.now c.cell.ensures.value c.in-Proxy.target c.in-Proxy.handler
    c.in-Proxy.shape c.in-Proxy.is home c.gives.result f (c.gives.ensures.sure home _ (tt, tt)))

pub returns-clause-keeps : goal.returns-clause-keeps
returns-clause-keeps c = λ home a.
    let d = c.args.w.now in
    rw c.set_kind.ensures
    (keeps-left home AValue c.gives.result d _
    (changed-revoked d a.ready c.args.proxy c.cell.result.now c.cell.ensures.value c.in-Proxy.target c.in-Proxy.handler
    c.in-Proxy.shape c.in-Proxy.is home a.holds.0)
    (c.gives.ensures.leaves home _ AValue tt (undefined-held _ home, tt)))
