use Rattle.std.proofs.Common.{refl}
use Rattle.mb_frames.specs.Sorts.{AProperty}
use Rattle.mb_frames.specs.declared.proxies.ProxyFrame.TheVariants as p
use Rattle.mb_frames.specs.declared.task.Method.TheVariants as m
use Rattle.mb_scriptproxy.proofs.Asking.{Sure-asks, leaves-asks}
use Rattle.mb_scriptproxy.proofs.properties.own_read.Goals as goal

pub returns-clause-sure : goal.returns-clause-sure
returns-clause-sure c = λ d a.
    let h = a.holds in
    rw c.asks.ensures
    (Sure-asks c.args.home d (p.OwnExtensible c.args.said c.args.real) m.IsExtensible c.args.target h.1 (h.0, tt) _
    (λ log. refl))

pub returns-clause-leaves : goal.returns-clause-leaves
returns-clause-leaves c = λ d a.
    let h = a.holds in
    rw c.asks.ensures
    (leaves-asks c.args.home d (p.OwnExtensible c.args.said c.args.real) m.IsExtensible c.args.target h.1 (h.0, tt)
    AProperty refl refl)
