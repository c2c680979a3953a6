use Rattle.std.proofs.Common.{refl}
use Rattle.mb_frames.proofs.Linking.{fits-same}
use Rattle.mb_frames.specs.Sorts.{absent_gives}
use Rattle.mb_frames.specs.declared.proxies.ProxyFrame.TheVariants as p
use Rattle.mb_frames.specs.declared.task.Method.TheVariants as m
use Rattle.mb_scriptproxy.proofs.Asking.{Sure-asks, leaves-asks}
use Rattle.mb_scriptproxy.proofs.absent.absent_said.Goals as goal

pub returns-clause-sure : goal.returns-clause-sure
returns-clause-sure c = λ d a.
    let h = a.holds in
    rw c.asks.ensures
    (Sure-asks c.args.home d (p.AbsentRead c.args.target c.args.absent) (m.GetOwnProperty c.args.key) c.args.target
    (h.0, tt) h _ (λ log. refl))

pub returns-clause-leaves : goal.returns-clause-leaves
returns-clause-leaves c = λ d a.
    let h = a.holds in
    rw c.asks.ensures
    (leaves-asks c.args.home d (p.AbsentRead c.args.target c.args.absent) (m.GetOwnProperty c.args.key) c.args.target
    (h.0, tt) h (absent_gives c.args.absent) refl (fits-same (absent_gives c.args.absent)))
