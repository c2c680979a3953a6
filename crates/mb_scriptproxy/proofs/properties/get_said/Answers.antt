use Rattle.std.proofs.Common.{refl}
use Rattle.mb_frames.specs.Sorts.{AValue}
use Rattle.mb_frames.specs.declared.proxies.ProxyFrame.TheVariants as p
use Rattle.mb_frames.specs.declared.task.Method.TheVariants as m
use Rattle.mb_scriptproxy.proofs.Asking.{Sure-asks, leaves-asks}
use Rattle.mb_scriptproxy.proofs.properties.get_said.Goals as goal

pub returns-clause-sure : goal.returns-clause-sure
returns-clause-sure c = λ d a.
    let h = a.holds in
    rw c.asks.ensures
    (Sure-asks c.args.home d (p.GetRead c.args.said) (m.GetOwnProperty c.args.key) c.args.target h.1.1 (
      h.0,
      (
        h.1.0,
        tt,
      ),
    ) _ (λ log. refl))

pub returns-clause-leaves : goal.returns-clause-leaves
returns-clause-leaves c = λ d a.
    let h = a.holds in
    rw c.asks.ensures
    (leaves-asks c.args.home d (p.GetRead c.args.said) (m.GetOwnProperty c.args.key) c.args.target h.1.1 (
      h.0,
      (
        h.1.0,
        tt,
      ),
    ) AValue refl refl)
