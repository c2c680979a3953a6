use Rattle.std.proofs.Common.{refl}
use Rattle.mb_frames.specs.Sorts.{SomeKeys}
use Rattle.mb_frames.specs.declared.proxies.ProxyFrame.TheVariants as p
use Rattle.mb_frames.specs.declared.task.Method.TheVariants as m
use Rattle.mb_scriptproxy.proofs.Asking.{Sure-asks, leaves-asks}
use Rattle.mb_scriptproxy.proofs.keys.keys_extensible.Goals as goal

pub returns-clause-sure : goal.returns-clause-sure
returns-clause-sure c = λ d a.
    rw c.asks.ensures
    (Sure-asks c.args.home d (p.KeysListed c.args.target c.args.said c.args.extensible) m.OwnPropertyKeys c.args.target
    a.holds (a.holds.0, tt) _ (λ log. refl))

pub returns-clause-leaves : goal.returns-clause-leaves
returns-clause-leaves c = λ d a.
    rw c.asks.ensures
    (leaves-asks c.args.home d (p.KeysListed c.args.target c.args.said c.args.extensible) m.OwnPropertyKeys
    c.args.target
    a.holds (a.holds.0, tt) SomeKeys refl refl)
