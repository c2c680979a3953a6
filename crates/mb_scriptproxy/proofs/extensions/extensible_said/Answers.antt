use Rattle.std.proofs.Common.{refl}
use Rattle.mb_frames.specs.Sorts.{AFlag}
use Rattle.mb_frames.specs.declared.proxies.ProxyFrame.TheVariants as p
use Rattle.mb_frames.specs.declared.task.Method.TheVariants as m
use Rattle.mb_scriptproxy.proofs.Asking.{Sure-asks, leaves-asks}
use Rattle.mb_scriptproxy.proofs.extensions.extensible_said.Goals as goal

pub returns-clause-sure : goal.returns-clause-sure
returns-clause-sure c = λ d a.
    rw c.asks.ensures
    (Sure-asks c.args.home d (p.ExtensibleRead c.args.said) m.IsExtensible c.args.target tt a.holds _ (λ log. refl))

pub returns-clause-leaves : goal.returns-clause-leaves
returns-clause-leaves c = λ d a.
    rw c.asks.ensures
    (leaves-asks c.args.home d (p.ExtensibleRead c.args.said) m.IsExtensible c.args.target tt a.holds AFlag refl refl)
