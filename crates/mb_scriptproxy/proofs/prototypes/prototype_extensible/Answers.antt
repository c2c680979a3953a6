use Rattle.std.proofs.Common.{refl}
use Rattle.mb_frames.proofs.HeldLess.{prototype-value}
use Rattle.mb_frames.specs.Sorts.{APrototype}
use Rattle.mb_frames.specs.declared.proxies.ProxyFrame.TheVariants as p
use Rattle.mb_frames.specs.declared.task.Method.TheVariants as m
use Rattle.mb_scriptproxy.proofs.Asking.{Sure-asks, leaves-asks}
use Rattle.mb_scriptproxy.proofs.prototypes.prototype_extensible.Goals as goal

pub returns-then-extensible-clause-sure : goal.returns-then-extensible-clause-sure
returns-then-extensible-clause-sure c = λ d a.
    rw c.if-extensible.true (c.gives.ensures.sure c.args.home d (a.holds.1.0.within, tt))

pub returns-then-extensible-clause-leaves : goal.returns-then-extensible-clause-leaves
returns-then-extensible-clause-leaves c = λ d a.
    c.gives.ensures.leaves c.args.home d APrototype a.holds.1.0.sound
    (prototype-value d c.args.home c.args.said a.holds.1.0, tt)

pub returns-else-extensible-clause-sure : goal.returns-else-extensible-clause-sure
returns-else-extensible-clause-sure c = λ d a.
    rw (c.if-extensible.false, c.asks.ensures)
    (Sure-asks c.args.home d (p.PrototypeRead c.args.said) m.GetPrototypeOf c.args.target a.holds.1
    (a.holds.0, tt) _ (λ log. refl))

pub returns-else-extensible-clause-leaves : goal.returns-else-extensible-clause-leaves
returns-else-extensible-clause-leaves c = λ d a.
    rw c.asks.ensures
    (leaves-asks c.args.home d (p.PrototypeRead c.args.said) m.GetPrototypeOf c.args.target a.holds.1 (a.holds.0, tt)
    APrototype refl refl)
