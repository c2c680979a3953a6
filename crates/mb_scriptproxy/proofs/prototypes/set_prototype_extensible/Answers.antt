use Rattle.std.proofs.Common.{refl}
use Rattle.mb_frames.specs.Sorts.{AFlag}
use Rattle.mb_frames.specs.declared.proxies.ProxyFrame.TheVariants as p
use Rattle.mb_frames.specs.declared.task.Method.TheVariants as m
use Rattle.mb_scriptproxy.proofs.Asking.{Sure-asks, leaves-asks}
use Rattle.mb_scriptproxy.proofs.prototypes.set_prototype_extensible.Goals as goal

pub returns-then-extensible-clause-sure : goal.returns-then-extensible-clause-sure
returns-then-extensible-clause-sure c = λ d a. rw c.if-extensible.true (c.yes_or_no.ensures.sure c.args.home d)

pub returns-then-extensible-clause-leaves : goal.returns-then-extensible-clause-leaves
returns-then-extensible-clause-leaves c = λ d a. c.yes_or_no.ensures.leaves c.args.home d

pub returns-else-extensible-clause-sure : goal.returns-else-extensible-clause-sure
returns-else-extensible-clause-sure c = λ d a.
    rw (c.if-extensible.false, c.asks.ensures)
    (Sure-asks c.args.home d (p.SetPrototypeRead c.args.given) m.GetPrototypeOf c.args.target a.holds.1
    (a.holds.0, tt) _ (λ log. refl))

pub returns-else-extensible-clause-leaves : goal.returns-else-extensible-clause-leaves
returns-else-extensible-clause-leaves c = λ d a.
    rw c.asks.ensures
    (leaves-asks c.args.home d (p.SetPrototypeRead c.args.given) m.GetPrototypeOf c.args.target a.holds.1
    (a.holds.0, tt) AFlag refl refl)
