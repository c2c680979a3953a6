use Rattle.std.proofs.Common.{refl}
use Rattle.mb_frames.specs.Sorts.{AFlag}
use Rattle.mb_frames.specs.declared.proxies.ProxyFrame.TheVariants as p
use Rattle.mb_frames.specs.declared.task.Method.TheVariants as m
use Rattle.mb_scriptproxy.proofs.Asking.{Sure-asks, leaves-asks}
use Rattle.mb_scriptproxy.proofs.prototypes.set_prototype_said.Goals as goal

pub returns-then-said-clause-sure : goal.returns-then-said-clause-sure
returns-then-said-clause-sure c = λ d a.
    rw (c.if-said.true, c.asks.ensures)
    (Sure-asks c.args.home d (p.SetPrototypeExtensible c.args.target c.args.given) m.IsExtensible c.args.target a.holds
    (a.holds.0, tt) _ (λ log. refl))

pub returns-then-said-clause-leaves : goal.returns-then-said-clause-leaves
returns-then-said-clause-leaves c = λ d a.
    rw c.asks.ensures
    (leaves-asks c.args.home d (p.SetPrototypeExtensible c.args.target c.args.given) m.IsExtensible c.args.target
    a.holds (a.holds.0, tt) AFlag refl refl)

pub returns-else-said-clause-sure : goal.returns-else-said-clause-sure
returns-else-said-clause-sure c = λ d a. rw c.if-said.false (c.yes_or_no.ensures.sure c.args.home d)

pub returns-else-said-clause-leaves : goal.returns-else-said-clause-leaves
returns-else-said-clause-leaves c = λ d a. c.yes_or_no.ensures.leaves c.args.home d
