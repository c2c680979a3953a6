use Rattle.std.proofs.Common.{arith, ◌≡◌}
use Rattle.mb_scriptproxy.proofs.Places.{gives-value, other-place}
use Rattle.mb_scriptproxy.proofs.step.run.Goals as goal

pub returns-in-6-clause-part : goal.returns-in-6-clause-part
returns-in-6-clause-part c = λ this f. rw c.in-6.is (c.proxy_fn.ensures.part f)

pub returns-in-6-clause-keeps : goal.returns-in-6-clause-keeps
returns-in-6-clause-keeps c = rw c.in-6.is c.proxy_fn.ensures.keeps

pub returns-in_default-clause-part : goal.returns-in_default-clause-part
returns-in_default-clause-part c = λ this f.
    let n : c.args.place ≡ 6 → ⊥ = λ e. omega (arith, e) in
    rw (other-place c.args.place c.requires.ours n) (c.revocable.ensures.part f)

pub returns-in_default-clause-keeps : goal.returns-in_default-clause-keeps
returns-in_default-clause-keeps c =
    let n : c.args.place ≡ 6 → ⊥ = λ e. omega (arith, e) in
    rw (other-place c.args.place c.requires.ours n, gives-value c.args.target)
    c.revocable.ensures.keeps
