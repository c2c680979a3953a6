use Rattle.std.proofs.Common.{◌≡◌, ◌∙◌, ap, sym, Some, cond}
use Rattle.std.specs.Map.{lookup}
use Rattle.mb_policy.specs.machine.Chains.{name_of}
use Rattle.mb_policy.proofs.Links.{same-eq}
use Rattle.mb_policy.proofs.chain.note.Goals as goal

pub returns-in_ok-insert-in-Some : goal.returns-in_ok-insert-in-Some
returns-in_ok-insert-in-Some c =
    let old = c.args.latest.now.entries in
    let new = c.insert.new.self.entries in
    let name = c.in-Some.name in
    let is : name_of c.args.rule.now ≡ Some name = sym c.name_of.ensures ∙ c.in-Some.is in
    rw is (
      c.in_ok-insert-in-Some.ensures.old ∙ ap (λ eq. lookup (eq name) old) same-eq,
      λ q. sym (ap (λ eq. lookup (eq q) new) same-eq) ∙ c.in_ok-insert-in-Some.ensures.updates.0 q
          ∙ ap (λ eq. cond (eq name q) (Some c.args.place) (lookup (eq q) old)) same-eq,
    )
