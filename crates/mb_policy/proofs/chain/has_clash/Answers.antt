use Rattle.std.proofs.Common.{◌≡◌, ◌∙◌, ◌<◌, ℕ, Option, Some, false, length, sym, subst, refl, arith}
use Rattle.mb_policy.specs.machine.Chains.{IsLink, name_at, clash_at}
use Rattle.mb_policy.proofs.Links.{link-below, link-next, link-clear, link-end, clash-read}
use Rattle.mb_policy.proofs.chain.has_clash.Goals as goal

pub links-init : goal.links-init
links-init c = (c.args.place, (omega arith, c.requires.links c.args.place (omega (arith, c.requires.linked)), λ p above below. absurd (omega arith)))

pub links-preserved : goal.links-preserved
links-preserved c =
    let rules = c.args.rules.now in
    let place = c.args.place in
    let earlier = c.in-Some.earlier in
    let state = c.links.invariant in
    let to = state.0 in
    let name = name_at rules place in
    let P : Option ℕ → Type 0 = λ o. IsLink rules to name o in
    let link : IsLink rules to name (Some earlier) = subst P c.in-Some.is state.1.1 in
    let below : earlier < to = link-below rules to earlier name link in
    let inside : earlier < length rules = omega (arith, below, state.1.0, c.requires.within) in
    let linked : earlier < length c.args.links.now = omega (arith, below, state.1.0, c.requires.linked) in
    let apart : clash_at rules earlier place ≡ false = clash-read rules earlier place _ _ inside c.requires.within ∙ sym c.clash.ensures ∙ c.if-clash.false in (
      earlier,
      (
        omega (arith, below, state.1.0),
        link-next rules c.args.links.now to earlier name c.requires.links linked link,
        link-clear rules place to earlier name refl link state.1.2 apart,
      ),
    )

pub returns-in-None : goal.returns-in-None
returns-in-None c =
    let rules = c.args.rules.now in
    let place = c.args.place in
    let state = c.links.invariant in
    let name = name_at rules place in
    let P : Option ℕ → Type 0 = λ o. IsLink rules state.0 name o in
    λ _. link-end rules place state.0 name refl (subst P c.in-None.is state.1.1) state.1.2
