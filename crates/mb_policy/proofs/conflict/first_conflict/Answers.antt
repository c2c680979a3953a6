use Rattle.std.proofs.Common.{◌≡◌, ◌∙◌, ◌+◌, ◌<◌, ◌++◌, ℕ, List, [], ◌∷◌, Option, None, length, take, drop, ap, sym, subst, refl, arith, length-append}
use Rattle.mb_policy.specs.Conflicts.{or_later, first_pair}
use Rattle.mb_policy.specs.machine.Chains.{clash, first_clash_at, name_at, AreLinks}
use Rattle.mb_policy.proofs.Links.{links-push, notes-at, notes-link, notes-latest}
use Rattle.mb_policy.proofs.Pairs.{pair-at}
use Rattle.mb_policy.proofs.conflict.first_conflict.Goals as goal

pub first_before-requires-clause-links : goal.first_before-requires-clause-links
first_before-requires-clause-links c =
    let rules = c.args.rules.now in
    let place = c.loop-place.place in
    let link = c.in_ok-link.link in
    let state = c.loop-place.invariant in
    let below : place < length rules = omega arith in
    let noted = notes-at rules place _ c.loop-place.latest.entries c.note.new.latest.entries link below c.in_ok-link.ensures in
    let here = notes-link rules c.loop-place.latest.entries c.note.new.latest.entries place (name_at rules place) link state.2 noted in
    let items : c.deref.result.now ≡ c.loop-place.links.items ++ link ∷ [] = c.deref.ensures.value ∙ c.in_ok-push.ensures.items in
    let P : List (Option ℕ) → Type 0 = λ links. AreLinks rules links in
    subst P (sym items) (links-push rules c.loop-place.links.items link place state.0 state.1 here)

pub returns-in-Some : goal.returns-in-Some
returns-in-Some c =
    let rules = c.args.rules.now in
    let place = c.loop-place.place in
    let below : place < length rules = omega arith in
    let rest = first_pair clash (take (place + 1) rules) (drop (place + 1) rules) in
    sym (c.loop-place.invariant.3 ∙ pair-at rules place below ∙ ap (λ o. or_later o (place + 1) rest) (sym c.first_before.ensures.first ∙ c.in-Some.is))

pub loop-place-preserved : goal.loop-place-preserved
loop-place-preserved c =
    let rules = c.args.rules.now in
    let place = c.loop-place.place in
    let link = c.in_ok-link.link in
    let links = c.loop-place.links.items in
    let state = c.loop-place.invariant in
    let below : place < length rules = omega arith in
    let noted = notes-at rules place _ c.loop-place.latest.entries c.note.new.latest.entries link below c.in_ok-link.ensures in
    let here = notes-link rules c.loop-place.latest.entries c.note.new.latest.entries place (name_at rules place) link state.2 noted in
    let items : c.push.new.self.items ≡ links ++ link ∷ [] = c.in_ok-push.ensures.items in
    let P : List (Option ℕ) → Type 0 = λ ls. AreLinks rules ls in
    let len : length c.push.new.self.items ≡ place + 1 = ap length items ∙ length-append links (link ∷ []) ∙ omega (arith, state.0) in
    let rest = first_pair clash (take (place + 1) rules) (drop (place + 1) rules) in
    let none : first_clash_at rules place ≡ None = sym c.first_before.ensures.first ∙ c.in-None.is in (
      len,
      subst P (sym items) (links-push rules links link place state.0 state.1 here),
      notes-latest rules c.loop-place.latest.entries c.note.new.latest.entries place (name_at rules place) link refl state.2 noted,
      state.3 ∙ pair-at rules place below ∙ ap (λ o. or_later o (place + 1) rest) none,
    )
