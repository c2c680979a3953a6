use Rattle.std.proofs.Common.{Bool, ap, sym, ◌++◌, ◌∙◌, ◌∷◌, []}
use Rattle.std.proofs.lemmas.List.{map-append}
use Rattle.std.specs.Prelude.{if◌then◌else◌}
use Rattle.mb_frames.proofs.HeldLess.{values-more}
use Rattle.mb_frames.specs.Resolved.{values_in}
use Rattle.mb_reflect.proofs.Listed.{value-held, value-is}
use Rattle.mb_reflect.proofs.listing.with_key.Goals as goal
use Rattle.mb_reflect.specs.machine.Listing.{value_for}
use Rattle.mb_world.specs.Image.{Resolve, key_in}
use Rattle.mb_world.specs.Key.{value_of_key}
use Rattle.mb_world.specs.Value.{Val}

pub returns-then-not-is_listed-clause-found : goal.returns-then-not-is_listed-clause-found
returns-then-not-is_listed-clause-found c = λ n.
    let vs = values_in n c.args.found in
    sym (ap (λ (b : Bool). if b then vs ++ (value_of_key (key_in n c.args.key) ∷ []) else vs)
    (sym (c.is_listed.ensures n) ∙ c.if-not-is_listed.true))

pub returns-clause-found : goal.returns-clause-found
returns-clause-found c = λ n.
    let vs = values_in n c.args.found in
    rw (c.in_ok-push.ensures.pushed, c.value_of_key.ensures)
    (map-append (Resolve n) c.args.found (value_for c.args.key ∷ [])
    ∙ ap (λ (y : Val). vs ++ (y ∷ [])) (value-is n c.args.key)
    ∙ sym (ap (λ (b : Bool). if b then vs ++ (value_of_key (key_in n c.args.key) ∷ []) else vs)
    (sym (c.is_listed.ensures n) ∙ c.if-not-is_listed.false)))

pub returns-clause-holds : goal.returns-clause-holds
returns-clause-holds c = λ d home h.
    rw (c.in_ok-push.ensures.pushed, c.value_of_key.ensures)
    (values-more d home c.args.found (value_for c.args.key) h.1.0 (value-held d home c.args.key h.0.within), tt)
