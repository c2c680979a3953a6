use Rattle.std.proofs.Common.{◌∙◌, ap, subst, sym}
use Rattle.std.specs.Prelude.{All}
use Rattle.mb_call.proofs.Listing.{listed-done, listed-left, listed-next, listed-none}
use Rattle.mb_call.proofs.methods.shown_keys.Goals as goal
use Rattle.mb_call.proofs.methods.shown_keys.Goals.{else-listed, then-listed+in_ok-push}
use Rattle.mb_world.specs.Ids.{KeyIn}

pub loop-key-init : goal.loop-key-init
loop-key-init c = rw c.new-found.ensures.items (listed-none c.args.w.now c.args.viewer c.args.object)

pub loop-key-preserved : goal.loop-key-preserved
loop-key-preserved c =
    let d = c.args.w.now in
    let own = c.deref-key-items.result.now in
    let within : All (KeyIn d) own = subst (All (KeyIn d))
    (sym c.deref-key-items.ensures.value) c.in_ok-all.ensures.within in
    elim c.if-listed.branch [
      | then-listed+in_ok-push w ↦ listed-next d c.args.viewer c.args.object c.loop-key.found.items own
          c.loop-key.key-index _ c.loop-key-test.true within c.loop-key.invariant c.listed.result c.listed.ensures
          w.if-listed.true c.if-listed.found.items (ap (λ v. v.items) w.found-is ∙ w.in_ok-push.ensures.items)
      | else-listed w ↦ listed-left d c.args.viewer c.args.object c.loop-key.found.items own c.loop-key.key-index _
          c.loop-key-test.true within c.loop-key.invariant c.listed.result c.listed.ensures w.if-listed.false
          c.if-listed.found.items (ap (λ v. v.items) w.found-is)
    ]

pub returns-clause-keys : goal.returns-clause-keys
returns-clause-keys c = listed-done c.args.w.now c.args.viewer c.args.object c.loop-key.found.items
    c.deref-key-items.result.now c.loop-key.key-index c.loop-key-test.false c.loop-key.invariant
    (rw (sym c.deref-key-items.ensures.value) at c.in_ok-all.ensures.meant)

pub returns-clause-within : goal.returns-clause-within
returns-clause-within c = c.loop-key.invariant.within
