use Rattle.std.proofs.Common.{◌∙◌, ap, sym, subst}
use Rattle.std.specs.Prelude.{All}
use Rattle.mb_world.specs.Ids.{KeyIn}
use Rattle.mb_shadow.proofs.Listed.{lists-none, lists-next, lists-left, lists-done}
use Rattle.mb_shadow.proofs.seeing.keys_seen.Goals as goal
use Rattle.mb_shadow.proofs.seeing.keys_seen.Goals.{then-listed+in_ok-push, else-listed}

pub loop-key-init : goal.loop-key-init
loop-key-init c = rw c.new-keys.ensures.items (lists-none c.args.w.now c.args.sight)

pub loop-key-preserved : goal.loop-key-preserved
loop-key-preserved c =
    let within : All (KeyIn c.args.w.now) c.deref-key-items.result.now = subst (All (KeyIn c.args.w.now)) (sym c.deref-key-items.ensures.value) c.in_ok-own.ensures.within in
    elim c.if-listed.branch [
      | then-listed+in_ok-push w ↦ lists-next c.args.w.now c.args.sight c.requires.sight c.loop-key.keys.items c.deref-key-items.result.now
          c.loop-key.key-index _ c.loop-key-test.true within c.loop-key.invariant c.listed.result c.listed.ensures w.if-listed.true
          c.if-listed.keys.items (ap (λ v. v.items) w.keys-is ∙ w.in_ok-push.ensures.items)
      | else-listed w ↦ lists-left c.args.w.now c.args.sight c.requires.sight c.loop-key.keys.items c.deref-key-items.result.now
          c.loop-key.key-index _ c.loop-key-test.true within c.loop-key.invariant c.listed.result c.listed.ensures w.if-listed.false
          c.if-listed.keys.items (ap (λ v. v.items) w.keys-is)
    ]

pub returns-clause-keys : goal.returns-clause-keys
returns-clause-keys c = lists-done c.args.w.now c.args.sight c.requires.sight c.loop-key.keys.items c.deref-key-items.result.now c.loop-key.key-index
    c.loop-key-test.false c.loop-key.invariant (rw (sym c.deref-key-items.ensures.value) at c.in_ok-own.ensures.meant)

pub returns-clause-within : goal.returns-clause-within
returns-clause-within c = c.loop-key.invariant.within
