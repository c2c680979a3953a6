use Rattle.mb_world.proofs.Grow.{KeyIn-grows}
use Rattle.mb_shadow.proofs.Steps.{followed-then}
use Rattle.mb_shadow.proofs.Stable.{shadow-in, sight-stays}
use Rattle.mb_shadow.proofs.Replacing.{are-replaced-none, are-replaced-next, are-replaced-all}
use Rattle.mb_shadow.proofs.following.replace_each.Goals as goal

pub loop-key-init : goal.loop-key-init
loop-key-init c = are-replaced-none c.args.w.now c.args.sight c.requires.world

pub replace-requires-clause-sight : goal.replace-requires-clause-sight
replace-requires-clause-sight c = sight-stays c.args.w.now c.loop-key.w c.args.sight c.requires.world c.requires.sight c.loop-key.invariant.followed

pub replace-requires-clause-key : goal.replace-requires-clause-key
replace-requires-clause-key c = KeyIn-grows c.args.w.now c.loop-key.w c.loop-key.invariant.followed.becomes.grows _
    (c.requires.keys c.loop-key.key-index _ c.loop-key-test.true)

pub replace-requires-clause-world : goal.replace-requires-clause-world
replace-requires-clause-world c = c.loop-key.invariant.followed.can_see

pub returns-in_err-replace-clause-stays : goal.returns-in_err-replace-clause-stays
returns-in_err-replace-clause-stays c = followed-then c.args.w.now c.loop-key.w c.replace.new.w c.args.sight.shadow
    (shadow-in c.args.w.now c.args.sight c.requires.sight) c.loop-key.invariant.followed c.replace.ensures.stays

pub loop-key-preserved : goal.loop-key-preserved
loop-key-preserved c = are-replaced-next c.args.w.now c.loop-key.w c.replace.new.w c.args.sight c.requires.world c.requires.sight c.args.keys.now
    c.loop-key.key-index _ c.loop-key-test.true c.requires.keys c.loop-key.invariant c.in_ok-replace.ensures.replaced c.replace.ensures.stays
    c.in_ok-replace.ensures.runs

pub returns-clause-replaced : goal.returns-clause-replaced
returns-clause-replaced c = (are-replaced-all c.args.w.now c.loop-key.w c.args.sight c.args.keys.now c.loop-key.key-index c.loop-key-test.false
    c.loop-key.invariant).replaced

pub returns-clause-stays : goal.returns-clause-stays
returns-clause-stays c = c.loop-key.invariant.followed

pub returns-clause-runs : goal.returns-clause-runs
returns-clause-runs c = c.loop-key.invariant.runs
