use Rattle.std.proofs.Common.{subst, sym}
use Rattle.std.specs.Prelude.{All}
use Rattle.mb_call.proofs.KeyRows.{keys-after, texts-then}
use Rattle.mb_call.proofs.lists.keys_in.Goals as goal
use Rattle.mb_world.specs.Ids.{ValueIn}

pub returns-in_err-add_key-clause-grew : goal.returns-in_err-add_key-clause-grew
returns-in_err-add_key-clause-grew c =
    texts-then c.args.w.now c.loop-x.w c.add_key.new.w c.loop-x.invariant.grew c.in_err-add_key.ensures.grew

pub loop-x-preserved : goal.loop-x-preserved
loop-x-preserved c =
    let d = c.args.w.now in
    let xs = c.items-x-items.result.now in
    let known : All (ValueIn d) xs = subst (All (ValueIn d)) (sym c.items-x-items.ensures) c.requires.values in
    keys-after d c.loop-x.w c.add_key.new.w xs c.loop-x.x-index _ c.loop-x-test.true known c.loop-x.keys.items
    c.add_key.new.keys.items c.loop-x.invariant c.in_ok-add_key.ensures.added c.in_ok-add_key.ensures.grew
