use Rattle.mb_engine.proofs.Begins.{begins, desk-found, no-cells, no-scopes, now-ready, now-sides, some-desk}
use Rattle.mb_engine.proofs.Begins.{two-joined}
use Rattle.mb_intrinsics.proofs.Homes.{on-ok}
use Rattle.mb_engine.proofs.beginning.add_all.Goals as goal

pub furnish-requires-clause-empty : goal.furnish-requires-clause-empty
furnish-requires-clause-empty c =
    no-cells c.args.w.now c.add_scripts.new.w c.args.sides c.requires.set c.in_ok-add_scripts.ensures.added

pub furnish-requires-clause-joined : goal.furnish-requires-clause-joined
furnish-requires-clause-joined c =
    two-joined c.args.w.now c.add_scripts.new.w c.args.sides c.requires.set c.in_ok-add_scripts.ensures.added

pub add_scopes-requires-clause-ready : goal.add_scopes-requires-clause-ready
add_scopes-requires-clause-ready c =
    now-ready c.args.w.now c.add_scripts.new.w c.furnish.new.w c.args.sides c.requires.set
    c.in_ok-add_scripts.ensures.added c.in_ok-furnish.ensures.furnished c.in_ok-furnish.ensures.ids

pub add_scopes-requires-clause-sides : goal.add_scopes-requires-clause-sides
add_scopes-requires-clause-sides c =
    now-sides c.args.w.now c.add_scripts.new.w c.furnish.new.w c.args.sides c.requires.set
    c.in_ok-add_scripts.ensures.added c.in_ok-furnish.ensures.furnished

pub add_scopes-requires-clause-desk : goal.add_scopes-requires-clause-desk
add_scopes-requires-clause-desk c =
    desk-found c.args.w.now c.add_scripts.new.w c.furnish.new.w c.args.sides c.requires.set
    c.in_ok-add_scripts.ensures.added c.in_ok-furnish.ensures.furnished c.object.result c.in-Some.desk
    c.object.ensures.value c.in-Some.is

pub add_scopes-requires-clause-none : goal.add_scopes-requires-clause-none
add_scopes-requires-clause-none c =
    no-scopes c.args.w.now c.add_scripts.new.w c.furnish.new.w c.args.sides c.requires.set
    c.in_ok-add_scripts.ensures.added c.in_ok-furnish.ensures.furnished

pub unreachable-requires : goal.unreachable-requires
unreachable-requires c =
    some-desk c.args.w.now c.add_scripts.new.w c.furnish.new.w c.args.sides c.requires.set
    c.in_ok-add_scripts.ensures.added c.in_ok-furnish.ensures.furnished c.object.result c.object.ensures.value
    c.in-None.is

pub returns-clause-begins : goal.returns-clause-begins
returns-clause-begins c =
    on-ok c.add_scopes.result
    (begins c.args.w.now c.add_scripts.new.w c.furnish.new.w c.args.sides c.requires.set
    c.in_ok-add_scripts.ensures.added c.in_ok-furnish.ensures.furnished c.add_scopes.new.w c.in-Some.desk
    c.in_ok-add_scripts.ensures.ids) c.add_scopes.ensures.added
