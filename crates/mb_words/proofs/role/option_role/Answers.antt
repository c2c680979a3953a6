use Rattle.std.proofs.Common.{arith}
use Rattle.mb_words.proofs.Picks.{picks, passes}
use Rattle.mb_words.proofs.role.option_role.Goals as goal

pub returns-in-Some : goal.returns-in-Some
returns-in-Some c = picks c.args.names.now c.loop-name.name-index _ c.args.word.now _ (omega arith) c.in-Some.ensures c.loop-name.invariant

pub loop-name-preserved : goal.loop-name-preserved
loop-name-preserved c = passes c.args.names.now c.loop-name.name-index _ c.args.word.now (omega arith) c.in_default.ensures c.loop-name.invariant
