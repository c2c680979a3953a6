use Rattle.mb_frames.proofs.Stack.{rows-mean}
use Rattle.mb_frames.proofs.laws.the_meaning_does_rows.Goals as goal

pub returns : goal.returns
returns c = rows-mean
