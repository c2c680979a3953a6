use Rattle.mb_arrayapi.proofs.pushing.push.Goals as goal
use Rattle.mb_frames.specs.Sorts.{AValue}

pub returns-then-count-gt-MOST-clause-keeps : goal.returns-then-count-gt-MOST-clause-keeps
returns-then-count-gt-MOST-clause-keeps c = c.type_error.ensures.keeps AValue
