use Rattle.mb_model.proofs.Rounds.{story-over, story-rounds}
use Rattle.mb_model.proofs.laws.a_story_is_told_to_its_end.Goals as goal

pub returns-clause-over : goal.returns-clause-over
returns-clause-over c ps rules word f = story-over ps rules word f

pub returns-clause-enough : goal.returns-clause-enough
returns-clause-enough c ps rules word f more = story-rounds ps rules word f more
