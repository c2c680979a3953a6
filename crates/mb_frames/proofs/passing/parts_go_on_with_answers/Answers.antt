use Rattle.mb_frames.proofs.Going.{Changes-passes, Enters-passes, Makes-passes, Part-stuck, WentOn-passes}
use Rattle.mb_model.specs.Task.{Answer}
use Rattle.std.proofs.Common.{ℕ}
use Rattle.mb_frames.proofs.passing.parts_go_on_with_answers.Goals as goal

pub returns-clause-answer : goal.returns-clause-answer
returns-clause-answer c d d' f f' p y k q = WentOn-passes Answer d d' f f' p y k q

pub returns-clause-entered : goal.returns-clause-entered
returns-clause-entered c d d' f f' p id k q = Enters-passes d d' f f' p id k q

pub returns-clause-changed : goal.returns-clause-changed
returns-clause-changed c d d' f p k q = Changes-passes d d' f p k q

pub returns-clause-made : goal.returns-clause-made
returns-clause-made c d d' f p id k q = Makes-passes d d' f p id k q

pub returns-clause-stuck : goal.returns-clause-stuck
returns-clause-stuck c home d d' f f' p k q = Part-stuck ℕ home d d' f f' p k q
