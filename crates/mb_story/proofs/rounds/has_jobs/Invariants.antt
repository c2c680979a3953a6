use Rattle.mb_story.specs.machine.Telling.{HasNoJobs}
use Rattle.mb_story.proofs.rounds.has_jobs.Given as goal

abbrev pub invariant-loop-side : goal.invariant-loop-side
invariant-loop-side l = HasNoJobs l.w l.side
