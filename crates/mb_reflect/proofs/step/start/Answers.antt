use Rattle.mb_reflect.proofs.step.start.Goals as goal

pub run-requires : goal.run-requires
run-requires c =
    let a = rw c.in-Run.is at c.requires.acts in
    record {
      acts = record { ready = a.ready; side = a.side; holds = a.holds.1 };
      ours = rw c.in-Run.is at c.requires.ours;
    }

pub returns-clause-step : goal.returns-clause-step
returns-clause-step c = λ begun f l. rw c.in-Run.is (c.run.ensures.part f begun l)

pub returns-clause-keeps : goal.returns-clause-keeps
returns-clause-keeps c = λ fs. rw c.in-Run.is c.run.ensures.keeps
