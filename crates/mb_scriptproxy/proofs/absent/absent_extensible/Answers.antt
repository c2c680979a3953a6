use Rattle.mb_frames.specs.Sorts.{absent_gives}
use Rattle.mb_scriptproxy.proofs.absent.absent_extensible.Goals as goal
use Rattle.mb_world.specs.Image.{names_of}

pub judged-requires : goal.judged-requires
judged-requires c =
    let a = c.requires.acts in
    record {
      acts = record {
        ready = a.ready;
        side = a.side;
        holds = c.absent_answer.ensures.held c.args.home c.args.w.now;
      };
    }

pub returns-clause-part : goal.returns-clause-part
returns-clause-part c = λ f.
    let n = names_of c.args.w.now in
    rw (c.absent_verdict-verdict.ensures n, ← c.absent_answer.ensures.answer n) (c.judged.ensures.part f)

pub returns-clause-keeps : goal.returns-clause-keeps
returns-clause-keeps c = c.judged.ensures.keeps (absent_gives c.args.absent) (λ e. c.absent_answer.ensures.sort)
