use Rattle.std.proofs.Common.{refl}
use Rattle.mb_frames.proofs.HeldLess.{real-none}
use Rattle.mb_scriptproxy.proofs.absent.absent_answer.Goals as goal

pub returns-in-Own : goal.returns-in-Own
returns-in-Own c = record {
  answer = λ n. rw c.in-Own.is refl;
  sort = rw c.in-Own.is tt;
  held = λ home d. (real-none d home, tt);
}

pub returns-in-Has : goal.returns-in-Has
returns-in-Has c = record {
  answer = λ n. rw c.in-Has.is refl;
  sort = rw c.in-Has.is tt;
  held = λ home d. tt;
}

pub returns-in-Delete : goal.returns-in-Delete
returns-in-Delete c = record {
  answer = λ n. rw c.in-Delete.is refl;
  sort = rw c.in-Delete.is tt;
  held = λ home d. tt;
}
