use Rattle.mb_arrayapi.proofs.storing.store.Goals as goal
use Rattle.mb_frames.proofs.Readying.{changed-same}
use Rattle.mb_parts.proofs.Acting.{ready-acts}

pub returns-then-place-ge-PAST_ALL-clause-keeps : goal.returns-then-place-ge-PAST_ALL-clause-keeps
returns-then-place-ge-PAST_ALL-clause-keeps c =
    record { changed = changed-same c.args.home c.args.w.now c.requires.acts.ready; holds = tt }

pub store_element-requires-clause-acts : goal.store_element-requires-clause-acts
store_element-requires-clause-acts c =
    ready-acts c.args.w.now c.args.home c.requires.acts.ready c.requires.acts.side

pub returns-clause-keeps : goal.returns-clause-keeps
returns-clause-keeps c =
    let a = c.requires.acts in
    c.store_element.ensures.keeps a.ready a.side a.holds
