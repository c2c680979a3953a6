use Rattle.mb_call.proofs.lists.add_key.Goals as goal
use Rattle.mb_parts.proofs.Writing.{TextsGrew-same}

pub returns-in_err-key-clause-grew : goal.returns-in_err-key-clause-grew
returns-in_err-key-clause-grew c = rw c.in_err-key.ensures.kept (TextsGrew-same c.args.w.now c.requires.ids)
