use Rattle.mb_intrinsics.proofs.Scoping.{err-rest, err-texts}
use Rattle.mb_intrinsics.proofs.names.bind_names.Goals as goal

pub returns-clause-texts : goal.returns-clause-texts
returns-clause-texts c =
    err-texts c.add_names-added.result c.args.w.now c.add_names-added.new.w c.add_names-added.ensures.kept

pub returns-clause-rest : goal.returns-clause-rest
returns-clause-rest c =
    err-rest c.add_names-added.result c.args.w.now c.add_names-added.new.w c.add_names-added.ensures.kept
