use Rattle.std.proofs.lemmas.Result.{err_from_is_err_and}
use Rattle.mb_arrayapi.proofs.Acting.{halts}
use Rattle.mb_arrayapi.proofs.turns.goes_on.Goals as goal
use Rattle.mb_arrayapi.specs.machine.Turning.{elements_held}
use Rattle.mb_frames.specs.Sorts.{AValue}

pub returns-in_err-place-clause-keeps : goal.returns-in_err-place-clause-keeps
returns-in_err-place-clause-keeps c =
    let p = err_from_is_err_and c.from_residual.result c.from_residual.ensures.1 in
    rw p.1 (halts c.args.w.now c.args.home (elements_held c.args.at) c.requires.acts AValue p.0)
