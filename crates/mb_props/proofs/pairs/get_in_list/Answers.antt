use Rattle.std.proofs.Common.{sym}
use Rattle.mb_props.proofs.Listed.{found-at, found-none}
use Rattle.mb_props.proofs.pairs.get_in_list.Goals as goal

pub returns-in_err-place : goal.returns-in_err-place
returns-in_err-place g c = rw c.from_residual.ensures (sym (found-none c.args.key c.args.list.now (sym c.in_err-place.ensures)))

pub returns : goal.returns
returns g c = sym (found-at c.args.key c.args.list.now c.in_ok-place.place c.index-list-place.result (sym c.in_ok-place.ensures))
