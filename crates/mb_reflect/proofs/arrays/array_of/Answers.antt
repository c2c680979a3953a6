use Rattle.std.proofs.lemmas.Result.{err_from_is_err_and}
use Rattle.mb_frames.proofs.Keeping.{keeps-halted}
use Rattle.mb_frames.specs.Sorts.{AValue}
use Rattle.mb_reflect.proofs.Arrayed.{done-array}
use Rattle.mb_reflect.proofs.arrays.array_of.Goals as goal

pub returns-in_err-array-clause-keeps : goal.returns-in_err-array-clause-keeps
returns-in_err-array-clause-keeps c =
    let p = err_from_is_err_and c.from_residual.result c.from_residual.ensures.1 in
    rw p.1 (keeps-halted c.args.home AValue p.0 c.args.w.now c.make_array.new.w c.in_err-array.ensures.keeps.changed)

pub returns-clause-part : goal.returns-clause-part
returns-clause-part c = λ f.
    rw c.value.ensures
    (done-array c.args.home c.args.w.now c.make_array.new.w f c.args.items.now c.in_ok-array.array
    c.in_ok-array.ensures.makes c.in_ok-array.ensures.keeps).part

pub returns-clause-keeps : goal.returns-clause-keeps
returns-clause-keeps c =
    rw c.value.ensures
    (done-array c.args.home c.args.w.now c.make_array.new.w 0 c.args.items.now c.in_ok-array.array
    c.in_ok-array.ensures.makes c.in_ok-array.ensures.keeps).keeps
