use Rattle.std.proofs.Common.{[], arith, refl, suc, ◌-◌, ◌∷◌, ◌≡◌}
use Rattle.std.proofs.lemmas.Result.{err_from_is_err_and}
use Rattle.mb_arrayapi.proofs.Acting.{halts}
use Rattle.mb_arrayapi.proofs.Joins.{Part-joins, Part-long, Part-unpaid-join, joins-kept}
use Rattle.mb_arrayapi.proofs.joining.join_each.Goals as goal
use Rattle.mb_frames.specs.Held.{HeldObject}
use Rattle.mb_frames.specs.Sorts.{AValue}
use Rattle.mb_world.specs.Image.{names_of, object_in}

pub returns-then-left-eq0-clause-part : goal.returns-then-left-eq0-clause-part
returns-then-left-eq0-clause-part c =
    let e : c.args.left ≡ 0 = omega arith in
    rw e
    (c.joined.ensures.part (object_in (names_of c.args.w.now) c.args.object) c.args.separator c.args.place)

pub returns-in_err-charge-clause-part : goal.returns-in_err-charge-clause-part
returns-in_err-charge-clause-part c =
    let a = c.requires.acts in
    let n : c.args.left ≡ suc (c.args.left - 1) = omega arith in
    let p = err_from_is_err_and c.from_residual.result c.from_residual.ensures.1 in
    rw (p.1, p.2, c.in_err-charge.ensures.kept)
    (Part-unpaid-join c.args.home c.args.w.now a.ready c.args.object a.holds.0 c.args.separator c.args.so_far
    c.args.place (c.args.left - 1) c.args.fuel.now c.args.left n (c.in_err-charge.ensures.spent.0 refl))

pub returns-in_err-charge-clause-keeps : goal.returns-in_err-charge-clause-keeps
returns-in_err-charge-clause-keeps c =
    let p = err_from_is_err_and c.from_residual.result c.from_residual.ensures.1 in
    rw p.1 (halts c.args.w.now c.args.home (HeldObject c.args.object ∷ []) c.requires.acts AValue p.0)

pub returns-in_err-fits-clause-keeps : goal.returns-in_err-fits-clause-keeps
returns-in_err-fits-clause-keeps c =
    let q = c.from_residual-in_err-fits in
    let p = err_from_is_err_and q.result q.ensures.1 in
    rw p.1 (halts c.args.w.now c.args.home (HeldObject c.args.object ∷ []) c.requires.acts AValue p.0)

pub returns-then-not-fits-clause-part : goal.returns-then-not-fits-clause-part
returns-then-not-fits-clause-part c =
    let a = c.requires.acts in
    let n : c.args.left ≡ suc (c.args.left - 1) = omega arith in
    let fits = rw (c.separator_at.ensures, c.if-not-fits.true) at c.in_ok-fits.ensures in
    Part-long c.args.home c.args.w.now a.ready c.args.object a.holds.0 c.args.separator c.args.so_far
    c.args.place (c.args.left - 1) c.range_error.result c.range_error.new.w c.args.fuel.now c.charge.new.self
    c.args.left n c.extend.new.so_far fits c.in_ok-charge.ensures.paid (c.range_error.ensures.part c.charge.new.self)

pub returns-then-not-fits-clause-keeps : goal.returns-then-not-fits-clause-keeps
returns-then-not-fits-clause-keeps c = c.range_error.ensures.keeps AValue

pub returns-in_err-key-clause-keeps : goal.returns-in_err-key-clause-keeps
returns-in_err-key-clause-keeps c =
    let q = c.from_residual-in_err-key in
    let p = err_from_is_err_and q.result q.ensures.1 in
    rw (p.1, c.in_err-key.ensures.kept)
    (halts c.args.w.now c.args.home (HeldObject c.args.object ∷ []) c.requires.acts AValue p.0)

pub returns-clause-part : goal.returns-clause-part
returns-clause-part c =
    let a = c.requires.acts in
    let n : c.args.left ≡ suc (c.args.left - 1) = omega arith in
    let fits = rw (c.separator_at.ensures, c.if-not-fits.false) at c.in_ok-fits.ensures in
    rw c.waits.ensures
    (Part-joins c.args.home c.args.w.now a.ready c.args.object a.holds.0 c.args.separator c.args.so_far
    c.args.place (c.args.left - 1) c.index_key.new.w c.in_ok-key.ensures.grew c.in_ok-key.key
    c.in_ok-key.ensures.within c.in_ok-key.ensures.key c.extend.new.so_far fits c.args.fuel.now c.charge.new.self
    c.args.left n c.in_ok-charge.ensures.paid)

pub returns-clause-keeps : goal.returns-clause-keeps
returns-clause-keeps c =
    let a = c.requires.acts in
    let fits = rw (c.separator_at.ensures, c.if-not-fits.false) at c.in_ok-fits.ensures in
    rw c.waits.ensures
    (joins-kept c.args.home c.args.w.now a.ready c.args.object a.holds.0 c.args.separator c.args.so_far
    c.args.place (c.args.left - 1) c.index_key.new.w c.in_ok-key.ensures.grew c.in_ok-key.key
    c.in_ok-key.ensures.within c.in_ok-key.ensures.key c.extend.new.so_far fits)
