use Rattle.std.proofs.lemmas.Result.{err_from_is_err_and}
use Rattle.std.proofs.Common.{arith}
use Rattle.mb_call.proofs.Constructing.{Part-constructs, keeps-constructs}
use Rattle.mb_call.proofs.constructions.construct_with.Goals as goal
use Rattle.mb_frames.proofs.Keeping.{keeps-halted}
use Rattle.mb_frames.proofs.Readying.{changed-same}
use Rattle.mb_frames.specs.Sorts.{AnObject}

pub prototype_or-prototype-requires : goal.prototype_or-prototype-requires
prototype_or-prototype-requires c =
    record { ready = c.requires.acts.ready; side = c.requires.acts.side; holds = (c.requires.got, tt) }

pub make-requires-clause-home : goal.make-requires-clause-home
make-requires-clause-home c = omega (arith, c.requires.acts.side, c.requires.acts.ready.formed.sides.1)

pub make-requires-clause-proto : goal.make-requires-clause-proto
make-requires-clause-proto c = c.prototype_or-prototype.ensures.held.0.within

pub make-requires-clause-label : goal.make-requires-clause-label
make-requires-clause-label c = c.requires.acts.holds.1.0.within

pub returns-clause-part : goal.returns-clause-part
returns-clause-part c = λ f.
    let a = c.requires.acts in
    Part-constructs c.args.home c.args.w.now c.make.new.self f c.args.function c.args.label c.args.arguments
    c.prototype_or-prototype.result c.args.got c.in_ok-made.made a.ready a.side a.holds
    c.prototype_or-prototype.ensures.held.0
    c.in_ok-made.ensures.made c.in_ok-made.ensures.id c.prototype_or-prototype.ensures.value

pub returns-clause-keeps : goal.returns-clause-keeps
returns-clause-keeps c =
    let a = c.requires.acts in
    keeps-constructs c.args.home c.args.w.now c.make.new.self 0 c.args.function c.args.label c.args.arguments
    c.prototype_or-prototype.result c.args.got c.in_ok-made.made a.ready a.side a.holds
    c.prototype_or-prototype.ensures.held.0
    c.in_ok-made.ensures.made c.in_ok-made.ensures.id

pub returns-in_err-made-clause-keeps : goal.returns-in_err-made-clause-keeps
returns-in_err-made-clause-keeps c =
    let d = c.args.w.now in
    let p = err_from_is_err_and c.from_residual.result c.from_residual.ensures.1 in
    rw (p.1, c.in_err-made.ensures.kept)
    (keeps-halted c.args.home AnObject p.0 d d (changed-same c.args.home d c.requires.acts.ready))
