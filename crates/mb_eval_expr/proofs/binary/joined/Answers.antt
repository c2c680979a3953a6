use Rattle.mb_eval_expr.proofs.Joining.{Computes-joined, Computes-no-left, Computes-no-right, TextsGrew-then, err-then}
use Rattle.mb_eval_expr.proofs.Joining.{grew-then}
use Rattle.mb_parts.proofs.Writing.{TextsGrew-same}
use Rattle.std.proofs.lemmas.Result.{err_from_is_err_and}
use Rattle.mb_world.specs.Data.{Data}
use Rattle.mb_eval_expr.proofs.binary.joined.Goals as goal

pub returns-in-Some-second-clause-row : goal.returns-in-Some-second-clause-row
returns-in-Some-second-clause-row c = λ home.
    Computes-joined home c.args.w.now c.text_from.new.w c.in_ok-first.ensures.grew c.args.fuel.now c.args.a c.args.b
    c.text_from-in-Some.new.w c.in_ok-second-in-Some.ensures.grew c.requires.right c.in-Some.x
    (rw c.in-Some.is at c.in_ok-first.ensures.within) (rw c.in-Some.is at c.in_ok-first.ensures.text)
    c.in-Some-second.y (rw c.in-Some-second.is at c.in_ok-second-in-Some.ensures.text)
    c.join.result c.join.new.w c.join.new.fuel (c.join.ensures.row home)

pub returns-in-Some-second-clause-grew : goal.returns-in-Some-second-clause-grew
returns-in-Some-second-clause-grew c =
    let d1 : Data = c.text_from.new.w in
    let d2 : Data = c.text_from-in-Some.new.w in
    grew-then c.join.result c.args.w.now d2 c.join.new.w
    (TextsGrew-then c.args.w.now d1 d2 c.in_ok-first.ensures.grew c.in_ok-second-in-Some.ensures.grew)
    c.join.ensures.grew

pub returns-in-None-second-clause-row : goal.returns-in-None-second-clause-row
returns-in-None-second-clause-row c = λ home.
    Computes-no-right home c.args.w.now c.text_from.new.w c.in_ok-first.ensures.grew c.args.fuel.now c.args.a c.args.b
    c.text_from-in-Some.new.w c.in_ok-second-in-Some.ensures.grew c.requires.right c.in-Some.x
    (rw c.in-Some.is at c.in_ok-first.ensures.within) (rw c.in-Some.is at c.in_ok-first.ensures.text)
    (rw c.in-None-second.is at c.in_ok-second-in-Some.ensures.text)

pub returns-in-None-second-clause-grew : goal.returns-in-None-second-clause-grew
returns-in-None-second-clause-grew c =
    let d1 : Data = c.text_from.new.w in
    let d2 : Data = c.text_from-in-Some.new.w in
    TextsGrew-then c.args.w.now d1 d2 c.in_ok-first.ensures.grew c.in_ok-second-in-Some.ensures.grew

pub returns-in-None-clause-row : goal.returns-in-None-clause-row
returns-in-None-clause-row c = λ home.
    Computes-no-left home c.args.w.now c.text_from.new.w c.in_ok-first.ensures.grew c.args.fuel.now c.args.a c.args.b
    (rw c.in-None.is at c.in_ok-first.ensures.text)

pub returns-in_err-first-clause-halted : goal.returns-in_err-first-clause-halted
returns-in_err-first-clause-halted c =
    let p = err_from_is_err_and c.from_residual.result c.from_residual.ensures.1 in
    rw (p.1, c.in_err-first.ensures.kept) (TextsGrew-same c.args.w.now c.requires.ids)

pub returns-in-Some-second-clause-halted : goal.returns-in-Some-second-clause-halted
returns-in-Some-second-clause-halted c =
    let d1 : Data = c.text_from.new.w in
    let d2 : Data = c.text_from-in-Some.new.w in
    err-then c.join.result c.args.w.now d2 c.join.new.w
    (TextsGrew-then c.args.w.now d1 d2 c.in_ok-first.ensures.grew c.in_ok-second-in-Some.ensures.grew)
    c.join.ensures.halted
