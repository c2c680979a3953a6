use Rattle.std.proofs.lemmas.Result.{err_from_is_err_and}
use Rattle.mb_frames.proofs.Linking.{fits-same}
use Rattle.mb_frames.specs.Sorts.{reflect_gives}
use Rattle.mb_reflect.proofs.Doing.{halted}
use Rattle.mb_reflect.proofs.Targeting.{done-getting}
use Rattle.mb_reflect.proofs.targets.ask_prototype.Goals as goal

pub returns-in_err-key-clause-keeps : goal.returns-in_err-key-clause-keeps
returns-in_err-key-clause-keeps c =
    let p = err_from_is_err_and c.from_residual.result c.from_residual.ensures.1 in
    rw (p.1, c.in_err-key.ensures.kept)
    (halted c.args.home (reflect_gives c.args.frame) p.0 c.args.w.now c.requires.acts.ready)

pub returns-clause-part : goal.returns-clause-part
returns-clause-part c = λ f.
    let a = c.requires.acts in
    let e = c.in_ok-key.ensures in
    rw c.waits.ensures
    (done-getting c.args.home c.args.w.now c.key_of_word.new.w f e.grew c.args.frame a.ready a.holds.1 c.in_ok-key.key
    c.args.asked e.within e.key a.holds.0 c.requires.waits (reflect_gives c.args.frame)
    (fits-same (reflect_gives c.args.frame))).part

pub returns-clause-keeps : goal.returns-clause-keeps
returns-clause-keeps c =
    let a = c.requires.acts in
    let e = c.in_ok-key.ensures in
    rw c.waits.ensures
    (done-getting c.args.home c.args.w.now c.key_of_word.new.w 0 e.grew c.args.frame a.ready a.holds.1 c.in_ok-key.key
    c.args.asked e.within e.key a.holds.0 c.requires.waits (reflect_gives c.args.frame)
    (fits-same (reflect_gives c.args.frame))).keeps
