use Rattle.std.proofs.Common.{[], refl, sym, ◌∙◌, ◌∷◌}
use Rattle.std.proofs.lemmas.Result.{err_from_is_err_and}
use Rattle.mb_arrayapi.proofs.Acting.{halts}
use Rattle.mb_arrayapi.proofs.Pushes.{Part-last, Part-push, Part-unpaid-push, push-kept}
use Rattle.mb_arrayapi.proofs.pushing.push_each.Goals as goal
use Rattle.mb_frames.specs.Held.{HeldObject, HeldValues}
use Rattle.mb_frames.specs.Sorts.{AValue}
use Rattle.mb_frames.specs.declared.machine.Halt.TheVariants.{NoMemory}

pub returns-then-next-eq4294967295-clause-keeps : goal.returns-then-next-eq4294967295-clause-keeps
returns-then-next-eq4294967295-clause-keeps c =
    halts c.args.w.now c.args.home (HeldObject c.args.object ∷ HeldValues c.args.arguments ∷ []) c.requires.acts AValue
    NoMemory

pub returns-in_err-charge-in-Some-clause-part : goal.returns-in_err-charge-in-Some-clause-part
returns-in_err-charge-in-Some-clause-part c =
    let a = c.requires.acts in
    let p = err_from_is_err_and c.from_residual.result c.from_residual.ensures.1 in
    rw (p.1, p.2, c.in_err-charge-in-Some.ensures.kept)
    (Part-unpaid-push c.args.home c.args.w.now a.ready c.args.object a.holds.0 c.args.arguments a.holds.1.0
    c.args.place c.args.next c.in-Some.x (sym c.at.ensures ∙ c.in-Some.is) c.args.fuel.now
    (c.in_err-charge-in-Some.ensures.spent.0 refl))

pub returns-in_err-charge-in-Some-clause-keeps : goal.returns-in_err-charge-in-Some-clause-keeps
returns-in_err-charge-in-Some-clause-keeps c =
    let p = err_from_is_err_and c.from_residual.result c.from_residual.ensures.1 in
    rw p.1
    (halts c.args.w.now c.args.home (HeldObject c.args.object ∷ HeldValues c.args.arguments ∷ []) c.requires.acts
    AValue p.0)

pub returns-in_err-key-in-Some-clause-keeps : goal.returns-in_err-key-in-Some-clause-keeps
returns-in_err-key-in-Some-clause-keeps c =
    let q = c.from_residual-in_err-key-in-Some in
    let p = err_from_is_err_and q.result q.ensures.1 in
    rw (p.1, c.in_err-key-in-Some.ensures.kept)
    (halts c.args.w.now c.args.home (HeldObject c.args.object ∷ HeldValues c.args.arguments ∷ []) c.requires.acts
    AValue p.0)

pub returns-in_ok-key-in-Some-clause-part : goal.returns-in_ok-key-in-Some-clause-part
returns-in_ok-key-in-Some-clause-part c =
    let a = c.requires.acts in
    rw c.waits.ensures
    (Part-push c.args.home c.args.w.now a.ready c.args.object a.holds.0 c.args.arguments a.holds.1.0 c.args.place
    c.args.next c.in-Some.x (sym c.at.ensures ∙ c.in-Some.is) c.index_key.new.w c.in_ok-key-in-Some.ensures.grew
    c.in_ok-key-in-Some.key c.in_ok-key-in-Some.ensures.within c.in_ok-key-in-Some.ensures.key c.args.fuel.now
    c.charge.new.self c.in_ok-charge-in-Some.ensures.paid)

pub returns-in_ok-key-in-Some-clause-keeps : goal.returns-in_ok-key-in-Some-clause-keeps
returns-in_ok-key-in-Some-clause-keeps c =
    let a = c.requires.acts in
    rw c.waits.ensures
    (push-kept c.args.home c.args.w.now a.ready c.args.object a.holds.0 c.args.arguments a.holds.1.0 c.args.place
    c.args.next c.in-Some.x (sym c.at.ensures ∙ c.in-Some.is) c.index_key.new.w c.in_ok-key-in-Some.ensures.grew
    c.in_ok-key-in-Some.key c.in_ok-key-in-Some.ensures.within c.in_ok-key-in-Some.ensures.key)

pub returns-in-None-clause-part : goal.returns-in-None-clause-part
returns-in-None-clause-part c =
    let a = c.requires.acts in
    Part-last c.args.home c.args.w.now a.ready c.args.object a.holds.0 c.push_length.result c.push_length.new.w
    c.args.fuel.now c.args.fuel.now c.args.place c.args.next c.args.arguments (sym c.at.ensures ∙ c.in-None.is)
    (c.push_length.ensures.part c.args.fuel.now)
