use Rattle.std.proofs.Common.{Some, pos, sym, ◌+◌, ◌∙◌, ◌∷◌}
use Rattle.std.proofs.lemmas.Result.{err_from_is_err_and}
use Rattle.mb_arrayapi.proofs.Acting.{Part-same, Part-value, gives, halts}
use Rattle.mb_arrayapi.proofs.FoundAt.{found-at, found-not}
use Rattle.mb_arrayapi.proofs.PlaceValues.{small-held}
use Rattle.mb_arrayapi.proofs.finding.compared.Goals as goal
use Rattle.mb_arrayapi.specs.machine.Turning.{elements_held}
use Rattle.mb_base.specs.declared.value.Value.TheVariants as v
use Rattle.mb_frames.proofs.Apartness.{values-apart}
use Rattle.mb_frames.specs.Held.{HeldValue}
use Rattle.mb_frames.specs.Rest.Arraying.{turn_found}
use Rattle.mb_frames.specs.Sorts.{AValue}
use Rattle.mb_frames.specs.declared.arrays.Turn.TheVariants as turn
use Rattle.mb_model.specs.BuiltIns.ArrayMembers.{index_each}
use Rattle.mb_world.specs.Image.{Resolve, names_of, object_in}

pub equal-requires-clause-right : goal.equal-requires-clause-right
equal-requires-clause-right c = (rw c.requires.turn at c.requires.acts.holds).1.1.0.within

pub equal-requires-clause-apart : goal.equal-requires-clause-apart
equal-requires-clause-apart c =
    let a = c.requires.acts in
    values-apart c.args.w.now a.ready c.args.home c.args.x c.args.wanted a.holds.0
    (rw c.requires.turn at a.holds).1.1.0

pub returns-then-not-equal-clause-part : goal.returns-then-not-equal-clause-part
returns-then-not-equal-clause-part c =
    let d = c.args.w.now in
    let n = names_of d in
    let e = c.args.at in
    let o = object_in n e.object in
    rw c.requires.turn
    (Part-same c.args.home c.goes_on.result d c.goes_on.new.w c.args.fuel.now c.goes_on.new.fuel
    (turn_found n c.args.home.0 o (turn.IndexOf c.args.wanted) e.place e.left (Some (Resolve n c.args.x)))
    (index_each c.args.home.0 o (Resolve n c.args.wanted) e.left (e.place + 1))
    (found-not n c.args.home.0 o c.args.wanted e.place e.left (Resolve n c.args.x)
    (sym c.equal.ensures ∙ c.if-not-equal.true))
    (rw c.requires.turn at c.goes_on.ensures.part))

pub returns-in_err-whole-clause-keeps : goal.returns-in_err-whole-clause-keeps
returns-in_err-whole-clause-keeps c =
    let p = err_from_is_err_and c.from_residual.result c.from_residual.ensures.1 in
    rw p.1
    (halts c.args.w.now c.args.home (HeldValue c.args.x ∷ elements_held c.args.at) c.requires.acts AValue p.0)

pub returns-clause-part : goal.returns-clause-part
returns-clause-part c =
    let d = c.args.w.now in
    let n = names_of d in
    let e = c.args.at in
    let o = object_in n e.object in
    rw (c.requires.turn, c.value.ensures, c.in_ok-whole.ensures.is)
    (Part-value c.args.home d c.args.fuel.now
    (turn_found n c.args.home.0 o (turn.IndexOf c.args.wanted) e.place e.left (Some (Resolve n c.args.x)))
    (v.Whole (pos e.place)) tt
    (found-at n c.args.home.0 o c.args.wanted e.place e.left (Resolve n c.args.x)
    (sym c.equal.ensures ∙ c.if-not-equal.false)))

pub returns-clause-keeps : goal.returns-clause-keeps
returns-clause-keeps c =
    let d = c.args.w.now in
    let home = c.args.home in
    rw (c.value.ensures, c.in_ok-whole.ensures.is)
    (gives d home (HeldValue c.args.x ∷ elements_held c.args.at) c.requires.acts (v.Whole (pos c.args.at.place))
    (small-held d home c.args.at.place c.in_ok-whole.ensures.small))
