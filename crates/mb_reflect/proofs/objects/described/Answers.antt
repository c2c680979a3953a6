use Rattle.std.proofs.Common.{refl}
use Rattle.std.proofs.lemmas.Result.{err_from_is_err_and}
use Rattle.mb_base.specs.declared.value.Value.TheVariants as v
use Rattle.mb_frames.proofs.HeldLess.{real-full, undefined-held}
use Rattle.mb_frames.proofs.Keeping.{keeps-halted}
use Rattle.mb_frames.specs.Sorts.{AValue}
use Rattle.mb_reflect.proofs.Described.{desc-held, done-described}
use Rattle.mb_reflect.proofs.Doing.{done-value, keeps-given}
use Rattle.mb_reflect.proofs.objects.described.Goals as goal

pub returns-in-None-clause-part : goal.returns-in-None-clause-part
returns-in-None-clause-part c = λ f.
    let d = c.args.w.now in
    rw (c.in-None.is, c.value.ensures)
    (done-value c.args.home d f c.requires.acts.ready _ v.Undefined (undefined-held d c.args.home) (λ log. refl)).part

pub returns-in-None-clause-keeps : goal.returns-in-None-clause-keeps
returns-in-None-clause-keeps c =
    let d = c.args.w.now in
    rw c.value.ensures (keeps-given c.args.home d c.requires.acts.ready v.Undefined (undefined-held d c.args.home))

pub fromdesc-requires-clause-held : goal.fromdesc-requires-clause-held
fromdesc-requires-clause-held c =
    let d = c.args.w.now in
    let h = rw c.in-Some.is at c.requires.acts.holds.0 in
    rw c.descriptor_of.ensures (desc-held d c.args.home c.in-Some.full (real-full d c.args.home c.in-Some.full h), tt)

pub returns-in_err-made-in-Some-clause-keeps : goal.returns-in_err-made-in-Some-clause-keeps
returns-in_err-made-in-Some-clause-keeps c =
    let p = err_from_is_err_and c.from_residual.result c.from_residual.ensures.1 in
    rw p.1
    (keeps-halted c.args.home AValue p.0 c.args.w.now c.fromdesc.new.w c.in_err-made-in-Some.ensures.keeps.changed)

pub returns-in_ok-made-in-Some-clause-part : goal.returns-in_ok-made-in-Some-clause-part
returns-in_ok-made-in-Some-clause-part c = λ f.
    let e = c.in_ok-made-in-Some.ensures in
    rw (c.in-Some.is, c.value-in-Some.ensures)
    (done-described c.args.home c.args.w.now c.fromdesc.new.w f c.in-Some.full c.in_ok-made-in-Some.made
    (rw c.descriptor_of.ensures at e.makes) e.keeps).part

pub returns-in_ok-made-in-Some-clause-keeps : goal.returns-in_ok-made-in-Some-clause-keeps
returns-in_ok-made-in-Some-clause-keeps c =
    let e = c.in_ok-made-in-Some.ensures in
    rw c.value-in-Some.ensures
    (done-described c.args.home c.args.w.now c.fromdesc.new.w 0 c.in-Some.full c.in_ok-made-in-Some.made
    (rw c.descriptor_of.ensures at e.makes) e.keeps).keeps
