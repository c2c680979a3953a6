use Rattle.std.proofs.Common.{ap, refl, sym, ◌∙◌}
use Rattle.std.proofs.lemmas.Result.{err_from_is_err_and}
use Rattle.mb_frames.proofs.HeldLess.{value-object}
use Rattle.mb_frames.specs.Sorts.{AnObject}
use Rattle.mb_model.specs.BuiltIns.ErrorsAndFunctions.{error_made}
use Rattle.mb_parts.proofs.Acting.{prototype-there, ready-acts}
use Rattle.mb_reflect.proofs.Doing.{halted, keeps-fit}
use Rattle.mb_reflect.proofs.Failed.{error-place}
use Rattle.mb_reflect.proofs.Prototyped.{done-other, done-own}
use Rattle.mb_reflect.proofs.failures.error.Goals as goal
use Rattle.mb_world.specs.Image.{Resolve, names_of}
use Rattle.mb_world.specs.Standard.{error_prototype}
use Rattle.mb_world.specs.Value.{BuiltIn, Val}
use Rattle.std.proofs.Common.{ℕ}

pub other_target-requires : goal.other_target-requires
other_target-requires c = record { value = c.requires.acts.holds.0.within }

pub returns-in_err-asked-clause-keeps : goal.returns-in_err-asked-clause-keeps
returns-in_err-asked-clause-keeps c = λ wanted g.
    let p = err_from_is_err_and c.from_residual.result c.from_residual.ensures.1 in
    rw p.1 (halted c.args.home wanted p.0 c.args.w.now c.requires.acts.ready)

pub ask_prototype-requires-clause-acts : goal.ask_prototype-requires-clause-acts
ask_prototype-requires-clause-acts c =
    let a = c.requires.acts in
    let o = rw c.in-Some.is at c.in_ok-asked.ensures.other in
    record {
      ready = a.ready;
      side = a.side;
      holds = (value-object c.args.w.now c.args.home c.in-Some.asked (rw o.0 at a.holds).0, a.holds.1);
    }

pub returns-in-Some-clause-part : goal.returns-in-Some-clause-part
returns-in-Some-clause-part c = λ f.
    let d = c.args.w.now in
    let o = rw c.in-Some.is at c.in_ok-asked.ensures.other in
    (done-other c.args.home AnObject c.ask_prototype.result d c.ask_prototype.new.w f f c.args.place
    (error_prototype c.args.kind) (Resolve (names_of d) c.args.target)
    (error_made c.args.home.0 c.args.kind (Resolve (names_of d) c.args.message)) o.1
    (rw o.0 (record { part = c.ask_prototype.ensures.part f; keeps = c.ask_prototype.ensures.keeps }))).part

pub returns-in-Some-clause-keeps : goal.returns-in-Some-clause-keeps
returns-in-Some-clause-keeps c = λ wanted g.
    keeps-fit c.args.home c.args.w.now c.ask_prototype.new.w AnObject wanted g c.ask_prototype.result
    c.ask_prototype.ensures.keeps

pub built_in-prototype-requires : goal.built_in-prototype-requires
built_in-prototype-requires c =
    rw c.error_place.ensures
    ((ready-acts c.args.w.now c.args.home c.requires.acts.ready c.requires.acts.side).built_ins _
    (prototype-there c.args.kind))

pub error_made-requires : goal.error_made-requires
error_made-requires c =
    let a = c.requires.acts in
    record {
      acts = record { ready = a.ready; side = a.side; holds = (a.holds.1.0, (c.built_in-prototype.ensures.held, tt)) };
    }

pub returns-in-None-clause-part : goal.returns-in-None-clause-part
returns-in-None-clause-part c = λ f.
    let d = c.args.w.now in
    let o = rw c.in-None.is at c.in_ok-asked.ensures.other in
    let e = c.built_in-prototype.ensures.value ∙ ap (λ (n : ℕ). let y : Val = BuiltIn n in y) c.error_place.ensures ∙
    sym (error-place c.args.kind) in
    (done-own c.args.home AnObject c.error_made.result d c.error_made.new.w f f c.args.place
    (error_prototype c.args.kind) (Resolve (names_of d) c.args.target)
    (error_made c.args.home.0 c.args.kind (Resolve (names_of d) c.args.message)) o
    (rw (← e)
    (record { part = c.error_made.ensures.part f; keeps = c.error_made.ensures.keeps AnObject refl }))).part
