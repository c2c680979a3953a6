use Rattle.std.proofs.Common.{Ok, [], length, ◌∷◌}
use Rattle.std.proofs.lemmas.List.{length-map}
use Rattle.std.proofs.lemmas.Result.{err_from_is_err_and}
use Rattle.mb_arrayapi.proofs.Acting.{Part-same, halts-after}
use Rattle.mb_arrayapi.proofs.ArrayFrom.{Part-given, given-kept}
use Rattle.mb_arrayapi.proofs.constructing.array_from.Goals as goal
use Rattle.mb_base.specs.declared.value.Value.TheVariants as v
use Rattle.mb_frames.specs.Held.{HeldPrototype, HeldValues}
use Rattle.mb_frames.specs.Resolved.{values_in}
use Rattle.mb_frames.specs.Sorts.{AnObject}
use Rattle.mb_frames.specs.declared.frame.Move.TheVariants as move
use Rattle.mb_frames.specs.declared.task.Answer.TheVariants as a
use Rattle.mb_frames.specs.declared.task.Outcome.TheVariants as o
use Rattle.mb_model.specs.BuiltIns.Arrays.{array_filled, array_from, array_make}
use Rattle.mb_model.specs.Writing.{range_error}
use Rattle.mb_world.specs.Image.{Resolve, names_of}

pub make_array-requires : goal.make_array-requires
make_array-requires c =
    let b = c.requires.acts in
    record { acts = record { ready = b.ready; side = b.side; holds = (b.holds.1.0, tt) } }

pub returns-in_err-array-in-Some-Some-clause-keeps : goal.returns-in_err-array-in-Some-Some-clause-keeps
returns-in_err-array-in-Some-Some-clause-keeps c =
    let held = HeldValues c.args.arguments.now ∷ HeldPrototype c.args.prototype ∷ [] in
    let p = err_from_is_err_and c.from_residual.result c.from_residual.ensures.1 in
    rw p.1
    (halts-after c.args.w.now c.args.home held c.requires.acts c.make_array.new.w
    c.in_err-array-in-Some-Some.ensures.keeps.changed AnObject p.0)

pub returns-in_ok-array-in-Some-Some-clause-part : goal.returns-in_ok-array-in-Some-Some-clause-part
returns-in_ok-array-in-Some-Some-clause-part c = λ f.
    let d = c.args.w.now in
    let n = names_of d in
    let s = c.args.home.0 in
    let p = Resolve n c.args.prototype in
    let vs = values_in n c.args.arguments.now in
    let e = rw c.in-Some-Some.field-0-is at (rw c.in-Some-Some.is at c.array_length.ensures) in
    let go = move.Done (o.Normal (a.Value (v.Object c.in_ok-array-in-Some-Some.array))) in
    rw c.value.ensures
    (Part-same c.args.home (Ok go) d c.make_array.new.w f f (array_from s vs p) (array_make s c.in-Some-Some.length p)
    (e n s p)
    (Part-given c.args.home d c.make_array.new.w s c.in-Some-Some.length p [] c.in_ok-array-in-Some-Some.array
    c.in_ok-array-in-Some-Some.ensures.makes c.in_ok-array-in-Some-Some.ensures.keeps.holds.0 f))

pub returns-in_ok-array-in-Some-Some-clause-keeps : goal.returns-in_ok-array-in-Some-Some-clause-keeps
returns-in_ok-array-in-Some-Some-clause-keeps c =
    let d = c.args.w.now in
    let p = Resolve (names_of d) c.args.prototype in
    let r = c.in_ok-array-in-Some-Some in
    rw c.value.ensures
    (given-kept c.args.home d c.make_array.new.w c.args.home.0 c.in-Some-Some.length p [] r.array r.ensures.makes
    r.ensures.keeps.holds.0 r.ensures.keeps.changed)

pub returns-in-Some-None-clause-part : goal.returns-in-Some-None-clause-part
returns-in-Some-None-clause-part c = λ f.
    let d = c.args.w.now in
    let n = names_of d in
    let s = c.args.home.0 in
    let p = Resolve n c.args.prototype in
    let vs = values_in n c.args.arguments.now in
    let e = rw c.in-Some-None.field-0-is at (rw c.in-Some-None.is at c.array_length.ensures) in
    Part-same c.args.home c.range_error.result d c.range_error.new.w f f (array_from s vs p) (range_error s) (e n s p)
    (c.range_error.ensures.part f)

pub returns-in-Some-None-clause-keeps : goal.returns-in-Some-None-clause-keeps
returns-in-Some-None-clause-keeps c = c.range_error.ensures.keeps AnObject

pub make_filled-requires : goal.make_filled-requires
make_filled-requires c =
    let b = c.requires.acts in
    record { acts = record { ready = b.ready; side = b.side; holds = (b.holds.1.0, (b.holds.0, tt)) } }

pub returns-in_err-filled-in-None-clause-keeps : goal.returns-in_err-filled-in-None-clause-keeps
returns-in_err-filled-in-None-clause-keeps c =
    let held = HeldValues c.args.arguments.now ∷ HeldPrototype c.args.prototype ∷ [] in
    let q = c.from_residual-in_err-filled-in-None in
    let p = err_from_is_err_and q.result q.ensures.1 in
    rw p.1
    (halts-after c.args.w.now c.args.home held c.requires.acts c.make_filled.new.w
    c.in_err-filled-in-None.ensures.keeps.changed AnObject p.0)

pub returns-in_ok-filled-in-None-clause-part : goal.returns-in_ok-filled-in-None-clause-part
returns-in_ok-filled-in-None-clause-part c = λ f.
    let d = c.args.w.now in
    let n = names_of d in
    let s = c.args.home.0 in
    let p = Resolve n c.args.prototype in
    let vs = values_in n c.args.arguments.now in
    let e = rw c.in-None.is at c.array_length.ensures in
    let r = c.in_ok-filled-in-None in
    let go = move.Done (o.Normal (a.Value (v.Object r.filled))) in
    rw c.value-in-None.ensures
    (Part-same c.args.home (Ok go) d c.make_filled.new.w f f (array_from s vs p) (array_filled s vs p) (e n s p)
    (rw (length-map c.args.arguments.now (Resolve n))
    (Part-given c.args.home d c.make_filled.new.w s (length c.args.arguments.now) p vs r.filled
    r.ensures.makes r.ensures.keeps.holds.0 f)))

pub returns-in_ok-filled-in-None-clause-keeps : goal.returns-in_ok-filled-in-None-clause-keeps
returns-in_ok-filled-in-None-clause-keeps c =
    let d = c.args.w.now in
    let n = names_of d in
    let r = c.in_ok-filled-in-None in
    rw c.value-in-None.ensures
    (given-kept c.args.home d c.make_filled.new.w c.args.home.0 (length c.args.arguments.now)
    (Resolve n c.args.prototype) (values_in n c.args.arguments.now) r.filled r.ensures.makes
    r.ensures.keeps.holds.0 r.ensures.keeps.changed)
