use Rattle.std.proofs.Common.{ap}
use Rattle.std.specs.Prelude.{Bool, if◌then◌else◌}
use Rattle.mb_arrayapi.proofs.Acting.{Part-same}
use Rattle.mb_arrayapi.proofs.constructing.prototype_got.Goals as goal
use Rattle.mb_call.proofs.Objects.{no-object}
use Rattle.mb_frames.proofs.HeldLess.{object-prototype, value-object}
use Rattle.mb_frames.specs.Resolved.{values_in}
use Rattle.mb_model.specs.BuiltIns.Arguments.{prototype_or}
use Rattle.mb_model.specs.BuiltIns.Arrays.{array_from}
use Rattle.mb_world.proofs.Values.{object-object}
use Rattle.mb_world.specs.Image.{Resolve, names_of, object_in}
use Rattle.mb_world.specs.Standard.{array_prototype}
use Rattle.mb_world.specs.Value.{Val}

pub array_from-requires : goal.array_from-requires
array_from-requires c =
    let d = c.args.w.now in
    let home = c.args.home in
    let a = c.requires.acts in
    let id = c.in-Object.object in
    let h = value-object d home id (rw c.in-Object.is at a.holds.0) in
    record {
      acts = record {
        ready = a.ready;
        side = a.side;
        holds = (a.holds.1.0, (object-prototype d home id h, tt));
      };
    }

pub returns-in-Object-clause-part : goal.returns-in-Object-clause-part
returns-in-Object-clause-part c = λ f.
    let d = c.args.w.now in
    let n = names_of d in
    let s = c.args.home.0 in
    let o = object_in n c.in-Object.object in
    let vs = values_in n c.args.arguments.now in
    rw c.in-Object.is
    (Part-same c.args.home c.array_from.result d c.array_from.new.w f f
    (array_from s vs (prototype_or array_prototype o)) (array_from s vs o)
    (ap (λ (b : Bool). let p : Val = if b then o else array_prototype in array_from s vs p)
    (object-object n c.in-Object.object)) (c.array_from.ensures.part f))

pub returns-in_default-clause-part : goal.returns-in_default-clause-part
returns-in_default-clause-part c = λ f.
    let d = c.args.w.now in
    let n = names_of d in
    let s = c.args.home.0 in
    let o = Resolve n c.args.got in
    let vs = values_in n c.args.arguments.now in
    Part-same c.args.home c.array_made.result d c.array_made.new.w f f
    (array_from s vs (prototype_or array_prototype o)) (array_from s vs array_prototype)
    (ap (λ (b : Bool). let p : Val = if b then o else array_prototype in array_from s vs p)
    (no-object n c.args.got c.in_default.not-Object)) (c.array_made.ensures.part f)
