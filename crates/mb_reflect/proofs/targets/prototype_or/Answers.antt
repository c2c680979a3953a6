use Rattle.std.proofs.Common.{◌∙◌, Bool, ap, if◌then◌else◌, sym}
use Rattle.mb_call.proofs.Objects.{no-object}
use Rattle.mb_parts.proofs.Acting.{ready-acts}
use Rattle.mb_reflect.proofs.targets.prototype_or.Goals as goal
use Rattle.mb_world.proofs.Values.{object-object}
use Rattle.mb_world.specs.Image.{Resolve, names_of, object_in}
use Rattle.mb_world.specs.Value.{BuiltIn, Val}

pub built_in-requires : goal.built_in-requires
built_in-requires c =
    (ready-acts c.args.w.now c.args.home c.requires.acts.ready c.requires.acts.side).built_ins c.args.place
    c.requires.place

pub returns-in-Object-clause-value : goal.returns-in-Object-clause-value
returns-in-Object-clause-value c =
    let n = names_of c.args.w.now in
    let o : Val = object_in n c.in-Object.field-0 in
    rw c.in-Object.is
    (ap (λ (b : Bool). if b then o else BuiltIn c.args.place) (sym (object-object n c.in-Object.field-0)))

pub returns-in-Object-clause-held : goal.returns-in-Object-clause-held
returns-in-Object-clause-held c =
    let h = c.requires.acts.holds.0 in
    rw c.in-Object.is (
      record { within = rw c.in-Object.is at h.within; sound = tt; own = rw c.in-Object.is at h.own },
      tt,
    )

pub returns-in_default : goal.returns-in_default
returns-in_default c =
    let n = names_of c.args.w.now in
    let y : Val = Resolve n c.args.got in
    record {
      value = c.built_in.ensures.value
          ∙ ap (λ (b : Bool). if b then y else BuiltIn c.args.place)
          (sym (no-object n c.args.got c.in_default.not-Object));
      held = (c.built_in.ensures.held, tt);
    }
