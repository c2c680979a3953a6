use Rattle.std.proofs.Common.{◌∙◌, Bool, ap, if◌then◌else◌}
use Rattle.mb_call.proofs.Objects.{no-object}
use Rattle.mb_call.proofs.constructions.prototype_or.Goals as goal
use Rattle.mb_frames.proofs.Constructing.{ready-prototypes}
use Rattle.mb_world.proofs.Values.{object-object}
use Rattle.mb_world.specs.Image.{Resolve, names_of, object_in}
use Rattle.mb_world.specs.Standard.{object_prototype}
use Rattle.mb_world.specs.Value.{Val}
use Rattle.std.proofs.Common.{sym}

pub built_in-requires : goal.built_in-requires
built_in-requires c = (ready-prototypes c.args.w.now c.args.home c.requires.ready c.requires.side).object

pub returns-in-Object-clause-value : goal.returns-in-Object-clause-value
returns-in-Object-clause-value c =
    let n = names_of c.args.w.now in
    let o : Val = object_in n c.in-Object.field-0 in
    rw c.in-Object.is (ap (λ (b : Bool). if b then o else object_prototype) (sym (object-object n c.in-Object.field-0)))

pub returns-in-Object-clause-held : goal.returns-in-Object-clause-held
returns-in-Object-clause-held c =
    let h = c.requires.holds.0 in
    rw c.in-Object.is (
      record { within = rw c.in-Object.is at h.within; sound = tt; own = rw c.in-Object.is at h.own },
      tt,
    )

pub returns-in_default : goal.returns-in_default
returns-in_default c =
    let n = names_of c.args.w.now in
    let y : Val = Resolve n c.args.got in
    record {
      value = c.built_in.ensures.value
          ∙ ap (λ (b : Bool). if b then y else object_prototype) (sym (no-object n c.args.got c.in_default.not-Object));
      held = (c.built_in.ensures.held, tt);
    }
