use Rattle.mb_call.proofs.FieldRows.{Part-first, Part-no-fields}
use Rattle.mb_call.proofs.descriptors.todesc.Goals as goal
use Rattle.mb_frames.specs.Sorts.{desc_gives}

pub returns-in-Object-clause-part : goal.returns-in-Object-clause-part
returns-in-Object-clause-part c = λ f.
    rw c.in-Object.is
    (Part-first c.args.home c.ask_field.result c.args.w.now c.ask_field.new.w f c.args.after c.in-Object.object
    (c.ask_field.ensures.part f))

pub returns-in_default : goal.returns-in_default
returns-in_default c = record {
  part = λ f.
      Part-no-fields c.args.home c.type_error.result c.args.w.now c.type_error.new.w f c.args.after c.args.x
      c.in_default.not-Object (c.type_error.ensures.part f);
  keeps = c.type_error.ensures.keeps (desc_gives c.args.after);
}
