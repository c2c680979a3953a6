use Rattle.mb_call.proofs.descriptors.field_got.Goals as goal
use Rattle.mb_frames.proofs.Passed.{Part-by}
use Rattle.mb_frames.specs.Rest.Calls.{after_desc, fields_after}
use Rattle.mb_frames.specs.Sorts.{desc_gives}
use Rattle.mb_model.specs.Meaning.{finished}
use Rattle.mb_model.specs.Operations.Descriptors.{todesc_from}
use Rattle.mb_model.specs.Task.{Answer}
use Rattle.mb_model.specs.Writing.{◌>>=◌, Does, type_error}
use Rattle.mb_desc.specs.declared.descriptor.Desc.{Desc}
use Rattle.mb_world.specs.Image.{names_of, object_in}
use Rattle.mb_world.specs.Value.{Val}

pub returns-in-Some-clause-part : goal.returns-in-Some-clause-part
returns-in-Some-clause-part c = λ f.
    let n = names_of c.args.w.now in
    let s = c.args.home.0 in
    let next : Desc Val → Does Answer
    = λ e. todesc_from s (object_in n c.args.object) (fields_after c.args.field) e >>= after_desc n s c.args.after in
    Part-by c.args.home c.next_field.result c.args.w.now c.next_field.new.w f f _ _
    (λ log. c.in-Some.ensures.field log (λ e. next e finished)) (c.next_field.ensures.part f)

pub returns-in-None-clause-part : goal.returns-in-None-clause-part
returns-in-None-clause-part c = λ f.
    let n = names_of c.args.w.now in
    let s = c.args.home.0 in
    let next : Desc Val → Does Answer
    = λ e. todesc_from s (object_in n c.args.object) (fields_after c.args.field) e >>= after_desc n s c.args.after in
    Part-by c.args.home c.type_error.result c.args.w.now c.type_error.new.w f f _ (type_error s finished)
    (λ log. c.in-None.ensures.field log (λ e. next e finished)) (c.type_error.ensures.part f)

pub returns-in-None-clause-keeps : goal.returns-in-None-clause-keeps
returns-in-None-clause-keeps c = c.type_error.ensures.keeps (desc_gives c.args.after)
