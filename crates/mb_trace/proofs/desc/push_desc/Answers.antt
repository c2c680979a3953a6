use Rattle.std.proofs.Common.{[], ◌∙◌}
use Rattle.mb_world.specs.Image.{seen_in, desc_in}
use Rattle.mb_world.specs.EntryLine.{fields_seen}
use Rattle.mb_trace.specs.machine.Told.{numbered}
use Rattle.mb_trace.proofs.Fields.{braced}
use Rattle.mb_trace.proofs.desc.push_desc.Goals as goal

pub returns : goal.returns
returns c =
    let fields =
    c.in_ok-push_flag_field.ensures []
    ∙ c.in_ok-later-5.ensures _
    ∙ c.in_ok-later-4.ensures _
    ∙ c.in_ok-later-3.ensures _
    ∙ c.in_ok-later-2.ensures _
    ∙ c.in_ok-later.ensures _ in
    braced c.args.out.now.items c.push.new.self.items c.push_flag_field-3.new.out.items c.push-2.new.self.items c.in_ok-push_flag_field.field-0
    (fields_seen (numbered c.args.w.now) (desc_in (seen_in c.args.w.now.texts) c.args.desc))
    c.in_ok-push.ensures.items fields c.in_ok-push-2.ensures.items
