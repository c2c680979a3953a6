use Rattle.std.proofs.Common.{◌∙◌, ap, slice_get, sym}
use Rattle.std.proofs.lemmas.Option.{slice_get-map}
use Rattle.mb_base.specs.declared.value.NodeId.{NodeId}
use Rattle.mb_call.proofs.PartsRead.{copied-at}
use Rattle.mb_call.proofs.parts.body_part.Goals as goal
use Rattle.mb_frames.specs.Rest.Parts.{body_of}
use Rattle.mb_frames.specs.Told.{number_if}

pub returns-clause-part : goal.returns-clause-part
returns-clause-part c =
    let xs = c.body_of.result.now in
    let b = c.get.ensures.lookup in
    ap number_if (c.copied.ensures ∙ copied-at xs c.args.place _ c.get.result b.1 b.3)
    ∙ sym (slice_get-map (λ (id : NodeId). id.0) xs c.args.place)
    ∙ ap (λ ns. slice_get ns c.args.place) (c.body_of.ensures.parts c.args.home c.args.w.now)
    ∙ ap (λ f. slice_get (body_of f) c.args.place) c.in_ok-form.ensures.form
