use Rattle.std.proofs.Common.{◌∙◌, ap, length, sym}
use Rattle.std.proofs.lemmas.List.{length-map}
use Rattle.mb_base.specs.declared.value.NodeId.{NodeId}
use Rattle.mb_call.proofs.parts.body_count.Goals as goal
use Rattle.mb_frames.specs.Rest.Parts.{body_of}

pub returns-in-Some : goal.returns-in-Some
returns-in-Some c =
    sym (length-map c.body_of.result.now (λ (id : NodeId). id.0))
    ∙ ap length (c.body_of.ensures.parts c.args.home c.args.w.now)
    ∙ ap (λ f. length (body_of f)) c.in-Some.ensures.form
