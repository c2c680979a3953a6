use Rattle.std.proofs.Common.{◌∙◌, ap, length, sym}
use Rattle.std.proofs.lemmas.List.{length-map}
use Rattle.mb_frames.specs.Rest.Parts.{parts_of}
use Rattle.mb_base.specs.declared.value.NodeId.{NodeId}
use Rattle.mb_frames.proofs.nodes.count_of.Goals as goal

pub returns-in-Some : goal.returns-in-Some
returns-in-Some c =
    sym (length-map c.list_of.result.now (λ (id : NodeId). id.0))
    ∙ ap length (c.list_of.ensures.parts c.args.home c.args.w.now)
    ∙ ap (λ f. length (parts_of f)) c.in-Some.ensures.form
