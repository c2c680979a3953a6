use Rattle.std.proofs.Common.{Ok, false, refl, sym, ◌&&◌, ◌∙◌, ◌∷◌, ◌≡◌}
use Rattle.mb_call.proofs.FieldRows.{Part-mixed, Part-next, Part-whole, both-kinds, first-kind, second-kind}
use Rattle.mb_call.proofs.Fielding.{fields-desc}
use Rattle.mb_call.proofs.descriptors.next_field.Goals as goal
use Rattle.mb_call.proofs.descriptors.next_field.Goals.{else-is_data-via-else-is_data}
use Rattle.mb_call.proofs.descriptors.next_field.Goals.{else-is_data-via-then-is_data+else-is_accessor}
use Rattle.mb_call.specs.Ours.{Acts}
use Rattle.mb_desc.specs.Descriptors.{is_accessor_descriptor, is_data_descriptor}
use Rattle.mb_frames.proofs.Keeping.{keeps-same}
use Rattle.mb_frames.proofs.Passed.{Part-sure}
use Rattle.mb_frames.specs.Held.{HeldDesc}
use Rattle.mb_frames.specs.Holding.{desc_held}
use Rattle.mb_frames.specs.Sorts.{desc_gives}

pub returns-in-Some-clause-part : goal.returns-in-Some-clause-part
returns-in-Some-clause-part c = λ f.
    Part-next c.args.home c.ask_field.result c.args.w.now c.ask_field.new.w f c.args.object c.args.field c.args.desc
    c.args.after c.in-Some.next c.in-Some.ensures.next (c.ask_field.ensures.part f)

pub returns-then-is_accessor-clause-part : goal.returns-then-is_accessor-clause-part
returns-then-is_accessor-clause-part c = λ f.
    Part-mixed c.args.home c.type_error.result c.args.w.now c.type_error.new.w f c.args.object c.args.field c.args.desc
    c.args.after (c.in-None.ensures.last refl)
    (both-kinds (is_data_descriptor c.args.desc) (is_accessor_descriptor c.args.desc)
    (sym c.is_data.ensures ∙ c.if-is_data.true) (sym c.is_accessor.ensures ∙ c.if-is_accessor.true))
    (c.type_error.ensures.part f)

pub returns-then-is_accessor-clause-keeps : goal.returns-then-is_accessor-clause-keeps
returns-then-is_accessor-clause-keeps c = c.type_error.ensures.keeps (desc_gives c.args.after)

pub returns-else-is_data-clause-part : goal.returns-else-is_data-clause-part
returns-else-is_data-clause-part c = λ f.
    let d = c.args.w.now in
    let a = is_data_descriptor c.args.desc in
    let b = is_accessor_descriptor c.args.desc in
    let h = c.requires.acts.holds in
    let kind : a && b ≡ false = elim c.else-is_data.branch [
      | else-is_data-via-then-is_data+else-is_accessor w ↦
          first-kind a b (sym w.is_accessor.ensures ∙ w.if-is_accessor.false)
      | else-is_data-via-else-is_data w ↦ second-kind a b (sym c.is_data.ensures ∙ w.if-is_data.false)
    ] in
    let acts : Acts d c.args.home (HeldDesc c.args.desc ∷ desc_held c.args.after) = record {
      ready = c.requires.acts.ready;
      side = c.requires.acts.side;
      holds = (fields-desc d c.args.home c.args.desc kind h.1.0, h.1.1);
    } in
    Part-whole c.args.home (Ok c.after_desc.result) d d f c.args.object c.args.field c.args.desc c.args.after
    (c.in-None.ensures.last refl) kind
    (Part-sure c.args.home d f _ c.after_desc.result (c.after_desc.ensures.sure d acts))

pub returns-else-is_data-clause-keeps : goal.returns-else-is_data-clause-keeps
returns-else-is_data-clause-keeps c =
    let d = c.args.w.now in
    let a = is_data_descriptor c.args.desc in
    let b = is_accessor_descriptor c.args.desc in
    let h = c.requires.acts.holds in
    let kind : a && b ≡ false = elim c.else-is_data.branch [
      | else-is_data-via-then-is_data+else-is_accessor w ↦
          first-kind a b (sym w.is_accessor.ensures ∙ w.if-is_accessor.false)
      | else-is_data-via-else-is_data w ↦ second-kind a b (sym c.is_data.ensures ∙ w.if-is_data.false)
    ] in
    keeps-same c.args.home (desc_gives c.args.after) (Ok c.after_desc.result) d c.requires.acts.ready
    (c.after_desc.ensures.leaves d (record {
      ready = c.requires.acts.ready;
      side = c.requires.acts.side;
      holds = (fields-desc d c.args.home c.args.desc kind h.1.0, h.1.1);
    }))
