use Rattle.std.proofs.Common.{◌<◌, ◌≡◌, ◌≤◌, ◌∙◌, Bor, List, None, Option, Some, ap, get_or, length, refl, slice_get, sym, ℕ}
use Rattle.std.specs.Option.{option_copied}
use Rattle.std.specs.Prelude.{IfSome, MatchOption}
use Rattle.std.proofs.lemmas.Option.{slice_get-map, slice_get_past, slice_get_read}
use Rattle.mb_base.specs.declared.value.NodeId.{NodeId}
use Rattle.mb_frames.specs.Rest.Parts.{parts_of}
use Rattle.mb_frames.specs.Told.{number_if}
use Rattle.mb_frames.proofs.nodes.part_at.Goals as goal

copied : (xs : List NodeId) (i : ℕ) (P : Bor NodeId → Type 0) (r : Option (Bor NodeId))
    → IfSome r (λ x. x.now ≡ get_or xs i x.now) → MatchOption r (length xs ≤ i) (λ x. (i < length xs) × P x)
    → option_copied r ≡ slice_get xs i
copied xs i P None h m = sym (slice_get_past xs i m)
copied xs i P (Some x) h m = sym (slice_get_read xs (length xs) i x.now refl m.0 h)

pub returns-clause-part : goal.returns-clause-part
returns-clause-part c =
    let xs = c.list_of.result.now in
    let b = c.get.ensures.lookup in
    ap number_if (c.copied.ensures ∙ copied xs c.args.place _ c.get.result b.1 b.3)
    ∙ sym (slice_get-map (λ (id : NodeId). id.0) xs c.args.place)
    ∙ ap (λ ns. slice_get ns c.args.place) (c.list_of.ensures.parts c.args.home c.args.w.now)
    ∙ ap (λ f. slice_get (parts_of f) c.args.place) c.in_ok-form.ensures.form
