use Rattle.std.proofs.Common.{Ok, ap, refl, ◌∙◌, ◌≡◌}
use Rattle.mb_call.proofs.Deleting.{delete-changed, delete-part, free-shown}
use Rattle.mb_call.proofs.Showing.{at-some}
use Rattle.mb_call.proofs.Things.{no-membrane}
use Rattle.mb_call.proofs.changing.delete_key.Goals as goal
use Rattle.mb_frames.proofs.Keeping.{keeps-left}
use Rattle.mb_frames.proofs.Passed.{Part-by}
use Rattle.mb_frames.specs.Sorts.{AFlag}
use Rattle.mb_model.specs.Meaning.{finished}
use Rattle.mb_model.specs.Objects.Methods.{ordinary, ordinary_delete}
use Rattle.mb_model.specs.Task.{Delete}
use Rattle.mb_ordinary.specs.Definitions.{as_deleted, deleted_at, is_loose, without_if}
use Rattle.mb_props.specs.Table.{found}
use Rattle.mb_rules.specs.Seen.{graph_of}
use Rattle.mb_world.specs.Data.{Data, property_at, property_in}
use Rattle.mb_world.specs.Image.{Image, key_in, names_of, object_at, object_in}
use Rattle.mb_world.specs.Ordinary.{deleted}

pub returns-clause-part : goal.returns-clause-part
returns-clause-part c = λ home viewer a free f t e.
    let d = c.args.w.now in
    let n = names_of d in
    let id = c.args.object in
    let o = object_in n id in
    let name = key_in n c.args.key in
    let b = c.delete.result in
    let x = without_if b d id c.args.key in
    let k = c.cell.result.now in
    let there = c.cell.ensures.value in
    let m = no-membrane d a.ready home id a.holds.0 k there (rw there at c.requires.ordinary) in
    let q = found k.props c.args.key in
    let there_is = ap (property_in c.args.key) there in
    let meant = at-some (λ t. deleted_at d c.args.key t ≡ as_deleted b (object_at c.delete.new.w id)
    (property_at d id c.args.key))
    (object_at d id) t e c.delete.ensures.meant in
    let told : deleted_at d c.args.key t ≡ as_deleted b (object_at x id) q
    = meant ∙ ap (λ (z : Data). as_deleted b (object_at z id) (property_at d id c.args.key)) c.delete.ensures.removed
    ∙ ap (as_deleted b (object_at x id)) there_is in
    rw c.delete.ensures.removed
    (Part-by home (Ok c.yes_or_no.result) d x f f (ordinary home.0 viewer.0 o t (Delete name) finished)
    (ordinary_delete o (as_deleted b (object_at x id) q) finished)
    (λ log.
    ap (λ z. ordinary_delete o (deleted t name z) finished (Image d log))
    (free-shown (graph_of d) viewer.0 t name (free t e))
    ∙ ap (λ z. ordinary_delete o z finished (Image d log)) told)
    (delete-part d a.ready home id a.holds.0 k there m c.texts-texts.ensures.distinct c.get-there.ensures.distinct
    c.args.key
    c.requires.key c.yes_or_no.result f q refl b (c.delete.ensures.answer ∙ ap is_loose there_is)
    (λ z. c.yes_or_no.ensures.sure home z)))

pub returns-clause-keeps : goal.returns-clause-keeps
returns-clause-keeps c = λ home a.
    let d = c.args.w.now in
    let id = c.args.object in
    let b = c.delete.result in
    let x = without_if b d id c.args.key in
    let k = c.cell.result.now in
    let there = c.cell.ensures.value in
    let m = no-membrane d a.ready home id a.holds.0 k there (rw there at c.requires.ordinary) in
    rw c.delete.ensures.removed
    (keeps-left home AFlag c.yes_or_no.result d x
    (delete-changed d a.ready home id a.holds.0 k there m c.texts-texts.ensures.distinct c.get-there.ensures.distinct
    c.args.key
    c.requires.key (found k.props c.args.key) refl b
    (c.delete.ensures.answer ∙ ap is_loose (ap (property_in c.args.key) there)))
    (c.yes_or_no.ensures.leaves home x))
