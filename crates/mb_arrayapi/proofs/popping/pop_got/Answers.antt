use Rattle.std.proofs.Common.{◌∷◌, [], refl}
use Rattle.std.proofs.lemmas.Result.{err_from_is_err_and}
use Rattle.mb_arrayapi.proofs.Acting.{halts}
use Rattle.mb_arrayapi.proofs.MemberRows.{Part-deletes, deletes-kept}
use Rattle.mb_arrayapi.proofs.popping.pop_got.Goals as goal
use Rattle.mb_frames.specs.Held.{HeldObject, HeldValue}
use Rattle.mb_frames.specs.Sorts.{AValue}
use Rattle.mb_frames.specs.declared.arrays.ArrayFrame.TheVariants as y
use Rattle.mb_model.specs.BuiltIns.ArrayMembers.{pop_deleted}
use Rattle.mb_world.specs.Arrays.{index_key}
use Rattle.mb_world.specs.Image.{Resolve, names_of, object_in}

pub returns-in_err-key-clause-keeps : goal.returns-in_err-key-clause-keeps
returns-in_err-key-clause-keeps c =
    let p = err_from_is_err_and c.from_residual.result c.from_residual.ensures.1 in
    rw (p.1, c.in_err-key.ensures.kept)
    (halts c.args.w.now c.args.home (HeldValue c.args.x ∷ HeldObject c.args.object ∷ []) c.requires.acts AValue p.0)

pub returns-clause-part : goal.returns-clause-part
returns-clause-part c = λ f.
    let d = c.args.w.now in
    let n = names_of d in
    let h = c.requires.acts.holds in
    rw c.waits.ensures
    (Part-deletes c.args.home d c.index_key.new.w c.in_ok-key.ensures.grew c.requires.acts.ready
    (y.PopDeleted c.args.object c.args.place c.args.x) (h.1.0, (h.0, tt)) c.in_ok-key.key c.in_ok-key.ensures.within
    c.args.object h.1.0 (index_key c.args.place) c.in_ok-key.ensures.key f
    (pop_deleted c.args.home.0 (object_in n c.args.object) c.args.place (Resolve n c.args.x)) refl)

pub returns-clause-keeps : goal.returns-clause-keeps
returns-clause-keeps c =
    let d = c.args.w.now in
    let h = c.requires.acts.holds in
    rw c.waits.ensures
    (deletes-kept c.args.home d c.index_key.new.w c.in_ok-key.ensures.grew c.requires.acts.ready
    (y.PopDeleted c.args.object c.args.place c.args.x) (h.1.0, (h.0, tt)) c.in_ok-key.key c.in_ok-key.ensures.within
    c.args.object h.1.0 (index_key c.args.place) c.in_ok-key.ensures.key AValue refl refl)
