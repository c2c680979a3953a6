use Rattle.std.proofs.Common.{[], ap, ◌∷◌}
use Rattle.std.proofs.lemmas.Result.{err_from_is_err_and}
use Rattle.mb_frames.proofs.Keeping.{inside-still}
use Rattle.mb_frames.proofs.Leaving.{holds-still}
use Rattle.mb_frames.proofs.Readying.{changed-same, changed-then}
use Rattle.mb_frames.specs.Held.{HeldObject}
use Rattle.mb_model.specs.BuiltIns.ProxyMaking.{revoker_thing}
use Rattle.mb_parts.proofs.Texting.{texts-changed}
use Rattle.mb_scriptproxy.proofs.Pairs.{makes-texts}
use Rattle.mb_scriptproxy.proofs.making.new_revoker.Goals as goal
use Rattle.mb_world.specs.Image.{names_of, object_in}

pub bare_revoker-requires-clause-acts : goal.bare_revoker-requires-clause-acts
bare_revoker-requires-clause-acts c =
    let d = c.args.w.now in
    let d' = c.word.new.w in
    let home = c.args.home in
    let a = c.requires.acts in
    let g = texts-changed home d d' c.in_ok-empty.ensures.grew a.ready in
    record {
      ready = g.ready;
      side = inside-still home d d' g a.side;
      holds = holds-still home d d' a.ready g (HeldObject c.args.proxy ∷ []) a.holds;
    }

pub returns-clause-makes : goal.returns-clause-makes
returns-clause-makes c =
    let d = c.args.w.now in
    let d' = c.word.new.w in
    let t = c.in_ok-empty.ensures.grew in
    let s = c.args.home.0 in
    makes-texts c.bare_revoker.result d d' c.bare_revoker.new.w
    (revoker_thing s (object_in (names_of d) c.args.proxy)) (revoker_thing s (object_in (names_of d') c.args.proxy)) t
    (ap (revoker_thing s) (t.becomes.grows.same_object c.args.proxy c.requires.acts.holds.0.within))
    c.bare_revoker.ensures.makes

pub returns-clause-keeps : goal.returns-clause-keeps
returns-clause-keeps c =
    let d = c.args.w.now in
    let d' = c.word.new.w in
    let home = c.args.home in
    let g = texts-changed home d d' c.in_ok-empty.ensures.grew c.requires.acts.ready in
    let k = c.bare_revoker.ensures.keeps in
    record { changed = changed-then home d d' c.bare_revoker.new.w g k.changed; holds = k.holds }

pub returns-in_err-empty-clause-keeps : goal.returns-in_err-empty-clause-keeps
returns-in_err-empty-clause-keeps c =
    let p = err_from_is_err_and c.from_residual.result c.from_residual.ensures.1 in
    rw (p.1, c.in_err-empty.ensures.kept)
    (record { changed = changed-same c.args.home c.args.w.now c.requires.acts.ready; holds = tt })
