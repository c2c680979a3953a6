use Rattle.std.proofs.lemmas.Result.{err_from_is_err_and}
use Rattle.mb_frames.specs.Sorts.{AValue}
use Rattle.mb_frames.specs.Ready.{Changed}
use Rattle.mb_parts.proofs.Texting.{texts-changed}
use Rattle.mb_frames.proofs.Leaving.{holds-still}
use Rattle.mb_eval_expr.proofs.Keeping.{kept-still, kept-then, stays}
use Rattle.mb_frames.proofs.Keeping.{inside-still}
use Rattle.std.proofs.Common.{sym, ◌∙◌}
use Rattle.mb_frames.proofs.Passed.{Part-passed, Passes-texts}
use Rattle.mb_parts.proofs.Writing.{Acts-texts, Grew-texts}
use Rattle.mb_eval_expr.proofs.Placing.{HasRealNames-texts, after-grows, keyed, unkeyed}
use Rattle.mb_frames.proofs.Growing.{are-grown}
use Rattle.mb_frames.specs.Passing.{TextsGrew}
use Rattle.mb_frames.specs.Holding.{after_held}
use Rattle.mb_frames.specs.Resolved.{context_in}
use Rattle.mb_frames.specs.Rest.Expressions.{after_rest}
use Rattle.mb_frames.specs.Standing.{forms_at}
use Rattle.mb_model.specs.Meaning.{finished}
use Rattle.mb_model.specs.Nodes.References.{ToPlace, index_key_got}
use Rattle.mb_model.specs.Writing.{◌>>=◌, type_error}
use Rattle.mb_world.proofs.Grow.{ScopeIn-grows, ValueIn-grows}
use Rattle.mb_world.specs.Data.{Data}
use Rattle.mb_world.specs.Image.{Resolve, key_in, names_of}
use Rattle.mb_frames.proofs.HeldLess.{key-held}
use Rattle.mb_eval_expr.proofs.places.index_key_got.Goals as goal

pub returns-in-Some-clause-row : goal.returns-in-Some-clause-row
returns-in-Some-clause-row c = λ f.
    let d = c.args.w.now in
    let d' : Data = c.key_from.new.w in
    let n = names_of d in
    let n' = names_of d' in
    let t : TextsGrew d d' = c.in_ok-found.ensures.grew in
    let here = context_in n c.args.home.0 c.args.at in
    let p = (index_key_got here (Resolve n c.args.base) (Resolve n c.args.x) >>= after_rest (forms_at d c.args.home)
    here c.args.after) finished in
    let q = after_rest (forms_at d' c.args.home) (context_in n' c.args.home.0 c.args.at) c.args.after
    (ToPlace (Resolve n' c.args.base) (key_in n' c.in-Some.key)) finished in
    Part-passed c.args.home c.follow.result d d' c.follow.new.w f f f p q
    (Passes-texts d d' f p q t (λ log.
    keyed d c.args.home c.args.at c.args.after (Resolve n c.args.base) (Resolve n c.args.x) (key_in n' c.in-Some.key)
    (sym (rw c.in-Some.is at c.in_ok-found.ensures.key)) log
    ∙ sym (after-grows d d' c.args.home c.args.at c.args.after c.requires.acts.ids (Grew-texts d d' t)
    c.requires.at.1 c.args.base c.requires.base
    (key_in n' c.in-Some.key) log)))
    (c.follow.ensures.row f)

pub returns-in-None-clause-row : goal.returns-in-None-clause-row
returns-in-None-clause-row c = λ f.
    let d = c.args.w.now in
    let d' : Data = c.key_from.new.w in
    let n = names_of d in
    let t : TextsGrew d d' = c.in_ok-found.ensures.grew in
    let here = context_in n c.args.home.0 c.args.at in
    let p = (index_key_got here (Resolve n c.args.base) (Resolve n c.args.x) >>= after_rest (forms_at d c.args.home)
    here c.args.after) finished in
    Part-passed c.args.home c.type_error.result d d' c.type_error.new.w f f f p (type_error c.args.home.0 finished)
    (Passes-texts d d' f p (type_error c.args.home.0 finished) t
    (unkeyed d c.args.home c.args.at c.args.after (Resolve n c.args.base) (Resolve n c.args.x)
    (sym (rw c.in-None.is at c.in_ok-found.ensures.key))))
    (c.type_error.ensures.part f)

pub follow-requires : goal.follow-requires
follow-requires c =
    let d = c.args.w.now in
    let d' : Data = c.key_from.new.w in
    let t : TextsGrew d d' = c.in_ok-found.ensures.grew in
    let g = t.becomes.grows in
    record {
      acts = Acts-texts d d' c.args.home t c.requires.acts;
      at = (ScopeIn-grows d d' g c.args.at.scope c.requires.at.0, ValueIn-grows d d' g c.args.at.this c.requires.at.1);
      real = HasRealNames-texts d d' t c.requires.real;
      after = are-grown d d' g (after_held c.args.after) c.requires.after;
      to = (ValueIn-grows d d' g c.args.base c.requires.base, ((rw c.in-Some.is at c.in_ok-found.ensures.within), tt));
    }

pub type_error-requires : goal.type_error-requires
type_error-requires c =
    Acts-texts c.args.w.now c.key_from.new.w c.args.home c.in_ok-found.ensures.grew c.requires.acts

pub returns-in-Some-clause-keeps : goal.returns-in-Some-clause-keeps
returns-in-Some-clause-keeps c = λ r i h.
    let d = c.args.w.now in
    let d' : Data = c.key_from.new.w in
    let o = c.args.home in
    let g : Changed o d d' = texts-changed o d d' c.in_ok-found.ensures.grew r in
    kept-then o d d' g c.follow.new.w
    (c.follow.ensures.keeps g.ready (inside-still o d d' g i) (
      stays o d d' g r h.1.0,
      (
        stays o d d' g r h.1.1.0,
        (
          stays o d d' g r h.1.1.1.0,
          (
            key-held d' o c.in-Some.key (rw c.in-Some.is at c.in_ok-found.ensures.within),
            holds-still o d d' r g (after_held c.args.after) h.1.1.1.1,
          ),
        ),
      ),
    ))

pub returns-in-None-clause-keeps : goal.returns-in-None-clause-keeps
returns-in-None-clause-keeps c = λ r i h.
    let d = c.args.w.now in
    let d' : Data = c.key_from.new.w in
    let o = c.args.home in
    let g : Changed o d d' = texts-changed o d d' c.in_ok-found.ensures.grew r in
    kept-then o d d' g c.type_error.new.w (c.type_error.ensures.keeps AValue g.ready (inside-still o d d' g i) tt)

pub returns-in_err-found-clause-keeps : goal.returns-in_err-found-clause-keeps
returns-in_err-found-clause-keeps c =
    let p = err_from_is_err_and c.from_residual.result c.from_residual.ensures.1 in
    rw (p.1, c.in_err-found.ensures.kept) (λ r i h. kept-still c.args.home c.args.w.now r)
