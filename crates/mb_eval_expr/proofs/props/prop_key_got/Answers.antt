use Rattle.std.proofs.Common.{◌+◌, ◌≡◌, ◌∙◌, None, Ok, Option, Some, ap, refl, slice_get, sym}
use Rattle.std.proofs.lemmas.Result.{err_from_is_err_and}
use Rattle.mb_eval_expr.proofs.Keeping.{kept-halted, kept-now, kept-still, kept-then}
use Rattle.mb_eval_expr.proofs.Listing.{Part-same}
use Rattle.mb_eval_expr.proofs.PropsInOrder.{keyed-then}
use Rattle.mb_eval_expr.proofs.Propping.{from_place, no-keyed, place-grow}
use Rattle.mb_parts.proofs.Texting.{texts-changed}
use Rattle.mb_parts.proofs.Writing.{Grew-texts}
use Rattle.mb_eval_expr.specs.machine.Literals.{literal_held}
use Rattle.mb_frames.proofs.Going.{WentOn-free, WentOn-passes}
use Rattle.mb_frames.proofs.Keeping.{inside-still}
use Rattle.mb_frames.proofs.Leaving.{holds-still}
use Rattle.mb_frames.proofs.Passed.{Part-passed, Passes-by, Passes-texts}
use Rattle.mb_frames.proofs.Readying.{changed-then}
use Rattle.mb_frames.specs.Ready.{Holds}
use Rattle.mb_frames.specs.Resolved.{context_in}
use Rattle.mb_frames.specs.Rest.Expressions.{prop_keyed_at}
use Rattle.mb_frames.specs.Sorts.{AValue}
use Rattle.mb_frames.specs.Standing.{forms_at}
use Rattle.mb_model.specs.Meaning.{finished}
use Rattle.mb_model.specs.Operations.Conversions.{to_key}
use Rattle.mb_model.specs.Task.{Answer}
use Rattle.mb_model.specs.Writing.{◌>>=◌, Does, or_type_error, type_error}
use Rattle.mb_world.specs.Data.{Data}
use Rattle.mb_world.specs.Image.{Image, Resolve, key_in, names_of, object_in}
use Rattle.mb_world.specs.Key.{PropertyKey, key_of}
use Rattle.mb_eval_expr.proofs.props.prop_key_got.Goals as goal

pub prop_keyed-requires-clause-ready : goal.prop_keyed-requires-clause-ready
prop_keyed-requires-clause-ready c =
    let d = c.args.w.now in
    let d1 : Data = c.key_from.new.w in
    let home = c.args.home in
    let l = c.args.literal in
    let r = c.requires.ready in
    let t = c.in_ok-key.ensures.grew in
    let g = texts-changed home d d1 t r in
    let i = inside-still home d d1 g c.requires.acts.runs.takes_part in
    let h = c.requires.holds.1 in
    let held : Holds d home (literal_held l) = (h.0, (h.1.0, (h.1.1.0, (h.1.1.1.0, tt)))) in
    g.ready

pub prop_keyed-requires-clause-holds : goal.prop_keyed-requires-clause-holds
prop_keyed-requires-clause-holds c =
    let d = c.args.w.now in
    let d1 : Data = c.key_from.new.w in
    let home = c.args.home in
    let l = c.args.literal in
    let r = c.requires.ready in
    let t = c.in_ok-key.ensures.grew in
    let g = texts-changed home d d1 t r in
    let i = inside-still home d d1 g c.requires.acts.runs.takes_part in
    let h = c.requires.holds.1 in
    let held : Holds d home (literal_held l) = (h.0, (h.1.0, (h.1.1.0, (h.1.1.1.0, tt)))) in
    holds-still home d d1 r g (literal_held l) held

pub props_from-requires-clause-holds : goal.props_from-requires-clause-holds
props_from-requires-clause-holds c =
    let d = c.args.w.now in
    let d1 : Data = c.key_from.new.w in
    let home = c.args.home in
    let l = c.args.literal in
    let r = c.requires.ready in
    let t = c.in_ok-key.ensures.grew in
    let g = texts-changed home d d1 t r in
    let i = inside-still home d d1 g c.requires.acts.runs.takes_part in
    let h = c.requires.holds.1 in
    let held : Holds d home (literal_held l) = (h.0, (h.1.0, (h.1.1.0, (h.1.1.1.0, tt)))) in
    let held1 = holds-still home d d1 r g (literal_held l) held in
    holds-still home d1 c.prop_keyed.new.w g.ready c.prop_keyed.ensures.changed (literal_held l) held1

pub props_from-requires-in-None-definition_at-clause-ready : goal.props_from-requires-in-None-definition_at-clause-ready
props_from-requires-in-None-definition_at-clause-ready c =
    let d = c.args.w.now in
    let d1 : Data = c.key_from.new.w in
    let home = c.args.home in
    let l = c.args.literal in
    let r = c.requires.ready in
    let t = c.in_ok-key.ensures.grew in
    let g = texts-changed home d d1 t r in
    let i = inside-still home d d1 g c.requires.acts.runs.takes_part in
    let h = c.requires.holds.1 in
    let held : Holds d home (literal_held l) = (h.0, (h.1.0, (h.1.1.0, (h.1.1.1.0, tt)))) in
    g.ready

pub props_from-requires-in-None-definition_at-clause-holds : goal.props_from-requires-in-None-definition_at-clause-holds
props_from-requires-in-None-definition_at-clause-holds c =
    let d = c.args.w.now in
    let d1 : Data = c.key_from.new.w in
    let home = c.args.home in
    let l = c.args.literal in
    let r = c.requires.ready in
    let t = c.in_ok-key.ensures.grew in
    let g = texts-changed home d d1 t r in
    let i = inside-still home d d1 g c.requires.acts.runs.takes_part in
    let h = c.requires.holds.1 in
    let held : Holds d home (literal_held l) = (h.0, (h.1.0, (h.1.1.0, (h.1.1.1.0, tt)))) in
    holds-still home d d1 r g (literal_held l) held

pub returns-in_err-key-clause-keeps : goal.returns-in_err-key-clause-keeps
returns-in_err-key-clause-keeps c =
    let p = err_from_is_err_and c.from_residual.result c.from_residual.ensures.1 in
    rw (p.1, c.in_err-key.ensures.kept) (λ r i h. kept-still c.args.home c.args.w.now r)

pub returns-in_err-step-in-Some-definition_at-clause-keeps : goal.returns-in_err-step-in-Some-definition_at-clause-keeps
returns-in_err-step-in-Some-definition_at-clause-keeps c = λ q j w.
    let d = c.args.w.now in
    let d1 : Data = c.key_from.new.w in
    let home = c.args.home in
    let l = c.args.literal in
    let r = c.requires.ready in
    let t = c.in_ok-key.ensures.grew in
    let g = texts-changed home d d1 t r in
    let i = inside-still home d d1 g c.requires.acts.runs.takes_part in
    let h = c.requires.holds.1 in
    let held : Holds d home (literal_held l) = (h.0, (h.1.0, (h.1.1.0, (h.1.1.1.0, tt)))) in
    let z = c.from_residual-in_err-step-in-Some-definition_at in
    let p = err_from_is_err_and z.result z.ensures.1 in
    rw p.1 (kept-halted home d c.prop_keyed.new.w (changed-then home d d1 c.prop_keyed.new.w g
    c.prop_keyed.ensures.changed))

pub returns-in-Some-2-clause-row : goal.returns-in-Some-2-clause-row
returns-in-Some-2-clause-row c =
    let d = c.args.w.now in
    let d1 : Data = c.key_from.new.w in
    let home = c.args.home in
    let l = c.args.literal in
    let r = c.requires.ready in
    let t = c.in_ok-key.ensures.grew in
    let g = texts-changed home d d1 t r in
    let i = inside-still home d d1 g c.requires.acts.runs.takes_part in
    let h = c.requires.holds.1 in
    let held : Holds d home (literal_held l) = (h.0, (h.1.0, (h.1.1.0, (h.1.1.1.0, tt)))) in
    let n = names_of d in
    let s = home.0 in
    let f = c.args.fuel.now in
    let at = prop_keyed_at (forms_at d home) (context_in n s l.at) (object_in n l.object) c.args.property.0 in
    let k = from_place d home l (l.place + 1) in
    let p = ((to_key s (Resolve n c.args.x) >>= at) >>= (λ b. k)) finished in
    let z = key_in (names_of d1) c.in-Some.key in
    let ke : Some z ≡ key_of (Resolve n c.args.x) = rw c.in-Some.is at c.in_ok-key.ensures.key in
    let k1 = from_place d1 home l (l.place + 1) in
    let at1 = prop_keyed_at (forms_at d1 home) (context_in (names_of d1) s l.at) (object_in (names_of d1) l.object)
    c.args.property.0 z in
    let q = (at1 >>= (λ b. k1)) finished in
    let over = Passes-texts d d1 f p q t
    (λ log. ap (λ (o : Option PropertyKey). ((or_type_error s o >>= at) >>= (λ b. k)) finished (Image d log)) (sym ke)
    ∙ ap (λ (m : Does Answer). m finished (Image d log)) (keyed-then d d1 home l c.args.property z r.ids
    (Grew-texts d d1 t) held)) in
    let row = rw c.in-Some-2.is at c.in_ok-step-in-Some-definition_at.ensures.row in
    Part-passed home (Ok c.in-Some-2.step) d d1 c.prop_keyed.new.w f f f p q over (row f)

pub returns-in-Some-2-clause-keeps : goal.returns-in-Some-2-clause-keeps
returns-in-Some-2-clause-keeps c = λ q j w.
    let d = c.args.w.now in
    let d1 : Data = c.key_from.new.w in
    let home = c.args.home in
    let l = c.args.literal in
    let r = c.requires.ready in
    let t = c.in_ok-key.ensures.grew in
    let g = texts-changed home d d1 t r in
    let i = inside-still home d d1 g c.requires.acts.runs.takes_part in
    let h = c.requires.holds.1 in
    let held : Holds d home (literal_held l) = (h.0, (h.1.0, (h.1.1.0, (h.1.1.1.0, tt)))) in
    let left = rw c.in-Some-2.is at c.in_ok-step-in-Some-definition_at.ensures.leaves in
    kept-now home d c.prop_keyed.new.w (changed-then home d d1 c.prop_keyed.new.w g c.prop_keyed.ensures.changed) left

pub returns-in-None-2-clause-row : goal.returns-in-None-2-clause-row
returns-in-None-2-clause-row c =
    let d = c.args.w.now in
    let d1 : Data = c.key_from.new.w in
    let home = c.args.home in
    let l = c.args.literal in
    let r = c.requires.ready in
    let t = c.in_ok-key.ensures.grew in
    let g = texts-changed home d d1 t r in
    let i = inside-still home d d1 g c.requires.acts.runs.takes_part in
    let h = c.requires.holds.1 in
    let held : Holds d home (literal_held l) = (h.0, (h.1.0, (h.1.1.0, (h.1.1.1.0, tt)))) in
    let held1 = holds-still home d d1 r g (literal_held l) held in
    let n = names_of d in
    let s = home.0 in
    let f = c.args.fuel.now in
    let at = prop_keyed_at (forms_at d home) (context_in n s l.at) (object_in n l.object) c.args.property.0 in
    let k = from_place d home l (l.place + 1) in
    let p = ((to_key s (Resolve n c.args.x) >>= at) >>= (λ b. k)) finished in
    let z = key_in (names_of d1) c.in-Some.key in
    let ke : Some z ≡ key_of (Resolve n c.args.x) = rw c.in-Some.is at c.in_ok-key.ensures.key in
    let k1 = from_place d1 home l (l.place + 1) in
    let at1 = prop_keyed_at (forms_at d1 home) (context_in (names_of d1) s l.at) (object_in (names_of d1) l.object)
    c.args.property.0 z in
    let q = (at1 >>= (λ b. k1)) finished in
    let over = Passes-texts d d1 f p q t
    (λ log. ap (λ (o : Option PropertyKey). ((or_type_error s o >>= at) >>= (λ b. k)) finished (Image d log)) (sym ke)
    ∙ ap (λ (m : Does Answer). m finished (Image d log)) (keyed-then d d1 home l c.args.property z r.ids
    (Grew-texts d d1 t) held)) in
    let d2 = c.prop_keyed.new.w in
    let row = rw c.in-None-2.is at c.in_ok-step-in-Some-definition_at.ensures.row in
    let k2 = from_place d2 home l (l.place + 1) in
    Part-passed home c.props_from.result d d1 c.props_from.new.w f f c.props_from.new.fuel p q over
    (Part-passed home c.props_from.result d1 d2 c.props_from.new.w f f c.props_from.new.fuel q (k1 finished)
    (WentOn-passes Answer d1 d2 f f at1 row.0 (λ b. k1 finished) (WentOn-free Answer d1 d2 f at1 row.0 row.1))
    (Part-same home c.props_from.result d2 c.props_from.new.w f c.props_from.new.fuel k1 k2
    (sym (place-grow d1 d2 home l (l.place + 1) g.ready.ids row.1.grew held1))
    c.props_from.ensures.row))

pub returns-in-None-2-clause-keeps : goal.returns-in-None-2-clause-keeps
returns-in-None-2-clause-keeps c = λ q j w.
    let d = c.args.w.now in
    let d1 : Data = c.key_from.new.w in
    let home = c.args.home in
    let l = c.args.literal in
    let r = c.requires.ready in
    let t = c.in_ok-key.ensures.grew in
    let g = texts-changed home d d1 t r in
    let i = inside-still home d d1 g c.requires.acts.runs.takes_part in
    let h = c.requires.holds.1 in
    let held : Holds d home (literal_held l) = (h.0, (h.1.0, (h.1.1.0, (h.1.1.1.0, tt)))) in
    let d2 = c.prop_keyed.new.w in
    kept-then home d d2 (changed-then home d d1 d2 g c.prop_keyed.ensures.changed) c.props_from.new.w
    (record { changed = c.props_from.ensures.changed; leaves = c.props_from.ensures.leaves })

pub returns-in-None-definition_at-clause-row : goal.returns-in-None-definition_at-clause-row
returns-in-None-definition_at-clause-row c =
    let d = c.args.w.now in
    let d1 : Data = c.key_from.new.w in
    let home = c.args.home in
    let l = c.args.literal in
    let r = c.requires.ready in
    let t = c.in_ok-key.ensures.grew in
    let g = texts-changed home d d1 t r in
    let i = inside-still home d d1 g c.requires.acts.runs.takes_part in
    let h = c.requires.holds.1 in
    let held : Holds d home (literal_held l) = (h.0, (h.1.0, (h.1.1.0, (h.1.1.1.0, tt)))) in
    let n = names_of d in
    let s = home.0 in
    let f = c.args.fuel.now in
    let at = prop_keyed_at (forms_at d home) (context_in n s l.at) (object_in n l.object) c.args.property.0 in
    let k = from_place d home l (l.place + 1) in
    let p = ((to_key s (Resolve n c.args.x) >>= at) >>= (λ b. k)) finished in
    let z = key_in (names_of d1) c.in-Some.key in
    let ke : Some z ≡ key_of (Resolve n c.args.x) = rw c.in-Some.is at c.in_ok-key.ensures.key in
    let k1 = from_place d1 home l (l.place + 1) in
    let at1 = prop_keyed_at (forms_at d1 home) (context_in (names_of d1) s l.at) (object_in (names_of d1) l.object)
    c.args.property.0 z in
    let q = (at1 >>= (λ b. k1)) finished in
    let over = Passes-texts d d1 f p q t
    (λ log. ap (λ (o : Option PropertyKey). ((or_type_error s o >>= at) >>= (λ b. k)) finished (Image d log)) (sym ke)
    ∙ ap (λ (m : Does Answer). m finished (Image d log)) (keyed-then d d1 home l c.args.property z r.ids
    (Grew-texts d d1 t) held)) in
    let none = no-keyed (context_in (names_of d1) s l.at) (object_in (names_of d1) l.object) c.args.property.0
    (slice_get (forms_at d1 home) c.args.property.0) z (c.in-None-definition_at.ensures.none refl) in
    Part-passed home c.props_from-in-None-definition_at.result d d1 c.props_from-in-None-definition_at.new.w f f
    c.props_from-in-None-definition_at.new.fuel p q over
    (Part-passed home c.props_from-in-None-definition_at.result d1 d1 c.props_from-in-None-definition_at.new.w f f
    c.props_from-in-None-definition_at.new.fuel q (k1 finished)
    (Passes-by d1 f q (k1 finished) (λ log. ap (λ (m : Does Answer). (m >>= (λ b. k1)) finished (Image d1 log)) none))
    c.props_from-in-None-definition_at.ensures.row)

pub returns-in-None-definition_at-clause-keeps : goal.returns-in-None-definition_at-clause-keeps
returns-in-None-definition_at-clause-keeps c = λ q j w.
    let d = c.args.w.now in
    let d1 : Data = c.key_from.new.w in
    let home = c.args.home in
    let l = c.args.literal in
    let r = c.requires.ready in
    let t = c.in_ok-key.ensures.grew in
    let g = texts-changed home d d1 t r in
    let i = inside-still home d d1 g c.requires.acts.runs.takes_part in
    let h = c.requires.holds.1 in
    let held : Holds d home (literal_held l) = (h.0, (h.1.0, (h.1.1.0, (h.1.1.1.0, tt)))) in
    kept-then home d d1 g c.props_from-in-None-definition_at.new.w
    (record {
      changed = c.props_from-in-None-definition_at.ensures.changed;
      leaves =
          c.props_from-in-None-definition_at.ensures.leaves;
    })

pub returns-in-None-clause-row : goal.returns-in-None-clause-row
returns-in-None-clause-row c =
    let d = c.args.w.now in
    let d1 : Data = c.key_from.new.w in
    let home = c.args.home in
    let l = c.args.literal in
    let r = c.requires.ready in
    let t = c.in_ok-key.ensures.grew in
    let g = texts-changed home d d1 t r in
    let i = inside-still home d d1 g c.requires.acts.runs.takes_part in
    let h = c.requires.holds.1 in
    let held : Holds d home (literal_held l) = (h.0, (h.1.0, (h.1.1.0, (h.1.1.1.0, tt)))) in
    let n = names_of d in
    let s = home.0 in
    let f = c.args.fuel.now in
    let at = prop_keyed_at (forms_at d home) (context_in n s l.at) (object_in n l.object) c.args.property.0 in
    let k = from_place d home l (l.place + 1) in
    let p = ((to_key s (Resolve n c.args.x) >>= at) >>= (λ b. k)) finished in
    let kn : None ≡ key_of (Resolve n c.args.x) = rw c.in-None.is at c.in_ok-key.ensures.key in
    Part-passed home c.type_error.result d d1 c.type_error.new.w f f f p (type_error s finished)
    (Passes-texts d d1 f p (type_error s finished) t
    (λ log. ap (λ (o : Option PropertyKey). ((or_type_error s o >>= at) >>= (λ b. k)) finished (Image d log)) (sym kn)))
    (c.type_error.ensures.part f)

pub returns-in-None-clause-keeps : goal.returns-in-None-clause-keeps
returns-in-None-clause-keeps c = λ q j w.
    let d = c.args.w.now in
    let d1 : Data = c.key_from.new.w in
    let home = c.args.home in
    let l = c.args.literal in
    let r = c.requires.ready in
    let t = c.in_ok-key.ensures.grew in
    let g = texts-changed home d d1 t r in
    let i = inside-still home d d1 g c.requires.acts.runs.takes_part in
    let h = c.requires.holds.1 in
    let held : Holds d home (literal_held l) = (h.0, (h.1.0, (h.1.1.0, (h.1.1.1.0, tt)))) in
    kept-then home d d1 g c.type_error.new.w (c.type_error.ensures.keeps AValue g.ready i tt)
