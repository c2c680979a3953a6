use Rattle.std.proofs.Common.{◌≡◌, ◌∙◌, ◌∷◌, Err, List, Option, Some, [], ap, arith, drop, length, refl, slice_get, sym}
use Rattle.std.proofs.Common.{ℕ}
use Rattle.std.proofs.lemmas.Result.{err_from_is_err_and}
use Rattle.std.specs.Prelude.{unwrap_or}
use Rattle.mb_base.specs.declared.value.Value.{Value}
use Rattle.mb_base.specs.declared.value.Value.TheVariants as v
use Rattle.mb_call.proofs.FunctionNames.{drop-none}
use Rattle.mb_call.proofs.Params.{bound-all, bound-more, given-held}
use Rattle.mb_call.proofs.entering.bind_params.Goals as goal
use Rattle.mb_call.proofs.entering.bind_params.Goals.{In-Some}
use Rattle.mb_call.specs.machine.Functions.{params_at}
use Rattle.mb_frames.proofs.Forms.{forms-grow, ready-runs}
use Rattle.mb_frames.proofs.HeldLess.{text-held}
use Rattle.mb_frames.proofs.Keeping.{inside-still}
use Rattle.mb_frames.proofs.Leaving.{holds-still}
use Rattle.mb_frames.proofs.Readying.{changed-same, changed-then}
use Rattle.mb_frames.specs.Held.{HeldScope, HeldValues}
use Rattle.mb_frames.specs.Keeping.{none_held}
use Rattle.mb_frames.specs.Resolved.{values_in}
use Rattle.mb_frames.specs.Standing.{forms_at}
use Rattle.mb_model.specs.Nodes.Functions.{bind_params}
use Rattle.mb_parts.proofs.Answering.{answer-then}
use Rattle.mb_parts.proofs.Places.{not-past}
use Rattle.mb_world.specs.Form.{Form}
use Rattle.mb_world.specs.Image.{Image, names_of, text_in}
use Rattle.mb_world.specs.Value.{Val}

pub param_count-place-end-requires : goal.param_count-place-end-requires
param_count-place-end-requires c = ready-runs c.args.w.now c.args.home c.requires.acts.ready c.requires.acts.side

pub param_name-requires : goal.param_name-requires
param_name-requires c =
    let i = c.loop-place.invariant in
    ready-runs c.loop-place.w c.args.home i.kept.ready
    (inside-still c.args.home c.args.w.now c.loop-place.w i.kept c.requires.acts.side)

pub initialize-requires-clause-scope : goal.initialize-requires-clause-scope
initialize-requires-clause-scope c =
    (holds-still c.args.home c.args.w.now c.loop-place.w c.requires.acts.ready c.loop-place.invariant.kept
    (HeldScope c.args.scope ∷ HeldValues c.args.arguments.now ∷ []) c.requires.acts.holds).0.within

pub initialize-requires-clause-value : goal.initialize-requires-clause-value
initialize-requires-clause-value c =
    let h = holds-still c.args.home c.args.w.now c.loop-place.w c.requires.acts.ready c.loop-place.invariant.kept
    (HeldScope c.args.scope ∷ HeldValues c.args.arguments.now ∷ []) c.requires.acts.holds in
    rw (c.unwrap_or-given.ensures, c.at.ensures)
    (given-held c.loop-place.w c.args.home c.args.arguments.now c.loop-place.place h.1.0).within

pub unreachable-requires : goal.unreachable-requires
unreachable-requires c =
    let d = c.args.w.now in
    let e = ap (λ (fs : List Form). length (params_at fs c.args.node.0))
    (forms-grow d c.loop-place.w c.args.home c.requires.acts.ready.ids c.loop-place.invariant.kept.found.grew) in
    not-past (params_at (forms_at c.loop-place.w c.args.home) c.args.node.0) c.loop-place.place c.in-None.ensures.name
    (omega (arith, e, c.loop-place-test.true, c.param_count-place-end.ensures))

pub returns-clause-changes : goal.returns-clause-changes
returns-clause-changes c =
    let i = c.loop-place.invariant in
    bound-all c.args.w.now c.loop-place.w c.args.scope (params_at (forms_at c.args.w.now c.args.home) c.args.node.0)
    c.args.arguments.now c.loop-place.place i.kept.found.grew i.trace i.same
    (omega (arith, c.loop-place-test.false, c.param_count-place-end.ensures))

pub returns-clause-keeps : goal.returns-clause-keeps
returns-clause-keeps c = record { changed = c.loop-place.invariant.kept; holds = tt }

pub loop-place-init : goal.loop-place-init
loop-place-init c =
    let d = c.args.w.now in
    let xs = params_at (forms_at d c.args.home) c.args.node.0 in
    let vs = values_in (names_of d) c.args.arguments.now in
    record {
      same = λ k log.
          ap (λ (ys : List (List ℕ)). bind_params c.args.scope.0 ys vs k (Image d log)) (sym (drop-none xs))
          ∙ ap (λ (ws : List Val). bind_params c.args.scope.0 (drop 0 xs) ws k (Image d log)) (sym (drop-none vs));
      trace = refl;
      kept = changed-same c.args.home d c.requires.acts.ready;
    }

-- ---- one turn

-- what stands for the name that is given its value
there : (c : In-Some) → slice_get (params_at (forms_at c.args.w.now c.args.home) c.args.node.0) c.loop-place.place
    ≡ Some (text_in (names_of c.loop-place.w) c.in-Some.name)
there c =
    ap (λ (fs : List Form). slice_get (params_at fs c.args.node.0) c.loop-place.place)
    (sym (forms-grow c.args.w.now c.loop-place.w c.args.home c.requires.acts.ready.ids
    c.loop-place.invariant.kept.found.grew))
    ∙ sym c.in-Some.ensures.name

pub loop-place-preserved : goal.loop-place-preserved
loop-place-preserved c =
    let home = c.args.home in
    let d = c.args.w.now in
    let d1 = c.loop-place.w in
    let i = c.loop-place.invariant in
    let a = c.requires.acts in
    let q = c.in_ok-initialize-in-Some.ensures.changes in
    let w = c.unwrap_or-given.ensures ∙ ap (λ (o : Option Value). unwrap_or o v.Undefined) c.at.ensures in
    let h = holds-still home d d1 a.ready i.kept (HeldScope c.args.scope ∷ HeldValues c.args.arguments.now ∷ [])
    a.holds in
    let g = given-held d1 home c.args.arguments.now c.loop-place.place h.1.0 in
    let u = c.in_ok-initialize-in-Some.ensures.keeps home i.kept.ready (inside-still home d d1 i.kept a.side)
    (h.0, (text-held d1 home c.in-Some.name c.in-Some.ensures.text, (rw w g, tt))) in
    record {
      same = λ k log.
          bound-more d d1 c.args.scope (params_at (forms_at d home) c.args.node.0) c.args.arguments.now
          c.loop-place.place
          i.kept.found.grew i.trace i.same c.initialize.new.w (text_in (names_of d1) c.in-Some.name)
          c.unwrap_or-given.result k log (there (goal.at.loop-place-preserved c).In-Some) w
          (rw w (given-held d home c.args.arguments.now c.loop-place.place a.holds.1.0).within) q;
      trace = q.trace ∙ i.trace;
      kept = changed-then home d d1 c.initialize.new.w i.kept u.changed;
    }

pub returns-in_err-initialize-in-Some-clause-keeps : goal.returns-in_err-initialize-in-Some-clause-keeps
returns-in_err-initialize-in-Some-clause-keeps c =
    let home = c.args.home in
    let d = c.args.w.now in
    let d1 = c.loop-place.w in
    let i = c.loop-place.invariant in
    let a = c.requires.acts in
    let w = c.unwrap_or-given.ensures ∙ ap (λ (o : Option Value). unwrap_or o v.Undefined) c.at.ensures in
    let h = holds-still home d d1 a.ready i.kept (HeldScope c.args.scope ∷ HeldValues c.args.arguments.now ∷ [])
    a.holds in
    let g = given-held d1 home c.args.arguments.now c.loop-place.place h.1.0 in
    let p = err_from_is_err_and c.from_residual.result c.from_residual.ensures.1 in
    rw (p.1, p.2)
    (answer-then none_held home (Err c.in_err-initialize-in-Some.field-0.0) d d1 c.initialize.new.w i.kept
    (c.in_err-initialize-in-Some.ensures.keeps home i.kept.ready (inside-still home d d1 i.kept a.side)
    (h.0, (text-held d1 home c.in-Some.name c.in-Some.ensures.text, (rw w g, tt)))))
