use Rattle.std.proofs.Common.{◌∙◌, Err, List, ap, arith, length, refl, slice_get, sym, ℕ}
use Rattle.std.proofs.lemmas.Result.{err_from_is_err_and}
use Rattle.mb_call.proofs.FunctionNames.{drop-none}
use Rattle.mb_call.proofs.entering.declare.Goals as goal
use Rattle.mb_frames.proofs.Constructing.{ready-prototypes}
use Rattle.mb_frames.proofs.Forms.{forms-grow, ready-runs}
use Rattle.mb_frames.proofs.Keeping.{inside-still}
use Rattle.mb_frames.proofs.Leaving.{holds-still}
use Rattle.mb_frames.proofs.Readying.{changed-same, changed-then}
use Rattle.mb_frames.specs.Keeping.{none_held, scope_held}
use Rattle.mb_frames.specs.Rest.Parts.{body_at}
use Rattle.mb_frames.specs.Standing.{forms_at}
use Rattle.mb_model.specs.Nodes.Scopes.{declare}
use Rattle.mb_parts.proofs.Answering.{answer-then}
use Rattle.mb_parts.proofs.Declaring.{made-all, made-more}
use Rattle.mb_parts.proofs.Places.{not-past}
use Rattle.mb_world.specs.Form.{Form}
use Rattle.mb_world.specs.Image.{Image}

pub body_count-place-end-requires : goal.body_count-place-end-requires
body_count-place-end-requires c = ready-runs c.args.w.now c.args.home c.requires.acts.ready c.requires.acts.side

pub body_part-requires : goal.body_part-requires
body_part-requires c =
    let i = c.loop-place.invariant in
    ready-runs c.loop-place.w c.args.home i.kept.ready
    (inside-still c.args.home c.args.w.now c.loop-place.w i.kept c.requires.acts.side)

pub declare_one-requires-clause-world : goal.declare_one-requires-clause-world
declare_one-requires-clause-world c =
    let i = c.loop-place.invariant in
    ready-runs c.loop-place.w c.args.home i.kept.ready
    (inside-still c.args.home c.args.w.now c.loop-place.w i.kept c.requires.acts.side)

pub declare_one-requires-clause-built_ins : goal.declare_one-requires-clause-built_ins
declare_one-requires-clause-built_ins c =
    let i = c.loop-place.invariant in
    ready-prototypes c.loop-place.w c.args.home i.kept.ready
    (inside-still c.args.home c.args.w.now c.loop-place.w i.kept c.requires.acts.side)

pub declare_one-requires-clause-scope : goal.declare_one-requires-clause-scope
declare_one-requires-clause-scope c =
    (holds-still c.args.home c.args.w.now c.loop-place.w c.requires.acts.ready c.loop-place.invariant.kept
    (scope_held c.args.scope) c.requires.acts.holds).0.within

pub unreachable-requires : goal.unreachable-requires
unreachable-requires c =
    let d = c.args.w.now in
    let ps : List ℕ = body_at (forms_at c.loop-place.w c.args.home) c.args.node.0 in
    let e = ap (λ (fs : List Form). length (body_at fs c.args.node.0))
    (forms-grow d c.loop-place.w c.args.home c.requires.acts.ready.ids c.loop-place.invariant.kept.found.grew) in
    not-past ps c.loop-place.place c.in-None.ensures.part
    (omega (arith, e, c.loop-place-test.true, c.body_count-place-end.ensures))

pub returns-clause-changes : goal.returns-clause-changes
returns-clause-changes c =
    let i = c.loop-place.invariant in
    made-all c.args.home c.args.w.now c.loop-place.w c.args.scope (body_at (forms_at c.args.w.now c.args.home)
    c.args.node.0)
    c.loop-place.place c.requires.acts.side i.kept.found.grew i.trace i.same
    (omega (arith, c.loop-place-test.false, c.body_count-place-end.ensures))

pub returns-clause-keeps : goal.returns-clause-keeps
returns-clause-keeps c = record { changed = c.loop-place.invariant.kept; holds = tt }

pub loop-place-init : goal.loop-place-init
loop-place-init c =
    let d = c.args.w.now in
    record {
      same = λ k log. ap (λ (ns : List ℕ). declare c.args.home.0 c.args.scope.0 ns k (Image d log))
          (sym (drop-none (body_at (forms_at d c.args.home) c.args.node.0)));
      trace = refl;
      kept = changed-same c.args.home d c.requires.acts.ready;
    }

pub loop-place-preserved : goal.loop-place-preserved
loop-place-preserved c =
    let home = c.args.home in
    let d = c.args.w.now in
    let d1 = c.loop-place.w in
    let i = c.loop-place.invariant in
    let q = c.in_ok-declare_one-in-Some.ensures.changes in
    let e = ap (λ (fs : List Form). slice_get (body_at fs c.args.node.0) c.loop-place.place)
    (forms-grow d d1 home c.requires.acts.ready.ids i.kept.found.grew) in
    let s = holds-still home d d1 c.requires.acts.ready i.kept (scope_held c.args.scope) c.requires.acts.holds in
    let u = c.in_ok-declare_one-in-Some.ensures.keeps i.kept.ready (inside-still home d d1 i.kept c.requires.acts.side)
    s in
    record {
      same = λ k log.
          made-more home d d1 c.args.scope (body_at (forms_at d home) c.args.node.0) c.loop-place.place
          c.requires.acts.side
          i.kept.found.grew i.trace i.same c.declare_one.new.w c.in-Some.statement.0 k log
          (sym e ∙ sym c.in-Some.ensures.part) q;
      trace = q.trace ∙ i.trace;
      kept = changed-then home d d1 c.declare_one.new.w i.kept u.changed;
    }

pub returns-in_err-declare_one-in-Some-clause-keeps : goal.returns-in_err-declare_one-in-Some-clause-keeps
returns-in_err-declare_one-in-Some-clause-keeps c =
    let home = c.args.home in
    let d = c.args.w.now in
    let d1 = c.loop-place.w in
    let i = c.loop-place.invariant in
    let s = holds-still home d d1 c.requires.acts.ready i.kept (scope_held c.args.scope) c.requires.acts.holds in
    let p = err_from_is_err_and c.from_residual.result c.from_residual.ensures.1 in
    rw (p.1, p.2)
    (answer-then none_held home (Err c.in_err-declare_one-in-Some.field-0.0) d d1 c.declare_one.new.w i.kept
    (c.in_err-declare_one-in-Some.ensures.keeps i.kept.ready (inside-still home d d1 i.kept c.requires.acts.side) s))
