use Rattle.std.proofs.Common.{◌∙◌, List, ap, arith, length, slice_get, sym, ℕ, Err, refl}
use Rattle.mb_frames.proofs.Steps.{Grew-then}
use Rattle.mb_frames.specs.Rest.Parts.{parts_at}
use Rattle.mb_frames.specs.Standing.{forms_at}
use Rattle.mb_parts.proofs.Declaring.{made-all, made-more}
use Rattle.mb_frames.proofs.Forms.{CanRun-grows}
use Rattle.mb_eval_stmt.proofs.Giving.{parts-grow}
use Rattle.mb_parts.proofs.Places.{not-past}
use Rattle.std.proofs.lemmas.Result.{err_from_is_err_and}
use Rattle.mb_frames.proofs.Leaving.{holds-still}
use Rattle.mb_frames.proofs.Readying.{changed-same, changed-then}
use Rattle.mb_frames.proofs.Steps.{Grew-same}
use Rattle.mb_frames.specs.Keeping.{none_held, scope_held}
use Rattle.mb_parts.proofs.Answering.{answer-then}
use Rattle.mb_frames.proofs.Keeping.{inside-still}
use Rattle.mb_eval_stmt.proofs.functions.declare.Goals as goal

pub part_at-requires : goal.part_at-requires
part_at-requires c =
    CanRun-grows c.args.w.now c.loop-place.w c.args.home c.loop-place.invariant.grew c.loop-place.invariant.ids
    c.requires.world

pub unreachable-requires : goal.unreachable-requires
unreachable-requires c =
    let ps : List ℕ = parts_at (forms_at c.loop-place.w c.args.home) c.args.node.0 in
    let e = ap (λ (ns : List ℕ). length ns)
    (parts-grow c.args.w.now c.loop-place.w c.args.home c.args.node c.requires.world.ids c.loop-place.invariant.grew) in
    not-past ps c.loop-place.place c.in-None.ensures.part
    (omega (arith, e, c.loop-place-test.true, c.count_of-place-end.ensures))

pub returns-clause-changes : goal.returns-clause-changes
returns-clause-changes c =
    let i = c.loop-place.invariant in
    made-all c.args.home c.args.w.now c.loop-place.w c.args.scope (parts_at (forms_at c.args.w.now c.args.home)
    c.args.node.0)
    c.loop-place.place c.requires.world.takes_part i.grew i.trace i.same
    (omega (arith, c.loop-place-test.false, c.count_of-place-end.ensures))

pub loop-place-preserved : goal.loop-place-preserved
loop-place-preserved c =
    let i = c.loop-place.invariant in
    let q = c.in_ok-declare_one-in-Some.ensures.changes in
    record {
      same = λ k log.
          made-more c.args.home c.args.w.now c.loop-place.w c.args.scope
          (parts_at (forms_at c.args.w.now c.args.home) c.args.node.0) c.loop-place.place c.requires.world.takes_part
          i.grew
          i.trace i.same c.declare_one.new.w c.in-Some.statement.0 k log
          (ap (λ (ns : List ℕ). slice_get ns c.loop-place.place)
          (sym (parts-grow c.args.w.now c.loop-place.w c.args.home c.args.node c.requires.world.ids i.grew))
          ∙ sym c.in-Some.ensures.part) q;
      grew = Grew-then c.args.w.now c.loop-place.w c.declare_one.new.w i.grew q.grew;
      trace = q.trace ∙ i.trace;
      ids = c.declare_one.ensures.ids;
      prototypes = c.in_ok-declare_one-in-Some.ensures.built_ins;
      kept = λ r n h.
          let home = c.args.home in
          let d = c.args.w.now in
          let k = i.kept r n h in
          let s = holds-still home d c.loop-place.w r k (scope_held c.args.scope) h in
          let u = c.in_ok-declare_one-in-Some.ensures.keeps k.ready (inside-still home d c.loop-place.w k n) s in
          changed-then home d c.loop-place.w c.declare_one.new.w k u.changed;
    }

pub loop-place-init : goal.loop-place-init
loop-place-init c = record {
  same = λ k log. refl;
  grew = Grew-same c.args.w.now;
  trace = refl;
  ids = c.requires.world.ids;
  prototypes = c.requires.built_ins;
  kept = λ r i h. changed-same c.args.home c.args.w.now r;
}

pub returns-in_err-declare_one-in-Some-clause-keeps : goal.returns-in_err-declare_one-in-Some-clause-keeps
returns-in_err-declare_one-in-Some-clause-keeps c = λ r n h.
    let home = c.args.home in
    let d = c.args.w.now in
    let k = c.loop-place.invariant.kept r n h in
    let s = holds-still home d c.loop-place.w r k (scope_held c.args.scope) h in
    let p = err_from_is_err_and c.from_residual.result c.from_residual.ensures.1 in
    rw (p.1, p.2)
    (answer-then none_held home (Err c.in_err-declare_one-in-Some.field-0.0) d c.loop-place.w c.declare_one.new.w k
    (c.in_err-declare_one-in-Some.ensures.keeps k.ready (inside-still home d c.loop-place.w k n) s))

pub returns-clause-keeps : goal.returns-clause-keeps
returns-clause-keeps c = λ r n h. record { changed = c.loop-place.invariant.kept r n h; holds = tt }
