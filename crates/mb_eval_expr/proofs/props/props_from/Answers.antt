use Rattle.std.proofs.Common.{◌+◌, ◌≡◌, Err, drop, List, Ok, [], ap, arith, refl, slice_get, sym, ℕ}
use Rattle.std.proofs.lemmas.Result.{err_from_is_err_and}
use Rattle.mb_parts.proofs.Places.{not-past}
use Rattle.mb_eval_expr.proofs.PropsInOrder.{drop-all, parts-length, prop-passes, prop-then, prop-unpaid}
use Rattle.mb_eval_expr.proofs.Propping.{from_place}
use Rattle.mb_eval_expr.specs.machine.Literals.{literal_held}
use Rattle.mb_frames.proofs.Forms.{ready-runs}
use Rattle.mb_frames.proofs.HeldLess.{object-value, plain-object}
use Rattle.mb_frames.proofs.Keeping.{inside-still}
use Rattle.mb_frames.proofs.Leaving.{holds-still}
use Rattle.mb_frames.proofs.Passed.{Part-passed, Part-sure, Passes-by, Passes-then}
use Rattle.mb_frames.proofs.Readying.{changed-same, changed-then}
use Rattle.mb_frames.specs.Rest.Parts.{parts_at}
use Rattle.mb_frames.specs.Standing.{forms_at}
use Rattle.mb_model.specs.Meaning.{finished}
use Rattle.mb_frames.specs.Resolved.{context_in}
use Rattle.mb_frames.specs.declared.machine.Halt.TheVariants.{Spent as SpentHalt}
use Rattle.mb_model.specs.Nodes.Literals.{prop_of, props}
use Rattle.mb_model.specs.Writing.{◌>>=◌, is_value}
use Rattle.mb_world.specs.Image.{Image, names_of, object_in}
use Rattle.mb_eval_expr.proofs.props.props_from.Goals as goal

pub loop-place-init : goal.loop-place-init
loop-place-init c = record {
  passes = Passes-by c.args.w.now c.args.fuel.now (from_place c.args.w.now c.args.home c.args.literal c.args.from
      finished)
      (from_place c.args.w.now c.args.home c.args.literal c.args.from finished) (λ log. refl);
  changed = changed-same c.args.home c.args.w.now c.requires.ready;
}

pub part_at-requires : goal.part_at-requires
part_at-requires c =
    let g = c.loop-place.invariant.changed in
    ready-runs c.loop-place.w c.args.home g.ready (inside-still c.args.home c.args.w.now c.loop-place.w g
    c.requires.inside)

pub unreachable-requires : goal.unreachable-requires
unreachable-requires c =
    let ps : List ℕ = parts_at (forms_at c.loop-place.w c.args.home) c.args.literal.node.0 in
    let g = c.loop-place.invariant.changed in
    not-past ps c.loop-place.place c.in-None.ensures.part
    (omega (
      arith,
      parts-length c.args.w.now c.loop-place.w c.args.home c.args.literal.node c.requires.ready.ids g.found.grew,
      c.loop-place-test.true,
      c.count_of-place-end.ensures,
    ))

pub prop_row-requires-clause-ready : goal.prop_row-requires-clause-ready
prop_row-requires-clause-ready c = c.loop-place.invariant.changed.ready

pub prop_row-requires-clause-inside : goal.prop_row-requires-clause-inside
prop_row-requires-clause-inside c =
    inside-still c.args.home c.args.w.now c.loop-place.w c.loop-place.invariant.changed c.requires.inside

pub prop_row-requires-clause-holds : goal.prop_row-requires-clause-holds
prop_row-requires-clause-holds c =
    holds-still c.args.home c.args.w.now c.loop-place.w c.requires.ready c.loop-place.invariant.changed
    (literal_held c.args.literal) c.requires.holds

pub loop-place-preserved : goal.loop-place-preserved
loop-place-preserved c =
    let d = c.args.w.now in
    let d1 = c.loop-place.w in
    let home = c.args.home in
    let l = c.args.literal in
    let g = c.loop-place.invariant.changed in
    let i = inside-still home d d1 g c.requires.inside in
    let held = holds-still home d d1 c.requires.ready g (literal_held l) c.requires.holds in
    let place = c.loop-place.place in
    let q = rw c.in-None-2.is at c.in_ok-step-in-Some.ensures.row in
    record {
      passes = prop-then d d1 c.prop_row.new.w home l c.args.fuel.now c.loop-place.fuel c.charge.new.self place
          c.args.from
          c.in-Some.property q.0 c.loop-place.invariant.passes i (omega (arith, c.in_ok-charge-in-Some.ensures.paid))
          (sym c.in-Some.ensures.part) g.ready.ids held q.1;
      changed = changed-then home d d1 c.prop_row.new.w g c.prop_row.ensures.changed;
    }

pub returns-in_err-charge-in-Some-clause-row : goal.returns-in_err-charge-in-Some-clause-row
returns-in_err-charge-in-Some-clause-row c =
    let d = c.args.w.now in
    let d1 = c.loop-place.w in
    let home = c.args.home in
    let l = c.args.literal in
    let g = c.loop-place.invariant.changed in
    let i = inside-still home d d1 g c.requires.inside in
    let held = holds-still home d d1 c.requires.ready g (literal_held l) c.requires.holds in
    let place = c.loop-place.place in
    let p = err_from_is_err_and c.from_residual.result c.from_residual.ensures.1 in
    rw (p.1, p.2, c.in_err-charge-in-Some.ensures.kept)
    (Part-passed home (Err SpentHalt) d d1 d1 c.args.fuel.now c.loop-place.fuel c.loop-place.fuel
    (from_place d home l c.args.from finished) (from_place d1 home l place finished) c.loop-place.invariant.passes
    (prop-unpaid d1 home l c.loop-place.fuel place c.in-Some.property (c.in_err-charge-in-Some.ensures.spent.0 refl)
    (sym c.in-Some.ensures.part)))

pub returns-in_err-step-in-Some-clause-changed : goal.returns-in_err-step-in-Some-clause-changed
returns-in_err-step-in-Some-clause-changed c =
    changed-then c.args.home c.args.w.now c.loop-place.w c.prop_row.new.w c.loop-place.invariant.changed
    c.prop_row.ensures.changed

pub returns-in-Some-2-clause-row : goal.returns-in-Some-2-clause-row
returns-in-Some-2-clause-row c =
    let d = c.args.w.now in
    let d1 = c.loop-place.w in
    let home = c.args.home in
    let l = c.args.literal in
    let g = c.loop-place.invariant.changed in
    let i = inside-still home d d1 g c.requires.inside in
    let held = holds-still home d d1 c.requires.ready g (literal_held l) c.requires.holds in
    let place = c.loop-place.place in
    let q = rw c.in-Some-2.is at c.in_ok-step-in-Some.ensures.row in
    let f = c.args.fuel.now in
    let f1 = c.loop-place.fuel in
    let f2 = c.charge.new.self in
    let n = c.in-Some.property in
    let P = from_place d home l c.args.from finished in
    let Q = from_place d1 home l place finished in
    let R = (prop_of (context_in (names_of d1) home.0 l.at) (object_in (names_of d1) l.object) n.0
    (slice_get (forms_at d1 home) n.0)
    >>= (λ a. from_place d1 home l (place + 1))) finished in
    Part-passed home (Ok c.in-Some-2.step) d d1 c.prop_row.new.w f f2 f2 P R
    (Passes-then d d1 d1 f f1 f2 P Q R c.loop-place.invariant.passes
    (prop-passes d1 home l f1 f2 place n i (omega (arith, c.in_ok-charge-in-Some.ensures.paid))
    (sym c.in-Some.ensures.part)))
    (q f2)

pub returns-in-Some-2-clause-changed : goal.returns-in-Some-2-clause-changed
returns-in-Some-2-clause-changed c =
    changed-then c.args.home c.args.w.now c.loop-place.w c.prop_row.new.w c.loop-place.invariant.changed
    c.prop_row.ensures.changed

pub returns-clause-row : goal.returns-clause-row
returns-clause-row c =
    let d = c.args.w.now in
    let d1 = c.loop-place.w in
    let home = c.args.home in
    let l = c.args.literal in
    let g = c.loop-place.invariant.changed in
    let i = inside-still home d d1 g c.requires.inside in
    let held = holds-still home d d1 c.requires.ready g (literal_held l) c.requires.holds in
    let place = c.loop-place.place in
    let f = c.args.fuel.now in
    let f1 = c.loop-place.fuel in
    let x = context_in (names_of d1) home.0 l.at in
    let o = object_in (names_of d1) l.object in
    let ns = parts_at (forms_at d1 home) l.node.0 in
    let P = from_place d home l c.args.from finished in
    let Q = from_place d1 home l place finished in
    let R = is_value o finished in
    let e : drop place ns ≡ []
    = drop-all ns place (omega (
      arith,
      parts-length d d1 home l.node c.requires.ready.ids g.found.grew,
      c.loop-place-test.false,
      c.count_of-place-end.ensures,
    )) in
    Part-passed home (Ok c.value.result) d d1 d1 f f1 f1 P R
    (Passes-then d d1 d1 f f1 f1 P Q R c.loop-place.invariant.passes
    (Passes-by d1 f1 Q R (λ log. ap (λ (ms : List ℕ). props x o ms finished (Image d1 log)) e)))
    (Part-sure home d1 f1 R c.value.result (c.value.ensures.row home d1 held.1.1.1.0.within))

pub returns-clause-changed : goal.returns-clause-changed
returns-clause-changed c = c.loop-place.invariant.changed

pub returns-clause-leaves : goal.returns-clause-leaves
returns-clause-leaves c =
    let d = c.args.w.now in
    let d1 = c.loop-place.w in
    let home = c.args.home in
    let l = c.args.literal in
    let g = c.loop-place.invariant.changed in
    let i = inside-still home d d1 g c.requires.inside in
    let held = holds-still home d d1 c.requires.ready g (literal_held l) c.requires.holds in
    let place = c.loop-place.place in
    c.value.ensures.leaves home d1 g.ready i
    (object-value d1 home l.object (plain-object d1 home l.object held.1.1.1.0), tt)
