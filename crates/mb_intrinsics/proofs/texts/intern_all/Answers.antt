use Rattle.std.proofs.Common.{[], arith, codes, ◌∷◌, ◌≡◌}
use Rattle.mb_intrinsics.proofs.Naming.{gains-then}
use Rattle.mb_intrinsics.proofs.Rows.{row-step}
use Rattle.mb_intrinsics.specs.Furnished.{table_texts}
use Rattle.mb_intrinsics.proofs.texts.intern_all.Goals as goal

pub loop-place-preserved : goal.loop-place-preserved
loop-place-preserved c =
    row-step c.args.w.now c.loop-place.w c.intern_row.new.w c.loop-place.place c.row_at.result c.row_at.ensures.value
    c.loop-place.invariant c.in_ok-intern_row.ensures.gains c.loop-place-test.true

pub returns-clause-gains : goal.returns-clause-gains
returns-clause-gains c =
    let e : c.loop-place.place ≡ 80 = omega (arith, c.loop-place-test.false, c.loop-place.auto.place-end) in
    gains-then c.args.w.now c.loop-place.w c.intern.new.w table_texts (codes "desk" ∷ [])
    (rw e at c.loop-place.invariant)
    c.in_ok-intern.ensures.gains
