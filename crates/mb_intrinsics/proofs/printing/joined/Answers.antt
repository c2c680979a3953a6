use Rattle.std.proofs.Common.{[], arith, true≢false, sym, ◌+◌}
use Rattle.std.proofs.lemmas.Result.{err_from_is_err_and}
use Rattle.mb_frames.specs.Resolved.{values_in}
use Rattle.mb_intrinsics.proofs.Lines.{all-added, argument-added, argument-halted, argument-refused, texts-more}
use Rattle.mb_world.specs.Image.{names_of}
use Rattle.mb_intrinsics.proofs.printing.joined.Goals as goal

pub returns-in_err-add_text-clause-row : goal.returns-in_err-add_text-clause-row
returns-in_err-add_text-clause-row c =
    let d = c.args.w.now in
    let p = err_from_is_err_and c.from_residual.result c.from_residual.ensures.1 in
    rw (p.1, p.2)
    (argument-halted d c.loop-argument.w c.add_text.new.w c.loop-argument.invariant.grew
    c.items-argument-items.result.now
    c.loop-argument.argument-index _ c.loop-argument-test.true (rw c.loop-argument.invariant.same c.requires.values)
    (values_in (names_of d) c.args.arguments.now) c.args.fuel.now c.loop-argument.fuel c.add_text.new.fuel
    c.loop-argument.line
    c.add_text.new.line c.loop-argument.first c.loop-argument.invariant.row c.in_err-add_text.field-0.0
    c.in_err-add_text.ensures.row)

pub returns-in_err-add_text-clause-grew : goal.returns-in_err-add_text-clause-grew
returns-in_err-add_text-clause-grew c =
    texts-more c.args.w.now c.loop-argument.w c.add_text.new.w c.loop-argument.invariant.grew
    c.in_err-add_text.ensures.grew

pub returns-then-not-branch-clause-row : goal.returns-then-not-branch-clause-row
returns-then-not-branch-clause-row c =
    let d = c.args.w.now in
    argument-refused d c.loop-argument.w c.add_text.new.w c.loop-argument.invariant.grew
    c.items-argument-items.result.now
    c.loop-argument.argument-index _ c.loop-argument-test.true (rw c.loop-argument.invariant.same c.requires.values)
    (values_in (names_of d) c.args.arguments.now) c.args.fuel.now c.loop-argument.fuel c.add_text.new.fuel
    c.loop-argument.line
    c.add_text.new.line c.loop-argument.first c.loop-argument.invariant.row
    (rw c.if-not-branch.true at c.in_ok-add_text.ensures.row)

pub returns-then-not-branch-clause-grew : goal.returns-then-not-branch-clause-grew
returns-then-not-branch-clause-grew c =
    texts-more c.args.w.now c.loop-argument.w c.add_text.new.w c.loop-argument.invariant.grew
    c.in_ok-add_text.ensures.grew

pub loop-argument-preserved : goal.loop-argument-preserved
loop-argument-preserved c =
    let d = c.args.w.now in
    record {
      row = argument-added d c.loop-argument.w c.add_text.new.w c.loop-argument.invariant.grew
          c.items-argument-items.result.now c.loop-argument.argument-index _ c.loop-argument-test.true
          (rw c.loop-argument.invariant.same c.requires.values) (values_in (names_of d) c.args.arguments.now)
          c.args.fuel.now
          c.loop-argument.fuel c.add_text.new.fuel c.loop-argument.line c.add_text.new.line c.loop-argument.first
          c.loop-argument.invariant.row (rw c.if-not-branch.false at c.in_ok-add_text.ensures.row);
      grew = texts-more d c.loop-argument.w c.add_text.new.w c.loop-argument.invariant.grew
          c.in_ok-add_text.ensures.grew;
      empty = λ h. absurd (true≢false (sym h));
      same = c.loop-argument.invariant.same;
    }

pub returns-clause-row : goal.returns-clause-row
returns-clause-row c = λ s.
    let d = c.args.w.now in
    all-added d c.loop-argument.w c.items-argument-items.result.now c.loop-argument.argument-index
    (omega (arith, c.loop-argument-test.false)) (values_in (names_of d) c.args.arguments.now) c.args.fuel.now
    c.loop-argument.fuel c.loop-argument.line c.loop-argument.first s (c.loop-argument.invariant.row s)
