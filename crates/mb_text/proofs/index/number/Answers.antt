use Rattle.std.proofs.Common.{arith, rules, ap, ◌∙◌, get_or, below_more, ◌+◌, ◌*◌}
use Rattle.std.specs.Int.{IsInRange}
use Rattle.mb_text.proofs.Indices.{small_number, next_number}
use Rattle.mb_text.proofs.index.number.Goals as goal

pub overflow_mul-n : goal.overflow_mul-n
overflow_mul-n c =
    let small = small_number c.args.units.now c.loop-unit.unit-index c.requires c.loop-unit.invariant.digits in
    omega (arith, small, c.loop-unit.invariant.number)

pub overflow_add-n : goal.overflow_add-n
overflow_add-n c =
    let digit : IsInRange 48 57 (get_or c.args.units.now c.loop-unit.unit-index 0) = search rules in
    let small = small_number c.args.units.now c.loop-unit.unit-index c.requires c.loop-unit.invariant.digits in
    omega (arith, small, c.loop-unit.invariant.number, digit, c.from.ensures)

pub loop-unit-preserved : goal.loop-unit-preserved
loop-unit-preserved c =
    let digit : IsInRange 48 57 (get_or c.args.units.now c.loop-unit.unit-index 0) = search rules in
    record {
      digits = below_more _ _ c.loop-unit.invariant.digits digit;
      number = ap (λ n. 10 * n + c.from.result) c.loop-unit.invariant.number
          ∙ next_number c.args.units.now c.loop-unit.unit-index c.from.result c.loop-unit-test.true digit (omega (arith, digit, c.from.ensures));
    }
