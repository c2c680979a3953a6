use Rattle.std.proofs.Common.{arith, ◌≡◌, ◌<◌, ◌≤◌, get_or, length}
use Rattle.std.specs.Str.Parse.{digits_value}
use Rattle.std.proofs.lemmas.Grind.{common_steps}
use Rattle.std.proofs.lemmas.Int.{ints}
use Rattle.mb_cli.specs.first_form.Lexemes.{largest}
use Rattle.mb_cli.proofs.first_form.Numbers.{some_digits, no_leading_zero, value-decimal, written}
use Rattle.mb_cli.proofs.first_form.number.whole_of.Goals as goal
use Rattle.mb_cli.proofs.first_form.number.whole_of.Goals.{else-digits-eq48-via-then-digits-eq48+else-digits-gt1, else-digits-eq48-via-else-digits-eq48}

pub returns-then-is_empty-clause-none : goal.returns-then-is_empty-clause-none
returns-then-is_empty-clause-none c r n small e =
    let some = some_digits n c.args.digits.now small e in
    grind (arith, common_steps, some, c.if-is_empty.ensures)

pub returns-then-digits-gt1-clause-none : goal.returns-then-digits-gt1-clause-none
returns-then-digits-gt1-clause-none c r n small e =
    no_leading_zero n c.args.digits.now small e c.if-digits-eq48.true c.if-digits-gt1.true

pub returns-in-Some-clause-none : goal.returns-in-Some-clause-none
returns-in-Some-clause-none c r n small e =
    let value = value-decimal n c.args.digits.now small e in
    omega (arith, ints, value, c.in-Some.ensures.value, c.if-value-gt-LARGEST.true)

pub returns-in_default-clause-is : goal.returns-in_default-clause-is
returns-in_default-clause-is c =
    let small : digits_value 10 c.args.digits.now ≤ largest = omega (arith, ints, c.in-Some.ensures.value, c.if-value-gt-LARGEST.false) in
    let some : 0 < length c.args.digits.now = grind (arith, common_steps, c.if-is_empty.ensures) in
    let lead : get_or c.args.digits.now 0 0 ≡ 48 → length c.args.digits.now ≡ 1 = λ zero. elim c.else-digits-eq48.branch [
      | else-digits-eq48-via-then-digits-eq48+else-digits-gt1 w ↦ omega (arith, w.if-digits-gt1.false, some)
      | else-digits-eq48-via-else-digits-eq48 w ↦ absurd (omega (arith, zero, w.if-digits-eq48.false))
    ] in
    (digits_value 10 c.args.digits.now, c.in-Some.ensures.value, small, written c.args.digits.now c.requires some lead small)

pub returns-in_default-2-clause-none : goal.returns-in_default-2-clause-none
returns-in_default-2-clause-none c none n small e =
    let value = value-decimal n c.args.digits.now small e in
    omega (arith, value, c.value_of.ensures.none none)
