use Rattle.std.proofs.Common.{ap, sym, subst}
use Rattle.std.specs.List.{concat}
use Rattle.std.proofs.lemmas.Result.{err_from_is_err_and}
use Rattle.mb_cli.specs.declared.status.Status.TheVariants.{Done}
use Rattle.mb_cli.specs.first_form.machine.Literals.{AreLiterals}
use Rattle.mb_cli.proofs.first_form.Endings.{left_answer, right_answer, only_run, there}
use Rattle.mb_cli.proofs.first_form.Meanings.{AreLiterals-kept}
use Rattle.mb_cli.proofs.first_form.run.lines_printed.Goals as goal

pub returns-in_err-left-clause-answer : goal.returns-in_err-left-clause-answer
returns-in_err-left-clause-answer c lefts rights wl wr =
    let p = err_from_is_err_and c.from_residual.result c.from_residual.ensures.1 in
    rw (p.1, p.2) (left_answer lefts rights c.in_err-left.field-0.0 (there rights _ _ wr) (c.in_err-left.ensures.refused lefts wl))

pub returns-in_err-right-clause-answer : goal.returns-in_err-right-clause-answer
returns-in_err-right-clause-answer c lefts rights wl wr =
    let p = err_from_is_err_and c.from_residual-in_err-right.result c.from_residual-in_err-right.ensures.1 in
    let left = c.in_ok-left.ensures.script lefts wl in
    rw (p.1, p.2) (right_answer lefts rights c.in_err-right.field-0.0 (left.0, left.1) (c.in_err-right.ensures.refused rights wr))

pub returns-clause-answer : goal.returns-clause-answer
returns-clause-answer c lefts rights wl wr =
    let left = c.in_ok-left.ensures.script lefts wl in
    let right = c.in_ok-right.ensures.script rights wr in
    only_run lefts rights Done ((left.0, left.1), (right.0, right.1))

pub lines_of-requires-clause-left : goal.lines_of-requires-clause-left
lines_of-requires-clause-left c =
    let meant = c.in_ok-left.ensures.meant in
    (meant.0, subst (λ xs. AreLiterals c.accepted-2.new.texts xs meant.0) (sym c.deref.ensures.value) (AreLiterals-kept _ _ _ _ c.in_ok-right.ensures.ids meant.1))

pub returns-clause-lines : goal.returns-clause-lines
returns-clause-lines c lefts rights wl wr =
    let left = c.in_ok-left.ensures.script lefts wl in
    let right = c.in_ok-right.ensures.script rights wr in
    let kept = AreLiterals-kept _ _ _ left.0 c.in_ok-right.ensures.ids left.2 in
    record {
      lefts = left.0;
      rights = right.0;
      left_prints = left.1;
      right_prints = right.1;
      text_is = ap concat (c.in_ok-lines.ensures left.0 right.0 (subst (λ xs. AreLiterals c.accepted-2.new.texts xs left.0) (sym c.deref.ensures.value) kept)
          (subst (λ xs. AreLiterals c.accepted-2.new.texts xs right.0) (sym c.deref-2.ensures.value) right.2));
    }
