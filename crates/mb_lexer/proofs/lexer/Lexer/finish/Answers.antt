use Rattle.std.proofs.Common.{◌≡◌, ◌<◌, ◌-◌, length, Err, Global, sym, subst, ◌∙◌, arith}
use Rattle.std.proofs.lemmas.Result.{err_from_is_err_and}
use Rattle.mb_lexer.specs.declared.fault.LexFault.TheVariants.{Utf8}
use Rattle.mb_lexer.specs.Shown.{IsLexed}
use Rattle.mb_lexer.specs.Feeding.{Fed}
use Rattle.mb_lexer.proofs.Words.{empty_list}
use Rattle.mb_lexer.proofs.Finished.{finished_short, finished_fault, finished_stop, finished_end}
use Rattle.mb_lexer.proofs.lexer.Lexer.finish.Goals as goal

pub returns-then-not-is_empty-clause-answer : goal.returns-then-not-is_empty-clause-answer
returns-then-not-is_empty-clause-answer c bytes h =
    let e = c.self.inside.pending.ok.0 in
    let p : 0 < length c.self.inside.pending.items = grind (arith, e, c.is_empty.ensures, c.if-not-is_empty.true) in
    subst (λ k. IsLexed {A = Global} c.args.texts.now bytes (Err (Utf8 (c.self.inside.fed - k)))) (sym (c.len.ensures ∙ e))
    (finished_short c.args.texts.now bytes _ c.args.texts.now p (subst (λ k. Fed k c.args.texts.now bytes) (sym c.self.view_is) h))

pub returns-in-Some-clause-answer : goal.returns-in-Some-clause-answer
returns-in-Some-clause-answer c bytes h =
    let e = c.self.inside.pending.ok.0 in
    let p : length c.self.inside.pending.items ≡ 0 = grind (arith, e, c.is_empty.ensures, c.if-not-is_empty.false) in
    finished_fault c.args.texts.now bytes c.in-Some.fault _ c.args.texts.now (empty_list _ p) c.in-Some.is (subst (λ k. Fed k c.args.texts.now bytes) (sym c.self.view_is) h)

pub returns-in_err-finish-clause-answer : goal.returns-in_err-finish-clause-answer
returns-in_err-finish-clause-answer c bytes h =
    let e = c.self.inside.pending.ok.0 in
    let p : length c.self.inside.pending.items ≡ 0 = grind (arith, e, c.is_empty.ensures, c.if-not-is_empty.false) in
    let q = err_from_is_err_and c.from_residual.result c.from_residual.ensures.1 in
    rw (q.1, q.2) (finished_stop c.finish.new.texts bytes (Unit {0}) c.in_err-finish.field-0.0 _ c.finish.new.self c.args.texts.now (empty_list _ p) c.in_default.is c.in_err-finish.ensures.closes (subst (λ k. Fed k c.args.texts.now bytes) (sym c.self.view_is) h))

pub returns-clause-answer : goal.returns-clause-answer
returns-clause-answer c bytes h =
    let e = c.self.inside.pending.ok.0 in
    let p : length c.self.inside.pending.items ≡ 0 = grind (arith, e, c.is_empty.ensures, c.if-not-is_empty.false) in
    finished_end c.finish.new.texts bytes c.in_ok-finish.field-0 c.finish.new.tokens _ c.finish.new.self c.args.texts.now (empty_list _ p) c.in_default.is c.in_ok-finish.ensures.closes c.in_ok-finish.ensures.tokens (subst (λ k. Fed k c.args.texts.now bytes) (sym c.self.view_is) h)
