use Rattle.std.proofs.Common.{sym, ap, subst, ◌∙◌}
use Rattle.std.proofs.lemmas.Result.{on_ok_weaker}
use Rattle.mb_lexer.specs.Feeding.{Fed}
use Rattle.mb_lexer.specs.machine.Outcomes.{is_broken}
use Rattle.mb_lexer.proofs.Fed.{fed_broken, fed_breaks, fed_hold}
use Rattle.mb_lexer.proofs.lexer.Lexer.read.Goals as goal

pub returns-then-is_broken-clause-fed : goal.returns-then-is_broken-clause-fed
returns-then-is_broken-clause-fed c before h =
    fed_broken _ c.args.texts.now before c.args.bytes.now (ap (λ l. is_broken l.fault) c.self.view_is ∙ sym c.is_broken.ensures ∙ c.if-is_broken.true)
    (subst (λ k. Fed k c.args.texts.now before) (sym c.self.view_is) h)

pub returns-then-rest-gt3-clause-fed : goal.returns-then-rest-gt3-clause-fed
returns-then-rest-gt3-clause-fed c before h =
    fed_breaks _ c.args.texts.now before c.longest_text.result.0.now c.longest_text.result.1.now c.args.bytes.now
    (ap (λ l. is_broken l.fault) c.self.view_is ∙ sym c.is_broken.ensures ∙ c.if-is_broken.false) (ap (λ l. l.pending) c.self.view_is ∙ c.requires.whole)
    c.longest_text.ensures.utf8 c.longest_text.ensures.none c.if-rest-gt3.true c.longest_text.ensures.whole
    (subst (λ k. Fed k c.args.texts.now before) (sym c.self.view_is) h)

pub returns-clause-fed : goal.returns-clause-fed
returns-clause-fed c =
    on_ok_weaker c.hold.result
    (λ e before h.
    fed_hold c.read_text.new.self c.hold.new.self c.read_text.new.texts before c.longest_text.result.0.now c.longest_text.result.1.now c.args.bytes.now e
    c.in_ok-read_text.ensures.unbroken c.in_ok-read_text.ensures.whole c.longest_text.ensures.none c.longest_text.ensures.whole (c.in_ok-read_text.ensures.fed before h))
    c.hold.ensures.held
