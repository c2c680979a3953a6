use Rattle.std.proofs.Common.{sym, ap, subst, ◌∙◌}
use Rattle.std.specs.Str.{chars}
use Rattle.mb_lexer.specs.Feeding.{Fed}
use Rattle.mb_lexer.specs.machine.Outcomes.{is_broken}
use Rattle.mb_lexer.proofs.Fed.{fed_after_fault, fed_pass, fed_stop, unbroken_stop, is_none, is_not_none}
use Rattle.mb_lexer.proofs.lexer.Lexer.read_text.Goals as goal
use Rattle.mb_lexer.proofs.lexer.Lexer.read_text.Goals.{then-is_none+in-Err+in_default-fault, then-is_none+in_default, else-is_none}

pub returns-clause-fed : goal.returns-clause-fed
returns-clause-fed c before h =
    let g = subst (λ k. Fed k c.args.texts.now before) (sym c.self.view_is) h in
    let whole = ap (λ l. l.pending) c.self.view_is ∙ c.requires.whole in
    elim c.if-is_none.branch [
      | then-is_none+in-Err+in_default-fault w ↦
          rw (w.self-inside-is, w.texts-is) (fed_stop w.in-Err.fault _ c.args.texts.now w.read.new.texts before c.args.text.now w.read.new.tokens.items w.read.new.self w.in_default-fault.not-NoMemory (is_none _ w.if-is_none.ensures) whole c.requires.utf8 w.in-Err.ensures.stops g)
      | then-is_none+in_default w ↦
          rw (w.self-inside-is, w.texts-is) (fed_pass _ c.args.texts.now w.read.new.texts before c.args.text.now w.read.new.tokens.items w.read.new.self (is_none _ w.if-is_none.ensures) whole c.requires.utf8 w.in_default.ensures.passes g)
      | else-is_none w ↦
          rw (w.self-inside-is, w.texts-is) (fed_after_fault _ c.args.texts.now before c.args.text.now (is_not_none _ w.if-is_none.ensures) whole c.requires.utf8 g)
    ]

pub returns-clause-unbroken : goal.returns-clause-unbroken
returns-clause-unbroken c =
    let e = ap (λ l. is_broken l.fault) c.self.view_is ∙ c.requires.unbroken in
    elim c.if-is_none.branch [
      | then-is_none+in-Err+in_default-fault w ↦ ap (λ i. is_broken i.fault) w.self-inside-is ∙ unbroken_stop w.in-Err.fault c.self.inside.current (chars c.args.text.now) w.in-Err.ensures.stops
      | then-is_none+in_default w ↦ ap (λ i. is_broken i.fault) w.self-inside-is ∙ e
      | else-is_none w ↦ ap (λ i. is_broken i.fault) w.self-inside-is ∙ e
    ]
