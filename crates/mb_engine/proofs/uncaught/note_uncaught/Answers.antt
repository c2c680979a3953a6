use Rattle.std.proofs.Common.{◌∙◌}
use Rattle.mb_engine.proofs.Lines.{on-then}
use Rattle.mb_engine.proofs.uncaught.note_uncaught.Goals as goal

pub returns-clause-line : goal.returns-clause-line
returns-clause-line c =
    on-then _ _ c.write_line.result c.write_line.ensures
    (λ e log. rw (← (c.items.ensures ∙ c.in_ok-text.ensures.text log)) e)
