use Rattle.std.proofs.Common.{sym, ◌∙◌}
use Rattle.mb_world.specs.Image.{names_of}
use Rattle.mb_parts.proofs.shapes.callable.Goals as goal

pub returns-then-kind_calls-clause-calls : goal.returns-then-kind_calls-clause-calls
returns-then-kind_calls-clause-calls c = λ log.
    rw c.in-Object.is (c.real_kind.ensures.calls log ∙ sym (c.kind_calls.ensures (names_of c.args.w.now))
    ∙ c.if-kind_calls.true)

pub returns-else-kind_calls-clause-calls : goal.returns-else-kind_calls-clause-calls
returns-else-kind_calls-clause-calls c = λ log.
    rw c.in-Object.is (c.real_kind.ensures.calls log ∙ sym (c.kind_calls.ensures (names_of c.args.w.now))
    ∙ c.if-kind_calls.false)
