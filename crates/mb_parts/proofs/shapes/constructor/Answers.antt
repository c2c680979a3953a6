use Rattle.std.proofs.Common.{sym, ◌∙◌}
use Rattle.mb_world.specs.Image.{names_of}
use Rattle.mb_parts.proofs.shapes.constructor.Goals as goal

pub returns-then-kind_constructs-clause-constructs : goal.returns-then-kind_constructs-clause-constructs
returns-then-kind_constructs-clause-constructs c = λ log.
    rw c.in-Object.is (c.real_kind.ensures.constructs log ∙ sym (c.kind_constructs.ensures (names_of c.args.w.now))
    ∙ c.if-kind_constructs.true)

pub returns-else-kind_constructs-clause-constructs : goal.returns-else-kind_constructs-clause-constructs
returns-else-kind_constructs-clause-constructs c = λ log.
    rw c.in-Object.is (c.real_kind.ensures.constructs log ∙ sym (c.kind_constructs.ensures (names_of c.args.w.now))
    ∙ c.if-kind_constructs.false)
