use Rattle.std.proofs.Common.{◌≡◌, false, sym, true, ◌∙◌}
use Rattle.mb_world.specs.Image.{Resolve, names_of}
use Rattle.mb_world.specs.Value.{to_boolean}
use Rattle.mb_eval_expr.proofs.choices.or_got.Goals as goal

pub returns-then-truth-clause-row : goal.returns-then-truth-clause-row
returns-then-truth-clause-row c =
    let h : to_boolean (Resolve (names_of c.args.w.now) c.args.x) ≡ true = sym c.truth.ensures ∙ c.if-truth.true in
    rw h (c.value.ensures.row c.args.home c.args.w.now c.requires.value)

pub returns-else-truth-clause-row : goal.returns-else-truth-clause-row
returns-else-truth-clause-row c =
    let h : to_boolean (Resolve (names_of c.args.w.now) c.args.x) ≡ false = sym c.truth.ensures ∙ c.if-truth.false in
    rw h (c.evaluates.ensures.row c.args.home c.args.w.now c.requires.at)

pub returns-then-truth-clause-leaves : goal.returns-then-truth-clause-leaves
returns-then-truth-clause-leaves c = λ r i h. c.value.ensures.leaves c.args.home c.args.w.now r i (h.0, tt)

pub returns-else-truth-clause-leaves : goal.returns-else-truth-clause-leaves
returns-else-truth-clause-leaves c = λ r i h.
    c.evaluates.ensures.leaves c.args.home c.args.w.now r i (h.1.1.1.0, (h.1.0, (h.1.1.0, tt)))
