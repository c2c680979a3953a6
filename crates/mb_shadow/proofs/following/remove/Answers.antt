use Rattle.std.proofs.Common.{◌≡◌, Option, Some, None, false, is_some, sym, ◌∙◌, true≢false, refl}
use Rattle.mb_shadow.proofs.Writes.{remove-done, absent-done}
use Rattle.mb_shadow.proofs.Steps.{followed-same}
use Rattle.mb_shadow.proofs.following.remove.Goals as goal

none-there : {A : Type 0} (o : Option A) → is_some o ≡ false → o ≡ None
none-there None h = refl
none-there (Some a) h = absurd (true≢false h)

pub returns-then-is_some-clause-removed : goal.returns-then-is_some-clause-removed
returns-then-is_some-clause-removed c = (remove-done c.args.w.now c.requires.world c.args.shadow c.requires.shadow c.args.key c.requires.key
    c.cell.result.now c.cell.ensures.value c.get.ensures.distinct c.remove.new.self c.remove.ensures.removed).0

pub returns-then-is_some-clause-stays : goal.returns-then-is_some-clause-stays
returns-then-is_some-clause-stays c = (remove-done c.args.w.now c.requires.world c.args.shadow c.requires.shadow c.args.key c.requires.key
    c.cell.result.now c.cell.ensures.value c.get.ensures.distinct c.remove.new.self c.remove.ensures.removed).1

pub returns-else-is_some-clause-removed : goal.returns-else-is_some-clause-removed
returns-else-is_some-clause-removed c = absent-done c.args.w.now c.requires.world c.args.shadow c.requires.shadow c.args.key c.requires.key
    c.cell.result.now c.cell.ensures.value
    (sym c.get.ensures.value ∙ none-there c.get.result (sym c.is_some.ensures ∙ c.if-is_some.false))

pub returns-else-is_some-clause-stays : goal.returns-else-is_some-clause-stays
returns-else-is_some-clause-stays c = followed-same c.args.w.now c.args.shadow c.requires.world
