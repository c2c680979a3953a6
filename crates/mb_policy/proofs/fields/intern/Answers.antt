use Rattle.std.proofs.Common.{◌≡◌, ◌∙◌, ℕ, List, Some, subst}
use Rattle.std.specs.Prelude.{IfOk, slice_get}
use Rattle.mb_policy.proofs.Accepted.{taken-in}
use Rattle.mb_policy.proofs.fields.intern.Goals as goal

pub returns-clause-within : goal.returns-clause-within
returns-clause-within c =
    let texts = c.intern.new.self in
    let P : List ℕ → Type 0 = λ u. IfOk c.intern.result (λ id. slice_get texts id.0 ≡ Some u) in
    taken-in texts c.args.text.now c.intern.result c.utf8.text (subst P (c.deref.ensures.value ∙ c.in-Ok.ensures) c.intern.ensures.text)
