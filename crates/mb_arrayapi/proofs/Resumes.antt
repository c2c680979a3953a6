-- A member that waits takes answers and throws, and no other outcome.
use Rattle.std.proofs.Common.{◌∙◌, ◌≡◌, ap, false, refl, sym, true≢false}
use Rattle.mb_base.specs.declared.value.Value.{Value}
use Rattle.mb_call.specs.machine.Resuming.{IsAwaited}
use Rattle.mb_frames.specs.Sorts.{ACompletion, IsOfSort, Sort, array_waits, fits}
use Rattle.mb_frames.specs.declared.arrays.ArrayFrame.{ArrayFrame}
use Rattle.mb_frames.specs.declared.arrays.ArrayFrame.TheVariants as y
use Rattle.mb_frames.specs.declared.task.Answer.{Answer}
use Rattle.mb_frames.specs.declared.task.Outcome.{Outcome}
use Rattle.mb_frames.specs.declared.task.Outcome.TheVariants as o

no-completion : (f : ArrayFrame) → fits ACompletion (array_waits f) ≡ false
no-completion (y.There object place left turn) = refl
no-completion (y.PushSet object place arguments next) = refl
no-completion (y.PushLength length) = refl
no-completion (y.PopDeleted object place value) = refl
no-completion (y.PopLength value) = refl
no-completion f = refl

of-sort : (s : Sort) (d : Outcome) → ((x : Answer) → d ≡ o.Normal x → ⊥) → ((x : Value) → d ≡ o.Throw x → ⊥)
    → IsOfSort s d → s ≡ ACompletion
of-sort s (o.Normal x) f g h = absurd (f x refl)
of-sort s (o.Throw x) f g h = absurd (g x refl)
of-sort ACompletion d f g h = refl
of-sort s (o.Return x) f g h = absurd h
of-sort s o.Break f g h = absurd h
of-sort s o.Continue f g h = absurd h

pub no-jump : (f : ArrayFrame) (d : Outcome) → IsAwaited (array_waits f) d
    → ((x : Answer) → d ≡ o.Normal x → ⊥) → ((x : Value) → d ≡ o.Throw x → ⊥) → ⊥
no-jump f d w g h =
    true≢false (sym w.fit
    ∙ ap (λ (s : Sort). fits s (array_waits f)) (of-sort w.sort d g h w.is) ∙ no-completion f)
