-- Outcomes that a call takes.
use Rattle.std.proofs.Common.{◌≡◌, ◌∙◌, List, ap, false, refl, sym, true, true≢false, ℕ}
use Rattle.mb_base.specs.declared.value.NodeId.{NodeId}
use Rattle.mb_base.specs.declared.value.Value.{Value}
use Rattle.mb_call.specs.machine.Resuming.{IsAwaited, is_answered}
use Rattle.mb_frames.specs.Rest.Calls.{call_rest}
use Rattle.mb_frames.specs.Sorts.{ACompletion, IsOfSort, Sort, call_waits, fits}
use Rattle.mb_frames.specs.declared.calls.CallFrame.{CallFrame}
use Rattle.mb_frames.specs.declared.calls.CallFrame.TheVariants as c
use Rattle.mb_frames.specs.declared.task.Answer.{Answer}
use Rattle.mb_frames.specs.declared.task.Context.{Context}
use Rattle.mb_frames.specs.declared.task.Outcome.{Outcome}
use Rattle.mb_frames.specs.declared.task.Outcome.TheVariants as o
use Rattle.mb_model.specs.Task as model
use Rattle.mb_model.specs.Writing.{throw}
use Rattle.mb_world.specs.Form.{Form}
use Rattle.mb_world.specs.Image.{Names}
use Rattle.mb_world.specs.Value.{Val}

-- all but a statement's take answers alone
pub answered-else : (y : CallFrame)
    → ((at : Context) (node : NodeId) (next : ℕ) → y ≡ c.Statement at node next → ⊥) → is_answered y ≡ true
answered-else (c.Statement at node next) f = absurd (f at node next refl)
answered-else y f = refl

-- a throw is handed on
pub rest-throws : (n : Names) (fs : List Form) (s : ℕ) (y : CallFrame) (x : Val) → is_answered y ≡ true
    → call_rest n fs s y (model.Throw x) ≡ throw x
rest-throws n fs s (c.Statement at node next) x h = absurd (true≢false (sym h))
rest-throws n fs s y x h = refl

-- ---- no jump and no return reaches them

no-completion : (y : CallFrame) → is_answered y ≡ true → fits ACompletion (call_waits y) ≡ false
no-completion (c.Statement at node next) h = absurd (true≢false (sym h))
no-completion y h = refl

of-sort : (s : Sort) (y : Outcome) → ((x : Answer) → y ≡ o.Normal x → ⊥) → ((x : Value) → y ≡ o.Throw x → ⊥)
    → IsOfSort s y → s ≡ ACompletion
of-sort s (o.Normal x) f g h = absurd (f x refl)
of-sort s (o.Throw x) f g h = absurd (g x refl)
of-sort ACompletion y f g h = refl
of-sort s (o.Return x) f g h = absurd h
of-sort s o.Break f g h = absurd h
of-sort s o.Continue f g h = absurd h

pub no-jump : (y : CallFrame) (d : Outcome) → is_answered y ≡ true → IsAwaited (call_waits y) d
    → ((x : Answer) → d ≡ o.Normal x → ⊥) → ((x : Value) → d ≡ o.Throw x → ⊥) → ⊥
no-jump y d h w f g =
    true≢false (sym w.fit
    ∙ ap (λ (s : Sort). fits s (call_waits y)) (of-sort w.sort d f g w.is) ∙ no-completion y h)
