-- The arguments of members.
use Rattle.std.proofs.Common.{◌∙◌, ◌≡◌, List, None, Option, Some, ap, option_map, refl, slice_get, ℕ}
use Rattle.std.proofs.lemmas.Option.{slice_get-map}
use Rattle.std.specs.Prelude.{unwrap_or}
use Rattle.mb_arrayapi.specs.machine.Membering.{argument}
use Rattle.mb_base.specs.declared.value.Side.{Side}
use Rattle.mb_base.specs.declared.value.Value.{Value}
use Rattle.mb_base.specs.declared.value.Value.TheVariants as v
use Rattle.mb_frames.proofs.HeldLess.{undefined-held, values-each}
use Rattle.mb_frames.specs.Held.{HeldValue, HeldValues}
use Rattle.mb_frames.specs.Holding.{value_if}
use Rattle.mb_frames.specs.Ready.{Holds, MayHold}
use Rattle.mb_frames.specs.Resolved.{values_in}
use Rattle.mb_model.specs.BuiltIns.Arguments.{arg}
use Rattle.mb_model.specs.Task.{Answer}
use Rattle.mb_model.specs.Writing.{Does}
use Rattle.mb_world.proofs.Grow.{All-at}
use Rattle.mb_world.specs.Data.{Data}
use Rattle.mb_world.specs.Image.{Names, Resolve}
use Rattle.mb_world.specs.Value.{Undefined, Val}

arg-by : (n : Names) (o : Option Value)
    → unwrap_or (option_map (Resolve n) o) Undefined ≡ Resolve n (unwrap_or o v.Undefined)
arg-by n None = refl
arg-by n (Some x) = refl

pub arg-is : (n : Names) (xs : List Value) (k : ℕ) → arg (values_in n xs) k ≡ Resolve n (argument xs k)
arg-is n xs k =
    ap (λ (o : Option Val). unwrap_or o Undefined) (slice_get-map (Resolve n) xs k) ∙ arg-by n (slice_get xs k)

pub two-are : (n : Names) (xs : List Value) (F : Val → Val → Does Answer)
    → F (arg (values_in n xs) 0) (arg (values_in n xs) 1) ≡ F (Resolve n (argument xs 0)) (Resolve n (argument xs 1))
two-are n xs F =
    ap (λ (y : Val). F y (arg (values_in n xs) 1)) (arg-is n xs 0) ∙ ap (F (Resolve n (argument xs 0))) (arg-is n xs 1)

pub one-is : (n : Names) (xs : List Value) (F : Val → Does Answer)
    → F (arg (values_in n xs) 0) ≡ F (Resolve n (argument xs 0))
one-is n xs F = ap F (arg-is n xs 0)

pub given-is : (n : Names) (xs : List Value) (F : Val → Option Val → Does Answer)
    → F (arg (values_in n xs) 0) (slice_get (values_in n xs) 1)
    ≡ F (Resolve n (argument xs 0)) (option_map (Resolve n) (slice_get xs 1))
given-is n xs F =
    ap (λ (y : Val). F y (slice_get (values_in n xs) 1)) (arg-is n xs 0)
    ∙ ap (F (Resolve n (argument xs 0))) (slice_get-map (Resolve n) xs 1)

module _ (d : Data) (home : Side) (xs : List Value) (h : MayHold d home (HeldValues xs)) where
  by-option : (o : Option Value) → ((x : Value) → o ≡ Some x → MayHold d home (HeldValue x))
      → MayHold d home (HeldValue (unwrap_or o v.Undefined))
  by-option None g = undefined-held d home
  by-option (Some x) g = g x refl

  given-by : (o : Option Value) → ((x : Value) → o ≡ Some x → MayHold d home (HeldValue x)) → Holds d home (value_if o)
  given-by None g = tt
  given-by (Some x) g = (g x refl, tt)

  its-value : (k : ℕ) (x : Value) → slice_get xs k ≡ Some x → MayHold d home (HeldValue x)
  its-value k x e = All-at (λ (z : Value). MayHold d home (HeldValue z)) xs k x e (values-each d home xs h)

  pub argument-held : (k : ℕ) → MayHold d home (HeldValue (argument xs k))
  argument-held k = by-option (slice_get xs k) (its-value k)

  pub given-held : (k : ℕ) → Holds d home (value_if (slice_get xs k))
  given-held k = given-by (slice_get xs k) (its-value k)
