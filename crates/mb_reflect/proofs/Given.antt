-- What was passed, as the graph has it, and as a home may hold it.
use Rattle.std.proofs.Common.{◌≡◌, ◌∙◌, ◌∷◌, List, None, Option, Some, [], ap, drop, option_map, refl, slice_get, ℕ}
use Rattle.std.proofs.lemmas.List.Elements.{All-tail}
use Rattle.std.proofs.lemmas.List.{drop-map}
use Rattle.std.proofs.lemmas.Option.{slice_get-map}
use Rattle.std.specs.Prelude.{unwrap_or}
use Rattle.mb_base.specs.declared.value.Side.{Side}
use Rattle.mb_base.specs.declared.value.Value.{Value}
use Rattle.mb_base.specs.declared.value.Value.TheVariants as v
use Rattle.mb_frames.proofs.HeldLess.{undefined-held, values-all, values-each, values-none}
use Rattle.mb_frames.specs.Held.{HeldValue, HeldValues}
use Rattle.mb_frames.specs.Ready.{MayHold}
use Rattle.mb_frames.specs.Resolved.{values_in}
use Rattle.mb_model.specs.BuiltIns.Arguments.{arg, arg_or}
use Rattle.mb_reflect.specs.machine.Arguments.{passed, passed_or}
use Rattle.mb_world.proofs.Grow.{All-at}
use Rattle.mb_world.specs.Data.{Data}
use Rattle.mb_world.specs.Image.{Names, Resolve}
use Rattle.mb_world.specs.Value.{Val}

module _ (n : Names) (xs : List Value) (i : ℕ) where
  pub passed-or-is : (y : Value) → arg_or (values_in n xs) i (Resolve n y) ≡ Resolve n (passed_or xs i y)
  passed-or-is y =
      ap (λ (m : Option Val). unwrap_or m (Resolve n y)) (slice_get-map (Resolve n) xs i) ∙ by (slice_get xs i)
    where
      by : (m : Option Value) → unwrap_or (option_map (Resolve n) m) (Resolve n y) ≡ Resolve n (unwrap_or m y)
      by None = refl
      by (Some x) = refl

  pub passed-is : arg (values_in n xs) i ≡ Resolve n (passed xs i)
  passed-is = passed-or-is v.Undefined

pub rest-is : (n : Names) (xs : List Value) → drop 1 (values_in n xs) ≡ values_in n (drop 1 xs)
rest-is n xs = drop-map (Resolve n) 1 xs

module _ (d : Data) (home : Side) (xs : List Value) (h : MayHold d home (HeldValues xs)) where
  pub passed-or-held : (i : ℕ) (y : Value) → MayHold d home (HeldValue y) → MayHold d home (HeldValue
      (passed_or xs i y))
  passed-or-held i y k = by (slice_get xs i) refl
    where
      by : (m : Option Value) → slice_get xs i ≡ m → MayHold d home (HeldValue (unwrap_or m y))
      by None e = k
      by (Some x) e = All-at (λ z. MayHold d home (HeldValue z)) xs i x e (values-each d home xs h)

  pub passed-held : (i : ℕ) → MayHold d home (HeldValue (passed xs i))
  passed-held i = passed-or-held i v.Undefined (undefined-held d home)

pub rest-held : (d : Data) (home : Side) (xs : List Value) → MayHold d home (HeldValues xs)
    → MayHold d home (HeldValues (drop 1 xs))
rest-held d home [] h = values-none d home
rest-held d home (x ∷ xs) h =
    values-all d home xs (All-tail (λ z. MayHold d home (HeldValue z)) x xs (values-each d home (x ∷ xs) h))
