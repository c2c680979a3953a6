-- Rows by what was passed.
use Rattle.std.proofs.Common.{◌≡◌, Result, subst, sym, ℕ}
use Rattle.mb_base.specs.declared.value.Side.{Side}
use Rattle.mb_frames.specs.Passing.{Part}
use Rattle.mb_frames.specs.declared.frame.Move.{Move}
use Rattle.mb_frames.specs.declared.machine.Halt.{Halt}
use Rattle.mb_model.specs.Meaning.{finished}
use Rattle.mb_model.specs.Task.{Answer}
use Rattle.mb_model.specs.Writing.{Does}
use Rattle.mb_world.specs.Data.{Data}
use Rattle.mb_world.specs.Value.{Val}

module _ (home : Side) (r : Result Move Halt) (d d' : Data) (f : ℕ) where
  pub by-one : (row : Val → Does Answer) (x y : Val) → x ≡ y → Part home r d d' f f (row y finished)
      → Part home r d d' f f (row x finished)
  by-one row x y e h = subst (λ (z : Val). Part home r d d' f f (row z finished)) (sym e) h

  pub by-two : (row : Val → Val → Does Answer) (x y x' y' : Val) → x ≡ x' → y ≡ y'
      → Part home r d d' f f (row x' y' finished) → Part home r d d' f f (row x y finished)
  by-two row x y x' y' e g h =
      by-one (λ (z : Val). row z y) x x' e (by-one (λ (z : Val). row x' z) y y' g h)

  pub by-three : (row : Val → Val → Val → Does Answer) (x y z x' y' z' : Val) → x ≡ x' → y ≡ y' → z ≡ z'
      → Part home r d d' f f (row x' y' z' finished) → Part home r d d' f f (row x y z finished)
  by-three row x y z x' y' z' e g k h =
      by-one (λ (u : Val). row u y z) x x' e (by-two (λ (u w : Val). row x' u w) y z y' z' g k h)

  pub by-four : (row : Val → Val → Val → Val → Does Answer) (x y z u x' y' z' u' : Val) → x ≡ x' → y ≡ y' → z ≡ z'
      → u ≡ u' → Part home r d d' f f (row x' y' z' u' finished) → Part home r d d' f f (row x y z u finished)
  by-four row x y z u x' y' z' u' e g k l h =
      by-one (λ (w : Val). row w y z u) x x' e
      (by-three (λ (a b c : Val). row x' a b c) y z u y' z' u' g k l h)
