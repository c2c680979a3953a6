-- The prototype of what a constructor makes (ECMA-262 10.1.14).
use Rattle.std.proofs.Common.{◌≡◌, Bool, Result, ap, false, true, ℕ}
use Rattle.std.specs.Prelude.{if◌then◌else◌}
use Rattle.mb_base.specs.declared.value.Side.{Side}
use Rattle.mb_frames.specs.Sorts.{Sort}
use Rattle.mb_frames.specs.declared.frame.Move.{Move}
use Rattle.mb_frames.specs.declared.machine.Halt.{Halt}
use Rattle.mb_model.specs.BuiltIns.Arguments.{asked_prototype, made_prototype}
use Rattle.mb_model.specs.Meaning.{finished}
use Rattle.mb_model.specs.Task.{Answer}
use Rattle.mb_model.specs.Writing.{◌>>=◌, Does, give}
use Rattle.mb_reflect.proofs.Doing.{Done, done-by}
use Rattle.mb_reflect.specs.machine.Targets.{is_own_target}
use Rattle.mb_world.specs.Data.{Data}
use Rattle.mb_world.specs.Image.{Image}
use Rattle.mb_world.specs.Value.{BuiltIn, Val}

module _ (home : Side) (wanted : Sort) (r : Result Move Halt) (d d' : Data) (f f' place : ℕ) (default target : Val)
    (rest : Val → Does Answer) where
  abbrev row : Bool → Does Answer
  row b =
      (let p : Does Val = if b then give default else asked_prototype home.0 default target in p) >>= rest

  -- there is no other new target
  pub done-own : is_own_target place target ≡ true → Done home wanted r d d' f f' (rest default finished)
      → Done home wanted r d d' f f'
      ((made_prototype home.0 (BuiltIn place) default target >>= rest) finished)
  done-own e h =
      done-by home wanted r d d' f f' ((made_prototype home.0 (BuiltIn place) default target >>= rest) finished)
      (rest default finished) (λ log. ap (λ (b : Bool). row b finished (Image d log)) e) h

  -- another one is asked
  pub done-other : is_own_target place target ≡ false
      → Done home wanted r d d' f f' ((asked_prototype home.0 default target >>= rest) finished)
      → Done home wanted r d d' f f'
      ((made_prototype home.0 (BuiltIn place) default target >>= rest) finished)
  done-other e h =
      done-by home wanted r d d' f f' ((made_prototype home.0 (BuiltIn place) default target >>= rest) finished)
      ((asked_prototype home.0 default target >>= rest) finished)
      (λ log. ap (λ (b : Bool). row b finished (Image d log)) e) h
