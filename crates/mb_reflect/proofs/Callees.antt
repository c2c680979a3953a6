-- Tests of what is called and of what constructs (ECMA-262 7.2.3, 7.2.4).
use Rattle.std.proofs.Common.{◌≡◌, Bool, List, Result, ap, false, true, ℕ}
use Rattle.mb_base.specs.declared.value.Side.{Side}
use Rattle.mb_frames.specs.Sorts.{Sort}
use Rattle.mb_frames.specs.declared.frame.Move.{Move}
use Rattle.mb_frames.specs.declared.machine.Halt.{Halt}
use Rattle.mb_model.specs.BuiltIns.Arguments.{need_callable, need_constructor}
use Rattle.mb_model.specs.Meaning.{finished}
use Rattle.mb_model.specs.Task.{Answer, Nothing}
use Rattle.mb_model.specs.Writing.{◌>>=◌, Does, type_error, unless_type_error}
use Rattle.mb_reflect.proofs.Doing.{Done, done-by}
use Rattle.mb_world.specs.Data.{Data}
use Rattle.mb_world.specs.Graph.{Item}
use Rattle.mb_world.specs.Image.{Image}
use Rattle.mb_world.specs.Objects.{is_callable, is_constructor}
use Rattle.mb_world.specs.Value.{Val}

module _ (home : Side) (wanted : Sort) (r : Result Move Halt) (d d' : Data) (f f' : ℕ) (y : Val)
    (rest : Answer → Does Answer) where
  abbrev tested : Bool → Does Answer
  tested b = unless_type_error home.0 b >>= rest

  pub done-called : ((log : List Item) → is_callable (Image d log) y ≡ true)
      → Done home wanted r d d' f f' (rest Nothing finished)
      → Done home wanted r d d' f f' ((need_callable home.0 y >>= rest) finished)
  done-called e h =
      done-by home wanted r d d' f f' ((need_callable home.0 y >>= rest) finished) (rest Nothing finished)
      (λ log. ap (λ (b : Bool). tested b finished (Image d log)) (e log)) h

  pub done-uncalled : ((log : List Item) → is_callable (Image d log) y ≡ false)
      → Done home wanted r d d' f f' (type_error home.0 finished)
      → Done home wanted r d d' f f' ((need_callable home.0 y >>= rest) finished)
  done-uncalled e h =
      done-by home wanted r d d' f f' ((need_callable home.0 y >>= rest) finished) (type_error home.0 finished)
      (λ log. ap (λ (b : Bool). tested b finished (Image d log)) (e log)) h

  pub done-constructor : ((log : List Item) → is_constructor (Image d log) y ≡ true)
      → Done home wanted r d d' f f' (rest Nothing finished)
      → Done home wanted r d d' f f' ((need_constructor home.0 y >>= rest) finished)
  done-constructor e h =
      done-by home wanted r d d' f f' ((need_constructor home.0 y >>= rest) finished) (rest Nothing finished)
      (λ log. ap (λ (b : Bool). tested b finished (Image d log)) (e log)) h

  pub done-no-constructor : ((log : List Item) → is_constructor (Image d log) y ≡ false)
      → Done home wanted r d d' f f' (type_error home.0 finished)
      → Done home wanted r d d' f f' ((need_constructor home.0 y >>= rest) finished)
  done-no-constructor e h =
      done-by home wanted r d d' f f' ((need_constructor home.0 y >>= rest) finished) (type_error home.0 finished)
      (λ log. ap (λ (b : Bool). tested b finished (Image d log)) (e log)) h
