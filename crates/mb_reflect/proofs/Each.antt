-- Rows that list keys: a unit is paid for each before they go on.
use Rattle.std.proofs.Common.{◌+◌, ◌<◌, ◌≡◌, Err, List, Result, arith, length, ℕ}
use Rattle.std.proofs.lemmas.List.{length-map}
use Rattle.mb_base.specs.declared.value.Key.{Key}
use Rattle.mb_base.specs.declared.value.Side.{Side}
use Rattle.mb_frames.proofs.Keeping.{keeps-halted}
use Rattle.mb_frames.proofs.Passed.{Part-each, Passes-each}
use Rattle.mb_frames.proofs.Readying.{changed-same}
use Rattle.mb_frames.specs.Ready.{IsReady}
use Rattle.mb_frames.specs.Resolved.{keys_of}
use Rattle.mb_frames.specs.Sorts.{AValue}
use Rattle.mb_frames.specs.declared.frame.Move.{Move}
use Rattle.mb_frames.specs.declared.machine.Halt.{Halt}
use Rattle.mb_frames.specs.declared.machine.Halt.TheVariants.{Spent as SpentHalt}
use Rattle.mb_model.specs.Writing.{Row, pay_each}
use Rattle.mb_reflect.proofs.Doing.{Done, done-passed}
use Rattle.mb_world.specs.Data.{Data}
use Rattle.mb_world.specs.Graph.{Graph}
use Rattle.mb_world.specs.Image.{key_in, names_of}
use Rattle.mb_world.specs.Key.{PropertyKey}

module _ (home : Side) (d : Data) (keys : List Key) (p : Graph → Row) (ready : IsReady d) where
  abbrev ks : List PropertyKey
  ks = keys_of (names_of d) keys

  abbrev paying : Graph → Row
  paying = λ g. pay_each ks (λ a. p) g

  -- they are paid
  pub done-each : (r : Result Move Halt) (d' : Data) (f f1 f2 : ℕ) → f1 + length keys ≡ f
      → Done home AValue r d d' f1 f2 p → Done home AValue r d d' f f2 paying
  done-each r d' f f1 f2 e h =
      let u : f1 + length ks ≡ f = omega (arith, e, length-map keys (key_in (names_of d))) in
      done-passed home AValue r d d d' f f1 f2 paying p (Passes-each d ks f f1 (λ a. p) u) (changed-same home d ready) h

  -- or can't be
  pub done-not-each : (f : ℕ) → f < length keys → Done home AValue (Err SpentHalt) d d f 0 paying
  done-not-each f e =
      let u : f < length ks = omega (arith, e, length-map keys (key_in (names_of d))) in
      record {
        part = Part-each home d ks f (λ a. p) u;
        keeps = keeps-halted home AValue SpentHalt d d (changed-same home d ready);
      }
