-- A charge of 1 after which a row may start anew.
use Rattle.std.proofs.Common.{◌+◌, ◌-◌, ◌<◌, ◌≡◌, ◌≤◌, Bool, Err, Ok, Result, arith, false, nat_lt, refl, true, ℕ}
use Rattle.std.proofs.lemmas.Bool.Decides.{nat_tests}
use Rattle.mb_base.specs.declared.value.Side.{Side}
use Rattle.mb_frames.proofs.Steps.{Grew-same}
use Rattle.mb_frames.specs.Stepping.{MayMove, PutsNone, Step, Written, charge}
use Rattle.mb_frames.specs.declared.frame.Move.{Move}
use Rattle.mb_frames.specs.declared.frame.Move.TheVariants as move
use Rattle.mb_frames.specs.declared.machine.Halt.{Halt}
use Rattle.mb_frames.specs.declared.machine.Halt.TheVariants.{NoMemory, Spent as SpentHalt}
use Rattle.mb_model.specs.Engine.{Turn}
use Rattle.mb_model.specs.Writing.{Row}
use Rattle.mb_world.specs.Data.{Data}
use Rattle.mb_world.specs.Graph.{Graph}
use Rattle.mb_world.specs.Image.{Image}

charge-turn : (g : Graph) (p : Row) (m : Move) → PutsNone (Ok m) → charge (Turn g p) m ≡ 1 + charge p m
charge-turn g p (move.Done y) h = refl
charge-turn g p (move.Wait y t) h = refl
charge-turn g p (move.Next t) h = refl
charge-turn g p (move.Anew t) h = refl
charge-turn g p (move.Entered y t) h = absurd h

may-turn : (begun : Bool) (g : Graph) (p : Row) (m : Move) → MayMove true p m → MayMove begun (Turn g p) m
may-turn true g p (move.Done y) h = tt
may-turn true g p (move.Wait y t) h = h
may-turn true g p (move.Next t) h = tt
may-turn true g p (move.Anew t) h = tt
may-turn true g p (move.Entered y t) h = absurd h
may-turn false g p (move.Done y) h = tt
may-turn false g p (move.Wait y t) h = h
may-turn false g p (move.Next t) h = tt
may-turn false g p (move.Anew t) h = omega arith
may-turn false g p (move.Entered y t) h = absurd h

-- it was paid
pub Step-turned : (home : Side) (begun : Bool) (r : Result Move Halt) (d d' : Data) (f k f' : ℕ) (l l' : Written)
    (p : Graph → Row) → 1 ≤ f → k ≡ f - 1 → PutsNone r → Step home true r d d' k f' l l' p
    → Step home begun r d d' f f' l l' (λ g. Turn g (p g))
Step-turned home begun (Ok m) d d' f k f' l l' p u e c h =
    let t : nat_lt f 1 ≡ false = grind (arith, nat_tests) in
    record {
      added = h.added;
      logged = h.logged;
      same = λ w log i. rw (t, ← e) (h.same w log i);
      paid = λ log i. omega (arith, charge-turn (Image d log) (p (Image d log)) m c, h.paid log i, e, u);
      left = λ log i. omega (arith, charge-turn (Image d log) (p (Image d log)) m c, h.paid log i, h.left log i, e, u);
      may = λ log i. may-turn begun (Image d log) (p (Image d log)) m (h.may log i);
      ids = h.ids;
      grew = h.grew;
    }
Step-turned home begun (Err SpentHalt) d d' f k f' l l' p u e c h =
    let t : nat_lt f 1 ≡ false = grind (arith, nat_tests) in
    record {
      same = λ w log i. rw (t, ← e) (h.same w log i);
      above = λ log i. omega (arith, h.above log i, e, u);
      trace = h.trace;
      told = h.told;
      grew = h.grew;
    }
Step-turned home begun (Err NoMemory) d d' f k f' l l' p u e c h = tt

-- it can't be paid
pub Step-unturned : (home : Side) (begun : Bool) (d : Data) (f : ℕ) (l : Written) (p : Graph → Row) → f < 1
    → Step home begun (Err SpentHalt) d d f f l l (λ g. Turn g (p g))
Step-unturned home begun d f l p u =
    let t : nat_lt f 1 ≡ true = grind (arith, nat_tests) in
    record {
      same = λ w log i. rw t refl;
      above = λ log i. omega (arith, u);
      trace = refl;
      told = refl;
      grew = Grew-same d;
    }
