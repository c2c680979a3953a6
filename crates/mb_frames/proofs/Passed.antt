-- Parts that go over to other parts, one after the other, and steps that begin with them.
use Rattle.std.proofs.Common.{◌+◌, ◌++◌, ◌-◌, ◌<◌, Bool, Err, List, Ok, Result, [], ap, arith, false, length, map, nat_lt, refl, suc, sym, true, zero, ℕ, ◌∙◌, ◌∷◌, ◌≡◌, ◌≤◌}
use Rattle.std.proofs.lemmas.Bool.Decides.{nat_tests}
use Rattle.mb_base.specs.declared.value.Side.{Side}
use Rattle.mb_frames.proofs.Steps.{Grew-same, Grew-then, Step-by, Step-sure, Step-unpaid}
use Rattle.mb_frames.specs.Passing.{Part, Passes, TextsGrew}
use Rattle.mb_frames.specs.Standing.{Logged}
use Rattle.mb_frames.specs.Stepping.{MayMove, PutsNone, Step, Sure, Written, charge, charged_by}
use Rattle.mb_model.specs.Engine.{exec, leading}
use Rattle.mb_model.specs.Trace.Entries.{entries}
use Rattle.mb_model.specs.Task.{Answer, Nothing}
use Rattle.mb_model.specs.Writing.{Row, pay_each}
use Rattle.mb_world.specs.Data.{Data}
use Rattle.mb_world.specs.Graph.{Entry, Graph, Item, Traced}
use Rattle.mb_world.specs.Image.{Image, entries_in}
use Rattle.mb_world.specs.Laws.{Becomes}
use Rattle.mb_frames.specs.declared.frame.Move.{Move}
use Rattle.mb_frames.specs.declared.frame.Move.TheVariants as move
use Rattle.mb_frames.specs.declared.machine.Halt.{Halt}
use Rattle.mb_frames.specs.declared.machine.Halt.TheVariants.{Spent as SpentHalt, NoMemory}

-- a log of these entries
log-of : List Entry → List Item
log-of es = map Traced es

logged-of : (es : List Entry) → entries (log-of es) ≡ es
unfolding log-of
logged-of [] = refl
logged-of (e ∷ es) = ap (λ xs. e ∷ xs) (logged-of es)

logged-still : (d d' : Data) (log : List Item) → entries_in d' ≡ entries_in d → Logged d log → Logged d' log
logged-still d d' log e h = h ∙ sym e

may-puts : (p : Row) (m : Move) → MayMove true p m → PutsNone (Ok m)
may-puts p (move.Done y) h = tt
may-puts p (move.Wait y t) h = tt
may-puts p (move.Next t) h = tt
may-puts p (move.Anew t) h = tt
may-puts p (move.Entered y t) h = h

-- a step of a row that is under way puts no entry below
pub puts-none : (home : Side) (r : Result Move Halt) (d d' : Data) (f f' : ℕ) (l l' : Written) (p : Graph → Row)
    → Step home true r d d' f f' l l' p → PutsNone r
puts-none home (Ok m) d d' f f' l l' p h =
    may-puts (p (Image d (log-of (entries_in d)))) m (h.may (log-of (entries_in d)) (logged-of (entries_in d)))
puts-none home (Err SpentHalt) d d' f f' l l' p h = tt
puts-none home (Err NoMemory) d d' f f' l l' p h = tt

charge-over : (p q : Row) (m : Move) (f f' : ℕ) → PutsNone (Ok m) → f' + leading p ≡ f + leading q
    → f' + charge p m ≡ f + charge q m
charge-over p q (move.Done y) f f' h e = e
charge-over p q (move.Wait y t) f f' h e = e
charge-over p q (move.Next t) f f' h e = e
charge-over p q (move.Anew t) f f' h e = e
charge-over p q (move.Entered y t) f f' h e = absurd h

may-over : (begun : Bool) (p q : Row) (m : Move) (f f' : ℕ) → PutsNone (Ok m) → f' ≤ f
    → f' + leading p ≡ f + leading q → MayMove begun q m → MayMove begun p m
may-over true p q (move.Done y) f f' h u e m = tt
may-over true p q (move.Wait y t) f f' h u e m = m
may-over true p q (move.Next t) f f' h u e m = tt
may-over true p q (move.Anew t) f f' h u e m = tt
may-over true p q (move.Entered y t) f f' h u e m = absurd h
may-over false p q (move.Done y) f f' h u e m = tt
may-over false p q (move.Wait y t) f f' h u e m = m
may-over false p q (move.Next t) f f' h u e m = tt
may-over false p q (move.Anew t) f f' h u e m = omega (arith, u, e, m)
may-over false p q (move.Entered y t) f f' h u e m = absurd h

-- a step of the part to which another went over is one of that other part
pub Step-passed : (home : Side) (begun : Bool) (r : Result Move Halt) (d1 d2 d3 : Data) (f1 f2 f3 : ℕ) (l l' : Written)
    (p q : Graph → Row) → PutsNone r → Passes d1 d2 f1 f2 p q → Step home begun r d2 d3 f2 f3 l l' q
    → Step home begun r d1 d3 f1 f3 l l' p
Step-passed home begun (Ok m) d1 d2 d3 f1 f2 f3 l l' p q c v h = record {
  added = h.added;
  logged = record { few = h.logged.few; trace = h.logged.trace ∙ ap (λ es. es ++ entries h.added) v.trace; told = h.logged.told };
  same = λ w log i. v.same w begun log i ∙ h.same w log (logged-still d1 d2 log v.trace i);
  paid = λ log i. omega (arith, charge-over (p (Image d1 log)) (q (Image d2 log)) m f1 f2 c (v.cost log i), h.paid log (logged-still d1 d2 log v.trace i), v.paid);
  left = λ log i. omega (arith, charge-over (p (Image d1 log)) (q (Image d2 log)) m f1 f2 c (v.cost log i), h.paid log (logged-still d1 d2 log v.trace i), h.left log (logged-still d1 d2 log v.trace i), v.paid);
  may = λ log i. may-over begun (p (Image d1 log)) (q (Image d2 log)) m f1 f2 c v.paid (v.cost log i) (h.may log (logged-still d1 d2 log v.trace i));
  ids = h.ids;
  grew = Grew-then d1 d2 d3 v.grew h.grew;
}
Step-passed home begun (Err SpentHalt) d1 d2 d3 f1 f2 f3 l l' p q c v h = record {
  same = λ w log i. v.same w begun log i ∙ h.same w log (logged-still d1 d2 log v.trace i);
  above = λ log i. omega (arith, v.cost log i, h.above log (logged-still d1 d2 log v.trace i), v.paid);
  trace = h.trace ∙ v.trace;
  told = h.told;
  grew = Grew-then d1 d2 d3 v.grew h.grew;
}
Step-passed home begun (Err NoMemory) d1 d2 d3 f1 f2 f3 l l' p q c v h = tt

pub Passes-by : (d : Data) (f : ℕ) (p q : Graph → Row) → ((log : List Item) → p (Image d log) ≡ q (Image d log))
    → Passes d d f f p q
Passes-by d f p q e = record {
  same = λ w begun log i. ap (λ r. exec w begun r f) (e log);
  cost = λ log i. ap (λ r. f + leading r) (e log);
  paid = omega arith;
  trace = refl;
  grew = Grew-same d;
}

pub Passes-then : (d1 d2 d3 : Data) (f1 f2 f3 : ℕ) (p q r : Graph → Row)
    → Passes d1 d2 f1 f2 p q → Passes d2 d3 f2 f3 q r → Passes d1 d3 f1 f3 p r
Passes-then d1 d2 d3 f1 f2 f3 p q r v u = record {
  same = λ w begun log i. v.same w begun log i ∙ u.same w begun log (logged-still d1 d2 log v.trace i);
  cost = λ log i. omega (arith, v.cost log i, u.cost log (logged-still d1 d2 log v.trace i));
  paid = omega (arith, v.paid, u.paid);
  trace = u.trace ∙ v.trace;
  grew = Grew-then d1 d2 d3 v.grew u.grew;
}

-- a charge was paid
pub Passes-paid : (d : Data) (n f f' : ℕ) (p : Graph → Row) → f' + n ≡ f → Passes d d f f' (charged_by n p) p
Passes-paid d n f f' p e =
    let t : nat_lt f n ≡ false = grind (arith, nat_tests) in
    let u : f - n ≡ f' = omega arith in
    record {
      same = λ w begun log i. rw (t, u) refl;
      cost = λ log i. omega (arith, e);
      paid = omega (arith, e);
      trace = refl;
      grew = Grew-same d;
    }

-- texts were added, and the part goes on
pub Passes-texts : (d d' : Data) (f : ℕ) (p q : Graph → Row) → TextsGrew d d'
    → ((log : List Item) → p (Image d log) ≡ q (Image d log)) → Passes d d' f f p q
Passes-texts d d' f p q t e = record {
  same = λ w begun log i. ap (λ r. exec w begun r f) (e log ∙ ap q (sym (t.becomes.image log)));
  cost = λ log i. ap (λ r. f + leading r) (e log ∙ ap q (sym (t.becomes.image log)));
  paid = omega arith;
  trace = t.trace;
  grew = record {
    grows = t.becomes.grows;
    programs = ap (λ (x : Data). x.programs) t.texts;
    sides = ap (λ (x : Data). x.sides) t.texts;
    joined = ap (λ (x : Data). x.joined) t.texts;
  };
}

-- ---- parts that steps do

pub Part-passed : (home : Side) (r : Result Move Halt) (d1 d2 d3 : Data) (f1 f2 f3 : ℕ) (p q : Graph → Row)
    → Passes d1 d2 f1 f2 p q → Part home r d2 d3 f2 f3 q → Part home r d1 d3 f1 f3 p
Part-passed home r d1 d2 d3 f1 f2 f3 p q v h =
    λ begun l. Step-passed home begun r d1 d2 d3 f1 f2 f3 l l p q (puts-none home r d2 d3 f2 f3 l l q (h true l)) v (h begun l)

pub Part-sure : (home : Side) (d : Data) (f : ℕ) (p : Graph → Row) (m : Move) → Sure home d p m
    → Part home (Ok m) d d f f p
Part-sure home d f p m h = λ begun l. Step-sure home begun d p m f l h

pub Part-by : (home : Side) (r : Result Move Halt) (d d' : Data) (f f' : ℕ) (p q : Graph → Row)
    → ((log : List Item) → p (Image d log) ≡ q (Image d log)) → Part home r d d' f f' q → Part home r d d' f f' p
Part-by home r d d' f f' p q e h = λ begun l. Step-by home begun r d d' f f' l l p q e (h begun l)

pub Part-unpaid : (home : Side) (d : Data) (n f : ℕ) (p : Graph → Row) → f < n
    → Part home (Err SpentHalt) d d f f (charged_by n p)
Part-unpaid home d n f p u = λ begun l. Step-unpaid home begun d n f l p u

-- the graph changed, and the part goes on
pub Passes-becomes : (d d' : Data) (f : ℕ) (F : Graph → Graph) (p q : Graph → Row) → Becomes d d' F
    → entries_in d' ≡ entries_in d → d'.programs ≡ d.programs → d'.sides ≡ d.sides → d'.joined ≡ d.joined
    → ((log : List Item) → p (Image d log) ≡ q (F (Image d log))) → Passes d d' f f p q
Passes-becomes d d' f F p q b t programs sides joined e = record {
  same = λ w begun log i. ap (λ r. exec w begun r f) (e log ∙ ap q (sym (b.image log)));
  cost = λ log i. ap (λ r. f + leading r) (e log ∙ ap q (sym (b.image log)));
  paid = omega arith;
  trace = t;
  grew = record { grows = b.grows; programs = programs; sides = sides; joined = joined };
}

-- ---- charges of 1, one for each of a list

-- charges of 1 were paid
pub Passes-each : {X : Type 0} (d : Data) (xs : List X) (f f' : ℕ) (p : Answer → Graph → Row) → f' + length xs ≡ f
    → Passes d d f f' (λ g. pay_each xs p g) (p Nothing)
Passes-each d [] f f' p e = let i : f ≡ f' = omega (arith, e) in rw i (Passes-by d f' (p Nothing) (p Nothing) (λ log. refl))
Passes-each d (x ∷ xs) f f' p e =
    Passes-then d d d f (f' + length xs) f' (λ g. pay_each (x ∷ xs) p g) (λ g. pay_each xs p g) (p Nothing)
    (Passes-paid d 1 f (f' + length xs) (λ g. pay_each xs p g) (omega (arith, e)))
    (Passes-each d xs (f' + length xs) f' p refl)

-- they couldn't be paid
pub Part-each : {X : Type 0} (home : Side) (d : Data) (xs : List X) (f : ℕ) (p : Answer → Graph → Row) → f < length xs
    → Part home (Err SpentHalt) d d f 0 (λ g. pay_each xs p g)
Part-each home d [] f p e = absurd (omega (arith, e))
Part-each home d (x ∷ xs) zero p e = Part-unpaid home d 1 0 (λ g. pay_each xs p g) (omega arith)
Part-each home d (x ∷ xs) (suc f) p e =
    Part-passed home (Err SpentHalt) d d d (suc f) f 0 (λ g. pay_each (x ∷ xs) p g) (λ g. pay_each xs p g)
    (Passes-paid d 1 (suc f) f (λ g. pay_each xs p g) (omega arith))
    (Part-each home d xs f p (omega (arith, e)))

-- no lines, where none matter
pub no-lines : Written
no-lines = record { traced = false; lettered = false; lines = [] }
