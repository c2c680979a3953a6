-- Steps that many crates make: what charges nothing, a charge, what takes the place of a row, what is handed on.
use Rattle.mb_model.proofs.Engine.{entered-begun}
use Rattle.std.proofs.lemmas.List.{append_assoc, length-map}
use Rattle.std.specs.Prelude.{length}
use Rattle.mb_frames.specs.Holding.{move_held}
use Rattle.mb_frames.specs.Standing.{Logged, entry_by, forms_at, frame_gives, frame_row}
use Rattle.mb_frames.specs.Stepping.{PutsNone, charged_by, IsWait}
use Rattle.mb_model.specs.Engine.{Do, charged_row, ending}
use Rattle.mb_model.specs.Trace.Entries.{entries, entry_of, with_entry}
use Rattle.mb_world.specs.Form.{Form}
use Rattle.mb_world.specs.Image.{Names, entry_in}
use Rattle.std.proofs.Common.{◌+◌, ◌++◌, ◌-◌, ◌<◌, Bool, Err, List, Ok, Result, Some, [], add-one, ap, arith, drop, false, nat_lt, refl, slice_get, suc, sym, true, zero, ℕ, ◌∙◌, ◌∷◌, ◌≡◌, ◌≤◌}
use Rattle.mb_base.specs.declared.value.Side.{Side}
use Rattle.mb_frames.specs.Held.{AreIn}
use Rattle.mb_frames.specs.Holding.{task_held}
use Rattle.mb_frames.specs.Resolved.{task_in}
use Rattle.mb_frames.specs.Standing.{Tasks, moves}
use Rattle.mb_frames.specs.Stepping.{Added, Grew, IsCalm, MayMove, Step, Sure, Written, charge}
use Rattle.mb_model.specs.Engine.{Gives, Pay, Ret, Spent, and_then, exec, leading}
use Rattle.mb_model.specs.Meaning.{Ends, finished}
use Rattle.mb_model.specs.Writing.{Row, again, answer, is_value, pass, throw}
use Rattle.mb_world.proofs.Grow.{Grows-same, Grows-then}
use Rattle.mb_world.specs.Data.{Data}
use Rattle.mb_world.specs.Graph.{Graph, Item}
use Rattle.mb_world.specs.Ids.{ValueIn}
use Rattle.mb_world.specs.Image.{Image, Resolve, entries_in, names_of}
use Rattle.mb_base.specs.declared.value.Value.{Value}
use Rattle.mb_frames.specs.declared.task.Task.{Task}
use Rattle.mb_frames.specs.declared.task.Answer.TheVariants as a
use Rattle.mb_frames.specs.declared.task.Outcome.TheVariants as o
use Rattle.mb_frames.specs.declared.frame.Frame.{Frame}
use Rattle.mb_frames.specs.declared.frame.Frame.TheVariants as x
use Rattle.mb_frames.specs.declared.frame.Entering.{Entering}
use Rattle.mb_frames.specs.declared.frame.Move.{Move}
use Rattle.mb_frames.specs.declared.frame.Move.TheVariants as move
use Rattle.mb_frames.specs.declared.machine.Halt.{Halt}
use Rattle.mb_frames.specs.declared.machine.Halt.TheVariants.{Spent as SpentHalt, NoMemory}
use Rattle.mb_model.specs.Meaning.{row}
use Rattle.mb_model.specs.Task as model
use Rattle.std.proofs.lemmas.Bool.Decides.{nat_tests}

pub Grew-same : (d : Data) → Grew d d
Grew-same d = record { grows = Grows-same d; programs = refl; sides = refl; joined = refl }

pub Grew-then : (d1 d2 d3 : Data) → Grew d1 d2 → Grew d2 d3 → Grew d1 d3
Grew-then d1 d2 d3 g h = record {
  grows = Grows-then d1 d2 d3 g.grows h.grows;
  programs = h.programs ∙ g.programs;
  sides = h.sides ∙ g.sides;
  joined = h.joined ∙ g.joined;
}

pub append-none : {A : Type 0} (xs : List A) → xs ++ [] ≡ xs
append-none [] = refl
append-none (x ∷ xs) = ap (λ ys. x ∷ ys) (append-none xs)

-- nothing is added
pub Added-none : (d : Data) (l : Written) → Added d d l l []
Added-none d l = record {
  few = omega arith;
  trace = sym (append-none (entries_in d));
  told = ap (λ ls. record l { lines = ls }) (sym (append-none l.lines));
}

-- another world has the same entries
pub Added-still : (d d' : Data) (l : Written) → entries_in d' ≡ entries_in d → Added d d' l l []
Added-still d d' l e = record {
  few = omega arith;
  trace = e ∙ sym (append-none (entries_in d));
  told = ap (λ ls. record l { lines = ls }) (sym (append-none l.lines));
}

charge-calm : (p : Row) (m : Move) → IsCalm m → charge p m ≡ leading p
charge-calm p (move.Done y) h = refl
charge-calm p (move.Wait y t) h = refl
charge-calm p (move.Next t) h = refl
charge-calm p (move.Anew t) h = absurd h
charge-calm p (move.Entered y t) h = absurd h

pub may-calm : (begun : Bool) (p : Row) (m : Move) → IsCalm m → MayMove begun p m
may-calm true p (move.Done y) h = tt
may-calm true p (move.Wait y t) h = h
may-calm true p (move.Next t) h = tt
may-calm true p (move.Anew t) h = absurd h
may-calm true p (move.Entered y t) h = absurd h
may-calm false p (move.Done y) h = tt
may-calm false p (move.Wait y t) h = h
may-calm false p (move.Next t) h = tt
may-calm false p (move.Anew t) h = absurd h
may-calm false p (move.Entered y t) h = absurd h

-- a part that charges nothing and changes nothing
pub Step-sure : (home : Side) (begun : Bool) (d : Data) (p : Graph → Row) (m : Move) (f : ℕ) (l : Written)
    → Sure home d p m → Step home begun (Ok m) d d f f l l p
Step-sure home begun d p m f l h = record {
  added = [];
  logged = Added-none d l;
  same = λ w log e. h.same w begun log f ∙ ap (λ k. moves w d home m (Image d k) f) (sym (append-none log));
  paid = λ log e. omega (arith, charge-calm (p (Image d log)) m h.calm, h.free log);
  left = λ log e. omega (arith, charge-calm (p (Image d log)) m h.calm, h.free log);
  may = λ log e. may-calm begun (p (Image d log)) m h.calm;
  ids = h.ids;
  grew = Grew-same d;
}

-- another way to write a part of a row
pub Sure-by : (home : Side) (d : Data) (p q : Graph → Row) (m : Move)
    → ((log : List Item) → p (Image d log) ≡ q (Image d log)) → Sure home d q m → Sure home d p m
Sure-by home d p q m e h = record {
  same = λ w begun log f. ap (λ r. exec w begun r f) (e log) ∙ h.same w begun log f;
  free = λ log. ap leading (e log) ∙ h.free log;
  calm = h.calm;
  ids = h.ids;
}

pub Sure-value : (home : Side) (d : Data) (y : Value) → ValueIn d y
    → Sure home d (is_value (Resolve (names_of d) y) finished) (move.Done (o.Normal (a.Value y)))
Sure-value home d y h = record {
  same = λ w begun log f. refl;
  free = λ log. refl;
  calm = tt;
  ids = (h, tt);
}

pub Sure-throw : (home : Side) (d : Data) (y : Value) → ValueIn d y
    → Sure home d (throw (Resolve (names_of d) y) finished) (move.Done (o.Throw y))
Sure-throw home d y h = record {
  same = λ w begun log f. refl;
  free = λ log. refl;
  calm = tt;
  ids = (h, tt);
}

pass-same : (y : model.Outcome) (g : Graph) → pass y finished g ≡ Ret y g
pass-same (model.Normal y) g = refl
pass-same (model.Throw y) g = refl
pass-same (model.Return y) g = refl
pass-same model.Break g = refl
pass-same model.Continue g = refl

-- nothing is left to be done after a task
next-same : (w : Tasks) (r : Ends) → and_then r (λ y g f. exec w true (pass y finished g) f) ≡ r
next-same w (Gives y g f) = rw (pass-same y g) refl
next-same w (Spent g f) = refl

-- a row that ends with a task
pub Sure-next : (home : Side) (d : Data) (t : Task) → AreIn d (task_held t)
    → Sure home d (answer (task_in (names_of d) home.0 t) finished) (move.Next t)
Sure-next home d t h = record {
  same = λ w begun log f. next-same w (w.task (task_in (names_of d) home.0 t) (Image d log) f);
  free = λ log. refl;
  calm = tt;
  ids = h;
}

-- a row starts anew, with no charge
pub Step-again : (home : Side) (d : Data) (t : Task) (f : ℕ) (l : Written) → AreIn d (task_held t)
    → Step home true (Ok (move.Anew t)) d d f f l l (again (task_in (names_of d) home.0 t) finished)
Step-again home d t f l h = record {
  added = [];
  logged = Added-none d l;
  same = λ w log e.
      next-same w (w.anew (task_in (names_of d) home.0 t) (Image d log) f)
      ∙ ap (λ k. w.anew (task_in (names_of d) home.0 t) (Image d k) f) (sym (append-none log));
  paid = λ log e. omega arith;
  left = λ log e. omega arith;
  may = λ log e. tt;
  ids = h;
  grew = Grew-same d;
}

-- another way to write a part of a row, for any step
pub Step-by : (home : Side) (begun : Bool) (r : Result Move Halt) (d d' : Data) (f f' : ℕ) (l l' : Written)
    (p q : Graph → Row) → ((log : List Item) → p (Image d log) ≡ q (Image d log))
    → Step home begun r d d' f f' l l' q → Step home begun r d d' f f' l l' p
Step-by home begun (Ok m) d d' f f' l l' p q e h = record {
  added = h.added;
  logged = h.logged;
  same = λ w log i. ap (λ x. exec w begun x f) (e log) ∙ h.same w log i;
  paid = λ log i. rw (e log) (h.paid log i);
  left = λ log i. rw (e log) (h.left log i);
  may = λ log i. rw (e log) (h.may log i);
  ids = h.ids;
  grew = h.grew;
}
Step-by home begun (Err SpentHalt) d d' f f' l l' p q e h = record {
  same = λ w log i. ap (λ x. exec w begun x f) (e log) ∙ h.same w log i;
  above = λ log i. rw (e log) (h.above log i);
  trace = h.trace;
  told = h.told;
  grew = h.grew;
}
Step-by home begun (Err NoMemory) d d' f f' l l' p q e h = tt

-- ---- a charge in front of a part

charge-more : (n : ℕ) (g : Graph) (p : Row) (m : Move) → PutsNone (Ok m) → charge (Pay n g p) m ≡ n + charge p m
charge-more n g p (move.Done y) h = refl
charge-more n g p (move.Wait y t) h = refl
charge-more n g p (move.Next t) h = refl
charge-more n g p (move.Anew t) h = refl
charge-more n g p (move.Entered y t) h = absurd h

may-more : (begun : Bool) (n : ℕ) (g : Graph) (p : Row) (m : Move) → MayMove begun p m → MayMove begun (Pay n g p) m
may-more true n g p (move.Done y) h = tt
may-more true n g p (move.Wait y t) h = h
may-more true n g p (move.Next t) h = tt
may-more true n g p (move.Anew t) h = tt
may-more true n g p (move.Entered y t) h = absurd h
may-more false n g p (move.Done y) h = tt
may-more false n g p (move.Wait y t) h = h
may-more false n g p (move.Next t) h = tt
may-more false n g p (move.Anew t) h = omega (arith, h)
may-more false n g p (move.Entered y t) h = h

-- it was paid, in the world from which the step began
pub Step-paid : (home : Side) (begun : Bool) (r : Result Move Halt) (d d' : Data) (n f k f' : ℕ) (l l' : Written)
    (p : Graph → Row) → n ≤ f → k ≡ f - n → PutsNone r → Step home begun r d d' k f' l l' p
    → Step home begun r d d' f f' l l' (charged_by n p)
Step-paid home begun (Ok m) d d' n f k f' l l' p u e c h =
    let t : nat_lt f n ≡ false = grind (arith, nat_tests) in
    record {
      added = h.added;
      logged = h.logged;
      same = λ w log i. rw (t, ← e) (h.same w log i);
      paid = λ log i. omega (arith, charge-more n (Image d log) (p (Image d log)) m c, h.paid log i, e, u);
      left = λ log i. omega (arith, charge-more n (Image d log) (p (Image d log)) m c, h.paid log i, h.left log i, e, u);
      may = λ log i. may-more begun n (Image d log) (p (Image d log)) m (h.may log i);
      ids = h.ids;
      grew = h.grew;
    }
Step-paid home begun (Err SpentHalt) d d' n f k f' l l' p u e c h =
    let t : nat_lt f n ≡ false = grind (arith, nat_tests) in
    record {
      same = λ w log i. rw (t, ← e) (h.same w log i);
      above = λ log i. omega (arith, h.above log i, e, u);
      trace = h.trace;
      told = h.told;
      grew = h.grew;
    }
Step-paid home begun (Err NoMemory) d d' n f k f' l l' p u e c h = tt

-- it can't be paid
pub Step-unpaid : (home : Side) (begun : Bool) (d : Data) (n f : ℕ) (l : Written) (p : Graph → Row) → f < n
    → Step home begun (Err SpentHalt) d d f f l l (charged_by n p)
Step-unpaid home begun d n f l p u =
    let t : nat_lt f n ≡ true = grind (arith, nat_tests) in
    record {
      same = λ w log i. rw t refl;
      above = λ log i. omega (arith, u);
      trace = refl;
      told = refl;
      grew = Grew-same d;
    }

-- the rest of a list from a place on
pub drop-at : {A : Type 0} (xs : List A) (i : ℕ) (x : A) → slice_get xs i ≡ Some x → drop i xs ≡ x ∷ drop (i + 1) xs
drop-at [] i x e = cc
drop-at (y ∷ ys) zero x e = cc
drop-at (y ∷ ys) (suc i) x e = rw add-one (rw add-one at (drop-at ys i x e))

-- ---- a frame that waits

wait-row : (w : Tasks) (n : Names) (fs : List Form) (s : ℕ) (y : Frame) (q : model.Outcome) (k : Graph) (f : ℕ)
    → IsWait y → frame_gives w n fs s y q k f ≡ exec w true (frame_row n fs s y q k) f
wait-row w n fs s (x.Begin t) q k f h = absurd h
wait-row w n fs s (x.Begun t) q k f h = absurd h
wait-row w n fs s (x.Anew t) q k f h = absurd h
wait-row w n fs s (x.Expr t) q k f h = refl
wait-row w n fs s (x.Stmt t) q k f h = refl
wait-row w n fs s (x.Call t) q k f h = refl
wait-row w n fs s (x.Reflect t) q k f h = refl
wait-row w n fs s (x.Array t) q k f h = refl
wait-row w n fs s (x.Proxy t) q k f h = refl
wait-row w n fs s (x.Collect t) q k f h = refl
wait-row w n fs s (x.Membrane t) q k f h = refl
wait-row w n fs s (x.Entry t) q k f h = refl

and_then-by : (r : Ends) (a b : model.Outcome → Graph → ℕ → Ends)
    → ((q : model.Outcome) (k : Graph) (f : ℕ) → a q k f ≡ b q k f) → and_then r a ≡ and_then r b
and_then-by (Gives q k f) a b e = e q k f
and_then-by (Spent k f) a b e = refl

-- a row that has a task done, where the frame stands for its rest
pub Sure-wait : (home : Side) (d : Data) (y : Frame) (t : Task) (p : Graph → Row) (r : model.Outcome → Graph → Row)
    → ((log : List Item) → p (Image d log) ≡ Do (task_in (names_of d) home.0 t) (Image d log) r) → IsWait y
    → ((q : model.Outcome) (k : Graph) → r q k ≡ frame_row (names_of d) (forms_at d home) home.0 y q k)
    → AreIn d (move_held (move.Wait y t)) → Sure home d p (move.Wait y t)
Sure-wait home d y t p r e h c i = record {
  same = λ w begun log f.
      ap (λ z. exec w begun z f) (e log)
      ∙ and_then-by (w.task (task_in (names_of d) home.0 t) (Image d log) f) _ _
      (λ q k u. ap (λ z. exec w true z u) (c q k)
      ∙ sym (wait-row w (names_of d) (forms_at d home) home.0 y q k u h));
  free = λ log. ap leading (e log);
  calm = h;
  ids = i;
}

-- ---- an entry is put below a task that begins

entries-append : (a b : List Item) → entries (a ++ b) ≡ entries a ++ entries b
entries-append [] b = refl
entries-append (i ∷ is) b = ap (λ z. entry_of i ++ z) (entries-append is b) ∙ sym (append_assoc (entry_of i) (entries is) (entries b))

-- the log of before, with what a step added, tells the entries of the world after it
pub Logged-added : (d d' : Data) (l l' : Written) (added log : List Item) → Added d d' l l' added → Logged d log
    → Logged d' (log ++ added)
Logged-added d d' l l' added log h e =
    entries-append log added ∙ ap (λ z. z ++ entries added) e ∙ sym h.trace

pub began-is : (d : Data) (log : List Item) → Logged d log → length (entries log) ≡ length d.entries
began-is d log e = ap length e ∙ length-map d.entries (entry_in d.texts)

-- a task whose row is another's with an entry at its end puts the entry's frame below the other, at no charge
pub Step-entered : (home : Side) (d : Data) (t u : Task) (y : Entering) (f : ℕ) (l : Written)
    → ((log : List Item) → Logged d log →
    row (task_in (names_of d) home.0 t) (Image d log)
    ≡ ending (λ q k. with_entry (entry_by (names_of d) home.0 y q) k) (row (task_in (names_of d) home.0 u) (Image d log)))
    → AreIn d (move_held (move.Entered (x.Entry y) u))
    → Step home false (Ok (move.Entered (x.Entry y) u)) d d f f l l
    (λ k. charged_row row (task_in (names_of d) home.0 t) k)
Step-entered home d t u y f l e i = record {
  added = [];
  logged = Added-none d l;
  same = λ w log g.
      entered-begun w row (λ q k. with_entry (entry_by (names_of d) home.0 y q) k) (task_in (names_of d) home.0 t)
      (task_in (names_of d) home.0 u) (Image d log) f (e log g)
      ∙ ap (λ z. moves w d home (move.Entered (x.Entry y) u) (Image d z) f) (sym (append-none log));
  paid = λ log g. omega arith;
  left = λ log g. omega arith;
  may = λ log g. tt;
  ids = i;
  grew = Grew-same d;
}
