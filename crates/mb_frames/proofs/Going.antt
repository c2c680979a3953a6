-- Parts of rows that go on with an answer go over to what follows it, and come one after the other.
use Rattle.std.proofs.Common.{◌+◌, ◌-◌, ◌<◌, ◌≡◌, ◌∙◌, Bool, Err, List, Ok, Result, ap, arith, false, nat_lt, refl, suc, zero, ℕ}
use Rattle.std.proofs.lemmas.Bool.Decides.{nat_tests}
use Rattle.mb_base.specs.declared.value.ObjId.{ObjId}
use Rattle.mb_base.specs.declared.value.ScopeId.{ScopeId}
use Rattle.mb_base.specs.declared.value.Side.{Side}
use Rattle.mb_frames.proofs.Passed.{Step-passed}
use Rattle.mb_frames.proofs.Steps.{Grew-same, Grew-then}
use Rattle.mb_frames.specs.Going.{Changes, Enters, Makes, Stuck, WentOn, paying}
use Rattle.mb_frames.specs.Passing.{Part, Passes}
use Rattle.mb_frames.specs.Standing.{Tasks}
use Rattle.mb_frames.specs.Stepping.{PutsNone, Step, Written}
use Rattle.mb_frames.specs.declared.frame.Move.{Move}
use Rattle.mb_frames.specs.declared.machine.Halt.{Halt}
use Rattle.mb_frames.specs.declared.machine.Halt.TheVariants.{NoMemory, Spent as SpentHalt}
use Rattle.mb_model.specs.Engine.{Spent, exec, leading}
use Rattle.mb_model.specs.Task.{Answer, Nothing}
use Rattle.mb_model.specs.Writing.{◌>>=◌, Does, Row, give}
use Rattle.mb_world.specs.Data.{Data}
use Rattle.mb_world.specs.Graph.{Graph, Item}
use Rattle.mb_world.specs.Image.{Image, names_of, object_in}
use Rattle.mb_world.specs.Value.{Val}

-- ---- charges of 1

exec-paying : (w : Tasks) (begun : Bool) (n : ℕ) (g : Graph) (p : Row) (f k : ℕ) → f ≡ k + n
    → exec w begun (paying n g p) f ≡ exec w begun p k
exec-paying w begun zero g p f k e = let h : f ≡ k = omega (arith, e) in ap (exec w begun p) h
exec-paying w begun (suc n) g p f k e =
    let t : nat_lt f 1 ≡ false = grind (arith, nat_tests) in
    rw t (exec-paying w begun n g p (f - 1) k (omega (arith, e)))

exec-short : (w : Tasks) (begun : Bool) (n : ℕ) (g : Graph) (p : Row) (f : ℕ) → f < n
    → exec w begun (paying n g p) f ≡ Spent g 0
exec-short w begun zero g p f h = absurd (omega (arith, h))
exec-short w begun (suc n) g p zero h = refl
exec-short w begun (suc n) g p (suc f) h =
    let t : nat_lt (suc f) 1 ≡ false = grind (arith, nat_tests) in
    rw t (let e : suc f - 1 ≡ f = omega arith in rw e (exec-short w begun n g p f (omega (arith, h))))

leading-paying : (n : ℕ) (g : Graph) (p : Row) → leading (paying n g p) ≡ n + leading p
leading-paying zero g p = omega arith
leading-paying (suc n) g p = omega (arith, leading-paying n g p)

-- ---- a part, and then a step

pub WentOn-passes : (A : Type 0) (d d' : Data) (f f' : ℕ) (p : Does A) (a : A) (k : A → Graph → Row)
    → WentOn A d d' f f' p a → Passes d d' f f' (p k) (k a)
WentOn-passes A d d' f f' p a k q = record {
  same = λ w begun log i.
      ap (λ x. exec w begun x f) (q.same k log)
      ∙ exec-paying w begun q.units (Image d log) (k a (Image d' log)) f f' q.paid;
  cost = λ log i.
      omega (arith, ap leading (q.same k log), leading-paying q.units (Image d log) (k a (Image d' log)), q.paid);
  paid = omega (arith, q.paid);
  trace = q.trace;
  grew = q.grew;
}

pub Step-after : (A : Type 0) (home : Side) (begun : Bool) (r : Result Move Halt) (d d1 d2 : Data) (f f1 f2 : ℕ)
    (l l2 : Written) (p : Does A) (a : A) (k : A → Graph → Row) → WentOn A d d1 f f1 p a → PutsNone r
    → Step home begun r d1 d2 f1 f2 l l2 (k a) → Step home begun r d d2 f f2 l l2 (p k)
Step-after A home begun r d d1 d2 f f1 f2 l l2 p a k q c h =
    Step-passed home begun r d d1 d2 f f1 f2 l l2 (p k) (k a) c (WentOn-passes A d d1 f f1 p a k q) h

-- it couldn't be paid
pub Step-stuck : (A : Type 0) (home : Side) (begun : Bool) (d d' : Data) (f f' : ℕ) (l : Written) (p : Does A)
    (k : A → Graph → Row) → Stuck A d d' f f' p → Step home begun (Err SpentHalt) d d' f f' l l (p k)
Step-stuck A home begun d d' f f' l p k q = rw (q.world, q.none) (record {
  same = λ w log e.
      ap (λ x. exec w begun x f) (q.same k log).1
      ∙ exec-short w begun q.units (Image d log) (q.same k log).0 f q.above;
  above = λ log e.
      rw (q.same k log).1 (omega (arith, leading-paying q.units (Image d log) (q.same k log).0, q.above));
  trace = refl;
  told = refl;
  grew = Grew-same d;
})

-- an error of a part is that of the step
pub Step-unentered : (home : Side) (begun : Bool) (halt : Halt) (d d' : Data) (f f' : ℕ) (l : Written) (p : Does ℕ)
    (k : ℕ → Graph → Row) → Enters (Err halt) d d' f f' p → Step home begun (Err halt) d d' f f' l l (p k)
Step-unentered home begun SpentHalt d d' f f' l p k q = Step-stuck ℕ home begun d d' f f' l p k q
Step-unentered home begun NoMemory d d' f f' l p k q = tt

pub Step-unchanged : (home : Side) (begun : Bool) (halt : Halt) (d d' : Data) (f f' : ℕ) (l : Written)
    (p : Does Answer) (q : Graph → Row) → Changes (Err halt) d d' p → Step home begun (Err halt) d d' f f' l l q
Step-unchanged home begun SpentHalt d d' f f' l p q c = absurd c
Step-unchanged home begun NoMemory d d' f f' l p q c = tt

-- ---- parts one after the other

-- nothing happens
pub WentOn-none : (A : Type 0) (d : Data) (f : ℕ) (p : Does A) (a : A)
    → ((k : A → Graph → Row) (log : List Item) → p k (Image d log) ≡ k a (Image d log)) → WentOn A d d f f p a
WentOn-none A d f p a e = record {
  units = 0;
  paid = omega arith;
  same = λ k log. e k log;
  trace = refl;
  grew = Grew-same d;
}

-- what charges nothing charges nothing whatever is left
pub WentOn-free : (A : Type 0) (d d' : Data) (f : ℕ) (p : Does A) (a : A) → WentOn A d d' 0 0 p a
    → WentOn A d d' f f p a
WentOn-free A d d' f p a q =
    let u : q.units ≡ 0 = omega (arith, q.paid) in
    record {
      units = 0;
      paid = omega arith;
      same = λ k log. q.same k log ∙ ap (λ n. paying n (Image d log) (k a (Image d' log))) u;
      trace = q.trace;
      grew = q.grew;
    }

-- a part, and then a change
pub WentOn-then : (A B : Type 0) (d d1 d2 : Data) (f f1 : ℕ) (p : Does A) (a : A) (q : A → Does B) (b : B)
    → WentOn A d d1 f f1 p a → WentOn B d1 d2 0 0 (q a) b → WentOn B d d2 f f1 (p >>= q) b
WentOn-then A B d d1 d2 f f1 p a q b g h =
    let u : h.units ≡ 0 = omega (arith, h.paid) in
    record {
      units = g.units;
      paid = g.paid;
      same = λ k log.
          g.same (λ x. q x k) log
          ∙ ap (paying g.units (Image d log)) (h.same k log ∙ ap (λ n. paying n (Image d1 log) (k b (Image d2 log))) u);
      trace = h.trace ∙ g.trace;
      grew = Grew-then d d1 d2 g.grew h.grew;
    }

-- what follows a part that couldn't be paid doesn't matter
pub Stuck-then : (A B : Type 0) (d d' : Data) (f f' : ℕ) (p : Does A) (q : A → Does B) → Stuck A d d' f f' p
    → Stuck B d d' f f' (p >>= q)
Stuck-then A B d d' f f' p q s = record {
  units = s.units;
  above = s.above;
  none = s.none;
  same = λ k log. s.same (λ a. q a k) log;
  world = s.world;
}

-- another answer is given in the end
pub WentOn-give : (A B : Type 0) (d d' : Data) (f f' : ℕ) (p : Does A) (a : A) (b : B) → WentOn A d d' f f' p a
    → WentOn B d d' f f' (p >>= (λ x. give b)) b
WentOn-give A B d d' f f' p a b q = record {
  units = q.units;
  paid = q.paid;
  same = λ k log. q.same (λ x. k b) log;
  trace = q.trace;
  grew = q.grew;
}

-- ---- what functions answer that only go on

pub Enters-passes : (d d' : Data) (f f' : ℕ) (p : Does ℕ) (id : ScopeId) (k : ℕ → Graph → Row)
    → Enters (Ok id) d d' f f' p → Passes d d' f f' (p k) (k id.0)
Enters-passes d d' f f' p id k q = WentOn-passes ℕ d d' f f' p id.0 k q

pub Changes-passes : (d d' : Data) (f : ℕ) (p : Does Answer) (k : Answer → Graph → Row) → Changes (Ok tt) d d' p
    → Passes d d' f f (p k) (k Nothing)
Changes-passes d d' f p k q = WentOn-passes Answer d d' f f p Nothing k (WentOn-free Answer d d' f p Nothing q)

pub Makes-passes : (d d' : Data) (f : ℕ) (p : Does Val) (id : ObjId) (k : Val → Graph → Row) → Makes (Ok id) d d' p
    → Passes d d' f f (p k) (k (object_in (names_of d') id))
Makes-passes d d' f p id k q =
    let x : Val = object_in (names_of d') id in
    WentOn-passes Val d d' f f p x k (WentOn-free Val d d' f p x q)

pub Part-stuck : (A : Type 0) (home : Side) (d d' : Data) (f f' : ℕ) (p : Does A) (k : A → Graph → Row)
    → Stuck A d d' f f' p → Part home (Err SpentHalt) d d' f f' (p k)
Part-stuck A home d d' f f' p k q = λ begun l. Step-stuck A home begun d d' f f' l p k q
