-- Along the meaning, and along runs, the trace is lawful.
use Rattle.std.proofs.Common.{◌≡◌, inl, inr, take, ℕ, zero, suc, ◌<◌, ◌≤◌, Bool, true, false, not, nat_lt, List, [], ◌∷◌, ◌++◌, length, Option, None, Some, slice_get, refl, sym, ap, ◌∙◌, subst, if◌then◌else◌, option_map, append_assoc, arith}
use Rattle.std.proofs.lemmas.Bool.{ltb-true}
use Rattle.std.proofs.lemmas.Bool.Decides.{nat_tests}
use Rattle.mb_view.proofs.Lawfulness.{and-both}
use Rattle.mb_world.specs.declared.cell.Shape.{Shape}
use Rattle.mb_world.specs.Value.{Val, Undefined, Null, Truth, Whole, Text, Symbol, Object, BuiltIn, number_of}
use Rattle.mb_world.specs.Graph.{Graph, Thing, Kind, Proxy, Gone, Entry, Job, Script, Call as CallJob}
use Rattle.mb_world.specs.Intrinsics.{Intrinsic, intrinsic}
use Rattle.mb_world.specs.Standard.{standard}
use Rattle.mb_world.specs.Objects.{thing_at, is_proxy_kind}
use Rattle.mb_world.specs.View.{is_cut, owner_or}
use Rattle.mb_model.specs.Engine.{Gives, Spent, by, meaning, and_then, exec, given, ends_with, state_of}
use Rattle.mb_model.specs.Task.{Task, Evaluate, Loop, Chain, Walk, Perform, Enter, Run, Access, Visit, Method, Request, Outcome, Throw}
use Rattle.mb_model.specs.Fitting.{FitsMethod}
use Rattle.mb_model.specs.Writing.{Row, ◌>>=◌, unless_type_error}
use Rattle.mb_model.specs.BuiltIns.Collections.{access_row}
use Rattle.mb_model.specs.Trace.Entries.{entries, with_entry, is_foreign_at, makes_entry, method_entry, access_entry, method_noted, access_noted}
use Rattle.mb_model.specs.Trace.Lawful.{deed_of}
use Rattle.mb_model.specs.Meaning.{row, finished, entering, entries_made, perform_kind, perform_thing, perform_row, Ends, Means}
use Rattle.mb_model.specs.Story.{job_ends, with_uncaught}
use Rattle.mb_model.proofs.Engine.{Agree, exec_same, exec-ending, given-row, given-falls}
use Rattle.mb_model.proofs.Kept.Words.{Along, Fitted, Holds}
use Rattle.mb_model.proofs.Kept.Rows.{plain_row, plain-holds, EndKnown, EndOwed, DoesSo, exec-owed}
use Rattle.mb_growth.specs.Later.{AreFormed, EachEvolves}
use Rattle.mb_growth.specs.Answered.{PassesAtMoment, EndPasses, EndBetween}
use Rattle.mb_growth.specs.Performed.{KindPasses}
use Rattle.mb_growth.specs.Lawful.{KeepsPromises, TasksKeepPromises, FirstKeepsPromises, TurnsKeepPromises, LettersKeepPromises, RunsKeepPromises, RunsPass, RunsAreLawful}
use Rattle.mb_growth.proofs.Graphs.{stays-later}
use Rattle.mb_growth.proofs.Turns.{first-is-formed}
use Rattle.mb_growth.proofs.Ends.{RowEnds, TaskEnds, means-ends}
use Rattle.mb_growth.proofs.BuiltIns.{ordinary-entries-pass}
use Rattle.mb_growth.proofs.Proxies.{proxies-pass}
use Rattle.mb_growth.proofs.Throughout.{Lasting, turn-good, letter-good, run-good}
use Rattle.mb_growth.proofs.Targets.{Aims, stays-same, first-has-targets}
use Rattle.mb_growth.proofs.Entered.{quiet-log, entered-log, take-first}
use Rattle.mb_growth.proofs.Promised.{IsTrue, HowMade}
use Rattle.mb_growth.proofs.Truly.{silent-true, throw-silent, entry_made, began-within, true-between, ordinary-true}
use Rattle.mb_growth.proofs.Keeping.{Goes, goes-same, goes-step, goes-entered, keeping, nothing-owed}

-- ---- an entry is made of an object that is there

no-owner : (a p : ℕ) (x : Option Intrinsic) → is_foreign_at a (option_map (standard p) x) ≡ true → ⊥
no-owner a p None h = let bad : false ≡ true = h in cc
no-owner a p (Some i) h = let bad : false ≡ true = h in cc

object-there : (a : ℕ) (x : Option Thing) → is_foreign_at a x ≡ true → (t : Thing) × (x ≡ Some t)
object-there a None h = absurd (let bad : false ≡ true = h in cc)
object-there a (Some t) h = (t, refl)

-- ---- the entry of a method is true

-- a Proxy whose target is gone answers nothing
abbrev Throws : Outcome → Type 0
Throws q = (v : Val) × (q ≡ Throw v)

gone-row : (a n : ℕ) (m : Method) (t : Thing) (shape : Shape) (g : Graph) (kind : Kind) → kind ≡ Gone shape → (c : Bool)
    → RowEnds (λ q h. Throws q) ((unless_type_error a c >>= (λ _. perform_kind a a (Object n) t m kind)) finished g)
gone-row a n m t shape g kind e true = rw e (Object (length g.objects), refl)
gone-row a n m t shape g kind e false = (Object (length g.objects), refl)

gone-throws : (a n : ℕ) (m : Method) (t : Thing) (shape : Shape) (g : Graph) (f : ℕ) → slice_get g.objects n ≡ Some t
    → t.kind ≡ Gone shape → TaskEnds (λ q h. Throws q) (Means (Perform a m (Object n) a false) g f)
gone-throws a n m t shape g f at kind =
    means-ends (λ q h. Throws q) (Perform a m (Object n) a false) g f
    (subst (λ (x : Option Thing). RowEnds (λ q h. Throws q) (perform_thing a a (Object n) m x finished g)) (sym at)
    (gone-row a n m t shape g t.kind kind (not (is_cut g a t))))

-- what it gives passes, by the kind of the object as it began
abbrev EndKind : Graph → ℕ → ℕ → Method → Thing → Kind → Ends → Type 0
EndKind b a n m t kind (Gives q g f) = KindPasses a n t kind m b q g
EndKind b a n m t kind (Spent g f) = Unit {0}

module _ (b : Graph) (a n : ℕ) (m : Method) (t : Thing) where
  proxy-kind : (x : Ends) (target handler : Val) (shape : Shape) → EndBetween (owner_or a t.owner) target m b x
      → EndKind b a n m t (Proxy target handler shape) x
  proxy-kind (Gives q g f) target handler shape between = between
  proxy-kind (Spent g f) target handler shape between = tt

  gone-kind : (x : Ends) (shape : Shape) → TaskEnds (λ q h. Throws q) x → EndKind b a n m t (Gone shape) x
  gone-kind (Gives q g f) shape throws = throws
  gone-kind (Spent g f) shape throws = tt

  plain-kind : (kind : Kind) → is_proxy_kind kind ≡ false → (q : Outcome) (g : Graph) → PassesAtMoment a (Object n) m t b q g
      → KindPasses a n t kind m b q g
  plain-kind (Proxy target handler shape) ordinary q g passes = absurd (let bad : true ≡ false = ordinary in cc)
  plain-kind (Gone shape) ordinary q g passes = absurd (let bad : true ≡ false = ordinary in cc)
  plain-kind _ ordinary q g passes = passes

  ordinary-kind : (x : Ends) (kind : Kind) → is_proxy_kind kind ≡ false → EndPasses a (Object n) m t b x → EndKind b a n m t kind x
  ordinary-kind (Gives q g f) kind ordinary passes = plain-kind kind ordinary q g passes
  ordinary-kind (Spent g f) kind ordinary passes = tt

module _ (b : Graph) (keeps : KeepsPromises b) (a n : ℕ) (m : Method) (t : Thing) (at : slice_get b.objects n ≡ Some t) (fit : FitsMethod m) where
  kind-end : (f : ℕ) (kind : Kind) → t.kind ≡ kind → EndKind b a n m t kind (Means (Perform a m (Object n) a false) b f)
  kind-end f (Proxy target handler shape) e =
      proxy-kind b a n m t (Means (Perform a m (Object n) a false) b f) target handler shape
      (proxies-pass a a n target handler shape m false t b f at e keeps.targets fit keeps.formed)
  kind-end f (Gone shape) e =
      gone-kind b a n m t (Means (Perform a m (Object n) a false) b f) shape (gone-throws a n m t shape b f at e)
  kind-end f _ e =
      let ordinary : is_proxy_kind t.kind ≡ false = ap is_proxy_kind e in
      subst (λ (k : Kind). EndKind b a n m t k (Means (Perform a m (Object n) a false) b f)) e
      (ordinary-kind b a n m t (Means (Perform a m (Object n) a false) b f) t.kind ordinary
      (ordinary-entries-pass a a (Object n) m false t b f at ordinary fit keeps.formed))

  module _ (g : Graph) (goes : Goes b g) (q : Outcome) where
    silent-end : Throws q → IsTrue g (entry_made b a n m q)
    silent-end throws =
        let there = goes.1.0.evolves n t at in
        silent-true g (entry_made b a n m q)
        (ap (λ (o : Outcome). (deed_of (entry_made b a n m o)).deed) throws.1 ∙ throw-silent m throws.0)
        (began-within b g goes.1.1) (there.0, there.1)

    kind-true : (kind : Kind) → t.kind ≡ kind → KindPasses a n t kind m b q g → IsTrue g (entry_made b a n m q)
    kind-true (Proxy target handler shape) e passes =
        true-between b g keeps goes.1.0 goes.1.1 a n m q t at target handler shape e fit passes
    kind-true (Gone shape) e passes = silent-end passes
    kind-true _ e passes =
        ordinary-true b g keeps goes.1.0 goes.1.1 a n m q t at (ap is_proxy_kind e) fit passes

  -- what it gives, and how
  method-made : (f : ℕ) (q : Outcome) (g : Graph) (left : ℕ) → Means (Perform a m (Object n) a false) b f ≡ Gives q g left
      → Goes b g → IsTrue g (entry_made b a n m q) × HowMade g (entry_made b a n m q)
  method-made f q g left gave goes =
      let e : Entry = entry_made b a n m q in
      let passes : KindPasses a n t t.kind m b q g = subst (EndKind b a n m t t.kind) gave (kind-end f t.kind refl) in
      let longer : entries (with_entry e g).log ≡ entries b.log ++ (goes.1.1.0 ++ (e ∷ [])) =
      entered-log g.log e ∙ ap (λ (es : List Entry). es ++ (e ∷ [])) goes.1.1.1
      ∙ append_assoc (entries b.log) goes.1.1.0 (e ∷ []) in (
        kind-true g goes q t.kind refl passes,
        inl (record {
          method = m;
          outcome = q;
          before = b;
          fuel = f;
          after = g;
          left = left;
          thing = t;
          says = refl;
          gave = gave;
          began = sym (take-first (entries b.log) (goes.1.1.0 ++ (e ∷ [])))
              ∙ ap (λ (es : List Entry). take (length (entries b.log)) es) (sym longer);
          ended = sym (take-first (entries g.log) (e ∷ []))
              ∙ ap (λ (es : List Entry). take (length (entries g.log)) es) (sym (entered-log g.log e));
          rules = sym goes.1.0.rules;
          evolves = goes.1.0.evolves;
          later = stays-later g;
          there = at;
          passes = passes;
        }),
      )

-- ---- the meaning, by less fuel

abbrev DoesBelow : ℕ → Type 0
DoesBelow n = (t : Task) (s : Graph) (f : ℕ) → f < n → Fitted keeping t s → Along keeping s s → EndKnown keeping t s (given row t s f)

-- tasks that are done with less than this fuel
abbrev below : ℕ → Task → Graph → ℕ → Ends
below n t s f = if nat_lt f n then given row t s f else Spent s f

below-does : (n : ℕ) → DoesBelow n → DoesSo keeping (below n)
below-does n does t s f fit a = by (nat_lt f n) refl
  where
    by : (c : Bool) → nat_lt f n ≡ c → EndKnown keeping t s (if c then given row t s f else Spent s f)
    by true e = does t s f (ltb-true f n e) fit a
    by false e = a

below-agrees : (n : ℕ) → Agree n (given row) (below n)
below-agrees n t s f l = let e : nat_lt f n ≡ true = grind (arith, nat_tests) in rw e refl

row-goes : (n : ℕ) → DoesBelow n → (b : Graph) (p : Row) (f : ℕ) → f ≤ n → Holds keeping b p
    → EndOwed keeping b (exec (by (given row)) false p f)
row-goes n does b p f l h =
    subst (EndOwed keeping b)
    (sym (exec_same (given row) (below n) n (given-falls row) (below-agrees n) false p f (omega (arith, l))))
    (exec-owed keeping (below n) (below-does n does) b false p f h)

-- a row that may make an entry where it ends
entered-goes : (b : Graph) (e : Outcome → Entry) (x : Ends)
    → ((q : Outcome) (g : Graph) (f : ℕ) → x ≡ Gives q g f → Goes b g → IsTrue g (e q) × HowMade g (e q))
    → EndOwed keeping b x → EndOwed keeping b (and_then x (ends_with (λ q g. with_entry (e q) g)))
entered-goes b e (Gives q g f) so h =
    let made = so q g f refl h.0.1 in
    ((λ a x. h.0.0 a x, goes-entered b g (e q) h.0.1 made.0 made.1), tt)
entered-goes b e (Spent g f) so h = h

perform-true : (s : Graph) → KeepsPromises s → (a : ℕ) (m : Method) (o : Val) (enters : Bool) (f : ℕ)
    → makes_entry enters a o s ≡ true → FitsMethod m → (q : Outcome) (g : Graph) (left : ℕ)
    → given row (Perform a m o a false) s f ≡ Gives q g left → Goes s g
    → IsTrue g (method_entry (entries_made s) a o m q) × HowMade g (method_entry (entries_made s) a o m q)
perform-true s keeps a m (Object n) enters f made fit q g left e goes =
    let there = object-there a (slice_get s.objects n) (and-both enters (is_foreign_at a (slice_get s.objects n)) made).1 in
    method-made s keeps a n m there.0 there.1 fit (suc f) q g left e goes
perform-true s keeps a m (BuiltIn p) enters f made fit q g left e goes =
    absurd (no-owner a p (intrinsic p) (and-both enters (is_foreign_at a (thing_at s (BuiltIn p))) made).1)
perform-true s keeps a m Undefined enters f made fit q g left e goes =
    absurd (let bad : false ≡ true = (and-both enters false made).1 in cc)
perform-true s keeps a m Null enters f made fit q g left e goes =
    absurd (let bad : false ≡ true = (and-both enters false made).1 in cc)
perform-true s keeps a m (Truth b) enters f made fit q g left e goes =
    absurd (let bad : false ≡ true = (and-both enters false made).1 in cc)
perform-true s keeps a m (Whole z) enters f made fit q g left e goes =
    absurd (let bad : false ≡ true = (and-both enters false made).1 in cc)
perform-true s keeps a m (Text x) enters f made fit q g left e goes =
    absurd (let bad : false ≡ true = (and-both enters false made).1 in cc)
perform-true s keeps a m (Symbol x) enters f made fit q g left e goes =
    absurd (let bad : false ≡ true = (and-both enters false made).1 in cc)

perform-entered : (a : ℕ) (m : Method) (o : Val) (v : ℕ) (enters : Bool) (s : Graph) (f : ℕ) → KeepsPromises s → FitsMethod m
    → (enters ≡ true → v ≡ a) → EndOwed keeping s (exec (meaning row) false (perform_row a v o m finished s) f)
    → (c : Bool) → makes_entry enters a o s ≡ c
    → EndOwed keeping s
    (exec (meaning row) false (entering c (method_noted (entries_made s) a o m) (perform_row a v o m finished s)) f)
perform-entered a m o v enters s f keeps fit own owed false made = owed
perform-entered a m o v enters s f keeps fit own owed true made =
    let p : Row = perform_row a v o m finished s in
    let x : Ends = exec (meaning row) false p f in
    let itself : v ≡ a = own (and-both enters (is_foreign_at a (thing_at s o)) made).0 in
    let given-x : given row (Perform a m o a false) s f ≡ x =
    given-row row (Perform a m o a false) s f
    ∙ ap (λ (z : ℕ). exec (meaning row) false (perform_row a z o m finished s) f) (sym itself) in
    subst (EndOwed keeping s) (sym (exec-ending (meaning row) (method_noted (entries_made s) a o m) false p f))
    (entered-goes s (λ q. method_entry (entries_made s) a o m q) x
    (λ q g left e goes. perform-true s keeps a m o enters f made fit q g left (given-x ∙ e) goes) owed)

perform-goes : (n : ℕ) → DoesBelow n → (a : ℕ) (m : Method) (o : Val) (v : ℕ) (enters : Bool) (s : Graph) (f : ℕ) → f ≤ n
    → Fitted keeping (Perform a m o v enters) s → Along keeping s s
    → EndOwed keeping s (given row (Perform a m o v enters) s f)
perform-goes n does a m o v enters s f l fit al =
    subst (EndOwed keeping s) (sym (given-row row (Perform a m o v enters) s f))
    (perform-entered a m o v enters s f al.1.0 (fit.0 tt) (fit.1 tt)
    (row-goes n does s (perform_row a v o m finished s) f l
    (plain-holds keeping nothing-owed (Perform a m o v enters) s fit al))
    (makes_entry enters a o s) refl)

-- ---- an access of a collection tells nothing

access-there : (a : ℕ) (c : Val) (s g : Graph) → is_foreign_at a (thing_at s c) ≡ true → Goes s g
    → (t : Thing) × (slice_get g.objects (number_of c) ≡ Some t)
access-there a (Object n) s g h goes =
    let there = object-there a (slice_get s.objects n) h in
    let later = goes.1.0.evolves n there.0 there.1 in
    (later.0, later.1)
access-there a (BuiltIn p) s g h goes = absurd (no-owner a p (intrinsic p) h)
access-there a Undefined s g h goes = absurd (let bad : false ≡ true = h in cc)
access-there a Null s g h goes = absurd (let bad : false ≡ true = h in cc)
access-there a (Truth b) s g h goes = absurd (let bad : false ≡ true = h in cc)
access-there a (Whole z) s g h goes = absurd (let bad : false ≡ true = h in cc)
access-there a (Text x) s g h goes = absurd (let bad : false ≡ true = h in cc)
access-there a (Symbol x) s g h goes = absurd (let bad : false ≡ true = h in cc)

access-entered : (a p : ℕ) (c : Val) (r : Request) (s : Graph) (f : ℕ) (x : Row) → EndOwed keeping s (exec (meaning row) false x f)
    → (b : Bool) → is_foreign_at a (thing_at s c) ≡ b
    → EndOwed keeping s (exec (meaning row) false (entering b (access_noted (entries_made s) a p c r) x) f)
access-entered a p c r s f x owed false made = owed
access-entered a p c r s f x owed true made =
    subst (EndOwed keeping s) (sym (exec-ending (meaning row) (access_noted (entries_made s) a p c r) false x f))
    (entered-goes s (λ q. access_entry (entries_made s) a p c r q) (exec (meaning row) false x f)
    (λ q g left e goes. (
      silent-true g (access_entry (entries_made s) a p c r q) refl (began-within s g goes.1.1) (access-there a c s g made goes),
      inr (p, refl),
    ))
    owed)

access-goes : (n : ℕ) → DoesBelow n → (a p : ℕ) (c : Val) (r : Request) (s : Graph) (f : ℕ) → f ≤ n
    → Fitted keeping (Access a p c r) s → Along keeping s s → EndOwed keeping s (given row (Access a p c r) s f)
access-goes n does a p c r s f l fit al =
    subst (EndOwed keeping s) (sym (given-row row (Access a p c r) s f))
    (access-entered a p c r s f (access_row a c r finished s)
    (row-goes n does s (access_row a c r finished s) f l
    (plain-holds keeping nothing-owed (Access a p c r) s fit al))
    (is_foreign_at a (thing_at s c)) refl)

-- ---- each task

plain-goes : (n : ℕ) → DoesBelow n → (t : Task) (s : Graph) (f : ℕ) → f ≤ n → Fitted keeping t s → Along keeping s s
    → row t s ≡ plain_row t s → EndOwed keeping s (given row t s f)
plain-goes n does t s f l fit al same =
    subst (EndOwed keeping s)
    (ap (λ (p : Row). exec (meaning row) false p f) (sym same) ∙ sym (given-row row t s f))
    (row-goes n does s (plain_row t s) f l (plain-holds keeping nothing-owed t s fit al))

task-goes : (n : ℕ) → DoesBelow n → (t : Task) (s : Graph) (f : ℕ) → f ≤ n → Fitted keeping t s → Along keeping s s
    → EndOwed keeping s (given row t s f)
task-goes n does (Perform a m o v enters) s f l fit al = perform-goes n does a m o v enters s f l fit al
task-goes n does (Access a p c r) s f l fit al = access-goes n does a p c r s f l fit al
task-goes n does (Evaluate a b c d) s f l fit al = plain-goes n does (Evaluate a b c d) s f l fit al refl
task-goes n does (Loop a b c d) s f l fit al = plain-goes n does (Loop a b c d) s f l fit al refl
task-goes n does (Chain a b c) s f l fit al = plain-goes n does (Chain a b c) s f l fit al refl
task-goes n does (Walk a b c) s f l fit al = plain-goes n does (Walk a b c) s f l fit al refl
task-goes n does (Enter a b c) s f l fit al = plain-goes n does (Enter a b c) s f l fit al refl
task-goes n does (Run a b c d e) s f l fit al = plain-goes n does (Run a b c d e) s f l fit al refl
task-goes n does (Visit a b c d e i) s f l fit al = plain-goes n does (Visit a b c d e i) s f l fit al refl

owed-known : (t : Task) (s : Graph) (x : Ends) → EndOwed keeping s x → EndKnown keeping t s x
owed-known t s (Gives q g f) h = h
owed-known t s (Spent g f) h = h

does-below : (n : ℕ) → DoesBelow n
does-below zero t s f l fit al = absurd (omega (arith, l))
does-below (suc n) t s f l fit al =
    owed-known t s (given row t s f) (task-goes n (does-below n) t s f (omega (arith, l)) fit al)

-- ---- along the meaning

end-keeps : (b : Graph) (x : Ends) → EndOwed keeping b x → KeepsPromises (state_of x)
end-keeps b (Gives q g f) h = h.0.1.0
end-keeps b (Spent g f) h = h.1.0

given-keeps : (t : Task) (s : Graph) (f : ℕ) → Fitted keeping t s → KeepsPromises s → KeepsPromises (state_of (given row t s f))
given-keeps t s f fit keeps =
    end-keeps s (given row t s f)
    (task-goes f (does-below f) t s f (omega arith) fit (λ a h. h, goes-same s keeps))

means-keeps : (t : Task) (s : Graph) (f : ℕ) → Fitted keeping t s → KeepsPromises s → KeepsPromises (state_of (Means t s f))
means-keeps t s zero fit keeps = keeps
means-keeps t s (suc f) fit keeps = given-keeps t s f fit keeps

pub tasks-keep-promises : TasksKeepPromises
tasks-keep-promises task graph fuel fit itself keeps = means-keeps task graph fuel (λ c. fit, λ c. itself) keeps

-- ---- along a whole run

pub first-keeps-promises : FirstKeepsPromises
first-keeps-promises programs rules = record {
  formed = first-is-formed programs rules;
  targets = first-has-targets programs rules;
  placed = λ place e at. absurd (let bad : None ≡ Some e = at in cc);
  performed = λ place e at. absurd (let bad : None ≡ Some e = at in cc);
  promises = λ s n view at. tt;
  lawful = tt;
}

job-keeps : (s : ℕ) (j : Job) (g : Graph) (f : ℕ) → KeepsPromises g → KeepsPromises (state_of (job_ends s j g f))
job-keeps s Script g f keeps = given-keeps _ g f (λ c. tt, λ c. tt) keeps
job-keeps s (CallJob v) g f keeps = means-keeps _ g f (λ c. tt, λ c e. refl) keeps

-- what a run does beside jobs makes no entry, and changes no object
beside-keeps : (g h : Graph) → KeepsPromises g → AreFormed h × EachEvolves g h → h.rules ≡ g.rules → Aims g h
    → entries h.log ≡ entries g.log → KeepsPromises h
beside-keeps g h keeps grows rules aims same = (goes-step g g h (goes-same g keeps) grows rules aims same).0

lasting : Lasting KeepsPromises
lasting = record {
  job = job-keeps;
  queues = λ g qs p.
      beside-keeps g (record g { queues = qs }) p (p.formed, stays-later g) refl (p.targets, stays-same g) refl;
  uncaught = λ g s v p.
      beside-keeps g (with_uncaught s v g) p (p.formed, stays-later g) refl (p.targets, stays-same g)
      (quiet-log g.log _ refl);
  cut = λ g p.
      beside-keeps g (record g { revoked = true }) p (p.formed, stays-later g) refl (p.targets, stays-same g) refl;
}

pub turns-keep-promises : TurnsKeepPromises
turns-keep-promises stage side keeps = turn-good KeepsPromises lasting stage side keeps

pub letters-keep-promises : LettersKeepPromises
letters-keep-promises stage letter keeps = letter-good KeepsPromises lasting stage letter keeps

pub runs-keep-promises : RunsKeepPromises
runs-keep-promises programs rules word fuel =
    run-good KeepsPromises lasting programs rules word fuel (first-keeps-promises programs rules)

pub runs-are-lawful : RunsAreLawful
runs-are-lawful programs rules word fuel = (runs-keep-promises programs rules word fuel).lawful

pub runs-pass : RunsPass
runs-pass programs rules word fuel = (runs-keep-promises programs rules word fuel).performed
