use Rattle.std.specs.Prelude.{◌≡◌, ℕ, List, [], ◌∷◌, ◌++◌, length, Bool, true, false, Option, Some, None, slice_set, if◌then◌else◌}
use Rattle.std.proofs.Common.{refl}
use Rattle.mb_world.specs.declared.cell.ErrorKind.{ErrorKind}
use Rattle.mb_world.specs.declared.cell.ErrorKind.TheVariants.{TypeError, RangeError, ReferenceError}
use Rattle.mb_world.specs.Value.{Val, Undefined, Null, Truth, Whole, Text, Symbol, Object, BuiltIn}
use Rattle.mb_world.specs.Graph.{Graph, Thing, Scope, Item, Fault, Call as CallJob}
use Rattle.mb_world.specs.Objects.{thing_at, with_thing, new_thing}
use Rattle.mb_world.specs.Standard.{error_prototype}
use Rattle.mb_model.specs.Engine.{Ret, Pay, Turn, Do, Again}
use Rattle.mb_model.specs.Task.{Task, Answer, Nothing, Value, Outcome, Normal, Throw, Return, Break, Continue}
use Rattle.mb_model.specs.Fitting.{Fits, SeesItself}
use Rattle.mb_model.specs.Writing.{Row, Does, ◌>>=◌, give, is_value, truth, yes_or_no, ends, throw, pass, outcome, answer, again, pay, turn, pay_each, look, change, value_in, flag_in, property_in, keys_in, value, flag, property, keys, with_object, make, with_symbol, make_symbol, fail, type_error, range_error, reference_error, or_type_error, unless_type_error, log}
use Rattle.mb_model.specs.Operations.Makings.{altered, alter}
use Rattle.mb_model.specs.Nodes.Scopes.{add_scope, giving}
use Rattle.mb_model.specs.Nodes.Lasting.{ScopesLast}
use Rattle.mb_model.specs.BuiltIns.Basics.{with_job}
use Rattle.mb_model.specs.Trace.Entries.{entry_of}
use Rattle.mb_model.proofs.Kept.Lasting.{scopes-added}
use Rattle.mb_model.proofs.Kept.Changes.{IsNew, NewOther, IsMade, Apart, Change, Lasts, moved-lasts, made-lasts}

-- a row ends without an answer
abbrev pub IsAbrupt : Outcome → Type 0
IsAbrupt (Normal a) = ⊥
IsAbrupt _ = Unit {0}

-- a relation between an earlier graph and a later one that goes on along each change which a row can make: an object is
-- made or changes, symbols change, scopes last, the log gets an item that is no entry, and a queue one more call. It may
-- care that tasks fit, and that each side's own view stands where an entry may be made; more may be owed where a row
-- ends, which one that ends without an answer owes at once, and be known of how tasks end
pub record Kept : Type 1 where
  pub cares : Type 0
  pub owns : Type 0
  pub to : Graph → Graph → Type 0
  pub owed : Graph → Outcome → Graph → Type 0
  pub ended : (b g : Graph) (o : Outcome) → IsAbrupt o → to b g → owed b o g
  pub known : Task → Graph → Outcome → Graph → Type 0
  pub stays : (f g : Graph) → to f g → to g g
  pub goes_on : (f g h : Graph) → to f g → to g h → to f h
  pub made : (f g : Graph) (t : Thing) → IsMade g t → to f g → to f (with_object t g)
  pub moved : (f g : Graph) (o : Val) (t u : Thing) → thing_at g o ≡ Some t → Change cares g t u → to f g
      → to f (with_thing o u g)
  pub symbols : (f g : Graph) (ds : List (Option (List ℕ))) → to f g → to f (record g { symbols = ds })
  pub scopes : (f g : Graph) (ss : List Scope) → ScopesLast g.scopes ss → to f g → to f (record g { scopes = ss })
  pub log : (f g : Graph) (i : Item) → entry_of i ≡ [] → to f g → to f (record g { log = g.log ++ (i ∷ []) })
  pub job : (f g : Graph) (s : ℕ) (v : Val) → to f g → to f (with_job s (CallJob v) g)

-- and each array stays one
abbrev pub Along : Kept → Graph → Graph → Type 0
Along kept f g = Lasts f g × kept.to f g

pub along-stays : (kept : Kept) (f g : Graph) → Along kept f g → Along kept g g
along-stays kept f g p = (λ a h. h, kept.stays f g p.1)

pub along-on : (kept : Kept) (f g h : Graph) → Along kept f g → Along kept g h → Along kept f h
along-on kept f g h p q = (λ a x. q.0 a (p.0 a x), kept.goes_on f g h p.1 q.1)

pub along-made : (kept : Kept) (f g : Graph) (t : Thing) → IsMade g t → Along kept f g → Along kept f (with_object t g)
along-made kept f g t new p = (λ a x. made-lasts g t a (p.0 a x), kept.made f g t new p.1)

pub along-moved : (kept : Kept) (f g : Graph) (o : Val) (t u : Thing) → thing_at g o ≡ Some t → Change kept.cares g t u →
    Along kept f g → Along kept f (with_thing o u g)
along-moved kept f g o t u at by p = (λ a x. moved-lasts kept.cares g o t u at by a (p.0 a x), kept.moved f g o t u at by p.1)

along-log : (kept : Kept) (f g : Graph) (i : Item) → entry_of i ≡ [] → Along kept f g →
    Along kept f (record g { log = g.log ++ (i ∷ []) })
along-log kept f g i none p = (λ a x. p.0 a x, kept.log f g i none p.1)

along-symbols : (kept : Kept) (f g : Graph) (ds : List (Option (List ℕ))) → Along kept f g →
    Along kept f (record g { symbols = ds })
along-symbols kept f g ds p = (λ a x. p.0 a x, kept.symbols f g ds p.1)

along-scopes : (kept : Kept) (f g : Graph) (ss : List Scope) → ScopesLast g.scopes ss → Along kept f g →
    Along kept f (record g { scopes = ss })
along-scopes kept f g ss last p = (λ a x. p.0 a x, kept.scopes f g ss last p.1)

along-job : (kept : Kept) (f g : Graph) (s : ℕ) (v : Val) → Along kept f g → Along kept f (with_job s (CallJob v) g)
along-job kept f g s v p = (λ a x. p.0 a x, kept.job f g s v p.1)

-- a task fits, for those who care
abbrev pub Fitted : Kept → Task → Graph → Type 0
Fitted kept t g = (kept.cares → Fits t g) × (kept.owns → SeesItself t)

-- the states of a row go on from the graph where it began, and its tasks fit, if they go on wherever a task hands on
abbrev pub Holds : Kept → Graph → Row → Type 0
Holds kept b (Ret o s) = Along kept b s × kept.owed b o s
Holds kept b (Pay n s p) = Along kept b s × Holds kept b p
Holds kept b (Turn s p) = Along kept b s × Holds kept b p
Holds kept b (Do t s k) =
    Along kept b s × Fitted kept t s × ((o : Outcome) (s' : Graph) → Along kept s s' → kept.known t s o s' → Holds kept b (k o s'))
Holds kept b (Again t s k) =
    Along kept b s × Fitted kept t s × ((o : Outcome) (s' : Graph) → Along kept s s' → kept.known t s o s' → Holds kept b (k o s'))

-- a part of a row does so from one graph; of what it gives, and of the graph then, more may be known
abbrev pub Gets : {A : Type 0} → Kept → (A → Graph → Type 0) → Graph → Does A → Type 0
Gets {A} kept known g m = (k : A → Graph → Row) (b : Graph) → Along kept b g →
    ((a : A) (g' : Graph) → Along kept g g' → known a g' → Holds kept b (k a g')) → Holds kept b (m k g)

abbrev pub At : {A : Type 0} → Kept → Graph → Does A → Type 0
At {A} kept g m = (k : A → Graph → Row) (b : Graph) → Along kept b g →
    ((a : A) (g' : Graph) → Along kept g g' → Holds kept b (k a g')) → Holds kept b (m k g)

-- and from every graph
pub record Goes {A : Type 0} (kept : Kept) (m : Does A) : Type 0 where
  pub goes : (g : Graph) → At kept g m

pub at-then : {A B : Type 0} (kept : Kept) (g : Graph) (m : Does A) (f : A → Does B) → At kept g m →
    ((a : A) (g' : Graph) → Along kept g g' → At kept g' (f a)) → At kept g (m >>= f)
at-then kept g m f pm pf k b p h =
    pm (λ a. f a k) b p
    (λ a g' q. pf a g' q k b (along-on kept b g g' p q) (λ c g'' q'. h c g'' (along-on kept g g' g'' q q')))

pub gets-then : {A B : Type 0} (kept : Kept) (known : A → Graph → Type 0) (g : Graph) (m : Does A) (f : A → Does B) →
    Gets kept known g m → ((a : A) (g' : Graph) → Along kept g g' → known a g' → At kept g' (f a)) → At kept g (m >>= f)
gets-then kept known g m f pm pf k b p h =
    pm (λ a. f a k) b p
    (λ a g' q x. pf a g' q x k b (along-on kept b g g' p q) (λ c g'' q'. h c g'' (along-on kept g g' g'' q q')))

-- what follows learns nothing of what a first part gave
pub gets-after : {A B : Type 0} (kept : Kept) (known : B → Graph → Type 0) (g : Graph) (m : Does A) (f : A → Does B) →
    At kept g m → ((a : A) (g' : Graph) → Along kept g g' → Gets kept known g' (f a)) → Gets kept known g (m >>= f)
gets-after kept known g m f pm pf k b p h =
    pm (λ a. f a k) b p
    (λ a g' q. pf a g' q k b (along-on kept b g g' p q) (λ c g'' q' x. h c g'' (along-on kept g g' g'' q q') x))

pub keeps-give : {A : Type 0} (kept : Kept) (a : A) → Goes kept (give a)
keeps-give kept a = record { goes = λ g k b p h. h a g (along-stays kept b g p) }

pub keeps->>= : {A B : Type 0} (kept : Kept) (m : Does A) (f : A → Does B) → Goes kept m → ((a : A) → Goes kept (f a)) →
    Goes kept (m >>= f)
keeps->>= kept m f pm pf = record { goes = λ g. at-then kept g m f (pm.goes g) (λ a g' q. (pf a).goes g') }

pub keeps-if : {A : Type 0} (kept : Kept) (b : Bool) (m m' : Does A) → Goes kept m → Goes kept m' →
    Goes kept (if b then m else m')
keeps-if kept true m m' p p' = p
keeps-if kept false m m' p p' = p'

pub keeps-is_value : (kept : Kept) (v : Val) → Goes kept (is_value v)
keeps-is_value kept v = keeps-give kept (Value v)

pub keeps-truth : (kept : Kept) (b : Bool) → Goes kept (truth b)
keeps-truth kept b = keeps-is_value kept (Truth b)

pub keeps-yes_or_no : (kept : Kept) (b : Bool) → Goes kept (yes_or_no b)
keeps-yes_or_no kept b = keeps-give kept (Answer.Flag b)

pub keeps-ends : {A : Type 0} (kept : Kept) (o : Outcome) → IsAbrupt o → Goes {A = A} kept (ends o)
keeps-ends kept o abrupt = record { goes = λ g k b p h. (p, kept.ended b g o abrupt p.1) }

pub keeps-throw : {A : Type 0} (kept : Kept) (v : Val) → Goes {A = A} kept (throw v)
keeps-throw kept v = keeps-ends kept (Throw v) tt

pub keeps-pass : (kept : Kept) (o : Outcome) → Goes kept (pass o)
keeps-pass kept (Normal a) = keeps-give kept a
keeps-pass kept (Throw v) = keeps-ends kept (Throw v) tt
keeps-pass kept (Return v) = keeps-ends kept (Return v) tt
keeps-pass kept Break = keeps-ends kept Break tt
keeps-pass kept Continue = keeps-ends kept Continue tt

pub at-outcome : (kept : Kept) (g : Graph) (t : Task) → Fitted kept t g → At kept g (outcome t)
at-outcome kept g t fit k b p h = (p, fit, λ o s q n. h o s q)

pub at-answer : (kept : Kept) (g : Graph) (t : Task) → Fitted kept t g → At kept g (answer t)
at-answer kept g t fit k b p h =
    (p, fit, λ o s q n. (keeps-pass kept o).goes s k b (along-on kept b g s p q) (λ a s' q'. h a s' (along-on kept g s s' q q')))

pub at-again : (kept : Kept) (g : Graph) (t : Task) → Fitted kept t g → At kept g (again t)
at-again kept g t fit k b p h =
    (p, fit, λ o s q n. (keeps-pass kept o).goes s k b (along-on kept b g s p q) (λ a s' q'. h a s' (along-on kept g s s' q q')))

pub keeps-outcome : (kept : Kept) (t : Task) → ((g : Graph) → Fitted kept t g) → Goes kept (outcome t)
keeps-outcome kept t fit = record { goes = λ g. at-outcome kept g t (fit g) }

pub keeps-answer : (kept : Kept) (t : Task) → ((g : Graph) → Fitted kept t g) → Goes kept (answer t)
keeps-answer kept t fit = record { goes = λ g. at-answer kept g t (fit g) }

pub keeps-again : (kept : Kept) (t : Task) → ((g : Graph) → Fitted kept t g) → Goes kept (again t)
keeps-again kept t fit = record { goes = λ g. at-again kept g t (fit g) }

pub keeps-pay : (kept : Kept) (n : ℕ) → Goes kept (pay n)
keeps-pay kept n = record { goes = λ g k b p h. (p, h Nothing g (along-stays kept b g p)) }

pub keeps-turn : (kept : Kept) → Goes kept turn
keeps-turn kept = record { goes = λ g k b p h. (p, h Nothing g (along-stays kept b g p)) }

pub keeps-pay_each : {X : Type 0} (kept : Kept) (xs : List X) → Goes kept (pay_each xs)
keeps-pay_each kept [] = keeps-give kept Nothing
keeps-pay_each kept (x ∷ xs) =
    keeps->>= kept (pay 1) (λ _. pay_each xs) (keeps-pay kept 1) (λ _. keeps-pay_each kept xs)

pub keeps-look : {A : Type 0} (kept : Kept) (f : Graph → A) → Goes kept (look f)
keeps-look kept f = record { goes = λ g k b p h. h (f g) g (along-stays kept b g p) }

pub keeps-value : (kept : Kept) (t : Task) → ((g : Graph) → Fitted kept t g) → Goes kept (value t)
keeps-value kept t fit =
    keeps->>= kept (answer t) (λ a. give (value_in a)) (keeps-answer kept t fit) (λ a. keeps-give kept (value_in a))

pub keeps-flag : (kept : Kept) (t : Task) → ((g : Graph) → Fitted kept t g) → Goes kept (flag t)
keeps-flag kept t fit =
    keeps->>= kept (answer t) (λ a. give (flag_in a)) (keeps-answer kept t fit) (λ a. keeps-give kept (flag_in a))

pub keeps-property : (kept : Kept) (t : Task) → ((g : Graph) → Fitted kept t g) → Goes kept (property t)
keeps-property kept t fit =
    keeps->>= kept (answer t) (λ a. give (property_in a)) (keeps-answer kept t fit) (λ a. keeps-give kept (property_in a))

pub keeps-keys : (kept : Kept) (t : Task) → ((g : Graph) → Fitted kept t g) → Goes kept (keys t)
keeps-keys kept t fit =
    keeps->>= kept (answer t) (λ a. give (keys_in a)) (keeps-answer kept t fit) (λ a. keeps-give kept (keys_in a))

pub keeps-make : (kept : Kept) (t : Thing) → IsNew t → Goes kept (make t)
keeps-make kept t new =
    record {
      goes = λ g k b p h.
          h (Object (length g.objects)) (with_object t g) (along-made kept g g t (Apart new) (along-stays kept b g p));
    }

pub keeps-make_symbol : (kept : Kept) (d : Option (List ℕ)) → Goes kept (make_symbol d)
keeps-make_symbol kept d =
    record {
      goes = λ g k b p h.
          h (Symbol (length g.symbols)) (with_symbol d g)
          (along-symbols kept g g (g.symbols ++ (d ∷ [])) (along-stays kept b g p));
    }

-- a row that fails ends there
failed : (kept : Kept) (b g : Graph) (s : ℕ) (kind : ErrorKind) → Along kept b g →
    Holds kept b (Ret (Throw (Object (length g.objects))) (with_object (new_thing s None (Fault kind) (error_prototype kind)) g))
failed kept b g s kind p =
    let t : Thing = new_thing s None (Fault kind) (error_prototype kind) in
    let q : Along kept b (with_object t g) = along-made kept b g t (Apart (NewOther refl ([], refl))) p in
    (q, kept.ended b (with_object t g) (Throw (Object (length g.objects))) tt q.1)

pub gets-fail : {A : Type 0} (kept : Kept) (known : A → Graph → Type 0) (g : Graph) (s : ℕ) (kind : ErrorKind) →
    Gets {A = A} kept known g (fail s kind)
gets-fail kept known g s kind k b p h = failed kept b g s kind p

pub keeps-fail : {A : Type 0} (kept : Kept) (s : ℕ) (kind : ErrorKind) → Goes {A = A} kept (fail s kind)
keeps-fail kept s kind = record { goes = λ g k b p h. failed kept b g s kind p }

pub keeps-type_error : {A : Type 0} (kept : Kept) (s : ℕ) → Goes {A = A} kept (type_error s)
keeps-type_error kept s = keeps-fail kept s TypeError

pub keeps-range_error : {A : Type 0} (kept : Kept) (s : ℕ) → Goes {A = A} kept (range_error s)
keeps-range_error kept s = keeps-fail kept s RangeError

pub keeps-reference_error : {A : Type 0} (kept : Kept) (s : ℕ) → Goes {A = A} kept (reference_error s)
keeps-reference_error kept s = keeps-fail kept s ReferenceError

pub keeps-or_type_error : {A : Type 0} (kept : Kept) (s : ℕ) (o : Option A) → Goes kept (or_type_error s o)
keeps-or_type_error kept s None = keeps-type_error kept s
keeps-or_type_error kept s (Some a) = keeps-give kept a

pub keeps-unless_type_error : (kept : Kept) (s : ℕ) (b : Bool) → Goes kept (unless_type_error s b)
keeps-unless_type_error kept s true = keeps-give kept Nothing
keeps-unless_type_error kept s false = keeps-type_error kept s

-- what goes on after a test goes on from the same graph
pub at-unless : {A : Type 0} (kept : Kept) (g : Graph) (s : ℕ) (c : Bool) (m : Does A) → At kept g m →
    At kept g (unless_type_error s c >>= (λ _. m))
at-unless kept g s true m pm = pm
at-unless {A} kept g s false m pm = (keeps-type_error {A = A} kept s).goes g

pub keeps-log : (kept : Kept) (i : Item) → entry_of i ≡ [] → Goes kept (log i)
keeps-log kept i none =
    record {
      goes = λ g k b p h.
          h Nothing (record g { log = g.log ++ (i ∷ []) }) (along-log kept g g i none (along-stays kept b g p));
    }

-- ---- the words that change an object, a scope, a queue

altered-along : (kept : Kept) (g : Graph) (o : Val) (f : Thing → Thing) (x : Option Thing) → thing_at g o ≡ x →
    ((t : Thing) → thing_at g o ≡ Some t → Change kept.cares g t (f t)) → Along kept g g → Along kept g (altered o f x g)
altered-along kept g o f None at by p = p
altered-along kept g o f (Some t) at by p = along-moved kept g g o t (f t) at (by t at) p

pub at-alter : (kept : Kept) (g : Graph) (o : Val) (f : Thing → Thing) →
    ((t : Thing) → thing_at g o ≡ Some t → Change kept.cares g t (f t)) → At kept g (alter o f)
at-alter kept g o f by k b p h =
    h Nothing (altered o f (thing_at g o) g) (altered-along kept g o f (thing_at g o) refl by (along-stays kept b g p))

giving-along : (kept : Kept) (f g : Graph) (x : Option (ℕ × ℕ)) (v : Val) → ScopesLast g.scopes (giving x v g).scopes →
    Along kept f g → Along kept f (giving x v g)
giving-along kept f g None v last p = p
giving-along kept f g (Some x) v last p = along-scopes kept f g _ last p

pub at-giving : (kept : Kept) (place : Graph → Option (ℕ × ℕ)) (v : Val) (g : Graph) →
    ScopesLast g.scopes (giving (place g) v g).scopes → At kept g (change (λ h. giving (place h) v h))
at-giving kept place v g last k b p h =
    h Nothing (giving (place g) v g) (giving-along kept g g (place g) v last (along-stays kept b g p))

pub keeps-add_scope : (kept : Kept) (sc : Scope) → Goes kept (add_scope sc)
keeps-add_scope kept sc =
    record {
      goes = λ g k b p h.
          h (length g.scopes) (record g { scopes = g.scopes ++ (sc ∷ []) })
          (along-scopes kept g g (g.scopes ++ (sc ∷ [])) (scopes-added g.scopes (sc ∷ [])) (along-stays kept b g p));
    }

pub keeps-with_job : (kept : Kept) (s : ℕ) (v : Val) → Goes kept (change (with_job s (CallJob v)))
keeps-with_job kept s v =
    record {
      goes = λ g k b p h. h Nothing (with_job s (CallJob v) g) (along-job kept g g s v (along-stays kept b g p));
    }

-- what doesn't speak of objects stays where one takes another's place
pub beside-objects : (Holding : Graph → Type 0) (g : Graph) (o : Val) (t : Thing) →
    ((ts : List Thing) → Holding (record g { objects = ts })) → Holding g → Holding (with_thing o t g)
beside-objects Holding g (Object n) t h k = h (slice_set g.objects n t)
beside-objects Holding g Undefined t h k = k
beside-objects Holding g Null t h k = k
beside-objects Holding g (Truth b) t h k = k
beside-objects Holding g (Whole z) t h k = k
beside-objects Holding g (Text x) t h k = k
beside-objects Holding g (Symbol x) t h k = k
beside-objects Holding g (BuiltIn p) t h k = k
