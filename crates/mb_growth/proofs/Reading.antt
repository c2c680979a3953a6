-- What is known of tasks that read an object, and what is owed of a Proxy's method.
use Rattle.std.proofs.Common.{◌≡◌, ℕ, suc, Bool, true, false, not, Option, Some, refl, sym, ◌∙◌, subst}
use Rattle.mb_desc.specs.View.{View}
use Rattle.mb_world.specs.Value.{Val}
use Rattle.mb_world.specs.Key.{PropertyKey}
use Rattle.mb_world.specs.Graph.{Graph, Thing, Kind, Proxy, Gone}
use Rattle.mb_world.specs.Objects.{thing_at, with_thing, is_proxy_kind}
use Rattle.mb_world.specs.View.{shown_property, shown_keys, Shown, is_cut}
use Rattle.mb_model.specs.Engine.{Gives, Spent, given}
use Rattle.mb_model.specs.Task.{Task, Evaluate, Loop, Chain, Walk, Perform, Enter, Run, Access, Visit, Answer, Value, Flag, Prop, Keys, Method, GetPrototypeOf, SetPrototypeOf, IsExtensible, PreventExtensions, GetOwnProperty, DefineOwnProperty, HasProperty, Get, Set, Delete, OwnPropertyKeys, Call, Construct, Outcome, Normal, Throw, Return, Break, Continue}
use Rattle.mb_model.specs.Fitting.{FitsMethod}
use Rattle.mb_model.specs.Writing.{◌>>=◌, give, unless_type_error}
use Rattle.mb_model.specs.Meaning.{perform_kind, perform_thing, perform_row, finished, entries_made, row, Ends, Means}
use Rattle.mb_model.specs.Trace.Entries.{makes_entry, method_noted}
use Rattle.mb_model.proofs.Kept.Words.{Kept, IsAbrupt, beside-objects}
use Rattle.mb_model.proofs.Kept.Rows.{EndKnown, DoesSo, given-known}
use Rattle.mb_growth.specs.Later.{AreFormed}
use Rattle.mb_growth.specs.Answered.{EntryPasses, PassesAtMoment, EndPasses, PassesBetween}
use Rattle.mb_growth.proofs.Graphs.{stays-later}
use Rattle.mb_growth.proofs.Runs.{Grows, grows-on, growing}
use Rattle.mb_growth.proofs.Ends.{RowEnds, TaskEnds, ends-any, ends-entering, ends-pays, means-ends}
use Rattle.mb_growth.proofs.BuiltIns.{ordinary-entries-pass}

-- ---- what ends without an answer passes

throw-passes : (m : Method) (v : Val) (view : View PropertyKey Val) → EntryPasses m (Throw v) view
throw-passes GetPrototypeOf v view = tt
throw-passes (SetPrototypeOf p) v view = tt
throw-passes IsExtensible v view = tt
throw-passes PreventExtensions v view = tt
throw-passes (GetOwnProperty k) v view = tt
throw-passes (DefineOwnProperty k d) v view = tt
throw-passes (HasProperty k) v view = tt
throw-passes (Get k r) v view = tt
throw-passes (Set k x r) v view = tt
throw-passes (Delete k) v view = tt
throw-passes OwnPropertyKeys v view = tt
throw-passes (Call this vs) v view = tt
throw-passes (Construct vs target) v view = tt

-- a body's end passes for nothing
break-passes : (m : Method) (view : View PropertyKey Val) → EntryPasses m Break view
break-passes GetPrototypeOf view = tt
break-passes (SetPrototypeOf p) view = tt
break-passes IsExtensible view = tt
break-passes PreventExtensions view = tt
break-passes (GetOwnProperty k) view = tt
break-passes (DefineOwnProperty k d) view = tt
break-passes (HasProperty k) view = tt
break-passes (Get k r) view = tt
break-passes (Set k x r) view = tt
break-passes (Delete k) view = tt
break-passes OwnPropertyKeys view = tt
break-passes (Call this vs) view = tt
break-passes (Construct vs target) view = tt

pub abrupt-passes : (m : Method) (q : Outcome) → IsAbrupt q → (view : View PropertyKey Val) → EntryPasses m q view
abrupt-passes m (Normal a) abrupt view = absurd abrupt
abrupt-passes m (Throw v) abrupt view = throw-passes m v view
abrupt-passes m (Return v) abrupt view = break-passes m view
abrupt-passes m Break abrupt view = break-passes m view
abrupt-passes m Continue abrupt view = break-passes m view

-- ---- what is known of a task that reads

-- it answers this, and changes no object
abbrev pub Reads : Graph → Answer → Outcome → Graph → Type 0
Reads s a q after = (x : Answer) → q ≡ Normal x → (x ≡ a) × (after.objects ≡ s.objects) × (after.rules ≡ s.rules)

abbrev pub ReadSo : Method → ℕ → Thing → Graph → Outcome → Graph → Type 0
ReadSo IsExtensible v u s q after = Reads s (Flag u.extensible) q after
ReadSo (GetOwnProperty k) v u s q after = Reads s (Prop (shown_property s v u k)) q after
ReadSo GetPrototypeOf v u s q after = Reads s (Value u.prototype) q after
ReadSo OwnPropertyKeys v u s q after = Reads s (Keys (shown_keys s v u)) q after
ReadSo _ v u s q after = Unit {0}

-- of a method on an object that is no script-made Proxy
abbrev pub MethodKnown : Method → Val → ℕ → Graph → Outcome → Graph → Type 0
MethodKnown m o v s q after = (u : Thing) → thing_at s o ≡ Some u → is_proxy_kind u.kind ≡ false
    → FitsMethod m → AreFormed s → PassesAtMoment v o m u s q after × ReadSo m v u s q after

abbrev pub TaskKnown : Task → Graph → Outcome → Graph → Type 0
TaskKnown (Perform a m o v enters) s q after = MethodKnown m o v s q after
TaskKnown _ s q after = Unit {0}

-- ---- that it is so

thrown-reads : (s : Graph) (a : Answer) (v : Val) (after : Graph) → Reads s a (Throw v) after
thrown-reads s a v after x e = absurd (let bad : Throw v ≡ Normal x = e in cc)

thrown-so : (m : Method) (v : ℕ) (u : Thing) (s : Graph) (w : Val) (after : Graph) → ReadSo m v u s (Throw w) after
thrown-so GetPrototypeOf v u s w after = thrown-reads s (Value u.prototype) w after
thrown-so (SetPrototypeOf p) v u s w after = tt
thrown-so IsExtensible v u s w after = thrown-reads s (Flag u.extensible) w after
thrown-so PreventExtensions v u s w after = tt
thrown-so (GetOwnProperty k) v u s w after = thrown-reads s (Prop (shown_property s v u k)) w after
thrown-so (DefineOwnProperty k d) v u s w after = tt
thrown-so (HasProperty k) v u s w after = tt
thrown-so (Get k r) v u s w after = tt
thrown-so (Set k x r) v u s w after = tt
thrown-so (Delete k) v u s w after = tt
thrown-so OwnPropertyKeys v u s w after = thrown-reads s (Keys (shown_keys s v u)) w after
thrown-so (Call this vs) v u s w after = tt
thrown-so (Construct vs target) v u s w after = tt

answered-reads : (s : Graph) (a : Answer) → Reads s a (Normal a) s
answered-reads s a x e = let same : a ≡ x = cc in (sym same, refl, refl)

kind-reads : (a v : ℕ) (k : Val) (m : Method) (u : Thing) (s : Graph) (kind : Kind) → is_proxy_kind kind ≡ false
    → RowEnds (ReadSo m v u s) (perform_kind a v k u m kind finished s)
kind-reads a v k m u s (Proxy target handler shape) no_proxy = absurd (let bad : true ≡ false = no_proxy in cc)
kind-reads a v k m u s (Gone shape) no_proxy = absurd (let bad : true ≡ false = no_proxy in cc)
kind-reads a v k GetPrototypeOf u s _ no_proxy = answered-reads s (Value u.prototype)
kind-reads a v k IsExtensible u s _ no_proxy = answered-reads s (Flag u.extensible)
kind-reads a v k (GetOwnProperty i) u s _ no_proxy = answered-reads s (Prop (shown_property s v u i))
kind-reads a v k OwnPropertyKeys u s _ no_proxy =
    ends-pays (ReadSo OwnPropertyKeys v u s) (shown_keys s v u) (λ _. give (Keys (shown_keys s v u)) finished) s
    (answered-reads s (Keys (shown_keys s v u)))
kind-reads a v k (SetPrototypeOf p) u s kind no_proxy =
    ends-any (ReadSo (SetPrototypeOf p) v u s) (λ q g. tt) (perform_kind a v k u (SetPrototypeOf p) kind finished s)
kind-reads a v k PreventExtensions u s kind no_proxy =
    ends-any (ReadSo PreventExtensions v u s) (λ q g. tt) (perform_kind a v k u PreventExtensions kind finished s)
kind-reads a v k (DefineOwnProperty i d) u s kind no_proxy =
    ends-any (ReadSo (DefineOwnProperty i d) v u s) (λ q g. tt) (perform_kind a v k u (DefineOwnProperty i d) kind finished s)
kind-reads a v k (HasProperty i) u s kind no_proxy =
    ends-any (ReadSo (HasProperty i) v u s) (λ q g. tt) (perform_kind a v k u (HasProperty i) kind finished s)
kind-reads a v k (Get i r) u s kind no_proxy =
    ends-any (ReadSo (Get i r) v u s) (λ q g. tt) (perform_kind a v k u (Get i r) kind finished s)
kind-reads a v k (Set i x r) u s kind no_proxy =
    ends-any (ReadSo (Set i x r) v u s) (λ q g. tt) (perform_kind a v k u (Set i x r) kind finished s)
kind-reads a v k (Delete i) u s kind no_proxy =
    ends-any (ReadSo (Delete i) v u s) (λ q g. tt) (perform_kind a v k u (Delete i) kind finished s)
kind-reads a v k (Call this vs) u s kind no_proxy =
    ends-any (ReadSo (Call this vs) v u s) (λ q g. tt) (perform_kind a v k u (Call this vs) kind finished s)
kind-reads a v k (Construct vs target) u s kind no_proxy =
    ends-any (ReadSo (Construct vs target) v u s) (λ q g. tt) (perform_kind a v k u (Construct vs target) kind finished s)

unless-reads : (a v : ℕ) (k : Val) (m : Method) (u : Thing) (s : Graph) (b : Bool) → is_proxy_kind u.kind ≡ false
    → RowEnds (ReadSo m v u s) ((unless_type_error a b >>= (λ _. perform_kind a v k u m u.kind)) finished s)
unless-reads a v k m u s true no_proxy = kind-reads a v k m u s u.kind no_proxy
unless-reads a v k m u s false no_proxy = thrown-so m v u s _ _

noted-reads : (a v : ℕ) (k : Val) (m : Method) (u : Thing) (s : Graph) (began : ℕ) (q : Outcome) (h : Graph) → ReadSo m v u s q h
    → ReadSo m v u s q (method_noted began a k m q h)
noted-reads a v k GetPrototypeOf u s began q h p = p
noted-reads a v k (SetPrototypeOf x) u s began q h p = p
noted-reads a v k IsExtensible u s began q h p = p
noted-reads a v k PreventExtensions u s began q h p = p
noted-reads a v k (GetOwnProperty i) u s began q h p = p
noted-reads a v k (DefineOwnProperty i d) u s began q h p = p
noted-reads a v k (HasProperty i) u s began q h p = p
noted-reads a v k (Get i r) u s began q h p = p
noted-reads a v k (Set i x r) u s began q h p = p
noted-reads a v k (Delete i) u s began q h p = p
noted-reads a v k OwnPropertyKeys u s began q h p = p
noted-reads a v k (Call this vs) u s began q h p = p
noted-reads a v k (Construct vs target) u s began q h p = p

means-reads : (a v : ℕ) (k : Val) (m : Method) (enters : Bool) (u : Thing) (s : Graph) (f : ℕ) → thing_at s k ≡ Some u
    → is_proxy_kind u.kind ≡ false → TaskEnds (ReadSo m v u s) (Means (Perform a m k v enters) s f)
means-reads a v k m enters u s f at no_proxy =
    means-ends (ReadSo m v u s) (Perform a m k v enters) s f
    (ends-entering (ReadSo m v u s) (makes_entry enters a k s) (method_noted (entries_made s) a k m)
    (noted-reads a v k m u s (entries_made s)) (perform_row a v k m finished s)
    (subst (λ (x : Option Thing). RowEnds (ReadSo m v u s) (perform_thing a v k m x finished s)) (sym at)
    (unless-reads a v k m u s (not (is_cut s v u)) no_proxy)))

-- ---- rows that reach a graph, and what they owe

abbrev pub Reaches : Graph → Graph → Type 0
Reaches f g = Grows f g × (g.rules ≡ f.rules)

pub reaches-on : (f g h : Graph) → Reaches f g → Reaches g h → Reaches f h
reaches-on f g h p q = (grows-on f g h p.0 q.0, q.1 ∙ p.1)

-- owed where a row of a Proxy's method ends
abbrev pub Owes : ℕ → Val → Method → Graph → Outcome → Graph → Type 0
Owes p k m b q g = PassesBetween p k m b q g

pub owes-now : (p : ℕ) (k : Val) (m : Method) (b g : Graph) (q : Outcome) → Reaches b g
    → ((u : Thing) → thing_at g k ≡ Some u → EntryPasses m q (Shown g p u)) → Owes p k m b q g
owes-now p k m b g q h passes =
    record { moment = g; begun = h.0.1; ended = stays-later g; rules = h.1; passes = passes }

pub with_thing-rules : (g : Graph) (o : Val) (u : Thing) → (with_thing o u g).rules ≡ g.rules
with_thing-rules g o u = beside-objects (λ h. h.rules ≡ g.rules) g o u (λ ts. refl) refl

abbrev pub answering : ℕ → Val → Method → Kept
answering p k m = record {
  cares = Unit {0};
  owns = ⊥;
  to = Reaches;
  owed = Owes p k m;
  ended = λ b g q abrupt h. owes-now p k m b g q h (λ u at. abrupt-passes m q abrupt (Shown g p u));
  known = TaskKnown;
  stays = λ f g h. ((h.0.0, stays-later g), refl);
  goes_on = reaches-on;
  made = λ f g t new h. (growing.made f g t new h.0, h.1);
  moved = λ f g o t u at by h. (growing.moved f g o t u at by h.0, with_thing-rules g o u ∙ h.1);
  symbols = λ f g ds h. h;
  scopes = λ f g ss last h. h;
  log = λ f g i none h. h;
  job = λ f g s v h. h;
}

abbrev reaching : Kept
reaching = record {
  cares = Unit {0};
  owns = ⊥;
  to = Reaches;
  owed = λ b q g. Unit {0};
  ended = λ b g q abrupt h. tt;
  known = λ t s q g. Unit {0};
  stays = λ f g h. ((h.0.0, stays-later g), refl);
  goes_on = reaches-on;
  made = λ f g t new h. (growing.made f g t new h.0, h.1);
  moved = λ f g o t u at by h. (growing.moved f g o t u at by h.0, with_thing-rules g o u ∙ h.1);
  symbols = λ f g ds h. h;
  scopes = λ f g ss last h. h;
  log = λ f g i none h. h;
  job = λ f g s v h. h;
}

-- both facts of a task that ended
with-known : (p : ℕ) (k : Val) (m : Method) (t : Task) (s : Graph) (x : Ends) → EndKnown reaching t s x
    → TaskEnds (TaskKnown t s) x → EndKnown (answering p k m) t s x
with-known p k m t s (Gives q g f) h known = (h.0, known)
with-known p k m t s (Spent g f) h known = h

method-known : (a v : ℕ) (m : Method) (o : Val) (enters : Bool) (s : Graph) (f : ℕ) (x : Ends)
    → ((u : Thing) → thing_at s o ≡ Some u → is_proxy_kind u.kind ≡ false → FitsMethod m → AreFormed s
    → EndPasses v o m u s x × TaskEnds (ReadSo m v u s) x)
    → TaskEnds (TaskKnown (Perform a m o v enters) s) x
method-known a v m o enters s f (Gives q g l) h =
    λ u at no_proxy fit formed. let both = h u at no_proxy fit formed in (both.0, both.1)
method-known a v m o enters s f (Spent g l) h = tt

any-known : (x : Ends) → TaskEnds (λ q s. Unit {0}) x
any-known (Gives q s f) = tt
any-known (Spent s f) = tt

task-known : (t : Task) (s : Graph) (f : ℕ) → TaskEnds (TaskKnown t s) (Means t s f)
task-known (Perform a m o v enters) s f =
    method-known a v m o enters s f (Means (Perform a m o v enters) s f)
    (λ u at no_proxy fit formed.
    (ordinary-entries-pass a v o m enters u s f at no_proxy fit formed, means-reads a v o m enters u s f at no_proxy))
task-known (Evaluate a b c d) s f = any-known (Means (Evaluate a b c d) s f)
task-known (Loop a b c d) s f = any-known (Means (Loop a b c d) s f)
task-known (Chain a b c) s f = any-known (Means (Chain a b c) s f)
task-known (Walk a b c) s f = any-known (Means (Walk a b c) s f)
task-known (Enter a b c) s f = any-known (Means (Enter a b c) s f)
task-known (Run a b c d e) s f = any-known (Means (Run a b c d e) s f)
task-known (Access a b c d) s f = any-known (Means (Access a b c d) s f)
task-known (Visit a b c d e i) s f = any-known (Means (Visit a b c d e i) s f)

-- the meaning does so
pub does-so : (p : ℕ) (k : Val) (m : Method) → DoesSo (answering p k m) (given row)
does-so p k m t s f fit a =
    with-known p k m t s (given row t s f)
    (given-known reaching (record { owes = λ b g o h. tt; knows = λ u b g o. tt; notes = λ b g e h. h }) t s f fit a) (task-known t s (suc f))
