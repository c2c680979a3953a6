-- What a trap's checks let pass is owed: what they ask beside the own property.
use Rattle.std.proofs.Common.{◌≡◌, ℕ, Bool, true, false, not, ◌||◌, List, [], Option, None, Some, refl, sym, ap, ◌∙◌, subst}
use Rattle.std.proofs.lemmas.Option.{same_Some}
use Rattle.mb_desc.specs.declared.descriptor.Full.{Full}
use Rattle.mb_desc.specs.Descriptors.{is_configurable}
use Rattle.mb_check.specs.declared.verdict.Verdict.{Verdict}
use Rattle.mb_check.specs.declared.verdict.Verdict.TheVariants.{Pass, Broken}
use Rattle.mb_check.specs.Rules.{same_prototype}
use Rattle.mb_view.specs.Passing.{MayLack}
use Rattle.mb_world.specs.declared.cell.ErrorKind.TheVariants.{TypeError}
use Rattle.mb_world.specs.Value.{Val, Undefined, Object, is_object, is_null, same_value, Null, Truth, Whole, Text, Symbol, BuiltIn}
use Rattle.mb_world.specs.Key.{PropertyKey, same_key}
use Rattle.mb_world.specs.Graph.{Graph, Thing, Rule}
use Rattle.mb_world.specs.Objects.{thing_at, is_proxy_kind}
use Rattle.mb_world.specs.View.{shown_property, shown_keys, Shown}
use Rattle.mb_model.specs.Engine.{given}
use Rattle.mb_model.specs.Task.{Task, Answer, Value, Flag, Prop, Method, GetPrototypeOf, SetPrototypeOf, IsExtensible, PreventExtensions, GetOwnProperty, HasProperty, Delete, OwnPropertyKeys, Outcome, Normal, Throw, Return, Break, Continue}
use Rattle.mb_model.specs.Writing.{Row, Does, ◌>>=◌, give, answer, pass, value_in, flag_in, property_in, keys_in, perform, unless_type_error}
use Rattle.mb_model.specs.Objects.Rules as rule
use Rattle.mb_model.specs.Objects.Proxies.{judge, read_extensible, read_own, prototype_extensible, prototype_said, set_prototype_extensible, set_prototype_said, extensible_said, prevent_said, absent_read, absent_said, has_said, delete_said}
use Rattle.mb_model.specs.Trace.Answers.{is_pass}
use Rattle.mb_model.proofs.Kept.Words.{Kept, Along, Fitted, Holds, Gets, along-stays, along-on, gets-fail}
use Rattle.mb_growth.specs.Answered.{EntryPasses}
use Rattle.mb_growth.proofs.Seen.{seen-at}
use Rattle.mb_growth.proofs.Values.{value-sound}
use Rattle.mb_growth.proofs.Checked.{not-not, unbroken, extensible-tells, prevent-tells, absent-tells}
use Rattle.mb_growth.proofs.Reading.{TaskKnown, Reaches, reaches-on, Owes, owes-now, answering}

-- ---- parts of rows, of whose answers something is known

pub gets-give : {A : Type 0} (kept : Kept) (known : A → Graph → Type 0) (g : Graph) (a : A) → known a g → Gets kept known g (give a)
gets-give kept known g a x k b p h = h a g (along-stays kept b g p) x

pub gets-bind : {A B : Type 0} (kept : Kept) (first : A → Graph → Type 0) (known : B → Graph → Type 0) (g : Graph) (m : Does A) (f : A → Does B)
    → Gets kept first g m → ((a : A) (h : Graph) → Along kept g h → first a h → Gets kept known h (f a)) → Gets kept known g (m >>= f)
gets-bind kept first known g m f pm pf k b p h =
    pm (λ a. f a k) b p
    (λ a g' q x. pf a g' q x k b (along-on kept b g g' p q) (λ c g'' q' y. h c g'' (along-on kept g g' g'' q q') y))

pub gets-unless : {A : Type 0} (kept : Kept) (known : A → Graph → Type 0) (g : Graph) (s : ℕ) (b : Bool) (m : Does A)
    → Gets kept known g m → Gets kept known g (unless_type_error s b >>= (λ _. m))
gets-unless kept known g s true m x = x
gets-unless {A} kept known g s false m x = gets-fail {A = A} kept known g s TypeError

passed : (kept : Kept) (b g : Graph) (q : Outcome) (k : Answer → Graph → Row) → Along kept b g
    → ((a : Answer) → q ≡ Normal a → Holds kept b (k a g)) → Holds kept b (pass q k g)
passed kept b g (Normal a) k p h = h a refl
passed kept b g (Throw v) k p h = (p, kept.ended b g (Throw v) tt p.1)
passed kept b g (Return v) k p h = (p, kept.ended b g (Return v) tt p.1)
passed kept b g Break k p h = (p, kept.ended b g Break tt p.1)
passed kept b g Continue k p h = (p, kept.ended b g Continue tt p.1)

-- what is known of a task is known of its answer
pub gets-answer : (kept : Kept) (g : Graph) (t : Task) → Fitted kept t g
    → Gets kept (λ a h. kept.known t g (Normal a) h) g (answer t)
gets-answer kept g t fit k b p h = (
  p,
  fit,
  λ o s q known.
      passed kept b s o k (along-on kept b g s p q)
      (λ a e. h a s q (subst (λ (x : Outcome). kept.known t g x s) e known)),
)

-- ---- the target, as a method's checks read it

abbrev pub Owed : ℕ → Val → Method → Graph → Answer → Graph → Type 0
Owed p k m b a g = Owes p k m b (Normal a) g

abbrev pub IsTarget : Val → Graph → Thing → Type 0
IsTarget k g u = (thing_at g k ≡ Some u) × (is_proxy_kind u.kind ≡ false)

-- no object changed between the two
abbrev pub Frozen : Graph → Graph → Type 0
Frozen s g = (g.objects ≡ s.objects) × (g.rules ≡ s.rules)

frozen-on : (s g h : Graph) → Frozen s g → Frozen g h → Frozen s h
frozen-on s g h f i = (i.0 ∙ f.0, i.1 ∙ f.1)

pub later-target : (k : Val) (b g : Graph) (u : Thing) → IsTarget k b u → Reaches b g → (w : Thing) × IsTarget k g w
later-target (Object n) b g u t h = let l = h.0.1 n u t.0 in (l.0, (l.1, sym l.2.proxy ∙ t.1))
later-target (BuiltIn n) b g u t h = (u, t)
later-target Undefined b g u t h = (u, t)
later-target Null b g u t h = (u, t)
later-target (Truth x) b g u t h = (u, t)
later-target (Whole z) b g u t h = (u, t)
later-target (Text x) b g u t h = (u, t)
later-target (Symbol x) b g u t h = (u, t)

pub still-there : (k : Val) (s g : Graph) (u : Thing) → IsTarget k s u → Frozen s g → thing_at g k ≡ Some u
still-there k s g u t f = ap (λ (os : List Thing). thing_at (record s { objects = os }) k) f.0 ∙ t.0

-- what passes against the target as it was read first is owed
pub frozen-owes : (p : ℕ) (k : Val) (m : Method) (b s g : Graph) (u : Thing) (a : Answer) → IsTarget k s u → Frozen s g → Reaches b g
    → EntryPasses m (Normal a) (Shown s p u) → Owed p k m b a g
frozen-owes p k m b s g u a t f h pass =
    owes-now p k m b g (Normal a) h
    (λ w at.
    subst (λ (x : Thing). EntryPasses m (Normal a) (Shown g p x)) (same_Some u w (sym (still-there k s g u t f) ∙ at))
    (subst (λ (rs : List Rule). EntryPasses m (Normal a) (Shown (record s { rules = rs }) p u)) (sym f.1) pass))

pub shown-frozen : (p : ℕ) (s g : Graph) (u : Thing) (i : PropertyKey) → Frozen s g → shown_property g p u i ≡ shown_property s p u i
shown-frozen p s g u i f = ap (λ (rs : List Rule). shown_property (record s { rules = rs }) p u i) f.1

pub keys-frozen : (p : ℕ) (s g : Graph) (u : Thing) → Frozen s g → shown_keys g p u ≡ shown_keys s p u
keys-frozen p s g u f = ap (λ (rs : List Rule). shown_keys (record s { rules = rs }) p u) f.1

module _ (p : ℕ) (k : Val) (m : Method) (b : Graph) where
  pub gets-extensible : (s g : Graph) (u : Thing) → IsTarget k s u → Frozen s g → Reaches b g
      → Gets (answering p k m) (λ e h. (e ≡ u.extensible) × Frozen s h) g (read_extensible p k)
  gets-extensible s g u t f reach =
      gets-bind (answering p k m) (λ a h. TaskKnown (perform p IsExtensible k) g (Normal a) h)
      (λ e h. (e ≡ u.extensible) × Frozen s h) g (answer (perform p IsExtensible k)) (λ a. give (flag_in a))
      (gets-answer (answering p k m) g (perform p IsExtensible k) (λ _. tt, λ c. absurd c))
      (λ a h q known.
      let r = (known u (still-there k s g u t f) t.1 tt reach.0.0).1 a refl in
      gets-give (answering p k m) (λ e i. (e ≡ u.extensible) × Frozen s i) h (flag_in a)
      (ap flag_in r.0, frozen-on s g h f (r.1, r.2)))

  pub gets-own : (s g : Graph) (u : Thing) (i : PropertyKey) → IsTarget k s u → Frozen s g → Reaches b g
      → Gets (answering p k m) (λ x h. (x ≡ shown_property s p u i) × Frozen s h) g (read_own p k i)
  gets-own s g u i t f reach =
      gets-bind (answering p k m) (λ a h. TaskKnown (perform p (GetOwnProperty i) k) g (Normal a) h)
      (λ x h. (x ≡ shown_property s p u i) × Frozen s h) g (answer (perform p (GetOwnProperty i) k)) (λ a. give (property_in a))
      (gets-answer (answering p k m) g (perform p (GetOwnProperty i) k) (λ _. tt, λ c. absurd c))
      (λ a h q known.
      let r = (known u (still-there k s g u t f) t.1 tt reach.0.0).1 a refl in
      gets-give (answering p k m) (λ x j. (x ≡ shown_property s p u i) × Frozen s j) h (property_in a)
      (ap property_in r.0 ∙ shown-frozen p s g u i f, frozen-on s g h f (r.1, r.2)))

  pub gets-above : (s g : Graph) (u : Thing) → IsTarget k s u → Frozen s g → Reaches b g
      → Gets (answering p k m) (λ x h. (x ≡ u.prototype) × Frozen s h) g
      (answer (perform p GetPrototypeOf k) >>= (λ a. give (value_in a)))
  gets-above s g u t f reach =
      gets-bind (answering p k m) (λ a h. TaskKnown (perform p GetPrototypeOf k) g (Normal a) h)
      (λ x h. (x ≡ u.prototype) × Frozen s h) g (answer (perform p GetPrototypeOf k)) (λ a. give (value_in a))
      (gets-answer (answering p k m) g (perform p GetPrototypeOf k) (λ _. tt, λ c. absurd c))
      (λ a h q known.
      let r = (known u (still-there k s g u t f) t.1 tt reach.0.0).1 a refl in
      gets-give (answering p k m) (λ x i. (x ≡ u.prototype) × Frozen s i) h (value_in a)
      (ap value_in r.0, frozen-on s g h f (r.1, r.2)))

  pub gets-listed : (s g : Graph) (u : Thing) → IsTarget k s u → Frozen s g → Reaches b g
      → Gets (answering p k m) (λ ks h. (ks ≡ shown_keys s p u) × Frozen s h) g
      (answer (perform p OwnPropertyKeys k) >>= (λ a. give (keys_in a)))
  gets-listed s g u t f reach =
      gets-bind (answering p k m) (λ a h. TaskKnown (perform p OwnPropertyKeys k) g (Normal a) h)
      (λ ks h. (ks ≡ shown_keys s p u) × Frozen s h) g (answer (perform p OwnPropertyKeys k)) (λ a. give (keys_in a))
      (gets-answer (answering p k m) g (perform p OwnPropertyKeys k) (λ _. tt, λ c. absurd c))
      (λ a h q known.
      let r = (known u (still-there k s g u t f) t.1 tt reach.0.0).1 a refl in
      gets-give (answering p k m) (λ ks i. (ks ≡ shown_keys s p u) × Frozen s i) h (keys_in a)
      (ap keys_in r.0 ∙ keys-frozen p s g u f, frozen-on s g h f (r.1, r.2)))

  -- an answer that stands, unless a rule is broken
  pub gets-judged : (g : Graph) (verdict : Verdict) (a : Answer) → (is_pass verdict ≡ true → Owed p k m b a g)
      → Gets (answering p k m) (Owed p k m b) g (judge p verdict a)
  gets-judged g Pass a owed = gets-give (answering p k m) (Owed p k m b) g a (owed refl)
  gets-judged g (Broken n) a owed = gets-fail (answering p k m) (Owed p k m b) g p TypeError

  pub gets-judged_then : (g : Graph) (verdict : Verdict) (a : Answer) (f : Answer → Does Answer)
      → Gets (answering p k m) (Owed p k m b) g (f a) → Gets (answering p k m) (Owed p k m b) g (judge p verdict a >>= f)
  gets-judged_then g Pass a f h = h
  gets-judged_then g (Broken n) a f h = gets-fail (answering p k m) (Owed p k m b) g p TypeError

  -- what is said of an absent property, where it may be lacking
  pub gets-absent : (g : Graph) (u : Thing) (i : PropertyKey) (verdict : Option (Full Val) → Bool → Verdict) (a : Answer) → IsTarget k g u → Reaches b g
      → ((real : Option (Full Val)) (x : Bool) → is_pass (verdict real x) ≡ true → (f : Full Val) → real ≡ Some f
      → (is_configurable f ≡ true) × (x ≡ true))
      → (MayLack same_key same_value Undefined (Shown g p u) i → EntryPasses m (Normal a) (Shown g p u))
      → Gets (answering p k m) (Owed p k m b) g (absent_said p k i verdict a)
  gets-absent g u i verdict a t reach tells lacking =
      gets-bind (answering p k m) (λ x h. (x ≡ shown_property g p u i) × Frozen g h) (Owed p k m b) g (read_own p k i)
      (λ real. absent_read p k verdict a real) (gets-own g g u i t (refl, refl) reach)
      (λ real h q r. by real h r.0 r.1 (reaches-on b g h reach q.1))
    where
      by : (real : Option (Full Val)) (h : Graph) → real ≡ shown_property g p u i → Frozen g h → Reaches b h
          → Gets (answering p k m) (Owed p k m b) h (absent_read p k verdict a real)
      by None h e f there =
          gets-judged h (verdict None true) a
          (λ pass. frozen-owes p k m b g h u a t f there
          (lacking (λ y at. absurd (let bad : None ≡ Some y = e ∙ sym (seen-at g p u i) ∙ at in cc))))
      by (Some real) h e f there =
          gets-judged_then h (verdict (Some real) true) a
          (λ _. read_extensible p k >>= (λ x. judge p (verdict (Some real) x) a))
          (gets-bind (answering p k m) (λ x j. (x ≡ u.extensible) × Frozen g j) (Owed p k m b) h (read_extensible p k)
          (λ x. judge p (verdict (Some real) x) a) (gets-extensible g h u t f there)
          (λ x j q r.
          gets-judged j (verdict (Some real) x) a
          (λ pass. frozen-owes p k m b g j u a t r.1 (reaches-on b h j there q.1)
          (lacking (λ y at.
          let same : Some real ≡ Some y = e ∙ sym (seen-at g p u i) ∙ at in
          let both = tells (Some real) x pass y same in
          (both.0, sym r.0 ∙ both.1))))))

same-tells : (n : ℕ) (said real : Val) → is_pass (same_prototype same_value n said (Some real)) ≡ true → said ≡ real
same-tells n said real h =
    value-sound said real (not-not (same_value said real) (unbroken (not (same_value said real)) n [] h).0)

-- ---- each method's tail, once its trap answered

module _ (p : ℕ) (k : Val) (b g : Graph) (u : Thing) (t : IsTarget k g u) (reach : Reaches b g) where
  pub gets-prototype_said : (said : Val) → Gets (answering p k GetPrototypeOf) (Owed p k GetPrototypeOf b) g (prototype_said p k said)
  gets-prototype_said said =
      gets-unless (answering p k GetPrototypeOf) (Owed p k GetPrototypeOf b) g p (is_object said || is_null said)
      (read_extensible p k >>= (λ e. prototype_extensible p k said e))
      (gets-bind (answering p k GetPrototypeOf) (λ e h. (e ≡ u.extensible) × Frozen g h) (Owed p k GetPrototypeOf b) g
      (read_extensible p k) (λ e. prototype_extensible p k said e)
      (gets-extensible p k GetPrototypeOf b g g u t (refl, refl) reach)
      (λ e h q r. by e h r.0 r.1 (reaches-on b g h reach q.1)))
    where
      by : (e : Bool) (h : Graph) → e ≡ u.extensible → Frozen g h → Reaches b h
          → Gets (answering p k GetPrototypeOf) (Owed p k GetPrototypeOf b) h (prototype_extensible p k said e)
      by true h e f there =
          gets-judged p k GetPrototypeOf b h (rule.get_prototype said None) (Value said)
          (λ pass. frozen-owes p k GetPrototypeOf b g h u (Value said) t f there
          (λ closed. absurd (let bad : true ≡ false = e ∙ closed in cc)))
      by false h e f there =
          gets-bind (answering p k GetPrototypeOf) (λ x i. (x ≡ u.prototype) × Frozen g i) (Owed p k GetPrototypeOf b) h
          (answer (perform p GetPrototypeOf k) >>= (λ a. give (value_in a)))
          (λ real. judge p (rule.get_prototype said (Some real)) (Value said)) (gets-above p k GetPrototypeOf b g h u t f there)
          (λ real i q r.
          gets-judged p k GetPrototypeOf b i (rule.get_prototype said (Some real)) (Value said)
          (λ pass. frozen-owes p k GetPrototypeOf b g i u (Value said) t r.1 (reaches-on b h i there q.1)
          (λ closed. same-tells 2 said real pass ∙ r.0)))

  pub gets-set_prototype_said : (given : Val) (said : Bool)
      → Gets (answering p k (SetPrototypeOf given)) (Owed p k (SetPrototypeOf given) b) g (set_prototype_said p k given said)
  gets-set_prototype_said given false =
      gets-give (answering p k (SetPrototypeOf given)) (Owed p k (SetPrototypeOf given) b) g (Flag false)
      (frozen-owes p k (SetPrototypeOf given) b g g u (Flag false) t (refl, refl) reach tt)
  gets-set_prototype_said given true =
      gets-bind (answering p k (SetPrototypeOf given)) (λ e h. (e ≡ u.extensible) × Frozen g h) (Owed p k (SetPrototypeOf given) b) g
      (read_extensible p k) (λ e. set_prototype_extensible p k given e)
      (gets-extensible p k (SetPrototypeOf given) b g g u t (refl, refl) reach)
      (λ e h q r. by e h r.0 r.1 (reaches-on b g h reach q.1))
    where
      by : (e : Bool) (h : Graph) → e ≡ u.extensible → Frozen g h → Reaches b h
          → Gets (answering p k (SetPrototypeOf given)) (Owed p k (SetPrototypeOf given) b) h (set_prototype_extensible p k given e)
      by true h e f there =
          gets-judged p k (SetPrototypeOf given) b h (rule.set_prototype given None) (Flag true)
          (λ pass. frozen-owes p k (SetPrototypeOf given) b g h u (Flag true) t f there
          (λ closed. absurd (let bad : true ≡ false = e ∙ closed in cc)))
      by false h e f there =
          gets-bind (answering p k (SetPrototypeOf given)) (λ x i. (x ≡ u.prototype) × Frozen g i) (Owed p k (SetPrototypeOf given) b) h
          (answer (perform p GetPrototypeOf k) >>= (λ a. give (value_in a)))
          (λ real. judge p (rule.set_prototype given (Some real)) (Flag true)) (gets-above p k (SetPrototypeOf given) b g h u t f there)
          (λ real i q r.
          gets-judged p k (SetPrototypeOf given) b i (rule.set_prototype given (Some real)) (Flag true)
          (λ pass. frozen-owes p k (SetPrototypeOf given) b g i u (Flag true) t r.1 (reaches-on b h i there q.1)
          (λ closed. same-tells 3 given real pass ∙ r.0)))

  pub gets-extensible_said : (said : Bool) → Gets (answering p k IsExtensible) (Owed p k IsExtensible b) g (extensible_said p k said)
  gets-extensible_said said =
      gets-bind (answering p k IsExtensible) (λ e h. (e ≡ u.extensible) × Frozen g h) (Owed p k IsExtensible b) g
      (read_extensible p k) (λ e. judge p (rule.is_extensible said e) (Flag said))
      (gets-extensible p k IsExtensible b g g u t (refl, refl) reach)
      (λ e h q r.
      gets-judged p k IsExtensible b h (rule.is_extensible said e) (Flag said)
      (λ pass. frozen-owes p k IsExtensible b g h u (Flag said) t r.1 (reaches-on b g h reach q.1) (extensible-tells said e pass ∙ r.0)))

  pub gets-prevent_said : (said : Bool) → Gets (answering p k PreventExtensions) (Owed p k PreventExtensions b) g (prevent_said p k said)
  gets-prevent_said false =
      gets-give (answering p k PreventExtensions) (Owed p k PreventExtensions b) g (Flag false)
      (frozen-owes p k PreventExtensions b g g u (Flag false) t (refl, refl) reach tt)
  gets-prevent_said true =
      gets-bind (answering p k PreventExtensions) (λ e h. (e ≡ u.extensible) × Frozen g h) (Owed p k PreventExtensions b) g
      (read_extensible p k) (λ e. judge p (rule.prevent_extensions e) (Flag true))
      (gets-extensible p k PreventExtensions b g g u t (refl, refl) reach)
      (λ e h q r.
      gets-judged p k PreventExtensions b h (rule.prevent_extensions e) (Flag true)
      (λ pass. frozen-owes p k PreventExtensions b g h u (Flag true) t r.1 (reaches-on b g h reach q.1) (sym r.0 ∙ prevent-tells e pass)))

  pub gets-own_said_absent : (i : PropertyKey)
      → Gets (answering p k (GetOwnProperty i)) (Owed p k (GetOwnProperty i) b) g (absent_said p k i rule.own_absent (Prop None))
  gets-own_said_absent i =
      gets-absent p k (GetOwnProperty i) b g u i rule.own_absent (Prop None) t reach (absent-tells 7 8) (λ h. h)

  pub gets-has_said : (i : PropertyKey) (said : Bool) → Gets (answering p k (HasProperty i)) (Owed p k (HasProperty i) b) g (has_said p k i said)
  gets-has_said i true =
      gets-give (answering p k (HasProperty i)) (Owed p k (HasProperty i) b) g (Flag true)
      (frozen-owes p k (HasProperty i) b g g u (Flag true) t (refl, refl) reach tt)
  gets-has_said i false = gets-absent p k (HasProperty i) b g u i rule.has_not (Flag false) t reach (absent-tells 17 17) (λ h. h)

  pub gets-delete_said : (i : PropertyKey) (said : Bool) → Gets (answering p k (Delete i)) (Owed p k (Delete i) b) g (delete_said p k i said)
  gets-delete_said i false =
      gets-give (answering p k (Delete i)) (Owed p k (Delete i) b) g (Flag false)
      (frozen-owes p k (Delete i) b g g u (Flag false) t (refl, refl) reach tt)
  gets-delete_said i true = gets-absent p k (Delete i) b g u i rule.delete (Flag true) t reach (absent-tells 20 20) (λ h. h)
