-- What a method of an ordinary object answers passes against what its side sees.
use Rattle.std.proofs.Common.{◌≡◌, ℕ, zero, suc, Bool, true, false, not, List, [], ◌∷◌, length, Option, None, Some, is_none, slice_get, slice_set, refl, sym, ap, ◌∙◌, subst, if◌then◌else◌}
use Rattle.std.proofs.lemmas.Option.{same_Some}
use Rattle.mb_desc.specs.declared.descriptor.Desc.{Desc}
use Rattle.mb_desc.specs.declared.descriptor.Full.{Full}
use Rattle.mb_desc.specs.declared.descriptor.Full.TheVariants.{Datum, Accessor}
use Rattle.mb_desc.specs.Descriptors.{is_configurable, Complete, descriptor_of}
use Rattle.mb_desc.specs.View.{View}
use Rattle.mb_view.specs.Views.{property_of}
use Rattle.mb_view.specs.Entries as deed
use Rattle.mb_view.proofs.Tables.{any-lookup, lookup-remove}
use Rattle.mb_world.specs.Value.{Val, Undefined, Object, same_value}
use Rattle.mb_world.specs.Key.{PropertyKey, same_key}
use Rattle.mb_world.specs.Graph.{Graph, Thing, Kind, Proxy, Gone, RuleKind}
use Rattle.mb_world.specs.Objects.{is_proxy_kind, own_property, without_property}
use Rattle.mb_world.specs.Ordinary.{Defined, Refused, Becomes, Faulty, closed, with_prototype, prototype_answered, deleted}
use Rattle.mb_world.specs.Arrays.{defined}
use Rattle.mb_world.specs.View.{shown_by, shown_property, shown_keys, Shown, key_rule, is_read_only, Define, Free, Decided, Ruling, Admits, is_cut}
use Rattle.mb_model.specs.Engine.{Gives, Spent}
use Rattle.mb_model.specs.Task.{Walk, Perform, Nothing, Value, Flag, Prop, Given, Keys, Values, Place, Pair, Empty, Method, GetPrototypeOf, SetPrototypeOf, IsExtensible, PreventExtensions, GetOwnProperty, DefineOwnProperty, HasProperty, Get, Set, Delete, OwnPropertyKeys, Call, Construct, Outcome, Normal, Throw, Return, Break, Continue}
use Rattle.mb_model.specs.Fitting.{FitsMethod}
use Rattle.mb_model.specs.Writing.{◌>>=◌, give, unless_type_error}
use Rattle.mb_model.specs.Operations.Makings.{altered}
use Rattle.mb_model.specs.Objects.Methods.{settled, walk_row, walk_unless, ordinary_delete, ordinary, change_of, ruling, ruled, list_keys}
use Rattle.mb_model.specs.Meaning.{perform_kind, perform_thing, perform_row, finished, entries_made, Ends, Means}
use Rattle.mb_model.specs.Trace.Entries.{makes_entry, method_noted, said_outcome}
use Rattle.mb_growth.specs.Objects.{as_view, IsFormed}
use Rattle.mb_growth.specs.Later.{Moves, AreFormed}
use Rattle.mb_growth.specs.Answered.{EntryPasses, PassesAsItEnds, PassesAtMoment, EndPasses}
use Rattle.mb_growth.proofs.Values.{key-sound, key-refl, value-sound}
use Rattle.mb_growth.proofs.Bridge.{own-is, without-is}
use Rattle.mb_growth.proofs.Arrays.{definitions-move}
use Rattle.mb_growth.proofs.Sides.{same-key-rule}
use Rattle.mb_growth.proofs.Seen.{shown-none, seen-at}
use Rattle.mb_growth.proofs.There.{IsThere, is-there}
use Rattle.mb_growth.proofs.Ends.{Walked, RowEnds, TaskEnds, ends-any, ends-also, ends-entering, ends-pays, walk-ends, means-ends}
use Rattle.mb_growth.proofs.Said.{passes-by, throw-passes, call-passes, construct-passes, has-ends, get-ends, set-ends}

-- ---- where the object is as it was, and where another took its place

at-same : (g : Graph) (n : ℕ) (t : Thing) → slice_get g.objects n ≡ Some t → (So : Thing → Type 0) → So t → (u : Thing)
    → slice_get g.objects n ≡ Some u → So u
at-same g n t at So h u there = subst So (same_Some t u (sym at ∙ there)) h

set-there : (ts : List Thing) (n : ℕ) (t u : Thing) → slice_get ts n ≡ Some t → slice_get (slice_set ts n u) n ≡ Some u
set-there [] n t u at = absurd (let bad : None ≡ Some t = at in cc)
set-there (x ∷ ts) zero t u at = refl
set-there (x ∷ ts) (suc n) t u at = set-there ts n t u at

-- the graph with this thing in the object's place
abbrev placed : Graph → ℕ → Thing → Graph
placed g n u = record g { objects = slice_set g.objects n u }

at-altered : (g : Graph) (n : ℕ) (t : Thing) (f : Thing → Thing) → slice_get g.objects n ≡ Some t → (So : Graph → Type 0)
    → So (placed g n (f t)) → So (altered (Object n) f (slice_get g.objects n) g)
at-altered g n t f at So h = subst (λ (x : Option Thing). So (altered (Object n) f x g)) (sym at) h

-- ---- one method, where the policy leaves it free

set_prototype-passes : (s n : ℕ) (t : Thing) (g : Graph) (p : Val) → slice_get g.objects n ≡ Some t → (q : Outcome) (after : Graph)
    → Walked (Walk (Object n) p p) g q after → PassesAsItEnds s (Object n) (SetPrototypeOf p) q after
set_prototype-passes s n t g p at (Normal (Flag true)) after walked =
    subst (λ (h : Graph). PassesAsItEnds s (Object n) (SetPrototypeOf p) (Normal (Flag true)) h) (sym (walked refl))
    (at-altered g n t (with_prototype p) at (λ (h : Graph). PassesAsItEnds s (Object n) (SetPrototypeOf p) (Normal (Flag true)) h)
    (at-same (placed g n (with_prototype p t)) n (with_prototype p t) (set-there g.objects n t (with_prototype p t) at)
    (λ (u : Thing). EntryPasses (SetPrototypeOf p) (Normal (Flag true)) (Shown (placed g n (with_prototype p t)) s u))
    (λ c. refl)))
set_prototype-passes s n t g p at (Normal (Flag false)) after walked = λ u there. tt
set_prototype-passes s n t g p at (Normal Nothing) after walked = λ u there. tt
set_prototype-passes s n t g p at (Normal (Value v)) after walked = λ u there. tt
set_prototype-passes s n t g p at (Normal (Prop None)) after walked = λ u there. tt
set_prototype-passes s n t g p at (Normal (Prop (Some f))) after walked = λ u there. tt
set_prototype-passes s n t g p at (Normal (Given d)) after walked = λ u there. tt
set_prototype-passes s n t g p at (Normal (Keys ks)) after walked = λ u there. tt
set_prototype-passes s n t g p at (Normal (Values vs)) after walked = λ u there. tt
set_prototype-passes s n t g p at (Normal (Place b k)) after walked = λ u there. tt
set_prototype-passes s n t g p at (Normal (Pair k v)) after walked = λ u there. tt
set_prototype-passes s n t g p at (Normal Empty) after walked = λ u there. tt
set_prototype-passes s n t g p at (Throw v) after walked = λ u there. tt
set_prototype-passes s n t g p at (Return v) after walked = λ u there. tt
set_prototype-passes s n t g p at Break after walked = λ u there. tt
set_prototype-passes s n t g p at Continue after walked = λ u there. tt

prototype-ends : (s n : ℕ) (t : Thing) (g : Graph) (p : Val) → slice_get g.objects n ≡ Some t
    → RowEnds (PassesAsItEnds s (Object n) (SetPrototypeOf p)) (walk_unless (Object n) p (prototype_answered t p) finished g)
prototype-ends s n t g p at = by (same_value p t.prototype) t.extensible refl refl
  where
    by : (a e : Bool) → same_value p t.prototype ≡ a → t.extensible ≡ e
        → RowEnds (PassesAsItEnds s (Object n) (SetPrototypeOf p)) (walk_unless (Object n) p (prototype_answered t p) finished g)
    by true e h i =
        rw h (at-same g n t at (λ (u : Thing). EntryPasses (SetPrototypeOf p) (Normal (Flag true)) (Shown g s u))
        (λ c. value-sound p t.prototype h))
    by false true h i =
        rw (h, i) (ends-also (Walked (Walk (Object n) p p) g) (PassesAsItEnds s (Object n) (SetPrototypeOf p)) (set_prototype-passes s n t g p at)
        (walk_row (Object n) p p finished g) (walk-ends (Object n) p p g))
    by false false h i = rw (h, i) (λ u there. tt)

pub complete-is : (f : Full Val) → Complete Undefined (descriptor_of f) ≡ f
complete-is (Datum v w e c) = refl
complete-is (Accessor f h e c) = refl

pub own-passes : (s : ℕ) (t : Thing) (g : Graph) (k : PropertyKey) (o : Option (Full Val)) → shown_property g s t k ≡ o
    → EntryPasses (GetOwnProperty k) (Normal (Prop o)) (Shown g s t)
own-passes s t g k None e = passes-by (deed.GetOwnProperty k None) (Shown g s t) (sym (seen-at g s t k ∙ e))
own-passes s t g k (Some f) e =
    passes-by (deed.GetOwnProperty k (Some (Complete Undefined (descriptor_of f)))) (Shown g s t)
    (ap Some (complete-is f) ∙ sym (seen-at g s t k ∙ e))

own-without : (t : Thing) (k : PropertyKey) → IsFormed t → own_property k (without_property k t) ≡ None
own-without t k formed =
    own-is k (without_property k t)
    ∙ ap (λ (view : View PropertyKey Val). property_of same_key view k) (without-is k t)
    ∙ lookup-remove same_key key-sound key-refl (as_view t).properties k k formed.distinct
    ∙ ap (λ (b : Bool). if b then None else property_of same_key (as_view t) k) (key-refl k)

delete-ends : (s n : ℕ) (t : Thing) (g : Graph) (k : PropertyKey) → slice_get g.objects n ≡ Some t → IsFormed t
    → RowEnds (PassesAsItEnds s (Object n) (Delete k)) (ordinary_delete (Object n) (deleted t k (shown_property g s t k)) finished g)
delete-ends s n t g k at formed = by (shown_property g s t k) refl
  where
    gone : PassesAsItEnds s (Object n) (Delete k) (Normal (Flag true)) (placed g n (without_property k t))
    gone =
        let h : Graph = placed g n (without_property k t) in
        at-same h n (without_property k t) (set-there g.objects n t (without_property k t) at)
        (λ (u : Thing). EntryPasses (Delete k) (Normal (Flag true)) (Shown h s u))
        (passes-by (deed.Delete k true) (Shown h s (without_property k t))
        (seen-at h s (without_property k t) k
        ∙ ap (shown_by (key_rule h s (without_property k t) k)) (own-without t k formed)
        ∙ shown-none (key_rule h s (without_property k t) k)))

    loose : (p : Full Val) → shown_property g s t k ≡ Some p → (b : Bool) → is_configurable p ≡ b
        → RowEnds (PassesAsItEnds s (Object n) (Delete k)) (ordinary_delete (Object n) (deleted t k (shown_property g s t k)) finished g)
    loose p e true c =
        rw (e, c) (at-altered g n t (λ _. without_property k t) at (λ (h : Graph). PassesAsItEnds s (Object n) (Delete k) (Normal (Flag true)) h) gone)
    loose p e false c = rw (e, c) (λ u there. tt)

    by : (o : Option (Full Val)) → shown_property g s t k ≡ o
        → RowEnds (PassesAsItEnds s (Object n) (Delete k)) (ordinary_delete (Object n) (deleted t k (shown_property g s t k)) finished g)
    by None e =
        rw e (at-same g n t at (λ (u : Thing). EntryPasses (Delete k) (Normal (Flag true)) (Shown g s u))
        (passes-by (deed.Delete k true) (Shown g s t) (seen-at g s t k ∙ e)))
    by (Some p) e = loose p e (is_configurable p) refl

-- where the policy leaves a definition free, no rule touches the key
free-rule : (g : Graph) (s : ℕ) (t : Thing) (k : PropertyKey) → Admits g s t (Define k) ≡ Free → key_rule g s t k ≡ None
free-rule g s t k h = by (is_read_only g s t) (key_rule g s t k) refl refl
  where
    by : (b : Bool) (r : Option RuleKind) → is_read_only g s t ≡ b → key_rule g s t k ≡ r → key_rule g s t k ≡ None
    by true r e f = absurd (let bad : Decided false ≡ Free = rw e at h in cc)
    by false None e f = f
    by false (Some r) e f = absurd (let bad : Decided false ≡ Free = rw (e, f) at h in cc)

define-ends : (s v n : ℕ) (t : Thing) (g : Graph) (k : PropertyKey) (d : Desc Val) → slice_get g.objects n ≡ Some t
    → key_rule g v t k ≡ None → (x : Defined) → IsThere k d x
    → ((u : Thing) (b : Bool) → x ≡ Becomes u b → Moves t u)
    → RowEnds (PassesAsItEnds v (Object n) (DefineOwnProperty k d)) (settled s (Object n) x finished g)
define-ends s v n t g k d at free Refused there moves = λ u is. tt
define-ends s v n t g k d at free (Faulty e) there moves = λ u is. tt
define-ends s v n t g k d at free (Becomes w false) there moves = λ u is. tt
define-ends s v n t g k d at free (Becomes w true) there moves =
    let h : Graph = placed g n w in
    let later = (moves w true refl).1 in
    let rule : key_rule h v w k ≡ None = sym (same-key-rule k v t w g.rules later.owner later.label) ∙ free in
    let seen : property_of same_key (Shown h v w) k ≡ Some there.0 =
    seen-at h v w k ∙ ap (λ (r : Option RuleKind). shown_by r (own_property k w)) rule ∙ there.1 in
    at-altered g n t (λ _. w) at (λ (x : Graph). PassesAsItEnds v (Object n) (DefineOwnProperty k d) (Normal (Flag true)) x)
    (at-same h n w (set-there g.objects n t w at)
    (λ (u : Thing). EntryPasses (DefineOwnProperty k d) (Normal (Flag true)) (Shown h v u))
    (passes-by (deed.DefineOwnProperty k d true) (Shown h v w) (there.0, seen, there.2)))

keys-ends : (s n : ℕ) (t : Thing) (g : Graph) → slice_get g.objects n ≡ Some t
    → RowEnds (PassesAsItEnds s (Object n) OwnPropertyKeys) (list_keys (shown_keys g s t) finished g)
keys-ends s n t g at =
    ends-pays (PassesAsItEnds s (Object n) OwnPropertyKeys) (shown_keys g s t) (λ _. give (Keys (shown_keys g s t)) finished) g
    (at-same g n t at (λ (u : Thing). EntryPasses OwnPropertyKeys (Normal (Keys (shown_keys g s t))) (Shown g s u))
    (passes-by (deed.OwnPropertyKeys (shown_keys g s t)) (Shown g s t)
    (λ k. any-lookup (same_key k) (Shown g s t).properties)))

ordinary-ends : (s v n : ℕ) (m : Method) (t : Thing) (g : Graph) → slice_get g.objects n ≡ Some t → IsFormed t → FitsMethod m
    → ruling g v t (change_of m) ≡ Free
    → RowEnds (PassesAtMoment v (Object n) m t g) (ordinary s v (Object n) t m finished g)
ordinary-ends s v n GetPrototypeOf t g at formed fit free =
    at-same g n t at (λ (u : Thing). EntryPasses GetPrototypeOf (Normal (Value t.prototype)) (Shown g v u)) (λ c. refl)
ordinary-ends s v n (SetPrototypeOf p) t g at formed fit free = prototype-ends v n t g p at
ordinary-ends s v n IsExtensible t g at formed fit free =
    at-same g n t at (λ (u : Thing). EntryPasses IsExtensible (Normal (Flag t.extensible)) (Shown g v u)) refl
ordinary-ends s v n PreventExtensions t g at formed fit free =
    at-altered g n t closed at (λ (h : Graph). PassesAsItEnds v (Object n) PreventExtensions (Normal (Flag true)) h)
    (at-same (placed g n (closed t)) n (closed t) (set-there g.objects n t (closed t) at)
    (λ (u : Thing). EntryPasses PreventExtensions (Normal (Flag true)) (Shown (placed g n (closed t)) v u)) refl)
ordinary-ends s v n (GetOwnProperty k) t g at formed fit free =
    at-same g n t at (λ (u : Thing). EntryPasses (GetOwnProperty k) (Normal (Prop (shown_property g v t k))) (Shown g v u))
    (own-passes v t g k (shown_property g v t k) refl)
ordinary-ends s v n (DefineOwnProperty k d) t g at formed fit free =
    define-ends s v n t g k d at (free-rule g v t k free) (defined t k d) (is-there t k d formed fit)
    (λ u b e. definitions-move t u k d b formed fit e)
ordinary-ends s v n (HasProperty k) t g at formed fit free = has-ends s v g t k
ordinary-ends s v n (Get k r) t g at formed fit free = get-ends s v g t k r
ordinary-ends s v n (Set k x r) t g at formed fit free = set-ends s v g t k x r
ordinary-ends s v n (Delete k) t g at formed fit free = delete-ends v n t g k at formed
ordinary-ends s v n OwnPropertyKeys t g at formed fit free = keys-ends v n t g at
ordinary-ends s v n (Call this vs) t g at formed fit free =
    ends-any (PassesAtMoment v (Object n) (Call this vs) t g) (λ q after u is. call-passes (said_outcome q) (Shown after v u))
    (ordinary s v (Object n) t (Call this vs) finished g)
ordinary-ends s v n (Construct vs target) t g at formed fit free =
    ends-any (PassesAtMoment v (Object n) (Construct vs target) t g) (λ q after u is. construct-passes (said_outcome q) (Shown after v u))
    (ordinary s v (Object n) t (Construct vs target) finished g)

-- ---- what the policy decides

decided-is : (x b : Bool) (So : Bool → Type 0) → Decided x ≡ Decided b → So x → So b
decided-is x b So e h = let same : x ≡ b = cc in subst So same h

decided-passes : (s n : ℕ) (m : Method) (t : Thing) (g : Graph) (b : Bool) → slice_get g.objects n ≡ Some t
    → ruling g s t (change_of m) ≡ Decided b → PassesAtMoment s (Object n) m t g (Normal (Flag b)) g
decided-passes s n GetPrototypeOf t g b at e = absurd (let bad : Free ≡ Decided b = e in cc)
decided-passes s n (SetPrototypeOf p) t g b at e = by (is_read_only g s t) (same_value p t.prototype) refl refl
  where
    by : (r x : Bool) → is_read_only g s t ≡ r → same_value p t.prototype ≡ x → PassesAsItEnds s (Object n) (SetPrototypeOf p) (Normal (Flag b)) g
    by false x h i = absurd (let bad : Free ≡ Decided b = rw h at e in cc)
    by true true h i =
        decided-is true b (λ (c : Bool). PassesAsItEnds s (Object n) (SetPrototypeOf p) (Normal (Flag c)) g) (rw (h, i) at e)
        (at-same g n t at (λ (u : Thing). EntryPasses (SetPrototypeOf p) (Normal (Flag true)) (Shown g s u)) (λ c. value-sound p t.prototype i))
    by true false h i =
        decided-is false b (λ (c : Bool). PassesAsItEnds s (Object n) (SetPrototypeOf p) (Normal (Flag c)) g) (rw (h, i) at e) (λ u is. tt)
decided-passes s n IsExtensible t g b at e = absurd (let bad : Free ≡ Decided b = e in cc)
decided-passes s n PreventExtensions t g b at e = by (is_read_only g s t) t.extensible refl refl
  where
    by : (r x : Bool) → is_read_only g s t ≡ r → t.extensible ≡ x → PassesAsItEnds s (Object n) PreventExtensions (Normal (Flag b)) g
    by false x h i = absurd (let bad : Free ≡ Decided b = rw h at e in cc)
    by true false h i =
        decided-is true b (λ (c : Bool). PassesAsItEnds s (Object n) PreventExtensions (Normal (Flag c)) g) (rw (h, i) at e)
        (at-same g n t at (λ (u : Thing). EntryPasses PreventExtensions (Normal (Flag true)) (Shown g s u)) i)
    by true true h i =
        decided-is false b (λ (c : Bool). PassesAsItEnds s (Object n) PreventExtensions (Normal (Flag c)) g) (rw (h, i) at e) (λ u is. tt)
decided-passes s n (GetOwnProperty k) t g b at e = absurd (let bad : Free ≡ Decided b = e in cc)
decided-passes s n (DefineOwnProperty k d) t g b at e = by (is_read_only g s t) (key_rule g s t k) refl refl
  where
    by : (r : Bool) (x : Option RuleKind) → is_read_only g s t ≡ r → key_rule g s t k ≡ x
        → PassesAsItEnds s (Object n) (DefineOwnProperty k d) (Normal (Flag b)) g
    by false None h i = absurd (let bad : Free ≡ Decided b = rw (h, i) at e in cc)
    by false (Some x) h i =
        decided-is false b (λ (c : Bool). PassesAsItEnds s (Object n) (DefineOwnProperty k d) (Normal (Flag c)) g) (rw (h, i) at e) (λ u is. tt)
    by true x h i =
        decided-is false b (λ (c : Bool). PassesAsItEnds s (Object n) (DefineOwnProperty k d) (Normal (Flag c)) g) (rw h at e) (λ u is. tt)
decided-passes s n (HasProperty k) t g b at e = absurd (let bad : Free ≡ Decided b = e in cc)
decided-passes s n (Get k r) t g b at e = absurd (let bad : Free ≡ Decided b = e in cc)
decided-passes s n (Set k x r) t g b at e = by (is_read_only g s t) refl
  where
    by : (c : Bool) → is_read_only g s t ≡ c → EntryPasses (Set k x r) (Normal (Flag b)) (Shown g s t)
    by false h = absurd (let bad : Free ≡ Decided b = rw h at e in cc)
    by true h = decided-is false b (λ (c : Bool). EntryPasses (Set k x r) (Normal (Flag c)) (Shown g s t)) (rw h at e) tt
decided-passes s n (Delete k) t g b at e = by (is_read_only g s t) (key_rule g s t k) (shown_property g s t k) refl refl refl
  where
    so : (o : Option (Full Val)) → shown_property g s t k ≡ o → PassesAsItEnds s (Object n) (Delete k) (Normal (Flag (is_none o))) g
    so None i =
        at-same g n t at (λ (u : Thing). EntryPasses (Delete k) (Normal (Flag true)) (Shown g s u))
        (passes-by (deed.Delete k true) (Shown g s t) (seen-at g s t k ∙ i))
    so (Some p) i = λ u is. tt

    by : (r : Bool) (x : Option RuleKind) (o : Option (Full Val)) → is_read_only g s t ≡ r → key_rule g s t k ≡ x
        → shown_property g s t k ≡ o → PassesAsItEnds s (Object n) (Delete k) (Normal (Flag b)) g
    by false None o h i j = absurd (let bad : Free ≡ Decided b = rw (h, i) at e in cc)
    by false (Some x) o h i j =
        let f : (if is_none (Some x) then Free else Decided (is_none (shown_property g s t k))) ≡ Decided b =
        ap (λ (r : Option RuleKind). if is_none r then Free else Decided (is_none (shown_property g s t k))) (sym i) ∙ (rw h at e) in
        decided-is (is_none (shown_property g s t k)) b (λ (c : Bool). PassesAsItEnds s (Object n) (Delete k) (Normal (Flag c)) g) f
        (so (shown_property g s t k) refl)
    by true x o h i j =
        decided-is (is_none (shown_property g s t k)) b (λ (c : Bool). PassesAsItEnds s (Object n) (Delete k) (Normal (Flag c)) g) (rw h at e)
        (so (shown_property g s t k) refl)
decided-passes s n OwnPropertyKeys t g b at e = absurd (let bad : Free ≡ Decided b = e in cc)
decided-passes s n (Call this vs) t g b at e = absurd (let bad : Free ≡ Decided b = e in cc)
decided-passes s n (Construct vs target) t g b at e = absurd (let bad : Free ≡ Decided b = e in cc)

-- ---- the row of a method

ruled-ends : (s v n : ℕ) (m : Method) (t : Thing) (g : Graph) (r : Ruling) → slice_get g.objects n ≡ Some t → IsFormed t
    → FitsMethod m → ruling g v t (change_of m) ≡ r
    → RowEnds (PassesAtMoment v (Object n) m t g) (ruled s v (Object n) t m r finished g)
ruled-ends s v n m t g Free at formed fit e = ordinary-ends s v n m t g at formed fit e
ruled-ends s v n m t g (Decided b) at formed fit e = decided-passes v n m t g b at e

kind-ends : (s v n : ℕ) (m : Method) (t : Thing) (g : Graph) (kind : Kind) → is_proxy_kind kind ≡ false
    → slice_get g.objects n ≡ Some t → IsFormed t → FitsMethod m
    → RowEnds (PassesAtMoment v (Object n) m t g) (perform_kind s v (Object n) t m kind finished g)
kind-ends s v n m t g (Proxy target handler shape) ordinary at formed fit = absurd (let bad : true ≡ false = ordinary in cc)
kind-ends s v n m t g (Gone shape) ordinary at formed fit = absurd (let bad : true ≡ false = ordinary in cc)
kind-ends s v n m t g _ ordinary at formed fit = ruled-ends s v n m t g (ruling g v t (change_of m)) at formed fit refl

unless-ends : (s v n : ℕ) (m : Method) (t : Thing) (g : Graph) (b : Bool) → is_proxy_kind t.kind ≡ false
    → slice_get g.objects n ≡ Some t → IsFormed t → FitsMethod m
    → RowEnds (PassesAtMoment v (Object n) m t g)
    ((unless_type_error s b >>= (λ _. perform_kind s v (Object n) t m t.kind)) finished g)
unless-ends s v n m t g true ordinary at formed fit = kind-ends s v n m t g t.kind ordinary at formed fit
unless-ends s v n m t g false ordinary at formed fit = throw-passes v (Object n) m t g (Object (length g.objects)) _

perform-ends : (s v n : ℕ) (m : Method) (t : Thing) (g : Graph) → is_proxy_kind t.kind ≡ false
    → slice_get g.objects n ≡ Some t → IsFormed t → FitsMethod m
    → RowEnds (PassesAtMoment v (Object n) m t g) (perform_row s v (Object n) m finished g)
perform-ends s v n m t g ordinary at formed fit =
    subst (λ (x : Option Thing). RowEnds (PassesAtMoment v (Object n) m t g) (perform_thing s v (Object n) m x finished g)) (sym at)
    (unless-ends s v n m t g (not (is_cut g v t)) ordinary at formed fit)

-- an entry more changes no object and no rule
noted-same : (s v n : ℕ) (m : Method) (t : Thing) (g : Graph) (began : ℕ) (q : Outcome) (h : Graph)
    → PassesAtMoment v (Object n) m t g q h → PassesAtMoment v (Object n) m t g q (method_noted began s (Object n) m q h)
noted-same s v n GetPrototypeOf t g began q h p = p
noted-same s v n (SetPrototypeOf x) t g began q h p = p
noted-same s v n IsExtensible t g began q h p = p
noted-same s v n PreventExtensions t g began q h p = p
noted-same s v n (GetOwnProperty k) t g began q h p = p
noted-same s v n (DefineOwnProperty k d) t g began q h p = p
noted-same s v n (HasProperty k) t g began q h p = p
noted-same s v n (Get k r) t g began q h p = p
noted-same s v n (Set k x r) t g began q h p = p
noted-same s v n (Delete k) t g began q h p = p
noted-same s v n OwnPropertyKeys t g began q h p = p
noted-same s v n (Call this vs) t g began q h p = p
noted-same s v n (Construct vs target) t g began q h p = p

pub end-passes : (v : ℕ) (o : Val) (m : Method) (t : Thing) (g : Graph) (x : Ends) → TaskEnds (PassesAtMoment v o m t g) x
    → EndPasses v o m t g x
end-passes v o m t g (Gives q after f) h = h
end-passes v o m t g (Spent after f) h = tt

-- of an object of the graph
pub object-entries-pass : (s v n : ℕ) (m : Method) (enters : Bool) (t : Thing) (g : Graph) (f : ℕ) → slice_get g.objects n ≡ Some t
    → is_proxy_kind t.kind ≡ false → FitsMethod m → AreFormed g
    → EndPasses v (Object n) m t g (Means (Perform s m (Object n) v enters) g f)
object-entries-pass s v n m enters t g f at ordinary fit formed =
    let o : Val = Object n in
    end-passes v o m t g (Means (Perform s m o v enters) g f)
    (means-ends (PassesAtMoment v o m t g) (Perform s m o v enters) g f
    (ends-entering (PassesAtMoment v o m t g) (makes_entry enters s o g) (method_noted (entries_made g) s o m)
    (noted-same s v n m t g (entries_made g)) (perform_row s v o m finished g)
    (perform-ends s v n m t g ordinary at (formed n t at) fit)))
