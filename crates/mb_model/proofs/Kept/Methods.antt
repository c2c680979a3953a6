use Rattle.std.proofs.Common.{◌≡◌, ℕ, Bool, true, false, not, Option, Some, None, refl, sym, ap, ◌∙◌, if◌then◌else◌}
use Rattle.std.proofs.lemmas.Option.{same_Some}
use Rattle.mb_world.specs.Value.{Val, is_nullish, same_value}
use Rattle.mb_world.specs.Graph.{Graph, Thing, Kind, Proxy, Gone}
use Rattle.mb_world.specs.Objects.{thing_at}
use Rattle.mb_world.specs.Ordinary.{closed, with_prototype, prototype_answered, looked, written, Deleted, Leaves, Without, deleted}
use Rattle.mb_world.specs.Arrays.{defined}
use Rattle.mb_world.specs.View.{shown_property, shown_keys, Ruling, Free, Decided, is_cut, owner_or}
use Rattle.mb_model.specs.Task.{Walk, Perform, Value, Prop, Method, GetPrototypeOf, SetPrototypeOf, IsExtensible, PreventExtensions, GetOwnProperty, DefineOwnProperty, HasProperty, Get, Set, Delete, OwnPropertyKeys, Call, Construct}
use Rattle.mb_model.specs.Fitting.{FitsMethod, Fits}
use Rattle.mb_model.specs.Writing.{Does, yes_or_no, again, answer}
use Rattle.mb_model.specs.Operations.Calls.{get}
use Rattle.mb_model.specs.Operations.Makings.{alter}
use Rattle.mb_model.specs.Objects.Methods.{walk_ends, prototype_set, walk_from, walk_at, walk_row, walk_unless, ordinary_set_prototype, ordinary_delete, ordinary, change_of, ruling, ruled, method}
use Rattle.mb_model.specs.Objects.Proxies.{trap_callable, trap_got, proxy_method}
use Rattle.mb_world.specs.Key.{Named}
use Rattle.mb_world.specs.EntryLine.{op_name}
use Rattle.mb_model.specs.Trace.Ops.{op_of}
use Rattle.mb_model.specs.Meaning.{perform_kind, perform_thing, perform_row}
use Rattle.mb_model.proofs.Kept.Changes.{Change, Definition, Deletion, NewPrototype, Closing}
use Rattle.mb_model.proofs.Kept.Words.{Kept, At, Goes, at-then, at-alter, at-again, at-unless, keeps->>=, keeps-if, keeps-give, keeps-yes_or_no, keeps-answer, keeps-type_error}
use Rattle.mb_model.proofs.Kept.Defined.{at-alter_there, at-settled}
use Rattle.mb_model.proofs.Kept.OperationsCalls.{keeps-get}
use Rattle.mb_model.proofs.Kept.ObjectsMethods.{keeps-ordinary_has, keeps-ordinary_get, keeps-ordinary_set, keeps-call_kind, keeps-construct_kind, keeps-list_keys}
use Rattle.mb_model.proofs.Kept.ObjectsProxies.{keeps-trap_callable}

-- the internal methods, each from the graph in which its object was read

-- ---- the walk of setPrototypeOf: the object is extensible as it begins, and no script runs before it ends

at-prototype_set : (kept : Kept) (g : Graph) (o p x : Val) → (kept.cares → Fits (Walk o p x) g) → At kept g (prototype_set o p)
at-prototype_set kept g o p x fit =
    at-then kept g (alter o (with_prototype p)) (λ _. yes_or_no true)
    (at-alter kept g o (with_prototype p) (λ t at. NewPrototype p (λ c. fit c t at) refl))
    (λ _ g' q. (keeps-yes_or_no kept true).goes g')

at-if : {A : Type 0} (kept : Kept) (g : Graph) (b : Bool) (m m' : Does A) → At kept g m → At kept g m' →
    At kept g (if b then m else m')
at-if kept g true m m' p p' = p
at-if kept g false m m' p p' = p'

at-walk_from : (kept : Kept) (g : Graph) (o p x : Val) (t : Thing) (last : Bool) → (kept.cares → Fits (Walk o p x) g) →
    At kept g (walk_from o p x t last)
at-walk_from kept g o p x t last fit =
    at-if kept g (same_value x o) (yes_or_no false) (if last then prototype_set o p else again (Walk o p t.prototype))
    ((keeps-yes_or_no kept false).goes g)
    (at-if kept g last (prototype_set o p) (again (Walk o p t.prototype)) (at-prototype_set kept g o p x fit)
    (at-again kept g (Walk o p t.prototype) (fit, λ _. tt)))

at-walk_at : (kept : Kept) (g : Graph) (o p x : Val) (there : Option Thing) → (kept.cares → Fits (Walk o p x) g) →
    At kept g (walk_at o p x there)
at-walk_at kept g o p x None fit = at-prototype_set kept g o p x fit
at-walk_at kept g o p x (Some t) fit =
    λ k b a h. (a, at-walk_from kept g o p x t (walk_ends g o t) fit k b a h)

pub at-walk_row : (kept : Kept) (g : Graph) (o p x : Val) → (kept.cares → Fits (Walk o p x) g) → At kept g (walk_row o p x)
at-walk_row kept g o p x fit = at-walk_at kept g o p x (thing_at g x) fit

at-walk_unless : (kept : Kept) (g : Graph) (o p : Val) (b : Option Bool) → (b ≡ None → kept.cares → Fits (Walk o p p) g) →
    At kept g (walk_unless o p b)
at-walk_unless kept g o p (Some b) fit = (keeps-yes_or_no kept b).goes g
at-walk_unless kept g o p None fit = at-walk_row kept g o p p (fit refl)

not-answered : (same extensible : Bool) → (if same then Some true else if extensible then None else Some false) ≡ None →
    extensible ≡ true
not-answered true extensible h = absurd (let bad : Some true ≡ None = h in cc)
not-answered false true h = refl
not-answered false false h = absurd (let bad : Some false ≡ None = h in cc)

at-set_prototype : (kept : Kept) (g : Graph) (o : Val) (t : Thing) (p : Val) → thing_at g o ≡ Some t →
    At kept g (ordinary_set_prototype o t p)
at-set_prototype kept g o t p at =
    at-walk_unless kept g o p (prototype_answered t p)
    (λ e c u there.
    let same : t ≡ u = same_Some t u (sym at ∙ there) in
    ap (λ x. x.extensible) (sym same) ∙ not-answered (same_value p t.prototype) t.extensible e)

-- ---- one method

at-delete : (kept : Kept) (g : Graph) (o : Val) (t : Thing) (x : Deleted) → thing_at g o ≡ Some t →
    ((u : Thing) → x ≡ Without u → Change kept.cares g t u) → At kept g (ordinary_delete o x)
at-delete kept g o t (Leaves b) at by = (keeps-yes_or_no kept b).goes g
at-delete kept g o t (Without u) at by =
    at-then kept g (alter o (λ _. u)) (λ _. yes_or_no true) (at-alter_there kept g o (λ _. u) t at (by u refl))
    (λ _ g' q. (keeps-yes_or_no kept true).goes g')

at-ordinary : (kept : Kept) (g : Graph) (s v : ℕ) (o : Val) (t : Thing) (m : Method) → thing_at g o ≡ Some t →
    (kept.cares → FitsMethod m) → ruling g v t (change_of m) ≡ Free → At kept g (ordinary s v o t m)
at-ordinary kept g s v o t GetPrototypeOf at fit free = (keeps-give kept (Value t.prototype)).goes g
at-ordinary kept g s v o t (SetPrototypeOf p) at fit free = at-set_prototype kept g o t p at
at-ordinary kept g s v o t IsExtensible at fit free = (keeps-yes_or_no kept t.extensible).goes g
at-ordinary kept g s v o t PreventExtensions at fit free =
    at-then kept g (alter o closed) (λ _. yes_or_no true) (at-alter kept g o closed (λ u there. Closing refl))
    (λ _ g' q. (keeps-yes_or_no kept true).goes g')
at-ordinary kept g s v o t (GetOwnProperty k) at fit free = (keeps-give kept (Prop (shown_property g v t k))).goes g
at-ordinary kept g s v o t (DefineOwnProperty k d) at fit free =
    at-settled kept g s o (defined t k d) t at (λ u b e. Definition k d b fit e)
at-ordinary kept g s v o t (HasProperty k) at fit free =
    (keeps-ordinary_has kept s k (looked t.prototype (shown_property g v t k))).goes g
at-ordinary kept g s v o t (Get k r) at fit free =
    (keeps-ordinary_get kept s k r (looked t.prototype (shown_property g v t k))).goes g
at-ordinary kept g s v o t (Set k x r) at fit free =
    (keeps-ordinary_set kept s k x r (written t.prototype (shown_property g v t k))).goes g
at-ordinary kept g s v o t (Delete k) at fit free =
    at-delete kept g o t (deleted t k (shown_property g v t k)) at (λ u e. Deletion v k free e)
at-ordinary kept g s v o t OwnPropertyKeys at fit free = (keeps-list_keys kept (shown_keys g v t)).goes g
at-ordinary kept g s v o t (Call this vs) at fit free = (keeps-call_kind kept s o this vs t.kind).goes g
at-ordinary kept g s v o t (Construct vs target) at fit free =
    (keeps-construct_kind kept s o t vs target t.kind).goes g

at-ruled : (kept : Kept) (g : Graph) (s v : ℕ) (o : Val) (t : Thing) (m : Method) (r : Ruling) →
    thing_at g o ≡ Some t → (kept.cares → FitsMethod m) → ruling g v t (change_of m) ≡ r → At kept g (ruled s v o t m r)
at-ruled kept g s v o t m Free at fit e = at-ordinary kept g s v o t m at fit e
at-ruled kept g s v o t m (Decided b) at fit e = (keeps-yes_or_no kept b).goes g

at-method : (kept : Kept) (g : Graph) (s v : ℕ) (o : Val) (t : Thing) (m : Method) → thing_at g o ≡ Some t →
    (kept.cares → FitsMethod m) → At kept g (method s v o t m)
at-method kept g s v o t m at fit = at-ruled kept g s v o t m (ruling g v t (change_of m)) at fit refl

-- ---- script-made Proxies, and the row of a method

keeps-trap_got : (kept : Kept) (s p : ℕ) (t h : Val) (m : Method) (trap : Val) → (kept.cares → FitsMethod m) →
    Goes kept (trap_got s p t h m trap)
keeps-trap_got kept s p t h m trap fit =
    keeps-if kept (is_nullish trap) (answer (Perform s m t p false)) (trap_callable p t h trap m)
    (keeps-answer kept (Perform s m t p false) (λ _. (fit, λ _ e. absurd (let bad : false ≡ true = e in cc))))
    (keeps-trap_callable kept p t h trap m)

keeps-proxy_method : (kept : Kept) (s p : ℕ) (t h : Val) (m : Method) → (kept.cares → FitsMethod m) →
    Goes kept (proxy_method s p t h m)
keeps-proxy_method kept s p t h m fit =
    keeps->>= kept (get p h (Named (op_name (op_of m)))) (λ trap. trap_got s p t h m trap)
    (keeps-get kept p h (Named (op_name (op_of m)))) (λ trap. keeps-trap_got kept s p t h m trap fit)

at-perform_kind : (kept : Kept) (g : Graph) (s v : ℕ) (o : Val) (t : Thing) (m : Method) (kind : Kind) →
    thing_at g o ≡ Some t → (kept.cares → FitsMethod m) → At kept g (perform_kind s v o t m kind)
at-perform_kind kept g s v o t m (Proxy target handler shape) at fit =
    (keeps-proxy_method kept s (owner_or s t.owner) target handler m fit).goes g
at-perform_kind kept g s v o t m (Gone shape) at fit = (keeps-type_error kept (owner_or s t.owner)).goes g
at-perform_kind kept g s v o t m _ at fit = at-method kept g s v o t m at fit

at-perform_thing : (kept : Kept) (g : Graph) (s v : ℕ) (o : Val) (m : Method) (x : Option Thing) →
    thing_at g o ≡ x → (kept.cares → FitsMethod m) → At kept g (perform_thing s v o m x)
at-perform_thing kept g s v o m None at fit = (keeps-type_error kept s).goes g
at-perform_thing kept g s v o m (Some t) at fit =
    at-unless kept g s (not (is_cut g v t)) (perform_kind s v o t m t.kind)
    (at-perform_kind kept g s v o t m t.kind at fit)

pub at-perform_row : (kept : Kept) (g : Graph) (s v : ℕ) (o : Val) (m : Method) → (kept.cares → FitsMethod m) →
    At kept g (perform_row s v o m)
at-perform_row kept g s v o m fit = at-perform_thing kept g s v o m (thing_at g o) refl fit
