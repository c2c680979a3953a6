-- A Proxy's target is there and is no Proxy, along the meaning and along runs.
use Rattle.std.proofs.Common.{◌≡◌, ◌⊎◌, ℕ, zero, suc, Bool, true, false, not, List, [], ◌∷◌, ◌++◌, Option, None, Some, slice_get, slice_set, refl, sym, ap, ◌∙◌, subst, inl, inr}
use Rattle.mb_world.specs.declared.cell.Shape.{Shape}
use Rattle.mb_world.specs.Value.{Val, Undefined, Null, Truth, Whole, Text, Symbol, Object, BuiltIn}
use Rattle.mb_world.specs.Graph.{Graph, Thing, Kind, Plain, Array, Function, Standard, Fault, Proxy, Gone, Revoker, Collection, Job, Script, Call as CallJob}
use Rattle.mb_world.specs.Objects.{thing_at, thing_is, with_thing, is_proxy_kind}
use Rattle.mb_model.specs.Engine.{Gives, Spent, state_of}
use Rattle.mb_model.specs.Meaning.{Ends, Means}
use Rattle.mb_model.specs.Writing.{with_object}
use Rattle.mb_model.specs.Story.{desk, job_ends, first_graph}
use Rattle.mb_model.proofs.Kept.Changes.{has_target, is_other, IsNew, NewArray, NewOther, IsMade, Apart, ProxyOf, Change, ProxyStays, proxy-stays}
use Rattle.mb_model.proofs.Kept.Words.{Kept}
use Rattle.mb_model.proofs.Kept.Rows.{IsPlain, EndHolds, given-holds, means-holds}
use Rattle.mb_model.proofs.Kept.Given.{means-goes}
use Rattle.mb_growth.specs.Targets.{HasTargets, KeepTargets, TasksKeepTargets, FirstHasTargets, TurnsKeepTargets, LettersKeepTargets, RunsHaveTargets}
use Rattle.mb_growth.proofs.Graphs.{append-get}
use Rattle.mb_growth.proofs.Throughout.{Lasting, turn-good, letter-good, run-good}

-- ---- one object

pub stay-refl : (t : Thing) → ProxyStays t t
stay-refl t = (refl, λ h. refl)

pub stay-trans : (t u v : Thing) → ProxyStays t u → ProxyStays u v → ProxyStays t v
stay-trans t u v p q = (
  p.0 ∙ q.0,
  λ h. let same : u.kind ≡ v.kind = q.1 h in p.1 (ap has_target same ∙ h) ∙ same,
)

-- each object stays a Proxy or none, and gets no other target
abbrev pub Stay : Graph → Graph → Type 0
Stay g h = (n : ℕ) (t : Thing) → slice_get g.objects n ≡ Some t
    → (u : Thing) × (slice_get h.objects n ≡ Some u) × ProxyStays t u

pub stays-same : (g : Graph) → Stay g g
stays-same g n t at = (t, at, stay-refl t)

pub stays-on : (f g h : Graph) → Stay f g → Stay g h → Stay f h
stays-on f g h p q n t at =
    let k = p n t at in
    let l = q n k.0 k.1 in
    (l.0, l.1, stay-trans t k.0 l.0 k.2 l.2)

-- what a value names stays so
pub thing-stays : (g h : Graph) → Stay g h → (v : Val) (t : Thing) → thing_at g v ≡ Some t
    → (u : Thing) × (thing_at h v ≡ Some u) × ProxyStays t u
thing-stays g h p (Object n) t at = p n t at
thing-stays g h p (BuiltIn n) t at = (t, at, stay-refl t)
thing-stays g h p Undefined t at = absurd (let bad : None ≡ Some t = at in cc)
thing-stays g h p Null t at = absurd (let bad : None ≡ Some t = at in cc)
thing-stays g h p (Truth b) t at = absurd (let bad : None ≡ Some t = at in cc)
thing-stays g h p (Whole z) t at = absurd (let bad : None ≡ Some t = at in cc)
thing-stays g h p (Text x) t at = absurd (let bad : None ≡ Some t = at in cc)
thing-stays g h p (Symbol x) t at = absurd (let bad : None ≡ Some t = at in cc)

-- ---- graphs

-- a target that may be one is there and is no Proxy
able-there : (x : Option Thing) → thing_is (λ kind. not (is_proxy_kind kind)) x ≡ true
    → (u : Thing) × (x ≡ Some u) × (is_proxy_kind u.kind ≡ false)
able-there None h = absurd (let bad : false ≡ true = h in cc)
able-there (Some u) h = (u, refl, by (is_proxy_kind u.kind) h)
  where
    by : (b : Bool) → not b ≡ true → b ≡ false
    by true i = absurd (let bad : false ≡ true = i in cc)
    by false i = refl

-- a target that is there and is no Proxy
abbrev IsAimed : Graph → Val → Type 0
IsAimed g target = (u : Thing) × (thing_at g target ≡ Some u) × (is_proxy_kind u.kind ≡ false)

aimed-on : (g h : Graph) (target : Val) → Stay g h → IsAimed g target → IsAimed h target
aimed-on g h target p a =
    let k = thing-stays g h p target a.0 a.1 in
    (k.0, k.1, sym k.2.0 ∙ a.2)

-- a Proxy of the one graph was a Proxy of the other, or its target is such
abbrev FromBefore : Graph → Graph → Type 0
FromBefore g h = (n : ℕ) (u : Thing) (target handler : Val) (shape : Shape) → slice_get h.objects n ≡ Some u
    → u.kind ≡ Proxy target handler shape
    → ((t : Thing) × (slice_get g.objects n ≡ Some t) × (t.kind ≡ u.kind)) ⊎ IsAimed g target

targets-on : (g h : Graph) → HasTargets g → Stay g h → FromBefore g h → HasTargets h
targets-on g h has p before n u target handler shape at kind =
    by (before n u target handler shape at kind)
  where
    by : ((t : Thing) × (slice_get g.objects n ≡ Some t) × (t.kind ≡ u.kind)) ⊎ IsAimed g target → IsAimed h target
    by (inl k) = aimed-on g h target p (has n k.0 target handler shape k.1 (k.2 ∙ kind))
    by (inr a) = aimed-on g h target p a

-- one object in its place
set-stays : (ts : List Thing) (n : ℕ) (t u : Thing) → slice_get ts n ≡ Some t → ProxyStays t u → (m : ℕ) (v : Thing)
    → slice_get ts m ≡ Some v → (w : Thing) × (slice_get (slice_set ts n u) m ≡ Some w) × ProxyStays v w
set-stays [] n t u at h m v got = absurd (let bad : None ≡ Some v = got in cc)
set-stays (x ∷ ts) zero t u at h zero v got =
    let e : x ≡ t = cc in
    let f : x ≡ v = cc in
    (u, refl, subst (λ (z : Thing). ProxyStays z u) (sym e ∙ f) h)
set-stays (x ∷ ts) zero t u at h (suc m) v got = (v, got, stay-refl v)
set-stays (x ∷ ts) (suc n) t u at h zero v got = (v, got, stay-refl v)
set-stays (x ∷ ts) (suc n) t u at h (suc m) v got = set-stays ts n t u at h m v got

set-before : (ts : List Thing) (n : ℕ) (t u : Thing) → slice_get ts n ≡ Some t → ProxyStays t u → (m : ℕ) (w : Thing)
    → slice_get (slice_set ts n u) m ≡ Some w → has_target w.kind ≡ true
    → (v : Thing) × (slice_get ts m ≡ Some v) × (v.kind ≡ w.kind)
set-before [] n t u at h m w got has = absurd (let bad : None ≡ Some w = got in cc)
set-before (x ∷ ts) zero t u at h zero w got has =
    let e : x ≡ t = cc in
    let f : u ≡ w = cc in
    (x, refl, ap (λ (z : Thing). z.kind) e ∙ h.1 (ap (λ (z : Thing). has_target z.kind) f ∙ has) ∙ ap (λ (z : Thing). z.kind) f)
set-before (x ∷ ts) zero t u at h (suc m) w got has = (w, got, refl)
set-before (x ∷ ts) (suc n) t u at h zero w got has = (w, got, refl)
set-before (x ∷ ts) (suc n) t u at h (suc m) w got has = set-before ts n t u at h m w got has

-- where the targets are kept, and each object stays so
abbrev pub Aims : Graph → Graph → Type 0
Aims f g = HasTargets g × Stay f g

aims-on : (f g h : Graph) → Aims f g → Aims g h → Aims f h
aims-on f g h p q = (q.0, stays-on f g h p.1 q.1)

placed-aims : (g : Graph) (n : ℕ) (t u : Thing) → slice_get g.objects n ≡ Some t → ProxyStays t u → HasTargets g
    → Aims g (with_thing (Object n) u g)
placed-aims g n t u at stays has =
    let h : Graph = with_thing (Object n) u g in
    let stay : Stay g h = set-stays g.objects n t u at stays in (
      targets-on g h has stay
          (λ m w target handler shape got kind. inl (set-before g.objects n t u at stays m w got (ap has_target kind))),
      stay,
    )

pub moved-aims : (cares : Type 0) (g : Graph) (o : Val) (t u : Thing) → thing_at g o ≡ Some t → Change cares g t u
    → HasTargets g → Aims g (with_thing o u g)
moved-aims cares g (Object n) t u at by has = placed-aims g n t u at (proxy-stays cares g t u by) has
moved-aims cares g (BuiltIn p) t u at by has = (has, stays-same g)
moved-aims cares g Undefined t u at by has = (has, stays-same g)
moved-aims cares g Null t u at by has = (has, stays-same g)
moved-aims cares g (Truth b) t u at by has = (has, stays-same g)
moved-aims cares g (Whole z) t u at by has = (has, stays-same g)
moved-aims cares g (Text x) t u at by has = (has, stays-same g)
moved-aims cares g (Symbol x) t u at by has = (has, stays-same g)

-- a new object
append-before : (ts : List Thing) (t : Thing) (m : ℕ) (w : Thing) → slice_get (ts ++ (t ∷ [])) m ≡ Some w
    → (slice_get ts m ≡ Some w) ⊎ (t ≡ w)
append-before [] t zero w got = inr (let e : t ≡ w = cc in e)
append-before [] t (suc m) w got = absurd (let bad : None ≡ Some w = got in cc)
append-before (x ∷ ts) t zero w got = inl got
append-before (x ∷ ts) t (suc m) w got = append-before ts t m w got

other-aimless : (k : Kind) → is_other k ≡ true → has_target k ≡ false
other-aimless Plain h = refl
other-aimless Array h = refl
other-aimless (Function c) h = refl
other-aimless (Standard p) h = refl
other-aimless (Fault e) h = refl
other-aimless (Proxy target handler shape) h = sym h
other-aimless (Gone s) h = refl
other-aimless (Revoker p) h = refl
other-aimless (Collection c s) h = refl

new-aimless : (t : Thing) → IsNew t → has_target t.kind ≡ false
new-aimless t (NewArray s p n vs e) = ap (λ (x : Thing). has_target x.kind) (sym e)
new-aimless t (NewOther other puts) = other-aimless t.kind other

aimless : (g : Graph) (k : Kind) (target handler : Val) (shape : Shape) → has_target k ≡ false
    → k ≡ Proxy target handler shape → IsAimed g target
aimless g k target handler shape none kind =
    absurd (let bad : false ≡ true = sym none ∙ ap has_target kind in cc)

made-aimed : (g : Graph) (t : Thing) → IsMade g t → (target handler : Val) (shape : Shape)
    → t.kind ≡ Proxy target handler shape → IsAimed g target
made-aimed g t (Apart new) target handler shape kind = aimless g t.kind target handler shape (new-aimless t new) kind
made-aimed g t (ProxyOf s own by form able e) target handler shape kind =
    let same : Proxy own by form ≡ Proxy target handler shape = ap (λ (x : Thing). x.kind) e ∙ kind in
    let to : own ≡ target = cc in
    subst (IsAimed g) to (able-there (thing_at g own) able)

pub made-aims : (g : Graph) (t : Thing) → IsMade g t → HasTargets g → Aims g (with_object t g)
made-aims g t made has =
    let h : Graph = with_object t g in
    let stay : Stay g h = λ n v at. (v, append-get g.objects t n v at, stay-refl v) in
    (targets-on g h has stay (λ m w target handler shape got kind. by m w target handler shape kind (append-before g.objects t m w got)), stay)
  where
    by : (m : ℕ) (w : Thing) (target handler : Val) (shape : Shape) → w.kind ≡ Proxy target handler shape
        → (slice_get g.objects m ≡ Some w) ⊎ (t ≡ w)
        → ((v : Thing) × (slice_get g.objects m ≡ Some v) × (v.kind ≡ w.kind)) ⊎ IsAimed g target
    by m w target handler shape kind (inl at) = inl (w, at, refl)
    by m w target handler shape kind (inr e) =
        inr (made-aimed g t made target handler shape (ap (λ (x : Thing). x.kind) e ∙ kind))

-- ---- along the meaning

abbrev targeting : Kept
targeting = record {
  cares = ⊥;
  owns = ⊥;
  to = Aims;
  owed = λ b o g. Unit {0};
  ended = λ b g o abrupt h. tt;
  known = λ t s o g. Unit {0};
  stays = λ f g p. (p.0, stays-same g);
  goes_on = aims-on;
  made = λ f g t new p. aims-on f g (with_object t g) p (made-aims g t new p.0);
  moved = λ f g o t u at by p. aims-on f g (with_thing o u g) p (moved-aims ⊥ g o t u at by p.0);
  symbols = λ f g ds p. p;
  scopes = λ f g ss last p. p;
  log = λ f g i none p. p;
  job = λ f g s v p. p;
}

plainly : IsPlain targeting
plainly = record { owes = λ b g o h. tt; knows = λ t s g o. tt; notes = λ b g e p. p }

stay-keep : (g h : Graph) → Stay g h → KeepTargets g h
stay-keep g h p n t u target handler shape at there kind =
    let k = p n t at in
    let same : k.0 ≡ u = let e : Some k.0 ≡ Some u = sym k.1 ∙ there in cc in
    let now : k.0.kind ≡ Proxy target handler shape = ap (λ (x : Thing). x.kind) same ∙ kind in
    k.2.1 (ap has_target now) ∙ now

pub tasks-keep-targets : TasksKeepTargets
tasks-keep-targets task graph fuel has =
    let p = means-goes targeting plainly task graph fuel (λ c. absurd c, λ c. absurd c) (has, stays-same graph) in
    (p.0, stay-keep graph (state_of (Means task graph fuel)) p.1)

-- ---- along a whole run

pub first-has-targets : FirstHasTargets
first-has-targets programs rules zero t target handler shape at kind =
    let e : desk ≡ t = cc in
    aimless (first_graph programs rules) t.kind target handler shape (ap (λ (x : Thing). has_target x.kind) (sym e)) kind
first-has-targets programs rules (suc n) t target handler shape at kind = absurd (let bad : None ≡ Some t = at in cc)

end-has : (b : Graph) (r : Ends) → EndHolds targeting b r → HasTargets (state_of r)
end-has b (Gives o s f) p = p.0
end-has b (Spent s f) p = p.0

job-has : (s : ℕ) (j : Job) (g : Graph) (f : ℕ) → HasTargets g → HasTargets (state_of (job_ends s j g f))
job-has s Script g f has =
    end-has g _ (given-holds targeting plainly _ g f (λ c. absurd c, λ c. absurd c) (has, stays-same g))
job-has s (CallJob v) g f has =
    end-has g _ (means-holds targeting plainly _ g f (λ c. absurd c, λ c. absurd c) (has, stays-same g))

lasting : Lasting HasTargets
lasting = record { job = job-has; queues = λ g qs p. p; uncaught = λ g s v p. p; cut = λ g p. p }

pub turns-keep-targets : TurnsKeepTargets
turns-keep-targets stage side has = turn-good HasTargets lasting stage side has

pub letters-keep-targets : LettersKeepTargets
letters-keep-targets stage letter has = letter-good HasTargets lasting stage letter has

pub runs-have-targets : RunsHaveTargets
runs-have-targets programs rules word fuel =
    run-good HasTargets lasting programs rules word fuel (first-has-targets programs rules)
