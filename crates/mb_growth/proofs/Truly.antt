-- The entry that a method makes contradicts nothing, and what it tells is so.
use Rattle.std.proofs.Common.{◌≡◌, ℕ, ◌≤◌, true, false, List, [], ◌∷◌, ◌++◌, map, take, length, Option, None, Some, slice_get, refl, sym, ap, ◌∙◌, subst, option_map, append-nil, arith}
use Rattle.std.specs.List.{AllByRecursion}
use Rattle.std.proofs.lemmas.Option.{same_Some}
use Rattle.mb_desc.specs.View.{View}
use Rattle.mb_view.specs.Promises.{Fact, Closed, Fixed, Absent, Only, Prototype, Holds}
use Rattle.mb_view.specs.Entries.{Silent, GivesOneKind, tells, tells_of_closed, closed_by, contradicts, Told}
use Rattle.mb_view.proofs.Lawfulness.{entry-owes}
use Rattle.mb_view.proofs.Kept.{closed-held}
use Rattle.mb_world.specs.declared.cell.Shape.{Shape}
use Rattle.mb_world.specs.Value.{Val, Undefined, Object, same_value}
use Rattle.mb_world.specs.Key.{PropertyKey, same_key}
use Rattle.mb_world.specs.Graph.{Graph, Thing, Kind, Proxy, Gone, Entry, Said, SaidFlag, SaidValue, SaidAbsent, SaidProperty, SaidKeys}
use Rattle.mb_world.specs.Objects.{thing_at, is_proxy_kind}
use Rattle.mb_world.specs.View.{Shown, ViewOf, view_by_kind, owner_or}
use Rattle.mb_model.specs.Task.{Method, GetPrototypeOf, SetPrototypeOf, IsExtensible, PreventExtensions, GetOwnProperty, DefineOwnProperty, HasProperty, Get, Set, Delete, OwnPropertyKeys, Call, Construct, Outcome, Throw}
use Rattle.mb_model.specs.Fitting.{FitsMethod}
use Rattle.mb_model.specs.Trace.Ops.{op_of}
use Rattle.mb_model.specs.Trace.Entries.{key_of_method, given_of, said_outcome, entries, method_entry}
use Rattle.mb_model.specs.Trace.Lawful.{deed_by, deed_of}
use Rattle.mb_model.proofs.Kept.Changes.{ProxyStays, has_target}
use Rattle.mb_growth.specs.Later.{IsLater}
use Rattle.mb_growth.specs.Answered.{EntryPasses, PassesAtMoment, PassesBetween}
use Rattle.mb_growth.specs.Lawful.{KeepsPromises}
use Rattle.mb_growth.proofs.Values.{key-sound, key-refl, value-sound, value-refl}
use Rattle.mb_growth.proofs.Steps.{later-refl}
use Rattle.mb_growth.proofs.Entered.{deeds-append, deeds-length, take-first}
use Rattle.mb_growth.proofs.Promised.{ViewKeeps, shown-keeps, later-at, view-at, plain-view, proxy-view, Onward, Deeds, deeds, AllHold, IsTrue}

-- ---- an entry that tells nothing

silent-fact : (fact : Fact PropertyKey Val) → contradicts same_key same_value Undefined fact Silent ≡ false
silent-fact Closed = refl
silent-fact (Fixed key promise) = refl
silent-fact (Absent key) = refl
silent-fact (Only keys) = refl
silent-fact (Prototype prototype) = refl

silent-agrees : (facts : List (Fact PropertyKey Val))
    → AllByRecursion (λ fact. contradicts same_key same_value Undefined fact Silent ≡ false) facts
silent-agrees [] = tt
silent-agrees (fact ∷ facts) = (silent-fact fact, silent-agrees facts)

pub silent-true : (g : Graph) (e : Entry) → (deed_of e).deed ≡ Silent → e.began ≤ length (entries g.log)
    → (t : Thing) × (slice_get g.objects e.object ≡ Some t) → IsTrue g e
silent-true g e silent began there =
    let told : List (Fact PropertyKey Val) = Told (take e.began (deeds g)) e.side e.object in
    record {
      began = began;
      there = there;
      agrees = subst (λ d. AllByRecursion (λ fact. contradicts same_key same_value Undefined fact d ≡ false) told) (sym silent)
          (silent-agrees told);
      tells = λ view at. subst (λ d. AllHold view (tells d)) (sym silent) tt;
      closed = λ view at c. subst (λ d. AllHold view (tells_of_closed d)) (sym silent) tt;
    }

pub throw-silent : (m : Method) (v : Val) → deed_by (op_of m) (key_of_method m) (given_of m) (said_outcome (Throw v)) ≡ Silent
throw-silent GetPrototypeOf v = refl
throw-silent (SetPrototypeOf p) v = refl
throw-silent IsExtensible v = refl
throw-silent PreventExtensions v = refl
throw-silent (GetOwnProperty k) v = refl
throw-silent (DefineOwnProperty k d) v = refl
throw-silent (HasProperty k) v = refl
throw-silent (Get k r) v = refl
throw-silent (Set k x r) v = refl
throw-silent (Delete k) v = refl
throw-silent OwnPropertyKeys v = refl
throw-silent (Call this vs) v = refl
throw-silent (Construct vs target) v = refl

-- a descriptor that is given has no fields of both kinds
gives-one : (m : Method) (x : Said) → FitsMethod m → GivesOneKind (deed_by (op_of m) (key_of_method m) (given_of m) x)
gives-one GetPrototypeOf (SaidValue p) fit = tt
gives-one GetPrototypeOf _ fit = tt
gives-one (SetPrototypeOf p) (SaidFlag b) fit = tt
gives-one (SetPrototypeOf p) _ fit = tt
gives-one IsExtensible (SaidFlag b) fit = tt
gives-one IsExtensible _ fit = tt
gives-one PreventExtensions (SaidFlag b) fit = tt
gives-one PreventExtensions _ fit = tt
gives-one (GetOwnProperty k) SaidAbsent fit = tt
gives-one (GetOwnProperty k) (SaidProperty d) fit = tt
gives-one (GetOwnProperty k) _ fit = tt
gives-one (DefineOwnProperty k d) (SaidFlag b) fit = fit
gives-one (DefineOwnProperty k d) _ fit = tt
gives-one (HasProperty k) (SaidFlag b) fit = tt
gives-one (HasProperty k) _ fit = tt
gives-one (Get k r) (SaidValue v) fit = tt
gives-one (Get k r) _ fit = tt
gives-one (Set k x r) (SaidFlag b) fit = tt
gives-one (Set k x r) _ fit = tt
gives-one (Delete k) (SaidFlag b) fit = tt
gives-one (Delete k) _ fit = tt
gives-one OwnPropertyKeys (SaidKeys ks) fit = tt
gives-one OwnPropertyKeys _ fit = tt
gives-one (Call this vs) x fit = tt
gives-one (Construct vs target) x fit = tt

-- ---- an entry that a side makes of what it sees

length-first : {X : Type 0} (xs ys : List X) → length xs ≤ length (xs ++ ys)
length-first [] ys = omega arith
length-first (x ∷ xs) ys = let h = length-first xs ys in omega (arith, h)

abbrev pub entry_made : Graph → ℕ → ℕ → Method → Outcome → Entry
entry_made b a n m q = method_entry (length (entries b.log)) a (Object n) m q

-- the entries of the one graph are the first ones of the other
abbrev pub Extends : Graph → Graph → Type 0
Extends f g = (more : List Entry) × (entries g.log ≡ entries f.log ++ more)

pub began-within : (b g : Graph) → Extends b g → length (entries b.log) ≤ length (entries g.log)
began-within b g longer =
    let h : length (entries b.log) ≤ length (entries b.log ++ longer.0) = length-first (entries b.log) longer.0 in
    subst (λ (es : List Entry). length (entries b.log) ≤ length es) (sym longer.1) h

module _ (b g : Graph) (keeps : KeepsPromises b) (on : Onward b g) (longer : Extends b g) (a n : ℕ) (m : Method) (q : Outcome) (t : Thing) (at : slice_get b.objects n ≡ Some t) where
  took : take (length (entries b.log)) (deeds g) ≡ deeds b
  took =
      ap (λ (ds : Deeds). take (length (entries b.log)) ds)
      (ap (map deed_of) longer.1 ∙ deeds-append (entries b.log) longer.0)
      ∙ ap (λ (k : ℕ). take k (deeds b ++ map deed_of longer.0)) (sym (deeds-length (entries b.log)))
      ∙ take-first (deeds b) (map deed_of longer.0)

  closed-then : (old : View PropertyKey Val) → ViewOf b a (Object n) ≡ Some old
      → closed_by a n (take (length (entries b.log)) (deeds g)) ≡ true → old.extensible ≡ false
  closed-then old seen c =
      let whole : take (length (deeds b)) (deeds b) ≡ deeds b =
      ap (λ (ds : Deeds). take (length (deeds b)) ds) (sym (append-nil (deeds b))) ∙ take-first (deeds b) [] in
      closed-held (λ fact. Holds same_key fact old) (deeds b) a n (length (deeds b))
      (ap (closed_by a n) (whole ∙ sym took) ∙ c) (keeps.promises a n old seen)

  -- it passes against what the side sees at a moment from begin to end
  seen-true : (old mid new : View PropertyKey Val) → ViewOf b a (Object n) ≡ Some old → FitsMethod m → ViewKeeps old mid
      → EntryPasses m q mid → ViewKeeps mid new
      → ((view : View PropertyKey Val) → ViewOf g a (Object n) ≡ Some view → view ≡ new) → IsTrue g (entry_made b a n m q)
  seen-true old mid new seen fit first passes last only =
      let d = (deed_of (entry_made b a n m q)).deed in
      let later = on.evolves n t at in
      let owes = entry-owes same_key key-sound key-refl same_value Undefined value-refl value-sound (Told (deeds b) a n) d old mid new
      (gives-one m (said_outcome q) fit) (keeps.promises a n old seen) first passes last in
      record {
        began = began-within b g longer;
        there = (later.0, later.1);
        agrees = subst (λ (ds : Deeds). AllByRecursion (λ fact. contradicts same_key same_value Undefined fact d ≡ false) (Told ds a n))
            (sym took) owes.0;
        tells = λ view is. subst (λ v. AllHold v (tells d)) (sym (only view is)) owes.1;
        closed = λ view is c. subst (λ v. AllHold v (tells_of_closed d)) (sym (only view is)) (owes.2 (closed-then old seen c));
      }

  -- ---- of an object that is no script-made Proxy

  module _ (ordinary : is_proxy_kind t.kind ≡ false) (fit : FitsMethod m) (u : Thing) (there : slice_get g.objects n ≡ Some u) (later : IsLater t u) where
    plain-only : (view : View PropertyKey Val) → ViewOf g a (Object n) ≡ Some view → view ≡ Shown g a u
    plain-only view is =
        let seen : Some (Shown g a u) ≡ Some view =
        sym (plain-view g a u u.kind (sym later.proxy ∙ ordinary)) ∙ sym (view-at g a n u there) ∙ is in
        sym (same_Some (Shown g a u) view seen)

    plain-seen : ViewOf b a (Object n) ≡ Some (Shown b a t)
    plain-seen = view-at b a n t at ∙ plain-view b a t t.kind ordinary

    pub true-from_begin : EntryPasses m q (Shown b a t) → IsTrue g (entry_made b a n m q)
    true-from_begin passes =
        seen-true (Shown b a t) (Shown b a t) (Shown g a u) plain-seen fit (shown-keeps b b a t t refl (later-refl t)) passes
        (shown-keeps b g a t u on.rules later) plain-only

    pub true-at_end : EntryPasses m q (Shown g a u) → IsTrue g (entry_made b a n m q)
    true-at_end passes =
        seen-true (Shown b a t) (Shown g a u) (Shown g a u) plain-seen fit (shown-keeps b g a t u on.rules later) passes
        (shown-keeps g g a u u refl (later-refl u)) plain-only

  -- ---- of a script-made Proxy

  module _ (target handler : Val) (shape : Shape) (kind : t.kind ≡ Proxy target handler shape) (u : Thing) (there : slice_get g.objects n ≡ Some u) (later : IsLater t u) (stays : ProxyStays t u) (w : Thing) (aimed : thing_at g target ≡ Some w) where
    proxy-by : (k : Kind) → u.kind ≡ k → (view : View PropertyKey Val) → view_by_kind g a u k ≡ Some view
        → view ≡ Shown g (owner_or a t.owner) w
    proxy-by (Proxy to by form) is view h =
        let same : Proxy target handler shape ≡ Proxy to by form = sym kind ∙ stays.1 (ap has_target is) ∙ is in
        let aim : target ≡ to = cc in
        let at-to : thing_at g to ≡ Some w = ap (thing_at g) (sym aim) ∙ aimed in
        let seen : Some (Shown g (owner_or a u.owner) w) ≡ Some view =
        ap (λ (x : Option Thing). option_map (Shown g (owner_or a u.owner)) x) (sym at-to) ∙ h in
        sym (same_Some (Shown g (owner_or a u.owner) w) view seen)
        ∙ ap (λ (o : Option ℕ). Shown g (owner_or a o) w) (sym later.owner)
    proxy-by (Gone form) is view h = absurd (let bad : None ≡ Some view = h in cc)
    proxy-by _ is view h =
        absurd (let bad : true ≡ false = ap is_proxy_kind (sym kind) ∙ stays.0 ∙ ap is_proxy_kind is in cc)

    proxy-only : (view : View PropertyKey Val) → ViewOf g a (Object n) ≡ Some view → view ≡ Shown g (owner_or a t.owner) w
    proxy-only view is = proxy-by u.kind refl view (sym (view-at g a n u there) ∙ is)

  pub true-between : (target handler : Val) (shape : Shape) → t.kind ≡ Proxy target handler shape → FitsMethod m
      → PassesBetween (owner_or a t.owner) target m b q g → IsTrue g (entry_made b a n m q)
  true-between target handler shape kind fit between =
      let p : ℕ = owner_or a t.owner in
      let old = keeps.targets n t target handler shape at kind in
      let mid = later-at b between.moment between.begun target old.0 old.1 in
      let new = later-at between.moment g between.ended target mid.0 mid.1 in
      let later = on.evolves n t at in
      let stay = on.stays n t at in
      let same : stay.0 ≡ later.0 = same_Some stay.0 later.0 (sym stay.1 ∙ later.1) in
      seen-true (Shown b p old.0) (Shown between.moment p mid.0) (Shown g p new.0)
      (view-at b a n t at ∙ proxy-view b a t old.0 target handler shape kind old.1) fit
      (shown-keeps b between.moment p old.0 mid.0 between.rules mid.2) (between.passes mid.0 mid.1)
      (shown-keeps between.moment g p mid.0 new.0 (on.rules ∙ sym between.rules) new.2)
      (proxy-only target handler shape kind later.0 later.1 later.2 (subst (ProxyStays t) same stay.2) new.0 new.1)

-- ---- of an object that is no script-made Proxy, by its method

pub ordinary-true : (b g : Graph) → KeepsPromises b → Onward b g → Extends b g → (a n : ℕ) (m : Method) (q : Outcome) (t : Thing)
    → slice_get b.objects n ≡ Some t → is_proxy_kind t.kind ≡ false → FitsMethod m
    → PassesAtMoment a (Object n) m t b q g → IsTrue g (entry_made b a n m q)
ordinary-true b g keeps on longer a n m q t at ordinary fit passes =
    let u = on.evolves n t at in
    by m fit passes u.0 u.1 u.2
  where
    by : (m' : Method) → FitsMethod m' → PassesAtMoment a (Object n) m' t b q g → (u : Thing) → slice_get g.objects n ≡ Some u
        → IsLater t u → IsTrue g (entry_made b a n m' q)
    by (HasProperty k) f p u there later = true-from_begin b g keeps on longer a n (HasProperty k) q t at ordinary f u there later p
    by (Get k r) f p u there later = true-from_begin b g keeps on longer a n (Get k r) q t at ordinary f u there later p
    by (Set k x r) f p u there later = true-from_begin b g keeps on longer a n (Set k x r) q t at ordinary f u there later p
    by GetPrototypeOf f p u there later = true-at_end b g keeps on longer a n GetPrototypeOf q t at ordinary f u there later (p u there)
    by (SetPrototypeOf x) f p u there later =
        true-at_end b g keeps on longer a n (SetPrototypeOf x) q t at ordinary f u there later (p u there)
    by IsExtensible f p u there later = true-at_end b g keeps on longer a n IsExtensible q t at ordinary f u there later (p u there)
    by PreventExtensions f p u there later =
        true-at_end b g keeps on longer a n PreventExtensions q t at ordinary f u there later (p u there)
    by (GetOwnProperty k) f p u there later =
        true-at_end b g keeps on longer a n (GetOwnProperty k) q t at ordinary f u there later (p u there)
    by (DefineOwnProperty k d) f p u there later =
        true-at_end b g keeps on longer a n (DefineOwnProperty k d) q t at ordinary f u there later (p u there)
    by (Delete k) f p u there later = true-at_end b g keeps on longer a n (Delete k) q t at ordinary f u there later (p u there)
    by OwnPropertyKeys f p u there later =
        true-at_end b g keeps on longer a n OwnPropertyKeys q t at ordinary f u there later (p u there)
    by (Call this vs) f p u there later =
        true-at_end b g keeps on longer a n (Call this vs) q t at ordinary f u there later (p u there)
    by (Construct vs target) f p u there later =
        true-at_end b g keeps on longer a n (Construct vs target) q t at ordinary f u there later (p u there)
