-- What is promised of objects stays so as they evolve, and with one entry more.
use Rattle.std.proofs.Common.{◌≡◌, ◌⊎◌, inl, inr, ℕ, ◌≤◌, ◌<◌, Bool, true, false, List, [], ◌∷◌, ◌++◌, map, take, length, Option, None, Some, slice_get, refl, sym, ap, ◌∙◌, subst, if◌then◌else◌, option_map, arith}
use Rattle.std.specs.List.{AllByRecursion}
use Rattle.std.proofs.lemmas.List.{take-append-le}
use Rattle.std.proofs.lemmas.Option.{same_Some, slice_get_within}
use Rattle.mb_desc.specs.View.{View}
use Rattle.mb_view.specs.Views.{property_of, KeepsFacts}
use Rattle.mb_view.specs.Shown.{shown}
use Rattle.mb_view.specs.Promises.{Fact, Holds}
use Rattle.mb_view.specs.Entries as deed
use Rattle.mb_view.specs.Entries.{is_of, tells, tells_of_closed, closed_by, told_by, contradicts, Told}
use Rattle.mb_view.proofs.Staying.{holds-later}
use Rattle.mb_view.proofs.Lawfulness.{All-both, All-to, told-more, lawful-more}
use Rattle.mb_world.specs.declared.cell.Shape.{Shape}
use Rattle.mb_world.specs.Value.{Val, Undefined, Null, Truth, Whole, Text, Symbol, Object, BuiltIn, same_value}
use Rattle.mb_world.specs.Key.{PropertyKey, same_key}
use Rattle.mb_world.specs.Graph.{Graph, Thing, Kind, Proxy, Gone, Entry}
use Rattle.mb_world.specs.Objects.{thing_at, is_proxy_kind}
use Rattle.mb_world.specs.View.{Shown, ViewOf, view_by_kind, view_if, owner_or}
use Rattle.mb_model.specs.Trace.Entries.{entries, with_entry}
use Rattle.mb_model.specs.Trace.Lawful.{deed_of, Lawful}
use Rattle.mb_model.proofs.Kept.Changes.{ProxyStays, has_target}
use Rattle.mb_growth.specs.Objects.{as_view, rule_of}
use Rattle.mb_growth.specs.Later.{IsLater, AreFormed, EachEvolves}
use Rattle.mb_growth.specs.Targets.{HasTargets}
use Rattle.mb_growth.specs.Performed.{IsOfMethod, IsOfAccess, ArePerformed}
use Rattle.mb_growth.specs.Lawful.{ArePlaced, PromisesHold, KeepsPromises}
use Rattle.mb_growth.proofs.Values.{key-sound, key-refl, value-sound, value-refl}
use Rattle.mb_growth.proofs.Steps.{later-refl}
use Rattle.mb_growth.proofs.Graphs.{goes-on-later}
use Rattle.mb_growth.proofs.Sides.{sees-by-rules, each-side-sees}
use Rattle.mb_growth.proofs.Seen.{seen-at}
use Rattle.mb_growth.proofs.Targets.{Stay}
use Rattle.mb_growth.proofs.Entered.{entered-log, deeds-append, deeds-length, deeds-get, append-got, of-object, told-nothing}

abbrev pub ViewKeeps : View PropertyKey Val → View PropertyKey Val → Type 0
ViewKeeps old new = KeepsFacts same_key old new

-- ---- views of one object

seen-shown : (g : Graph) (v : ℕ) (t : Thing) (k : PropertyKey)
    → property_of same_key (Shown g v t) k ≡ property_of same_key (shown (rule_of g v t) (as_view t)) k
seen-shown g v t k = seen-at g v t k ∙ sees-by-rules g v t k

-- what a side sees of a later form keeps the facts
pub shown-keeps : (g h : Graph) (v : ℕ) (t u : Thing) → h.rules ≡ g.rules → IsLater t u → ViewKeeps (Shown g v t) (Shown h v u)
shown-keeps g h v t u rules later =
    let facts = (each-side-sees g h v t u rules later).facts in
    record {
      properties = λ key property at fixed.
          let k = facts.properties key property (sym (seen-shown g v t key) ∙ at) fixed in
          (k.0, seen-shown h v u key ∙ k.1, k.2);
      closed = facts.closed;
      prototype = facts.prototype;
      absent = λ closed key at. seen-shown h v u key ∙ facts.absent closed key (sym (seen-shown g v t key) ∙ at);
    }

pub later-at : (g h : Graph) → EachEvolves g h → (v : Val) (t : Thing) → thing_at g v ≡ Some t
    → (u : Thing) × (thing_at h v ≡ Some u) × IsLater t u
later-at g h p (Object n) t at = p n t at
later-at g h p (BuiltIn n) t at = (t, at, later-refl t)
later-at g h p Undefined t at = absurd (let bad : None ≡ Some t = at in cc)
later-at g h p Null t at = absurd (let bad : None ≡ Some t = at in cc)
later-at g h p (Truth b) t at = absurd (let bad : None ≡ Some t = at in cc)
later-at g h p (Whole z) t at = absurd (let bad : None ≡ Some t = at in cc)
later-at g h p (Text x) t at = absurd (let bad : None ≡ Some t = at in cc)
later-at g h p (Symbol x) t at = absurd (let bad : None ≡ Some t = at in cc)

-- ---- the view that a side has of an object

pub view-at : (g : Graph) (s n : ℕ) (t : Thing) → slice_get g.objects n ≡ Some t → ViewOf g s (Object n) ≡ view_by_kind g s t t.kind
view-at g s n t at = ap (λ (x : Option Thing). view_if g s x) at

pub plain-view : (g : Graph) (s : ℕ) (t : Thing) (kind : Kind) → is_proxy_kind kind ≡ false → view_by_kind g s t kind ≡ Some (Shown g s t)
plain-view g s t (Proxy target handler shape) h = absurd (let bad : true ≡ false = h in cc)
plain-view g s t (Gone shape) h = absurd (let bad : true ≡ false = h in cc)
plain-view g s t _ h = refl

pub proxy-view : (g : Graph) (s : ℕ) (t w : Thing) (target handler : Val) (shape : Shape) → t.kind ≡ Proxy target handler shape
    → thing_at g target ≡ Some w → view_by_kind g s t t.kind ≡ Some (Shown g (owner_or s t.owner) w)
proxy-view g s t w target handler shape kind at =
    ap (view_by_kind g s t) kind ∙ ap (λ (x : Option Thing). option_map (Shown g (owner_or s t.owner)) x) at

-- the rules stay, each object evolves, and no Proxy gets another target
pub record Onward (f g : Graph) : Type 0 where
  pub evolves : EachEvolves f g
  pub rules : g.rules ≡ f.rules
  pub stays : Stay f g

-- a view that a side has of an object was one before, of which it keeps the facts
abbrev pub Before : Graph → ℕ → Thing → View PropertyKey Val → Type 0
Before f s t view = (old : View PropertyKey Val) × (view_by_kind f s t t.kind ≡ Some old) × ViewKeeps old view

before-by : (f g : Graph) → HasTargets f → Onward f g → (s n : ℕ) (t u : Thing) → slice_get f.objects n ≡ Some t
    → slice_get g.objects n ≡ Some u → IsLater t u → ProxyStays t u → (view : View PropertyKey Val) (kind : Kind) → u.kind ≡ kind
    → view_by_kind g s u kind ≡ Some view → Before f s t view
before-by f g has on s n t u at there later stays view (Proxy target handler shape) kind h =
    let was : t.kind ≡ Proxy target handler shape = stays.1 (ap has_target kind) ∙ kind in
    let w = has n t target handler shape at was in
    let x = later-at f g on.evolves target w.0 w.1 in
    let seen : Some (Shown g (owner_or s u.owner) x.0) ≡ Some view =
    ap (λ (o : Option Thing). option_map (Shown g (owner_or s u.owner)) o) (sym x.1) ∙ h in
    let same : Shown g (owner_or s u.owner) x.0 ≡ view = same_Some (Shown g (owner_or s u.owner) x.0) view seen in (
      Shown f (owner_or s t.owner) w.0,
      proxy-view f s t w.0 target handler shape was w.1,
      subst (ViewKeeps (Shown f (owner_or s t.owner) w.0)) same
          (subst (λ (o : Option ℕ). ViewKeeps (Shown f (owner_or s t.owner) w.0) (Shown g (owner_or s o) x.0)) later.owner
          (shown-keeps f g (owner_or s t.owner) w.0 x.0 on.rules x.2)),
    )
before-by f g has on s n t u at there later stays view (Gone shape) kind h = absurd (let bad : None ≡ Some view = h in cc)
before-by f g has on s n t u at there later stays view _ kind h =
    let ordinary : is_proxy_kind t.kind ≡ false = stays.0 ∙ ap is_proxy_kind kind in
    let same : Shown g s u ≡ view = same_Some (Shown g s u) view h in (
      Shown f s t,
      plain-view f s t t.kind ordinary,
      subst (ViewKeeps (Shown f s t)) same (shown-keeps f g s t u on.rules later),
    )

view-before : (f g : Graph) → HasTargets f → Onward f g → (s n : ℕ) (t : Thing) → slice_get f.objects n ≡ Some t
    → (view : View PropertyKey Val) → ViewOf g s (Object n) ≡ Some view → Before f s t view
view-before f g has on s n t at view h =
    let later = on.evolves n t at in
    let stay = on.stays n t at in
    let same : stay.0 ≡ later.0 = same_Some stay.0 later.0 (sym stay.1 ∙ later.1) in
    before-by f g has on s n t later.0 at later.1 later.2 (subst (ProxyStays t) same stay.2) view later.0.kind refl
    (sym (view-at g s n later.0 later.1) ∙ h)

-- ---- what is promised

abbrev pub Deeds : Type 0
Deeds = List (deed.Entry PropertyKey Val)

abbrev pub deeds : Graph → Deeds
deeds g = map deed_of (entries g.log)

-- these facts hold of the view
abbrev pub AllHold : View PropertyKey Val → List (Fact PropertyKey Val) → Type 0
AllHold view facts = AllByRecursion (λ fact. Holds same_key fact view) facts

pub all-later : (old new : View PropertyKey Val) → ViewKeeps old new → (facts : List (Fact PropertyKey Val)) → AllHold old facts
    → AllHold new facts
all-later old new keeps facts h =
    All-to (λ fact. Holds same_key fact old) (λ fact. Holds same_key fact new)
    (λ fact f. holds-later same_key fact old new keeps f) facts h

not-there : (x : Option Thing) (t : Thing) → x ≡ None → x ≡ Some t → ⊥
not-there x t e h = let bad : None ≡ Some t = sym e ∙ h in cc

-- where no entry more is made
module _ (f g : Graph) (keeps : KeepsPromises f) (on : Onward f g) (same : entries g.log ≡ entries f.log) where
  on-placed : ArePlaced g
  on-placed place e at =
      let k = keeps.placed place e (ap (λ (es : List Entry). slice_get es place) (sym same) ∙ at) in
      let l = on.evolves e.object k.1.0 k.1.1 in
      (k.0, (l.0, l.1))

  on-performed : ArePerformed g
  on-performed place e at = by (keeps.performed place e (ap (λ (es : List Entry). slice_get es place) (sym same) ∙ at))
    where
      by : IsOfMethod f place e ⊎ IsOfAccess e → IsOfMethod g place e ⊎ IsOfAccess e
      by (inl k) = inl (record {
        method = k.method;
        outcome = k.outcome;
        before = k.before;
        fuel = k.fuel;
        after = k.after;
        left = k.left;
        thing = k.thing;
        says = k.says;
        gave = k.gave;
        began = k.began ∙ ap (λ (es : List Entry). take e.began es) (sym same);
        ended = k.ended ∙ ap (λ (es : List Entry). take place es) (sym same);
        rules = k.rules ∙ sym on.rules;
        evolves = k.evolves;
        later = goes-on-later k.after f g k.later on.evolves;
        there = k.there;
        passes = k.passes;
      })
      by (inr p) = inr p

  on-new : (s n : ℕ) → slice_get f.objects n ≡ None → Told (deeds f) s n ≡ []
  on-new s n gone =
      told-nothing (deeds f) (deeds f) s n
      (λ place d at.
      let e = deeds-get (entries f.log) place d at in
      by d (is_of s n d) refl
      (λ is.
      let object : e.0.object ≡ n = ap (λ (x : deed.Entry PropertyKey Val). x.object) e.2 ∙ (of-object s n d is).1 in
      let there = (keeps.placed place e.0 e.1).1 in
      not-there (slice_get f.objects n) there.0 gone (ap (slice_get f.objects) (sym object) ∙ there.1)))
    where
      by : (d : deed.Entry PropertyKey Val) (b : Bool) → is_of s n d ≡ b → (is_of s n d ≡ true → ⊥) → is_of s n d ≡ false
      by d true e never = absurd (never e)
      by d false e never = e

  on-promises : PromisesHold g
  on-promises s n view at =
      subst (λ (es : List Entry). AllHold view (Told (map deed_of es) s n)) (sym same) (by (slice_get f.objects n) refl)
    where
      by : (x : Option Thing) → slice_get f.objects n ≡ x → AllHold view (Told (deeds f) s n)
      by None e = subst (AllHold view) (sym (on-new s n e)) tt
      by (Some t) e =
          let was = view-before f g keeps.targets on s n t e view at in
          all-later was.0 view was.2 (Told (deeds f) s n) (keeps.promises s n was.0 (view-at f s n t e ∙ was.1))

  pub promises-on : AreFormed g → HasTargets g → KeepsPromises g
  promises-on formed targets = record {
    formed = formed;
    targets = targets;
    placed = on-placed;
    performed = on-performed;
    promises = on-promises;
    lawful = subst Lawful (sym same) keeps.lawful;
  }

-- ---- one entry more

-- it contradicts nothing that was told before it began, and what it tells holds of what its side sees
pub record IsTrue (g : Graph) (e : Entry) : Type 0 where
  pub began : e.began ≤ length (entries g.log)
  pub there : (t : Thing) × (slice_get g.objects e.object ≡ Some t)
  pub agrees : AllByRecursion (λ fact. contradicts same_key same_value Undefined fact (deed_of e).deed ≡ false)
      (Told (take e.began (deeds g)) e.side e.object)
  pub tells : (view : View PropertyKey Val) → ViewOf g e.side (Object e.object) ≡ Some view
      → AllHold view (tells (deed_of e).deed)
  pub closed : (view : View PropertyKey Val) → ViewOf g e.side (Object e.object) ≡ Some view
      → closed_by e.side e.object (take e.began (deeds g)) ≡ true → AllHold view (tells_of_closed (deed_of e).deed)

-- how it was made
abbrev pub HowMade : Graph → Entry → Type 0
HowMade g e = IsOfMethod (with_entry e g) (length (entries g.log)) e ⊎ IsOfAccess e

module _ (g : Graph) (e : Entry) (keeps : KeepsPromises g) (so : IsTrue g e) (how : HowMade g e) where
  deeds-more : deeds (with_entry e g) ≡ deeds g ++ (deed_of e ∷ [])
  deeds-more = ap (map deed_of) (entered-log g.log e) ∙ deeds-append (entries g.log) (e ∷ [])

  in-place : (place : ℕ) (d : deed.Entry PropertyKey Val) → slice_get (deeds g) place ≡ Some d → d.began ≤ place
  in-place place d at =
      let k = deeds-get (entries g.log) place d at in
      subst (λ (x : deed.Entry PropertyKey Val). x.began ≤ place) k.2 (keeps.placed place k.0 k.1).0

  in-time : e.began ≤ length (deeds g)
  in-time = subst (λ (n : ℕ). e.began ≤ n) (sym (deeds-length (entries g.log))) so.began

  more-placed : ArePlaced (with_entry e g)
  more-placed place x at =
      append-got (entries g.log) e place x (ap (λ (es : List Entry). slice_get es place) (sym (entered-log g.log e)) ∙ at)
      (λ n y. (y.began ≤ n) × ((t : Thing) × (slice_get g.objects y.object ≡ Some t))) keeps.placed (so.began, so.there)

  -- the first entries are those of before
  take-more : (n : ℕ) → n ≤ length (entries g.log) → take n (entries g.log) ≡ take n (entries (with_entry e g).log)
  take-more n within =
      sym (take-append-le n (entries g.log) (e ∷ []) within)
      ∙ ap (λ (es : List Entry). take n es) (sym (entered-log g.log e))

  still-performed : (place : ℕ) (x : Entry) → slice_get (entries g.log) place ≡ Some x
      → IsOfMethod (with_entry e g) place x ⊎ IsOfAccess x
  still-performed place x at = by (keeps.performed place x at)
    where
      by : IsOfMethod g place x ⊎ IsOfAccess x → IsOfMethod (with_entry e g) place x ⊎ IsOfAccess x
      by (inl k) =
          let within : place < length (entries g.log) = slice_get_within (entries g.log) place x at in
          let first : x.began ≤ place = (keeps.placed place x at).0 in
          inl (record {
            method = k.method;
            outcome = k.outcome;
            before = k.before;
            fuel = k.fuel;
            after = k.after;
            left = k.left;
            thing = k.thing;
            says = k.says;
            gave = k.gave;
            began = k.began ∙ take-more x.began (omega (arith, within, first));
            ended = k.ended ∙ take-more place (omega (arith, within));
            rules = k.rules;
            evolves = k.evolves;
            later = k.later;
            there = k.there;
            passes = k.passes;
          })
      by (inr p) = inr p

  more-performed : ArePerformed (with_entry e g)
  more-performed place x at =
      append-got (entries g.log) e place x (ap (λ (es : List Entry). slice_get es place) (sym (entered-log g.log e)) ∙ at)
      (λ n y. IsOfMethod (with_entry e g) n y ⊎ IsOfAccess y) still-performed how

  own-told : (view : View PropertyKey Val) → ViewOf g e.side (Object e.object) ≡ Some view
      → AllHold view (told_by (deeds g) (deed_of e))
  own-told view at =
      All-both (λ fact. Holds same_key fact view) (tells (deed_of e).deed)
      (if closed_by e.side e.object (take e.began (deeds g)) then tells_of_closed (deed_of e).deed else []) (so.tells view at)
      (by (closed_by e.side e.object (take e.began (deeds g))) refl)
    where
      by : (b : Bool) → closed_by e.side e.object (take e.began (deeds g)) ≡ b
          → AllHold view (if b then tells_of_closed (deed_of e).deed else [])
      by true c = so.closed view at c
      by false c = tt

  more-promises : PromisesHold (with_entry e g)
  more-promises s n view at =
      subst (λ (ds : Deeds). AllHold view (Told ds s n)) (sym deeds-more)
      (subst (AllHold view) (sym (told-more (deeds g) (deed_of e) s n in-place in-time))
      (All-both (λ fact. Holds same_key fact view) (Told (deeds g) s n)
      (if is_of s n (deed_of e) then told_by (deeds g) (deed_of e) else []) (keeps.promises s n view at)
      (by (is_of s n (deed_of e)) refl)))
    where
      by : (b : Bool) → is_of s n (deed_of e) ≡ b → AllHold view (if b then told_by (deeds g) (deed_of e) else [])
      by true is =
          let two = of-object s n (deed_of e) is in
          own-told view
          (ap (λ (x : ℕ). ViewOf g x (Object e.object)) two.0 ∙ ap (λ (x : ℕ). ViewOf g s (Object x)) two.1 ∙ at)
      by false is = tt

  more-lawful : Lawful (entries (with_entry e g).log)
  more-lawful =
      subst (deed.Lawful same_key same_value Undefined) (sym deeds-more)
      (lawful-more same_key key-sound key-refl same_value Undefined value-refl value-sound (deeds g) (deed_of e)
      in-place in-time keeps.lawful so.agrees)

  pub promises-more : KeepsPromises (with_entry e g)
  promises-more = record {
    formed = keeps.formed;
    targets = keeps.targets;
    placed = more-placed;
    performed = more-performed;
    promises = more-promises;
    lawful = more-lawful;
  }
