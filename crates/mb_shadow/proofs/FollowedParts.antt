-- A shadow followed a key, or the whole.
use Rattle.std.proofs.Common.{◌≡◌, ◌&&◌, ◌||◌, [], ◌∷◌, Option, Some, None, Bool, true, false, not, refl, ap, sym, ◌∙◌, true≢false, if◌then◌else◌, option_map}
use Rattle.std.specs.Prelude.{IfSome, IsSomeAnd}
use Rattle.mb_base.specs.declared.value.ObjId.{ObjId}
use Rattle.mb_base.specs.declared.value.Key.{Key}
use Rattle.mb_base.specs.declared.value.Value.{Value}
use Rattle.mb_desc.specs.declared.descriptor.Full.{Full}
use Rattle.mb_desc.specs.declared.descriptor.Full.TheVariants.{Datum, Accessor}
use Rattle.mb_desc.specs.Descriptors.{is_configurable}
use Rattle.mb_desc.specs.View.{View}
use Rattle.mb_view.specs.Views.{property_of}
use Rattle.mb_world.specs.declared.cell.Cell.{Cell}
use Rattle.mb_world.specs.declared.cell.CellKind.{CellKind}
use Rattle.mb_world.specs.declared.cell.CellKind.TheVariants.{Membrane}
use Rattle.mb_world.specs.Value.{Val}
use Rattle.mb_world.specs.Key.{PropertyKey, same_key}
use Rattle.mb_world.specs.Graph.{Thing}
use Rattle.mb_world.specs.View.{Shown, shown_property}
use Rattle.mb_world.specs.Data.{Data, cell_at}
use Rattle.mb_world.specs.Image.{Names, names_of, Resolve, key_in, full_in, object_of, object_at}
use Rattle.mb_world.specs.Contained.{is_shadow}
use Rattle.mb_world.proofs.SameKeys.{key-equal}
use Rattle.mb_rules.specs.Seen.{graph_of}
use Rattle.mb_rules.proofs.Views.{from-object}
use Rattle.mb_maps.specs.Crossed.{Crossed}
use Rattle.mb_maps.proofs.Lists.{some-get, same-some}
use Rattle.mb_shadow.specs.declared.part.Part.{Part}
use Rattle.mb_shadow.specs.declared.part.Part.TheVariants as part
use Rattle.mb_shadow.specs.declared.sight.Sight.{Sight}
use Rattle.mb_shadow.specs.Seeing.{CanSee, IsProxy, is_membrane, cell_view, shadow_at, shadow_view, view_through}
use Rattle.mb_shadow.specs.Following.{Followed, IsAfter, IsFollowed, kept}
use Rattle.mb_shadow.specs.machine.Sights.{IsSight, view_of, seen_in, seen_at, held_in, held_at, flagged, flags_at, is_fixed, Replaced, ReplacedAll, FollowedFrom}
use Rattle.mb_shadow.proofs.Holds.{held-stays}
use Rattle.mb_shadow.proofs.Stable.{shadow-of, seen-shown, view-stays}

-- ---- cells and what they have

held-there : (d : Data) (id : ObjId) (c : Cell) → cell_at d id ≡ Some c → (k : PropertyKey) → property_of same_key (cell_view (names_of d) c) k ≡ held_at d id k
held-there d id c e k = sym (ap (held_in (names_of d) k) e)

flags-there : (d : Data) (id : ObjId) (c : Cell) (p : Val) (x : Bool) → cell_at d id ≡ Some c → flags_at d id ≡ Some (p, x)
    → (Resolve (names_of d) c.proto ≡ p) × (c.extensible ≡ x)
flags-there d id c p x e h =
    let f : Some (flagged (names_of d) c) ≡ Some (p, x) = sym (ap (option_map (flagged (names_of d))) e) ∙ h in
    let g : flagged (names_of d) c ≡ (p, x) = cc in
    (ap (λ (q : Val × Bool). q.0) g, ap (λ (q : Val × Bool). q.1) g)

-- ---- a key

fixed-in : (n : Names) (p : Full Value) → is_configurable (full_in n p) ≡ is_configurable p
fixed-in n (Datum x w e c) = refl
fixed-in n (Accessor g s e c) = refl

-- what an extensible shadow takes: what is fixed
kept-loose : (n : Names) (o : Option (Full Value)) (had : Option (Full Val)) → is_fixed o ≡ false → kept true (option_map (full_in n) o) had ≡ had
kept-loose n None had h = refl
kept-loose n (Some p) had h = by (is_configurable p) refl h
  where
    by : (b : Bool) → is_configurable p ≡ b → not (is_configurable p) ≡ false → (if is_configurable (full_in n p) then had else Some (full_in n p)) ≡ had
    by true e h = ap (λ (b : Bool). if b then had else Some (full_in n p)) (fixed-in n p ∙ e)
    by false e h = absurd (true≢false (sym (ap not e) ∙ h))

kept-fixed : (n : Names) (o : Option (Full Value)) (had : Option (Full Val)) → is_fixed o ≡ true → kept true (option_map (full_in n) o) had ≡ option_map (full_in n) o
kept-fixed n None had h = absurd (true≢false (sym h))
kept-fixed n (Some p) had h = by (is_configurable p) refl h
  where
    by : (b : Bool) → is_configurable p ≡ b → not (is_configurable p) ≡ true → (if is_configurable (full_in n p) then had else Some (full_in n p)) ≡ Some (full_in n p)
    by false e h = ap (λ (b : Bool). if b then had else Some (full_in n p)) (fixed-in n p ∙ e)
    by true e h = absurd (true≢false (sym h ∙ ap not e))

module _ (d : Data) (s : Sight) (can : CanSee d) (sight : IsSight d s) (c : Cell) (there : cell_at d s.shadow ≡ Some c) (key : Key) where
  abbrev n : Names
  n = names_of d

  abbrev k : PropertyKey
  k = key_in n key

  abbrev t : Thing
  t = object_of n sight.cell

  at-object : object_at d s.object ≡ Some t
  at-object = ap (option_map (object_of n)) sight.there

  abbrev view : View PropertyKey Val
  view = Shown (graph_of d) s.viewer.0 t

  view-at : (q : PropertyKey) → property_of same_key view q ≡ seen_at d s q
  view-at q = seen-shown d s t at-object q

  from-view : (x : Part) (d' : Data) (c' : Cell) → cell_at d' s.shadow ≡ Some c' → IsAfter n x (cell_view n c) view (cell_view (names_of d') c') → FollowedFrom d d' s x
  from-view x d' c' e h = rw (at-object, there, e) h

  -- the shadow is as it was
  pub key-unchanged : (o : Option (Full Value)) → c.extensible ≡ true → is_fixed o ≡ false
      → IfSome (object_at d s.object) (λ t. option_map (full_in n) o ≡ shown_property (graph_of d) s.viewer.0 t k) → FollowedFrom d d s (part.Key key)
  key-unchanged o wide loose meant = from-view (part.Key key) d c there (record {
    properties = λ q. by q (same_key q k) refl;
    extensible = refl;
    prototype = refl;
  })
    where
      shows : option_map (full_in n) o ≡ seen_at d s k
      shows = from-object d s.object sight.cell (λ t. option_map (full_in n) o ≡ shown_property (graph_of d) s.viewer.0 t k) sight.there meant
          ∙ sym (ap (seen_in d s.viewer.0 k) at-object)

      same : (q : PropertyKey) → same_key q k ≡ true → property_of same_key view q ≡ option_map (full_in n) o
      same q e = ap (property_of same_key view) (key-equal q k e) ∙ view-at k ∙ sym shows

      by : (q : PropertyKey) (b : Bool) → same_key q k ≡ b → property_of same_key (cell_view n c) q
          ≡ (if same_key q k then kept c.extensible (property_of same_key view q) (property_of same_key (cell_view n c) q) else property_of same_key (cell_view n c) q)
      by q true e =
          sym (kept-loose n o (property_of same_key (cell_view n c) q) loose)
          ∙ ap (λ (z : Option (Full Val)). kept true z (property_of same_key (cell_view n c) q)) (sym (same q e))
          ∙ ap (λ (b : Bool). kept b (property_of same_key view q) (property_of same_key (cell_view n c) q)) (sym wide)
          ∙ ap (λ (b : Bool). if b then kept c.extensible (property_of same_key view q) (property_of same_key (cell_view n c) q) else property_of same_key (cell_view n c) q) (sym e)
      by q false e = ap (λ (b : Bool). if b then kept c.extensible (property_of same_key view q) (property_of same_key (cell_view n c) q) else property_of same_key (cell_view n c) q) (sym e)

  -- the shadow has what is seen
  pub key-replaced : kept c.extensible (seen_at d s k) (held_at d s.shadow k) ≡ seen_at d s k → (d' : Data) → Followed d d' s.shadow
      → Replaced d d' s (k ∷ []) → FollowedFrom d d' s (part.Key key)
  key-replaced keeps d' f r =
      let q = f.shadow_stays c there in
      let flags = flags-there d' s.shadow q.0 (Resolve n c.proto) c.extensible q.1 (r.flags ∙ ap (option_map (flagged n)) there) in
      from-view (part.Key key) d' q.0 q.1 (record {
        properties = λ z. held-there d' s.shadow q.0 q.1 z ∙ r.properties z ∙ by z (same_key z k) refl;
        extensible = flags.1;
        prototype = flags.0;
      })
    where
      by : (q : PropertyKey) (b : Bool) → same_key q k ≡ b → (if same_key q k || false then seen_at d s q else held_at d s.shadow q)
          ≡ (if same_key q k then kept c.extensible (property_of same_key view q) (property_of same_key (cell_view n c) q) else property_of same_key (cell_view n c) q)
      by q true e =
          ap (λ (b : Bool). if b || false then seen_at d s q else held_at d s.shadow q) e
          ∙ ap (seen_at d s) (key-equal q k e)
          ∙ sym keeps
          ∙ ap (λ (z : PropertyKey). kept c.extensible (seen_at d s z) (held_at d s.shadow z)) (sym (key-equal q k e))
          ∙ ap (λ (z : Option (Full Val)). kept c.extensible z (held_at d s.shadow q)) (sym (view-at q))
          ∙ ap (kept c.extensible (property_of same_key view q)) (sym (held-there d s.shadow c there q))
          ∙ ap (λ (b : Bool). if b then kept c.extensible (property_of same_key view q) (property_of same_key (cell_view n c) q) else property_of same_key (cell_view n c) q) (sym e)
      by q false e =
          ap (λ (b : Bool). if b || false then seen_at d s q else held_at d s.shadow q) e
          ∙ sym (held-there d s.shadow c there q)
          ∙ ap (λ (b : Bool). if b then kept c.extensible (property_of same_key view q) (property_of same_key (cell_view n c) q) else property_of same_key (cell_view n c) q) (sym e)

  pub keeps-closed : c.extensible ≡ false → kept c.extensible (seen_at d s k) (held_at d s.shadow k) ≡ seen_at d s k
  keeps-closed e = ap (λ (b : Bool). kept b (seen_at d s k) (held_at d s.shadow k)) e

  pub keeps-fixed : (o : Option (Full Value)) → c.extensible ≡ true → is_fixed o ≡ true
      → IfSome (object_at d s.object) (λ t. option_map (full_in n) o ≡ shown_property (graph_of d) s.viewer.0 t k)
      → kept c.extensible (seen_at d s k) (held_at d s.shadow k) ≡ seen_at d s k
  keeps-fixed o wide fixed meant =
      let shows : option_map (full_in n) o ≡ seen_at d s k =
      from-object d s.object sight.cell (λ t. option_map (full_in n) o ≡ shown_property (graph_of d) s.viewer.0 t k) sight.there meant
      ∙ sym (ap (seen_in d s.viewer.0 k) at-object) in
      ap (λ (b : Bool). kept b (seen_at d s k) (held_at d s.shadow k)) wide
      ∙ ap (λ (z : Option (Full Val)). kept true z (held_at d s.shadow k)) (sym shows)
      ∙ kept-fixed n o (held_at d s.shadow k) fixed
      ∙ shows

-- ---- the whole

module _ (d : Data) (s : Sight) (can : CanSee d) (sight : IsSight d s) where
  whole-object : object_at d s.object ≡ Some (object_of (names_of d) sight.cell)
  whole-object = ap (option_map (object_of (names_of d))) sight.there

  -- nothing is kept of what is extensible
  pub whole-unchanged : (o : Cell) → cell_at d s.object ≡ Some o → o.extensible ≡ true → FollowedFrom d d s part.Whole
  whole-unchanged o e wide =
      let q = shadow-of d s sight in
      let same : o ≡ sight.cell = same-some (cell_at d s.object) o sight.cell e sight.there in
      let is : sight.cell.extensible ≡ true = ap (λ (x : Cell). x.extensible) (sym same) ∙ wide in
      rw (whole-object, q.1) (record {
        properties = λ k. ap (λ (b : Bool). if b then property_of same_key (cell_view (names_of d) q.0) k else property_of same_key (Shown (graph_of d) s.viewer.0 (object_of (names_of d) sight.cell)) k) (sym is);
        extensible = stays q.0.extensible ∙ ap (λ (b : Bool). q.0.extensible && b) (sym is);
        prototype = ap (λ (b : Bool). if b then Resolve (names_of d) q.0.proto else Resolve (names_of d) sight.cell.proto) (sym is);
      })
    where
      stays : (b : Bool) → b ≡ b && true
      stays true = refl
      stays false = refl

  -- the shadow has all of what is seen, which isn't extensible
  pub whole-followed : (o : Cell) → cell_at d s.object ≡ Some o → o.extensible ≡ false → (d2 d3 d4 : Data) (p : Value)
      → ReplacedAll d d2 s → Followed d d2 s.shadow → Crossed d2 d3 → IfSome (view_of d2 s) (λ view. Resolve (names_of d3) p ≡ view.prototype)
      → CanSee d2 → IsSight d2 s → flags_at d4 s.shadow ≡ Some (Resolve (names_of d3) p, false)
      → ((key : PropertyKey) → held_at d4 s.shadow key ≡ held_at d3 s.shadow key) → Followed d d4 s.shadow → FollowedFrom d d4 s part.Whole
  whole-followed o e closed d2 d3 d4 p all f crossed proto can2 sight2 flags held g =
      let q = shadow-of d s sight in
      let r = g.shadow_stays q.0 q.1 in
      let same : o ≡ sight.cell = same-some (cell_at d s.object) o sight.cell e sight.there in
      let is : sight.cell.extensible ≡ false = ap (λ (x : Cell). x.extensible) (sym same) ∙ closed in
      let view2 : view_of d2 s ≡ Some (Shown (graph_of d) s.viewer.0 (object_of (names_of d) sight.cell)) = view-stays d d2 s can sight f ∙ ap (option_map (Shown (graph_of d) s.viewer.0)) whole-object in
      let shown : Resolve (names_of d3) p ≡ Resolve (names_of d) sight.cell.proto = rw view2 at proto in
      let has = flags-there d4 s.shadow r.0 (Resolve (names_of d3) p) false r.1 flags in
      let c2 = shadow-of d2 s sight2 in
      rw (whole-object, q.1, r.1) (record {
        properties = λ k.
            held-there d4 s.shadow r.0 r.1 k
            ∙ held k
            ∙ held-stays d2 d3 can2 crossed.becomes.grows s.shadow c2.0 c2.1 (crossed.cells s.shadow c2.0 c2.1) k
            ∙ all.properties k
            ∙ sym (seen-shown d s (object_of (names_of d) sight.cell) whole-object k)
            ∙ ap (λ (b : Bool). if b then property_of same_key (cell_view (names_of d) q.0) k else property_of same_key (Shown (graph_of d) s.viewer.0 (object_of (names_of d) sight.cell)) k) (sym is);
        extensible = has.1 ∙ sym (none q.0.extensible) ∙ ap (λ (b : Bool). q.0.extensible && b) (sym is);
        prototype = has.0 ∙ shown ∙ ap (λ (b : Bool). if b then Resolve (names_of d) q.0.proto else Resolve (names_of d) sight.cell.proto) (sym is);
      })
    where
      none : (b : Bool) → b && false ≡ false
      none true = refl
      none false = refl

-- ---- through the proxy

-- the proxy is as it was
proxy-stays : (d d' : Data) (proxy : ObjId) (s : ObjId) → IsProxy (cell_at d proxy) → IsSomeAnd (cell_at d s) (λ c. is_shadow c.kind ≡ true) → Followed d d' s
    → cell_at d' proxy ≡ cell_at d proxy
proxy-stays d d' proxy s h k f =
    let p = some-get (λ (c : Cell). is_membrane c.kind ≡ true) (cell_at d proxy) h in
    let c = some-get (λ (c : Cell). is_shadow c.kind ≡ true) (cell_at d s) k in
    f.cells proxy p.0 (λ e. apart p.0.kind p.2 (ap (λ (x : Cell). is_shadow x.kind) (same-some (cell_at d proxy) p.0 c.0 p.1 (ap (cell_at d) e ∙ c.1)) ∙ c.2)) p.1 ∙ sym p.1
  where
    apart : (k : CellKind) → is_membrane k ≡ true → is_shadow k ≡ true → ⊥
    apart (Membrane behind shadow) a b = true≢false (sym b)
    apart k a b = true≢false (sym a)

pub shadow-stays : (d d' : Data) (proxy : ObjId) (s : Sight) → IsProxy (cell_at d proxy) → IsSight d s → Followed d d' s.shadow
    → shadow_at d' proxy ≡ shadow_at d proxy
shadow-stays d d' proxy s h sight f = rw (proxy-stays d d' proxy s.shadow h sight.shadow_there f) refl

-- what was followed from the sight was followed through the proxy
pub followed-through : (d d' : Data) (proxy : ObjId) (s : Sight) (x : Part) → IsProxy (cell_at d proxy) → IsSight d s → s.shadow ≡ shadow_at d proxy
    → view_through d proxy ≡ view_of d s → Followed d d' s.shadow → FollowedFrom d d' s x → IsFollowed d d' proxy x
followed-through d d' proxy s x h sight shadow seen f from =
    let q = shadow-of d s sight in
    let r = f.shadow_stays q.0 q.1 in
    let view : object_at d s.object ≡ Some (object_of (names_of d) sight.cell) = ap (option_map (object_of (names_of d))) sight.there in
    let was : shadow_view d proxy ≡ Some (cell_view (names_of d) q.0) = ap (λ (o : ObjId). option_map (cell_view (names_of d)) (cell_at d o)) (sym shadow) ∙ ap (option_map (cell_view (names_of d))) q.1 in
    let now : shadow_view d' proxy ≡ Some (cell_view (names_of d') r.0) =
    ap (λ (o : ObjId). option_map (cell_view (names_of d')) (cell_at d' o)) (shadow-stays d d' proxy s h sight f ∙ sym shadow) ∙ ap (option_map (cell_view (names_of d'))) r.1 in
    let after : IsAfter (names_of d) x (cell_view (names_of d) q.0) (Shown (graph_of d) s.viewer.0 (object_of (names_of d) sight.cell)) (cell_view (names_of d') r.0) = rw (view, q.1, r.1) at from in
    rw (seen ∙ ap (option_map (Shown (graph_of d) s.viewer.0)) view, was, now) after
