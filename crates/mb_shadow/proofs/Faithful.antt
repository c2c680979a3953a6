-- Shadows go on showing what was seen and told.
use Rattle.std.proofs.Common.{◌≡◌, ◌≢◌, ◌<◌, ◌≤◌, ◌&&◌, ℕ, zero, suc, nat_eq, List, [], ◌∷◌, length, map, slice_get, Some, None, Bool, true, false, refl, ap, sym, ◌∙◌, inl, inr, subst, arith, option_map}
use Rattle.std.specs.List.{AllByRecursion}
use Rattle.std.specs.Map.{lookup}
use Rattle.std.proofs.lemmas.Bool.{eqb-true}
use Rattle.std.proofs.lemmas.Option.{slice_get_cases, slice_get_within, slice_get-map, get_or_from_slice_get}
use Rattle.mb_base.specs.declared.value.ObjId.{ObjId}
use Rattle.mb_base.specs.declared.value.Side.{Side}
use Rattle.mb_desc.specs.View.{View}
use Rattle.mb_view.specs.Views.{KeepsFacts}
use Rattle.mb_view.specs.Promises.{Fact, Holds}
use Rattle.mb_view.specs.Entries as deed
use Rattle.mb_view.specs.Entries.{Told, told_from, told_by, is_of}
use Rattle.mb_view.specs.Lean.{IsLean}
use Rattle.mb_view.proofs.Staying.{holds-later}
use Rattle.mb_world.specs.declared.cell.Cell.{Cell}
use Rattle.mb_world.specs.declared.cell.Shape.{Shape}
use Rattle.mb_world.specs.declared.cell.CellKind.{CellKind}
use Rattle.mb_world.specs.declared.cell.CellKind.TheVariants.{Membrane, Shadow}
use Rattle.mb_world.specs.declared.entry.Entry.{Entry}
use Rattle.mb_world.specs.Value.{Val}
use Rattle.mb_world.specs.Key.{PropertyKey, same_key}
use Rattle.mb_world.specs.Graph.{Graph}
use Rattle.mb_world.specs.View.{ViewOf}
use Rattle.mb_world.specs.Data.{Data, Counted, Hidden, stand, stands, is_counted, is_object_cell, cell_at, serial_of, next_if}
use Rattle.mb_world.specs.Grows.{Grows}
use Rattle.mb_world.specs.Ids.{HasItsIds, CellIn, KindIn, ObjIn}
use Rattle.mb_world.specs.Image.{names_of, number_at, object_in, entry_in, entries_in}
use Rattle.mb_world.specs.Laws.{Becomes, same_graph}
use Rattle.mb_world.specs.Objects.{shape_of_thing}
use Rattle.mb_world.specs.Formed.{HasItsKind, thing_of}
use Rattle.mb_world.specs.Contained.{Paired, PairedFrom, IsMembrane, HasItsTwo, HasProxyOf, is_shadow}
use Rattle.mb_world.proofs.Grow.{All-at}
use Rattle.mb_world.proofs.AfterCalls.{rank, numbers-rank}
use Rattle.mb_model.specs.Trace.Lawful.{deed_of}
use Rattle.mb_rules.specs.Seen.{graph_of}
use Rattle.mb_maps.specs.Crossed.{Crossed, IsAdded, IsNew}
use Rattle.mb_maps.proofs.Lists.{some-get, some-is, same-some, obj-same}
use Rattle.mb_shadow.specs.Seeing.{CanSee, IsProxy, is_membrane, cell_view, home_in, home_at, shadow_at, shadow_by, shadow_in, shadow_view, view_through}
use Rattle.mb_shadow.specs.declared.part.Part.{Part}
use Rattle.mb_shadow.specs.Following.{Followed, IsAfter, IsFollowed}
use Rattle.mb_shadow.specs.Shadows.{told_of, IsFaithful, Shadowed, Lean}
use Rattle.mb_shadow.proofs.Cells.{same-or-not, membrane-moves}
use Rattle.mb_shadow.proofs.Steps.{followed-faces, followed-paired}
use Rattle.mb_shadow.proofs.After.{changed, changed-evolves, changed-facts, after-lean}
use Rattle.mb_shadow.proofs.Holds.{pair, view-grows}

-- ---- facts that stay

pub facts-hold : (one two : View PropertyKey Val) → KeepsFacts same_key one two → (facts : List (Fact PropertyKey Val))
    → AllByRecursion (λ fact. Holds same_key fact one) facts → AllByRecursion (λ fact. Holds same_key fact two) facts
facts-hold one two k [] h = tt
facts-hold one two k (fact ∷ facts) h = (holds-later same_key fact one two k h.0, facts-hold one two k facts h.1)

-- ---- numbers tell objects apart

rank-apart : (cells : List Cell) (i j : ℕ) (c e : Cell) → slice_get cells i ≡ Some c → slice_get cells j ≡ Some e
    → is_object_cell c ≡ true → is_object_cell e ≡ true → rank cells i ≡ rank cells j → i ≡ j
rank-apart [] i j c e p q h k r = cc
rank-apart (x ∷ xs) zero zero c e p q h k r = refl
rank-apart (x ∷ xs) zero (suc j) c e p q h k r =
    let same : x ≡ c = cc in
    let counted : is_object_cell x ≡ true = ap is_object_cell same ∙ h in
    let bad : 0 ≡ suc (rank xs j) = r ∙ ap (λ (b : Bool). next_if b (rank xs j)) counted in
    absurd (omega (arith, bad))
rank-apart (x ∷ xs) (suc i) zero c e p q h k r =
    let same : x ≡ e = cc in
    let counted : is_object_cell x ≡ true = ap is_object_cell same ∙ k in
    let bad : 0 ≡ suc (rank xs i) = sym r ∙ ap (λ (b : Bool). next_if b (rank xs i)) counted in
    absurd (omega (arith, bad))
rank-apart (x ∷ xs) (suc i) (suc j) c e p q h k r = ap suc (rank-apart xs i j c e p q h k (less (is_object_cell x) (rank xs i) (rank xs j) r))
  where
    less : (b : Bool) (m n : ℕ) → next_if b m ≡ next_if b n → m ≡ n
    less true m n s = omega (arith, s)
    less false m n s = s

number-rank : (d : Data) (id : ObjId) (c : Cell) → cell_at d id ≡ Some c → number_at (names_of d) id.0 ≡ rank d.cells id.0
number-rank d id c e = omega (arith, numbers-rank d.cells id.0 0 (slice_get_within d.cells id.0 c e))

pub number-apart : (d : Data) (a b : ObjId) (c e : Cell) → cell_at d a ≡ Some c → cell_at d b ≡ Some e → stand c ≡ Counted → stand e ≡ Counted
    → number_at (names_of d) a.0 ≡ number_at (names_of d) b.0 → a ≡ b
number-apart d a b c e p q h k n =
    obj-same a b (rank-apart d.cells a.0 b.0 c e p q (ap is_counted h) (ap is_counted k) (sym (number-rank d a c p) ∙ n ∙ number-rank d b e q))

serial-number : (d : Data) (id : ObjId) (c : Cell) (n : ℕ) → cell_at d id ≡ Some c → stand c ≡ Counted → serial_of d.cells id ≡ Some n → number_at (names_of d) id.0 ≡ n
serial-number d id c n e h s =
    let at : slice_get (stands d.cells) id.0 ≡ Some Counted = slice_get-map stand d.cells id.0 ∙ ap (option_map stand) e ∙ ap Some h in
    let counted : serial_of d.cells id ≡ Some (number_at (names_of d) id.0) = rw (get_or_from_slice_get (stands d.cells) id.0 Counted Hidden at) refl in
    let f : Some (number_at (names_of d) id.0) ≡ Some n = sym counted ∙ s in
    cc

-- ---- nothing is told of what no entry speaks of

told-none : (all : List (deed.Entry PropertyKey Val)) (side object : ℕ) (es : List (deed.Entry PropertyKey Val))
    → AllByRecursion (λ e. is_of side object e ≡ false) es → told_from all side object es ≡ []
told-none all side object [] h = refl
told-none all side object (e ∷ es) h = rw h.0 (told-none all side object es h.1)

no-entries : (d : Data) (side object : ℕ) (es : List Entry) → ((e : Entry) (n : ℕ) → slice_get es n ≡ Some e → e.side.0 ≡ side → e.object ≡ object → ⊥)
    → AllByRecursion (λ e. is_of side object e ≡ false) (map deed_of (map (entry_in d.texts) es))
no-entries d side object [] h = tt
no-entries d side object (e ∷ es) h = (
  by (nat_eq e.side.0 side) (nat_eq e.object object) refl refl,
  no-entries d side object es (λ x n at. h x (suc n) at),
)
  where
    by : (a b : Bool) → nat_eq e.side.0 side ≡ a → nat_eq e.object object ≡ b → nat_eq e.side.0 side && nat_eq e.object object ≡ false
    by true true p q = absurd (h e 0 refl (eqb-true e.side.0 side p) (eqb-true e.object object q))
    by true false p q = rw (p, q) refl
    by false b p q = rw p refl

-- ---- a shadow with nothing

pub nothing-keeps : (shadow view : View PropertyKey Val) → shadow.extensible ≡ true → shadow.properties ≡ [] → KeepsFacts same_key shadow view
nothing-keeps shadow view e p = record {
  properties = λ key property at fixed. (let bad : None ≡ Some property = sym (ap (lookup (same_key key)) p) ∙ at in cc);
  closed = λ c. (let bad : true ≡ false = sym e ∙ c in cc);
  prototype = λ c. (let bad : true ≡ false = sym e ∙ c in cc);
  absent = λ c. (let bad : true ≡ false = sym e ∙ c in cc);
}

pub nothing-lean : (shadow : View PropertyKey Val) → shadow.properties ≡ [] → IsLean same_key shadow
nothing-lean shadow p e key property at = (let bad : None ≡ Some property = sym (ap (lookup (same_key key)) p) ∙ at in cc)

new-shadow : (d : Data) (c : Cell) (k : CellKind) (shape : Shape) → k ≡ Shadow shape → IsNew d c k → (c.extensible ≡ true) × (c.props ≡ [])
new-shadow d c k shape e h = subst (IsNew d c) e h

new-membrane : (d : Data) (c : Cell) (k : CellKind) (behind shadow : ObjId) → k ≡ Membrane behind shadow → IsNew d c k → length d.cells ≤ shadow.0
new-membrane d c k behind shadow e h = subst (IsNew d c) e h

-- ---- more proxies, and the same graph

-- what is seen through a proxy, and what was told of its object, stay
module _ (d d' : Data) (ids : HasItsIds d) (paired : Paired d) (apart : d.joined ≡ false) (from : PairedFrom d d') (becomes : Becomes d d' same_graph)
    (rest : d' ≡ record d { cells = d'.cells; halted = d'.halted }) where
  abbrev g : Grows d d'
  g = becomes.grows

  same-texts : d'.texts ≡ d.texts
  same-texts = ap (λ (x : Data). x.texts) rest

  same-entries : d'.entries ≡ d.entries
  same-entries = ap (λ (x : Data). x.entries) rest

  entries-stay : entries_in d' ≡ entries_in d
  entries-stay = ap (λ (t : List (List ℕ)). map (entry_in t) d'.entries) same-texts ∙ ap (map (entry_in d.texts)) same-entries

  pub told-stays : (side : Side) (id : ObjId) → ObjIn d id → told_of d' side id ≡ told_of d side id
  told-stays side id i =
      ap (λ es. Told (map deed_of es) side.0 (number_at (names_of d') id.0)) entries-stay
      ∙ ap (λ (n : ℕ). Told (map deed_of (entries_in d)) side.0 n) (g.same_number id i)

  pub through-stays : (proxy behind shadow : ObjId) (side : Side) → IsMembrane d proxy side behind shadow → IsMembrane d' proxy side behind shadow
      → view_through d' proxy ≡ view_through d proxy
  through-stays proxy behind shadow side m n =
      let i : ObjIn d proxy = slice_get_within d.cells proxy.0 m.cell m.there in
      let now : home_at d' proxy ≡ side = rw n.there n.home_is in
      let was : home_at d proxy ≡ side = rw m.there m.home_is in
      ap (λ (graph : Graph). ViewOf graph (home_at d' proxy).0 (object_in (names_of d') proxy)) (becomes.image [])
      ∙ ap (λ (s : Side). ViewOf (graph_of d) s.0 (object_in (names_of d') proxy)) (now ∙ sym was)
      ∙ ap (ViewOf (graph_of d) (home_at d proxy).0) (g.same_object proxy i)

  module _ (added : (id : ObjId) (c : Cell) → length d.cells ≤ id.0 → cell_at d' id ≡ Some c → IsAdded d d' c)
      (old : (proxy behind shadow : ObjId) (side : Side) → proxy.0 < length d.cells → IsMembrane d' proxy side behind shadow → IsMembrane d proxy side behind shadow) where
    -- nothing was told of what has a new proxy
    told-of-new : (proxy behind shadow : ObjId) (side : Side) → length d.cells ≤ proxy.0 → IsMembrane d' proxy side behind shadow → told_of d' side behind ≡ []
    told-of-new proxy behind shadow side new m =
        let number : ℕ = number_at (names_of d') behind.0 in
        ap (λ es. Told (map deed_of es) side.0 number) entries-stay
        ∙ told-none (map deed_of (entries_in d)) side.0 number (map deed_of (entries_in d)) (no-entries d side.0 number d.entries no)
      where
        no : (e : Entry) (n : ℕ) → slice_get d.entries n ≡ Some e → e.side.0 ≡ side.0 → e.object ≡ number_at (names_of d') behind.0 → ⊥
        no e n at s o =
            let p : HasProxyOf d e.side e.object = All-at (λ (e : Entry). HasProxyOf d e.side e.object) d.entries n e at (paired.proxy_of_entry apart) in
            let was = some-get (λ (c : Cell). stand c ≡ Counted) (cell_at d p.behind) (paired.behind_is_object p.id p.behind p.shadow e.side p.proxy) in
            let there : IsMembrane d' p.id e.side p.behind p.shadow = from.keeps p.id p.behind p.shadow e.side p.proxy in
            let one = some-get (λ (c : Cell). stand c ≡ Counted) (cell_at d' behind) (from.paired.behind_is_object proxy behind shadow side m) in
            let two = some-get (λ (c : Cell). stand c ≡ Counted) (cell_at d' p.behind) (from.paired.behind_is_object p.id p.behind p.shadow e.side there) in
            let i : ObjIn d p.behind = slice_get_within d.cells p.behind.0 was.0 was.1 in
            let number : number_at (names_of d') p.behind.0 ≡ e.object = g.same_number p.behind i ∙ serial-number d p.behind was.0 e.object was.1 was.2 p.number in
            let same : p.behind ≡ behind = number-apart d' p.behind behind two.0 one.0 two.1 one.1 two.2 one.2 (number ∙ o) in
            let side-is : e.side ≡ side = ap (λ n. let x : Side = record { 0 = n } in x) s in
            let mine : IsMembrane d' p.id side behind p.shadow = subst (λ (b : ObjId). IsMembrane d' p.id side b p.shadow) same (subst (λ (x : Side). IsMembrane d' p.id x p.behind p.shadow) side-is there) in
            let id : p.id ≡ proxy = from.paired.one_for_an_object p.id proxy behind p.shadow shadow side mine m in
            let within : p.id.0 < length d.cells = slice_get_within d.cells p.id.0 p.proxy.cell p.proxy.there in
            omega (arith, within, new, ap (λ (x : ObjId). x.0) id)

    pub shadowed-stays : ((proxy behind shadow : ObjId) (side : Side) (c c' : Cell) (view : View PropertyKey Val) → IsMembrane d proxy side behind shadow
        → cell_at d shadow ≡ Some c → cell_at d' shadow ≡ Some c' → view_through d proxy ≡ Some view → IsFaithful d side behind (cell_view (names_of d) c) view
        → IsFaithful d' side behind (cell_view (names_of d') c') view)
        → Shadowed d → Shadowed d'
    shadowed-stays stays h proxy behind shadow side c' view m there seen = elim (slice_get_cases d.cells proxy.0).1 [
      | inl q ↦ (
          let was : IsMembrane d proxy side behind shadow = old proxy behind shadow side (slice_get_within d.cells proxy.0 q.0 q.2) m in
          let saw : view_through d proxy ≡ Some view = sym (through-stays proxy behind shadow side was m) ∙ seen in
          elim (slice_get_cases d.cells shadow.0).1 [
            | inl r ↦ stays proxy behind shadow side r.0 c' view was r.2 there saw (h proxy behind shadow side r.0 view was r.2 saw)
            | inr r ↦ absurd (
                let w = All-at (CellIn d) d.cells proxy.0 was.cell was.there ids.cells_in in
                let k : ObjIn d behind × ObjIn d shadow = subst (KindIn d) was.kind_is w.kind_in in
                omega (arith, k.1, r.0))
          ])
      | inr q ↦ (
          let new = added proxy m.cell q.0 m.there in
          let l : length d.cells ≤ shadow.0 = new-membrane d m.cell m.cell.kind behind shadow m.kind_is new.new in
          let kind : HasItsKind d' m.cell.home (Membrane behind shadow) = subst (HasItsKind d' m.cell.home) m.kind_is new.formed.kind in
          let shape = some-is (λ (c : Cell). c.kind ≡ Shadow (shape_of_thing (thing_of d' behind))) (cell_at d' shadow) c' there kind in
          let empty = new-shadow d c' c'.kind (shape_of_thing (thing_of d' behind)) shape (added shadow c' l there).new in
          record {
            facts = nothing-keeps (cell_view (names_of d') c') view empty.0 (ap (map (pair (names_of d'))) empty.1);
            told = subst (λ (facts : List (Fact PropertyKey Val)). AllByRecursion (λ fact. Holds same_key fact (cell_view (names_of d') c')) facts) (sym (told-of-new proxy behind shadow side q.0 m)) tt;
          })
    ]

    -- and each shadow is lean
    pub lean-stays : ((id : ObjId) (c c' : Cell) (shape : Shape) → cell_at d id ≡ Some c → cell_at d' id ≡ Some c' → c.kind ≡ Shadow shape
        → IsLean same_key (cell_view (names_of d) c) → IsLean same_key (cell_view (names_of d') c'))
        → ((id : ObjId) (c c' : Cell) → cell_at d id ≡ Some c → cell_at d' id ≡ Some c' → c'.kind ≡ c.kind)
        → Lean d → Lean d'
    lean-stays stays kinds h id c' shape there kind = elim (slice_get_cases d.cells id.0).1 [
      | inl q ↦ (
          let was : q.0.kind ≡ Shadow shape = sym (kinds id q.0 c' q.2 there) ∙ kind in
          stays id q.0 c' shape q.2 there was (h id q.0 shape q.2 was))
      | inr q ↦ (
          let empty = new-shadow d c' c'.kind shape kind (added id c' q.0 there).new in
          nothing-lean (cell_view (names_of d') c') (ap (map (pair (names_of d'))) empty.1))
    ]

-- ---- what crossed

module _ (d d' : Data) (ids : HasItsIds d) (paired : Paired d) (apart : d.joined ≡ false) (h : Crossed d d') (from : PairedFrom d d') where
  same-cell : (id : ObjId) (c c' : Cell) → cell_at d id ≡ Some c → cell_at d' id ≡ Some c' → c ≡ c'
  same-cell id c c' e f = same-some (cell_at d' id) c c' (h.cells id c e) f

  same-view : (id : ObjId) (c c' : Cell) → cell_at d id ≡ Some c → cell_at d' id ≡ Some c' → cell_view (names_of d') c' ≡ cell_view (names_of d) c
  same-view id c c' e f =
      ap (cell_view (names_of d')) (sym (same-cell id c c' e f))
      ∙ view-grows d d' h.becomes.grows c (All-at (CellIn d) d.cells id.0 c e ids.cells_in)

  old-crossed : (proxy behind shadow : ObjId) (side : Side) → proxy.0 < length d.cells → IsMembrane d' proxy side behind shadow → IsMembrane d proxy side behind shadow
  old-crossed proxy behind shadow side l m = elim (slice_get_cases d.cells proxy.0).1 [
    | inl q ↦ (
        let same : q.0 ≡ m.cell = same-cell proxy q.0 m.cell q.2 m.there in
        record { cell = q.0; there = q.2; home_is = ap (λ (c : Cell). c.home) same ∙ m.home_is; kind_is = ap (λ (c : Cell). c.kind) same ∙ m.kind_is })
    | inr q ↦ absurd (omega (arith, q.0, l))
  ]

  pub crossing-keeps : (Shadowed d → Shadowed d') × (Lean d → Lean d')
  crossing-keeps = (
    shadowed-stays d d' ids paired apart from h.becomes h.rest h.added old-crossed
        (λ proxy behind shadow side c c' view m e f saw faithful.
        let within = All-at (CellIn d) d.cells proxy.0 m.cell m.there ids.cells_in in
        let k : ObjIn d behind × ObjIn d shadow = subst (KindIn d) m.kind_is within.kind_in in
        record {
          facts = subst (λ (v : View PropertyKey Val). KeepsFacts same_key v view) (sym (same-view shadow c c' e f)) faithful.facts;
          told = subst (λ (v : View PropertyKey Val). AllByRecursion (λ fact. Holds same_key fact v) (told_of d' side behind)) (sym (same-view shadow c c' e f))
              (subst (λ (facts : List (Fact PropertyKey Val)). AllByRecursion (λ fact. Holds same_key fact (cell_view (names_of d) c)) facts)
              (sym (told-stays d d' ids paired apart from h.becomes h.rest side behind k.0)) faithful.told);
        }),
    lean-stays d d' ids paired apart from h.becomes h.rest h.added old-crossed
        (λ id c c' shape e f k lean. subst (λ (v : View PropertyKey Val). IsLean same_key v) (sym (same-view id c c' e f)) lean)
        (λ id c c' e f. ap (λ (x : Cell). x.kind) (sym (same-cell id c c' e f))),
  )

-- ---- a shadow that followed

module _ (d d' : Data) (can : CanSee d) (proxy : ObjId) (p : IsProxy (cell_at d proxy)) (s : ObjId) (s-is : s ≡ shadow_at d proxy) (x : Part)
    (f : Followed d d' s) (followed : IsFollowed d d' proxy x) where
  -- the proxy with its shadow
  pub record Its : Type 0 where
    pub behind : ObjId
    pub membrane : IsMembrane d proxy (home_at d proxy) behind s
    pub cell : Cell
    pub there : cell_at d s ≡ Some cell
    pub home_is : cell.home ≡ home_at d proxy
    pub shadow_is : is_shadow cell.kind ≡ true

  parts-of : (k : CellKind) → is_membrane k ≡ true → (behind : ObjId) × (shadow : ObjId) × (k ≡ Membrane behind shadow)
  parts-of (Membrane behind shadow) h = (behind, shadow, refl)
  parts-of k h = cc

  its : Its
  its =
      let c = some-get (λ (c : Cell). is_membrane c.kind ≡ true) (cell_at d proxy) p in
      let k = parts-of c.0.kind c.2 in
      let home : home_at d proxy ≡ c.0.home = ap home_in c.1 in
      let is : k.1 ≡ s = sym (s-is ∙ ap (shadow_in proxy) c.1 ∙ ap (shadow_by proxy) k.2) in
      let two : HasItsTwo d c.0.home (Membrane k.0 k.1) = subst (HasItsTwo d c.0.home) k.2 (All-at (λ (y : Cell). HasItsTwo d y.home y.kind) d.cells proxy.0 c.0 c.1 can.can_cross.contained.two_of_proxies) in
      let q = some-get (λ (y : Cell). (y.home ≡ c.0.home) × (is_shadow y.kind ≡ true)) (cell_at d k.1) two.1 in
      record {
        behind = k.0;
        membrane = record { cell = c.0; there = c.1; home_is = sym home; kind_is = k.2 ∙ ap (Membrane k.0) is };
        cell = q.0;
        there = ap (cell_at d) (sym is) ∙ q.1;
        home_is = q.2.0 ∙ sym home;
        shadow_is = q.2.1;
      }

  within-s : ObjIn d s
  within-s = slice_get_within d.cells s.0 its.cell its.there

  -- other cells are as they were
  other-view : (id : ObjId) (c c' : Cell) → id ≢ s → cell_at d id ≡ Some c → cell_at d' id ≡ Some c' → cell_view (names_of d') c' ≡ cell_view (names_of d) c
  other-view id c c' n e g =
      ap (cell_view (names_of d')) (sym (same-some (cell_at d' id) c c' (f.cells id c n e) g))
      ∙ view-grows d d' f.becomes.grows c (All-at (CellIn d) d.cells id.0 c e can.ids.cells_in)

  old-followed : (q behind shadow : ObjId) (side : Side) → q.0 < length d.cells → IsMembrane d' q side behind shadow → IsMembrane d q side behind shadow
  old-followed q behind shadow side l m = elim (slice_get_cases d.cells q.0).1 [
    | inl r ↦ (
        let k = followed-faces d d' s f q r.0 r.2 in
        let same : k.0 ≡ m.cell = same-some (cell_at d' q) k.0 m.cell k.1 m.there in
        record { cell = r.0; there = r.2; home_is = sym k.2 ∙ ap (λ (c : Cell). c.home) same ∙ m.home_is; kind_is = sym k.3 ∙ ap (λ (c : Cell). c.kind) same ∙ m.kind_is })
    | inr r ↦ absurd (omega (arith, r.0, l))
  ]

  -- what the shadow became
  after-is : (c c' : Cell) (view : View PropertyKey Val) → cell_at d s ≡ Some c → cell_at d' s ≡ Some c' → view_through d proxy ≡ Some view
      → IsAfter (names_of d) x (cell_view (names_of d) c) view (cell_view (names_of d') c')
  after-is c c' view e g saw =
      let was : shadow_view d proxy ≡ Some (cell_view (names_of d) c) = ap (λ (o : ObjId). option_map (cell_view (names_of d)) (cell_at d o)) (sym s-is) ∙ ap (option_map (cell_view (names_of d))) e in
      let m : IsMembrane d' proxy (home_at d proxy) its.behind s = membrane-moves d d' (followed-faces d d' s f) proxy its.behind s (home_at d proxy) its.membrane in
      let is : shadow_at d' proxy ≡ s = ap (shadow_in proxy) m.there ∙ ap (shadow_by proxy) m.kind_is in
      let now : shadow_view d' proxy ≡ Some (cell_view (names_of d') c') = ap (λ (o : ObjId). option_map (cell_view (names_of d')) (cell_at d' o)) is ∙ ap (option_map (cell_view (names_of d'))) g in
      rw (saw, was, now) at followed

  told-still : (side : Side) (behind : ObjId) → ObjIn d behind → (v : View PropertyKey Val)
      → AllByRecursion (λ fact. Holds same_key fact v) (told_of d side behind) → AllByRecursion (λ fact. Holds same_key fact v) (told_of d' side behind)
  told-still side behind i v h = subst (λ (facts : List (Fact PropertyKey Val)). AllByRecursion (λ fact. Holds same_key fact v) facts)
      (sym (told-stays d d' can.ids can.can_cross.paired can.apart (followed-paired d d' s f) f.becomes f.rest side behind i)) h

  faithful-still : (q behind shadow : ObjId) (side : Side) (c c' : Cell) (view : View PropertyKey Val) → IsMembrane d q side behind shadow
      → cell_at d shadow ≡ Some c → cell_at d' shadow ≡ Some c' → view_through d q ≡ Some view → IsFaithful d side behind (cell_view (names_of d) c) view
      → IsFaithful d' side behind (cell_view (names_of d') c') view
  faithful-still q behind shadow side c c' view m e g saw h =
      let w = All-at (CellIn d) d.cells q.0 m.cell m.there can.ids.cells_in in
      let k : ObjIn d behind × ObjIn d shadow = subst (KindIn d) m.kind_is w.kind_in in
      elim (same-or-not shadow.0 s.0) [
        | inl z ↦ (
            let is : shadow ≡ s = obj-same shadow s z in
            let two : HasItsTwo d m.cell.home (Membrane behind shadow) = subst (HasItsTwo d m.cell.home) m.kind_is (All-at (λ (y : Cell). HasItsTwo d y.home y.kind) d.cells q.0 m.cell m.there can.can_cross.contained.two_of_proxies) in
            let c-home : c.home ≡ side = (some-is (λ (y : Cell). (y.home ≡ m.cell.home) × (is_shadow y.kind ≡ true)) (cell_at d shadow) c e two.1).0 ∙ m.home_is in
            let same : c ≡ its.cell = same-some (cell_at d s) c its.cell (ap (cell_at d) (sym is) ∙ e) its.there in
            let sides : home_at d proxy ≡ side = sym its.home_is ∙ ap (λ (y : Cell). y.home) (sym same) ∙ c-home in
            let one : IsMembrane d proxy side its.behind s = subst (λ (y : Side). IsMembrane d proxy y its.behind s) sides its.membrane in
            let other : IsMembrane d q side behind s = subst (λ (o : ObjId). IsMembrane d q side behind o) is m in
            let me : q ≡ proxy = can.can_cross.paired.one_for_a_shadow q proxy behind its.behind s side other one in
            let a = after-is c c' view (ap (cell_at d) (sym is) ∙ e) (ap (cell_at d') (sym is) ∙ g) (ap (view_through d) (sym me) ∙ saw) in
            let how = changed (names_of d) (cell_view (names_of d) c) view (cell_view (names_of d') c') x a in
            record {
              facts = changed-facts (names_of d) (cell_view (names_of d) c) view (cell_view (names_of d') c') h.facts how;
              told = told-still side behind k.0 (cell_view (names_of d') c')
                  (facts-hold (cell_view (names_of d) c) (cell_view (names_of d') c')
                  (changed-evolves (names_of d) (cell_view (names_of d) c) view (cell_view (names_of d') c') h.facts how) (told_of d side behind) h.told);
            })
        | inr n ↦ (
            let v = other-view shadow c c' (λ z. n (ap (λ (o : ObjId). o.0) z)) e g in
            record {
              facts = subst (λ (y : View PropertyKey Val). KeepsFacts same_key y view) (sym v) h.facts;
              told = subst (λ (y : View PropertyKey Val). AllByRecursion (λ fact. Holds same_key fact y) (told_of d' side behind)) (sym v)
                  (told-still side behind k.0 (cell_view (names_of d) c) h.told);
            })
      ]

  pub following-keeps : Shadowed d → Shadowed d'
  following-keeps h = shadowed-stays d d' can.ids can.can_cross.paired can.apart (followed-paired d d' s f) f.becomes f.rest f.added old-followed faithful-still h

  -- where something is seen through the proxy
  pub following-keeps-lean : (view : View PropertyKey Val) → view_through d proxy ≡ Some view → Lean d → Lean d'
  following-keeps-lean view saw h = lean-stays d d' can.ids can.can_cross.paired can.apart (followed-paired d d' s f) f.becomes f.rest f.added old-followed
      (λ id c c' shape e g k lean. elim (same-or-not id.0 s.0) [
        | inl z ↦ (
            let is : id ≡ s = obj-same id s z in
            let a = after-is c c' view (ap (cell_at d) (sym is) ∙ e) (ap (cell_at d') (sym is) ∙ g) saw in
            after-lean (names_of d) (cell_view (names_of d) c) view (cell_view (names_of d') c') x a lean)
        | inr n ↦ subst (λ (y : View PropertyKey Val). IsLean same_key y) (sym (other-view id c c' (λ z. n (ap (λ (o : ObjId). o.0) z)) e g)) lean
      ])
      (λ id c c' e g.
      let q = followed-faces d d' s f id c e in
      ap (λ (y : Cell). y.kind) (same-some (cell_at d' id) c' q.0 g q.1) ∙ q.3)
      h
