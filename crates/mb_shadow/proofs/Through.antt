-- Where what is seen through a proxy comes from.
use Rattle.std.proofs.Common.{◌≡◌, ◌<◌, ℕ, [], ◌∷◌, length, slice_get, Option, Some, None, true, false, refl, ap, sym, ◌∙◌, subst, true≢false, option_map}
use Rattle.std.specs.Prelude.{All, IsSomeAnd}
use Rattle.std.proofs.lemmas.Option.{slice_get-map, slice_get_within}
use Rattle.std.proofs.lemmas.List.Elements.{All-head}
use Rattle.mb_base.specs.declared.value.ObjId.{ObjId}
use Rattle.mb_base.specs.declared.value.Side.{Side}
use Rattle.mb_world.specs.declared.cell.Cell.{Cell}
use Rattle.mb_world.specs.declared.cell.CellKind.{CellKind}
use Rattle.mb_world.specs.declared.cell.CellKind.TheVariants as kind
use Rattle.mb_world.specs.declared.cell.CellKind.TheVariants.{BuiltIn, Proxy, Membrane}
use Rattle.mb_world.specs.declared.cell.Shape.{Shape}
use Rattle.mb_world.specs.Graph as graph
use Rattle.mb_world.specs.Graph.{Graph, Thing, Kind}
use Rattle.mb_world.specs.Objects.{thing_at, is_proxy_kind, shape_of_kind}
use Rattle.mb_world.specs.View.{ViewOf, Shown, view_if, view_by_kind}
use Rattle.mb_world.specs.Data.{Data, Stand, Counted, AtPlace, Before, Hidden, kind_stand, stand, stands, is_counted, is_object_cell, cell_at}
use Rattle.mb_world.specs.Image.{Names, names_of, object_in, stood, kind_in, thing_in, object_of, object_at, owner_by}
use Rattle.mb_world.specs.Contained.{IsOwn, IsMembrane, HasItsTwo, in_cell, in_kind, is_shadow}
use Rattle.mb_world.specs.Formed.{FormedCell, HasItsKind, thing_of}
use Rattle.mb_world.proofs.Grow.{All-at}
use Rattle.mb_world.proofs.AfterCalls.{thing-at}
use Rattle.mb_rules.specs.Seen.{graph_of}
use Rattle.mb_ordinary.specs.Objects.{is_ordinary}
use Rattle.mb_ordinary.proofs.InTheGraph.{of-numbered}
use Rattle.mb_maps.specs.Crossing.{meant}
use Rattle.mb_maps.proofs.Lists.{some-get, some-is, All-left}
use Rattle.mb_maps.proofs.Counterparts.{IsReal, IsMeant, meant-is}
use Rattle.mb_shadow.specs.Seeing.{CanSee, home_at, shadow_at, view_through}
use Rattle.mb_shadow.specs.declared.sight.Sight.{Sight}
use Rattle.mb_shadow.specs.machine.Sights.{IsSight, IsShadow, view_of}

-- ---- kinds

pub counted-object : (c : Cell) → stand c ≡ Counted → is_object_cell c ≡ true
counted-object c h = ap is_counted h

real-plain : (k : CellKind) → IsReal (kind_stand k) → is_shadow k ≡ false
real-plain (kind.Shadow shape) h = absurd h
real-plain k h = refl

real-ordinary : (n : Names) (k : CellKind) → IsReal (kind_stand k) → ((t h : Option ObjId) (s : Shape) → k ≡ Proxy t h s → ⊥) → is_ordinary k ≡ true
real-ordinary n (Proxy target handler shape) h p = absurd (p target handler shape refl)
real-ordinary n (Membrane behind shadow) h p = absurd h
real-ordinary n k h p = refl

-- a kind of a world that is no script-made Proxy is none of the graph
not-proxy : (n : Names) (c : Cell) → ((t h : Option ObjId) (s : Shape) → c.kind ≡ Proxy t h s → ⊥) → is_proxy_kind (kind_in n c.slots c.kind) ≡ false
not-proxy n c p = by c.kind p
  where
    by : (k : CellKind) → ((t h : Option ObjId) (s : Shape) → k ≡ Proxy t h s → ⊥) → is_proxy_kind (kind_in n c.slots k) ≡ false
    by (Proxy t h s) p = absurd (p t h s refl)
    by k p = refl

proxy-kind : (n : Names) (c : Cell) (t h : Option ObjId) (s : Shape) → c.kind ≡ Proxy t h s → is_proxy_kind (kind_in n c.slots c.kind) ≡ true
proxy-kind n c t h s e = by t h c.kind e
  where
    by : (t h : Option ObjId) (k : CellKind) → k ≡ Proxy t h s → is_proxy_kind (kind_in n c.slots k) ≡ true
    by (Some t) (Some h) k e = rw e refl
    by (Some t) None k e = rw e refl
    by None h k e = rw e refl

at-place-is : (k : CellKind) (n : ℕ) → kind_stand k ≡ AtPlace n → k ≡ BuiltIn n
at-place-is (BuiltIn place) n h = cc
at-place-is k n h = cc

-- ---- the object of a cell

stand-at : (d : Data) (id : ObjId) (c : Cell) → cell_at d id ≡ Some c → slice_get (stands d.cells) id.0 ≡ Some (stand c)
stand-at d id c e = slice_get-map stand d.cells id.0 ∙ ap (option_map stand) e

-- a real cell is the object that a reference to it stands for
pub object-there : (d : Data) → CanSee d → (id : ObjId) (c : Cell) → cell_at d id ≡ Some c → IsReal (stand c)
    → thing_at (graph_of d) (object_in (names_of d) id) ≡ object_at d id
object-there d can id c e r = by (stand c) refl r
  where
    n : Names
    n = names_of d

    by : (s : Stand) → stand c ≡ s → IsReal s → thing_at (graph_of d) (object_in (names_of d) id) ≡ object_at d id
    by Counted s r = sym (of-numbered d id c [] e (counted-object c s))
    by (AtPlace place) s r =
        let k : c.kind ≡ BuiltIn place = at-place-is c.kind place s in
        let t : Thing = thing_in (names_of d) c in
        ap (thing_at (graph_of d)) (ap (stood (names_of d) id.0) (stand-at d id c e ∙ ap Some s))
        ∙ sym (can.standard id c place e k)
        ∙ ap (λ (k : CellKind). let u : Thing = record t { owner = owner_by k c.home } in Some u) (sym k)
        ∙ sym (ap (option_map (object_of (names_of d))) e)
    by (Before n) s r = absurd r
    by Hidden s r = absurd r

-- ---- views

plain-view : (g : Graph) (side : ℕ) (t : Thing) (k : Kind) → is_proxy_kind k ≡ false → view_by_kind g side t k ≡ Some (Shown g side t)
plain-view g side t (graph.Proxy target handler shape) h = absurd (true≢false h)
plain-view g side t (graph.Gone shape) h = absurd (true≢false h)
plain-view g side t k h = refl

module _ (d : Data) (can : CanSee d) (proxy : ObjId) (p : Cell) (at : cell_at d proxy ≡ Some p) (behind shadow : ObjId)
    (membrane : p.kind ≡ Membrane behind shadow) (b : Cell) (there : cell_at d behind ≡ Some b) where
  abbrev n : Names
  n = names_of d

  abbrev g : Graph
  g = graph_of d

  is-proxy : IsMembrane d proxy p.home behind shadow
  is-proxy = record { cell = p; there = at; home_is = refl; kind_is = membrane }

  pub behind-counted : stand b ≡ Counted
  behind-counted = some-is (λ (c : Cell). stand c ≡ Counted) (cell_at d behind) b there (can.can_cross.paired.behind_is_object proxy behind shadow p.home is-proxy)

  pub means-behind : object_in n proxy ≡ object_in n behind
  means-behind =
      ap (stood n proxy.0) (stand-at d proxy p at ∙ ap (λ (k : CellKind). Some (kind_stand k)) membrane)
      ∙ sym (ap (stood n behind.0) (stand-at d behind b there ∙ ap Some behind-counted))

  home-is : home_at d proxy ≡ p.home
  home-is = rw at refl

  -- the view is that of the cell behind
  pub view-behind : view_through d proxy ≡ view_by_kind g p.home.0 (thing_in n b) (kind_in n b.slots b.kind)
  view-behind =
      ap (λ (s : Side). ViewOf g s.0 (object_in n proxy)) home-is
      ∙ ap (ViewOf g p.home.0) means-behind
      ∙ ap (view_if g p.home.0) (thing-at d behind b [] there (counted-object b behind-counted))

  two : HasItsTwo d p.home (Membrane behind shadow)
  two = subst (HasItsTwo d p.home) membrane (All-at (λ (c : Cell). HasItsTwo d c.home c.kind) d.cells proxy.0 p at can.can_cross.contained.two_of_proxies)

  pub its-shadow : IsShadow (cell_at d shadow)
  its-shadow = let s = some-get (λ (c : Cell). (c.home ≡ p.home) × (is_shadow c.kind ≡ true)) (cell_at d shadow) two.1 in rw s.1 s.2.1

  pub its-home : home_at d shadow ≡ p.home
  its-home = let s = some-get (λ (c : Cell). (c.home ≡ p.home) × (is_shadow c.kind ≡ true)) (cell_at d shadow) two.1 in rw s.1 s.2.0

  takes-part : p.home.0 < d.sides
  takes-part = (All-at (FormedCell d) d.cells proxy.0 p at can.cells).home

  -- ---- an object that is no script-made Proxy
  module _ (other : (t h : Option ObjId) (s : Shape) → b.kind ≡ Proxy t h s → ⊥) where
    abbrev mine : Sight
    mine = record { object = behind; viewer = p.home; home = p.home; shadow = shadow }

    pub plain-seen : view_through d proxy ≡ view_of d mine
    plain-seen =
        view-behind
        ∙ plain-view g p.home.0 (thing_in n b) (kind_in n b.slots b.kind) (not-proxy n b other)
        ∙ ap (option_map (Shown g p.home.0)) (sym (thing-at d behind b [] there (counted-object b behind-counted)) ∙ object-there d can behind b there (rw behind-counted tt))

    pub plain-sight : IsSight d mine
    plain-sight = record {
      cell = b;
      there = there;
      ordinary = real-ordinary n b.kind (rw behind-counted tt) other;
      real = real-plain b.kind (rw behind-counted tt);
      takes_part = takes-part;
      viewer_there = takes-part;
      shadow_there = its-shadow;
      shadow_home = its-home;
    }

  -- ---- a script-made Proxy with a target
  module _ (target handler : ObjId) (shape : Shape) (scripted : b.kind ≡ Proxy (Some target) (Some handler) shape) where
    abbrev owners : Sight
    owners = record { object = meant d target; viewer = b.home; home = p.home; shadow = shadow }

    own-target : IsOwn d b.home target
    own-target =
        let all : All (IsOwn d b.home) (in_cell b) = All-at (λ (c : Cell). All (IsOwn d c.home) (in_cell c)) d.cells behind.0 b there can.can_cross.contained.cells_own in
        let first : All (IsOwn d b.home) (in_kind b.kind) = All-left (IsOwn d b.home) (in_kind b.kind) _ (All-left (IsOwn d b.home) _ _ (All-left (IsOwn d b.home) _ _ all)) in
        let has : All (IsOwn d b.home) (in_kind (Proxy (Some target) (Some handler) shape)) = subst (λ (k : CellKind). All (IsOwn d b.home) (in_kind k)) scripted first in
        All-head (IsOwn d b.home) target (handler ∷ []) has

    cell-target : (c : Cell) × (cell_at d target ≡ Some c) × ((c.home ≡ b.home) × (is_shadow c.kind ≡ false))
    cell-target = some-get (λ (c : Cell). (c.home ≡ b.home) × (is_shadow c.kind ≡ false)) (cell_at d target) own-target

    abbrev m : IsMeant d target (meant d target) cell-target.0
    m = meant-is d can.can_cross.paired target cell-target.0 cell-target.1 cell-target.2.1

    -- the target's object
    pub target-object : thing_at g (object_in n target) ≡ object_at d (meant d target)
    target-object = ap (thing_at g) m.means ∙ object-there d can (meant d target) m.cell m.there m.real

    pub target-seen : view_through d proxy ≡ view_of d owners
    target-seen =
        view-behind
        ∙ ap (λ (k : CellKind). view_by_kind g p.home.0 (thing_in n b) (kind_in n b.slots k)) scripted
        ∙ ap (option_map (Shown g b.home.0)) target-object

    target-plain : IsSomeAnd (thing_of d target) (λ t. (is_proxy_kind t.kind ≡ false) × (shape_of_kind t.kind ≡ shape))
    target-plain = subst (HasItsKind d b.home) scripted (All-at (FormedCell d) d.cells behind.0 b there can.cells).kind

    no-proxy : (t h : Option ObjId) (s : Shape) → m.cell.kind ≡ Proxy t h s → ⊥
    no-proxy t h s e =
        let is : thing_of d target ≡ Some (object_of n m.cell) = target-object ∙ ap (option_map (object_of n)) m.there in
        let no = some-is (λ (t : Thing). (is_proxy_kind t.kind ≡ false) × (shape_of_kind t.kind ≡ shape)) (thing_of d target) (object_of n m.cell) is target-plain in
        true≢false (sym (proxy-kind n m.cell t h s e) ∙ no.0)

    pub target-sight : IsSight d owners
    target-sight = record {
      cell = m.cell;
      there = m.there;
      ordinary = real-ordinary n m.cell.kind m.real no-proxy;
      real = real-plain m.cell.kind m.real;
      takes_part = takes-part;
      viewer_there = (All-at (FormedCell d) d.cells behind.0 b there can.cells).home;
      shadow_there = its-shadow;
      shadow_home = its-home;
    }

    pub target-in : target.0 < length d.cells
    target-in = slice_get_within d.cells target.0 cell-target.0 cell-target.1

  -- ---- a script-made Proxy without one
  pub gone-seen : (h : Option ObjId) (s : Shape) → b.kind ≡ Proxy None h s → view_through d proxy ≡ None
  gone-seen h s e = view-behind ∙ ap (λ (k : CellKind). view_by_kind g p.home.0 (thing_in n b) (kind_in n b.slots k)) e

  -- one with a target has a handler
  handler-of : (target : ObjId) (shape : Shape) (h : Option ObjId) → HasItsKind d b.home (Proxy (Some target) h shape) → (handler : ObjId) × (h ≡ Some handler)
  handler-of target shape (Some handler) k = (handler, refl)
  handler-of target shape None k = absurd k

  pub with-handler : (target : ObjId) (h : Option ObjId) (shape : Shape) → b.kind ≡ Proxy (Some target) h shape → (handler : ObjId) × (b.kind ≡ Proxy (Some target) (Some handler) shape)
  with-handler target h shape e =
      let q = handler-of target shape h (subst (HasItsKind d b.home) e (All-at (FormedCell d) d.cells behind.0 b there can.cells).kind) in
      (q.0, e ∙ ap (λ (h : Option ObjId). Proxy (Some target) h shape) q.1)

-- ---- the same, as the code has it

home-some : (o : Option Cell) (c : Cell) (home : Side) → o ≡ Some c → option_map (λ (x : Cell). x.home) o ≡ Some home → c.home ≡ home
home-some o c home e h = let f : Some c.home ≡ Some home = rw e at h in cc

module _ (d : Data) (can : CanSee d) (proxy : ObjId) (p : Cell) (at : cell_at d proxy ≡ Some p) (behind shadow : ObjId)
    (membrane : p.kind ≡ Membrane behind shadow) (b : Cell) (there : cell_at d behind ≡ Some b)
    (home : Side) (home-is : option_map (λ (x : Cell). x.home) (cell_at d proxy) ≡ Some home) where
  same : p.home ≡ home
  same = home-some (cell_at d proxy) p home at home-is

  pub home-as : home ≡ home_at d proxy
  home-as = rw at (sym same)

  pub shadow-as : shadow ≡ shadow_at d proxy
  shadow-as = rw (at, membrane) refl

  abbrev of_plain : Side → Sight
  of_plain s = record { object = behind; viewer = s; home = s; shadow = shadow }

  pub plain-seen-as : ((t h : Option ObjId) (s : Shape) → b.kind ≡ Proxy t h s → ⊥) → view_through d proxy ≡ view_of d (of_plain home)
  plain-seen-as other = subst (λ (s : Side). view_through d proxy ≡ view_of d (of_plain s)) same (plain-seen d can proxy p at behind shadow membrane b there other)

  pub plain-sight-as : ((t h : Option ObjId) (s : Shape) → b.kind ≡ Proxy t h s → ⊥) → IsSight d (of_plain home)
  plain-sight-as other = subst (λ (s : Side). IsSight d (of_plain s)) same (plain-sight d can proxy p at behind shadow membrane b there other)

  module _ (t h : Option ObjId) (shape : Shape) (scripted : b.kind ≡ Proxy t h shape) where
    pub gone-seen-as : t ≡ None → view_through d proxy ≡ None
    gone-seen-as e = gone-seen d can proxy p at behind shadow membrane b there h shape (rw e at scripted)

    module _ (target : ObjId) (some : t ≡ Some target) where
      has : (handler : ObjId) × (b.kind ≡ Proxy (Some target) (Some handler) shape)
      has = with-handler d can proxy p at behind shadow membrane b there target h shape (rw some at scripted)

      pub target-in-as : target.0 < length d.cells
      target-in-as = target-in d can proxy p at behind shadow membrane b there target has.0 shape has.1

      module _ (viewer : Side) (viewer-is : option_map (λ (x : Cell). x.home) (cell_at d behind) ≡ Some viewer) (object : ObjId) (object-is : object ≡ meant d target) where
        abbrev of_target : ObjId → Side → Side → Sight
        of_target o v s = record { object = o; viewer = v; home = s; shadow = shadow }

        same-viewer : b.home ≡ viewer
        same-viewer = home-some (cell_at d behind) b viewer there viewer-is

        pub target-seen-as : view_through d proxy ≡ view_of d (of_target object viewer home)
        target-seen-as =
            subst (λ (o : ObjId). view_through d proxy ≡ view_of d (of_target o viewer home)) (sym object-is)
            (subst (λ (v : Side). view_through d proxy ≡ view_of d (of_target (meant d target) v home)) same-viewer
            (subst (λ (s : Side). view_through d proxy ≡ view_of d (of_target (meant d target) b.home s)) same
            (target-seen d can proxy p at behind shadow membrane b there target has.0 shape has.1)))

        pub target-sight-as : IsSight d (of_target object viewer home)
        target-sight-as =
            subst (λ (o : ObjId). IsSight d (of_target o viewer home)) (sym object-is)
            (subst (λ (v : Side). IsSight d (of_target (meant d target) v home)) same-viewer
            (subst (λ (s : Side). IsSight d (of_target (meant d target) b.home s)) same
            (target-sight d can proxy p at behind shadow membrane b there target has.0 shape has.1)))
