-- A world with a shadow more, and with a proxy whose shadow that is.
use Rattle.std.proofs.Common.{◌≡◌, ℕ, ◌<◌, ◌+◌, List, [], ◌∷◌, ◌++◌, length, slice_get, Some, None, true, false, refl, ap, sym, ◌∙◌, inl, inr, option_map, arith, length-append}
use Rattle.std.specs.Prelude.{All}
use Rattle.std.proofs.lemmas.Option.{slice_get_within}
use Rattle.std.proofs.lemmas.List.Elements.{All-cons, All-nil, All-push}
use Rattle.mb_base.specs.declared.value.ObjId.{ObjId}
use Rattle.mb_base.specs.declared.value.Side.{Side}
use Rattle.mb_base.specs.declared.value.Value.TheVariants as v
use Rattle.mb_world.specs.declared.cell.Cell.{Cell}
use Rattle.mb_world.specs.declared.cell.CellKind.TheVariants.{Membrane, Shadow, BuiltIn}
use Rattle.mb_world.specs.declared.cell.Shape.{Shape}
use Rattle.mb_world.specs.Objects.{shape_of_thing}
use Rattle.mb_world.specs.Data.{Data, Counted, stand, cell_at, with_cell, new_cell, obj_id, same_side, proxy_in, is_proxy_of}
use Rattle.mb_world.specs.Ids.{HasItsIds, CellIn, ObjIn, PropertyIn, Maybe, PairIn}
use Rattle.mb_world.specs.Grows.{Grows}
use Rattle.mb_world.specs.Laws.{Becomes, same_graph}
use Rattle.mb_world.specs.Contained.{IsOwn, IsMembrane, HasItsTwo, is_shadow}
use Rattle.mb_world.specs.Formed.{FormedCell, InRange, HasItsCallables, thing_of}
use Rattle.mb_world.proofs.Grow.{Grows-then, Hold-grows, Hold-cells, CellIn-grows, All-at}
use Rattle.mb_world.proofs.Making.{Grows-cell}
use Rattle.mb_world.proofs.AfterCalls.{of-hidden}
use Rattle.mb_maps.specs.Crossing.{with_shadow, with_proxy}
use Rattle.mb_maps.specs.Crossed.{CanCross, Crossed}
use Rattle.mb_maps.proofs.Lists.{at-last, at-either, some-get, position-there, same-nat}
use Rattle.mb_maps.proofs.Forming.{thing-stays}
use Rattle.mb_maps.proofs.Adding.{cells-stay, membrane-either, Contained-more, Paired-more, AreShared-more}

-- the new cells
abbrev pub shadow_cell : Data → Side → Shape → Cell
shadow_cell d side shape = new_cell d.texts side (Shadow shape) v.Null None

abbrev pub proxy_cell : Data → Side → ObjId → ObjId → Cell
proxy_cell d side behind shadow = new_cell d.texts side (Membrane behind shadow) v.Null None

-- ids of a world with one cell more
pub ids-more : (d : Data) (c : Cell) → HasItsIds d → CellIn d c → HasItsIds (with_cell d c)
ids-more d c h n =
    let d' : Data = with_cell d c in
    let g : Grows d d' = Grows-cell d c h.cells_in in
    let o = Hold-grows d d' g d.symbols d.programs d.cells d.scopes d.queues d.rules d.entries h in
    Hold-cells d' d.symbols d.programs d.cells d.scopes d.queues d.rules d.entries o (d.cells ++ (c ∷ []))
    (All-push (CellIn d') d.cells c o.cells_in (CellIn-grows d d' g c n))

pub becomes-then : (a b c : Data) → Becomes a b same_graph → Becomes b c same_graph → Becomes a c same_graph
becomes-then a b c g h = record {
  grows = Grows-then a b c g.grows h.grows;
  image = λ log. h.image log ∙ g.image log;
}

-- ---- the cells are formed, and of the world

module _ (d : Data) (side : Side) (few : side.0 < 8) where
  pub shadow-in : (shape : Shape) → CellIn d (shadow_cell d side shape)
  shadow-in shape = record {
    home_in = few;
    kind_in = tt;
    proto_in = tt;
    props_in = All-nil (PropertyIn d);
    label_in = tt;
    slots_in = All-nil (Maybe (PairIn d));
  }

  pub proxy-in : (behind shadow : ObjId) → ObjIn d behind → ObjIn d shadow → CellIn d (proxy_cell d side behind shadow)
  proxy-in behind shadow b s = record {
    home_in = few;
    kind_in = (b, s);
    proto_in = tt;
    props_in = All-nil (PropertyIn d);
    label_in = tt;
    slots_in = All-nil (Maybe (PairIn d));
  }

null-in-range : All InRange (v.Null ∷ [])
null-in-range = All-cons InRange v.Null [] tt (All-nil InRange)

pub shadow-formed : (d e : Data) (side : Side) (shape : Shape) → side.0 < d.sides → FormedCell d (shadow_cell e side shape)
shadow-formed d e side shape l = record {
  home = l;
  wholes = null-in-range;
  prototype = tt;
  callables = All-nil (λ p. HasItsCallables d p.1);
  array = tt;
  slots = refl;
  kind = tt;
}

pub proxy-formed : (d e : Data) (side : Side) (behind shadow : ObjId) (c : Cell) → side.0 < d.sides → cell_at d shadow ≡ Some c
    → c.kind ≡ Shadow (shape_of_thing (thing_of d behind)) → FormedCell d (proxy_cell e side behind shadow)
proxy-formed d e side behind shadow c l s k = record {
  home = l;
  wholes = null-in-range;
  prototype = tt;
  callables = All-nil (λ p. HasItsCallables d p.1);
  array = tt;
  slots = refl;
  kind = rw s k;
}

-- ---- a shadow more

module _ (d : Data) (side : Side) (id : ObjId) where
  abbrev one : Data
  one = with_shadow d side id

  abbrev shadow : Cell
  shadow = shadow_cell d side (shape_of_thing (thing_of d id))

  shadow-kind : (behind s : ObjId) → shadow.kind ≡ Membrane behind s → ⊥
  shadow-kind behind s e = cc

  pub can-shadow : HasItsIds d → CanCross d → CanCross one
  can-shadow ids h = record {
    sides = h.sides;
    contained = Contained-more d shadow h.contained (record {
      own = All-nil (IsOwn one side);
      two = tt;
      table = tt;
      first = λ place i x e. absurd (let z : shadow.kind ≡ BuiltIn place = e in cc);
    });
    paired = Paired-more d shadow h.paired (record {
      behind = λ behind s e. absurd (shadow-kind behind s e);
      other = λ behind s i t e. absurd (shadow-kind behind s e);
      free = λ behind s i a e. absurd (shadow-kind behind s e);
    }) (Grows-cell d shadow ids.cells_in);
    built_ins = AreShared-more d shadow h.built_ins (λ place e. cc);
  }

  pub crossed-shadow : side.0 < 8 → side.0 < d.sides → HasItsIds d → Crossed d one
  crossed-shadow few l ids = record {
    cells = cells-stay d shadow;
    rest = refl;
    added = λ i c n e. elim (at-either d.cells shadow i.0 c e) [
      | inl p ↦ absurd (let w = slice_get_within d.cells i.0 c p in omega arith)
      | inr p ↦ rw p.1 (record {
        new = (refl, refl);
        within = CellIn-grows d one (Grows-cell d shadow ids.cells_in) shadow (shadow-in d side few (shape_of_thing (thing_of d id)));
        formed = shadow-formed one d side (shape_of_thing (thing_of d id)) l;
      })
    ];
    becomes = of-hidden d side (Shadow (shape_of_thing (thing_of d id))) v.Null None ids refl;
    can_cross = can-shadow ids;
  }

  length-one : length one.cells ≡ length d.cells + 1
  length-one = length-append d.cells (shadow ∷ [])

  -- the new proxy
  pub proxy-last : cell_at (with_proxy d side id) (obj_id (length d.cells + 1)) ≡ Some (proxy_cell d side id (obj_id (length d.cells)))
  proxy-last =
      let c = proxy_cell d side id (obj_id (length d.cells)) in
      ap (slice_get (one.cells ++ (c ∷ []))) (sym length-one) ∙ at-last one.cells c

-- ---- a proxy more

-- the side has no proxy of that object
pub no-proxy : (cells : List Cell) (side : Side) (id : ObjId) → proxy_in cells side id ≡ None → (k : ℕ) (c : Cell) (s : ObjId)
    → slice_get cells k ≡ Some c → c.home ≡ side → c.kind ≡ Membrane id s → ⊥
no-proxy cells side id n k c s e h m =
    let passes : is_proxy_of side id c ≡ true = rw (h, m, same-nat side.0, same-nat id.0) refl in
    let q = position-there (is_proxy_of side id) cells k c e passes in
    let r : Some (obj_id q.0) ≡ None = ap (option_map obj_id) (sym q.1) ∙ n in cc

module _ (d : Data) (side : Side) (id : ObjId) (ids : HasItsIds d) (few : side.0 < 8) (takes-part : side.0 < d.sides)
    (x : Cell) (there : cell_at d id ≡ Some x) (counted : stand x ≡ Counted) (foreign : same_side x.home side ≡ false)
    (unshadowed : is_shadow x.kind ≡ false) (none : proxy_in d.cells side id ≡ None) where
  abbrev first : Data
  first = with_shadow d side id

  abbrev both : Data
  both = with_proxy d side id

  abbrev its-shadow : Cell
  its-shadow = shadow_cell d side (shape_of_thing (thing_of d id))

  abbrev its-id : ObjId
  its-id = obj_id (length d.cells)

  abbrev proxy : Cell
  proxy = proxy_cell d side id its-id

  within : id.0 < length d.cells
  within = slice_get_within d.cells id.0 x there

  ids-first : HasItsIds first
  ids-first = ids-more d its-shadow ids (shadow-in d side few (shape_of_thing (thing_of d id)))

  shadow-first : cell_at first its-id ≡ Some its-shadow
  shadow-first = at-last d.cells its-shadow

  shadow-both : cell_at both its-id ≡ Some its-shadow
  shadow-both = cells-stay first proxy its-id its-shadow shadow-first

  there-both : cell_at both id ≡ Some x
  there-both = cells-stay first proxy id x (cells-stay d its-shadow id x there)

  length-first : length first.cells ≡ length d.cells + 1
  length-first = length-append d.cells (its-shadow ∷ [])

  proxy-first : CellIn first proxy
  proxy-first = proxy-in first side few id its-id (let e = length-first in let w = within in omega arith) (let e = length-first in omega arith)

  old : (i b s : ObjId) (home : Side) → IsMembrane first i home b s → IsMembrane d i home b s
  old i b s home m = elim (membrane-either d its-shadow i b s home m) [ inl p ↦ p | inr p ↦ absurd (let z : its-shadow.kind ≡ Membrane b s = p.2 in cc) ]

  grows-both : Grows first both
  grows-both = Grows-cell first proxy ids-first.cells_in

  same-parts : (b s : ObjId) → proxy.kind ≡ Membrane b s → (b ≡ id) × (s ≡ its-id)
  same-parts b s e = let p : id ≡ b = cc in let q : its-id ≡ s = cc in (sym p, sym q)

  pub can-proxy : CanCross d → CanCross both
  can-proxy h =
      let k = can-shadow d side id ids h in
      record {
        sides = h.sides;
        contained = Contained-more first proxy k.contained (record {
          own = All-nil (IsOwn both side);
          two = (rw there-both (foreign, unshadowed), rw shadow-both (refl, refl));
          table = tt;
          first = λ place i y e. absurd (let z : proxy.kind ≡ BuiltIn place = e in cc);
        });
        paired = Paired-more first proxy k.paired (record {
          behind = λ b s e. rw ((same-parts b s e).0, there-both) counted;
          other = λ b s i t e m.
              let o = old i b t side m in
              no-proxy d.cells side id none i.0 o.cell t o.there o.home_is (o.kind_is ∙ ap (λ (z : ObjId). Membrane z t) (same-parts b s e).0);
          free = λ b s i a e m.
              let o = old i a s side m in
              let two : HasItsTwo d o.cell.home o.cell.kind = All-at (λ (c : Cell). HasItsTwo d c.home c.kind) d.cells i.0 o.cell o.there h.contained.two_of_proxies in
              let its : HasItsTwo d o.cell.home (Membrane a s) = rw o.kind_is at two in
              let y = some-get (λ (c : Cell). (c.home ≡ o.cell.home) × (is_shadow c.kind ≡ true)) (cell_at d s) its.1 in
              let w = slice_get_within d.cells s.0 y.0 y.1 in
              let z : s.0 ≡ length d.cells = ap (λ (n : ObjId). n.0) (same-parts b s e).1 in
              omega arith;
        }) grows-both;
        built_ins = AreShared-more first proxy k.built_ins (λ place e. cc);
      }

  becomes-first : Becomes d first same_graph
  becomes-first = of-hidden d side (Shadow (shape_of_thing (thing_of d id))) v.Null None ids refl

  becomes-both : Becomes d both same_graph
  becomes-both = becomes-then d first both becomes-first (of-hidden first side (Membrane id its-id) v.Null None ids-first refl)

  pub crossed-proxy : Crossed d both
  crossed-proxy = record {
    cells = λ i c e. cells-stay first proxy i c (cells-stay d its-shadow i c e);
    rest = refl;
    added = λ i c n e. elim (at-either first.cells proxy i.0 c e) [
      | inl p ↦ elim (at-either d.cells its-shadow i.0 c p) [
        | inl q ↦ absurd (let w = slice_get_within d.cells i.0 c q in omega arith)
        | inr q ↦ rw q.1 (record {
          new = (refl, refl);
          within = shadow-in both side few (shape_of_thing (thing_of d id));
          formed = shadow-formed both d side (shape_of_thing (thing_of d id)) takes-part;
        })
      ]
      | inr p ↦ rw p.1 (record {
        new = omega arith;
        within = CellIn-grows first both grows-both proxy proxy-first;
        formed = proxy-formed both d side id its-id its-shadow takes-part shadow-both
            (ap (λ t. Shadow (shape_of_thing t)) (sym (thing-stays d both becomes-both id within)));
      })
    ];
    becomes = becomes-both;
    can_cross = can-proxy;
  }
