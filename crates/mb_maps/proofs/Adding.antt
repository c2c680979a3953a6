-- A world with one cell more.
use Rattle.std.proofs.Common.{◌≡◌, ℕ, List, [], ◌∷◌, ◌++◌, length, slice_get, Option, Some, None, Bool, true, false, refl, ap, sym, ◌∙◌, ◌⊎◌, inl, inr, option_map, is_some}
use Rattle.std.specs.Prelude.{All, IsSomeAnd, position}
use Rattle.std.proofs.lemmas.Option.{slice_get_within, slice_get-map, get_or_from_slice_get}
use Rattle.std.proofs.lemmas.List.Elements.{All-weaker, All-append, All-cons, All-nil}
use Rattle.mb_base.specs.declared.value.ObjId.{ObjId}
use Rattle.mb_base.specs.declared.value.Side.{Side}
use Rattle.mb_world.specs.declared.cell.Cell.{Cell}
use Rattle.mb_world.specs.declared.cell.CellKind.{CellKind}
use Rattle.mb_world.specs.declared.cell.CellKind.TheVariants.{Membrane, BuiltIn}
use Rattle.mb_world.specs.declared.entry.Entry.{Entry}
use Rattle.mb_world.specs.declared.scope.Scope.{Scope}
use Rattle.mb_world.specs.declared.scope.Job.{Job}
use Rattle.mb_world.specs.Data.{Data, Hidden, Counted, AtPlace, same_side, stand, stands, cell_at, with_cell, serial_of, queue_of, obj_id, serves, number_if, is_counted}
use Rattle.mb_world.specs.Grows.{Grows}
use Rattle.mb_world.specs.Contained.{Contained, Paired, IsOwn, HasItsTwo, IsOfTable, IsMembrane, HasProxyOf, in_cell, in_scope, in_job, is_shadow}
use Rattle.mb_world.proofs.Firsts.{position-push}
use Rattle.mb_maps.specs.Crossed.{KeepsCells, AreShared}
use Rattle.mb_maps.proofs.Lists.{at-old, at-either, some-stays, some-get, obj-same}

-- ---- what stays where each cell stays

module _ (d d' : Data) (k : KeepsCells d d') where
  pub own-stays : (side : Side) (o : ObjId) → IsOwn d side o → IsOwn d' side o
  own-stays side o h = some-stays (λ (c : Cell). (c.home ≡ side) × (is_shadow c.kind ≡ false)) (cell_at d o) (cell_at d' o) (k o) h

  pub owns-stay : (side : Side) (os : List ObjId) → All (IsOwn d side) os → All (IsOwn d' side) os
  owns-stay side os h = All-weaker (IsOwn d side) (IsOwn d' side) (own-stays side) os h

  pub two-stay : (side : Side) (kind : CellKind) → HasItsTwo d side kind → HasItsTwo d' side kind
  two-stay side (Membrane behind shadow) h = (
    some-stays (λ (c : Cell). (same_side c.home side ≡ false) × (is_shadow c.kind ≡ false)) (cell_at d behind) (cell_at d' behind) (k behind) h.0,
    some-stays (λ (c : Cell). (c.home ≡ side) × (is_shadow c.kind ≡ true)) (cell_at d shadow) (cell_at d' shadow) (k shadow) h.1,
  )
  two-stay side kind h = h

  pub membrane-stays : (id behind shadow : ObjId) (side : Side) → IsMembrane d id side behind shadow → IsMembrane d' id side behind shadow
  membrane-stays id behind shadow side m = record { cell = m.cell; there = k id m.cell m.there; home_is = m.home_is; kind_is = m.kind_is }

  stand-at : (d : Data) (id : ObjId) (c : Cell) → cell_at d id ≡ Some c → slice_get (stands d.cells) id.0 ≡ Some (stand c)
  stand-at d id c e = slice_get-map stand d.cells id.0 ∙ ap (option_map stand) e

  pub serial-stays : Grows d d' → (id : ObjId) (c : Cell) → cell_at d id ≡ Some c → serial_of d'.cells id ≡ serial_of d.cells id
  serial-stays g id c e =
      rw (
        get_or_from_slice_get (stands d'.cells) id.0 (stand c) Hidden (stand-at d' id c (k id c e)),
        get_or_from_slice_get (stands d.cells) id.0 (stand c) Hidden (stand-at d id c e),
      ) (ap (number_if (is_counted (stand c))) (g.same_number id (slice_get_within d.cells id.0 c e)))

  pub has-proxy-stays : Grows d d' → Paired d → (side : Side) (serial : ℕ) → HasProxyOf d side serial → HasProxyOf d' side serial
  has-proxy-stays g p side serial h =
      let b = some-get (λ (c : Cell). stand c ≡ Counted) (cell_at d h.behind) (p.behind_is_object h.id h.behind h.shadow side h.proxy) in
      record {
        id = h.id;
        behind = h.behind;
        shadow = h.shadow;
        proxy = membrane-stays h.id h.behind h.shadow side h.proxy;
        number = serial-stays g h.behind b.0 b.1 ∙ h.number;
      }

-- ---- one cell more

module _ (d : Data) (c : Cell) where
  abbrev pub more : Data
  more = with_cell d c

  pub cells-stay : KeepsCells d more
  cells-stay id x e = at-old d.cells c id.0 x e

  pub membrane-either : (id behind shadow : ObjId) (side : Side) → IsMembrane more id side behind shadow
      → IsMembrane d id side behind shadow ⊎ ((id.0 ≡ length d.cells) × (c.home ≡ side) × (c.kind ≡ Membrane behind shadow))
  membrane-either id behind shadow side m = elim (at-either d.cells c id.0 m.cell m.there) [
    | inl e ↦ inl (record { cell = m.cell; there = e; home_is = m.home_is; kind_is = m.kind_is })
    | inr e ↦ inr (e.0, ap (λ (x : Cell). x.home) (sym e.1) ∙ m.home_is, ap (λ (x : Cell). x.kind) (sym e.1) ∙ m.kind_is)
  ]

  -- what it asks of the new cell that each side still holds only its own
  pub record MayBeThere : Type 0 where
    pub own : All (IsOwn more c.home) (in_cell c)
    pub two : HasItsTwo more c.home c.kind
    pub table : IsOfTable c.kind
    pub first : (place : ℕ) (id : ObjId) (x : Cell) → c.kind ≡ BuiltIn place → cell_at d id ≡ Some x → x.home ≡ c.home → x.kind ≡ BuiltIn place → ⊥

  pub Contained-more : Contained d → MayBeThere → Contained more
  Contained-more h n = record {
    cells_own = All-append (λ (x : Cell). All (IsOwn more x.home) (in_cell x)) d.cells (c ∷ [])
        (All-weaker (λ (x : Cell). All (IsOwn d x.home) (in_cell x)) (λ (x : Cell). All (IsOwn more x.home) (in_cell x)) (λ x. owns-stay d more cells-stay x.home (in_cell x)) d.cells h.cells_own)
        (All-cons (λ (x : Cell). All (IsOwn more x.home) (in_cell x)) c [] n.own (All-nil (λ (x : Cell). All (IsOwn more x.home) (in_cell x))));
    two_of_proxies = All-append (λ (x : Cell). HasItsTwo more x.home x.kind) d.cells (c ∷ [])
        (All-weaker (λ (x : Cell). HasItsTwo d x.home x.kind) (λ (x : Cell). HasItsTwo more x.home x.kind) (λ x. two-stay d more cells-stay x.home x.kind) d.cells h.two_of_proxies)
        (All-cons (λ (x : Cell). HasItsTwo more x.home x.kind) c [] n.two (All-nil (λ (x : Cell). HasItsTwo more x.home x.kind)));
    scopes_own = All-weaker (λ (s : Scope). All (IsOwn d s.home) (in_scope s)) (λ (s : Scope). All (IsOwn more s.home) (in_scope s)) (λ s. owns-stay d more cells-stay s.home (in_scope s)) d.scopes h.scopes_own;
    jobs_own = λ side l. All-weaker (λ (x : Job). All (IsOwn d side) (in_job x)) (λ (x : Job). All (IsOwn more side) (in_job x)) (λ x. owns-stay d more cells-stay side (in_job x)) (queue_of d side) (h.jobs_own side l);
    of_table = All-append (λ (x : Cell). IsOfTable x.kind) d.cells (c ∷ []) h.of_table (All-cons (λ (x : Cell). IsOfTable x.kind) c [] n.table (All-nil (λ (x : Cell). IsOfTable x.kind)));
    one_for_a_place = λ i k place x e ix ke home xk ek. elim (at-either d.cells c i.0 x ix) [
      | inl p ↦ elim (at-either d.cells c k.0 e ke) [
        | inl q ↦ h.one_for_a_place i k place x e p q home xk ek
        | inr q ↦ absurd (n.first place i x (ap (λ (y : Cell). y.kind) (sym q.1) ∙ ek) p (home ∙ ap (λ (y : Cell). y.home) q.1) xk)
      ]
      | inr p ↦ elim (at-either d.cells c k.0 e ke) [
        | inl q ↦ absurd (n.first place k e (ap (λ (y : Cell). y.kind) (sym p.1) ∙ xk) q (sym home ∙ ap (λ (y : Cell). y.home) p.1) ek)
        | inr q ↦ obj-same i k (p.0 ∙ sym q.0)
      ]
    ];
  }

  -- and that it is one more of the pairs: another object is behind it, and its shadow is its own
  pub record MayBePaired : Type 0 where
    pub behind : (behind shadow : ObjId) → c.kind ≡ Membrane behind shadow → IsSomeAnd (cell_at more behind) (λ x. stand x ≡ Counted)
    pub other : (behind shadow id t : ObjId) → c.kind ≡ Membrane behind shadow → IsMembrane d id c.home behind t → ⊥
    pub free : (behind shadow id a : ObjId) → c.kind ≡ Membrane behind shadow → IsMembrane d id c.home a shadow → ⊥

  pub Paired-more : Paired d → MayBePaired → Grows d more → Paired more
  Paired-more h n g = record {
    behind_is_object = λ id behind shadow side m. elim (membrane-either id behind shadow side m) [
      | inl p ↦ some-stays (λ (x : Cell). stand x ≡ Counted) (cell_at d behind) (cell_at more behind) (cells-stay behind) (h.behind_is_object id behind shadow side p)
      | inr p ↦ n.behind behind shadow p.2
    ];
    one_for_an_object = λ i k behind s t side m o. elim (membrane-either i behind s side m) [
      | inl p ↦ elim (membrane-either k behind t side o) [
        | inl q ↦ h.one_for_an_object i k behind s t side p q
        | inr q ↦ absurd (n.other behind t i s q.2 (rw (sym q.1) at p))
      ]
      | inr p ↦ elim (membrane-either k behind t side o) [
        | inl q ↦ absurd (n.other behind s k t p.2 (rw (sym p.1) at q))
        | inr q ↦ obj-same i k (p.0 ∙ sym q.0)
      ]
    ];
    one_for_a_shadow = λ i k a b shadow side m o. elim (membrane-either i a shadow side m) [
      | inl p ↦ elim (membrane-either k b shadow side o) [
        | inl q ↦ h.one_for_a_shadow i k a b shadow side p q
        | inr q ↦ absurd (n.free b shadow i a q.2 (rw (sym q.1) at p))
      ]
      | inr p ↦ elim (membrane-either k b shadow side o) [
        | inl q ↦ absurd (n.free a shadow k b p.2 (rw (sym p.1) at q))
        | inr q ↦ obj-same i k (p.0 ∙ sym q.0)
      ]
    ];
    proxy_of_entry = λ j. All-weaker (λ (e : Entry). HasProxyOf d e.side e.object) (λ (e : Entry). HasProxyOf more e.side e.object)
        (λ e. has-proxy-stays d more cells-stay g h e.side e.object) d.entries (h.proxy_of_entry j);
  }

  built-in-stays : (p : Cell → Bool) (o : Option ℕ) → position p d.cells ≡ o → is_some (option_map obj_id o) ≡ true
      → is_some (option_map obj_id (position p (d.cells ++ (c ∷ [])))) ≡ true
  built-in-stays p None e h = cc
  built-in-stays p (Some n) e h = rw (position-push p d.cells c, e) refl

  -- what isn't a built-in leaves those that sides share
  pub AreShared-more : AreShared d → ((place : ℕ) → stand c ≡ AtPlace place → ⊥) → AreShared more
  AreShared-more h n id x place side e s l = elim (at-either d.cells c id.0 x e) [
    | inl p ↦ built-in-stays (serves false side place) (position (serves false side place) d.cells) refl (h id x place side p s l)
    | inr p ↦ absurd (n place (ap stand (sym p.1) ∙ s))
  ]
