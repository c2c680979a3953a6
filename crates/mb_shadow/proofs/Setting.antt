-- A world with another cell in the place of one of that home and kind.
use Rattle.std.proofs.Common.{◌≡◌, ◌≢◌, Option, Some, None, true, false, refl, ap, sym, ◌∙◌, inl, inr, is_some, subst}
use Rattle.std.specs.Prelude.{All}
use Rattle.std.proofs.lemmas.List.Elements.{All-weaker, All-set}
use Rattle.mb_base.specs.declared.value.ObjId.{ObjId}
use Rattle.mb_base.specs.declared.value.Side.{Side}
use Rattle.mb_world.specs.declared.cell.Cell.{Cell}
use Rattle.mb_world.specs.declared.cell.CellKind.{CellKind}
use Rattle.mb_world.specs.declared.entry.Entry.{Entry}
use Rattle.mb_world.specs.declared.scope.Scope.{Scope}
use Rattle.mb_world.specs.declared.scope.Job.{Job}
use Rattle.mb_world.specs.Data.{Data, kind_stand, stands, cell_at, queue_of, set_cell, built_in_of}
use Rattle.mb_world.specs.Contained.{Contained, Paired, PairedFrom, IsOwn, HasItsTwo, IsOfTable, IsMembrane, HasProxyOf, in_cell, in_scope, in_job}
use Rattle.mb_world.proofs.Grow.{All-at}
use Rattle.mb_world.proofs.Stands.{stands-set}
use Rattle.mb_maps.specs.Crossed.{CanCross, AreShared}
use Rattle.mb_maps.proofs.Lists.{obj-same, same-some}
use Rattle.mb_maps.proofs.Counterparts.{built-in-is, built-in-found}
use Rattle.mb_shadow.proofs.Cells.{get-set, get-other, same-or-not, KeepsFaces, owns-move, two-move, counted-moves, membrane-moves}

module _ (a : Data) (id : ObjId) (c x : Cell) (there : cell_at a id ≡ Some c) (home : x.home ≡ c.home) (kind : x.kind ≡ c.kind) where
  abbrev pub b : Data
  b = set_cell a id x

  pub set-there : cell_at b id ≡ Some x
  set-there = get-set a.cells id.0 c x there

  pub set-other : (i : ObjId) → i ≢ id → cell_at b i ≡ cell_at a i
  set-other i n = get-other a.cells id.0 i.0 x (λ e. n (obj-same i id e))

  pub set-faces : KeepsFaces a b
  set-faces i y e = elim (same-or-not i.0 id.0) [
    | inl s ↦ (
        let is : i ≡ id = obj-same i id s in
        let same : c ≡ y = same-some (cell_at a id) c y there (ap (cell_at a) (sym is) ∙ e) in
        (x, ap (cell_at b) is ∙ set-there, home ∙ ap (λ (z : Cell). z.home) same, kind ∙ ap (λ (z : Cell). z.kind) same))
    | inr n ↦ (y, get-other a.cells id.0 i.0 x n ∙ e, refl, refl)
  ]

  -- and each was there
  pub set-back : KeepsFaces b a
  set-back i y e = elim (same-or-not i.0 id.0) [
    | inl s ↦ (
        let is : i ≡ id = obj-same i id s in
        let same : x ≡ y = same-some (cell_at b id) x y set-there (ap (cell_at b) (sym is) ∙ e) in
        (c, ap (cell_at a) is ∙ there, sym home ∙ ap (λ (z : Cell). z.home) same, sym kind ∙ ap (λ (z : Cell). z.kind) same))
    | inr n ↦ (y, sym (get-other a.cells id.0 i.0 x n) ∙ e, refl, refl)
  ]

  pub same-stands : stands b.cells ≡ stands a.cells
  same-stands = stands-set a.cells id.0 c x there (ap kind_stand kind)

  set-contained : Contained a → All (IsOwn a c.home) (in_cell x) → Contained b
  set-contained h own = record {
    cells_own = All-set (λ (y : Cell). All (IsOwn b y.home) (in_cell y)) a.cells id.0 x
        (subst (λ (s : Side). All (IsOwn b s) (in_cell x)) (sym home) (owns-move a b set-faces c.home (in_cell x) own))
        (All-weaker (λ (y : Cell). All (IsOwn a y.home) (in_cell y)) (λ (y : Cell). All (IsOwn b y.home) (in_cell y)) (λ y. owns-move a b set-faces y.home (in_cell y)) a.cells h.cells_own);
    two_of_proxies = All-set (λ (y : Cell). HasItsTwo b y.home y.kind) a.cells id.0 x
        (subst (λ (s : Side). HasItsTwo b s x.kind) (sym home) (subst (λ (k : CellKind). HasItsTwo b c.home k) (sym kind) (two-move a b set-faces c.home c.kind (All-at (λ (y : Cell). HasItsTwo a y.home y.kind) a.cells id.0 c there h.two_of_proxies))))
        (All-weaker (λ (y : Cell). HasItsTwo a y.home y.kind) (λ (y : Cell). HasItsTwo b y.home y.kind) (λ y. two-move a b set-faces y.home y.kind) a.cells h.two_of_proxies);
    scopes_own = All-weaker (λ (s : Scope). All (IsOwn a s.home) (in_scope s)) (λ (s : Scope). All (IsOwn b s.home) (in_scope s)) (λ s. owns-move a b set-faces s.home (in_scope s)) a.scopes h.scopes_own;
    jobs_own = λ side l. All-weaker (λ (j : Job). All (IsOwn a side) (in_job j)) (λ (j : Job). All (IsOwn b side) (in_job j)) (λ j. owns-move a b set-faces side (in_job j)) (queue_of a side) (h.jobs_own side l);
    of_table = All-set (λ (y : Cell). IsOfTable y.kind) a.cells id.0 x (subst IsOfTable (sym kind) (All-at (λ (y : Cell). IsOfTable y.kind) a.cells id.0 c there h.of_table)) h.of_table;
    one_for_a_place = λ i k place y z e f homes one two.
        let p = set-back i y e in
        let q = set-back k z f in
        h.one_for_a_place i k place p.0 q.0 p.1 q.1 (p.2 ∙ homes ∙ sym q.2) (p.3 ∙ one) (q.3 ∙ two);
  }

  membrane-back : (i behind shadow : ObjId) (side : Side) → IsMembrane b i side behind shadow → IsMembrane a i side behind shadow
  membrane-back i behind shadow side m = membrane-moves b a set-back i behind shadow side m

  set-paired : Paired a → Paired b
  set-paired h = record {
    behind_is_object = λ i behind shadow side m. counted-moves a b set-faces behind (h.behind_is_object i behind shadow side (membrane-back i behind shadow side m));
    one_for_an_object = λ i k behind s t side m n. h.one_for_an_object i k behind s t side (membrane-back i behind s side m) (membrane-back k behind t side n);
    one_for_a_shadow = λ i k p q shadow side m n. h.one_for_a_shadow i k p q shadow side (membrane-back i p shadow side m) (membrane-back k q shadow side n);
    proxy_of_entry = λ j. All-weaker (λ (e : Entry). HasProxyOf a e.side e.object) (λ (e : Entry). HasProxyOf b e.side e.object)
        (λ e p. record {
          id = p.id;
          behind = p.behind;
          shadow = p.shadow;
          proxy = membrane-moves a b set-faces p.id p.behind p.shadow e.side p.proxy;
          number = rw same-stands p.number;
        }) a.entries (h.proxy_of_entry j);
  }

  set-shared : Contained b → AreShared a → AreShared b
  set-shared cb h i y place side e at l =
      let q = set-back i y e in
      by (built_in_of false a.cells side place) refl (h i q.0 place side q.1 (ap kind_stand q.3 ∙ at) l)
    where
      by : (o : Option ObjId) → built_in_of false a.cells side place ≡ o → is_some (built_in_of false a.cells side place) ≡ true → is_some (built_in_of false b.cells side place) ≡ true
      by None f some = (let bad : false ≡ true = ap is_some (sym f) ∙ some in cc)
      by (Some o) f some =
          let p = built-in-is a side place o f in
          let q = set-faces o p.cell p.there in
          ap is_some (built-in-found b cb side place o (record { cell = q.0; there = q.1; home_is = q.2 ∙ p.home_is; kind_is = q.3 ∙ p.kind_is }))

  pub set-can_cross : CanCross a → All (IsOwn a c.home) (in_cell x) → CanCross b
  set-can_cross h own =
      let cb : Contained b = set-contained h.contained own in
      record { sides = h.sides; contained = cb; paired = set-paired h.paired; built_ins = set-shared cb h.built_ins }

  pub set-paired_from : CanCross b → PairedFrom a b
  set-paired_from h = record { paired = h.paired; keeps = membrane-moves a b set-faces }
