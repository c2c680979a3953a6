-- What following leaves, step by step.
use Rattle.std.proofs.Common.{◌≡◌, ◌≢◌, ◌≤◌, length, Some, true, refl, ap, sym, ◌∙◌, inl, inr, arith}
use Rattle.std.specs.Prelude.{All}
use Rattle.std.proofs.lemmas.Option.{slice_get_cases, slice_get_within}
use Rattle.std.proofs.lemmas.List.{length-set}
use Rattle.mb_base.specs.declared.value.ObjId.{ObjId}
use Rattle.mb_world.specs.declared.cell.Cell.{Cell}
use Rattle.mb_world.specs.declared.cell.CellKind.{CellKind}
use Rattle.mb_world.specs.declared.cell.CellKind.TheVariants.{Membrane, Shadow}
use Rattle.mb_world.specs.Data.{Data, cell_at, set_cell}
use Rattle.mb_world.specs.Ids.{CellIn, ObjIn}
use Rattle.mb_world.specs.Contained.{IsOwn, PairedFrom, in_cell, is_shadow}
use Rattle.mb_world.specs.Formed.{FormedCell}
use Rattle.mb_world.proofs.Grow.{All-at, CellIn-grows}
use Rattle.mb_maps.specs.Crossing.{halted}
use Rattle.mb_maps.specs.Crossed.{Crossed, IsAdded, IsNew}
use Rattle.mb_maps.proofs.Lists.{same-some}
use Rattle.mb_maps.proofs.NewProxies.{becomes-then}
use Rattle.mb_maps.proofs.Worlds.{crossed-same, crossed-halted}
use Rattle.mb_shadow.specs.Seeing.{CanSee}
use Rattle.mb_shadow.specs.Following.{Followed, KeepsShadow}
use Rattle.mb_shadow.proofs.Cells.{KeepsFaces, membrane-moves, same-or-not}
use Rattle.mb_shadow.proofs.Setting.{set-there, set-other}
use Rattle.mb_shadow.proofs.Sees.{can-see-crossed, set-becomes, can-see-set}

keeps-same : (c : Cell) → KeepsShadow c c
keeps-same c = record { home = refl; kind = refl; label = refl; slots = refl }

keeps-then : (a b c : Cell) → KeepsShadow a b → KeepsShadow b c → KeepsShadow a c
keeps-then a b c h k = record { home = k.home ∙ h.home; kind = k.kind ∙ h.kind; label = k.label ∙ h.label; slots = k.slots ∙ h.slots }

-- ---- what crossed

pub followed-crossed : (d d' : Data) (s : ObjId) → CanSee d → Crossed d d' → Followed d d' s
followed-crossed d d' s can h = record {
  cells = λ id c n e. h.cells id c e;
  shadow_stays = λ c e. (c, h.cells s c e, keeps-same c);
  rest = h.rest;
  added = h.added;
  becomes = h.becomes;
  can_see = can-see-crossed d d' can h;
}

pub followed-same : (d : Data) (s : ObjId) → CanSee d → Followed d d s
followed-same d s can = followed-crossed d d s can (crossed-same d)

-- ---- one after the other

new-earlier : (a b : Data) → length a.cells ≤ length b.cells → (c : Cell) (k : CellKind) → IsNew b c k → IsNew a c k
new-earlier a b l c (Shadow shape) h = h
new-earlier a b l c (Membrane behind shadow) h = omega arith
new-earlier a b l c k h = h

pub followed-then : (a b c : Data) (s : ObjId) → ObjIn a s → Followed a b s → Followed b c s → Followed a c s
followed-then a b c s l g h = record {
  cells = λ id x n e. h.cells id x n (g.cells id x n e);
  shadow_stays = λ x e.
      let q = g.shadow_stays x e in
      let r = h.shadow_stays q.0 q.1 in
      (r.0, r.1, keeps-then x q.0 r.0 q.2 r.2);
  rest = h.rest ∙ ap (λ (d : Data). let r : Data = record d { cells = c.cells; halted = c.halted } in r) g.rest;
  added = λ id x n e. elim (slice_get_cases b.cells id.0).1 [
    | inl q ↦ (
        let other : id ≢ s = λ z. (let w : id.0 ≡ s.0 = ap (λ (o : ObjId). o.0) z in omega (arith, w, n, l)) in
        let same : q.0 ≡ x = same-some (cell_at c id) q.0 x (h.cells id q.0 other q.2) e in
        let was : IsAdded a b q.0 = g.added id q.0 n q.2 in
        rw (sym same) (record {
          new = was.new;
          within = CellIn-grows b c h.becomes.grows q.0 was.within;
          formed = All-at (FormedCell c) c.cells id.0 q.0 (h.cells id q.0 other q.2) h.can_see.cells;
        }))
    | inr q ↦ (
        let is : IsAdded b c x = h.added id x q.0 e in
        record { new = new-earlier a b g.becomes.grows.cells_in x x.kind is.new; within = is.within; formed = is.formed })
  ];
  becomes = becomes-then a b c g.becomes h.becomes;
  can_see = h.can_see;
}

-- what crossed before, and what crossed after
pub crossed-followed : (a b c : Data) (s : ObjId) → ObjIn a s → CanSee a → Crossed a b → Followed b c s → Followed a c s
crossed-followed a b c s l can g h = followed-then a b c s l (followed-crossed a b s can g) h

pub followed-halted : (a b : Data) (s : ObjId) → ObjIn a s → Followed a b s → Followed a (halted b) s
followed-halted a b s l h = followed-then a b (halted b) s l h (followed-crossed b (halted b) s h.can_see (crossed-halted b))

pub halted-done : (d d1 : Data) (s : ObjId) → CanSee d → ObjIn d s → d1 ≡ halted d → Followed d d1 s
halted-done d d1 s can l e = rw e (followed-halted d d s l (followed-same d s can))

-- ---- the shadow is written

module _ (d : Data) (id : ObjId) (c x : Cell) (can : CanSee d) (there : cell_at d id ≡ Some c) (keeps : KeepsShadow c x)
    (shadow : is_shadow c.kind ≡ true) (own : All (IsOwn d c.home) (in_cell x)) (within : CellIn d x) (formed : FormedCell d x) where
  pub followed-set : Followed d (set_cell d id x) id
  followed-set = record {
    cells = λ i y n e. set-other d id c x there keeps.home keeps.kind i n ∙ e;
    shadow_stays = λ y e.
        let same : c ≡ y = same-some (cell_at d id) c y there e in
        (x, set-there d id c x there keeps.home keeps.kind, rw (sym same) keeps);
    rest = refl;
    added = λ i y n e. absurd (let w = slice_get_within (set_cell d id x).cells i.0 y e in omega (arith, w, n, length-set d.cells id.0 x));
    becomes = set-becomes d id c x can there keeps.home keeps.kind own within formed shadow;
    can_see = can-see-set d id c x can there keeps.home keeps.kind own within formed shadow;
  }

-- ---- proxies

pub followed-faces : (a b : Data) (s : ObjId) → Followed a b s → KeepsFaces a b
followed-faces a b s h id c e = elim (same-or-not id.0 s.0) [
  | inl z ↦ (
      let is : id ≡ s = ap (λ n. let o : ObjId = record { 0 = n } in o) z in
      let q = h.shadow_stays c (ap (cell_at a) (sym is) ∙ e) in
      (q.0, ap (cell_at b) is ∙ q.1, q.2.home, q.2.kind))
  | inr n ↦ (c, h.cells id c (λ z. n (ap (λ (o : ObjId). o.0) z)) e, refl, refl)
]

pub followed-paired : (a b : Data) (s : ObjId) → Followed a b s → PairedFrom a b
followed-paired a b s h = record {
  paired = h.can_see.can_cross.paired;
  keeps = λ id behind shadow side m. membrane-moves a b (followed-faces a b s h) id behind shadow side m;
}
