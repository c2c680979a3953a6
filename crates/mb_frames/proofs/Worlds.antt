-- Worlds that a step of a home keeps: nothing changes, and two steps.
use Rattle.mb_base.specs.declared.value.Side.{Side}
use Rattle.mb_frames.specs.Wholeness.{KeepsCell, KeepsKind, KeptWorld, cell_view, key_sort}
use Rattle.mb_view.proofs.Sorted.{sorted-refl, sorted-trans}
use Rattle.mb_world.proofs.Grow.{Grows-same, Grows-then}
use Rattle.mb_world.specs.Contained.{Contained, Paired}
use Rattle.mb_world.specs.Data.{Data}
use Rattle.mb_world.specs.Image.{names_of}
use Rattle.mb_world.specs.Key.{same_key}
use Rattle.mb_world.specs.declared.cell.Cell.{Cell}
use Rattle.mb_world.specs.declared.cell.CellKind.{CellKind}
use Rattle.mb_world.specs.declared.cell.CellKind.TheVariants as kind
use Rattle.std.proofs.Common.{None, Some, inl, inr, refl, ◌∙◌}

pub kind-same : (k : CellKind) → KeepsKind k k
kind-same kind.Plain = refl
kind-same kind.Array = refl
kind-same (kind.Function code) = refl
kind-same (kind.BuiltIn place) = refl
kind-same (kind.Fault e) = refl
kind-same (kind.Proxy None handler shape) = refl
kind-same (kind.Proxy (Some target) handler shape) = inl refl
kind-same (kind.Revoker proxy) = refl
kind-same (kind.Membrane behind shadow) = refl
kind-same (kind.Shadow shape) = refl
kind-same (kind.Collection coll) = refl

kind-then : (a b c : CellKind) → KeepsKind a b → KeepsKind b c → KeepsKind a c
kind-then kind.Plain b c h k = rw h at k
kind-then kind.Array b c h k = rw h at k
kind-then (kind.Function code) b c h k = rw h at k
kind-then (kind.BuiltIn place) b c h k = rw h at k
kind-then (kind.Fault e) b c h k = rw h at k
kind-then (kind.Proxy None handler shape) b c h k = rw h at k
kind-then (kind.Proxy (Some target) handler shape) b c h k = elim h [ inl r ↦ rw r at k | inr r ↦ inr (rw r at k) ]
kind-then (kind.Revoker proxy) b c h k = rw h at k
kind-then (kind.Membrane behind shadow) b c h k = rw h at k
kind-then (kind.Shadow shape) b c h k = rw h at k
kind-then (kind.Collection coll) b c h k = rw h at k

pub cell-same : (d : Data) (c : Cell) → KeepsCell d d c c
cell-same d c = record {
  home = refl;
  label = refl;
  kind = kind-same c.kind;
  evolves = sorted-refl same_key key_sort (cell_view (names_of d) c);
}

cell-then : (d1 d2 d3 : Data) (c1 c2 c3 : Cell) → KeepsCell d1 d2 c1 c2 → KeepsCell d2 d3 c2 c3
    → KeepsCell d1 d3 c1 c3
cell-then d1 d2 d3 c1 c2 c3 h k = record {
  home = k.home ∙ h.home;
  label = k.label ∙ h.label;
  kind = kind-then c1.kind c2.kind c3.kind h.kind k.kind;
  evolves = sorted-trans same_key key_sort (cell_view (names_of d1) c1) (cell_view (names_of d2) c2)
      (cell_view (names_of d3) c3) h.evolves k.evolves;
}

pub Kept-same : (home : Side) (d : Data) → Contained d → Paired d → KeptWorld home d d
Kept-same home d c p = record {
  contained = c;
  paired = record { paired = p; keeps = λ id behind shadow side h. h };
  rules = refl;
  entries = refl;
  revoked = refl;
  joined = refl;
  membrane = λ id x h. (λ e. e, λ e. e);
  resolves = Grows-same d;
  opposite = refl;
  cells = λ id x e. (x, e, cell-same d x);
}

pub Kept-then : (home : Side) (d1 d2 d3 : Data) → KeptWorld home d1 d2 → KeptWorld home d2 d3 → KeptWorld home d1 d3
Kept-then home d1 d2 d3 h k = record {
  contained = k.contained;
  paired = record {
    paired = k.paired.paired;
    keeps = λ id behind shadow side m. k.paired.keeps id behind shadow side (h.paired.keeps id behind shadow side m);
  };
  rules = k.rules ∙ h.rules;
  entries = k.entries ∙ h.entries;
  revoked = k.revoked ∙ h.revoked;
  joined = k.joined ∙ h.joined;
  membrane = λ id x m. (
    λ e. (k.membrane id x m).0 ((h.membrane id x m).0 e),
    λ e. (h.membrane id x m).1 ((k.membrane id x m).1 e),
  );
  resolves = Grows-then d1 d2 d3 h.resolves k.resolves;
  opposite = k.opposite ∙ h.opposite;
  cells = λ id x e.
      let a = h.cells id x e in
      let b = k.cells id a.0 a.1 in
      (b.0, b.1, cell-then d1 d2 d3 x a.0 b.0 a.2 b.2);
}
