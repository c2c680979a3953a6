-- What several crossings leave, and worlds that differ in what crossing doesn't read.
use Rattle.std.proofs.Common.{◌≡◌, ℕ, ◌≤◌, List, length, Option, Some, Bool, true, refl, ap, sym, ◌∙◌, inl, inr, arith}
use Rattle.std.proofs.lemmas.Option.{slice_get_within, slice_get_cases}
use Rattle.std.proofs.lemmas.List.Elements.{All-weaker}
use Rattle.mb_base.specs.declared.value.ObjId.{ObjId}
use Rattle.mb_base.specs.declared.value.Side.{Side}
use Rattle.mb_base.specs.declared.value.StrId.{StrId}
use Rattle.mb_world.specs.declared.cell.Cell.{Cell}
use Rattle.mb_world.specs.declared.cell.CellKind.{CellKind}
use Rattle.mb_world.specs.declared.cell.CellKind.TheVariants.{Membrane, Shadow}
use Rattle.mb_world.specs.declared.entry.Entry.{Entry}
use Rattle.mb_world.specs.declared.rule.Rule.{Rule}
use Rattle.mb_world.specs.Data.{Data, Script, cell_at}
use Rattle.mb_world.specs.Contained.{Contained, Paired, PairedFrom, IsMembrane, HasProxyOf}
use Rattle.mb_world.proofs.Grow.{Grows-same, CellIn-grows}
use Rattle.mb_world.proofs.AfterCalls.{of-halted}
use Rattle.mb_maps.specs.Crossing.{halted}
use Rattle.mb_maps.specs.Crossed.{CanCross, Crossed, IsAdded, IsNew, KeepsCells}
use Rattle.mb_maps.specs.Laws.{CrossedInSteps}
use Rattle.mb_maps.proofs.Lists.{same-some}
use Rattle.mb_maps.proofs.Adding.{membrane-stays}
use Rattle.mb_maps.proofs.NewProxies.{becomes-then}
use Rattle.mb_maps.proofs.Forming.{formed-stays}

pub crossed-same : (d : Data) → Crossed d d
crossed-same d = record {
  cells = λ id c e. e;
  rest = refl;
  added = λ id c n e. absurd (let w = slice_get_within d.cells id.0 c e in omega arith);
  becomes = record { grows = Grows-same d; image = λ log. refl };
  can_cross = λ h. h;
}

new-earlier : (a b : Data) → length a.cells ≤ length b.cells → (c : Cell) (k : CellKind) → IsNew b c k → IsNew a c k
new-earlier a b l c (Shadow shape) h = h
new-earlier a b l c (Membrane behind shadow) h = omega arith
new-earlier a b l c k h = h

pub crossed-then : (a b c : Data) → Crossed a b → Crossed b c → Crossed a c
crossed-then a b c g h = record {
  cells = λ id x e. h.cells id x (g.cells id x e);
  rest = h.rest ∙ ap (λ (d : Data). let r : Data = record d { cells = c.cells; halted = c.halted } in r) g.rest;
  added = λ id x n e. elim (slice_get_cases b.cells id.0).1 [
    | inl q ↦ (
        let there : cell_at b id ≡ Some q.0 = q.2 in
        let same : q.0 ≡ x = same-some (cell_at c id) q.0 x (h.cells id q.0 there) e in
        let was : IsAdded a b q.0 = g.added id q.0 n there in
        rw (sym same) (record {
          new = was.new;
          within = CellIn-grows b c h.becomes.grows q.0 was.within;
          formed = formed-stays b c h.cells h.rest h.becomes q.0 was.within was.formed;
        }))
    | inr q ↦ (
        let is : IsAdded b c x = h.added id x q.0 e in
        record { new = new-earlier a b g.becomes.grows.cells_in x x.kind is.new; within = is.within; formed = is.formed })
  ];
  becomes = becomes-then a b c g.becomes h.becomes;
  can_cross = λ k. h.can_cross (g.can_cross k);
}

-- ---- the world has other texts, symbols, scripts, rules and marks

module _ (d : Data) (texts : List (List ℕ)) (symbols : List (Option StrId)) (programs : List (Option Script)) (rules : List Rule) (revoked halts : Bool) where
  abbrev pub beside : Data
  beside = record d { texts = texts; symbols = symbols; programs = programs; rules = rules; revoked = revoked; halted = halts }

  membrane-from : (id behind shadow : ObjId) (side : Side) → IsMembrane beside id side behind shadow → IsMembrane d id side behind shadow
  membrane-from id behind shadow side m = record { cell = m.cell; there = m.there; home_is = m.home_is; kind_is = m.kind_is }

  membrane-to : (id behind shadow : ObjId) (side : Side) → IsMembrane d id side behind shadow → IsMembrane beside id side behind shadow
  membrane-to id behind shadow side m = record { cell = m.cell; there = m.there; home_is = m.home_is; kind_is = m.kind_is }

  paired-beside : Paired d → Paired beside
  paired-beside h = record {
    behind_is_object = λ id b s side m. h.behind_is_object id b s side (membrane-from id b s side m);
    one_for_an_object = λ i k b s t side m n. h.one_for_an_object i k b s t side (membrane-from i b s side m) (membrane-from k b t side n);
    one_for_a_shadow = λ i k a b s side m n. h.one_for_a_shadow i k a b s side (membrane-from i a s side m) (membrane-from k b s side n);
    proxy_of_entry = λ j. All-weaker (λ (e : Entry). HasProxyOf d e.side e.object) (λ (e : Entry). HasProxyOf beside e.side e.object)
        (λ e p. record { id = p.id; behind = p.behind; shadow = p.shadow; proxy = membrane-to p.id p.behind p.shadow e.side p.proxy; number = p.number })
        d.entries (h.proxy_of_entry j);
  }

  contained-beside : Contained d → Contained beside
  contained-beside h = record {
    cells_own = h.cells_own;
    two_of_proxies = h.two_of_proxies;
    scopes_own = h.scopes_own;
    jobs_own = h.jobs_own;
    of_table = h.of_table;
    one_for_a_place = h.one_for_a_place;
  }

  pub can-beside : CanCross d → CanCross beside
  can-beside h = record {
    sides = h.sides;
    contained = contained-beside h.contained;
    paired = paired-beside h.paired;
    built_ins = h.built_ins;
  }

-- ---- the world is halted

module _ (d : Data) where
  pub can-halted : CanCross d → CanCross (halted d)
  can-halted h = can-beside d d.texts d.symbols d.programs d.rules d.revoked true h

  pub crossed-halted : Crossed d (halted d)
  crossed-halted = record {
    cells = λ id c e. e;
    rest = refl;
    added = λ id c n e. absurd (let w = slice_get_within d.cells id.0 c e in omega arith);
    becomes = of-halted d;
    can_cross = can-halted;
  }

pub paired-from : (d d' : Data) → KeepsCells d d' → Paired d' → PairedFrom d d'
paired-from d d' k p = record { paired = p; keeps = membrane-stays d d' k }

pub crossed-in-steps : CrossedInSteps
crossed-in-steps = record { same = crossed-same; then = crossed-then }
