-- Sides go on seeing through their proxies.
use Rattle.std.proofs.Common.{◌≡◌, ℕ, List, [], ◌∷◌, zero, suc, true≢false, slice_get, slice_set, option_map, Some, true, false, refl, ap, sym, ◌∙◌, inl, inr, subst}
use Rattle.std.specs.Prelude.{All}
use Rattle.std.proofs.lemmas.Option.{slice_get_cases, slice_get-map}
use Rattle.std.proofs.lemmas.List.Elements.{All-set}
use Rattle.mb_base.specs.declared.value.ObjId.{ObjId}
use Rattle.mb_text.specs.Texts.{AreDistinct}
use Rattle.mb_world.specs.declared.cell.Cell.{Cell}
use Rattle.mb_world.specs.declared.cell.CellKind.{CellKind}
use Rattle.mb_world.specs.declared.cell.CellKind.TheVariants.{BuiltIn, Shadow}
use Rattle.mb_world.specs.Value.{Val, Object}
use Rattle.mb_world.specs.Graph.{Graph, Rule, Thing, Kind}
use Rattle.mb_world.specs.Objects.{thing_at, kind_calls, is_proxy_kind, shape_of_kind}
use Rattle.mb_world.specs.Data.{Data, Counted, AtPlace, cell_at, set_cell, is_counted, kind_stand, stand}
use Rattle.mb_world.specs.Grows.{Grows}
use Rattle.mb_world.specs.Ids.{Hold, HasItsIds, CellIn}
use Rattle.mb_world.specs.Image.{names_of, object_in, number_at, stood, kind_in, thing_in}
use Rattle.mb_world.specs.Laws.{Becomes, same_graph}
use Rattle.mb_world.specs.Contained.{IsOwn, in_cell, is_shadow}
use Rattle.mb_world.specs.Formed.{FormedCell, as_standard}
use Rattle.mb_world.proofs.Grow.{All-at, CellIn-grows, Hold-grows, Hold-cells}
use Rattle.mb_world.proofs.Images.{thing-grows}
use Rattle.mb_world.proofs.AfterCalls.{of-changed, of-hidden-changed, thing-at}
use Rattle.mb_rules.specs.Seen.{graph_of}
use Rattle.mb_maps.specs.Crossing.{halted}
use Rattle.mb_maps.specs.Crossed.{Crossed, IsNew}
use Rattle.mb_maps.proofs.Forming.{formed-stays, thing-stays}
use Rattle.mb_maps.proofs.Lists.{same-some, obj-same}
use Rattle.mb_maps.proofs.Worlds.{crossed-halted}
use Rattle.mb_shadow.specs.Seeing.{CanSee, HasConstant, AreStandard}
use Rattle.mb_shadow.proofs.Cells.{same-or-not}
use Rattle.mb_shadow.proofs.Forms.{face, KeepsThings, formed-as}
use Rattle.mb_shadow.proofs.Parts.{all-each}
use Rattle.mb_shadow.proofs.Setting.{set-there, set-other, set-faces, set-can_cross}

-- ---- a world that crossed

no-built-in : (d : Data) (c : Cell) (k : CellKind) (place : ℕ) → k ≡ BuiltIn place → IsNew d c k → ⊥
no-built-in d c k place e h = subst (IsNew d c) e h

module _ (d d' : Data) (can : CanSee d) (stays : Crossed d d') where
  abbrev g : Grows d d'
  g = stays.becomes.grows

  -- a cell was there, or is new
  cell-in : (id : ObjId) (c : Cell) → cell_at d' id ≡ Some c → CellIn d' c
  cell-in id c e = elim (slice_get_cases d.cells id.0).1 [
    | inl q ↦ (
        let same : q.0 ≡ c = same-some (cell_at d' id) q.0 c (stays.cells id q.0 q.2) e in
        subst (CellIn d') same (CellIn-grows d d' g q.0 (All-at (CellIn d) d.cells id.0 q.0 q.2 can.ids.cells_in)))
    | inr q ↦ (stays.added id c q.0 e).within
  ]

  formed-in : (id : ObjId) (c : Cell) → cell_at d' id ≡ Some c → FormedCell d' c
  formed-in id c e = elim (slice_get_cases d.cells id.0).1 [
    | inl q ↦ (
        let same : q.0 ≡ c = same-some (cell_at d' id) q.0 c (stays.cells id q.0 q.2) e in
        subst (FormedCell d') same
        (formed-stays d d' stays.cells stays.rest stays.becomes q.0 (All-at (CellIn d) d.cells id.0 q.0 q.2 can.ids.cells_in)
        (All-at (FormedCell d) d.cells id.0 q.0 q.2 can.cells)))
    | inr q ↦ (stays.added id c q.0 e).formed
  ]

  standard-in : AreStandard d'
  standard-in id c place e k = elim (slice_get_cases d.cells id.0).1 [
    | inl q ↦ (
        let same : q.0 ≡ c = same-some (cell_at d' id) q.0 c (stays.cells id q.0 q.2) e in
        let kind : q.0.kind ≡ BuiltIn place = ap (λ (x : Cell). x.kind) same ∙ k in
        ap (λ (x : Cell). Some (as_standard (thing_in (names_of d') x))) (sym same)
        ∙ ap (λ (t : Thing). Some (as_standard t)) (thing-grows d d' g q.0 (All-at (CellIn d) d.cells id.0 q.0 q.2 can.ids.cells_in))
        ∙ can.standard id q.0 place q.2 kind)
    | inr q ↦ absurd (no-built-in d c c.kind place k (stays.added id c q.0 e).new)
  ]

  ids-in : HasItsIds d'
  ids-in =
      let h : Hold d' d.symbols d.programs d.cells d.scopes d.queues d.rules d.entries = Hold-grows d d' g _ _ _ _ _ _ _ can.ids in
      let k : Hold d' d.symbols d.programs d'.cells d.scopes d.queues d.rules d.entries = Hold-cells d' _ _ _ _ _ _ _ h d'.cells (all-each (CellIn d') d'.cells (λ n x e. (let id : ObjId = record { 0 = n } in cell-in id x e))) in
      subst (λ (x : Data). Hold d' x.symbols x.programs d'.cells x.scopes x.queues x.rules x.entries) (sym stays.rest) k

  pub can-see-crossed : CanSee d'
  can-see-crossed = record {
    texts = subst (λ (x : Data). AreDistinct x.texts) (sym stays.rest) can.texts;
    ids = ids-in;
    apart = ap (λ (x : Data). x.joined) stays.rest ∙ can.apart;
    can_cross = stays.can_cross can.can_cross;
    cells = all-each (FormedCell d') d'.cells (λ n x e. (let id : ObjId = record { 0 = n } in formed-in id x e));
    standard = standard-in;
    constants = subst (λ (graph : Graph). All (λ (r : Rule). HasConstant r.kind) graph.rules) (sym (stays.becomes.image [])) can.constants;
  }

pub can-see-halted : (d : Data) → CanSee d → CanSee (halted d)
can-see-halted d can = can-see-crossed d (halted d) can (crossed-halted d)

-- ---- another cell in the place of one

shadow-hidden : (k : CellKind) → is_shadow k ≡ true → is_counted (kind_stand k) ≡ false
shadow-hidden (Shadow shape) h = refl
shadow-hidden k h = cc

counted-built-in : (k : CellKind) (place : ℕ) → kind_stand k ≡ Counted → k ≡ BuiltIn place → ⊥
counted-built-in k place h e = (let bad : AtPlace place ≡ Counted = sym (ap kind_stand e) ∙ h in cc)

-- what is read of things stays where that of the changed one does
face-set : (xs : List Thing) (k n : ℕ) (t : Thing) → face (slice_get xs k) ≡ face (Some t) → face (slice_get (slice_set xs k t) n) ≡ face (slice_get xs n)
face-set [] k n t h = refl
face-set (y ∷ ys) zero zero t h = sym h
face-set (y ∷ ys) zero (suc n) t h = refl
face-set (y ∷ ys) (suc k) zero t h = refl
face-set (y ∷ ys) (suc k) (suc n) t h = face-set ys k n t h

module _ (d : Data) (id : ObjId) (c x : Cell) (can : CanSee d) (there : cell_at d id ≡ Some c) (home : x.home ≡ c.home) (kind : x.kind ≡ c.kind)
    (own : All (IsOwn d c.home) (in_cell x)) (within : CellIn d x) (formed : FormedCell d x) where
  abbrev pub e : Data
  e = set_cell d id x

  module _ (grows : Grows d e) (things : KeepsThings d e) (same-rules : (graph_of e).rules ≡ (graph_of d).rules) (none : (place : ℕ) → c.kind ≡ BuiltIn place → ⊥) where
    standard-set : AreStandard e
    standard-set i y place f k = elim (same-or-not i.0 id.0) [
      | inl s ↦ (
          let is : i ≡ id = obj-same i id s in
          let same : x ≡ y = same-some (cell_at e id) x y (set-there d id c x there home kind) (ap (cell_at e) (sym is) ∙ f) in
          absurd (none place (sym kind ∙ ap (λ (z : Cell). z.kind) same ∙ k)))
      | inr n ↦ (
          let was : cell_at d i ≡ Some y = sym (set-other d id c x there home kind i (λ z. n (ap (λ (o : ObjId). o.0) z))) ∙ f in
          ap (λ (t : Thing). Some (as_standard t)) (thing-grows d e grows y (All-at (CellIn d) d.cells i.0 y was can.ids.cells_in))
          ∙ can.standard i y place was k)
    ]

    can-see-changed : CanSee e
    can-see-changed = record {
      texts = can.texts;
      ids = (
          let h : Hold e d.symbols d.programs d.cells d.scopes d.queues d.rules d.entries = Hold-grows d e grows _ _ _ _ _ _ _ can.ids in
          Hold-cells e _ _ _ _ _ _ _ h e.cells (All-set (CellIn e) d.cells id.0 x (CellIn-grows d e grows x within) h.cells_in));
      apart = can.apart;
      can_cross = set-can_cross d id c x there home kind can.can_cross own;
      cells = All-set (FormedCell e) d.cells id.0 x (formed-as d e (set-faces d id c x there home kind) refl grows things x within formed)
          (all-each (FormedCell e) d.cells (λ n y f.
          formed-as d e (set-faces d id c x there home kind) refl grows things y (All-at (CellIn d) d.cells n y f can.ids.cells_in) (All-at (FormedCell d) d.cells n y f can.cells)));
      standard = standard-set;
      constants = subst (λ (rules : List Rule). All (λ (r : Rule). HasConstant r.kind) rules) (sym same-rules) can.constants;
    }

  -- in the place of a shadow
  module _ (shadow : is_shadow c.kind ≡ true) where
    pub set-becomes : Becomes d e same_graph
    set-becomes = rw there at (of-hidden-changed d id c (λ _. x) there (ap kind_stand kind) (shadow-hidden c.kind shadow))

    pub can-see-set : CanSee e
    can-see-set = can-see-changed set-becomes.grows (λ o i. ap face (thing-stays d e set-becomes o i)) (ap (λ (g : Graph). g.rules) (set-becomes.image []))
        (λ place k. true≢false (sym shadow ∙ ap is_shadow k))

  -- in the place of an object
  module _ (object : stand c ≡ Counted) (slots : x.slots ≡ c.slots) where
    abbrev with-object : Graph → Graph
    with-object g = record g { objects = slice_set g.objects (number_at (names_of d) id.0) (thing_in (names_of d) x) }

    object-becomes : Becomes d e with-object
    object-becomes = rw there at (of-changed d id c (λ _. x) there (ap kind_stand kind) (ap is_counted object))

    means : object_in (names_of d) id ≡ Object (number_at (names_of d) id.0)
    means = ap (stood (names_of d) id.0) (slice_get-map stand d.cells id.0 ∙ ap (option_map stand) there ∙ ap Some object)

    was : slice_get (graph_of d).objects (number_at (names_of d) id.0) ≡ Some (thing_in (names_of d) c)
    was = ap (thing_at (graph_of d)) (sym means) ∙ thing-at d id c [] there (ap is_counted object)

    same-kind : kind_in (names_of d) c.slots c.kind ≡ kind_in (names_of d) x.slots x.kind
    same-kind = ap (λ (k : CellKind). kind_in (names_of d) c.slots k) (sym kind) ∙ ap (λ s. kind_in (names_of d) s x.kind) (sym slots)

    face-was : face (slice_get (graph_of d).objects (number_at (names_of d) id.0)) ≡ face (Some (thing_in (names_of d) x))
    face-was = ap face was ∙ ap (λ (k : Kind). Some (kind_calls k, (is_proxy_kind k, shape_of_kind k))) same-kind

    face-there : (v : Val) → face (thing_at (with-object (graph_of d)) v) ≡ face (thing_at (graph_of d) v)
    face-there (Object n) = face-set (graph_of d).objects (number_at (names_of d) id.0) n (thing_in (names_of d) x) face-was
    face-there v = refl

    object-things : KeepsThings d e
    object-things o i =
        ap (λ (g : Graph). face (thing_at g (object_in (names_of e) o))) (object-becomes.image [])
        ∙ ap (λ (v : Val). face (thing_at (with-object (graph_of d)) v)) (object-becomes.grows.same_object o i)
        ∙ face-there (object_in (names_of d) o)

    pub can-see-object : CanSee e
    can-see-object = can-see-changed object-becomes.grows object-things (ap (λ (g : Graph). g.rules) (object-becomes.image []))
        (λ place k. counted-built-in c.kind place object k)
