-- A world stays ready where an object is made, and where one is written.
use Rattle.mb_base.specs.declared.value.ObjId.{ObjId}
use Rattle.mb_base.specs.declared.value.Side.{Side}
use Rattle.mb_base.specs.declared.value.StrId.{StrId}
use Rattle.mb_base.specs.declared.value.Value.{Value}
use Rattle.mb_base.specs.declared.value.Value.TheVariants as v
use Rattle.mb_desc.specs.declared.descriptor.Full.TheVariants.{Datum}
use Rattle.mb_frames.proofs.AfterCalls.{at-first, at-last, kept-cells, made-kept, no-built-in, no-part}
use Rattle.mb_frames.proofs.Changing.{of-cell-in, stand-kept}
use Rattle.mb_frames.proofs.Errors.{mapped-some}
use Rattle.mb_frames.proofs.Lasting.{IsLike, Lasts, like-same, things-more, things-set}
use Rattle.mb_frames.proofs.Placed.{part-kept, set-cells, set-forth, set-grows, set-kept, set-place}
use Rattle.mb_frames.proofs.Readying.{KeepsBuiltIns, all-grow, changed-by, queues-stay, scopes-stay}
use Rattle.mb_frames.proofs.StillFormed.{behind-none, cell-stays, cells-stay, kind-stays}
use Rattle.mb_frames.specs.Ready.{Changed, IsMade, IsReady, IsWritten, is_built_in}
use Rattle.mb_frames.specs.Wholeness.{IsCollectionKind, KeepsKind}
use Rattle.mb_text.specs.Index.{index_of}
use Rattle.mb_world.proofs.AfterCalls.{Image-set, of-made, thing-at}
use Rattle.mb_world.proofs.Arrays.{length-no-index, length-there}
use Rattle.mb_world.proofs.Firsts.{position-push}
use Rattle.mb_world.proofs.Grow.{CellIn-grows, Hold-cells, KindIn-grows, Maybe-weaker, TextIn-grows, ValueIn-grows}
use Rattle.mb_world.specs.Data.{Counted, Data, cell_at, first_props, first_texts, is_array, is_counted, kind_stand, length_key, length_units, made, new_cell, obj_id, serves, set_cell, stand, stands}
use Rattle.mb_world.specs.Formed.{FormedCell, HasItsSlots, HasItsCallables, InRange, IsArray, IsNullOrObject, full_values, is_of_membrane, kind_values}
use Rattle.mb_world.specs.Graph as graph
use Rattle.mb_world.specs.Graph.{Graph, Thing}
use Rattle.mb_world.specs.Grows.{Grows}
use Rattle.mb_world.specs.Ids.{CellIn, Hold, Maybe, PairIn, PropertyIn, TextIn}
use Rattle.mb_world.specs.Image.{Image, Names, kind_in, names_of, number_at, object_in, slots_in, thing_in}
use Rattle.mb_world.specs.Laws.{OfObject}
use Rattle.mb_world.specs.Objects.{is_proxy_kind, kind_calls, kind_constructs, shape_of_kind}
use Rattle.mb_world.specs.machine.Firsts.{or_if}
use Rattle.mb_world.specs.declared.cell.Cell.{Cell}
use Rattle.mb_world.specs.declared.cell.CellKind.{CellKind}
use Rattle.mb_world.specs.declared.cell.CellKind.TheVariants as kind
use Rattle.std.proofs.Common.{Bool, List, None, Option, Some, [], ap, arith, false, get_or, inl, inr, length, length-set, lit<, option_map, pos, refl, slice_get, slice_set, subst, sym, true, true≢false, ℕ, ◌++◌, ◌<◌, ◌∙◌, ◌∷◌, ◌≡◌}
use Rattle.std.proofs.lemmas.List.Elements.{All-append, All-cons, All-nil, All-push, All-set}
use Rattle.std.proofs.lemmas.List.Folds.{position_or_len-set}
use Rattle.std.proofs.lemmas.Option.{get_or_from_slice_get, slice_get-map}
use Rattle.std.specs.List.{IsDistinct, flat_map}
use Rattle.std.specs.Prelude.{position}
use Rattle.std.specs.Prelude.{All}

-- ---- a new cell

first-in : (b : Bool) (texts : List (List ℕ)) (d' : Data) → d'.texts ≡ first_texts b texts
    → All (PropertyIn d') (first_props b texts)
first-in false texts d' e = All-nil (PropertyIn d')
first-in true texts d' e =
    let t = length-there texts length_units in
    All-cons (PropertyIn d') (length_key texts, Datum (v.Whole (pos 0)) true false false) []
    ((rw e t.0, rw e (sym length-no-index ∙ ap index_of (sym t.1))), tt) (All-nil (PropertyIn d'))

first-range : (b : Bool) (texts : List (List ℕ)) → All InRange (flat_map (λ p. full_values p.1) (first_props b texts))
first-range false texts = All-nil InRange
first-range true texts = All-cons InRange (v.Whole (pos 0)) [] refl (All-nil InRange)

first-callables : (b : Bool) (texts : List (List ℕ)) (d' : Data)
    → All (λ p. HasItsCallables d' p.1) (first_props b texts)
first-callables false texts d' = All-nil (λ p. HasItsCallables d' p.1)
first-callables true texts d' =
    All-cons (λ p. HasItsCallables d' p.1) (length_key texts, Datum (v.Whole (pos 0)) true false false) [] tt
    (All-nil (λ p. HasItsCallables d' p.1))

in-range : (y : Value) → IsNullOrObject y → InRange y
in-range v.Undefined h = tt
in-range v.Null h = tt
in-range (v.Bool b) h = tt
in-range (v.Whole z) h = absurd h
in-range (v.Text t) h = tt
in-range (v.Symbol t) h = tt
in-range (v.Object o) h = tt

new-array : (texts : List (List ℕ)) (d' : Data) (home : Side) (y : CellKind) (proto : Value) (label : Option StrId)
    → d'.texts ≡ first_texts (is_array y) texts → (y ≡ kind.Array → label ≡ None)
    → IsArray d' y (new_cell texts home y proto label)
new-array texts d' home kind.Plain proto label e n = tt
new-array texts d' home kind.Array proto label e n =
    (n refl, (rw e (length-there texts length_units).1, lit< tt, All-nil _))
new-array texts d' home (kind.Function code) proto label e n = tt
new-array texts d' home (kind.BuiltIn place) proto label e n = tt
new-array texts d' home (kind.Fault fault) proto label e n = tt
new-array texts d' home (kind.Proxy target handler shape) proto label e n = tt
new-array texts d' home (kind.Revoker proxy) proto label e n = tt
new-array texts d' home (kind.Membrane behind shadow) proto label e n = tt
new-array texts d' home (kind.Shadow shape) proto label e n = tt
new-array texts d' home (kind.Collection coll) proto label e n = tt

new-slots : (texts : List (List ℕ)) (d' : Data) (home : Side) (y : CellKind) (proto : Value) (label : Option StrId)
    → HasItsSlots d' y (new_cell texts home y proto label)
unfolding IsDistinct
new-slots texts d' home kind.Plain proto label = refl
new-slots texts d' home kind.Array proto label = refl
new-slots texts d' home (kind.Function code) proto label = refl
new-slots texts d' home (kind.BuiltIn place) proto label = refl
new-slots texts d' home (kind.Fault fault) proto label = refl
new-slots texts d' home (kind.Proxy target handler shape) proto label = refl
new-slots texts d' home (kind.Revoker proxy) proto label = refl
new-slots texts d' home (kind.Membrane behind shadow) proto label = refl
new-slots texts d' home (kind.Shadow shape) proto label = refl
new-slots texts d' home (kind.Collection coll) proto label = tt

more-built-ins : (d d' : Data) (c : Cell) → d'.cells ≡ d.cells ++ (c ∷ []) → d'.joined ≡ d.joined
    → is_counted (stand c) ≡ true → KeepsBuiltIns d d'
more-built-ins d d' c e u n = record {
  steady = λ id x place h s.
      ap (λ (cs : List Cell). slice_get cs id.0) e ∙ at-first d.cells c x id.0 h;
  first = λ side place id h. rw (e, u)
      (ap (option_map obj_id) (position-push (serves d.joined side place) d.cells c
      ∙ ap (or_if (serves d.joined side place c) (length d.cells))
      (mapped-some (position (serves d.joined side place) d.cells) id h)));
  back = λ id x place h k.
      elim (at-last d.cells c x id.0 (ap (λ (cs : List Cell). slice_get cs id.0) (sym e) ∙ h)) [
        | inl r ↦ (x, r, k)
        | inr r ↦ absurd (no-built-in c.kind place n (sym (ap (λ (y : Cell). y.kind) r) ∙ k))
      ];
}

module _ (home : Side) (d : Data) (y : CellKind) (proto : Value) (label : Option StrId) (r : IsReady d)
    (inside : home.0 < d.sides) (m : IsMade d home y proto label) where
  abbrev later : Data
  later = made d home y proto label

  abbrev new : Cell
  new = new_cell d.texts home y proto label

  made-object : OfObject d home y proto label
  made-object = of-made d home y proto label r.ids m.counted

  made-lasts : Lasts d later
  made-lasts = record {
    grew = record { grows = made-object.becomes.grows; programs = refl; sides = refl; joined = refl };
    cells = kept-cells home d y proto label r.ids m.counted;
    things = things-more d later (thing_in (names_of later) new)
        (ap (λ (g : Graph). g.objects) (made-object.becomes.image []));
    scopes = λ id side h. h;
    entries = omega arith;
    rules = refl;
    revoked = refl;
  }

  made-built-ins : KeepsBuiltIns d later
  made-built-ins = more-built-ins d later new refl refl m.counted

  new-in : CellIn later new
  new-in =
      let g : Grows d later = made-object.becomes.grows in
      record {
        home_in = omega (arith, inside, r.formed.sides.1);
        kind_in = KindIn-grows d later g y m.kind_in;
        proto_in = ValueIn-grows d later g proto m.proto_in;
        props_in = first-in (is_array y) d.texts later refl;
        label_in = Maybe-weaker (TextIn d) (TextIn later) (TextIn-grows d later g) label m.label_in;
        slots_in = All-nil (Maybe (PairIn later));
      }

  new-wholes : All InRange (kind_values y ++ (proto ∷ flat_map (λ p. full_values p.1) (first_props (is_array y) d.texts)) ++ [])
  new-wholes =
      All-append InRange
      (kind_values y ++ (proto ∷ flat_map (λ p. full_values p.1) (first_props (is_array y) d.texts))) []
      (All-append InRange (kind_values y)
      (proto ∷ flat_map (λ p. full_values p.1) (first_props (is_array y) d.texts)) m.wholes
      (All-cons InRange proto (flat_map (λ p. full_values p.1) (first_props (is_array y) d.texts))
      (in-range proto m.prototype) (first-range (is_array y) d.texts)))
      (All-nil InRange)

  new-formed : FormedCell later new
  new-formed = record {
    home = inside;
    wholes = new-wholes;
    prototype = m.prototype;
    callables = first-callables (is_array y) d.texts later;
    array = new-array d.texts later home y proto label refl m.unlabelled;
    slots = new-slots d.texts later home y proto label;
    kind = kind-stays d later r.ids made-lasts home y m.kind_in (behind-none d y (no-part y m.counted)) m.kind;
  }

  pub made-changed : Changed home d later
  made-changed =
      let l : Lasts d later = made-lasts in
      let b : KeepsBuiltIns d later = made-built-ins in
      let o : Hold later d.symbols d.programs d.cells d.scopes d.queues d.rules d.entries
      = all-grow home d later r l b in
      changed-by home d later r l b refl (All-push (FormedCell later) d.cells new (cells-stay d later r l) new-formed)
      (λ u. All-push (λ (c : Cell). is_of_membrane c.kind ≡ false) d.cells new (r.formed.joined u).membrane
      (no-part y m.counted))
      (scopes-stay home d later r l b) (queues-stay home d later r l b)
      (Hold-cells later d.symbols d.programs d.cells d.scopes d.queues d.rules d.entries o later.cells
      (All-push (CellIn later) d.cells new o.cells_in new-in))
      (λ u. made-kept home d y proto label r.ids m.counted m.kind_in m.proto_in (m.kind_own u) (m.proto_own u)
      (r.contained u) (r.paired u))

-- ---- an object that is written

-- no built-in and none of the membrane's
pub counted-kind : (y : CellKind) → is_of_membrane y ≡ false → is_built_in y ≡ false → kind_stand y ≡ Counted
counted-kind kind.Plain m b = refl
counted-kind kind.Array m b = refl
counted-kind (kind.Function code) m b = refl
counted-kind (kind.BuiltIn place) m b = absurd (true≢false b)
counted-kind (kind.Fault fault) m b = refl
counted-kind (kind.Proxy target handler shape) m b = refl
counted-kind (kind.Revoker proxy) m b = refl
counted-kind (kind.Membrane behind shadow) m b = absurd (true≢false m)
counted-kind (kind.Shadow shape) m b = absurd (true≢false m)
counted-kind (kind.Collection coll) m b = refl

-- two kinds of which calls tell the same
like-kinds : (t u : Thing) (a b : graph.Kind) → t.kind ≡ a → u.kind ≡ b → is_proxy_kind b ≡ is_proxy_kind a
    → kind_calls b ≡ kind_calls a → kind_constructs b ≡ kind_constructs a → shape_of_kind b ≡ shape_of_kind a
    → (IsCollectionKind a → IsCollectionKind b) → IsLike t u
like-kinds t u a b e k p c n s f = record {
  proxy = ap is_proxy_kind k ∙ p ∙ sym (ap is_proxy_kind e);
  calls = ap kind_calls k ∙ c ∙ sym (ap kind_calls e);
  constructs = ap kind_constructs k ∙ n ∙ sym (ap kind_constructs e);
  shape = ap shape_of_kind k ∙ s ∙ sym (ap shape_of_kind e);
  collection = λ h. subst IsCollectionKind (sym k) (f (subst IsCollectionKind e h));
}

like-kept : (n : Names) (c e : Cell) (a b : CellKind) → c.kind ≡ a → e.kind ≡ b → KeepsKind a b
    → IsLike (thing_in n c) (thing_in n e)
like-kept n c e kind.Plain b p q h =
    like-same (thing_in n c) (thing_in n e) (ap (kind_in n e.slots) (q ∙ h) ∙ sym (ap (kind_in n c.slots) p))
like-kept n c e kind.Array b p q h =
    like-same (thing_in n c) (thing_in n e) (ap (kind_in n e.slots) (q ∙ h) ∙ sym (ap (kind_in n c.slots) p))
like-kept n c e (kind.Function code) b p q h =
    like-same (thing_in n c) (thing_in n e) (ap (kind_in n e.slots) (q ∙ h) ∙ sym (ap (kind_in n c.slots) p))
like-kept n c e (kind.BuiltIn place) b p q h =
    like-same (thing_in n c) (thing_in n e) (ap (kind_in n e.slots) (q ∙ h) ∙ sym (ap (kind_in n c.slots) p))
like-kept n c e (kind.Fault fault) b p q h =
    like-same (thing_in n c) (thing_in n e) (ap (kind_in n e.slots) (q ∙ h) ∙ sym (ap (kind_in n c.slots) p))
like-kept n c e (kind.Proxy None handler shape) b p q h =
    like-same (thing_in n c) (thing_in n e) (ap (kind_in n e.slots) (q ∙ h) ∙ sym (ap (kind_in n c.slots) p))
like-kept n c e (kind.Proxy (Some target) None shape) b p q h = elim h [
  | inl r ↦ like-same (thing_in n c) (thing_in n e)
      (ap (kind_in n e.slots) (q ∙ r) ∙ sym (ap (kind_in n c.slots) p))
  | inr r ↦ like-same (thing_in n c) (thing_in n e)
      (ap (kind_in n e.slots) (q ∙ r) ∙ sym (ap (kind_in n c.slots) p))
]
like-kept n c e (kind.Proxy (Some target) (Some handler) shape) b p q h = elim h [
  | inl r ↦ like-same (thing_in n c) (thing_in n e)
      (ap (kind_in n e.slots) (q ∙ r) ∙ sym (ap (kind_in n c.slots) p))
  | inr r ↦ like-kinds (thing_in n c) (thing_in n e)
      (graph.Proxy (object_in n target) (object_in n handler) shape) (graph.Gone shape)
      (ap (kind_in n c.slots) p) (ap (kind_in n e.slots) (q ∙ r)) refl refl refl refl (λ z. absurd z)
]
like-kept n c e (kind.Revoker proxy) b p q h =
    like-same (thing_in n c) (thing_in n e) (ap (kind_in n e.slots) (q ∙ h) ∙ sym (ap (kind_in n c.slots) p))
like-kept n c e (kind.Membrane behind shadow) b p q h =
    like-same (thing_in n c) (thing_in n e) (ap (kind_in n e.slots) (q ∙ h) ∙ sym (ap (kind_in n c.slots) p))
like-kept n c e (kind.Shadow shape) b p q h =
    like-same (thing_in n c) (thing_in n e) (ap (kind_in n e.slots) (q ∙ h) ∙ sym (ap (kind_in n c.slots) p))
like-kept n c e (kind.Collection coll) b p q h =
    like-kinds (thing_in n c) (thing_in n e) (graph.Collection coll (slots_in n c.slots))
    (graph.Collection coll (slots_in n e.slots)) (ap (kind_in n c.slots) p) (ap (kind_in n e.slots) (q ∙ h)) refl refl
    refl refl (λ z. tt)

module _ (home : Side) (d : Data) (id : ObjId) (x y : Cell) (r : IsReady d) (e : cell_at d id ≡ Some x)
    (m : IsWritten d home id x y) where
  abbrev written : Data
  written = set_cell d id y

  was-counted : stand x ≡ Counted
  was-counted = counted-kind x.kind m.membrane m.no_built_in

  same-stand : stand y ≡ stand x
  same-stand = stand-kept x.kind y.kind m.keeps.kind

  no-part-now : is_of_membrane y.kind ≡ false
  no-part-now = part-kept x.kind y.kind m.keeps.kind m.membrane

  its-thing : slice_get (Image d []).objects (number_at (names_of d) id.0) ≡ Some (thing_in (names_of d) x)
  its-thing =
      let s : slice_get (stands d.cells) id.0 ≡ Some Counted
      = slice_get-map stand d.cells id.0 ∙ ap (option_map stand) e ∙ ap Some was-counted in
      rw s at (thing-at d id x [] e (ap is_counted was-counted))

  written-lasts : Lasts d written
  written-lasts = record {
    grew = record {
      grows = set-grows d r.ids id x y e m.membrane m.keeps;
      programs = refl;
      sides = refl;
      joined = refl;
    };
    cells = set-cells d r.ids id x y e m.membrane m.keeps;
    things = things-set d written (number_at (names_of d) id.0) (thing_in (names_of d) x) (thing_in (names_of d) y)
        (ap (λ (g : Graph). g.objects) (Image-set d id x y [] e same-stand (ap is_counted was-counted))) its-thing
        (like-kept (names_of d) x y x.kind y.kind refl refl m.keeps.kind);
    scopes = λ n side h. h;
    entries = omega arith;
    rules = refl;
    revoked = refl;
  }

  serves-same : (side : Side) (place : ℕ) → serves d.joined side place y ≡ serves d.joined side place x
  serves-same side place = rw (m.keeps.home, same-stand) refl

  position-same : (p : Cell → Bool) → p y ≡ p x → position p (slice_set d.cells id.0 y) ≡ position p d.cells
  position-same p h =
      let n : p y ≡ p (get_or d.cells id.0 x) = h ∙ ap p (sym (get_or_from_slice_get d.cells id.0 x x e)) in
      rw (position_or_len-set p d.cells id.0 y x n, length-set d.cells id.0 y) refl

  written-built-ins : KeepsBuiltIns d written
  written-built-ins = record {
    steady = λ n z place u s. elim (set-forth d.cells id.0 x y n.0 z e u) [
      | inl p ↦ absurd (true≢false (sym (ap is_counted (ap stand p.0 ∙ was-counted)) ∙ ap is_counted s))
      | inr p ↦ p
    ];
    first = λ side place n h.
        ap (option_map obj_id) (position-same (serves d.joined side place) (serves-same side place)) ∙ h;
    back = λ n z place u q.
        let w = set-place d r.ids id x y e m.membrane m.keeps n z place u q in
        (w.0, w.1, w.3);
  }

  pub written-changed : Changed home d written
  written-changed =
      let l : Lasts d written = written-lasts in
      let b : KeepsBuiltIns d written = written-built-ins in
      let o : Hold written d.symbols d.programs d.cells d.scopes d.queues d.rules d.entries
      = all-grow home d written r l b in
      changed-by home d written r l b refl
      (All-set (FormedCell written) d.cells id.0 y
      (cell-stays d written r.ids l y m.cell_in (behind-none d y.kind no-part-now) m.formed) (cells-stay d written r l))
      (λ u. All-set (λ (c : Cell). is_of_membrane c.kind ≡ false) d.cells id.0 y no-part-now
      (r.formed.joined u).membrane)
      (scopes-stay home d written r l b) (queues-stay home d written r l b)
      (Hold-cells written d.symbols d.programs d.cells d.scopes d.queues d.rules d.entries o written.cells
      (All-set (CellIn written) d.cells id.0 y (CellIn-grows d written l.grew.grows y m.cell_in) o.cells_in))
      (λ u. set-kept home d r.ids (r.contained u) (r.paired u) id x y e (m.home_is u) m.membrane m.keeps (m.own u)
      (of-cell-in d y m.cell_in))
