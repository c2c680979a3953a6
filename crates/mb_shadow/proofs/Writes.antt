-- A shadow that is written.
use Rattle.std.proofs.Common.{◌≡◌, ◌<◌, List, Option, Some, None, true, false, refl, ap, sym, ◌∙◌, subst, if◌then◌else◌, option_map, Result, Ok, Err}
use Rattle.std.specs.Prelude.{All, OnOk, OnErr, length}
use Rattle.std.proofs.lemmas.Option.{slice_get_within}
use Rattle.std.proofs.lemmas.List.Elements.{All-weaker}
use Rattle.mb_base.specs.declared.value.ObjId.{ObjId}
use Rattle.mb_base.specs.declared.value.Side.{Side}
use Rattle.mb_base.specs.declared.value.Key.{Key}
use Rattle.mb_base.specs.declared.value.Value.{Value}
use Rattle.mb_desc.specs.declared.descriptor.Full.{Full}
use Rattle.mb_props.specs.Table.{found, same_key as own_key, HasDistinctKeys as OwnDistinct}
use Rattle.mb_view.specs.Views.{property_of}
use Rattle.mb_world.specs.declared.cell.Cell.{Cell}
use Rattle.mb_world.specs.Value.{Val}
use Rattle.mb_world.specs.Key.{PropertyKey, same_key}
use Rattle.mb_world.specs.Data.{Data, cell_at, change_cell, change_if, set_cell, put_in, remove_in, with_proto, closed}
use Rattle.mb_world.specs.Ids.{KeyIn, CellIn}
use Rattle.mb_world.specs.Image.{Names, names_of, Resolve, key_in, full_in}
use Rattle.mb_world.specs.Contained.{IsOwn, in_full, is_shadow}
use Rattle.mb_world.specs.Formed.{FormedCell, HasItsCallables, IsNullOrObject, InRange, full_values}
use Rattle.mb_world.proofs.Grow.{All-at}
use Rattle.mb_world.proofs.Worlds.{All-insert, All-without, CellIn-put, CellIn-remove}
use Rattle.mb_maps.specs.Crossing.{halted}
use Rattle.mb_maps.proofs.Lists.{some-get, some-is}
use Rattle.mb_shadow.specs.Seeing.{CanSee, IsPropertyOf, home_at, cell_view}
use Rattle.mb_shadow.specs.Following.{Followed, KeepsShadow}
use Rattle.mb_shadow.specs.machine.Sights.{IsShadow, IsValueOf, held_in, held_at, flagged, flags_at, Held}
use Rattle.mb_shadow.proofs.Simple.{shadow-simple, own-all, formed-all}
use Rattle.mb_shadow.proofs.Steps.{followed-same, followed-then, followed-set, followed-halted}
use Rattle.mb_shadow.proofs.Setting.{set-there}
use Rattle.mb_shadow.proofs.Holds.{held-set, flags-set, names-set, view-put, view-removed, view-absent}
use Rattle.mb_shadow.proofs.Owned.{each-of, proto-of}

-- ---- what a shadow has is of its home

abbrev pub ArePropertiesOf : Data → Side → List (Key × Full Value) → Type 0
ArePropertiesOf d side props = All (λ (p : Key × Full Value). IsPropertyOf d side p.1) props

module _ (d : Data) (can : CanSee d) (s : ObjId) (c : Cell) (there : cell_at d s ≡ Some c) (shadow : is_shadow c.kind ≡ true) where
  was-formed : FormedCell d c
  was-formed = All-at (FormedCell d) d.cells s.0 c there can.cells

  was-in : CellIn d c
  was-in = All-at (CellIn d) d.cells s.0 c there can.ids.cells_in

  held-there : (k : PropertyKey) → held_at d s k ≡ property_of same_key (cell_view (names_of d) c) k
  held-there k = ap (held_in (names_of d) k) there

  flags-there : flags_at d s ≡ Some (flagged (names_of d) c)
  flags-there = ap (option_map (flagged (names_of d))) there

  pub change-is : (f : Cell → Cell) → change_cell d s f ≡ set_cell d s (f c)
  change-is f = ap (change_if d s f) there

  module _ (x : Cell) (keeps : KeepsShadow c x) (within : CellIn d x) (proto : IsValueOf d c.home x.proto) (kind : IsNullOrObject x.proto) (props : ArePropertiesOf d c.home x.props) where
    pub written : Followed d (set_cell d s x) s
    written = followed-set d s c x can there keeps shadow
        (own-all d c x (shadow-simple c.kind shadow) keeps was-formed c.home proto.own (All-weaker (λ (p : Key × Full Value). IsPropertyOf d c.home p.1) (λ (p : Key × Full Value). All (IsOwn d c.home) (in_full p.1)) (λ p h. h.own) x.props props))
        within
        (formed-all d c x (shadow-simple c.kind shadow) keeps was-formed kind proto.whole
        (All-weaker (λ (p : Key × Full Value). IsPropertyOf d c.home p.1) (λ (p : Key × Full Value). HasItsCallables d p.1) (λ p h. h.callables) x.props props)
        (All-weaker (λ (p : Key × Full Value). IsPropertyOf d c.home p.1) (λ (p : Key × Full Value). All InRange (full_values p.1)) (λ p h. h.wholes) x.props props))

  proto-was : IsValueOf d c.home c.proto
  proto-was = proto-of d can s c there

  props-were : ArePropertiesOf d c.home c.props
  props-were = each-of d can s c there

  -- another prototype, and no more extensible
  module _ (p : Value) (p-of : IsValueOf d c.home p) (kind : IsNullOrObject p) where
    pub proto-followed : Followed d (set_cell d s (with_proto p c)) s
    proto-followed = written (with_proto p c) (record { home = refl; kind = refl; label = refl; slots = refl })
        (record { home_in = was-in.home_in; kind_in = was-in.kind_in; proto_in = p-of.within; props_in = was-in.props_in; label_in = was-in.label_in; slots_in = was-in.slots_in })
        p-of kind props-were

    pub proto-held : (k : PropertyKey) → held_at (set_cell d s (with_proto p c)) s k ≡ held_at d s k
    proto-held k = held-set d s c (with_proto p c) there refl refl k ∙ sym (held-there k)

  pub closed-followed : Followed d (set_cell d s (closed c)) s
  closed-followed = written (closed c) (record { home = refl; kind = refl; label = refl; slots = refl })
      (record { home_in = was-in.home_in; kind_in = was-in.kind_in; proto_in = was-in.proto_in; props_in = was-in.props_in; label_in = was-in.label_in; slots_in = was-in.slots_in })
      proto-was was-formed.prototype props-were

  pub closed-held : (k : PropertyKey) → held_at (set_cell d s (closed c)) s k ≡ held_at d s k
  closed-held k = held-set d s c (closed c) there refl refl k ∙ sym (held-there k)

  keeps-put : (key : Key) (full : Full Value) → KeepsShadow c (put_in key full c)
  keeps-put key full = record { home = refl; kind = refl; label = refl; slots = refl }

  keeps-remove : (key : Key) → KeepsShadow c (remove_in key c)
  keeps-remove key = record { home = refl; kind = refl; label = refl; slots = refl }

  module _ (key : Key) (key-in-d : KeyIn d key) where
    module _ (full : Full Value) (full-of : IsPropertyOf d c.home full) where
      pub put-followed : Followed d (set_cell d s (put_in key full c)) s
      put-followed = written (put_in key full c) (keeps-put key full) (CellIn-put d c key full key-in-d full-of.within was-in) proto-was was-formed.prototype
          (All-insert (λ (p : Key × Full Value). IsPropertyOf d c.home p.1) c.props key full full-of (λ p h. full-of) props-were)

      pub put-held : Held d (set_cell d s (put_in key full c)) s (key_in (names_of d) key) (Some (full_in (names_of d) full))
      put-held = record {
        properties = λ k.
            held-set d s c (put_in key full c) there refl refl k
            ∙ view-put d can.texts c was-in key key-in-d full k
            ∙ ap (λ (o : Option (Full Val)). if same_key k (key_in (names_of d) key) then Some (full_in (names_of d) full) else o) (sym (held-there k));
        flags = flags-set d s c (put_in key full c) there refl refl ∙ sym flags-there;
      }

    pub remove-followed : Followed d (set_cell d s (remove_in key c)) s
    remove-followed = written (remove_in key c) (keeps-remove key) (CellIn-remove d c key was-in) proto-was was-formed.prototype
        (All-without (λ (p : Key × Full Value). IsPropertyOf d c.home p.1) c.props (own_key key) props-were)

    pub remove-held : OwnDistinct c.props → Held d (set_cell d s (remove_in key c)) s (key_in (names_of d) key) None
    remove-held u = record {
      properties = λ k.
          held-set d s c (remove_in key c) there refl refl k
          ∙ view-removed d can.texts c was-in key key-in-d u k
          ∙ ap (λ (o : Option (Full Val)). if same_key k (key_in (names_of d) key) then None else o) (sym (held-there k));
      flags = flags-set d s c (remove_in key c) there refl refl ∙ sym flags-there;
    }

    pub absent-held : found c.props key ≡ None → Held d d s (key_in (names_of d) key) None
    absent-held e = record {
      properties = λ k.
          held-there k
          ∙ view-absent d can.texts c was-in key key-in-d e k
          ∙ ap (λ (o : Option (Full Val)). if same_key k (key_in (names_of d) key) then None else o) (sym (held-there k));
      flags = refl;
    }

-- ---- as the code has it

cell-of : (d : Data) (s : ObjId) → IsShadow (cell_at d s) → (c : Cell) × (cell_at d s ≡ Some c) × (is_shadow c.kind ≡ true)
cell-of d s h = some-get (λ (c : Cell). is_shadow c.kind ≡ true) (cell_at d s) h

home-there : (d : Data) (s : ObjId) (c : Cell) → cell_at d s ≡ Some c → home_at d s ≡ c.home
home-there d s c e = rw e refl

pub in-there : (d : Data) (s : ObjId) → IsShadow (cell_at d s) → s.0 < length d.cells
in-there d s h = let c = cell-of d s h in slice_get_within d.cells s.0 c.0 c.1

module _ (d : Data) (can : CanSee d) (s : ObjId) (h : IsShadow (cell_at d s)) (key : Key) (i : KeyIn d key) where
  -- a property is put, or memory was refused
  pub put-done : {E : Type 0} (full : Full Value) → IsPropertyOf d (home_at d s) full → (d1 d2 : Data) (r q : Result (Unit {0}) E) → q ≡ r
      → OnOk r (d1 ≡ change_cell d s (put_in key full)) → OnErr r (d1 ≡ d) → OnOk q (d2 ≡ d1) → OnErr q (d2 ≡ halted d1)
      → OnOk q (Held d d2 s (key_in (names_of d) key) (Some (full_in (names_of d) full))) × Followed d d2 s
  put-done {E} full of d1 d2 r q same put kept runs halts = rw same (by r put kept (subst (λ (x : Result (Unit {0}) E). OnOk x (d2 ≡ d1)) same runs) (subst (λ (x : Result (Unit {0}) E). OnErr x (d2 ≡ halted d1)) same halts))
    where
      c : (c : Cell) × (cell_at d s ≡ Some c) × (is_shadow c.kind ≡ true)
      c = cell-of d s h

      its : IsPropertyOf d c.0.home full
      its = subst (λ (side : Side). IsPropertyOf d side full) (home-there d s c.0 c.1) of

      by : (r : Result (Unit {0}) E) → OnOk r (d1 ≡ change_cell d s (put_in key full)) → OnErr r (d1 ≡ d) → OnOk r (d2 ≡ d1) → OnErr r (d2 ≡ halted d1)
          → OnOk r (Held d d2 s (key_in (names_of d) key) (Some (full_in (names_of d) full))) × Followed d d2 s
      by (Ok u) put kept runs halts =
          let is : set_cell d s (put_in key full c.0) ≡ d2 = sym (runs ∙ put ∙ change-is d can s c.0 c.1 c.2 (put_in key full)) in (
            subst (λ (x : Data). Held d x s (key_in (names_of d) key) (Some (full_in (names_of d) full))) is (put-held d can s c.0 c.1 c.2 key i full its),
            subst (λ (x : Data). Followed d x s) is (put-followed d can s c.0 c.1 c.2 key i full its),
          )
      by (Err e) put kept runs halts =
          let is : halted d ≡ d2 = sym (halts ∙ ap halted kept) in
          (tt, subst (λ (x : Data). Followed d x s) is (followed-halted d d s (in-there d s h) (followed-same d s can)))

  -- a key is taken out
  pub remove-done : (c : Cell) → cell_at d s ≡ Some c → OwnDistinct c.props → (d1 : Data) → d1 ≡ change_cell d s (remove_in key)
      → Held d d1 s (key_in (names_of d) key) None × Followed d d1 s
  remove-done c there u d1 e =
      let shadow : is_shadow c.kind ≡ true = some-is (λ (c : Cell). is_shadow c.kind ≡ true) (cell_at d s) c there h in
      let is : set_cell d s (remove_in key c) ≡ d1 = sym (e ∙ change-is d can s c there shadow (remove_in key)) in (
        subst (λ (x : Data). Held d x s (key_in (names_of d) key) None) is (remove-held d can s c there shadow key i u),
        subst (λ (x : Data). Followed d x s) is (remove-followed d can s c there shadow key i),
      )

  pub absent-done : (c : Cell) → cell_at d s ≡ Some c → found c.props key ≡ None → Held d d s (key_in (names_of d) key) None
  absent-done c there e =
      let shadow : is_shadow c.kind ≡ true = some-is (λ (c : Cell). is_shadow c.kind ≡ true) (cell_at d s) c there h in
      absent-held d can s c there shadow key i e

-- ---- a shadow is closed

pub record Closes (d d' : Data) (s : ObjId) (p : Value) : Type 0 where
  pub flags : flags_at d' s ≡ Some (Resolve (names_of d) p, false)
  pub properties : (key : PropertyKey) → held_at d' s key ≡ held_at d s key
  pub followed : Followed d d' s

pub close-done : (d d1 d2 : Data) → CanSee d → (s : ObjId) → IsShadow (cell_at d s) → (p : Value) → IsValueOf d (home_at d s) p → IsNullOrObject p
    → d1 ≡ change_cell d s (with_proto p) → d2 ≡ change_cell d1 s closed → Closes d d2 s p
close-done d d1 d2 can s h p of kind one two =
    let c = cell-of d s h in
    let its : IsValueOf d c.0.home p = subst (λ (side : Side). IsValueOf d side p) (home-there d s c.0 c.1) of in
    let e = change-is d can s c.0 c.1 c.2 (with_proto p) in
    let b : Data = set_cell d s (with_proto p c.0) in
    let first : Followed d b s = proto-followed d can s c.0 c.1 c.2 p its kind in
    let there : cell_at b s ≡ Some (with_proto p c.0) = set-there d s c.0 (with_proto p c.0) c.1 refl refl in
    let names : names_of b ≡ names_of d = names-set d s c.0 (with_proto p c.0) c.1 refl refl in
    let a : Data = set_cell b s (closed (with_proto p c.0)) in
    let is : a ≡ d2 = sym (two ∙ ap (λ (x : Data). change_cell x s closed) (one ∙ e) ∙ change-is b first.can_see s (with_proto p c.0) there c.2 closed) in
    subst (λ (x : Data). Closes d x s p) is (record {
      flags = flags-set b s (with_proto p c.0) (closed (with_proto p c.0)) there refl refl ∙ ap (λ (n : Names). Some (Resolve n p, false)) names;
      properties = λ k. closed-held b first.can_see s (with_proto p c.0) there c.2 k ∙ proto-held d can s c.0 c.1 c.2 p its kind k;
      followed = followed-then d b a s (in-there d s h) first (closed-followed b first.can_see s (with_proto p c.0) there c.2);
    })
