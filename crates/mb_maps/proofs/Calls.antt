-- What the calls leave, over plain worlds.
use Rattle.std.proofs.Common.{◌≡◌, ◌<◌, ◌+◌, List, [], length, Option, Some, None, Bool, true, false, refl, ap, sym, ◌∙◌, ◌⊎◌, inl, inr, arith, is_some, true≢false, if◌then◌else◌, Result, Ok, Err}
use Rattle.std.specs.Prelude.{All, IsSomeAnd, IfOk, OnOk, OnErr}
use Rattle.std.proofs.lemmas.Option.{slice_get_within}
use Rattle.std.proofs.lemmas.List.Elements.{All-head, All-cons, All-nil}
use Rattle.mb_base.specs.declared.value.ObjId.{ObjId}
use Rattle.mb_base.specs.declared.value.Side.{Side}
use Rattle.mb_base.specs.declared.NoMemory.{NoMemory}
use Rattle.mb_base.specs.declared.value.Value.{Value}
use Rattle.mb_base.specs.declared.value.Value.TheVariants as v
use Rattle.mb_world.specs.declared.cell.Cell.{Cell}
use Rattle.mb_world.specs.declared.cell.CellKind.{CellKind}
use Rattle.mb_world.specs.declared.cell.CellKind.TheVariants as kind
use Rattle.mb_world.specs.declared.cell.CellKind.TheVariants.{Membrane, Shadow, BuiltIn}
use Rattle.mb_world.specs.declared.cell.Shape.{Shape}
use Rattle.mb_world.specs.declared.cell.Shape.TheVariants.{Calls, Constructs}
use Rattle.mb_world.specs.Objects.{shape_of_kind, shape_of_thing}
use Rattle.mb_world.specs.Data.{Data, Stand, Counted, AtPlace, Before, Hidden, kind_stand, stand, is_counted, is_object_cell, cell_at, same_side, proxy_in, made, obj_id}
use Rattle.mb_world.specs.Ids.{HasItsIds, ObjIn, ValueIn}
use Rattle.mb_world.specs.Image.{Names, names_of, kind_in, Resolve}
use Rattle.mb_world.specs.Contained.{IsOwn, IsMembrane, PairedFrom, in_value, is_shadow}
use Rattle.mb_world.specs.Formed.{thing_of}
use Rattle.mb_world.proofs.Images.{value-grows}
use Rattle.mb_world.proofs.AfterCalls.{thing-at}
use Rattle.mb_maps.specs.Crossing.{meant, object_by, object_for, counterpart, with_shadow, with_proxy, crossed_if, crossed, halted, IsRefused, IsOfAnother, IsForeign}
use Rattle.mb_maps.specs.Crossed.{CanCross, Crossed}
use Rattle.mb_maps.specs.Laws.{IsCounterpart}
use Rattle.mb_maps.specs.machine.Shapes.{called, shape_by}
use Rattle.mb_maps.proofs.Lists.{some-by, some-get, some-is, obj-same}
use Rattle.mb_maps.proofs.Adding.{owns-stay}
use Rattle.mb_maps.proofs.NewProxies.{proxy_cell, proxy-last, crossed-shadow, crossed-proxy}
use Rattle.mb_maps.proofs.Worlds.{crossed-then, crossed-halted, paired-from}
use Rattle.mb_maps.proofs.Counterparts.{IsMeant, IsReal, meant-is, meant-kept, object-proxied, counterpart-by, counterpart-is, counted-shadow, proxy-found}

-- ---- the shape of an object

kind-shape : (b : Bool) → (if b then Constructs else Calls) ≡ called b
kind-shape true = refl
kind-shape false = refl

shape-by-kind : (n : Names) (slots : List (Option (Value × Value))) (k : CellKind) → is_counted (kind_stand k) ≡ true
    → shape_of_kind (kind_in n slots k) ≡ shape_by k
shape-by-kind n slots kind.Plain h = refl
shape-by-kind n slots kind.Array h = refl
shape-by-kind n slots (kind.Function code) h = kind-shape code.constructs
shape-by-kind n slots (kind.BuiltIn place) h = cc
shape-by-kind n slots (kind.Fault e) h = refl
shape-by-kind n slots (kind.Proxy (Some target) (Some handler) shape) h = refl
shape-by-kind n slots (kind.Proxy (Some target) None shape) h = refl
shape-by-kind n slots (kind.Proxy None handler shape) h = refl
shape-by-kind n slots (kind.Revoker proxy) h = refl
shape-by-kind n slots (kind.Membrane behind shadow) h = cc
shape-by-kind n slots (kind.Shadow shape) h = cc
shape-by-kind n slots (kind.Collection coll) h = refl

pub shape-is : (d : Data) (id : ObjId) (c : Cell) → cell_at d id ≡ Some c → is_object_cell c ≡ true → shape_of_thing (thing_of d id) ≡ shape_by c.kind
shape-is d id c e h = ap shape_of_thing (thing-at d id c [] e h) ∙ shape-by-kind (names_of d) c.slots c.kind h

-- ---- a proxy is made

module _ (d d1 : Data) (id : ObjId) (side : Side) (c : Cell) (shape : Shape) (e : cell_at d id ≡ Some c)
    (o : IsSomeAnd (cell_at d id) (λ c. is_object_cell c ≡ true)) (s : shape ≡ shape_by c.kind)
    (m : d1 ≡ made d side (Shadow shape) v.Null None) where
  pub shadow-made : d1 ≡ with_shadow d side id
  shadow-made =
      let counted : is_object_cell c ≡ true = some-is (λ (x : Cell). is_object_cell x ≡ true) (cell_at d id) c e o in
      m ∙ ap (λ (t : Shape). made d side (Shadow t) v.Null None) (s ∙ sym (shape-is d id c e counted))

  pub proxy-made : (d2 : Data) (shadow : ObjId) → shadow.0 ≡ length d.cells → d2 ≡ made d1 side (Membrane id shadow) v.Null None → d2 ≡ with_proxy d side id
  proxy-made d2 shadow l p =
      p
      ∙ ap (λ (t : ObjId). made d1 side (Membrane id t) v.Null None) (obj-same shadow (obj_id (length d.cells)) l)
      ∙ ap (λ (x : Data). made x side (Membrane id (obj_id (length d.cells))) v.Null None) shadow-made

pub there-in : (d : Data) (id : ObjId) (P : Cell → Type 0) → IsSomeAnd (cell_at d id) P → ObjIn d id
there-in d id P h = let q = some-get P (cell_at d id) h in slice_get_within d.cells id.0 q.0 q.1

-- ---- an object crosses

-- the side has no proxy yet of what is meant
record Wanting (d : Data) (to : Side) (m : ObjId) : Type 0 where
  pub cell : Cell
  pub there : cell_at d m ≡ Some cell
  pub counted : stand cell ≡ Counted
  pub foreign : same_side cell.home to ≡ false
  pub none : proxy_in d.cells to m ≡ None

module _ (d : Data) (to : Side) (id : ObjId) (takes-part : to.0 < d.sides) (apart : d.joined ≡ false) (can : CanCross d) (foreign : IsOfAnother d to id) where
  abbrev what : Type 0
  what = (x : Cell) × (cell_at d id ≡ Some x) × ((same_side x.home to ≡ false) × (is_shadow x.kind ≡ false))

  here : what
  here = some-get (λ (c : Cell). (same_side c.home to ≡ false) × (is_shadow c.kind ≡ false)) (cell_at d id) foreign

  means : IsMeant d id (meant d id) here.0
  means = meant-is d can.paired id here.0 here.1 here.2.1

  wanting : object_for d to (meant d id) ≡ None → Wanting d to (meant d id)
  wanting h = by (stand means.cell) (same_side means.cell.home to) refl refl means.real (rw means.there at h)
    where
      by : (s : Stand) (own : Bool) → stand means.cell ≡ s → same_side means.cell.home to ≡ own → IsReal s → object_by d.cells to (meant d id) own s ≡ None → Wanting d to (meant d id)
      by (AtPlace place) own p q r k = absurd (true≢false (sym (can.built_ins (meant d id) means.cell place to means.there p takes-part) ∙ ap is_some k))
      by Counted true p q r k = cc
      by Counted false p q r k = record { cell = means.cell; there = means.there; counted = p; foreign = q; none = k }
      by (Before n) own p q r k = absurd r
      by Hidden own p q r k = absurd r

  pub wants-object : object_for d to (meant d id) ≡ None → IsSomeAnd (cell_at d (meant d id)) (λ c. is_object_cell c ≡ true)
  wants-object h = let w = wanting h in rw (w.there, w.counted) refl

  pub counterpart-none : object_for d to (meant d id) ≡ None → counterpart d to (v.Object id) ≡ None
  counterpart-none h = rw (apart, h) refl

  pub counterpart-some : (o : ObjId) → object_for d to (meant d id) ≡ Some o → counterpart d to (v.Object id) ≡ Some (v.Object o)
  counterpart-some o h = rw (apart, h) refl

  pub crossed-none : object_for d to (meant d id) ≡ None → crossed d to (v.Object id) ≡ with_proxy d to (meant d id)
  unfolding crossed
  crossed-none h = ap (λ o. crossed_if o d to (v.Object id)) (counterpart-none h)

  pub crossed-some : (o : ObjId) → object_for d to (meant d id) ≡ Some o → crossed d to (v.Object id) ≡ d
  unfolding crossed
  crossed-some o h = ap (λ o. crossed_if o d to (v.Object id)) (counterpart-some o h)

  module _ (ids : HasItsIds d) (h : object_for d to (meant d id) ≡ None) where
    few : to.0 < 8
    few = let s = can.sides in omega arith

    abbrev later : Data
    later = with_proxy d to (meant d id)

    pub stays-made : Crossed d later
    stays-made =
        let w = wanting h in
        crossed-proxy d to (meant d id) ids few takes-part w.cell w.there w.counted w.foreign (counted-shadow w.cell.kind w.counted) w.none

    pub stays-shadow : Crossed d (with_shadow d to (meant d id))
    stays-shadow = crossed-shadow d to (meant d id) few takes-part ids

    pub value-made : counterpart later to (v.Object id) ≡ Some (v.Object (obj_id (length d.cells + 1)))
    value-made =
        let w = wanting h in
        let same : meant later id ≡ meant d id = meant-kept d later id here.0 here.1 (stays-made.cells id here.0 here.1) in
        let p : IsMembrane later (obj_id (length d.cells + 1)) to (meant d id) (obj_id (length d.cells)) =
        record { cell = proxy_cell d to (meant d id) (obj_id (length d.cells)); there = proxy-last d to (meant d id); home_is = refl; kind_is = refl } in
        let k : CanCross later = stays-made.can_cross can in
        counterpart-by later to id (meant d id) (obj_id (length d.cells + 1)) apart same
        (object-proxied later to (meant d id) w.cell (obj_id (length d.cells + 1)) (stays-made.cells (meant d id) w.cell w.there) w.counted w.foreign
        (proxy-found later k.paired to (meant d id) (obj_id (length d.cells + 1)) (obj_id (length d.cells)) p))

    pub within-made : (length d.cells + 1) < length later.cells
    within-made = slice_get_within later.cells (length d.cells + 1) (proxy_cell d to (meant d id) (obj_id (length d.cells))) (proxy-last d to (meant d id))

-- ---- a value crosses

pub joined-own : (d : Data) (side : Side) (x : Value) → d.joined ≡ true → counterpart d side x ≡ Some x
joined-own d side x j = rw j refl

-- a primitive
module _ (d : Data) (apart : d.joined ≡ false) where
  pub primitive-own : (side : Side) (x : Value) → ((o : ObjId) → x ≡ v.Object o → ⊥) → counterpart d side x ≡ Some x
  primitive-own side (v.Object o) h = absurd (h o refl)
  primitive-own side v.Undefined h = rw apart refl
  primitive-own side v.Null h = rw apart refl
  primitive-own side (v.Bool t) h = rw apart refl
  primitive-own side (v.Whole n) h = rw apart refl
  primitive-own side (v.Text t) h = rw apart refl
  primitive-own side (v.Symbol t) h = rw apart refl

  pub no-references : (P : ObjId → Type 0) (x : Value) → ((o : ObjId) → x ≡ v.Object o → ⊥) → All P (in_value x)
  no-references P (v.Object o) h = absurd (h o refl)
  no-references P v.Undefined h = All-nil P
  no-references P v.Null h = All-nil P
  no-references P (v.Bool t) h = All-nil P
  no-references P (v.Whole n) h = All-nil P
  no-references P (v.Text t) h = All-nil P
  no-references P (v.Symbol t) h = All-nil P

some-home : (d : Data) (to : Side) (x : Value) → IsForeign d to x → (from : Side) × All (IsOwn d from) (in_value x)
some-home d to (v.Object id) h =
    let q = some-get (λ (c : Cell). (same_side c.home to ≡ false) × (is_shadow c.kind ≡ false)) (cell_at d id) (All-head (IsOfAnother d to) id [] h) in
    (q.0.home, All-cons (IsOwn d q.0.home) id [] (some-by (λ (c : Cell). (c.home ≡ q.0.home) × (is_shadow c.kind ≡ false)) (cell_at d id) q.0 q.1 (refl, q.2.1)) (All-nil (IsOwn d q.0.home)))
some-home d to v.Undefined h = (to, All-nil (IsOwn d to))
some-home d to v.Null h = (to, All-nil (IsOwn d to))
some-home d to (v.Bool t) h = (to, All-nil (IsOwn d to))
some-home d to (v.Whole n) h = (to, All-nil (IsOwn d to))
some-home d to (v.Text t) h = (to, All-nil (IsOwn d to))
some-home d to (v.Symbol t) h = (to, All-nil (IsOwn d to))

module _ (d d' : Data) (to : Side) (x y : Value) (can : d.joined ≡ false → CanCross d) (stays : Crossed d d') (value : counterpart d' to x ≡ Some y) where
  same-joined : d'.joined ≡ d.joined
  same-joined = ap (λ (x : Data). x.joined) stays.rest

  there : (from : Side) → All (IsOwn d from) (in_value x) → d.joined ≡ false → IsCounterpart d' from to x y
  there from own j = counterpart-is d' from to (same-joined ∙ j) (stays.can_cross (can j)) x y (owns-stay d d' stays.cells from (in_value x) own) value

  itself : d.joined ≡ true → y ≡ x
  itself j = let e : Some x ≡ Some y = sym (joined-own d' to x (same-joined ∙ j)) ∙ value in cc

  pub own-after : (d.joined ≡ false → IsForeign d to x) → d.joined ≡ false → All (IsOwn d' to) (in_value y)
  own-after f j = let q = some-home d to x (f j) in (there q.0 q.1 j).own

  pub back-after : (from : Side) → All (IsOwn d from) (in_value x) → counterpart d' from y ≡ Some x
  back-after from own = by d.joined refl
    where
      by : (b : Bool) → d.joined ≡ b → counterpart d' from y ≡ Some x
      by true j = rw (itself j) (joined-own d' from x (same-joined ∙ j))
      by false j = (there from own j).back

  pub meaning-after : (d.joined ≡ false → IsForeign d to x) → ValueIn d x → Resolve (names_of d') y ≡ Resolve (names_of d) x
  meaning-after f i = by d.joined refl ∙ value-grows d d' stays.becomes.grows x i
    where
      by : (b : Bool) → d.joined ≡ b → Resolve (names_of d') y ≡ Resolve (names_of d') x
      by true j = ap (Resolve (names_of d')) (itself j)
      by false j = let q = some-home d to x (f j) in (there q.0 q.1 j).meaning

  pub paired-after : d.joined ≡ false → PairedFrom d d'
  paired-after j = paired-from d d' stays.cells (stays.can_cross (can j)).paired

-- ---- what the call that makes a proxy leaves

module _ (d : Data) (to : Side) (id : ObjId) (takes-part : to.0 < d.sides) (apart : d.joined ≡ false) (can : CanCross d) (foreign : IsOfAnother d to id)
    (ids : HasItsIds d) (m : ObjId) (is : m ≡ meant d id) (none : None ≡ object_for d to m) where
  pub not-there : object_for d to (meant d id) ≡ None
  not-there = ap (object_for d to) (sym is) ∙ sym none

  pub object-by : IsSomeAnd (cell_at d m) (λ c. is_object_cell c ≡ true)
  object-by = rw is (wants-object d to id takes-part apart can foreign not-there)

  pub value-by : (d' : Data) (r : Result ObjId NoMemory) → OnOk r (d' ≡ with_proxy d to m) → IfOk r (λ p. p ≡ obj_id (length d.cells + 1))
      → IfOk r (λ own. counterpart d' to (v.Object id) ≡ Some (v.Object own))
  value-by d' (Err x) e i = tt
  value-by d' (Ok p) e i = rw (e, i, is) (value-made d to id takes-part apart can foreign ids not-there)

  pub crossed-by : (d' : Data) (r : Result ObjId NoMemory) → OnOk r (d' ≡ with_proxy d to m) → OnOk r (d' ≡ crossed d to (v.Object id))
  crossed-by d' (Err x) e = tt
  crossed-by d' (Ok p) e = e ∙ ap (with_proxy d to) is ∙ sym (crossed-none d to id takes-part apart can foreign not-there)

  pub stays-by : (d' : Data) (r : Result ObjId NoMemory) → OnOk r (d' ≡ with_proxy d to m) → OnErr r ((d' ≡ halted d) ⊎ (d' ≡ halted (with_shadow d to m)))
      → Crossed d d'
  stays-by d' (Ok p) e f = rw (e, is) (stays-made d to id takes-part apart can foreign ids not-there)
  stays-by d' (Err x) e f = elim f [
    | inl e ↦ rw e (crossed-halted d)
    | inr e ↦ (let one : Data = with_shadow d to (meant d id) in
        rw (e, is) (crossed-then d one (halted one) (stays-shadow d to id takes-part apart can foreign ids not-there) (crossed-halted one)))
  ]

pub halts-refused : (d d' : Data) (to : Side) (x : Value) → IsRefused d d' to x → d'.halted ≡ true
halts-refused d d' to x r = elim r [ inl e ↦ ap (λ (x : Data). x.halted) e | inr e ↦ ap (λ (x : Data). x.halted) e ]

pub crossed-itself : (d : Data) (to : Side) (x y : Value) → counterpart d to x ≡ Some y → crossed d to x ≡ d
unfolding crossed
crossed-itself d to x y h = ap (λ o. crossed_if o d to x) h
