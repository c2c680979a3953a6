-- A cell that is formed stays so where cells keep their homes and kinds, and objects what is read of them.
use Rattle.std.proofs.Common.{◌≡◌, ℤ, pos, List, [], ◌∷◌, Option, Some, None, Bool, true, false, refl, ap, sym, ◌∙◌, subst, true≢false, option_map}
use Rattle.std.specs.Prelude.{All, IsSomeAnd}
use Rattle.std.specs.List.{IsDistinct, AllByRecursion}
use Rattle.std.proofs.lemmas.List.Elements.{All-head, All-tail, All-cons, All-nil}
use Rattle.mb_base.specs.declared.value.ObjId.{ObjId}
use Rattle.mb_base.specs.declared.value.Side.{Side}
use Rattle.mb_base.specs.declared.value.Key.{Key}
use Rattle.mb_base.specs.declared.value.Key.TheVariants as k
use Rattle.mb_base.specs.declared.value.Value.{Value}
use Rattle.mb_base.specs.declared.value.Value.TheVariants as v
use Rattle.mb_desc.specs.declared.descriptor.Full.{Full}
use Rattle.mb_desc.specs.declared.descriptor.Full.TheVariants.{Datum, Accessor}
use Rattle.mb_world.specs.declared.cell.Cell.{Cell}
use Rattle.mb_world.specs.declared.cell.CellKind.{CellKind}
use Rattle.mb_world.specs.declared.cell.CellKind.TheVariants.{Array, Function, Proxy, Revoker, Membrane, Shadow, Collection}
use Rattle.mb_world.specs.declared.cell.Shape.{Shape}
use Rattle.mb_world.specs.declared.cell.Shape.TheVariants.{Plain as PlainShape}
use Rattle.mb_world.specs.Graph.{Thing}
use Rattle.mb_world.specs.Grows.{Grows}
use Rattle.mb_world.specs.Objects.{is_callable, kind_calls, is_proxy_kind, shape_of_kind, shape_of_thing, thing_is}
use Rattle.mb_world.specs.Value.{Undefined, Null, Truth, Whole, Text, Symbol, is_object}
use Rattle.mb_world.specs.Data.{Data, cell_at}
use Rattle.mb_world.specs.Ids.{ObjIn, CellIn, KindIn, ValueIn, FullIn, PropertyIn, PairIn, Maybe}
use Rattle.mb_world.specs.Image.{Names, Image, names_of, text_in, Resolve, full_in}
use Rattle.mb_world.specs.Laws.{Becomes, same_graph}
use Rattle.mb_world.specs.Formed.{FormedCell, InRange, IsNullOrObject, full_values, HasItsCallables, IsCallable, IsCallableOrNot, IsArray, HasLength, HasItsSlots, HasItsKind, IsProxyKind, thing_of, same_pair_key}
use Rattle.mb_world.proofs.Images.{value-grows}
use Rattle.mb_world.proofs.Values.{object-object}
use Rattle.mb_maps.proofs.Forming.{thing-stays}
use Rattle.mb_shadow.proofs.Cells.{KeepsFaces, faces-some}

-- ---- callables

module _ (a b : Data) (g : Becomes a b same_graph) where
  -- what stands for the same is called or not
  pub callable-as : (x y : Value) → Resolve (names_of b) y ≡ Resolve (names_of a) x → IsCallable a x → IsCallable b y
  callable-as x y e h =
      ap (λ graph. is_callable graph (Resolve (names_of b) y)) (g.image []) ∙ ap (is_callable (Image a [])) e ∙ h

  weaker : (y : Value) → IsCallable b y → IsCallableOrNot b y
  weaker v.Undefined h = tt
  weaker v.Null h = h
  weaker (v.Bool t) h = h
  weaker (v.Whole n) h = h
  weaker (v.Text t) h = h
  weaker (v.Symbol t) h = h
  weaker (v.Object o) h = h

  none-as : (y : Value) → Resolve (names_of b) y ≡ Undefined → IsCallableOrNot b y
  none-as v.Undefined e = tt
  none-as v.Null e = cc
  none-as (v.Bool t) e = cc
  none-as (v.Whole n) e = cc
  none-as (v.Text t) e = cc
  none-as (v.Symbol t) e = cc
  none-as (v.Object o) e = absurd (true≢false (sym (object-object (names_of b) o) ∙ ap is_object e))

  pub callable-or-as : (x y : Value) → Resolve (names_of b) y ≡ Resolve (names_of a) x → IsCallableOrNot a x → IsCallableOrNot b y
  callable-or-as v.Undefined y e h = none-as y e
  callable-or-as v.Null y e h = weaker y (callable-as v.Null y e h)
  callable-or-as (v.Bool t) y e h = weaker y (callable-as (v.Bool t) y e h)
  callable-or-as (v.Whole n) y e h = weaker y (callable-as (v.Whole n) y e h)
  callable-or-as (v.Text t) y e h = weaker y (callable-as (v.Text t) y e h)
  callable-or-as (v.Symbol t) y e h = weaker y (callable-as (v.Symbol t) y e h)
  callable-or-as (v.Object o) y e h = weaker y (callable-as (v.Object o) y e h)

  pub callables-as : (x y : Full Value) → full_in (names_of b) y ≡ full_in (names_of a) x → HasItsCallables a x → HasItsCallables b y
  callables-as (Datum x w e c) (Datum y w' e' c') q h = tt
  callables-as (Accessor x s e c) (Datum y w' e' c') q h = tt
  callables-as (Datum x w e c) (Accessor y s' e' c') q h = cc
  callables-as (Accessor x s e c) (Accessor y s' e' c') q h =
      let one : Resolve (names_of b) y ≡ Resolve (names_of a) x = cc in
      let two : Resolve (names_of b) s' ≡ Resolve (names_of a) s = cc in
      (callable-or-as x y one h.0, callable-or-as s s' two h.1)

-- ---- whole numbers

whole-as : (n : Names) (z : ℤ) (y : Value) → Resolve n y ≡ Whole z → InRange (v.Whole z) → InRange y
whole-as n z v.Undefined e h = tt
whole-as n z v.Null e h = tt
whole-as n z (v.Bool t) e h = tt
whole-as n z (v.Whole y) e h = let q : y ≡ z = cc in rw q h
whole-as n z (v.Text t) e h = tt
whole-as n z (v.Symbol t) e h = tt
whole-as n z (v.Object o) e h = tt

other-as : (n : Names) (y : Value) → ((z : ℤ) → Resolve n y ≡ Whole z → ⊥) → InRange y
other-as n v.Undefined h = tt
other-as n v.Null h = tt
other-as n (v.Bool t) h = tt
other-as n (v.Whole y) h = absurd (h y refl)
other-as n (v.Text t) h = tt
other-as n (v.Symbol t) h = tt
other-as n (v.Object o) h = tt

-- what stands for the same is in range too
pub range-as : (m n : Names) (x y : Value) → Resolve n y ≡ Resolve m x → InRange x → InRange y
range-as m n (v.Whole z) y e h = whole-as n z y e h
range-as m n v.Undefined y e h = other-as n y (λ z q. (let bad : Undefined ≡ Whole z = sym e ∙ q in cc))
range-as m n v.Null y e h = other-as n y (λ z q. (let bad : Null ≡ Whole z = sym e ∙ q in cc))
range-as m n (v.Bool t) y e h = other-as n y (λ z q. (let bad : Truth t ≡ Whole z = sym e ∙ q in cc))
range-as m n (v.Text t) y e h = other-as n y (λ z q. (let bad : Text (text_in m t) ≡ Whole z = sym e ∙ q in cc))
range-as m n (v.Symbol t) y e h = other-as n y (λ z q. (let bad : Symbol t.0 ≡ Whole z = sym e ∙ q in cc))
range-as m n (v.Object o) y e h = other-as n y (λ z q. true≢false (sym (object-object m o) ∙ ap is_object (sym e ∙ q)))

pub ranges-as : (m n : Names) (x y : Full Value) → full_in n y ≡ full_in m x → All InRange (full_values x) → All InRange (full_values y)
ranges-as m n (Datum x w e c) (Datum y w' e' c') q h =
    let one : Resolve n y ≡ Resolve m x = cc in
    All-cons InRange y [] (range-as m n x y one (All-head InRange x [] h)) (All-nil InRange)
ranges-as m n (Accessor x s e c) (Datum y w' e' c') q h = cc
ranges-as m n (Datum x w e c) (Accessor y s' e' c') q h = cc
ranges-as m n (Accessor x s e c) (Accessor y s' e' c') q h =
    let one : Resolve n y ≡ Resolve m x = cc in
    let two : Resolve n s' ≡ Resolve m s = cc in
    All-cons InRange y (s' ∷ []) (range-as m n x y one (All-head InRange x (s ∷ []) h))
    (All-cons InRange s' [] (range-as m n s s' two (All-head InRange s [] (All-tail InRange x (s ∷ []) h))) (All-nil InRange))

-- ---- prototypes

null-as : (n : Names) (y : Value) → Resolve n y ≡ Null → IsNullOrObject y
null-as n v.Undefined e = cc
null-as n v.Null e = tt
null-as n (v.Bool t) e = cc
null-as n (v.Whole z) e = cc
null-as n (v.Text t) e = cc
null-as n (v.Symbol t) e = cc
null-as n (v.Object o) e = tt

reference-as : (n : Names) (y : Value) → is_object (Resolve n y) ≡ true → IsNullOrObject y
reference-as n v.Undefined e = cc
reference-as n v.Null e = cc
reference-as n (v.Bool t) e = cc
reference-as n (v.Whole z) e = cc
reference-as n (v.Text t) e = cc
reference-as n (v.Symbol t) e = cc
reference-as n (v.Object o) e = tt

pub prototype-as : (m n : Names) (x y : Value) → Resolve n y ≡ Resolve m x → IsNullOrObject x → IsNullOrObject y
prototype-as m n v.Null y e h = null-as n y e
prototype-as m n (v.Object o) y e h = reference-as n y (ap is_object e ∙ object-object m o)
prototype-as m n v.Undefined y e h = absurd h
prototype-as m n (v.Bool t) y e h = absurd h
prototype-as m n (v.Whole z) y e h = absurd h
prototype-as m n (v.Text t) y e h = absurd h
prototype-as m n (v.Symbol t) y e h = absurd h

-- ---- what is read of an object

-- whether it is called, whether it is a script-made Proxy, and its shape
abbrev pub face : Option Thing → Option (Bool × (Bool × Shape))
face o = option_map (λ t. (kind_calls t.kind, (is_proxy_kind t.kind, shape_of_kind t.kind))) o

-- that stays of each
abbrev pub KeepsThings : Data → Data → Type 0
KeepsThings a b = (o : ObjId) → ObjIn a o → face (thing_of b o) ≡ face (thing_of a o)

abbrev calls_of : Option (Bool × (Bool × Shape)) → Bool
calls_of None = false
calls_of (Some f) = f.0

abbrev shape_by : Option (Bool × (Bool × Shape)) → Shape
shape_by None = PlainShape
shape_by (Some f) = f.1.1

abbrev proxy_by : Option (Bool × (Bool × Shape)) → Bool
proxy_by None = false
proxy_by (Some f) = f.1.0

calls-face : (o : Option Thing) → thing_is kind_calls o ≡ calls_of (face o)
calls-face None = refl
calls-face (Some t) = refl

shape-face : (o : Option Thing) → shape_of_thing o ≡ shape_by (face o)
shape-face None = refl
shape-face (Some t) = refl

target-face : (o p : Option Thing) (shape : Shape) → face p ≡ face o → IsSomeAnd o (λ t. (is_proxy_kind t.kind ≡ false) × (shape_of_kind t.kind ≡ shape))
    → IsSomeAnd p (λ t. (is_proxy_kind t.kind ≡ false) × (shape_of_kind t.kind ≡ shape))
target-face None p shape e h = absurd h
target-face (Some t) None shape e h = cc
target-face (Some t) (Some u) shape e h =
    (ap proxy_by e ∙ h.0, ap shape_by e ∙ h.1)

-- ---- cells

module _ (a : Data) (cells : List Cell) (halts : Bool) where
  abbrev b : Data
  b = record a { cells = cells; halted = halts }

  module _ (stay : KeepsFaces a b) (grows : Grows a b) (things : KeepsThings a b) where
    callable-stays : (y : Value) → ValueIn a y → IsCallable a y → IsCallable b y
    callable-stays (v.Object o) i h = calls-face (thing_of b o) ∙ ap calls_of (things o i) ∙ sym (calls-face (thing_of a o)) ∙ h
    callable-stays v.Undefined i h = h
    callable-stays v.Null i h = h
    callable-stays (v.Bool t) i h = h
    callable-stays (v.Whole n) i h = h
    callable-stays (v.Text t) i h = h
    callable-stays (v.Symbol t) i h = h

    callable-or-stays : (y : Value) → ValueIn a y → IsCallableOrNot a y → IsCallableOrNot b y
    callable-or-stays v.Undefined i h = tt
    callable-or-stays v.Null i h = h
    callable-or-stays (v.Bool t) i h = h
    callable-or-stays (v.Whole n) i h = h
    callable-or-stays (v.Text t) i h = h
    callable-or-stays (v.Symbol t) i h = h
    callable-or-stays (v.Object o) i h = callable-stays (v.Object o) i h

    callables-stay : (f : Full Value) → FullIn a f → HasItsCallables a f → HasItsCallables b f
    callables-stay (Datum x w e c) i h = tt
    callables-stay (Accessor x y e c) i h = (callable-or-stays x i.0 h.0, callable-or-stays y i.1 h.1)

    length-stays : (ps : List (Key × Full Value)) → All (PropertyIn a) ps → HasLength a ps → HasLength b ps
    length-stays ((k.Text text index, Datum (v.Whole (pos n)) w false false) ∷ rest) i h =
        (grows.same_text text (All-head (PropertyIn a) (k.Text text index, Datum (v.Whole (pos n)) w false false) rest i).0.0 ∙ h.0, h.1, h.2)
    length-stays ps i h = absurd h

    array-stays : (c : Cell) (kind : CellKind) → All (PropertyIn a) c.props → IsArray a kind c → IsArray b kind c
    array-stays c Array i h = (h.0, length-stays c.props i h.1)
    array-stays c kind i h = tt

    pair-same : (p q : Option (Value × Value)) → Maybe (PairIn a) p → Maybe (PairIn a) q → same_pair_key b p q ≡ same_pair_key a p q
    pair-same None q i j = refl
    pair-same (Some p) None i j = refl
    pair-same (Some p) (Some q) i j = rw (value-grows a b grows p.0 i.0, value-grows a b grows q.0 j.0) refl

    apart-stays : (p : Option (Value × Value)) (qs : List (Option (Value × Value))) → Maybe (PairIn a) p → All (Maybe (PairIn a)) qs
        → AllByRecursion (λ q. same_pair_key a p q ≡ false) qs → AllByRecursion (λ q. same_pair_key b p q ≡ false) qs
    apart-stays p [] i j h = tt
    apart-stays p (q ∷ qs) i j h =
        (pair-same p q i (All-head (Maybe (PairIn a)) q qs j) ∙ h.0, apart-stays p qs i (All-tail (Maybe (PairIn a)) q qs j) h.1)

    distinct-stays : (ps : List (Option (Value × Value))) → All (Maybe (PairIn a)) ps → IsDistinct (same_pair_key a) ps → IsDistinct (same_pair_key b) ps
    unfolding IsDistinct
    distinct-stays [] i h = tt
    distinct-stays (p ∷ ps) i h = (
      apart-stays p ps (All-head (Maybe (PairIn a)) p ps i) (All-tail (Maybe (PairIn a)) p ps i) h.0,
      distinct-stays ps (All-tail (Maybe (PairIn a)) p ps i) h.1,
    )

    slots-stay : (c : Cell) (kind : CellKind) → All (Maybe (PairIn a)) c.slots → HasItsSlots a kind c → HasItsSlots b kind c
    slots-stay c (Collection coll) i h = distinct-stays c.slots i h
    slots-stay c kind i h = h

    kind-stays : (home : Side) (kind : CellKind) → KindIn a kind → HasItsKind a home kind → HasItsKind b home kind
    kind-stays home (Function code) i h = record { side_is = h.side_is; node_is = h.node_is; scope_is = h.scope_is }
    kind-stays home (Proxy (Some target) (Some handler) shape) i h =
        target-face (thing_of a target) (thing_of b target) shape (things target i.0) h
    kind-stays home (Proxy None None shape) i h = tt
    kind-stays home (Proxy None (Some handler) shape) i h = absurd h
    kind-stays home (Proxy (Some target) None shape) i h = absurd h
    kind-stays home (Revoker proxy) i h = faces-some a b stay (λ home kind. IsProxyKind kind) proxy h
    kind-stays home (Membrane behind shadow) i h =
        let same : shape_of_thing (thing_of a behind) ≡ shape_of_thing (thing_of b behind) =
        shape-face (thing_of a behind) ∙ ap shape_by (sym (things behind i.0)) ∙ sym (shape-face (thing_of b behind)) in
        subst (λ (shape : Shape). IsSomeAnd (cell_at b shadow) (λ (c : Cell). c.kind ≡ Shadow shape)) same
        (faces-some a b stay (λ home kind. kind ≡ Shadow (shape_of_thing (thing_of a behind))) shadow h)
    kind-stays home kind i h = tt

    formed-there : (c : Cell) → CellIn a c → FormedCell a c → FormedCell b c
    formed-there c i h = record {
      home = h.home;
      wholes = h.wholes;
      prototype = h.prototype;
      callables = λ n p l. callables-stay _ (i.props_in n p l).1 (h.callables n p l);
      array = array-stays c c.kind i.props_in h.array;
      slots = slots-stay c c.kind i.slots_in h.slots;
      kind = kind-stays c.home c.kind i.kind_in h.kind;
    }

pub formed-as : (a b : Data) → KeepsFaces a b → b ≡ record a { cells = b.cells; halted = b.halted } → Grows a b → KeepsThings a b
    → (c : Cell) → CellIn a c → FormedCell a c → FormedCell b c
formed-as a b k r g t c i h =
    subst (λ (x : Data). KeepsFaces a x → Grows a x → KeepsThings a x → FormedCell x c) (sym r)
    (λ k g t. formed-there a b.cells b.halted k g t c i h) k g t

-- where the graph stays
pub formed-moves : (a b : Data) → KeepsFaces a b → b ≡ record a { cells = b.cells; halted = b.halted } → Becomes a b same_graph
    → (c : Cell) → CellIn a c → FormedCell a c → FormedCell b c
formed-moves a b k r g c i h = formed-as a b k r g.grows (λ o i. ap face (thing-stays a b g o i)) c i h
