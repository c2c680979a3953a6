-- A cell that is formed stays so where values cross.
use Rattle.std.proofs.Common.{◌≡◌, pos, List, [], ◌∷◌, Option, Some, None, Bool, false, refl, ap, sym, ◌∙◌, subst}
use Rattle.std.specs.Prelude.{All}
use Rattle.std.specs.List.{IsDistinct, AllByRecursion}
use Rattle.std.proofs.lemmas.List.Elements.{All-head, All-tail}
use Rattle.mb_base.specs.declared.value.ObjId.{ObjId}
use Rattle.mb_base.specs.declared.value.Side.{Side}
use Rattle.mb_base.specs.declared.value.Key.{Key}
use Rattle.mb_base.specs.declared.value.Key.TheVariants as k
use Rattle.mb_base.specs.declared.value.Value.{Value}
use Rattle.mb_base.specs.declared.value.Value.TheVariants as v
use Rattle.mb_desc.specs.declared.descriptor.Full.{Full}
use Rattle.mb_desc.specs.declared.descriptor.Full.TheVariants.{Datum, Accessor}
use Rattle.mb_world.specs.declared.cell.Cell.{Cell}
use Rattle.mb_world.specs.declared.cell.CellKind.{CellKind}
use Rattle.mb_world.specs.declared.cell.CellKind.TheVariants.{Array, Function, Proxy, Revoker, Membrane, Shadow, Collection}
use Rattle.mb_world.specs.Objects.{is_callable, shape_of_thing, thing_at}
use Rattle.mb_world.specs.Data.{Data, cell_at}
use Rattle.mb_world.specs.Ids.{CellIn, KindIn, ValueIn, FullIn, PropertyIn, PairIn, ObjIn, Maybe}
use Rattle.mb_world.specs.Image.{Image, names_of, object_in, Resolve}
use Rattle.mb_world.specs.Laws.{Becomes, same_graph}
use Rattle.mb_world.specs.Formed.{FormedCell, HasItsCallables, IsCallable, IsCallableOrNot, IsArray, HasLength, HasItsSlots, HasItsKind, IsProxyKind, thing_of, same_pair_key}
use Rattle.mb_world.proofs.Images.{value-grows}
use Rattle.mb_maps.specs.Crossed.{KeepsCells}
use Rattle.mb_maps.proofs.Lists.{some-stays}

-- what an id names stays
pub thing-stays : (a b : Data) → Becomes a b same_graph → (id : ObjId) → ObjIn a id → thing_of b id ≡ thing_of a id
thing-stays a b g id l =
    ap (λ g. thing_at g (object_in (names_of b) id)) (g.image []) ∙ ap (thing_at (Image a [])) (g.grows.same_object id l)

module _ (a : Data) (cells : List Cell) (halts : Bool) where
  abbrev b : Data
  b = record a { cells = cells; halted = halts }

  module _ (stay : KeepsCells a b) (g : Becomes a b same_graph) where
    pub callable-stays : (y : Value) → ValueIn a y → IsCallable a y → IsCallable b y
    callable-stays y i h =
        ap (λ graph. is_callable graph (Resolve (names_of b) y)) (g.image [])
        ∙ ap (is_callable (Image a [])) (value-grows a b g.grows y i)
        ∙ h

    callable-or-stays : (y : Value) → ValueIn a y → IsCallableOrNot a y → IsCallableOrNot b y
    callable-or-stays v.Undefined i h = tt
    callable-or-stays v.Null i h = callable-stays v.Null i h
    callable-or-stays (v.Bool t) i h = callable-stays (v.Bool t) i h
    callable-or-stays (v.Whole n) i h = callable-stays (v.Whole n) i h
    callable-or-stays (v.Text t) i h = callable-stays (v.Text t) i h
    callable-or-stays (v.Symbol t) i h = callable-stays (v.Symbol t) i h
    callable-or-stays (v.Object o) i h = callable-stays (v.Object o) i h

    callables-stay : (f : Full Value) → FullIn a f → HasItsCallables a f → HasItsCallables b f
    callables-stay (Datum x w e c) i h = tt
    callables-stay (Accessor x y e c) i h = (callable-or-stays x i.0 h.0, callable-or-stays y i.1 h.1)

    length-stays : (ps : List (Key × Full Value)) → All (PropertyIn a) ps → HasLength a ps → HasLength b ps
    length-stays ((k.Text text index, Datum (v.Whole (pos n)) w false false) ∷ rest) i h =
        (g.grows.same_text text (All-head (PropertyIn a) (k.Text text index, Datum (v.Whole (pos n)) w false false) rest i).0.0 ∙ h.0, h.1, h.2)
    length-stays ps i h = absurd h

    array-stays : (c : Cell) (kind : CellKind) → All (PropertyIn a) c.props → IsArray a kind c → IsArray b kind c
    array-stays c Array i h = (h.0, length-stays c.props i h.1)
    array-stays c kind i h = tt

    pair-same : (p q : Option (Value × Value)) → Maybe (PairIn a) p → Maybe (PairIn a) q → same_pair_key b p q ≡ same_pair_key a p q
    pair-same None q i j = refl
    pair-same (Some p) None i j = refl
    pair-same (Some p) (Some q) i j = rw (value-grows a b g.grows p.0 i.0, value-grows a b g.grows q.0 j.0) refl

    apart-stays : (p : Option (Value × Value)) (qs : List (Option (Value × Value))) → Maybe (PairIn a) p → All (Maybe (PairIn a)) qs
        → AllByRecursion (λ q. same_pair_key a p q ≡ false) qs → AllByRecursion (λ q. same_pair_key b p q ≡ false) qs
    apart-stays p [] i j h = tt
    apart-stays p (q ∷ qs) i j h =
        (pair-same p q i (All-head (Maybe (PairIn a)) q qs j) ∙ h.0, apart-stays p qs i (All-tail (Maybe (PairIn a)) q qs j) h.1)

    distinct-stays : (ps : List (Option (Value × Value))) → All (Maybe (PairIn a)) ps → IsDistinct (same_pair_key a) ps → IsDistinct (same_pair_key b) ps
    unfolding IsDistinct
    distinct-stays [] i h = tt
    distinct-stays (p ∷ ps) i h = (
      apart-stays p ps (All-head (Maybe (PairIn a)) p ps i) (All-tail (Maybe (PairIn a)) p ps i) h.0,
      distinct-stays ps (All-tail (Maybe (PairIn a)) p ps i) h.1,
    )

    slots-stay : (c : Cell) (kind : CellKind) → All (Maybe (PairIn a)) c.slots → HasItsSlots a kind c → HasItsSlots b kind c
    slots-stay c (Collection coll) i h = distinct-stays c.slots i h
    slots-stay c kind i h = h

    kind-stays : (home : Side) (kind : CellKind) → KindIn a kind → HasItsKind a home kind → HasItsKind b home kind
    kind-stays home (Function code) i h = record { side_is = h.side_is; node_is = h.node_is; scope_is = h.scope_is }
    kind-stays home (Proxy (Some target) (Some handler) shape) i h =
        rw (thing-stays a b g target i.0) h
    kind-stays home (Proxy None None shape) i h = tt
    kind-stays home (Proxy None (Some handler) shape) i h = absurd h
    kind-stays home (Proxy (Some target) None shape) i h = absurd h
    kind-stays home (Revoker proxy) i h = some-stays (λ (c : Cell). IsProxyKind c.kind) (cell_at a proxy) (cell_at b proxy) (stay proxy) h
    kind-stays home (Membrane behind shadow) i h =
        rw (thing-stays a b g behind i.0)
        (some-stays (λ (c : Cell). c.kind ≡ Shadow (shape_of_thing (thing_of a behind))) (cell_at a shadow) (cell_at b shadow) (stay shadow) h)
    kind-stays home kind i h = tt

    pub formed-there : (c : Cell) → CellIn a c → FormedCell a c → FormedCell b c
    formed-there c i h = record {
      home = h.home;
      wholes = h.wholes;
      prototype = h.prototype;
      callables = λ n p l. callables-stay _ (i.props_in n p l).1 (h.callables n p l);
      array = array-stays c c.kind i.props_in h.array;
      slots = slots-stay c c.kind i.slots_in h.slots;
      kind = kind-stays c.home c.kind i.kind_in h.kind;
    }

pub formed-stays : (a b : Data) → KeepsCells a b → b ≡ record a { cells = b.cells; halted = b.halted } → Becomes a b same_graph
    → (c : Cell) → CellIn a c → FormedCell a c → FormedCell b c
formed-stays a b k r g c i h =
    subst (λ (x : Data). KeepsCells a x → Becomes a x same_graph → FormedCell x c) (sym r)
    (λ k g. formed-there a b.cells b.halted k g c i h) k g
