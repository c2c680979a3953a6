-- A new array of a home whose elements are stored, one after the other.
use Rattle.std.proofs.Common.{◌+◌, ◌++◌, ◌-◌, ◌<◌, ◌^◌, ◌≡◌, ◌≤◌, ◌∙◌, ◌∷◌, List, Ok, Option, Some, [], ap, arith}
use Rattle.std.proofs.Common.{get_or, length, refl, slice_get, subst, sym, take, true, ℕ}
use Rattle.std.proofs.Math.Seq.{set-append_seam}
use Rattle.std.proofs.lemmas.List.{length-map, length-take-le, map-append, take_more}
use Rattle.mb_base.specs.declared.value.ObjId.{ObjId}
use Rattle.mb_base.specs.declared.value.Side.{Side}
use Rattle.mb_base.specs.declared.value.Value.{Value}
use Rattle.mb_frames.proofs.HeldLess.{values-each}
use Rattle.mb_frames.proofs.Leaving.{holds-still}
use Rattle.mb_frames.proofs.Readying.{changed-then}
use Rattle.mb_frames.proofs.Steps.{Grew-then}
use Rattle.mb_frames.specs.Going.{WentOn, paying}
use Rattle.mb_frames.specs.Held.{HeldArray, HeldValue, HeldValues}
use Rattle.mb_frames.specs.Ready.{Changed, Holds, IsReady, MayHold}
use Rattle.mb_frames.specs.Resolved.{values_in}
use Rattle.mb_model.specs.Objects.Methods.{settled, store_element, stored_in}
use Rattle.mb_model.specs.Operations.Makings.{altered, make_array}
use Rattle.mb_model.specs.Task.{Answer, Flag}
use Rattle.mb_model.specs.Writing.{Row, make, with_object}
use Rattle.mb_parts.proofs.Filled.{filled, filled-all, filled-more}
use Rattle.mb_parts.specs.Storing.{Stores}
use Rattle.mb_world.proofs.Images.{value-grows}
use Rattle.mb_world.specs.Data.{Data}
use Rattle.mb_world.specs.Graph.{Graph, Item, Thing}
use Rattle.mb_world.specs.Ids.{ValueIn}
use Rattle.mb_world.specs.Image.{Image, Resolve, names_of, object_in}
use Rattle.mb_world.specs.Ordinary.{Defined}
use Rattle.mb_world.specs.Standard.{array_prototype}
use Rattle.mb_world.specs.Value.{Object, Val}

last-there : {A : Type 0} (xs : List A) (x : A) → slice_get (xs ++ (x ∷ [])) (length xs) ≡ Some x
last-there [] x = refl
last-there (y ∷ ys) x = last-there ys x

-- ---- a store in the graph

module _ (s : ℕ) (vs : List Val) (v : Val) (n : ℕ) (e : n ≡ length vs) (l : n < 2 ^ 32 - 1) (g : Graph) where
  abbrev before : Thing
  before = filled s array_prototype vs

  abbrev after : Thing
  after = filled s array_prototype (vs ++ (v ∷ []))

  abbrev o : Val
  o = Object (length g.objects)

  abbrev G : Graph
  G = with_object before g

  -- the last object of a graph takes one more element
  stores-last : (k : Answer → Graph → Row) → store_element s o n v k G ≡ k (Flag true) (with_object after g)
  stores-last k =
      ap (λ (m : Option Thing). stored_in s o n v m k G) (last-there g.objects before)
      ∙ ap (λ (z : Defined). settled s o z k G) (filled-more s array_prototype vs v n e l)
      ∙ ap (λ (m : Option Thing). k (Flag true) (altered o (λ u. after) m G)) (last-there g.objects before)
      ∙ ap (λ (ts : List Thing). let r : Graph = record g { objects = ts } in k (Flag true) r)
      (set-append_seam g.objects before [] after)

-- ---- worlds

-- an array of that home was made, with these elements
pub record IsFilling (d d' : Data) (home : Side) (id : ObjId) (vs : List Val) : Type 0 where
  pub makes : WentOn Val d d' 0 0 (make (filled home.0 array_prototype vs)) (object_in (names_of d') id)
  pub changed : Changed home d d'
  pub array : MayHold d' home (HeldArray id)

-- one without elements
pub filling-none : (home : Side) (d d1 : Data) (id : ObjId)
    → WentOn Val d d1 0 0 (make_array home.0 []) (object_in (names_of d1) id) → Changed home d d1
    → MayHold d1 home (HeldArray id) → IsFilling d d1 home id []
filling-none home d d1 id m c h = record {
  makes = subst (λ (t : Thing). WentOn Val d d1 0 0 (make t) (object_in (names_of d1) id))
      (filled-all home.0 array_prototype [] (omega arith)) m;
  changed = c;
  array = h;
}

-- one more element is stored
module _ (home : Side) (d d1 d2 : Data) (id : ObjId) (vs : List Val) (n : ℕ) (x : Value)
    (q : IsFilling d d1 home id vs) (e : n ≡ length vs) (l : n < 2 ^ 32 - 1) (i : ValueIn d x)
    (p : Stores (Ok tt) d1 d2 (store_element home.0 (object_in (names_of d1) id) n (Resolve (names_of d1) x)))
    (c : Changed home d1 d2) where
  abbrev v : Val
  v = Resolve (names_of d) x

  abbrev o1 : Val
  o1 = object_in (names_of d1) id

  abbrev o2 : Val
  o2 = object_in (names_of d2) id

  -- the array that was made takes the element
  made-with : (k : Val → Graph → Row) (log : List Item)
      → make (filled home.0 array_prototype (vs ++ (v ∷ []))) k (Image d log) ≡ k o2 (Image d2 log)
  made-with k log =
      let w = p.1 in
      let u : w.units ≡ 0 = omega (arith, w.paid) in
      let z : q.makes.units ≡ 0 = omega (arith, q.makes.paid) in
      let last : Val = Object (length (Image d log).objects) in
      sym (stores-last home.0 vs v n e l (Image d log) (λ a. k last))
      ∙ q.makes.same (λ y. store_element home.0 y n v (λ a. k y)) log
      ∙ ap (λ (m : ℕ). paying m (Image d log) (store_element home.0 o1 n v (λ a. k o1) (Image d1 log))) z
      ∙ ap (λ (y : Val). store_element home.0 o1 n y (λ a. k o1) (Image d1 log))
      (sym (value-grows d d1 q.makes.grew.grows x i))
      ∙ w.same (λ a. k o1) log
      ∙ ap (λ (m : ℕ). paying m (Image d1 log) (k o1 (Image d2 log))) u
      ∙ ap (λ (y : Val). k y (Image d2 log)) (sym (w.grew.grows.same_object id q.array.within))

  pub filling-more : IsFilling d d2 home id (vs ++ (v ∷ []))
  filling-more = record {
    makes = record {
      units = 0;
      paid = omega arith;
      same = made-with;
      trace = p.1.trace ∙ q.makes.trace;
      grew = Grew-then d d1 d2 q.makes.grew p.1.grew;
    };
    changed = changed-then home d d1 d2 q.changed c;
    array = (holds-still home d1 d2 q.changed.ready c (HeldArray id ∷ []) (q.array, tt)).0;
  }

-- with all elements it is the array of them
pub filling-went : (home : Side) (d d' : Data) (id : ObjId) (vs : List Val) → length vs ≤ 2 ^ 32 - 1
    → IsFilling d d' home id vs → WentOn Val d d' 0 0 (make_array home.0 vs) (object_in (names_of d') id)
filling-went home d d' id vs l q =
    subst (λ (t : Thing). WentOn Val d d' 0 0 (make t) (object_in (names_of d') id))
    (sym (filled-all home.0 array_prototype vs l)) q.makes

-- ---- a list of them

module _ (home : Side) (d d1 : Data) (id : ObjId) (items : List Value) (i : ℕ) (default : Value) (l : i < length items)
    (r : IsReady d) (h : MayHold d home (HeldValues items))
    (q : IsFilling d d1 home id (values_in (names_of d) (take i items))) where
  item-there : MayHold d home (HeldValue (get_or items i default))
  item-there = values-each d home items h i default l

  -- what storing the next one asks
  pub item-held : Holds d1 home (HeldArray id ∷ HeldValue (get_or items i default) ∷ [])
  item-held = (q.array, holds-still home d d1 r q.changed (HeldValue (get_or items i default) ∷ []) (item-there, tt))

  module _ (d2 : Data) (few : length items ≤ 2 ^ 32 - 1)
      (p : Stores (Ok tt) d1 d2 (store_element home.0 (object_in (names_of d1) id) i
      (Resolve (names_of d1) (get_or items i default)))) (c : Changed home d1 d2) where
    pub filling-next : IsFilling d d2 home id (values_in (names_of d) (take (i + 1) items))
    filling-next =
        let n = names_of d in
        let x = get_or items i default in
        let e : i ≡ length (values_in n (take i items))
        = sym (length-map (take i items) (Resolve n) ∙ length-take-le i items (omega (arith, l))) in
        subst (λ (xs : List Value). IsFilling d d2 home id (values_in n xs)) (sym (take_more items i default l))
        (subst (IsFilling d d2 home id) (sym (map-append (Resolve n) (take i items) (x ∷ [])))
        (filling-more home d d1 d2 id (values_in n (take i items)) i x q e (omega (arith, l, few))
        item-there.within p c))
