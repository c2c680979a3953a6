-- Tables of properties: one that is put, two that stand for the same, and one of a world in which one cell changed.
use Rattle.std.proofs.Common.{length, ◌≡◌, ◌∙◌, ◌∷◌, Bool, List, Some, [], ap, arith, false, map, refl, subst, sym}
use Rattle.std.proofs.Common.{true}
use Rattle.std.proofs.lemmas.List.Elements.{All-contains, All-head, All-tail}
use Rattle.std.proofs.lemmas.List.{length-set}
use Rattle.std.specs.Prelude.{All, Contains, if◌then◌else◌}
use Rattle.mb_array.specs.Define.{HoldsKnown, IsKnown}
use Rattle.mb_base.specs.declared.value.Key.TheVariants as k
use Rattle.mb_base.specs.declared.value.Key.{Key}
use Rattle.mb_base.specs.declared.value.ObjId.{ObjId}
use Rattle.mb_base.specs.declared.value.Side.{Side}
use Rattle.mb_base.specs.declared.value.Value.TheVariants as v
use Rattle.mb_base.specs.declared.value.Value.{Value}
use Rattle.mb_desc.specs.declared.descriptor.Full.TheVariants.{Accessor, Datum}
use Rattle.mb_desc.specs.declared.descriptor.Full.{Full}
use Rattle.mb_frames.proofs.Apartness.{objects-apart}
use Rattle.mb_frames.proofs.HeldLess.{value-object}
use Rattle.mb_frames.specs.Held.{HeldFull, HeldKey, HeldObject, HeldValue}
use Rattle.mb_frames.specs.Ready.{IsReady, MayHold}
use Rattle.mb_parts.proofs.HeldEach.{full-each}
use Rattle.mb_text.specs.Texts.{AreDistinct}
use Rattle.mb_world.proofs.SameKeys.{key-equal, key-same, own-equal, same-key}
use Rattle.mb_world.proofs.Values.{resolve-apart}
use Rattle.mb_world.specs.Data.{Data, cell_at, change_cell}
use Rattle.mb_world.specs.Formed.{full_values}
use Rattle.mb_world.specs.Graph.{Property}
use Rattle.mb_world.specs.Ids.{FullIn, KeyIn, PropertyIn, ValueIn}
use Rattle.mb_world.specs.Image.{Resolve, full_in, key_in, names_of, property_in}
use Rattle.mb_world.specs.Key as graph
use Rattle.mb_world.specs.Key.{PropertyKey}
use Rattle.mb_world.specs.Objects.{find_property, put_property}
use Rattle.mb_world.specs.Value.{Val}
use Rattle.mb_world.specs.declared.cell.Cell.{Cell}

-- ---- objects that have a property

pub find-put : (p q : PropertyKey) (f : Full Val) (ps : List Property) → graph.same_key p q ≡ false
    → find_property q (put_property p f ps) ≡ find_property q ps
find-put p q f [] h = rw h refl
find-put p q f (x ∷ xs) h = by (graph.same_key x.key p) refl (find-put p q f xs h)
  where
    by : (b : Bool) → graph.same_key x.key p ≡ b → find_property q (put_property p f xs) ≡ find_property q xs
        → find_property q (put_property p f (x ∷ xs)) ≡ find_property q (x ∷ xs)
    by true e ih =
        let i : x.key ≡ p = key-equal x.key p e in
        let j : graph.same_key x.key q ≡ false = ap (λ z. graph.same_key z q) i ∙ h in
        rw (e, h, j) refl
    by false e ih = rw e (tail (graph.same_key x.key q))
      where
        tail : (b : Bool) → (if b then Some x.full else find_property q (put_property p f xs))
            ≡ (if b then Some x.full else find_property q xs)
        tail true = refl
        tail false = ih

-- what is there already isn't changed
pub put-there : (p : PropertyKey) (f : Full Val) (ps : List Property) → find_property p ps ≡ Some f → put_property p
    f ps
    ≡ ps
put-there p f [] h = cc
put-there p f (x ∷ xs) h = by (graph.same_key x.key p) refl (put-there p f xs)
  where
    by : (b : Bool) → graph.same_key x.key p ≡ b → (find_property p xs ≡ Some f → put_property p f xs ≡ xs)
        → put_property p f (x ∷ xs) ≡ x ∷ xs
    by true e ih =
        let i : x.key ≡ p = key-equal x.key p e in
        let g : Some x.full ≡ Some f = sym (rw e refl) ∙ h in
        let j : x.full ≡ f = cc in
        rw e (ap (λ z. let y : Property = record { key = z; full = f } in y ∷ xs) (sym i) ∙ ap
        (λ z. let y : Property = record { key = x.key; full = z } in y ∷ xs) (sym j))
    by false e ih =
        let g : find_property p xs ≡ Some f = sym (rw e refl) ∙ h in
        rw e (ap (λ zs. x ∷ zs) (ih g))

-- ---- tables that stand for the same

module _ (d : Data) (u : AreDistinct d.texts) where
  pub keys-same : (a b : Key) → KeyIn d a → KeyIn d b → key_in (names_of d) a ≡ key_in (names_of d) b → a ≡ b
  keys-same a b i j e =
      own-equal a b (sym (same-key d u b a j i) ∙ ap (graph.same_key (key_in (names_of d) b)) e ∙ key-same
      (key_in (names_of d) b))

module _ (d : Data) (u : AreDistinct d.texts) (r : IsReady d) (home : Side) (known : List Value)
    (held : All (λ x. MayHold d home (HeldValue x)) known) where
  known-held : (a : ObjId) → Contains known (v.Object a) → MayHold d home (HeldObject a)
  known-held a c = value-object d home a (All-contains (λ x. MayHold d home (HeldValue x)) known (v.Object a) held c)

  values-same : (x y : Value) → ValueIn d x → IsKnown known x → MayHold d home (HeldValue y)
      → Resolve (names_of d) x ≡ Resolve (names_of d) y → x ≡ y
  values-same x y i c h e =
      resolve-apart d u x y i h.within
      (λ a b p q s. objects-apart d r home a b
      (known-held a (subst (IsKnown known) p c))
      (value-object d home b (subst (λ (z : Value). MayHold d home (HeldValue z)) q h)) s)
      e

  fulls-same : (f g : Full Value) → FullIn d f → All (IsKnown known) (full_values f) → MayHold d home (HeldFull g)
      → full_in (names_of d) f ≡ full_in (names_of d) g → f ≡ g
  fulls-same (Datum x w e c) (Datum y z b s) i m h q =
      let all = full-each d home (Datum y z b s) h in
      let p : Resolve (names_of d) x ≡ Resolve (names_of d) y = cc in
      let j : x ≡ y = values-same x y i (All-head (IsKnown known) x [] m)
      (All-head (λ t. MayHold d home (HeldValue t)) y [] all) p in
      let a : w ≡ z = cc in
      let o : e ≡ b = cc in
      let l : c ≡ s = cc in
      cc
  fulls-same (Accessor x y e c) (Accessor z t b s) i m h q =
      let all = full-each d home (Accessor z t b s) h in
      let p1 : Resolve (names_of d) x ≡ Resolve (names_of d) z = cc in
      let p2 : Resolve (names_of d) y ≡ Resolve (names_of d) t = cc in
      let j1 : x ≡ z = values-same x z i.0 (All-head (IsKnown known) x (y ∷ []) m)
      (All-head (λ o. MayHold d home (HeldValue o)) z (t ∷ []) all) p1 in
      let j2 : y ≡ t = values-same y t i.1 (All-head (IsKnown known) y [] (All-tail (IsKnown known) x (y ∷ []) m))
      (All-head (λ o. MayHold d home (HeldValue o)) t [] (All-tail (λ o. MayHold d home (HeldValue o)) z
      (t ∷ []) all)) p2 in
      let a : e ≡ b = cc in
      let l : c ≡ s = cc in
      cc
  fulls-same (Datum x w e c) (Accessor z t b s) i m h q = cc
  fulls-same (Accessor x y e c) (Datum z w b s) i m h q = cc

  abbrev H : Key × Full Value → Type 0
  H p = MayHold d home (HeldKey p.0) × MayHold d home (HeldFull p.1)

  pub tables-same : (ps qs : List (Key × Full Value)) → All (PropertyIn d) ps → All (HoldsKnown known) ps
      → All (λ p. MayHold d home (HeldKey p.0) × MayHold d home (HeldFull p.1)) qs
      → map (property_in (names_of d)) ps ≡ map (property_in (names_of d)) qs → ps ≡ qs
  tables-same [] [] i m h e = refl
  tables-same (p ∷ ps) [] i m h e = cc
  tables-same [] (q ∷ qs) i m h e = cc
  tables-same (p ∷ ps) (q ∷ qs) i m h e =
      let a : property_in (names_of d) p ≡ property_in (names_of d) q = cc in
      let t : map (property_in (names_of d)) ps ≡ map (property_in (names_of d)) qs = cc in
      let in_p = All-head (PropertyIn d) p ps i in
      let held_q = All-head H q qs h in
      let x : p.0 ≡ q.0 = keys-same d u p.0 q.0 in_p.0 held_q.0.within (ap (λ (y : Property). y.key) a) in
      let z : p.1 ≡ q.1 = fulls-same p.1 q.1 in_p.1 (All-head (HoldsKnown known) p ps m) held_q.1
      (ap (λ (y : Property). y.full) a) in
      let s : ps ≡ qs = tables-same ps qs (All-tail (PropertyIn d) p ps i) (All-tail (HoldsKnown known) p ps m)
      (All-tail H q qs h) t in
      ap (λ zs. p ∷ zs) s ∙ ap (λ y. let w : Key × Full Value = (y, p.1) in w ∷ qs) x ∙ ap
      (λ y. let w : Key × Full Value = (q.0, y) in w ∷ qs) z

-- ---- ids in a world of which one cell changed

module _ (d : Data) (id : ObjId) (c : Cell) (F : Cell → Cell) (there : cell_at d id ≡ Some c) where
  cells-long : length (change_cell d id F).cells ≡ length d.cells
  cells-long = rw there (length-set d.cells id.0 (F c))

  value-back : (x : Value) → ValueIn (change_cell d id F) x → ValueIn d x
  value-back v.Undefined h = tt
  value-back v.Null h = tt
  value-back (v.Bool b) h = tt
  value-back (v.Whole z) h = tt
  value-back (v.Text t) h = rw there at h
  value-back (v.Symbol t) h = rw there at h
  value-back (v.Object a) h = omega (arith, cells-long, h)

  key-back : (x : Key) → KeyIn (change_cell d id F) x → KeyIn d x
  key-back (k.Text t n) h = rw there at h
  key-back (k.Symbol t) h = rw there at h

  full-back : (f : Full Value) → FullIn (change_cell d id F) f → FullIn d f
  full-back (Datum x w e s) h = value-back x h
  full-back (Accessor x y e s) h = (value-back x h.0, value-back y h.1)

  pub property-back : (p : Key × Full Value) → PropertyIn (change_cell d id F) p → PropertyIn d p
  property-back p h = (key-back p.0 h.0, full-back p.1 h.1)
