-- A property of an object is put: what becomes of the world and of its image.
use Rattle.std.proofs.Common.{lit<, ◌-◌, ◌^◌, ◌≡◌, ◌≤◌, ◌∙◌, ◌∷◌, Bool, List, Option, Some, [], ap, arith, refl, slice_get, slice_set, suc, sym, true, zero, ℕ}
use Rattle.std.specs.Prelude.{position}
use Rattle.std.proofs.lemmas.List.{length-set}
use Rattle.std.proofs.lemmas.List.Folds.{position_or_len-set}
use Rattle.std.proofs.lemmas.Option.{get_or_from_slice_get, slice_get_within}
use Rattle.mb_base.specs.declared.value.Key.{Key}
use Rattle.mb_base.specs.declared.value.Key.TheVariants as k
use Rattle.mb_base.specs.declared.value.ObjId.{ObjId}
use Rattle.mb_base.specs.declared.value.Side.{Side}
use Rattle.mb_base.specs.declared.value.StrId.{StrId}
use Rattle.mb_base.specs.declared.value.Value.{Value}
use Rattle.mb_desc.specs.declared.descriptor.Full.{Full}
use Rattle.mb_frames.proofs.Entries.{entries-grow}
use Rattle.mb_frames.specs.Making.{Put}
use Rattle.mb_frames.specs.Stepping.{Grew}
use Rattle.mb_model.specs.Operations.Makings.{altered}
use Rattle.mb_text.proofs.Indices.{no_index_by_digits}
use Rattle.mb_text.specs.Index.{index_of}
use Rattle.mb_text.specs.Texts.{AreDistinct, text_at, with_text}
use Rattle.mb_world.proofs.AfterCalls.{numbers-rank, object-is, of-cell, of-changed, rank, text}
use Rattle.mb_world.proofs.Arrays.{length-no-index}
use Rattle.mb_world.proofs.Grow.{All-at, CellIn-grows, Grows-then}
use Rattle.mb_world.proofs.Images.{full-grows, thing-grows}
use Rattle.mb_world.proofs.SameKeys.{put-insert}
use Rattle.mb_world.specs.Data.{Data, cell_at, change_cell, is_object_cell, put_in, serves, with_texts}
use Rattle.mb_world.specs.Graph.{Graph, Item, Property, Thing}
use Rattle.mb_world.specs.Grows.{Grows}
use Rattle.mb_world.specs.Ids.{CellIn, FullIn, HasItsIds, KeyIn}
use Rattle.mb_world.specs.Image.{Image, entries_in, full_in, key_in, names_of, number_at, object_in, thing_in}
use Rattle.mb_world.specs.Key.{Named}
use Rattle.mb_world.specs.Laws.{Becomes, same_graph}
use Rattle.mb_world.specs.Objects.{thing_at, with_property, with_thing}
use Rattle.mb_world.specs.Value.{Object, Val}
use Rattle.mb_world.specs.declared.cell.Cell.{Cell}

-- ---- lists in which one changed

pub get-set : {A : Type 0} (xs : List A) (i : ℕ) (x y : A) → slice_get xs i ≡ Some x
    → slice_get (slice_set xs i y) i ≡ Some y
get-set [] i x y e = cc
get-set (z ∷ zs) zero x y e = refl
get-set (z ∷ zs) (suc i) x y e = get-set zs i x y e

pub get-other : {A : Type 0} (xs : List A) (i j : ℕ) (y : A) → (i ≡ j → ⊥)
    → slice_get (slice_set xs i y) j ≡ slice_get xs j
get-other [] i j y h = refl
get-other (z ∷ zs) zero zero y h = absurd (h refl)
get-other (z ∷ zs) zero (suc j) y h = refl
get-other (z ∷ zs) (suc i) zero y h = refl
get-other (z ∷ zs) (suc i) (suc j) y h = get-other zs i j y (λ e. h (ap suc e))

position-set : {A : Type 0} (p : A → Bool) (xs : List A) (i : ℕ) (x y : A) → slice_get xs i ≡ Some x → p y ≡ p x
    → position p (slice_set xs i y) ≡ position p xs
position-set p xs i x y e h =
    rw (
      position_or_len-set p xs i y x (h ∙ ap p (sym (get_or_from_slice_get xs i x x e))),
      length-set xs i y,
    ) refl

-- ---- one object of a graph changes

altered-at : (g : Graph) (v : Val) (n : ℕ) (t : Thing) (f : Thing → Thing) → thing_at g v ≡ Some t → v ≡ Object n
    → altered v f (thing_at g v) g ≡ record g { objects = slice_set g.objects n (f t) }
altered-at g v n t f e h =
    ap (λ (o : Option Thing). altered v f o g) e ∙ ap (λ (w : Val). with_thing w (f t) g) h

-- a property of an object of the graph is put
abbrev pub put_on : Val → List ℕ → Full Val → Graph → Graph
put_on v units x g = altered v (with_property (Named units) x) (thing_at g v) g

-- the object that the cell is then
put-thing : (d d1 : Data) (g : Grows d d1) (c : Cell) (text : StrId) (units : List ℕ) (full : Full Value)
    → AreDistinct d1.texts → CellIn d c → FullIn d full → KeyIn d1 (k.Text text (2 ^ 32 - 1))
    → text_at d1.texts text ≡ units
    → thing_in (names_of d1) (put_in (k.Text text (2 ^ 32 - 1)) full c)
    ≡ with_property (Named units) (full_in (names_of d) full) (thing_in (names_of d) c)
put-thing d d1 g c text units full a i f h e =
    let key : Key = k.Text text (2 ^ 32 - 1) in
    let n = names_of d1 in
    ap (λ (ps : List Property). let t : Thing = record (thing_in n c) { properties = ps } in t)
    (put-insert d1 a c.props key full (CellIn-grows d d1 g c i).props_in h)
    ∙ ap (λ (t : Thing). with_property (key_in n key) (full_in n full) t) (thing-grows d d1 g c i)
    ∙ ap (λ (us : List ℕ). with_property (Named us) (full_in n full) (thing_in (names_of d) c)) e
    ∙ ap (λ (x : Full Val). with_property (Named units) x (thing_in (names_of d) c)) (full-grows d d1 g full f)

pub record PutDone (d d' : Data) (id : ObjId) (c : Cell) (units : List ℕ) (full : Full Value) : Type 0 where
  pub grew : Grew d d'
  pub trace : entries_in d' ≡ entries_in d
  pub image : (log : List Item) →
      Image d' log ≡ put_on (object_in (names_of d) id) units (full_in (names_of d) full) (Image d log)
  pub key : Key
  pub cell : cell_at d' id ≡ Some (put_in key full c)
  pub others : (o : ObjId) → (id.0 ≡ o.0 → ⊥) → cell_at d' o ≡ cell_at d o
  pub serve : (joined : Bool) (side : Side) (place : ℕ) →
      position (serves joined side place) d'.cells ≡ position (serves joined side place) d.cells

-- the text of a key is there
named : (texts : List (List ℕ)) (text : StrId) (units : List ℕ) → slice_get texts text.0 ≡ Some units
    → text_at texts text ≡ units
named texts text units e = get_or_from_slice_get texts text.0 units [] e

pub named-key : (d : Data) (text : StrId) (units : List ℕ) → slice_get d.texts text.0 ≡ Some units
    → index_of units ≡ 2 ^ 32 - 1 → KeyIn d (k.Text text (2 ^ 32 - 1))
named-key d text units e x =
    (slice_get_within d.texts text.0 units e, sym (ap index_of (named d.texts text units e) ∙ x))

pub put-done : (d d' : Data) (id : ObjId) (c : Cell) (units : List ℕ) (full : Full Value) → HasItsIds d → FullIn d full
    → index_of units ≡ 2 ^ 32 - 1 → cell_at d id ≡ Some c → is_object_cell c ≡ true → (q : Put d d' id units full)
    → PutDone d d' id c units full
put-done d d' id c units full i f x e t q =
    let key : Key = k.Text q.text (2 ^ 32 - 1) in
    let d1 : Data = with_texts d (with_text d.texts units) in
    let d2 : Data = change_cell d1 id (put_in key full) in
    let a : Becomes d d1 same_graph = text d units i in
    let b = of-changed d1 id c (put_in key full) e refl t in
    let g : Grows d d2 = Grows-then d d1 d2 a.grows b.grows in
    let name : text_at d1.texts q.text ≡ units = named d1.texts q.text units q.there in
    let thing = put-thing d d1 a.grows c q.text units full q.distinct (All-at (CellIn d) d.cells id.0 c e i.cells_in) f
    (slice_get_within d1.texts q.text.0 units q.there, sym (ap index_of name ∙ x)) name in
    let n : number_at (names_of d) id.0 ≡ rank d.cells id.0
    = omega (arith, numbers-rank d.cells id.0 0 (slice_get_within d.cells id.0 c e)) in
    let v : Val = object_in (names_of d) id in
    let change : Thing → Thing = with_property (Named units) (full_in (names_of d) full) in
    rw q.world (record {
      grew = record { grows = g; programs = rw e refl; sides = rw e refl; joined = rw e refl };
      trace = entries-grow d d2 g i (rw e refl);
      image = λ log.
          b.image log
          ∙ ap (λ (h : Graph). let r : Graph = record h { objects = slice_set h.objects (number_at (names_of d1) id.0) (thing_in (names_of d1) (put_in key full c)) } in r) (a.image log)
          ∙ ap (λ (y : Thing). let r : Graph = record (Image d log) { objects = slice_set (Image d log).objects (number_at (names_of d) id.0) y } in r) thing
          ∙ ap (λ (m : ℕ). let r : Graph = record (Image d log) { objects = slice_set (Image d log).objects m (change (thing_in (names_of d) c)) } in r) n
          ∙ sym (altered-at (Image d log) v (rank d.cells id.0) (thing_in (names_of d) c) change (of-cell d id c log e t) (object-is d id c e t));
      key = key;
      cell = rw e (get-set d.cells id.0 c (put_in key full c) e);
      others = λ o h. rw e (get-other d.cells id.0 o.0 (put_in key full c) h);
      serve = λ joined side place.
          rw e (position-set (serves joined side place) d.cells id.0 c (put_in key full c) e refl);
    })

-- ---- texts that spell no index

pub no-length : index_of (108 ∷ 101 ∷ 110 ∷ 103 ∷ 116 ∷ 104 ∷ []) ≡ 2 ^ 32 - 1
no-length = length-no-index

pub no-name : index_of (110 ∷ 97 ∷ 109 ∷ 101 ∷ []) ≡ 2 ^ 32 - 1
no-name =
    no_index_by_digits (110 ∷ 97 ∷ 109 ∷ 101 ∷ []) (λ h. let q = h 0 (lit< tt) in let z : 110 ≤ 57 = q.1 in omega arith)

pub no-prototype : index_of (112 ∷ 114 ∷ 111 ∷ 116 ∷ 111 ∷ 116 ∷ 121 ∷ 112 ∷ 101 ∷ []) ≡ 2 ^ 32 - 1
no-prototype =
    no_index_by_digits (112 ∷ 114 ∷ 111 ∷ 116 ∷ 111 ∷ 116 ∷ 121 ∷ 112 ∷ 101 ∷ [])
    (λ h. let q = h 0 (lit< tt) in let z : 112 ≤ 57 = q.1 in omega arith)

pub no-constructor : index_of (99 ∷ 111 ∷ 110 ∷ 115 ∷ 116 ∷ 114 ∷ 117 ∷ 99 ∷ 116 ∷ 111 ∷ 114 ∷ []) ≡ 2 ^ 32 - 1
no-constructor =
    no_index_by_digits (99 ∷ 111 ∷ 110 ∷ 115 ∷ 116 ∷ 114 ∷ 117 ∷ 99 ∷ 116 ∷ 111 ∷ 114 ∷ [])
    (λ h. let q = h 0 (lit< tt) in let z : 99 ≤ 57 = q.1 in omega arith)
