-- A cell that is changed more than once.
use Rattle.mb_base.specs.declared.value.ObjId.{ObjId}
use Rattle.mb_base.specs.declared.value.Side.{Side}
use Rattle.mb_base.specs.declared.value.Value.{Value}
use Rattle.mb_frames.proofs.Parts.{each-part}
use Rattle.mb_frames.proofs.Putting.{get-set}
use Rattle.mb_intrinsics.proofs.Rows.{map-taken, row-is}
use Rattle.mb_intrinsics.specs.Furnished.{built_in_id, value_of}
use Rattle.mb_intrinsics.specs.declared.table.Row.{Row}
use Rattle.mb_text.specs.Texts.{has_text}
use Rattle.mb_world.proofs.Grow.{All-at}
use Rattle.mb_intrinsics.specs.declared.table.Given.{Given}
use Rattle.mb_intrinsics.specs.machine.Filling.{AreThere, filled, properties_texts, property_texts, put_of, puts}
use Rattle.mb_intrinsics.specs.machine.Table.{property_in, row_in, row_of}
use Rattle.mb_world.specs.Data.{Data, cell_at, change_cell, change_if, closed, set_cell, with_cells, with_proto}
use Rattle.mb_world.specs.Graph.{Property}
use Rattle.mb_world.specs.Intrinsics.{Intrinsic, intrinsic, intrinsics}
use Rattle.mb_world.specs.Value.{Val}
use Rattle.std.proofs.lemmas.Option.{slice_get-get_or, slice_get-map}
use Rattle.mb_world.specs.declared.cell.Cell.{Cell}
use Rattle.std.proofs.Common.{option_map, subst, true, Bor, List, None, Option, Some, [], ap, get_or, length, map, refl, slice_get, slice_set, suc, sym, take, zero, ℕ, ◌+◌, ◌++◌, ◌<◌, ◌∙◌, ◌∷◌, ◌≡◌}

set-same : {A : Type 0} (xs : List A) (i : ℕ) (x : A) → slice_get xs i ≡ Some x → slice_set xs i x ≡ xs
set-same [] i x e = cc
set-same (y ∷ ys) zero x e = let q : y ≡ x = cc in rw q refl
set-same (y ∷ ys) (suc i) x e = ap (λ zs. y ∷ zs) (set-same ys i x e)

set-twice : {A : Type 0} (xs : List A) (i : ℕ) (x y : A) → slice_set (slice_set xs i x) i y ≡ slice_set xs i y
set-twice [] i x y = refl
set-twice (z ∷ zs) zero x y = refl
set-twice (z ∷ zs) (suc i) x y = ap (λ ws. z ∷ ws) (set-twice zs i x y)

pub change-same : (d : Data) (id : ObjId) → change_cell d id (λ c. c) ≡ d
change-same d id = by (cell_at d id) refl
  where
    by : (o : Option Cell) → cell_at d id ≡ o → change_if d id (λ c. c) o ≡ d
    by None e = refl
    by (Some c) e = ap (λ (cells : List Cell). with_cells d cells) (set-same d.cells id.0 c e)

pub change-alike : (d : Data) (id : ObjId) (f g : Cell → Cell) → ((c : Cell) → f c ≡ g c)
    → change_cell d id f ≡ change_cell d id g
change-alike d id f g h = by (cell_at d id)
  where
    by : (o : Option Cell) → change_if d id f o ≡ change_if d id g o
    by None = refl
    by (Some c) = ap (λ (x : Cell). set_cell d id x) (h c)

pub change-texts : (d : Data) (id : ObjId) (f : Cell → Cell) → (change_cell d id f).texts ≡ d.texts
change-texts d id f = by (cell_at d id)
  where
    by : (o : Option Cell) → (change_if d id f o).texts ≡ d.texts
    by None = refl
    by (Some c) = refl

pub change-twice : (d : Data) (id : ObjId) (f g : Cell → Cell)
    → change_cell (change_cell d id f) id g ≡ change_cell d id (λ c. g (f c))
change-twice d id f g = by (cell_at d id) refl
  where
    by : (o : Option Cell) → cell_at d id ≡ o → change_cell (change_if d id f o) id g ≡ change_if d id (λ c. g (f c)) o
    by None e = ap (λ (o : Option Cell). change_if d id g o) e
    by (Some c) e =
        ap (λ (o : Option Cell). change_if (set_cell d id (f c)) id g o) (get-set d.cells id.0 c (f c) e)
        ∙ ap (λ (cells : List Cell). with_cells d cells) (set-twice d.cells id.0 (f c) (g (f c)))

puts-more : (texts : List (List ℕ)) (home : Side) (ps : List Property) (p : Property) (c : Cell)
    → put_of texts home p (puts texts home ps c) ≡ puts texts home (ps ++ p ∷ []) c
puts-more texts home [] p c = refl
puts-more texts home (q ∷ qs) p c = puts-more texts home qs p (put_of texts home q c)

pub put-step : (d1 d2 d3 : Data) (id : ObjId) (home : Side) (ps : List Property) (p : Property)
    → d2 ≡ change_cell d1 id (puts d1.texts home ps) → d3 ≡ change_cell d2 id (put_of d2.texts home p)
    → d3 ≡ change_cell d1 id (puts d1.texts home (ps ++ p ∷ []))
put-step d1 d2 d3 id home ps p e f =
    let t : d2.texts ≡ d1.texts = ap (λ (d : Data). d.texts) e ∙ change-texts d1 id (puts d1.texts home ps) in
    f ∙ ap (λ (ts : List (List ℕ)). change_cell d2 id (put_of ts home p)) t
    ∙ ap (λ (d : Data). change_cell d id (put_of d1.texts home p)) e
    ∙ change-twice d1 id (puts d1.texts home ps) (put_of d1.texts home p)
    ∙ change-alike d1 id (λ c. put_of d1.texts home p (puts d1.texts home ps c)) (puts d1.texts home (ps ++ p ∷ []))
    (puts-more d1.texts home ps p)

-- one property of a list more
pub put-taken : (d1 d2 d3 : Data) (id : ObjId) (home : Side) (ps : List (Bor (List ℕ) × Given)) (k : ℕ)
    (x : Bor (List ℕ) × Given) → k < length ps
    → d2 ≡ change_cell d1 id (puts d1.texts home (map property_in (take k ps)))
    → d3 ≡ change_cell d2 id (put_of d2.texts home (property_in (get_or ps k x)))
    → d3 ≡ change_cell d1 id (puts d1.texts home (map property_in (take (k + 1) ps)))
put-taken d1 d2 d3 id home ps k x l e f =
    rw (map-taken property_in ps k x l)
    (put-step d1 d2 d3 id home (map property_in (take k ps)) (property_in (get_or ps k x)) e f)

-- ---- texts that stay

pub there-changed : (d d' : Data) (id : ObjId) (f : Cell → Cell) (ts : List (List ℕ)) → d' ≡ change_cell d id f
    → AreThere d.texts ts → AreThere d'.texts ts
there-changed d d' id f ts e h =
    subst (λ (texts : List (List ℕ)). AreThere texts ts) (sym (ap (λ (x : Data). x.texts) e ∙ change-texts d id f)) h

-- the texts of a property to come
pub texts-left : (d1 d2 : Data) (id : ObjId) (home : Side) (ps : List (Bor (List ℕ) × Given)) (k : ℕ)
    (x : Bor (List ℕ) × Given) → k < length ps
    → d2 ≡ change_cell d1 id (puts d1.texts home (map property_in (take k ps)))
    → AreThere d1.texts (properties_texts (map property_in ps))
    → AreThere d2.texts (property_texts (property_in (get_or ps k x)))
texts-left d1 d2 id home ps k x l e h =
    let at : slice_get (map property_in ps) k ≡ Some (property_in (get_or ps k x)) =
    slice_get-map property_in ps k ∙ ap (option_map property_in) (slice_get-get_or ps k x l) in
    there-changed d1 d2 id (puts d1.texts home (map property_in (take k ps)))
    (property_texts (property_in (get_or ps k x))) e
    (All-at (λ p. AreThere d1.texts (property_texts p)) (map property_in ps) k (property_in (get_or ps k x)) at
    (each-part (λ t. has_text d1.texts t ≡ true) property_texts (map property_in ps) h))

-- ---- a cell is filled

pub then-changed : (d d1 d2 : Data) (id : ObjId) (f g : Cell → Cell) → d1 ≡ change_cell d id f
    → d2 ≡ change_cell d1 id g
    → d2 ≡ change_cell d id (λ c. g (f c))
then-changed d d1 d2 id f g e h = h ∙ ap (λ (x : Data). change_cell x id g) e ∙ change-twice d id f g

pub then-put : (d d1 d2 : Data) (id : ObjId) (home : Side) (f : Cell → Cell) (ps : List Property)
    → d1 ≡ change_cell d id f
    → d2 ≡ change_cell d1 id (puts d1.texts home ps) → d2 ≡ change_cell d id (λ c. puts d.texts home ps (f c))
then-put d d1 d2 id home f ps e h =
    let t : d1.texts ≡ d.texts = ap (λ (x : Data). x.texts) e ∙ change-texts d id f in
    then-changed d d1 d2 id f (puts d.texts home ps) e
    (h ∙ ap (λ (ts : List (List ℕ)). change_cell d1 id (puts ts home ps)) t)

puts-both : (texts : List (List ℕ)) (home : Side) (ps qs : List Property) (c : Cell)
    → puts texts home qs (puts texts home ps c) ≡ puts texts home (ps ++ qs) c
puts-both texts home [] qs c = refl
puts-both texts home (p ∷ ps) qs c = puts-both texts home ps qs (put_of texts home p c)

pub filled-by : (d d1 d2 d3 d4 : Data) (id : ObjId) (home : Side) (v : Value) (ps qs : List Property) (x : Val)
    → v ≡ value_of d.texts home x → d1 ≡ change_cell d id (with_proto v)
    → d2 ≡ change_cell d1 id (puts d1.texts home ps)
    → d3 ≡ change_cell d2 id (puts d2.texts home qs) → d4 ≡ change_cell d3 id closed
    → d4 ≡ change_cell d id (filled d.texts home (x, ps ++ qs))
filled-by d d1 d2 d3 d4 id home v ps qs x is e1 e2 e3 e4 =
    let s2 = then-put d d1 d2 id home (with_proto v) ps e1 e2 in
    let s3 = then-put d d2 d3 id home (λ c. puts d.texts home ps (with_proto v c)) qs s2 e3 in
    then-changed d d3 d4 id (λ c. puts d.texts home qs (puts d.texts home ps (with_proto v c))) closed s3 e4
    ∙ change-alike d id (λ c. closed (puts d.texts home qs (puts d.texts home ps (with_proto v c))))
    (filled d.texts home (x, ps ++ qs))
    (λ c. ap closed (puts-both d.texts home ps qs (with_proto v c)
    ∙ ap (λ (u : Value). puts d.texts home (ps ++ qs) (with_proto u c)) is))

pub row-filled : (d d4 : Data) (id : ObjId) (home : Side) (k : ℕ) (r : Row) (i : Intrinsic) → id ≡ built_in_id home k
    → slice_get (map row_of intrinsics) k ≡ Some (row_in r) → intrinsic k ≡ Some i
    → d4 ≡ change_cell d id (filled d.texts home (row_in r))
    → d4 ≡ change_cell d (built_in_id home k) (filled d.texts home (row_of i))
row-filled d d4 id home k r i e row at h =
    subst (λ (x : ObjId). d4 ≡ change_cell d x (filled d.texts home (row_of i))) e
    (subst (λ (x : Val × List Property). d4 ≡ change_cell d id (filled d.texts home x)) (sym (row-is k r i row at)) h)
