-- Which cells have a number, once one is added or changed.
use Rattle.std.proofs.Common.{◌≡◌, ℕ, zero, suc, ◌<◌, ◌≤◌, ◌+◌, List, [], ◌∷◌, ◌++◌, length, slice_get, slice_set, Option, Some, None, Bool, true, false, arith, refl, sym, ◌∙◌, ap, option_map, get_or}
use Rattle.std.specs.Prelude.{IfSome}
use Rattle.std.proofs.lemmas.Grind.{get_or_default_zero}
use Rattle.std.proofs.lemmas.List.{length-map, get_or-map}
use Rattle.std.proofs.Math.Seq.{map-set_same}
use Rattle.std.proofs.lemmas.Option.{get_or_from_slice_get, slice_get-map}
use Rattle.mb_base.specs.declared.value.ObjId.{ObjId}
use Rattle.mb_world.specs.declared.cell.Cell.{Cell}
use Rattle.mb_world.specs.Data.{Stand, Hidden, stand, stands, is_counted, next_if, numbers, numbers_from, place_if, places_from, obj_id, objects_of, serial_of}

pub length-numbers_from : (n : ℕ) (ss : List Stand) → length (numbers_from n ss) ≡ length ss
length-numbers_from n [] = refl
length-numbers_from n (s ∷ ss) = ap suc (length-numbers_from (next_if (is_counted s) n) ss)

-- how many have a number
abbrev pub count_from : ℕ → List Stand → ℕ
count_from n [] = n
count_from n (s ∷ ss) = count_from (next_if (is_counted s) n) ss

pub numbers_from-append : (n : ℕ) (ss : List Stand) (s : Stand) → numbers_from n (ss ++ (s ∷ [])) ≡ numbers_from n ss ++ (count_from n ss ∷ [])
numbers_from-append n [] s = refl
numbers_from-append n (t ∷ ss) s = ap (λ ns. n ∷ ns) (numbers_from-append (next_if (is_counted t) n) ss s)

-- a cell that is replaced by one that stands for the same
pub stands-set : (cells : List Cell) (i : ℕ) (c c' : Cell) → slice_get cells i ≡ Some c → stand c' ≡ stand c → stands (slice_set cells i c') ≡ stands cells
stands-set cells i c c' e h = map-set_same stand cells i c' c (h ∙ ap stand (sym (get_or_from_slice_get cells i c c e)))

add-if : (b : Bool) (n m : ℕ) (ps : List ℕ) → next_if b n + length ps ≡ n + length (place_if b m ps)
add-if true n m ps = omega arith
add-if false n m ps = refl

add-nothing : (n : ℕ) → n + 0 ≡ n
add-nothing n = omega arith

-- how many have a number
pub count-places : (n m : ℕ) (ss : List Stand) → count_from n ss ≡ n + length (places_from m ss)
count-places n m [] = omega arith
count-places n m (s ∷ ss) = by (is_counted s) (count-places (next_if (is_counted s) n) (suc m) ss)
  where
    by : (b : Bool) → count_from (next_if (is_counted s) n) ss ≡ next_if (is_counted s) n + length (places_from (suc m) ss) → count_from (next_if (is_counted s) n) ss ≡ n + length (place_if (is_counted s) m (places_from (suc m) ss))
    by b h = h ∙ add-if (is_counted s) n m (places_from (suc m) ss)

pub places-append : (n : ℕ) (ss : List Stand) (s : Stand) → places_from n (ss ++ (s ∷ [])) ≡ places_from n ss ++ place_if (is_counted s) (n + length ss) []
places-append n [] s = rw (add-nothing n) refl
places-append n (t ∷ ss) s = by (is_counted t) (places-append (suc n) ss s)
  where
    by : (b : Bool) → places_from (suc n) (ss ++ (s ∷ [])) ≡ places_from (suc n) ss ++ place_if (is_counted s) (suc n + length ss) [] → place_if b n (places_from (suc n) (ss ++ (s ∷ []))) ≡ place_if b n (places_from (suc n) ss) ++ place_if (is_counted s) (n + suc (length ss)) []
    by true h = ap (λ ps. n ∷ ps) (h ∙ ap (λ k. places_from (suc n) ss ++ place_if (is_counted s) k []) (omega arith))
    by false h = h ∙ ap (λ k. places_from (suc n) ss ++ place_if (is_counted s) k []) (omega arith)

pub length-places_from : (n : ℕ) (ss : List Stand) → length (places_from n ss) ≤ length ss
length-places_from n [] = omega arith
length-places_from n (s ∷ ss) = by (is_counted s) (length-places_from (suc n) ss)
  where
    by : (b : Bool) → length (places_from (suc n) ss) ≤ length ss → length (place_if b n (places_from (suc n) ss)) ≤ suc (length ss)
    by true h = omega (arith, h)
    by false h = omega (arith, h)

pub few-objects : (cells : List Cell) → length (objects_of cells) ≤ length cells
few-objects cells = omega (arith, length-map (places_from 0 (stands cells)) obj_id, length-places_from 0 (stands cells), length-map cells stand)

-- each place is that of a cell
below-if : (b : Bool) (n m i p : ℕ) (ps : List ℕ) → ((i : ℕ) → slice_get ps i ≡ Some p → p < suc n + m) → slice_get (place_if b n ps) i ≡ Some p → p < n + suc m
below-if true n m zero p ps f e = let q : n ≡ p = cc in omega (arith, q)
below-if true n m (suc i) p ps f e = let q : p < suc n + m = f i e in omega (arith, q)
below-if false n m i p ps f e = let q : p < suc n + m = f i e in omega (arith, q)

pub places-below : (n : ℕ) (ss : List Stand) (i p : ℕ) → slice_get (places_from n ss) i ≡ Some p → p < n + length ss
places-below n [] i p e = cc
places-below n (s ∷ ss) i p e = below-if (is_counted s) n (length ss) i p (places_from (suc n) ss) (λ k h. places-below (suc n) ss k p h) e

pub object-below : (cells : List Cell) (i : ℕ) (o : Option ObjId) → o ≡ slice_get (objects_of cells) i → IfSome o (λ id. id.0 < length cells)
object-below cells i None e = tt
object-below cells i (Some id) e = by (slice_get (places_from 0 (stands cells)) i) refl
  where
    by : (q : Option ℕ) → slice_get (places_from 0 (stands cells)) i ≡ q → id.0 < length cells
    by None h = let z : Some id ≡ None = e ∙ slice_get-map obj_id (places_from 0 (stands cells)) i ∙ ap (option_map obj_id) h in cc
    by (Some p) h =
        let z : Some id ≡ Some (obj_id p) = e ∙ slice_get-map obj_id (places_from 0 (stands cells)) i ∙ ap (option_map obj_id) h in
        let y : id ≡ obj_id p = cc in
        let x : p < 0 + length (stands cells) = places-below 0 (stands cells) i p h in
        rw y (omega (arith, x, length-map cells stand))

-- what the index has for a cell is its number
pub serial-some : (cells : List Cell) (id : ObjId) (c : Cell) (n : ℕ) → id.0 < length cells → c ≡ get_or cells id.0 c → is_counted (stand c) ≡ true → n ≡ get_or (numbers (stands cells)) id.0 n → Some n ≡ serial_of cells id
serial-some cells id c n l e h q =
    let a : get_or (stands cells) id.0 Hidden ≡ stand c = get_or-map stand cells id.0 c Hidden l ∙ ap stand (sym e) in
    let m : id.0 < length (numbers (stands cells)) = omega (arith, l, length-numbers_from 0 (stands cells), length-map cells stand) in
    let b : get_or (numbers (stands cells)) id.0 0 ≡ n = sym (get_or_default_zero (numbers (stands cells)) id.0 n m) ∙ sym q in
    rw (a, h, b) refl

pub serial-none : (cells : List Cell) (id : ObjId) (c : Cell) → id.0 < length cells → c ≡ get_or cells id.0 c → is_counted (stand c) ≡ false → None ≡ serial_of cells id
serial-none cells id c l e h =
    let a : get_or (stands cells) id.0 Hidden ≡ stand c = get_or-map stand cells id.0 c Hidden l ∙ ap stand (sym e) in
    rw (a, h) refl
