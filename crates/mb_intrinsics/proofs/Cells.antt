-- The cells of one side, made and filled one by one.
use Rattle.mb_base.specs.declared.value.Key.TheVariants as k
use Rattle.mb_base.specs.declared.value.ObjId.{ObjId}
use Rattle.mb_base.specs.declared.value.Side.{Side}
use Rattle.mb_base.specs.declared.value.StrId.{StrId}
use Rattle.mb_base.specs.declared.value.Value.TheVariants as v
use Rattle.mb_intrinsics.proofs.Adding.{filled-is}
use Rattle.mb_intrinsics.proofs.Naming.{id-below, id-text, with-there}
use Rattle.mb_intrinsics.proofs.Rows.{at-place, key-no-index}
use Rattle.mb_intrinsics.specs.Furnished.{HasTableTexts, built_in_id, id_of, standard_cell, standard_cells}
use Rattle.mb_intrinsics.specs.machine.Filling.{bare_cell, bare_cells, filled}
use Rattle.mb_intrinsics.specs.machine.Table.{is_key, row_of}
use Rattle.mb_text.specs.Index.{index_of}
use Rattle.mb_text.specs.Texts.{has_text, with_text}
use Rattle.mb_world.specs.Data.{Data, change_cell, change_if, made, new_cell, with_cells, with_texts}
use Rattle.mb_world.specs.Ids.{KeyIn}
use Rattle.mb_world.specs.Intrinsics.{Intrinsic, Print, intrinsic, intrinsics}
use Rattle.mb_world.specs.declared.cell.Cell.{Cell}
use Rattle.mb_world.specs.declared.cell.CellKind.TheVariants as kind
use Rattle.std.proofs.Common.{List, None, Option, add-one, append-nil, get_or, option_map, subst, ◌*◌, ◌^◌, ◌≤◌, Some, [], ap, append_assoc, arith, drop, length, map, refl, slice_get, slice_set, suc, sym, take, true, zero, ℕ, ◌+◌, ◌-◌, ◌++◌, ◌<◌, ◌∙◌, ◌∷◌, ◌≡◌}
use Rattle.std.proofs.lemmas.List.{drop_all, length-map, set-append_right, take_all}
use Rattle.std.proofs.lemmas.Option.{slice_get-map, slice_get_past}
use Rattle.std.proofs.lemmas.List.FromFn.{map-range_with_len_more, take-map-range_with_len}
use Rattle.std.specs.List.{range_with_len}

abbrev bare : List (List ℕ) → Side → ℕ → Cell
bare texts home n = new_cell texts home (kind.BuiltIn n) v.Null None

-- the places are counted
bare-are : (texts : List (List ℕ)) (home : Side)
    → bare_cells texts home ≡ map (bare texts home) (range_with_len 0 80)
bare-are texts home = refl

bare-more : (texts : List (List ℕ)) (home : Side) (k : ℕ) → k < 80
    → take k (bare_cells texts home) ++ bare texts home k ∷ [] ≡ take (k + 1) (bare_cells texts home)
bare-more texts home k l =
    let f : ℕ → Cell = bare texts home in
    ap (λ (xs : List Cell). take k xs ++ f k ∷ []) (bare-are texts home)
    ∙ ap (λ (xs : List Cell). xs ++ f k ∷ []) (take-map-range_with_len f 0 80 k (omega (arith, l)))
    ∙ sym (map-range_with_len_more f 0 k k (omega arith))
    ∙ sym (take-map-range_with_len f 0 80 (k + 1) (omega (arith, l)))
    ∙ ap (λ (xs : List Cell). take (k + 1) xs) (sym (bare-are texts home))

-- one cell more
pub make-step : (d1 d2 d3 : Data) (home : Side) (k : ℕ) → k < 80
    → d2 ≡ with_cells d1 (d1.cells ++ take k (bare_cells d1.texts home))
    → d3 ≡ made d2 home (kind.BuiltIn k) v.Null None
    → d3 ≡ with_cells d1 (d1.cells ++ take (k + 1) (bare_cells d1.texts home))
make-step d1 d2 d3 home k l e f =
    f ∙ ap (λ (d : Data). made d home (kind.BuiltIn k) v.Null None) e
    ∙ ap (λ (cells : List Cell). with_cells d1 cells)
    (append_assoc d1.cells (take k (bare_cells d1.texts home)) (bare d1.texts home k ∷ [])
    ∙ ap (λ (cells : List Cell). d1.cells ++ cells) (bare-more d1.texts home k l))

-- a cell in its place is another
seam-bare : {A : Type 0} (xs ys : List A) (k : ℕ) (x : A) → slice_get xs k ≡ Some x → k < length ys
    → slice_set (take k xs ++ drop k ys) k x ≡ take (suc k) xs ++ drop (suc k) ys
seam-bare (x ∷ xs) (y ∷ ys) zero z e l = let q : x ≡ z = cc in rw q refl
seam-bare (x ∷ xs) (y ∷ ys) (suc k) z e l = ap (λ zs. x ∷ zs) (seam-bare xs ys k z e (omega (arith, l)))
seam-bare [] ys k z e l = cc
seam-bare (x ∷ xs) [] k z e l = absurd (omega (arith, l))

pub seam : {A : Type 0} (before xs ys : List A) (n k : ℕ) (x : A) → n ≡ length before + k → slice_get xs k ≡ Some x
    → k < length ys
    → slice_set (before ++ (take k xs ++ drop k ys)) n x ≡ before ++ (take (k + 1) xs ++ drop (k + 1) ys)
seam before xs ys n k x at e l =
    let left : n - length before ≡ k = omega (arith, at) in
    set-append_right before (take k xs ++ drop k ys) (length before) n x refl (omega (arith, at))
    ∙ rw (left, add-one) (ap (λ zs. before ++ zs) (seam-bare xs ys k x e l))

-- a text of a world that had it
pub text-within : (d d' : Data) (t : List ℕ) (id : StrId) → has_text d.texts t ≡ true
    → d' ≡ with_texts d (with_text d.texts t) → id ≡ id_of d'.texts t → id.0 < length d.texts
text-within d d' t id h e is =
    let same : d'.texts ≡ d.texts = ap (λ (x : Data). x.texts) e ∙ with-there d.texts t h in
    rw (is, same) (id-below d.texts t h)

-- and its id stays
pub key-within : (d d1 d2 : Data) (t : List ℕ) (id : StrId) → has_text d.texts t ≡ true → is_key t ≡ true
    → d1 ≡ with_texts d (with_text d.texts t) → d2 ≡ d1 → id ≡ id_of d1.texts t → KeyIn d2 (k.Text id (2 ^ 32 - 1))
key-within d d1 d2 t id h sound e same is =
    let first : d1 ≡ d = e ∙ ap (λ (ts : List (List ℕ)). with_texts d ts) (with-there d.texts t h) in
    let ids : id ≡ id_of d.texts t = is ∙ ap (λ (x : Data). id_of x.texts t) first in
    let second : d2 ≡ d = same ∙ first in
    let own : KeyIn d (k.Text (id_of d.texts t) (2 ^ 32 - 1)) =
    (id-below d.texts t h, sym (key-no-index t sound) ∙ ap index_of (sym (id-text d.texts t h))) in
    subst (λ (x : Data). KeyIn x (k.Text id (2 ^ 32 - 1))) (sym second)
    (subst (λ (i : StrId). KeyIn d (k.Text i (2 ^ 32 - 1))) (sym ids) own)

-- ---- a cell is filled

get-seam-bare : {A : Type 0} (xs ys : List A) (k : ℕ) → k < length xs
    → slice_get (take k xs ++ drop k ys) k ≡ slice_get ys k
get-seam-bare (x ∷ xs) ys zero l = refl
get-seam-bare (x ∷ xs) [] (suc k) l = slice_get_past (take (suc k) (x ∷ xs) ++ []) (suc k) (past (x ∷ xs) (suc k))
  where
    past : {A : Type 0} (xs : List A) (k : ℕ) → length (take k xs ++ []) ≤ k
    past xs zero = omega arith
    past [] (suc k) = omega arith
    past (x ∷ xs) (suc k) = omega (arith, past xs k)
get-seam-bare (x ∷ xs) (y ∷ ys) (suc k) l = get-seam-bare xs ys k (omega (arith, l))
get-seam-bare [] ys k l = absurd (omega (arith, l))

pub get-seam : {A : Type 0} (before rest : List A) (n k : ℕ) → n ≡ length before + k
    → slice_get (before ++ rest) n ≡ slice_get rest k
get-seam [] rest n k e = let q : n ≡ k = omega (arith, e) in rw q refl
get-seam (b ∷ bs) rest zero k e = absurd (omega (arith, e))
get-seam (b ∷ bs) rest (suc n) k e = get-seam bs rest n k (omega (arith, e))

pub fill-step : (d d2 d3 : Data) (home : Side) (k : ℕ) → k < 80 → length d.cells ≡ 80 * home.0 → HasTableTexts d.texts
    → d2 ≡ with_cells d (d.cells ++ (take k (standard_cells d.texts home) ++ drop k (bare_cells d.texts home)))
    → ((i : Intrinsic) → intrinsic k ≡ Some i
    → d3 ≡ change_cell d2 (built_in_id home k) (filled d2.texts home (row_of i)))
    → d3 ≡ with_cells d
    (d.cells ++ (take (k + 1) (standard_cells d.texts home) ++ drop (k + 1) (bare_cells d.texts home)))
fill-step d d2 d3 home k l before h e f =
    f i at
    ∙ ap (λ (x : Data). change_cell x id (filled x.texts home (row_of i))) e
    ∙ ap (λ (o : Option Cell). change_if (with_cells d cells) id (filled d.texts home (row_of i)) o) there
    ∙ ap (λ (c : Cell). with_cells d (slice_set cells id.0 c)) (filled-is d.texts home k i h at)
    ∙ ap (λ (cs : List Cell). with_cells d cs)
    (seam d.cells xs ys id.0 k (standard_cell d.texts home i) place standard (omega (arith, l, many)))
  where
    i : Intrinsic
    i = get_or intrinsics k Print

    at : intrinsic k ≡ Some i
    at = at-place k l

    id : ObjId
    id = built_in_id home k

    xs : List Cell
    xs = standard_cells d.texts home

    ys : List Cell
    ys = bare_cells d.texts home

    cells : List Cell
    cells = d.cells ++ (take k xs ++ drop k ys)

    many : length ys ≡ 80
    many = length-map intrinsics (bare_cell d.texts home)

    all : length xs ≡ 80
    all = length-map intrinsics (standard_cell d.texts home)

    place : id.0 ≡ length d.cells + k
    place = omega (arith, before)

    standard : slice_get xs k ≡ Some (standard_cell d.texts home i)
    standard = slice_get-map (standard_cell d.texts home) intrinsics k ∙ ap (option_map (standard_cell d.texts home)) at

    there : slice_get cells id.0 ≡ Some (bare_cell d.texts home i)
    there =
        get-seam d.cells (take k xs ++ drop k ys) id.0 k place
        ∙ get-seam-bare xs ys k (omega (arith, l, all))
        ∙ slice_get-map (bare_cell d.texts home) intrinsics k
        ∙ ap (option_map (bare_cell d.texts home)) at

pub all-filled : (d d2 : Data) (home : Side) (k : ℕ) → k ≡ 80
    → d2 ≡ with_cells d (d.cells ++ (take k (standard_cells d.texts home) ++ drop k (bare_cells d.texts home)))
    → d2 ≡ with_cells d (d.cells ++ standard_cells d.texts home)
all-filled d d2 home k e is =
    let xs : List Cell = standard_cells d.texts home in
    let ys : List Cell = bare_cells d.texts home in
    let many : length ys ≡ 80 = length-map intrinsics (bare_cell d.texts home) in
    let all : length xs ≡ 80 = length-map intrinsics (standard_cell d.texts home) in
    is
    ∙ ap (λ (cs : List Cell). with_cells d (d.cells ++ (cs ++ drop k ys))) (take_all k xs (omega (arith, e, all)))
    ∙ ap (λ (cs : List Cell). with_cells d (d.cells ++ (xs ++ cs))) (drop_all k ys (omega (arith, e, many)))
    ∙ ap (λ (cs : List Cell). with_cells d (d.cells ++ cs)) (append-nil xs)
