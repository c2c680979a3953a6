-- What callers need of a table that took a text.
use Rattle.std.proofs.Common.{◌⊎◌, inl, inr, ◌≡◌, ℕ, ◌<◌, ◌≤◌, Bool, true, false, List, [], ◌∷◌, ◌++◌, length, slice_get, Some, if◌then◌else◌, refl, sym, ◌∙◌, arith, length-append, get_or}
use Rattle.std.proofs.lemmas.List.{append-nil, get_or_append_left}
use Rattle.std.proofs.lemmas.Option.{slice_get_within, get_or_from_slice_get, slice_get_read}
use Rattle.std.proofs.lemmas.Bool.{cases_order}
use Rattle.std.proofs.lemmas.Map.Made.{AllPairs-from_IsDistinct}
use Rattle.std.specs.Cmp.Lexicographic.{bytes_decides}
use Rattle.mb_text.specs.Texts.{has_text, with_text, AreDistinct}

-- a place keeps its text when texts are added after it
pub slice_get-added : (texts more : List (List ℕ)) (k : ℕ) (u : List ℕ) → slice_get texts k ≡ Some u → slice_get (texts ++ more) k ≡ Some u
slice_get-added texts more k u h =
    let within : k < length texts = slice_get_within texts k u h in
    let there : u ≡ get_or (texts ++ more) k u = sym (get_or_append_left texts more u k within ∙ get_or_from_slice_get texts k u u h) in
    slice_get_read (texts ++ more) (length (texts ++ more)) k u refl (omega (arith, length-append texts more)) there

-- the texts of before are the first of those after
pub with_text-added : (texts : List (List ℕ)) (t : List ℕ) → (more : List (List ℕ)) × (with_text texts t ≡ texts ++ more)
with_text-added texts t = by (has_text texts t)
  where
    by : (b : Bool) → (more : List (List ℕ)) × ((if b then texts else texts ++ t ∷ []) ≡ texts ++ more)
    by true = ([], sym (append-nil texts))
    by false = (t ∷ [], refl)

-- each id keeps its text
pub slice_get-with_text : (texts : List (List ℕ)) (t : List ℕ) (k : ℕ) (u : List ℕ) → slice_get texts k ≡ Some u → slice_get (with_text texts t) k ≡ Some u
slice_get-with_text texts t k u h =
    let added = with_text-added texts t in
    rw added.1 (slice_get-added texts added.0 k u h)

-- there are at least as many texts as before
pub length-with_text : (texts : List (List ℕ)) (t : List ℕ) → length texts ≤ length (with_text texts t)
length-with_text texts t =
    let added = with_text-added texts t in
    rw added.1 (omega (arith, length-append texts added.0))

apart : (texts : List (List ℕ)) (i j : ℕ) (t : List ℕ) → AreDistinct texts → slice_get texts i ≡ Some t → slice_get texts j ≡ Some t → i < j → ⊥
apart texts i j t distinct at_i at_j below =
    AllPairs-from_IsDistinct bytes_decides texts distinct i j t below (slice_get_within texts j t at_j)
    (get_or_from_slice_get texts i t t at_i ∙ sym (get_or_from_slice_get texts j t t at_j))

-- a text stands at one place only
pub one_place : (texts : List (List ℕ)) (i j : ℕ) (t : List ℕ) → AreDistinct texts → slice_get texts i ≡ Some t → slice_get texts j ≡ Some t → i ≡ j
one_place texts i j t distinct at_i at_j = by (cases_order i j) (apart texts i j t distinct at_i at_j) (apart texts j i t distinct at_j at_i)
  where
    by : (i ≡ j) ⊎ ((i < j) ⊎ (j < i)) → (i < j → ⊥) → (j < i → ⊥) → i ≡ j
    by (inl same) below above = same
    by (inr (inl less)) below above = absurd (below less)
    by (inr (inr more)) below above = absurd (above more)
