-- Rows of the table, and the texts of their properties.
use Rattle.mb_desc.specs.declared.descriptor.Full.{Full}
use Rattle.mb_base.specs.declared.value.Side.{Side}
use Rattle.mb_frames.proofs.Parts.{left-part, right-part}
use Rattle.mb_intrinsics.proofs.Adding.{both, member-of, texts-of}
use Rattle.mb_intrinsics.proofs.Naming.{gains-then}
use Rattle.mb_intrinsics.specs.Furnished.{HasTableTexts, full_texts, value_of}
use Rattle.mb_intrinsics.specs.declared.table.Row.{Row}
use Rattle.mb_intrinsics.specs.declared.table.Given.{Given}
use Rattle.mb_intrinsics.specs.declared.table.Given.TheVariants as given
use Rattle.mb_intrinsics.specs.machine.Filling.{AreThere, Gains, HasCellsOf, properties_texts, property_texts}
use Rattle.mb_intrinsics.specs.machine.Table.{IsSound, function_in, given_property, is_key, is_short, is_sound_function, is_sound_property, is_sound_prototype, is_sound_row, property_in, prototype_in, row_in, row_of}
use Rattle.mb_text.proofs.Indices.{no_index_by_digits}
use Rattle.mb_text.specs.Index.{index_of}
use Rattle.mb_text.specs.Texts.{has_text}
use Rattle.mb_world.specs.Data.{Data}
use Rattle.mb_world.specs.Graph.{Property}
use Rattle.mb_world.specs.Ids.{ValueIn}
use Rattle.mb_world.specs.Intrinsics.{Intrinsic, Print, intrinsic, intrinsics}
use Rattle.mb_world.specs.Standard.{properties_of}
use Rattle.mb_world.specs.Key.{Named, PropertyKey}
use Rattle.mb_world.specs.Value.{Val}
use Rattle.std.proofs.Common.{Bor, List, None, Option, Some, [], arith, nat_lt, option_map, true≢false, ◌*◌, ◌-◌, ◌^◌, add-one, ap, append-nil, append_assoc, get_or, length, map, refl, slice_get, slice_set, subst, suc, sym, take, true, ℕ, ◌+◌, ◌++◌, ◌<◌, ◌∙◌, ◌∷◌, ◌≡◌}
use Rattle.std.proofs.Math.Seq.{take-suc, take-suc-set}
use Rattle.std.specs.List.{flat_map, list_all}
use Rattle.std.proofs.lemmas.Grind.{flat_map-append}
use Rattle.std.proofs.lemmas.List.{get_or-map, length-map}
use Rattle.std.proofs.lemmas.Option.{get_or_from_slice_get, slice_get-get_or, slice_get-map}
use Rattle.std.proofs.lemmas.Bool.{ltb-true}
use Rattle.std.proofs.lemmas.List.Elements.{All-head}
use Rattle.std.specs.Prelude.{◌&&◌}

pub widen-step : (units bytes : List ℕ) (at x : ℕ) → take at units ≡ take at bytes → at < length bytes
    → at < length units
    → x ≡ get_or bytes at 0 → take (at + 1) (slice_set units at x) ≡ take (at + 1) bytes
widen-step units bytes at x e l m is =
    rw (add-one, take-suc-set units at x m, take-suc bytes at 0 l, e, is) refl

pub same-full : (name : List ℕ) (g : Given) → (given_property name g).full ≡ (given_property [] g).full
same-full name (given.Whole n) = refl
same-full name (given.Text t) = refl
same-full name (given.BuiltIn place) = refl
same-full name (given.Getter place) = refl

pub its-key : (name : List ℕ) (g : Given) → (given_property name g).key ≡ Named name
its-key name (given.Whole n) = refl
its-key name (given.Text t) = refl
its-key name (given.BuiltIn place) = refl
its-key name (given.Getter place) = refl

pub its-texts : (name : List ℕ) (g : Given)
    → property_texts (given_property name g) ≡ name ∷ full_texts (given_property [] g).full
its-texts name (given.Whole n) = refl
its-texts name (given.Text t) = refl
its-texts name (given.BuiltIn place) = refl
its-texts name (given.Getter place) = refl

pub map-taken : {A B : Type 0} (f : A → B) (xs : List A) (k : ℕ) (d : A) → k < length xs
    → map f (take (k + 1) xs) ≡ map f (take k xs) ++ f (get_or xs k d) ∷ []
map-taken f xs k d l = rw (add-one, take-suc xs k d l) (map-append f (take k xs) (get_or xs k d))
  where
    map-append : {A B : Type 0} (f : A → B) (xs : List A) (x : A) → map f (xs ++ x ∷ []) ≡ map f xs ++ f x ∷ []
    map-append f [] x = refl
    map-append f (y ∷ ys) x = ap (λ zs. f y ∷ zs) (map-append f ys x)

pub texts-more : (ps : List Property) (p : Property)
    → properties_texts (ps ++ p ∷ []) ≡ properties_texts ps ++ property_texts p
texts-more ps p =
    flat_map-append property_texts ps (p ∷ []) ∙ ap (λ ts. properties_texts ps ++ ts) (append-nil (property_texts p))

-- one property more
pub each-step : (d1 d2 d3 d4 : Data) (ps : List (Bor (List ℕ) × Given)) (k : ℕ) (d : Bor (List ℕ) × Given)
    → k < length ps
    → Gains d1 (properties_texts (map property_in (take k ps))) d2 → Gains d2 ((get_or ps k d).0.now ∷ []) d3
    → Gains d3 (full_texts (given_property [] (get_or ps k d).1).full) d4
    → Gains d1 (properties_texts (map property_in (take (k + 1) ps))) d4
each-step d1 d2 d3 d4 ps k d l a b c =
    rw (
      map-taken property_in ps k d l,
      texts-more (map property_in (take k ps)) (property_in (get_or ps k d)),
      its-texts (get_or ps k d).0.now (get_or ps k d).1,
    )
    (gains-then d1 d2 d4 _ _ a (gains-then d2 d3 d4 ((get_or ps k d).0.now ∷ []) _ b c))

-- ---- the table

pub rows-sound : (rows : List Row) (k : ℕ) (r : Row) → slice_get rows k ≡ Some r → list_all is_sound_row rows ≡ true
    → IsSound r
rows-sound rows k r e all =
    let row = both (is_sound_prototype r.0) (is_sound_function r.1 && list_all is_sound_property r.2.now)
    (member-of is_sound_row rows k r all e) in
    let rest = both (is_sound_function r.1) (list_all is_sound_property r.2.now) row.1 in
    record { prototype = row.0; function = rest.0; properties = rest.1 }

pub row-step : (d1 d2 d3 : Data) (k : ℕ) (r : Row) → slice_get (map row_of intrinsics) k ≡ Some (row_in r)
    → Gains d1 (flat_map (λ i. properties_texts (properties_of i)) (take k intrinsics)) d2
    → Gains d2 (properties_texts (row_in r).1) d3 → k < length intrinsics
    → Gains d1 (flat_map (λ i. properties_texts (properties_of i)) (take (k + 1) intrinsics)) d3
row-step d1 d2 d3 k r e a b l =
    let is : row_of (get_or intrinsics k Print) ≡ row_in r =
    sym (get_or-map row_of intrinsics k Print (row_in r) l)
    ∙ get_or_from_slice_get (map row_of intrinsics) k (row_in r) (row_in r) e in
    let texts : flat_map (λ i. properties_texts (properties_of i)) (get_or intrinsics k Print ∷ [])
    ≡ properties_texts (row_in r).1 =
    append-nil (properties_texts (properties_of (get_or intrinsics k Print)))
    ∙ ap (λ (x : Val × List Property). properties_texts x.1) is in
    let taken : take (k + 1) intrinsics ≡ take k intrinsics ++ get_or intrinsics k Print ∷ [] =
    rw add-one (take-suc intrinsics k Print l) in
    let all : flat_map (λ i. properties_texts (properties_of i)) (take (k + 1) intrinsics)
    ≡ flat_map (λ i. properties_texts (properties_of i)) (take k intrinsics) ++ properties_texts (row_in r).1 =
    ap (λ (is : List Intrinsic). flat_map (λ i. properties_texts (properties_of i)) is) taken
    ∙ flat_map-append (λ i. properties_texts (properties_of i)) (take k intrinsics) (get_or intrinsics k Print ∷ [])
    ∙ ap (λ (ts : List (List ℕ)). flat_map (λ i. properties_texts (properties_of i)) (take k intrinsics) ++ ts) texts in
    subst (λ (ts : List (List ℕ)). Gains d1 ts d3) (sym all)
    (gains-then d1 d2 d3 (flat_map (λ i. properties_texts (properties_of i)) (take k intrinsics))
    (properties_texts (row_in r).1) a b)

pub place-within : (rows : List Row) (k : ℕ) → map row_in rows ≡ map row_of intrinsics → k < 80 → k < length rows
place-within rows k e l =
    subst (λ (n : ℕ). k < n) (sym (ap (λ (xs : List (Val × List Property)). length xs) e) ∙ length-map rows row_in) l

-- ---- what holds of a row of the table

pub key-no-index : (t : List ℕ) → is_key t ≡ true → index_of t ≡ 2 ^ 32 - 1
key-no-index [] s = absurd (true≢false (sym s))
key-no-index (x ∷ xs) s =
    let first : 57 < x = ltb-true 57 x (both (is_short (x ∷ xs)) (nat_lt 57 x) s).1 in
    no_index_by_digits (x ∷ xs) (λ h. let q = h 0 (omega arith) in omega (arith, first, q.1))

pub its-key-there : (texts : List (List ℕ)) (name : List ℕ) (g : Given)
    → AreThere texts (property_texts (given_property name g)) → has_text texts name ≡ true
its-key-there texts name g h =
    All-head (λ t. has_text texts t ≡ true) name (full_texts (given_property [] g).full)
    (subst (λ (ts : List (List ℕ)). AreThere texts ts) (its-texts name g) h)

pub no-function : (f : Option (ℕ × Bor (List ℕ))) → ((x : ℕ × Bor (List ℕ)) → f ≡ Some x → ⊥) → function_in f ≡ []
no-function None h = refl
no-function (Some x) h = absurd (h x refl)

pub row-is : (k : ℕ) (r : Row) (i : Intrinsic) → slice_get (map row_of intrinsics) k ≡ Some (row_in r)
    → intrinsic k ≡ Some i → row_of i ≡ row_in r
row-is k r i e at =
    let same : Some (row_of i) ≡ Some (row_in r) =
    sym (slice_get-map row_of intrinsics k ∙ ap (option_map row_of) at) ∙ e in
    cc

pub at-place : (k : ℕ) → k < 80 → intrinsic k ≡ Some (get_or intrinsics k Print)
at-place k l = slice_get-get_or intrinsics k Print l

pub row-texts : (texts : List (List ℕ)) (k : ℕ) (r : Row) → k < 80 → HasTableTexts texts
    → slice_get (map row_of intrinsics) k ≡ Some (row_in r)
    → AreThere texts (properties_texts (function_in r.1)) × AreThere texts (properties_texts (map property_in r.2.now))
row-texts texts k r l h e =
    let i : Intrinsic = get_or intrinsics k Print in
    let all : AreThere texts (properties_texts (row_in r).1) =
    subst (λ (x : Val × List Property). AreThere texts (properties_texts x.1)) (row-is k r i e (at-place k l))
    (texts-of texts k i h (at-place k l)) in
    let parts : AreThere texts (properties_texts (function_in r.1) ++ properties_texts (map property_in r.2.now)) =
    subst (λ (ts : List (List ℕ)). AreThere texts ts)
    (flat_map-append property_texts (function_in r.1) (map property_in r.2.now)) all in (
      left-part (λ t. has_text texts t ≡ true) (properties_texts (function_in r.1))
          (properties_texts (map property_in r.2.now)) parts,
      right-part (λ t. has_text texts t ≡ true) (properties_texts (function_in r.1))
          (properties_texts (map property_in r.2.now)) parts,
    )

pub proto-in : (d : Data) (home : Side) (o : Option ℕ) → is_sound_prototype o ≡ true → HasCellsOf d home
    → ValueIn d (value_of [] home (prototype_in o))
proto-in d home None s h = tt
proto-in d home (Some n) s h = omega (arith, ltb-true n 80 s, h)
