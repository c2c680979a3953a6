-- An array is made: its `length`.
use Rattle.std.proofs.Common.{◌≡◌, ℕ, ◌<◌, ◌≤◌, ◌+◌, ◌-◌, ◌^◌, List, [], ◌∷◌, ◌++◌, length, slice_get, Option, Some, None, Bool, true, false, ◌||◌, arith, length-append, refl, sym, ◌∙◌, ap, get_or, map, is_some, true≢false, lit<, nat_lt, pos}
use Rattle.std.specs.List.{position_or_len, list_any}
use Rattle.std.specs.Str.{bytes_eq as same_text}
use Rattle.std.proofs.lemmas.Slice.Eq.{bytes_eq-Decides}
use Rattle.std.proofs.lemmas.List.Sums.{position_or_len_is, passes_at_first, fails_before_first}
use Rattle.std.proofs.lemmas.List.Folds.{Any-from_list_any}
use borrow.Author.Tests.{ltb-true}
use Rattle.std.proofs.lemmas.List.Elements.{All-cons, All-nil}
use Rattle.std.proofs.lemmas.Option.{slice_get_within, get_or_from_slice_get, slice_get-get_or}
use Rattle.std.proofs.lemmas.Bool.Decides.{nat_tests}
use Rattle.mb_base.specs.declared.value.StrId.{StrId}
use Rattle.mb_base.specs.declared.value.Side.{Side}
use Rattle.mb_base.specs.declared.value.Value.{Value}
use Rattle.mb_base.specs.declared.value.Value.TheVariants as v
use Rattle.mb_desc.specs.declared.descriptor.Full.TheVariants.{Datum}
use Rattle.mb_text.specs.Index.{index_of}
use Rattle.mb_text.specs.Texts.{with_text, has_text, AreDistinct}
use Rattle.mb_text.proofs.WithText.{one_place}
use Rattle.mb_text.proofs.Indices.{no_index_by_digits}
use Rattle.mb_world.specs.declared.cell.CellKind.{CellKind}
use Rattle.mb_world.specs.declared.cell.CellKind.TheVariants.{Array}
use Rattle.mb_world.specs.Data.{Data, is_array, length_units, length_id, length_key, with_texts}
use Rattle.mb_world.specs.Ids.{KeyIn, CellIn, ValueIn, TextIn, PropertyIn, PairIn, Maybe}
use Rattle.mb_world.specs.machine.Arrays.{array_by}
use Rattle.mb_world.proofs.Grow.{ValueIn-grows, TextIn-grows, Maybe-weaker}
use Rattle.mb_world.proofs.Texts.{Grows-text}

pub is-array : (k : CellKind) → is_array k ≡ true → k ≡ Array
is-array Array h = refl
is-array _ h = absurd (true≢false (sym h))

is_false : (b : Bool) → (b ≡ true → ⊥) → b ≡ false
is_false true h = absurd (h refl)
is_false false h = refl

same-text : (t : List ℕ) → same_text t t ≡ true
same-text t = (bytes_eq-Decides t t).1 refl

-- where a text stands that is there
pub place-found : (texts : List (List ℕ)) (t : List ℕ) (i : ℕ) → AreDistinct texts → slice_get texts i ≡ Some t → position_or_len (same_text t) texts ≡ i
place-found texts t i distinct e =
    let l : i < length texts = slice_get_within texts i t e in
    let at : get_or texts i [] ≡ t = get_or_from_slice_get texts i t [] e in
    position_or_len_is (same_text t) texts i [] (omega (arith, l))
    (λ k h. is_false (same_text t (get_or texts k [])) (λ q.
    let s : t ≡ get_or texts k [] = (bytes_eq-Decides t (get_or texts k [])).0 q in
    let m : k < length texts = omega (arith, h, l) in
    let p : k ≡ i = one_place texts k i t distinct (slice_get-get_or texts k [] m ∙ ap Some (sym s)) e in
    omega (arith, h, p)))
    (λ h. ap (same_text t) at ∙ same-text t)

or-false : (a b : Bool) → (a || b) ≡ false → (a ≡ false) × (b ≡ false)
or-false false b h = (refl, h)
or-false true b h = absurd (true≢false h)

none-passes : {A : Type 0} (p : A → Bool) (xs : List A) (k : ℕ) (d : A) → list_any p xs ≡ false → k < length xs → p (get_or xs k d) ≡ false
none-passes p [] k d h l = absurd (omega (arith, l))
none-passes p (x ∷ xs) Rattle.std.proofs.Common.zero d h l = (or-false (p x) (list_any p xs) h).0
none-passes p (x ∷ xs) (Rattle.std.proofs.Common.suc k) d h l = none-passes p xs k d (or-false (p x) (list_any p xs) h).1 (omega (arith, l))

pub place-new : (texts : List (List ℕ)) (t : List ℕ) → has_text texts t ≡ false → position_or_len (same_text t) texts ≡ length texts
place-new texts t h = position_or_len_is (same_text t) texts (length texts) [] (omega arith) (λ k l. none-passes (same_text t) texts k [] h l) (λ l. absurd (omega (arith, l)))

passes-below : {A : Type 0} (p : A → Bool) (xs : List A) → list_any p xs ≡ true → position_or_len p xs < length xs
passes-below {A = A} p xs h =
    let a = Any-from_list_any p xs h in
    by a.0 a.1 a.2 a.3 a.4 (nat_lt (position_or_len p xs) (length xs)) refl
  where
    by : (k : ℕ) (x : A) → k < length xs → get_or xs k x ≡ x → p x ≡ true → (b : Bool) → nat_lt (position_or_len p xs) (length xs) ≡ b → position_or_len p xs < length xs
    by k x l e t true q = ltb-true (position_or_len p xs) (length xs) q
    by k x l e t false q =
        let n : length xs ≤ position_or_len p xs = grind (arith, nat_tests) in
        let m : k < position_or_len p xs = omega (arith, n, l) in
        absurd (true≢false (sym t ∙ ap p (sym e) ∙ fails_before_first p xs k x m))

last-get : {A : Type 0} (xs : List A) (x d : A) → get_or (xs ++ x ∷ []) (length xs) d ≡ x
last-get [] x d = refl
last-get (y ∷ ys) x d = last-get ys x d

-- the place is that of the text in the texts with it
pub length-there : (texts : List (List ℕ)) (t : List ℕ) → (position_or_len (same_text t) texts < length (with_text texts t)) × (get_or (with_text texts t) (position_or_len (same_text t) texts) [] ≡ t)
length-there texts t = by (has_text texts t) refl
  where
    by : (b : Bool) → has_text texts t ≡ b → (position_or_len (same_text t) texts < length (with_text texts t)) × (get_or (with_text texts t) (position_or_len (same_text t) texts) [] ≡ t)
    by true e =
        let l : position_or_len (same_text t) texts < length texts = passes-below (same_text t) texts e in
        rw e ((l, sym ((bytes_eq-Decides t (get_or texts (position_or_len (same_text t) texts) [])).0 (passes_at_first (same_text t) texts [] l))))
    by false e =
        let q : position_or_len (same_text t) texts ≡ length texts = place-new texts t e in
        rw (e, q) ((omega (arith, length-append texts (t ∷ [])), last-get texts t []))

pub length-no-index : index_of length_units ≡ 2 ^ 32 - 1
length-no-index = no_index_by_digits length_units (λ h. let q = h 0 (lit< tt) in let z : 108 ≤ 57 = q.1 in omega arith)

-- the new array is of the world with the text
pub array-in : (d : Data) (home : Side) (proto : Value) (label : Option StrId) → home.0 < 8 → ValueIn d proto → Maybe (TextIn d) label → CellIn (with_texts d (with_text d.texts length_units)) (array_by (length_id d.texts) home proto label)
array-in d home proto label h p m =
    let d' : Data = with_texts d (with_text d.texts length_units) in
    let g = Grows-text d length_units in
    let t = length-there d.texts length_units in
    let k : KeyIn d' (length_key d.texts) = (t.0, sym length-no-index ∙ ap index_of (sym t.1)) in
    record {
      home_in = h;
      kind_in = tt;
      proto_in = ValueIn-grows d d' g proto p;
      props_in = All-cons (PropertyIn d') (length_key d.texts, Datum (v.Whole (pos 0)) true false false) [] (k, tt) (All-nil (PropertyIn d'));
      label_in = Maybe-weaker (TextIn d) (TextIn d') (TextIn-grows d d' g) label m;
      slots_in = All-nil (Maybe (PairIn d'));
    }
