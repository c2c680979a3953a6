-- Each definition on an array makes it move.
use Rattle.std.proofs.Common.{◌≡◌, ℕ, zero, suc, ◌+◌, ◌/◌, ◌%◌, ◌<◌, Bool, true, false, not, ◌&&◌, nat_le, nat_lt, List, [], ◌∷◌, ◌++◌, Option, None, Some, refl, sym, ap, ◌∙◌, subst, if◌then◌else◌, arith}
use Rattle.std.specs.Prelude.{ℤ, max, pos, reverse}
use Rattle.std.proofs.lemmas.Bool.{leb-false, ltb-true}
use Rattle.std.proofs.lemmas.Nat.{mod_below}
use Rattle.mb_desc.specs.declared.descriptor.Desc.{Desc}
use Rattle.mb_desc.specs.declared.descriptor.Full.{Full}
use Rattle.mb_desc.specs.declared.descriptor.Full.TheVariants.{Datum}
use Rattle.mb_desc.specs.Descriptors.{is_configurable, IsOfOneKind, descriptor_of, is_writable, denies}
use Rattle.mb_desc.specs.Validate.{Validate}
use Rattle.mb_desc.specs.View.{View}
use Rattle.mb_view.specs.Views.{property_of}
use Rattle.mb_view.specs.Changes.{Define}
use Rattle.mb_view.specs.Arrays.{value_and_flag}
use Rattle.mb_view.proofs.Evolving.{keeps-refl}
use Rattle.mb_view.proofs.Tables.{lookup-insert, lookup-remove}
use Rattle.mb_view.proofs.Followed.{accepts-kept}
use Rattle.mb_view.proofs.Lengths.{length-accepted}
use Rattle.mb_world.specs.Value.{Val, Undefined, Whole, same_value, whole_of, decimal, digits_within}
use Rattle.mb_world.specs.Key.{PropertyKey, Named, SymbolKey, same_key, index_of_key, indices}
use Rattle.mb_world.specs.declared.cell.ErrorKind.TheVariants.{TypeError, RangeError}
use Rattle.mb_world.specs.Property.{open_property}
use Rattle.mb_world.specs.Graph.{Thing, Kind, Array, Property}
use Rattle.mb_world.specs.Objects.{find_property, remove_property, property_keys, own_property, with_property, without_property}
use Rattle.mb_world.specs.Ordinary.{Refused, Becomes, Faulty, validated}
use Rattle.mb_world.specs.Arrays.{index_key, length_key, length_in, array_length, with_length, shrink, indices_from, shrunk, cut_to, element_defined, length_as, without_writable, length_below, as_length, length_within, length_given, length_defined, array_defined_at, defined_by_kind}
use Rattle.mb_growth.specs.Objects.{as_view, is_array, HasLength, IsFormed}
use Rattle.mb_growth.specs.Later.{Moves}
use Rattle.mb_growth.specs.Laws.{DefinitionsMove, ElementsMove}
use Rattle.mb_growth.proofs.Values.{key-sound, key-refl, value-refl}
use Rattle.mb_growth.proofs.Bridge.{own-is, with-is, without-is}
use Rattle.mb_growth.proofs.Steps.{later-refl, moves-on, one-change, with-moves, without-moves, ordinary-moves}

-- a length that can be written takes every number, and may be closed
set-length : (t : Thing) (old : Val) (n : ℕ) (w : Bool) → IsFormed t → own_property length_key t ≡ Some (Datum old true false false) → Moves t (with_length n w t)
set-length t old n w formed at =
    let new : Full Val = Datum (Whole (pos n)) w false false in
    one-change t (with_length n w t) (Define length_key (value_and_flag (Whole (pos n)) w) new) (with-is length_key (value_and_flag (Whole (pos n)) w) new t) refl refl refl refl formed (
      refl,
      ap (λ (o : Option (Full Val)). Validate same_value Undefined t.extensible o (value_and_flag (Whole (pos n)) w)) (sym (own-is length_key t) ∙ at)
          ∙ length-accepted same_value Undefined t.extensible old (Whole (pos n)) w,
    )

-- one that can't be written is put again as it is
same-length : (t : Thing) (n : ℕ) → IsFormed t → own_property length_key t ≡ Some (Datum (Whole (pos n)) false false false) → Moves t (with_length n false t)
same-length t n formed at =
    let old : Full Val = Datum (Whole (pos n)) false false false in
    one-change t (with_length n false t) (Define length_key (descriptor_of old) old) (with-is length_key (descriptor_of old) old t) refl refl refl refl formed (
      refl,
      ap (λ (o : Option (Full Val)). Validate same_value Undefined t.extensible o (descriptor_of old)) (sym (own-is length_key t) ∙ at)
          ∙ accepts-kept same_value Undefined value-refl t.extensible old old refl (keeps-refl old),
    )

-- ---- a shorter length
abbrev holding : List Property → Thing → Thing
holding ps t = record t { properties = ps }

remove-absent : (k : PropertyKey) (ps : List Property) → find_property k ps ≡ None → remove_property k ps ≡ ps
remove-absent k [] h = refl
remove-absent k (p ∷ ps) h = by (same_key p.key k) refl (remove-absent k ps)
  where
    by : (b : Bool) → same_key p.key k ≡ b → (find_property k ps ≡ None → remove_property k ps ≡ ps) → remove_property k (p ∷ ps) ≡ p ∷ ps
    by true t rest = absurd (let bad : Some p.full ≡ None = rw t at h in cc)
    by false t rest = rw t (ap (λ r. p ∷ r) (rest (rw t at h)))

-- a fixed property is as it was where another that isn't fixed is taken out
fixed-stays : (t : Thing) (k : PropertyKey) (p length : Full Val) → IsFormed t → own_property k t ≡ Some p → is_configurable p ≡ true
    → own_property length_key t ≡ Some length → is_configurable length ≡ false → own_property length_key (without_property k t) ≡ Some length
fixed-stays t k p length formed at loose has fixed =
    own-is length_key (without_property k t)
    ∙ ap (λ (view : View PropertyKey Val). property_of same_key view length_key) (without-is k t)
    ∙ lookup-remove same_key key-sound key-refl (as_view t).properties k length_key formed.distinct
    ∙ by (same_key length_key k) refl
  where
    by : (b : Bool) → same_key length_key k ≡ b → (if same_key length_key k then None else property_of same_key (as_view t) length_key) ≡ Some length
    by true e =
        let s : length_key ≡ k = key-sound length_key k e in
        let f : Some p ≡ Some length = sym at ∙ ap (λ (z : PropertyKey). own_property z t) (sym s) ∙ has in
        let g : p ≡ length = cc in
        absurd (let bad : true ≡ false = sym loose ∙ ap is_configurable g ∙ fixed in cc)
    by false e = rw e (sym (own-is length_key t) ∙ has)

abbrev Cut : Thing → Full Val → List Property → Type 0
Cut t length ps = Moves t (holding ps t) × (find_property length_key ps ≡ Some length)

shrink-moves : (is : List (ℕ × PropertyKey)) (n : ℕ) (t : Thing) (length : Full Val) (ps : List Property) → is_configurable length ≡ false
    → Cut t length ps → Cut t length (shrink is n ps).left
shrink-moves [] n t length ps fixed h = h
shrink-moves (i ∷ is) n t length ps fixed h = by (find_property i.1 ps) refl (shrink-moves is n t length (remove_property i.1 ps) fixed)
  where
    loose : (p : Full Val) → find_property i.1 ps ≡ Some p → (b : Bool) → is_configurable p ≡ b
        → (Cut t length (remove_property i.1 ps) → Cut t length (shrink is n (remove_property i.1 ps)).left)
        → Cut t length (shrink (i ∷ is) n ps).left
    loose p at true c rest =
        let m : Moves t (holding (remove_property i.1 ps) t) =
        moves-on t (holding ps t) (holding (remove_property i.1 ps) t) h.0 (without-moves (holding ps t) i.1 p h.0.0 at c) in
        let k : find_property length_key (remove_property i.1 ps) ≡ Some length = fixed-stays (holding ps t) i.1 p length h.0.0 at c h.1 fixed in
        rw (at, c) (rest (m, k))
    loose p at false c rest = rw (at, c) h

    by : (o : Option (Full Val)) → find_property i.1 ps ≡ o
        → (Cut t length (remove_property i.1 ps) → Cut t length (shrink is n (remove_property i.1 ps)).left)
        → Cut t length (shrink (i ∷ is) n ps).left
    by None at rest =
        let e : remove_property i.1 ps ≡ ps = remove-absent i.1 ps at in
        rw at (rest (subst (Cut t length) (sym e) h))
    by (Some p) at rest = loose p at (is_configurable p) refl rest

cut-moves : (t : Thing) (v : Val) (n : ℕ) (w : Bool) → IsFormed t → own_property length_key t ≡ Some (Datum v true false false) → Moves t (cut_to (shrunk n t) w t)
cut-moves t v n w formed at =
    let s : Cut t (Datum v true false false) (shrunk n t).left =
    shrink-moves (reverse (indices_from n (indices (property_keys t.properties)))) n t (Datum v true false false) t.properties refl ((formed, later-refl t), at) in
    moves-on t (holding (shrunk n t).left t) (cut_to (shrunk n t) w t) s.0 (set-length (holding (shrunk n t).left t) v (shrunk n t).length w s.0.0 s.1)

-- ---- `length` is defined
pub writable-length : (v : Val) (w : Bool) → (length_in (Some (Datum v w false false))).1 ≡ true → w ≡ true
writable-length (Whole (pos n)) w h = h
writable-length _ w h = absurd (let bad : false ≡ true = h in cc)

length-as-moves : (t u : Thing) (n : ℕ) (late b : Bool) (o : Option (Full Val)) → IsFormed t → HasLength t → (array_length t).1 ≡ true → length_as t n late o ≡ Becomes u b → Moves t u
length-as-moves t u n late b None formed has w h = absurd (let bad : Refused ≡ Becomes u b = h in cc)
length-as-moves t u n late b (Some p) formed has w h =
    let open_ : has.1 ≡ true = writable-length has.0 has.1 (ap (λ (o : Option (Full Val)). (length_in o).1) (sym has.2) ∙ w) in
    let at : own_property length_key t ≡ Some (Datum has.0 true false false) = has.2 ∙ ap (λ (z : Bool). Some (Datum has.0 z false false)) open_ in
    let f : Becomes (cut_to (shrunk n t) (is_writable p && not late) t) (shrunk n t).whole ≡ Becomes u b = h in
    let m : cut_to (shrunk n t) (is_writable p && not late) t ≡ u = cc in
    subst (λ (x : Thing). Moves t x) m (cut-moves t has.0 n (is_writable p && not late) formed at)

length-below-moves : (t u : Thing) (d : Desc Val) (n : ℕ) (b : Bool) → IsFormed t → HasLength t → IsOfOneKind d → length_below t d n (array_length t) ≡ Becomes u b → Moves t u
length-below-moves t u d n b formed has one h = by (nat_le (array_length t).0 n) (array_length t).1 refl refl
  where
    by : (a w : Bool) → nat_le (array_length t).0 n ≡ a → (array_length t).1 ≡ w → Moves t u
    by true w e f = ordinary-moves t u length_key d b formed one (rw e at h)
    by false true e f = length-as-moves t u n (denies d.writable) b (validated t length_key (without_writable d)) formed has f (rw (e, f) at h)
    by false false e f = absurd (let bad : Refused ≡ Becomes u b = rw (e, f) at h in cc)

length-within-moves : (t u : Thing) (d : Desc Val) (o : Option ℕ) (b : Bool) → IsFormed t → HasLength t → IsOfOneKind d → length_within t d o ≡ Becomes u b → Moves t u
length-within-moves t u d None b formed has one h = absurd (let bad : Faulty RangeError ≡ Becomes u b = h in cc)
length-within-moves t u d (Some n) b formed has one h = length-below-moves t u d n b formed has one h

length-given-moves : (t u : Thing) (d : Desc Val) (o : Option ℤ) (b : Bool) → IsFormed t → HasLength t → IsOfOneKind d → length_given t d o ≡ Becomes u b → Moves t u
length-given-moves t u d None b formed has one h = absurd (let bad : Faulty TypeError ≡ Becomes u b = h in cc)
length-given-moves t u d (Some z) b formed has one h = length-within-moves t u d (as_length z) b formed has one h

length-defined-moves : (t u : Thing) (d : Desc Val) (o : Option Val) (b : Bool) → IsFormed t → HasLength t → IsOfOneKind d → length_defined t d o ≡ Becomes u b → Moves t u
length-defined-moves t u d None b formed has one h = ordinary-moves t u length_key d b formed one h
length-defined-moves t u d (Some v) b formed has one h = length-given-moves t u d (whole_of v) b formed has one h

-- ---- an element is defined

-- another key leaves `length`
pub other-length : (t : Thing) (k : PropertyKey) (d : Desc Val) (p : Full Val) → same_key length_key k ≡ false → own_property length_key (with_property k p t) ≡ own_property length_key t
other-length t k d p other =
    own-is length_key (with_property k p t)
    ∙ ap (λ (view : View PropertyKey Val). property_of same_key view length_key) (with-is k d p t)
    ∙ lookup-insert same_key key-sound key-refl (as_view t).properties k p length_key
    ∙ ap (λ (b : Bool). if b then Some p else property_of same_key (as_view t) length_key) other
    ∙ sym (own-is length_key t)

with-element-moves : (t : Thing) (k : PropertyKey) (d : Desc Val) (p : Full Val) (i n : ℕ) (w : Bool) → IsFormed t → IsOfOneKind d → same_key length_key k ≡ false
    → own_property length_key t ≡ Some (Datum (Whole (pos n)) w false false) → nat_le n i && not w ≡ false → validated t k d ≡ Some p
    → Moves t (with_length (max n (i + 1)) w (with_property k p t))
with-element-moves t k d p i n w formed one other at room accepted =
    moves-on t (with_property k p t) (with_length (max n (i + 1)) w (with_property k p t)) first (by w refl)
  where
    first : Moves t (with_property k p t)
    first = with-moves t k d p formed one accepted

    there : own_property length_key (with_property k p t) ≡ Some (Datum (Whole (pos n)) w false false)
    there = other-length t k d p other ∙ at

    below : (b : Bool) → nat_le n i ≡ b → b && true ≡ false → i < n
    below true e h = absurd (let bad : true ≡ false = h in cc)
    below false e h = leb-false n i e

    by : (v : Bool) → w ≡ v → Moves (with_property k p t) (with_length (max n (i + 1)) w (with_property k p t))
    by true c =
        subst (λ (v : Bool). Moves (with_property k p t) (with_length (max n (i + 1)) v (with_property k p t))) (sym c)
        (set-length (with_property k p t) (Whole (pos n)) (max n (i + 1)) true first.0 (there ∙ ap (λ (v : Bool). Some (Datum (Whole (pos n)) v false false)) c))
    by false c =
        let less : i < n = below (nat_le n i) refl (ap (λ (v : Bool). nat_le n i && not v) (sym c) ∙ room) in
        let m : max n (i + 1) ≡ n = omega (arith, less) in
        subst (λ (v : Bool). Moves (with_property k p t) (with_length (max n (i + 1)) v (with_property k p t))) (sym c)
        (subst (λ (z : ℕ). Moves (with_property k p t) (with_length z false (with_property k p t))) (sym m)
        (same-length (with_property k p t) n first.0 (there ∙ ap (λ (v : Bool). Some (Datum (Whole (pos n)) v false false)) c)))

-- no element is past a length that is none
none-past : (t u : Thing) (k : PropertyKey) (d : Desc Val) (i : ℕ) (b : Bool) → element_defined t k d i (0, false) ≡ Becomes u b → Moves t u
none-past t u k d i b h = by (nat_le 0 i) refl
  where
    by : (c : Bool) → nat_le 0 i ≡ c → Moves t u
    by true e = absurd (let bad : Refused ≡ Becomes u b = rw e at h in cc)
    by false e = let l : i < 0 = leb-false 0 i e in absurd (omega (arith, l))

element-by : (t u : Thing) (k : PropertyKey) (d : Desc Val) (i : ℕ) (b : Bool) → IsFormed t → IsOfOneKind d → same_key length_key k ≡ false
    → (v : Val) (w : Bool) → own_property length_key t ≡ Some (Datum v w false false)
    → element_defined t k d i (length_in (Some (Datum v w false false))) ≡ Becomes u b → Moves t u
element-by t u k d i b formed one other (Whole (pos n)) w at h = by (nat_le n i && not w) (validated t k d) refl refl
  where
    by : (a : Bool) (o : Option (Full Val)) → nat_le n i && not w ≡ a → validated t k d ≡ o → Moves t u
    by true o e f = absurd (let bad : Refused ≡ Becomes u b = rw e at h in cc)
    by false None e f = absurd (let bad : Refused ≡ Becomes u b = rw (e, f) at h in cc)
    by false (Some p) e f =
        let g : Becomes (with_length (max n (i + 1)) w (with_property k p t)) true ≡ Becomes u b = rw (e, f) at h in
        let m : with_length (max n (i + 1)) w (with_property k p t) ≡ u = cc in
        subst (λ (x : Thing). Moves t x) m (with-element-moves t k d p i n w formed one other at e f)
element-by t u k d i b formed one other _ w at h = none-past t u k d i b h

element-moves : (t u : Thing) (k : PropertyKey) (d : Desc Val) (i : ℕ) (b : Bool) → IsFormed t → IsOfOneKind d → same_key length_key k ≡ false
    → HasLength t → element_defined t k d i (array_length t) ≡ Becomes u b → Moves t u
element-moves t u k d i b formed one other has h =
    element-by t u k d i b formed one other has.0 has.1 has.2
    (subst (λ (o : Option (Full Val)). element_defined t k d i (length_in o) ≡ Becomes u b) has.2 h)

-- no array index is `length`
pub index-other : (k : PropertyKey) (i : ℕ) → index_of_key k ≡ Some i → same_key length_key k ≡ false
index-other k i h = by (same_key length_key k) refl
  where
    by : (b : Bool) → same_key length_key k ≡ b → same_key length_key k ≡ false
    by true e =
        let s : length_key ≡ k = key-sound length_key k e in
        let n : index_of_key length_key ≡ None = refl in
        absurd (let bad : None ≡ Some i = sym n ∙ ap index_of_key s ∙ h in cc)
    by false e = e

array-moves : (t u : Thing) (k : PropertyKey) (d : Desc Val) (b : Bool) → IsFormed t → IsOfOneKind d → HasLength t → (o : Option ℕ) → index_of_key k ≡ o
    → array_defined_at t k d o ≡ Becomes u b → Moves t u
array-moves t u k d b formed one has None e h = by (same_key k length_key) refl
  where
    by : (a : Bool) → same_key k length_key ≡ a → Moves t u
    by true s = length-defined-moves t u d d.value b formed has one (rw s at h)
    by false s = ordinary-moves t u k d b formed one (rw s at h)
array-moves t u k d b formed one has (Some i) e h = element-moves t u k d i b formed one (index-other k i e) has h

kind-moves : (kind : Kind) (t u : Thing) (k : PropertyKey) (d : Desc Val) (b : Bool) → t.kind ≡ kind → IsFormed t → IsOfOneKind d → defined_by_kind kind t k d ≡ Becomes u b → Moves t u
kind-moves Array t u k d b e formed one h = array-moves t u k d b formed one (formed.array (ap is_array e)) (index_of_key k) refl h
kind-moves _ t u k d b e formed one h = ordinary-moves t u k d b formed one h

pub definitions-move : DefinitionsMove
definitions-move t u k d answer formed one h = kind-moves t.kind t u k d answer refl formed one h

-- no number is spelled `length`: its last unit is a digit
abbrev last : ℕ → List ℕ → ℕ
last d [] = d
last d (x ∷ xs) = last x xs

last-append : (d : ℕ) (xs : List ℕ) (y : ℕ) → last d (xs ++ (y ∷ [])) ≡ y
last-append d [] y = refl
last-append d (x ∷ xs) y = last-append x xs y

one-digit : (k n : ℕ) → nat_lt n 10 ≡ true → digits_within (suc k) n ≡ (48 + n) ∷ []
one-digit k n e = rw (e, digits_within) refl

more-digits : (k n : ℕ) → nat_lt n 10 ≡ false → digits_within (suc k) n ≡ digits_within k (n / 10) ++ ((48 + n % 10) ∷ [])
more-digits k n e = rw (e, digits_within) refl

last-digit : (k n : ℕ) → last 48 (digits_within k n) < 58
last-digit zero n = let m : 48 < 58 = omega arith in m
last-digit (suc k) n = by (nat_lt n 10) refl
  where
    by : (b : Bool) → nat_lt n 10 ≡ b → last 48 (digits_within (suc k) n) < 58
    by true e = let l : n < 10 = ltb-true n 10 e in let m : 48 + n < 58 = omega (arith, l) in
        subst (λ (ds : List ℕ). last 48 ds < 58) (sym (one-digit k n e)) m
    by false e =
        let l : n % 10 < 10 = mod_below n 10 (omega arith) in
        let m : 48 + n % 10 < 58 = omega (arith, l) in
        subst (λ (ds : List ℕ). last 48 ds < 58) (sym (more-digits k n e))
        (subst (λ (z : ℕ). z < 58) (sym (last-append 48 (digits_within k (n / 10)) (48 + n % 10))) m)

abbrev text : PropertyKey → List ℕ
text (Named t) = t
text (SymbolKey s) = []

pub number-other : (n : ℕ) → same_key length_key (index_key n) ≡ false
number-other n = by (same_key length_key (index_key n)) refl
  where
    by : (b : Bool) → same_key length_key (index_key n) ≡ b → same_key length_key (index_key n) ≡ false
    by true e =
        let s : length_key ≡ index_key n = key-sound length_key (index_key n) e in
        let f : 104 ≡ last 48 (decimal n) = ap (λ (k : PropertyKey). last 48 (text k)) s in
        let l : last 48 (decimal n) < 58 = last-digit (suc n) n in
        absurd (omega (arith, f, l))
    by false e = e

pub elements-move : ElementsMove
elements-move t u n v answer formed array h =
    element-moves t u (index_key n) (descriptor_of (open_property v)) n answer formed refl (number-other n) (formed.array array) h
