-- What is there after a definition, which it would accept again.
use Rattle.std.proofs.Common.{◌≡◌, ℕ, ◌+◌, Bool, true, false, not, ◌&&◌, nat_le, List, [], ◌∷◌, Option, None, Some, refl, sym, ap, ◌∙◌, subst, if◌then◌else◌}
use Rattle.std.specs.Prelude.{max, pos, reverse}
use Rattle.mb_desc.specs.declared.descriptor.Desc.{Desc}
use Rattle.mb_desc.specs.declared.descriptor.Full.{Full}
use Rattle.mb_desc.specs.declared.descriptor.Full.TheVariants.{Datum}
use Rattle.mb_desc.specs.Descriptors.{IsOfOneKind, is_fixed, is_writable, property_is, denies, no_fields}
use Rattle.mb_desc.specs.Validate.{Validate}
use Rattle.mb_desc.specs.View.{View}
use Rattle.mb_desc.proofs.Again.{accepted_again}
use Rattle.mb_view.specs.Views.{property_of}
use Rattle.mb_view.proofs.Tables.{same_key-sym, lookup-insert}
use Rattle.mb_world.specs.Value.{Val, Undefined, Whole, same_value, whole_of}
use Rattle.mb_world.specs.Key.{PropertyKey, same_key, index_of_key, indices}
use Rattle.mb_world.specs.Graph.{Thing, Kind, Array, Property}
use Rattle.mb_world.specs.Objects.{find_property, remove_property, property_keys, own_property, with_property}
use Rattle.mb_world.specs.Ordinary.{Defined, Refused, Becomes, Faulty, validated, defined_as, ordinary_defined}
use Rattle.mb_world.specs.Arrays.{length_key, length_limit, array_length, length_in, shrink, indices_from, shrunk, cut_to, element_as, element_defined, length_as, without_writable, length_below, length_within, length_given, length_defined, array_defined_at, defined_by_kind, defined}
use Rattle.mb_growth.specs.Objects.{as_view, is_array, HasLength, IsFormed}
use Rattle.mb_growth.proofs.Values.{key-sound, key-refl, value-refl}
use Rattle.mb_growth.proofs.Bridge.{own-is, with-is}
use Rattle.mb_growth.proofs.Arrays.{writable-length, index-other}

pub own-with : (t : Thing) (k : PropertyKey) (f : Full Val) (j : PropertyKey)
    → own_property j (with_property k f t) ≡ (if same_key j k then Some f else own_property j t)
own-with t k f j =
    own-is j (with_property k f t)
    ∙ ap (λ (view : View PropertyKey Val). property_of same_key view j) (with-is k no_fields f t)
    ∙ lookup-insert same_key key-sound key-refl (as_view t).properties k f j
    ∙ ap (λ (o : Option (Full Val)). if same_key j k then Some f else o) (sym (own-is j t))

own-same : (t : Thing) (k : PropertyKey) (f : Full Val) → own_property k (with_property k f t) ≡ Some f
own-same t k f = own-with t k f k ∙ ap (λ (b : Bool). if b then Some f else own_property k t) (key-refl k)

own-other : (t : Thing) (k : PropertyKey) (f : Full Val) (j : PropertyKey) → same_key j k ≡ false
    → own_property j (with_property k f t) ≡ own_property j t
own-other t k f j other = own-with t k f j ∙ ap (λ (b : Bool). if b then Some f else own_property j t) other

-- where a definition answers true, a property is there that it leaves as it is
abbrev pub IsThere : PropertyKey → Desc Val → Defined → Type 0
IsThere k d Refused = Unit {0}
IsThere k d (Faulty e) = Unit {0}
IsThere k d (Becomes u false) = Unit {0}
IsThere k d (Becomes u true) = (p : Full Val) × (own_property k u ≡ Some p)
    × (Validate same_value Undefined u.extensible (Some p) d ≡ Some p)

there-if : (k : PropertyKey) (d : Desc Val) (b : Bool) (x y : Defined) → IsThere k d x → IsThere k d y
    → IsThere k d (if b then x else y)
there-if k d true x y p q = p
there-if k d false x y p q = q

there-as : (t : Thing) (k : PropertyKey) (d : Desc Val) → IsOfOneKind d → (o : Option (Full Val)) → validated t k d ≡ o
    → IsThere k d (defined_as t k o)
there-as t k d one None e = tt
there-as t k d one (Some p) e =
    (p, own-same t k p, accepted_again same_value Undefined value-refl t.extensible (own_property k t) d p one e)

there-ordinary : (t : Thing) (k : PropertyKey) (d : Desc Val) → IsOfOneKind d → IsThere k d (ordinary_defined t k d)
there-ordinary t k d one = there-as t k d one (validated t k d) refl

there-element_as : (t : Thing) (k : PropertyKey) (d : Desc Val) (i : ℕ) (n : ℕ × Bool) → IsOfOneKind d
    → same_key k length_key ≡ false → (o : Option (Full Val)) → validated t k d ≡ o → IsThere k d (element_as t k i n o)
there-element_as t k d i n one other None e = tt
there-element_as t k d i n one other (Some p) e = (
  p,
  own-other (with_property k p t) length_key (Datum (Whole (pos (max n.0 (i + 1)))) n.1 false false) k other ∙ own-same t k p,
  accepted_again same_value Undefined value-refl t.extensible (own_property k t) d p one e,
)

there-element : (t : Thing) (k : PropertyKey) (d : Desc Val) (i : ℕ) (n : ℕ × Bool) → IsOfOneKind d
    → same_key k length_key ≡ false → IsThere k d (element_defined t k d i n)
there-element t k d i n one other =
    there-if k d (nat_le n.0 i && not n.1) Refused (element_as t k i n (validated t k d)) tt
    (there-element_as t k d i n one other (validated t k d) refl)

-- ---- a shorter length

-- where all went that was to go, the length is the one asked for
whole-length : (is : List (ℕ × PropertyKey)) (n : ℕ) (ps : List Property) → (shrink is n ps).whole ≡ true
    → (shrink is n ps).length ≡ n
whole-length [] n ps h = refl
whole-length (i ∷ is) n ps h = by (property_is is_fixed (find_property i.1 ps)) refl (whole-length is n (remove_property i.1 ps))
  where
    by : (b : Bool) → property_is is_fixed (find_property i.1 ps) ≡ b
        → ((shrink is n (remove_property i.1 ps)).whole ≡ true → (shrink is n (remove_property i.1 ps)).length ≡ n)
        → (shrink (i ∷ is) n ps).length ≡ n
    by true e rest = absurd (let bad : false ≡ true = rw e at h in cc)
    by false e rest = rw e (rest (rw e at h))

-- the length that was put, with writable false where it was asked, is one that the descriptor accepts again
abbrev lengthy : Option Val → Option Val → Option Val → Option Bool → Option Bool → Option Bool → Desc Val
lengthy value get set writable enumerable configurable =
    record { value = value; writable = writable; get = get; set = set; enumerable = enumerable; configurable = configurable }

abbrev put_length : Val → Full Val → Desc Val → Full Val
put_length v p d = Datum v (is_writable p && not (denies d.writable)) false false

abbrev Again : Bool → Val → Full Val → Desc Val → Type 0
Again extensible v p d =
    Validate same_value Undefined extensible (Some (put_length v p d)) d ≡ Some (put_length v p d)

again-of : (extensible : Bool) (y x : Val) (p : Full Val) (d : Desc Val) → Some y ≡ Some x → Some (Datum y true false false) ≡ Some p
    → Again extensible y (Datum y true false false) d → Again extensible x p d
again-of extensible y x p d value h again =
    let same : y ≡ x = cc in
    let there : Datum y true false false ≡ p = cc in
    subst (λ (v : Val). Again extensible v p d) same (subst (λ (q : Full Val). Again extensible y q d) there again)

length-again : (extensible : Bool) (old x : Val) (p : Full Val) (value get set : Option Val)
    (writable enumerable configurable : Option Bool) → value ≡ Some x
    → IsOfOneKind (lengthy value get set writable enumerable configurable)
    → Validate same_value Undefined extensible (Some (Datum old true false false))
    (without_writable (lengthy value get set writable enumerable configurable)) ≡ Some p
    → Again extensible x p (lengthy value get set writable enumerable configurable)
unfolding Validate
length-again extensible old x p None get set w e c value one h = absurd (let bad : None ≡ Some x = value in cc)
length-again extensible old x p (Some y) (Some a) set w e c value one h = absurd (let bad : true ≡ false = one in cc)
length-again extensible old x p (Some y) None (Some a) w e c value one h = absurd (let bad : true ≡ false = one in cc)
length-again extensible old x p (Some y) None None None e (Some true) value one h =
    absurd (let bad : None ≡ Some p = h in cc)
length-again extensible old x p (Some y) None None None (Some true) None value one h =
    absurd (let bad : None ≡ Some p = h in cc)
length-again extensible old x p (Some y) None None None None None value one h =
    again-of extensible y x p (lengthy (Some y) None None None None None) value h (refl)
length-again extensible old x p (Some y) None None None (Some false) None value one h =
    again-of extensible y x p (lengthy (Some y) None None None (Some false) None) value h (refl)
length-again extensible old x p (Some y) None None None (Some true) (Some false) value one h =
    absurd (let bad : None ≡ Some p = h in cc)
length-again extensible old x p (Some y) None None None None (Some false) value one h =
    again-of extensible y x p (lengthy (Some y) None None None None (Some false)) value h (refl)
length-again extensible old x p (Some y) None None None (Some false) (Some false) value one h =
    again-of extensible y x p (lengthy (Some y) None None None (Some false) (Some false)) value h (refl)
length-again extensible old x p (Some y) None None (Some true) e (Some true) value one h =
    absurd (let bad : None ≡ Some p = h in cc)
length-again extensible old x p (Some y) None None (Some true) (Some true) None value one h =
    absurd (let bad : None ≡ Some p = h in cc)
length-again extensible old x p (Some y) None None (Some true) None None value one h =
    again-of extensible y x p (lengthy (Some y) None None (Some true) None None) value h (refl)
length-again extensible old x p (Some y) None None (Some true) (Some false) None value one h =
    again-of extensible y x p (lengthy (Some y) None None (Some true) (Some false) None) value h (refl)
length-again extensible old x p (Some y) None None (Some true) (Some true) (Some false) value one h =
    absurd (let bad : None ≡ Some p = h in cc)
length-again extensible old x p (Some y) None None (Some true) None (Some false) value one h =
    again-of extensible y x p (lengthy (Some y) None None (Some true) None (Some false)) value h (refl)
length-again extensible old x p (Some y) None None (Some true) (Some false) (Some false) value one h =
    again-of extensible y x p (lengthy (Some y) None None (Some true) (Some false) (Some false)) value h (refl)
length-again extensible old x p (Some y) None None (Some false) e (Some true) value one h =
    absurd (let bad : None ≡ Some p = h in cc)
length-again extensible old x p (Some y) None None (Some false) (Some true) None value one h =
    absurd (let bad : None ≡ Some p = h in cc)
length-again extensible old x p (Some y) None None (Some false) None None value one h =
    again-of extensible y x p (lengthy (Some y) None None (Some false) None None) value h (rw (value-refl y) refl)
length-again extensible old x p (Some y) None None (Some false) (Some false) None value one h =
    again-of extensible y x p (lengthy (Some y) None None (Some false) (Some false) None) value h (rw (value-refl y) refl)
length-again extensible old x p (Some y) None None (Some false) (Some true) (Some false) value one h =
    absurd (let bad : None ≡ Some p = h in cc)
length-again extensible old x p (Some y) None None (Some false) None (Some false) value one h =
    again-of extensible y x p (lengthy (Some y) None None (Some false) None (Some false)) value h (rw (value-refl y) refl)
length-again extensible old x p (Some y) None None (Some false) (Some false) (Some false) value one h =
    again-of extensible y x p (lengthy (Some y) None None (Some false) (Some false) (Some false)) value h (rw (value-refl y) refl)

length-again-of : (extensible : Bool) (old x : Val) (p : Full Val) (d : Desc Val) → d.value ≡ Some x → IsOfOneKind d
    → Validate same_value Undefined extensible (Some (Datum old true false false)) (without_writable d) ≡ Some p
    → Again extensible x p d
length-again-of extensible old x p d value one h =
    length-again extensible old x p d.value d.get d.set d.writable d.enumerable d.configurable value one h

-- what was accepted of an array's length
there-cut : (t : Thing) (d : Desc Val) (n : ℕ) (p : Full Val) (w : Bool) → HasLength t → (array_length t).1 ≡ true
    → IsOfOneKind d → d.value ≡ Some (Whole (pos n)) → validated t length_key (without_writable d) ≡ Some p
    → w ≡ is_writable p && not (denies d.writable) → (b : Bool) → (shrunk n t).whole ≡ b
    → IsThere length_key d (Becomes (cut_to (shrunk n t) w t) b)
there-cut t d n p w has writable one value accepted e false whole = tt
there-cut t d n p w has writable one value accepted e true whole =
    let open_ : has.1 ≡ true = writable-length has.0 has.1 (ap (λ (o : Option (Full Val)). (length_in o).1) (sym has.2) ∙ writable) in
    let at : own_property length_key t ≡ Some (Datum has.0 true false false) =
    has.2 ∙ ap (λ (z : Bool). Some (Datum has.0 z false false)) open_ in
    let accepted_at : Validate same_value Undefined t.extensible (Some (Datum has.0 true false false)) (without_writable d) ≡ Some p =
    ap (λ (o : Option (Full Val)). Validate same_value Undefined t.extensible o (without_writable d)) (sym at) ∙ accepted in
    let again : Again t.extensible (Whole (pos n)) p d = length-again-of t.extensible has.0 (Whole (pos n)) p d value one accepted_at in
    let long : (shrunk n t).length ≡ n =
    whole-length (reverse (indices_from n (indices (property_keys t.properties)))) n t.properties whole in
    let same : Datum (Whole (pos (shrunk n t).length)) w false false ≡ put_length (Whole (pos n)) p d =
    ap (λ (m : ℕ). Datum (Whole (pos m)) w false false) long ∙ ap (λ (z : Bool). Datum (Whole (pos n)) z false false) e in (
      put_length (Whole (pos n)) p d,
      own-same (record t { properties = (shrunk n t).left }) length_key (Datum (Whole (pos (shrunk n t).length)) w false false)
          ∙ ap Some same,
      again,
    )

there-length_as : (t : Thing) (d : Desc Val) (n : ℕ) → HasLength t → (array_length t).1 ≡ true
    → IsOfOneKind d → d.value ≡ Some (Whole (pos n)) → (o : Option (Full Val))
    → validated t length_key (without_writable d) ≡ o → IsThere length_key d (length_as t n (denies d.writable) o)
there-length_as t d n has writable one value None e = tt
there-length_as t d n has writable one value (Some p) e =
    there-cut t d n p (is_writable p && not (denies d.writable)) has writable one value e refl (shrunk n t).whole refl

there-below : (t : Thing) (d : Desc Val) (n : ℕ) → HasLength t → IsOfOneKind d → d.value ≡ Some (Whole (pos n))
    → IsThere length_key d (length_below t d n (array_length t))
there-below t d n has one value = by (nat_le (array_length t).0 n) (array_length t).1 refl refl
  where
    by : (a w : Bool) → nat_le (array_length t).0 n ≡ a → (array_length t).1 ≡ w
        → IsThere length_key d (length_below t d n (array_length t))
    by true w e f = rw e (there-ordinary t length_key d one)
    by false true e f =
        rw (e, f) (there-length_as t d n has f one value (validated t length_key (without_writable d)) refl)
    by false false e f = rw (e, f) tt

there-within : (t : Thing) (d : Desc Val) (n : ℕ) (b : Bool) → HasLength t → IsOfOneKind d → d.value ≡ Some (Whole (pos n))
    → IsThere length_key d (length_within t d (if b then Some n else None))
there-within t d n true has one value = there-below t d n has one value
there-within t d n false has one value = tt

there-given : (t : Thing) (d : Desc Val) (v : Val) → HasLength t → IsOfOneKind d → d.value ≡ Some v
    → IsThere length_key d (length_given t d (whole_of v))
there-given t d (Whole (pos n)) has one value = there-within t d n (nat_le n length_limit) has one value
there-given t d _ has one value = tt

there-length : (t : Thing) (d : Desc Val) → HasLength t → IsOfOneKind d → (o : Option Val) → d.value ≡ o
    → IsThere length_key d (length_defined t d o)
there-length t d has one None value = there-ordinary t length_key d one
there-length t d has one (Some v) value = there-given t d v has one value

there-array : (t : Thing) (k : PropertyKey) (d : Desc Val) → HasLength t → IsOfOneKind d → (o : Option ℕ)
    → index_of_key k ≡ o → IsThere k d (array_defined_at t k d o)
there-array t k d has one None e = by (same_key k length_key) refl
  where
    by : (b : Bool) → same_key k length_key ≡ b → IsThere k d (array_defined_at t k d None)
    by true s =
        let same : length_key ≡ k = sym (key-sound k length_key s) in
        rw s (subst (λ (j : PropertyKey). IsThere j d (length_defined t d d.value)) same (there-length t d has one d.value refl))
    by false s = rw s (there-ordinary t k d one)
there-array t k d has one (Some i) e =
    there-element t k d i (array_length t) one (same_key-sym same_key key-sound k length_key ∙ index-other k i e)

there-by : (kind : Kind) (t : Thing) (k : PropertyKey) (d : Desc Val) → t.kind ≡ kind → IsFormed t → IsOfOneKind d
    → IsThere k d (defined_by_kind kind t k d)
there-by Array t k d e formed one = there-array t k d (formed.array (ap is_array e)) one (index_of_key k) refl
there-by _ t k d e formed one = there-ordinary t k d one

pub is-there : (t : Thing) (k : PropertyKey) (d : Desc Val) → IsFormed t → IsOfOneKind d → IsThere k d (defined t k d)
is-there t k d formed one = there-by t.kind t k d refl formed one
