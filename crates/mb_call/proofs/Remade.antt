-- What a definition makes of an object, as a table of its world (ECMA-262 10.1.6, 10.4.2.1).
use Rattle.std.proofs.Common.{◌+◌, ◌-◌, ◌&&◌, ◌<◌, ◌^◌, ◌≡◌, ◌≤◌, ◌∙◌, ◌∷◌, Bool, List, None, Option, Some, ap, arith}
use Rattle.std.proofs.Common.{false, map, nat_le, not, pos, negsuc, refl, subst, sym, true, true≢false, unwrap_or, ℕ, ℤ}
use Rattle.std.proofs.lemmas.Bool.Decides.{nat_tests}
use Rattle.std.proofs.lemmas.List.Elements.{All-cons, All-head, All-nil, All-tail, All-weaker}
use Rattle.std.proofs.lemmas.Map.Keys.{IsDistinct-tail}
use Rattle.std.specs.List.{IsDistinct}
use Rattle.std.specs.Map.{keys_of}
use Rattle.std.specs.Prelude.{All, if◌then◌else◌, max}
use Rattle.mb_base.specs.declared.value.Key.{Key}
use Rattle.mb_base.specs.declared.value.Key.TheVariants as k
use Rattle.mb_base.specs.declared.value.ObjId.{ObjId}
use Rattle.mb_base.specs.declared.value.Side.{Side}
use Rattle.mb_base.specs.declared.value.Value.{Value}
use Rattle.mb_base.specs.declared.value.Value.TheVariants as v
use Rattle.mb_call.proofs.Cutting.{AreBelow, behind, cut-below, cut-long, gone, shrink-first}
use Rattle.mb_call.proofs.Tabled.{all-in, all-out, are-apart, below-out, index-limit, kept, kept-all, kept-image}
use Rattle.mb_call.proofs.Wholes.{length-shape, map-back, one-kind, other-key, whole-is}
use Rattle.mb_desc.proofs.Fixed.{fixed_is_kept}
use Rattle.mb_desc.specs.Descriptors.{IsOfOneKind, denies, is_writable}
use Rattle.mb_desc.specs.Validate.{Validate}
use Rattle.mb_desc.specs.Values.{equal}
use Rattle.mb_desc.specs.declared.descriptor.Desc.{Desc}
use Rattle.mb_desc.specs.declared.descriptor.Full.{Full}
use Rattle.mb_desc.specs.declared.descriptor.Full.TheVariants.{Datum}
use Rattle.mb_frames.proofs.HeldLess.{key-held, value-datum}
use Rattle.mb_frames.specs.Held.{HeldDesc, HeldFull, HeldKey, HeldObject, HeldValue}
use Rattle.mb_frames.specs.Ready.{IsReady, MayHold}
use Rattle.mb_growth.proofs.Arrays.{index-other}
use Rattle.mb_ordinary.proofs.Cells.{validated-is}
use Rattle.mb_ordinary.specs.Objects.{is_ordinary}
use Rattle.mb_parts.proofs.HeldEach.{desc-each, tells-apart}
use Rattle.mb_parts.proofs.Lengths.{LengthFirst, below-more, length-first, max-above, max-first, max-limit}
use Rattle.mb_parts.proofs.Validated.{accepted-held}
use Rattle.mb_parts.proofs.Viewing.{with_props}
use Rattle.mb_props.specs.Table.{found, insert_entry, same_key}
use Rattle.mb_text.specs.Texts.{AreDistinct}
use Rattle.mb_world.proofs.Grow.{All-at}
use Rattle.mb_world.proofs.SameKeys.{put-insert}
use Rattle.mb_world.proofs.Values.{value-equal}
use Rattle.mb_world.proofs.Worlds.{All-insert}
use Rattle.mb_world.specs.Arrays.{Shrunk, array_defined_at, array_length, cut_to, defined, defined_by_kind, element_as}
use Rattle.mb_world.specs.Arrays.{element_defined, length_as, length_below, length_defined, length_given, length_in}
use Rattle.mb_world.specs.Arrays.{length_key, length_within, shrink, shrunk, with_length, without_writable}
use Rattle.mb_world.specs.Contained.{IsOwn}
use Rattle.mb_world.specs.Data.{Data, cell_at}
use Rattle.mb_world.specs.Formed.{FormedCell, IsArray, IsBelow}
use Rattle.mb_world.specs.Graph.{Property, Thing}
use Rattle.mb_world.specs.Ids.{CellIn, KeyIn, PropertyIn}
use Rattle.mb_world.specs.Image.{Resolve, desc_in, full_in, key_in, kind_in, names_of, object_of, property_in}
use Rattle.mb_world.specs.Key as graph
use Rattle.mb_world.specs.Key.{PropertyKey, index_of_key}
use Rattle.mb_world.specs.Objects.{find_property, own_property, put_property, with_property}
use Rattle.mb_world.specs.Ordinary.{Becomes, Refused, defined_as, ordinary_defined, validated}
use Rattle.mb_world.specs.Value.{Undefined, Val, Whole, same_value, whole_of}
use Rattle.mb_world.specs.declared.cell.Cell.{Cell}
use Rattle.mb_world.specs.declared.cell.CellKind.{CellKind}
use Rattle.mb_world.specs.declared.cell.CellKind.TheVariants as kind

module _ (d : Data) (r : IsReady d) (home : Side) (id : ObjId) (h : MayHold d home (HeldObject id)) (c : Cell)
    (there : cell_at d id ≡ Some c) (u : AreDistinct d.texts) (distinct : IsDistinct same_key (keys_of c.props))
    (key : Key) (i : KeyIn d key) (given : Desc Value) (g : MayHold d home (HeldDesc given))
    (was : All (λ p. MayHold d home (HeldKey p.0) × MayHold d home (HeldFull p.1)) c.props) where
  abbrev H : Key × Full Value → Type 0
  H p = MayHold d home (HeldKey p.0) × MayHold d home (HeldFull p.1)

  abbrev t : Thing
  t = object_of (names_of d) c

  abbrev name : PropertyKey
  name = key_in (names_of d) key

  abbrev asked : Desc Val
  asked = desc_in (Resolve (names_of d)) given

  abbrev image : List (Key × Full Value) → List Property
  image ps = map (property_in (names_of d)) ps

  -- a table of the world for the object afterwards
  pub record Remade (after : Thing) : Type 0 where
    pub table : List (Key × Full Value)
    pub same : map (property_in (names_of d)) table ≡ after.properties
    pub held : All (λ p. MayHold d home (HeldKey p.0) × MayHold d home (HeldFull p.1)) table
    pub array : IsArray d c.kind (with_props table c)

  was-in : All (PropertyIn d) c.props
  was-in = (All-at (CellIn d) d.cells id.0 c there r.ids.cells_in).props_in

  -- the property that was accepted
  accepted-full : (desc : Desc Value) → MayHold d home (HeldDesc desc) → (p : Full Val)
      → validated t name (desc_in (Resolve (names_of d)) desc) ≡ Some p
      → (full : Full Value) × (full_in (names_of d) full ≡ p) × MayHold d home (HeldFull full)
  accepted-full desc e p q =
      let a = tells-apart d r home id key desc h (desc-each d home desc e) in
      let x = map-back (full_in (names_of d)) (Validate equal v.Undefined c.extensible (found c.props key) desc) p
      (sym (validated-is d id c there u (All-at (CellIn d) d.cells id.0 c there r.ids.cells_in) key i desc
      (record { value_in = e.within.value_in; get_in = e.within.get_in; set_in = e.within.set_in }) a) ∙ q) in
      (x.0, x.2, accepted-held d home r id c key desc x.0 there h e (rw there x.1))

  -- ---- a property that is put

  put-same : (full : Full Value) (p : Full Val) → full_in (names_of d) full ≡ p
      → image (insert_entry c.props key full) ≡ put_property name p (image c.props)
  put-same full p e =
      put-insert d u c.props key full was-in i ∙ ap (λ (f : Full Val). put_property name f (image c.props)) e

  put-held : (ps : List (Key × Full Value)) → All H ps → (full : Full Value) → MayHold d home (HeldFull full)
      → All H (insert_entry ps key full)
  put-held ps a full e = All-insert H ps key full (key-held d home key i, e) (λ q s. (s.0, e)) a

  put-remade : (p : Full Val) → validated t name asked ≡ Some p
      → ((full : Full Value) → full_in (names_of d) full ≡ p
      → IsArray d c.kind (with_props (insert_entry c.props key full) c)) → Remade (with_property name p t)
  put-remade p q array =
      let x = accepted-full given g p q in
      record {
        table = insert_entry c.props key x.0;
        same = put-same x.0 p x.1;
        held = put-held c.props was x.0 x.2;
        array = array x.0 x.1;
      }

  ordinary-remade : (o : Option (Full Val)) (after : Thing) (b : Bool) → validated t name asked ≡ o
      → defined_as t name o ≡ Becomes after b
      → ((p : Full Val) → o ≡ Some p → (full : Full Value) → full_in (names_of d) full ≡ p
      → IsArray d c.kind (with_props (insert_entry c.props key full) c)) → Remade after
  ordinary-remade None after b e q array = cc
  ordinary-remade (Some p) after b e q array =
      let z : with_property name p t ≡ after = cc in
      subst Remade z (put-remade p e (array p refl))

  -- ---- an array

  module _ (is : c.kind ≡ kind.Array) where
    was-array : IsArray d kind.Array c
    was-array = subst (λ (y : CellKind). IsArray d y c) is
        (All-at (FormedCell d) d.cells id.0 c there r.formed.cells).array

    first : LengthFirst d c.props
    first = length-first d c.props was-array.1

    abbrev lkey : Key
    lkey = k.Text first.text first.place

    abbrev len : ℕ
    len = first.length

    abbrev writable : Bool
    writable = first.writable

    abbrev rest : List (Key × Full Value)
    rest = first.rest

    abbrev head : Full Value
    head = Datum (v.Whole (pos len)) writable false false

    abbrev its : ℕ → Bool → Property
    its m w = record { key = length_key; full = Datum (Whole (pos m)) w false false }

    rest-in : All (PropertyIn d) rest
    rest-in = All-tail (PropertyIn d) (lkey, head) rest (rw first.shape at was-in)

    lkey-in : KeyIn d lkey
    lkey-in = (All-head (PropertyIn d) (lkey, head) rest (rw first.shape at was-in)).0

    rest-held : All H rest
    rest-held = All-tail H (lkey, head) rest (subst (All H) first.shape was)

    lkey-name : key_in (names_of d) lkey ≡ length_key
    lkey-name = ap (λ us. graph.Named us) first.units

    properties-are : image c.props ≡ its len writable ∷ image rest
    properties-are =
        ap image first.shape
        ∙ ap (λ (y : PropertyKey). let q : Property =
        record { key = y; full = Datum (Whole (pos len)) writable false false } in q ∷ image rest) lkey-name

    own-length : own_property length_key t ≡ Some (Datum (Whole (pos len)) writable false false)
    own-length = ap (find_property length_key) properties-are

    pub thing-length : (x : Val) × (w : Bool) × (own_property length_key t ≡ Some (Datum x w false false))
    thing-length = (Whole (pos len), writable, own-length)

    length-is : array_length t ≡ (len, writable)
    length-is = ap length_in own-length

    -- a table with a length in front
    abbrev with_head : ℕ → Bool → List (Key × Full Value) → List (Key × Full Value)
    with_head m w ps = (lkey, Datum (v.Whole (pos m)) w false false) ∷ ps

    head-remade : (m : ℕ) (w : Bool) (ps : List (Key × Full Value)) (after : Thing) → m < 2 ^ 32 → All H ps
        → All (λ p. IsBelow m p.0) ps → its m w ∷ image ps ≡ after.properties → Remade after
    head-remade m w ps after l a b e = record {
      table = with_head m w ps;
      same = ap (λ (y : PropertyKey). let q : Property =
          record { key = y; full = Datum (Whole (pos m)) w false false } in q ∷ image ps) lkey-name ∙ e;
      held = All-cons H (lkey, Datum (v.Whole (pos m)) w false false) ps
          (key-held d home lkey lkey-in, value-datum d home (v.Whole (pos m)) w false false (whole-held m l)) a;
      array = subst (λ (y : CellKind). IsArray d y (with_props (with_head m w ps) c)) (sym is)
          (was-array.0, (first.units, l, b));
    }
      where
        whole-held : (m : ℕ) → m < 2 ^ 32 → MayHold d home (HeldValue (v.Whole (pos m)))
        whole-held m l = record { within = tt; sound = grind (arith, nat_tests); own = λ u. All-nil (IsOwn d home) }

    -- a key that isn't `length` is put behind it
    put-behind : (m : ℕ) (w : Bool) (p : Full Val) (full : Full Value) → graph.same_key length_key name ≡ false
        → full_in (names_of d) full ≡ p
        → its m w ∷ image (insert_entry rest key full) ≡ put_property name p (its m w ∷ image rest)
    put-behind m w p full o e =
        ap (λ qs. its m w ∷ qs)
        (put-insert d u rest key full rest-in i ∙ ap (λ (f : Full Val). put_property name f (image rest)) e)
        ∙ sym (rw o refl)

    put-length : (m n : ℕ) (w v : Bool) (ps : List Property)
        → put_property length_key (Datum (Whole (pos m)) w false false) (its n v ∷ ps) ≡ its m w ∷ ps
    put-length m n w v ps = refl

    -- ---- an element

    element-remade : (j : ℕ) (after : Thing) (b : Bool) → index_of_key name ≡ Some j
        → element_defined t name asked j (len, writable) ≡ Becomes after b → Remade after
    element-remade j after b e q =
        by (nat_le len j && not writable) (validated t name asked) refl refl
        (sym (ap (λ x. if x then Refused else element_as t name j (len, writable) (validated t name asked)) refl) ∙ q)
      where
        by : (a : Bool) (o : Option (Full Val)) → (nat_le len j && not writable) ≡ a → validated t name asked ≡ o
            → (if nat_le len j && not writable then Refused
            else element_as t name j (len, writable) (validated t name asked)) ≡ Becomes after b → Remade after
        by true o f s z = (let y : Refused ≡ Becomes after b = sym (rw f refl) ∙ z in cc)
        by false None f s z = (let y : Refused ≡ Becomes after b = sym (rw (f, s) refl) ∙ z in cc)
        by false (Some p) f s z =
            (let m : ℕ = max len (j + 1) in
            let y : Becomes (with_length m writable (with_property name p t)) true ≡ Becomes after b =
            sym (rw (f, s) refl) ∙ z in
            let w : with_length m writable (with_property name p t) ≡ after = cc in
            let x = accepted-full given g p s in
            let l : j < 2 ^ 32 - 1 = index-limit name j e in
            head-remade m writable (insert_entry rest key x.0) after
            (max-limit len j (2 ^ 32) first.limit (omega (arith, l)))
            (put-held rest rest-held x.0 x.2)
            (All-insert (λ y. IsBelow m y.0) rest key x.0
            (below-out d m key i (λ a c. (let k : j ≡ a = cc in let n : j < m = max-above len j in
            omega (arith, n, k))))
            (λ y a. a) (All-weaker (λ y. IsBelow len y.0) (λ y. IsBelow m y.0)
            (λ y a. below-more len m (max-first len j) y.0 a) rest first.below))
            (sym (put-length m len writable writable (image (insert_entry rest key x.0)))
            ∙ ap (put_property length_key (Datum (Whole (pos m)) writable false false))
            (put-behind len writable p x.0 (index-other name j e) x.1
            ∙ ap (put_property name p) (sym properties-are))
            ∙ ap (λ (y : Thing). y.properties) w))

    -- ---- another key

    other-remade : (after : Thing) (b : Bool) → index_of_key name ≡ None → graph.same_key length_key name ≡ false
        → ordinary_defined t name asked ≡ Becomes after b → Remade after
    other-remade after b e o q = by (validated t name asked) refl q
      where
        by : (x : Option (Full Val)) → validated t name asked ≡ x → defined_as t name x ≡ Becomes after b → Remade after
        by None s z = cc
        by (Some p) s z =
            (let w : with_property name p t ≡ after = cc in
            let x = accepted-full given g p s in
            head-remade len writable (insert_entry rest key x.0) after first.limit (put-held rest rest-held x.0 x.2)
            (All-insert (λ y. IsBelow len y.0) rest key x.0 (below-out d len key i (λ a c. cc)) (λ y a. a) first.below)
            (put-behind len writable p x.0 o x.1 ∙ ap (put_property name p) (sym properties-are)
            ∙ ap (λ (y : Thing). y.properties) w))

    -- ---- `length`

    abbrev old : Full Val
    old = Datum (Whole (pos len)) writable false false

    length-put : (p : Full Val) (m : ℕ) (w : Bool) (after : Thing) → p ≡ Datum (Whole (pos m)) w false false → len ≤ m
        → m < 2 ^ 32 → with_property length_key p t ≡ after → Remade after
    length-put p m w after e l n z =
        head-remade m w rest after n rest-held
        (All-weaker (λ y. IsBelow len y.0) (λ y. IsBelow m y.0) (λ y a. below-more len m l y.0 a) rest first.below)
        (sym (put-length m len w writable (image rest))
        ∙ ap (put_property length_key (Datum (Whole (pos m)) w false false)) (sym properties-are)
        ∙ ap (λ (f : Full Val). put_property length_key f (image c.props)) (sym e)
        ∙ ap (λ (y : Thing). y.properties) z)

    length-by : (desc : Desc Val) (m : ℕ) (after : Thing) (b : Bool) → IsOfOneKind desc
        → unwrap_or desc.value (Whole (pos len)) ≡ Whole (pos m) → len ≤ m → m < 2 ^ 32
        → ordinary_defined t length_key desc ≡ Becomes after b → Remade after
    length-by desc m after b one e l n q = by (validated t length_key desc) refl q
      where
        by : (o : Option (Full Val)) → validated t length_key desc ≡ o → defined_as t length_key o ≡ Becomes after b
            → Remade after
        by None s z = cc
        by (Some p) s z =
            (let w : with_property length_key p t ≡ after = cc in
            let v : Validate same_value Undefined c.extensible (Some old) desc ≡ Some p
            = ap (λ o. Validate same_value Undefined c.extensible o desc) (sym own-length) ∙ s in
            let k = fixed_is_kept same_value Undefined value-equal c.extensible old desc p one refl v in
            let x = length-shape c.extensible len writable desc p one k v in
            length-put p m x.0 after (x.1 ∙ ap (λ (y : Val). Datum y x.0 false false) e) l n w)

    -- a shorter one
    cut-remade : (n : ℕ) (w : Bool) (after : Thing) → n ≤ len → cut_to (shrunk n t) w t ≡ after → Remade after
    cut-remade n w after l z =
        let qs : List Property = image rest in
        let s = shrink (gone n qs) n qs in
        let ps : List (Key × Full Value) = kept (names_of d) (gone n qs) n rest in
        let whole : shrunk n t ≡ behind (its len writable) s
        = ap (λ (xs : List Property). shrink (gone n xs) n xs) properties-are
        ∙ shrink-first n (its len writable) qs refl in
        let below : AreBelow len qs = all-in d len rest rest-in first.below in
        let most : s.length ≤ len = cut-long n qs len below l in
        let inside : All (PropertyIn d) ps = kept-all (names_of d) (PropertyIn d) (gone n qs) n rest rest-in in
        let left : image ps ≡ s.left = kept-image (names_of d) (gone n qs) n rest in
        let apart = are-apart d u rest rest-in
        (IsDistinct-tail same_key lkey (keys_of rest)
        (subst (λ (xs : List (Key × Full Value)). IsDistinct same_key (keys_of xs)) first.shape distinct)) in
        head-remade s.length w ps after (omega (arith, most, first.limit))
        (kept-all (names_of d) H (gone n qs) n rest rest-held)
        (all-out d s.length ps inside (subst (AreBelow s.length) (sym left) (cut-below n qs apart)))
        (ap (λ xs. its s.length w ∷ xs) left
        ∙ sym (put-length s.length len w writable s.left)
        ∙ ap (λ (x : Shrunk). put_property length_key (Datum (Whole (pos x.length)) w false false) x.left) (sym whole)
        ∙ ap (λ (y : Thing). y.properties) z)

    as-remade : (n : ℕ) (late : Bool) (o : Option (Full Val)) (after : Thing) (b : Bool) → n ≤ len
        → length_as t n late o ≡ Becomes after b → Remade after
    as-remade n late None after b l q = cc
    as-remade n late (Some p) after b l q =
        let z : cut_to (shrunk n t) (is_writable p && not late) t ≡ after = cc in
        cut-remade n (is_writable p && not late) after l z

    below-remade : (desc : Desc Val) (n : ℕ) (after : Thing) (b : Bool) → IsOfOneKind desc
        → unwrap_or desc.value (Whole (pos len)) ≡ Whole (pos n) → n < 2 ^ 32
        → length_below t desc n (len, writable) ≡ Becomes after b → Remade after
    below-remade desc n after b one e l q = by (nat_le len n) writable refl refl q
      where
        by : (a w : Bool) → nat_le len n ≡ a → writable ≡ w
            → (if nat_le len n then ordinary_defined t length_key desc
            else if writable then length_as t n (denies desc.writable) (validated t length_key (without_writable desc))
            else Refused) ≡ Becomes after b → Remade after
        by true w f s z =
            (let m : len ≤ n = grind (arith, nat_tests) in length-by desc n after b one e m l (sym (rw f refl) ∙ z))
        by false true f s z =
            (let m : n ≤ len = grind (arith, nat_tests) in
            as-remade n (denies desc.writable) (validated t length_key (without_writable desc)) after b m
            (sym (rw (f, s) refl) ∙ z))
        by false false f s z = (let y : Refused ≡ Becomes after b = sym (rw (f, s) refl) ∙ z in cc)

    within-remade : (desc : Desc Val) (x : Val) (after : Thing) (b : Bool) → IsOfOneKind desc → desc.value ≡ Some x
        → (o : Option ℤ) → whole_of x ≡ o → length_given t desc o ≡ Becomes after b → Remade after
    within-remade desc x after b one e None s q = cc
    within-remade desc x after b one e (Some (pos n)) s q =
        by (nat_le n 4294967295) refl q
      where
        by : (c : Bool) → nat_le n 4294967295 ≡ c → length_within t desc (if c then Some n else None) ≡ Becomes after b
            → Remade after
        by true f z =
            (let l : n < 2 ^ 32 = grind (arith, nat_tests) in
            below-remade desc n after b one (ap (λ (o : Option Val). unwrap_or o (Whole (pos len))) e
            ∙ whole-is x (pos n) s) l
            (sym (ap (length_below t desc n) length-is) ∙ z))
        by false f z = cc
    within-remade desc x after b one e (Some (negsuc n)) s q = cc

    length-remade : (desc : Desc Val) (o : Option Val) (after : Thing) (b : Bool) → IsOfOneKind desc → desc.value ≡ o
        → length_defined t desc o ≡ Becomes after b → Remade after
    length-remade desc None after b one e q =
        length-by desc len after b one (ap (λ (o : Option Val). unwrap_or o (Whole (pos len))) e)
        (omega arith) first.limit q
    length-remade desc (Some x) after b one e q = within-remade desc x after b one e (whole_of x) refl q

    -- ---- any key

    array-remade : (after : Thing) (b : Bool) → IsOfOneKind asked → (o : Option ℕ) → index_of_key name ≡ o
        → array_defined_at t name asked o ≡ Becomes after b → Remade after
    array-remade after b one (Some j) e q =
        element-remade j after b e (sym (ap (element_defined t name asked j) length-is) ∙ q)
    array-remade after b one None e q = by (graph.same_key name length_key) refl q
      where
        by : (a : Bool) → graph.same_key name length_key ≡ a
            → (if a then length_defined t asked asked.value else ordinary_defined t name asked) ≡ Becomes after b
            → Remade after
        by true s z = length-remade asked asked.value after b one refl z
        by false s z = other-remade after b e (other-key name length_key s) z

  -- what the definition makes
  pub remade : is_ordinary c.kind ≡ true → (after : Thing) (b : Bool) → defined t name asked ≡ Becomes after b
      → Remade after
  remade o after b q = by c.kind refl o q
    where
      by : (y : CellKind) → c.kind ≡ y → is_ordinary y ≡ true
          → defined_by_kind (kind_in (names_of d) c.slots y) t name asked ≡ Becomes after b → Remade after
      by kind.Array e o z = array-remade e after b (one-kind (names_of d) given g.sound.0) (index_of_key name) refl z
      by (kind.Proxy target handler shape) e o z = absurd (true≢false (sym o))
      by y e o z =
          ordinary-remade (validated t name asked) after b refl z
          (λ p f full s. subst (λ (x : CellKind). IsArray d x (with_props (insert_entry c.props key full) c))
          (sym e) tt)
