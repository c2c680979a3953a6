-- What the calls within do, from what they read and write.
use Rattle.std.proofs.Common.{◌≡◌, ℕ, pos, ◌+◌, ◌-◌, ◌^◌, ◌≢◌, ◌<◌, ◌≤◌, max, reverse, List, [], ◌∷◌, Bool, true, false, not, ◌&&◌, ◌||◌, is_some, nat_le, nat_eq, Option, Some, None, option_map, if◌then◌else◌, refl, sym, ap, ◌∙◌, arith, true≢false, subst, slice_get}
use Rattle.std.specs.Prelude.{All, Ok, Err}
use Rattle.std.proofs.lemmas.Bool.{le-leb, lt-leb}
use Rattle.std.proofs.lemmas.List.Elements.{All-cons, All-weaker}
use Rattle.std.proofs.lemmas.List.Sorted.{All-permutation, IsPermutation-reverse}
use Rattle.mb_base.specs.declared.value.Key.{Key}
use Rattle.mb_base.specs.declared.value.ObjId.{ObjId}
use Rattle.mb_base.specs.declared.value.Value.{Value}
use Rattle.mb_base.specs.declared.value.Value.TheVariants as v
use Rattle.mb_desc.specs.declared.descriptor.Desc.{Desc}
use Rattle.mb_desc.specs.declared.descriptor.Full.{Full}
use Rattle.mb_desc.specs.declared.descriptor.Full.TheVariants.{Datum, Accessor}
use Rattle.mb_desc.specs.Descriptors.{denies, is_writable, is_accessor_descriptor}
use Rattle.mb_desc.specs.Validate.{Validate}
use Rattle.mb_desc.specs.Values.{equal}
use Rattle.mb_props.specs.Table.{same_key, found, insert_entry}
use Rattle.mb_props.specs.KeyOrder.{index_of}
use Rattle.mb_world.specs.declared.cell.Cell.{Cell}
use Rattle.mb_world.specs.declared.cell.ErrorKind.{ErrorKind}
use Rattle.mb_world.specs.declared.cell.ErrorKind.TheVariants.{TypeError, RangeError}
use Rattle.mb_world.specs.Value.{Val, Whole, whole_of}
use Rattle.mb_world.specs.Key.{PropertyKey, same_key as graph_same_key}
use Rattle.mb_world.specs.Graph.{Thing}
use Rattle.mb_world.specs.Objects.{find_property, with_property}
use Rattle.mb_world.specs.Ordinary.{Defined as Outcome, Refused, Becomes, Faulty, validated, defined_as, ordinary_defined}
use Rattle.mb_world.specs.Arrays.{array_length, length_in, length_key, with_length, array_defined, array_defined_at, name_defined, element_defined, element_as, length_as, as_length, length_below, length_within, length_given, length_defined, without_writable, cut_to}
use Rattle.mb_world.specs.Data.{Data, Stand, Counted, AtPlace, Before, Hidden, cell_at, property_in, property_at, change_cell, put_in, length_id}
use Rattle.mb_world.specs.Ids.{KeyIn, PropertyIn, FullIn}
use Rattle.mb_world.specs.Image.{Names, names_of, stood, Resolve, key_in, full_in, desc_in}
use Rattle.mb_world.proofs.Worlds.{All-insert}
use Rattle.mb_ordinary.specs.Objects.{object_of}
use Rattle.mb_ordinary.specs.Definitions.{DescIn, accepted, accepted_by}
use Rattle.mb_world.proofs.SameKeys.{find-found, put-insert, own-equal, own-same, same-key}
use Rattle.mb_ordinary.proofs.Cells.{validated-is}
use Rattle.mb_array.specs.declared.Defined.{Defined}
use Rattle.mb_array.specs.declared.Defined.TheVariants.{Answer, Range, Kind}
use Rattle.mb_array.specs.Define.{on_object, told, left, changes, table_in, with_table, known_values, IsKnown, HoldsKnown}
use Rattle.mb_array.specs.machine.Cutting.{index_in, is_from, AreIndicesFrom, Cut, cut_of, put_off}
use Rattle.mb_array.specs.machine.Done.{CanDefine, HasCell, LengthIs, Done, asked_length, length_or_range}
use Rattle.mb_array.proofs.Changes.{cell-changed, change-none, table-there, only-table, change-again}
use Rattle.mb_ordinary.proofs.Spelled.{key-index}
use Rattle.mb_array.proofs.Shrinking.{shrunk_of, cut-is, no-name, found-cut, cut-whole, All-cut}
use Rattle.mb_array.proofs.Known.{table-known, stored-known}

left-same : (x : Outcome) (t : Thing) → changes x ≡ false → left x t ≡ t
left-same Refused t h = refl
left-same (Becomes u a) t h = absurd (true≢false h)
left-same (Faulty k) t h = refl

swap-same : (a b : Key) → same_key a b ≡ same_key b a
swap-same a b = by (same_key a b) refl (same_key b a) refl
  where
    by : (x : Bool) → same_key a b ≡ x → (y : Bool) → same_key b a ≡ y → same_key a b ≡ same_key b a
    by true e true f = e ∙ sym f
    by false e false f = e ∙ sym f
    by true e false f = let is : a ≡ b = own-equal a b e in absurd (true≢false (sym (own-same b) ∙ ap (same_key b) (sym is) ∙ f))
    by false e true f = let is : b ≡ a = own-equal b a f in absurd (true≢false (sym (own-same a) ∙ ap (same_key a) (sym is) ∙ e))

-- a key that is there stays there
found-insert : (ps : List (Key × Full Value)) (key q : Key) (p f : Full Value) → found ps q ≡ Some f → found (insert_entry ps key p) q ≢ None
found-insert [] key q p f e none = cc
found-insert (x ∷ ps) key q p f e none = by (same_key key x.0) (same_key q x.0) refl refl (found-insert ps key q p f)
  where
    by : (a b : Bool) → same_key key x.0 ≡ a → same_key q x.0 ≡ b → (found ps q ≡ Some f → found (insert_entry ps key p) q ≢ None) → ⊥
    by true true s t r = let z : Some p ≡ None = rw (s, t) at none in cc
    by true false s t r =
        let z : found ps q ≡ None = rw (s, t) at none in
        let y : found ps q ≡ Some f = rw t at e in
        let bad : None ≡ Some f = sym z ∙ y in cc
    by false true s t r = let z : Some x.1 ≡ None = rw (s, t) at none in cc
    by false false s t r =
        let z : found (insert_entry ps key p) q ≡ None = rw (s, t) at none in
        let y : found ps q ≡ Some f = rw t at e in
        r y z

pub off-desc : (d : Data) (desc : Desc Value) → DescIn d desc → DescIn d (put_off desc)
off-desc d desc h = by (denies desc.writable)
  where
    by : (b : Bool) → DescIn d (if b then (let x : Desc Value = record desc { writable = None } in x) else desc)
    by true = record { value_in = h.value_in; get_in = h.get_in; set_in = h.set_in }
    by false = h

no-whole : (n : Names) (a : ObjId) → whole_of (Resolve n (v.Object a)) ≡ None
no-whole n a = by (slice_get n.stands a.0)
  where
    by : (s : Option Stand) → whole_of (stood n a.0 s) ≡ None
    by None = refl
    by (Some Counted) = refl
    by (Some (AtPlace place)) = refl
    by (Some (Before behind)) = refl
    by (Some Hidden) = refl

asked-ok : (n : Names) (y : Value) (m : ℕ) → asked_length y ≡ Ok m → (t : Thing) (x : Desc Val) → length_given t x (whole_of (Resolve n y)) ≡ length_below t x m (array_length t)
asked-ok n (v.Whole z) m e t x = by (as_length z) e
  where
    by : (r : Option ℕ) → length_or_range r ≡ Ok m → length_within t x r ≡ length_below t x m (array_length t)
    by (Some k) e = let f : k ≡ m = cc in ap (λ j. length_below t x j (array_length t)) f
    by None e = cc
asked-ok n _ m e t x = cc

asked-err : (n : Names) (y : Value) (answer : Defined) → asked_length y ≡ Err answer → (t : Thing) (x : Desc Val) → (kind : ErrorKind) × (length_given t x (whole_of (Resolve n y)) ≡ Faulty kind) × (answer ≡ told (Faulty kind))
asked-err n (v.Whole z) answer e t x = by (as_length z) e
  where
    by : (r : Option ℕ) → length_or_range r ≡ Err answer → (kind : ErrorKind) × (length_within t x r ≡ Faulty kind) × (answer ≡ told (Faulty kind))
    by (Some k) e = cc
    by None e = let f : answer ≡ Range = cc in (RangeError, refl, f)
asked-err n (v.Object a) answer e t x = let f : answer ≡ Kind = cc in (TypeError, ap (length_given t x) (no-whole n a), f)
asked-err n v.Undefined answer e t x = let f : answer ≡ Kind = cc in (TypeError, refl, f)
asked-err n v.Null answer e t x = let f : answer ≡ Kind = cc in (TypeError, refl, f)
asked-err n (v.Bool b) answer e t x = let f : answer ≡ Kind = cc in (TypeError, refl, f)
asked-err n (v.Text b) answer e t x = let f : answer ≡ Kind = cc in (TypeError, refl, f)
asked-err n (v.Symbol b) answer e t x = let f : answer ≡ Kind = cc in (TypeError, refl, f)

off-kind : (a b c : Bool) → (a || b) && c ≡ false → (a || false) && c ≡ false
off-kind true b c h = h
off-kind false b c h = refl

module _ (d : Data) (o : ObjId) (h : HasCell d o) where
  abbrev pub the_object : Thing
  the_object = object_of (names_of d) h.cell

  pub on-cell : (f : Thing → PropertyKey → Desc Val → Outcome) (key : Key) (desc : Desc Value) → on_object f (names_of d) key desc (cell_at d o) ≡ f the_object (key_in (names_of d) key) (desc_in (Resolve (names_of d)) desc)
  on-cell f key desc = ap (on_object f (names_of d) key desc) h.there

  -- nothing is changed
  pub nothing : (desc : Desc Value) (x : Outcome) → changes x ≡ false → Done d o desc x d
  nothing desc x e = record {
    cell = ap (option_map (object_of (names_of d))) h.there ∙ sym (ap (λ z. option_map (left x) (option_map (object_of (names_of d)) z)) h.there ∙ ap Some (left-same x the_object e));
    rest = sym (change-none d o h.cell h.there (with_table (table_in (cell_at d o))) (ap (λ t. with_table t h.cell) (table-there d o h.cell h.there)));
    unchanged = λ _. refl;
    objects = subst (λ ps. All (HoldsKnown (known_values ps desc)) ps) (sym (table-there d o h.cell h.there)) (table-known h.cell.props desc);
  }

  pub refused : (desc : Desc Value) (x : Outcome) → x ≡ Refused → (Answer false ≡ told x) × Done d o desc x d
  refused desc x e = (ap told (sym e), nothing desc x (ap changes e))

  -- the cell has another table
  pub changed : (desc : Desc Value) (x : Outcome) (t : Thing) (a : Bool) (f : Cell → Cell) (d' : Data) → x ≡ Becomes t a → d' ≡ change_cell d o f → f h.cell ≡ with_table (f h.cell).props h.cell → object_of (names_of d) (f h.cell) ≡ t → All (HoldsKnown (known_values h.cell.props desc)) (f h.cell).props → (Answer a ≡ told x) × Done d o desc x d'
  changed desc x t a f d' e new only is known =
      let after : cell_at d' o ≡ Some (f h.cell) = ap (λ z. cell_at z o) new ∙ cell-changed d o h.cell h.there f in (
        ap told (sym e),
        record {
          cell = ap (option_map (object_of (names_of d))) after ∙ ap Some is
              ∙ sym (ap (λ z. option_map (left x) (option_map (object_of (names_of d)) z)) h.there ∙ ap (λ y. Some (left y the_object)) e);
          rest = new ∙ only-table d o h.cell h.there f only ∙ ap (λ z. change_cell d o (with_table (table_in (cell_at z o)))) (sym new);
          unchanged = λ c. absurd (true≢false (sym (ap changes e) ∙ c));
          objects = subst (λ ps. All (HoldsKnown (known_values ps desc)) (table_in (cell_at d' o))) (sym (table-there d o h.cell h.there))
              (subst (All (HoldsKnown (known_values h.cell.props desc))) (sym (ap table_in after)) known);
        },
      )

  -- ---- a property is stored

  pub accepted-is : (key : Key) (desc : Desc Value) → accepted d o key desc ≡ Validate equal v.Undefined h.cell.extensible (found h.cell.props key) desc
  accepted-is key desc = ap (accepted_by key desc) h.there

  module _ (key : Key) (desc : Desc Value) (can : CanDefine d o key desc) where
    pub made-is : validated the_object (key_in (names_of d) key) (desc_in (Resolve (names_of d)) desc) ≡ option_map (full_in (names_of d)) (accepted d o key desc)
    made-is = validated-is d o h.cell h.there h.distinct h.within key can.key_there desc can.desc_there can.apart ∙ ap (option_map (full_in (names_of d))) (sym (accepted-is key desc))

    pub made : (p : Option (Full Value)) → accepted d o key desc ≡ p → validated the_object (key_in (names_of d) key) (desc_in (Resolve (names_of d)) desc) ≡ option_map (full_in (names_of d)) p
    made p e = made-is ∙ ap (option_map (full_in (names_of d))) e

  pub put-is : (ps : List (Key × Full Value)) (key : Key) (p : Full Value) → All (PropertyIn d) ps → KeyIn d key → object_of (names_of d) (with_table (insert_entry ps key p) h.cell) ≡ with_property (key_in (names_of d) key) (full_in (names_of d) p) (object_of (names_of d) (with_table ps h.cell))
  put-is ps key p g k = ap (λ qs. let t : Thing = record the_object { properties = qs } in t) (put-insert d h.distinct ps key p g k)

  pub put-known : (known : List Value) (ps : List (Key × Full Value)) (key : Key) (p : Full Value) → All (HoldsKnown known) ps → HoldsKnown known (key, p) → All (HoldsKnown known) (insert_entry ps key p)
  put-known known ps key p g k = All-insert (HoldsKnown known) ps key p k (λ e r. k) g

  -- a definition as on any object
  pub stored : (key : Key) (desc : Desc Value) (can : CanDefine d o key desc) (p : Full Value) (d' : Data) → accepted d o key desc ≡ Some p → d' ≡ change_cell d o (put_in key p) → (Answer true ≡ told (on_object ordinary_defined (names_of d) key desc (cell_at d o))) × Done d o desc (on_object ordinary_defined (names_of d) key desc (cell_at d o)) d'
  stored key desc can p d' e new =
      changed desc _ (with_property (key_in (names_of d) key) (full_in (names_of d) p) the_object) true (put_in key p) d'
      (on-cell ordinary_defined key desc ∙ ap (defined_as the_object (key_in (names_of d) key)) (made key desc can (Some p) e))
      new refl (put-is h.cell.props key p h.within.props_in can.key_there)
      (put-known _ h.cell.props key p (table-known h.cell.props desc) (stored-known h.cell.props desc h.cell.extensible key p (sym (accepted-is key desc) ∙ e)))

  pub not-stored : (key : Key) (desc : Desc Value) (can : CanDefine d o key desc) → accepted d o key desc ≡ None → (Answer false ≡ told (on_object ordinary_defined (names_of d) key desc (cell_at d o))) × Done d o desc (on_object ordinary_defined (names_of d) key desc (cell_at d o)) d
  not-stored key desc can e =
      refused desc _ (on-cell ordinary_defined key desc ∙ ap (defined_as the_object (key_in (names_of d) key)) (made key desc can None e))

  -- ---- an array's `length`

  module _ (lk : Key) (n : ℕ) (w : Bool) (len : LengthIs d o lk n w) where
    length-there : found h.cell.props lk ≡ Some (Datum (v.Whole (pos n)) w false false)
    length-there = sym (ap (property_in lk) h.there) ∙ len.there

    pub array-length : array_length the_object ≡ (n, w)
    array-length =
        ap (λ k. length_in (find_property k the_object.properties)) (sym len.named)
        ∙ ap length_in (find-found d h.distinct h.cell.props lk h.within.props_in len.key_there ∙ ap (option_map (full_in (names_of d))) length-there)

    pub length-kept : (key : Key) (p : Full Value) (d1 : Data) → d1 ≡ change_cell d o (put_in key p) → property_at d1 o lk ≢ None
    length-kept key p d1 first none =
        found-insert h.cell.props key lk p (Datum (v.Whole (pos n)) w false false) length-there
        (sym (ap (λ z. property_at z o lk) first ∙ ap (property_in lk) (cell-changed d o h.cell h.there (put_in key p))) ∙ none)

    -- with another `length`
    pub length-put : (ps : List (Key × Full Value)) (m : ℕ) (b : Bool) → All (PropertyIn d) ps → object_of (names_of d) (with_table (insert_entry ps lk (Datum (v.Whole (pos m)) b false false)) h.cell) ≡ with_length m b (object_of (names_of d) (with_table ps h.cell))
    length-put ps m b g =
        put-is ps lk (Datum (v.Whole (pos m)) b false false) g len.key_there
        ∙ ap (λ k. with_property k (Datum (Whole (pos m)) b false false) (object_of (names_of d) (with_table ps h.cell))) len.named

    number-known : (known : List Value) (m : ℕ) (b : Bool) → HoldsKnown known (lk, Datum (v.Whole (pos m)) b false false)
    number-known known m b = All-cons (IsKnown known) (v.Whole (pos m)) [] tt (λ k x l. absurd (omega arith))

    -- ---- an element

    module _ (key : Key) (desc : Desc Value) (can : CanDefine d o key desc) (i : ℕ) where
      abbrev element : Thing → PropertyKey → Desc Val → Outcome
      element t k x = element_defined t k x i (array_length t)

      pub element-past : nat_le n i && not w ≡ true → (Answer false ≡ told (on_object element (names_of d) key desc (cell_at d o))) × Done d o desc (on_object element (names_of d) key desc (cell_at d o)) d
      element-past e = refused desc _ (on-cell element key desc ∙ ap (element_defined the_object (key_in (names_of d) key) (desc_in (Resolve (names_of d)) desc) i) array-length ∙ rw e refl)

      element-is : nat_le n i && not w ≡ false → on_object element (names_of d) key desc (cell_at d o) ≡ element_as the_object (key_in (names_of d) key) i (n, w) (option_map (full_in (names_of d)) (accepted d o key desc))
      element-is e =
          on-cell element key desc
          ∙ ap (element_defined the_object (key_in (names_of d) key) (desc_in (Resolve (names_of d)) desc) i) array-length
          ∙ rw e (ap (element_as the_object (key_in (names_of d) key) i (n, w)) (made-is key desc can))

      pub element-not : nat_le n i && not w ≡ false → accepted d o key desc ≡ None → (Answer false ≡ told (on_object element (names_of d) key desc (cell_at d o))) × Done d o desc (on_object element (names_of d) key desc (cell_at d o)) d
      element-not e none = refused desc _ (element-is e ∙ ap (λ p. element_as the_object (key_in (names_of d) key) i (n, w) (option_map (full_in (names_of d)) p)) none)

      pub element-stored : nat_le n i && not w ≡ false → (p : Full Value) → accepted d o key desc ≡ Some p → FullIn d p → (d1 d2 : Data) → d1 ≡ change_cell d o (put_in key p) → d2 ≡ change_cell d1 o (put_in lk (Datum (v.Whole (pos (max n (i + 1)))) w false false)) → (Answer true ≡ told (on_object element (names_of d) key desc (cell_at d o))) × Done d o desc (on_object element (names_of d) key desc (cell_at d o)) d2
      element-stored e p some within d1 d2 first second =
          let ps : List (Key × Full Value) = insert_entry h.cell.props key p in
          let known : List Value = known_values h.cell.props desc in
          let f : Cell → Cell = λ c. put_in lk (Datum (v.Whole (pos (max n (i + 1)))) w false false) (put_in key p c) in
          let ps_in : All (PropertyIn d) ps = All-insert (PropertyIn d) h.cell.props key p (can.key_there, within) (λ e r. (r.0, within)) h.within.props_in in
          changed desc _ (with_length (max n (i + 1)) w (with_property (key_in (names_of d) key) (full_in (names_of d) p) the_object)) true f d2
          (element-is e ∙ ap (λ q. element_as the_object (key_in (names_of d) key) i (n, w) (option_map (full_in (names_of d)) q)) some)
          (second ∙ ap (λ z. change_cell z o (put_in lk (Datum (v.Whole (pos (max n (i + 1)))) w false false))) first ∙ change-again d o h.cell h.there (put_in key p) (put_in lk (Datum (v.Whole (pos (max n (i + 1)))) w false false)))
          refl
          (length-put ps (max n (i + 1)) w ps_in ∙ ap (with_length (max n (i + 1)) w) (put-is h.cell.props key p h.within.props_in can.key_there))
          (put-known known ps lk (Datum (v.Whole (pos (max n (i + 1)))) w false false)
          (put-known known h.cell.props key p (table-known h.cell.props desc) (stored-known h.cell.props desc h.cell.extensible key p (sym (accepted-is key desc) ∙ some)))
          (number-known known (max n (i + 1)) w))

    -- ---- a shorter `length`

    module _ (desc : Desc Value) (can : CanDefine d o lk desc) (m : ℕ) where
      abbrev shorter : Thing → PropertyKey → Desc Val → Outcome
      shorter t k x = length_as t m (denies x.writable) (validated t length_key (without_writable x))

      off-can : CanDefine d o lk (put_off desc)
      off-can = by (denies desc.writable) refl
        where
          by : (b : Bool) → denies desc.writable ≡ b → CanDefine d o lk (if b then (let x : Desc Value = record desc { writable = None } in x) else desc)
          by true e = record { object = can.object; key_there = can.key_there; desc_there = record { value_in = can.desc_there.value_in; get_in = can.desc_there.get_in; set_in = can.desc_there.set_in }; one_kind = off-kind (is_some desc.value) (is_some desc.writable) (is_accessor_descriptor desc) can.one_kind; apart = can.apart }
          by false e = can

      off-is : without_writable (desc_in (Resolve (names_of d)) desc) ≡ desc_in (Resolve (names_of d)) (put_off desc)
      off-is = by (denies desc.writable)
        where
          by : (b : Bool) → (if b then (let x : Desc Val = record (desc_in (Resolve (names_of d)) desc) { writable = None } in x) else desc_in (Resolve (names_of d)) desc) ≡ desc_in (Resolve (names_of d)) (if b then (let x : Desc Value = record desc { writable = None } in x) else desc)
          by true = refl
          by false = refl

      shorter-is : (p : Option (Full Value)) → accepted d o lk (put_off desc) ≡ p → on_object shorter (names_of d) lk desc (cell_at d o) ≡ length_as the_object m (denies desc.writable) (option_map (full_in (names_of d)) p)
      shorter-is p e =
          on-cell shorter lk desc
          ∙ ap (λ x. length_as the_object m (denies desc.writable) (validated the_object length_key x)) off-is
          ∙ ap (λ k. length_as the_object m (denies desc.writable) (validated the_object k (desc_in (Resolve (names_of d)) (put_off desc)))) (sym len.named)
          ∙ ap (length_as the_object m (denies desc.writable)) (made lk (put_off desc) off-can p e)

      pub shorter-not : accepted d o lk (put_off desc) ≡ None → (Answer false ≡ told (on_object shorter (names_of d) lk desc (cell_at d o))) × Done d o desc (on_object shorter (names_of d) lk desc (cell_at d o)) d
      shorter-not e = refused desc _ (shorter-is None e)

      writable-in : (p : Full Value) → is_writable (full_in (names_of d) p) ≡ is_writable p
      writable-in (Datum x a b c) = refl
      writable-in (Accessor g s b c) = refl

      pub shorter-cut : (p : Full Value) (from : List Key) (d1 d2 : Data) → accepted d o lk (put_off desc) ≡ Some p → AreIndicesFrom d m h.cell.props from → d1 ≡ change_cell d o (with_table (cut_of (reverse from) m h.cell.props).left) → d2 ≡ change_cell d1 o (put_in lk (Datum (v.Whole (pos (cut_of (reverse from) m h.cell.props).length)) (is_writable p && not (denies desc.writable)) false false)) → (Answer (nat_eq (cut_of (reverse from) m h.cell.props).length m) ≡ told (on_object shorter (names_of d) lk desc (cell_at d o))) × Done d o desc (on_object shorter (names_of d) lk desc (cell_at d o)) d2
      shorter-cut p from d1 d2 some indices first second =
          let x : Cut = cut_of (reverse from) m h.cell.props in
          let b : Bool = is_writable p && not (denies desc.writable) in
          let known : List Value = known_values h.cell.props desc in
          let put : Cell → Cell = put_in lk (Datum (v.Whole (pos x.length)) b false false) in
          let back : All (λ k. is_from m k ≡ true) (reverse from) = All-permutation (λ k. is_from m k ≡ true) from (reverse from) (IsPermutation-reverse from) indices.high in
          let whole : (cut_of (reverse from) m h.cell.props).whole ≡ nat_eq (cut_of (reverse from) m h.cell.props).length m = cut-whole (reverse from) m h.cell.props back in
          let done = changed desc (on_object shorter (names_of d) lk desc (cell_at d o)) (cut_to (shrunk_of (names_of d) x) b the_object) x.whole (λ c. put (with_table x.left c)) d2
          (shorter-is (Some p) some
          ∙ ap (λ z. Becomes (cut_to z (is_writable (full_in (names_of d) p) && not (denies desc.writable)) the_object) z.whole) (cut-is d h.distinct m the_object h.cell.props from refl h.within.props_in indices)
          ∙ ap (λ z. Becomes (cut_to (shrunk_of (names_of d) x) (z && not (denies desc.writable)) the_object) x.whole) (writable-in p))
          (second ∙ ap (λ z. change_cell z o put) first ∙ change-again d o h.cell h.there (with_table x.left) put)
          refl
          (length-put x.left x.length b (All-cut (PropertyIn d) (reverse from) m h.cell.props h.within.props_in))
          (put-known known x.left lk (Datum (v.Whole (pos x.length)) b false false) (All-cut (HoldsKnown known) (reverse from) m h.cell.props (table-known h.cell.props desc)) (number-known known x.length b)) in
          (ap Answer (sym whole) ∙ done.0, done.1)

      -- the `length` that is put last is there already
      pub length-stays : (from : List Key) (d1 : Data) → All (λ k. index_of k < 2 ^ 32 - 1) from → d1 ≡ change_cell d o (with_table (cut_of (reverse from) m h.cell.props).left) → property_at d1 o lk ≢ None
      length-stays from d1 low first none =
          let names : All (λ k. same_key lk k ≡ false) (reverse from) =
          All-permutation (λ k. same_key lk k ≡ false) from (reverse from) (IsPermutation-reverse from)
          (All-weaker (λ k. index_of k < 2 ^ 32 - 1) (λ k. same_key lk k ≡ false) (λ k l. ap (λ z. same_key z k) len.key_is ∙ no-name (length_id d.texts) k l) from low) in
          let is : property_at d1 o lk ≡ Some (Datum (v.Whole (pos n)) w false false) =
          ap (λ z. property_at z o lk) first
          ∙ ap (property_in lk) (cell-changed d o h.cell h.there (with_table (cut_of (reverse from) m h.cell.props).left))
          ∙ found-cut (reverse from) m h.cell.props lk names
          ∙ length-there in
          let bad : None ≡ Some (Datum (v.Whole (pos n)) w false false) = sym none ∙ is in
          cc

      -- ---- the cases of a `length`

      abbrev below : Thing → PropertyKey → Desc Val → Outcome
      below t k x = length_below t x m (array_length t)

      abbrev given : Thing → PropertyKey → Desc Val → Outcome
      given t k x = length_defined t x x.value

      below-is : on_object below (names_of d) lk desc (cell_at d o) ≡ length_below the_object (desc_in (Resolve (names_of d)) desc) m (n, w)
      below-is = on-cell below lk desc ∙ ap (length_below the_object (desc_in (Resolve (names_of d)) desc) m) array-length

      as-any : on_object ordinary_defined (names_of d) lk desc (cell_at d o) ≡ ordinary_defined the_object length_key (desc_in (Resolve (names_of d)) desc)
      as-any = on-cell ordinary_defined lk desc ∙ ap (λ k. ordinary_defined the_object k (desc_in (Resolve (names_of d)) desc)) len.named

      pub below-far : n ≤ m → on_object ordinary_defined (names_of d) lk desc (cell_at d o) ≡ on_object below (names_of d) lk desc (cell_at d o)
      below-far l = let e : nat_le n m ≡ true = le-leb n m l in as-any ∙ sym (below-is ∙ rw e refl)

      pub below-near : m < n → w ≡ true → on_object shorter (names_of d) lk desc (cell_at d o) ≡ on_object below (names_of d) lk desc (cell_at d o)
      below-near l t = let e : nat_le n m ≡ false = lt-leb n m l in on-cell shorter lk desc ∙ sym (below-is ∙ rw (e, t) refl)

      pub below-closed : m < n → w ≡ false → (Answer false ≡ told (on_object below (names_of d) lk desc (cell_at d o))) × Done d o desc (on_object below (names_of d) lk desc (cell_at d o)) d
      below-closed l t = let e : nat_le n m ≡ false = lt-leb n m l in refused desc _ (below-is ∙ rw (e, t) refl)

      given-is : (y : Option Value) → desc.value ≡ y → on_object given (names_of d) lk desc (cell_at d o) ≡ length_defined the_object (desc_in (Resolve (names_of d)) desc) (option_map (Resolve (names_of d)) y)
      given-is y e = on-cell given lk desc ∙ ap (λ z. length_defined the_object (desc_in (Resolve (names_of d)) desc) (option_map (Resolve (names_of d)) z)) e

      pub given-none : desc.value ≡ None → on_object ordinary_defined (names_of d) lk desc (cell_at d o) ≡ on_object given (names_of d) lk desc (cell_at d o)
      given-none e = as-any ∙ sym (given-is None e)

      pub given-length : (y : Value) → desc.value ≡ Some y → asked_length y ≡ Ok m → on_object below (names_of d) lk desc (cell_at d o) ≡ on_object given (names_of d) lk desc (cell_at d o)
      given-length y e ok =
          on-cell below lk desc
          ∙ sym (given-is (Some y) e ∙ asked-ok (names_of d) y m ok the_object (desc_in (Resolve (names_of d)) desc))

    module _ (desc : Desc Value) where
      abbrev asked : Thing → PropertyKey → Desc Val → Outcome
      asked t k x = length_defined t x x.value

      asked-is : (y : Value) → desc.value ≡ Some y → on_object asked (names_of d) lk desc (cell_at d o) ≡ length_given the_object (desc_in (Resolve (names_of d)) desc) (whole_of (Resolve (names_of d) y))
      asked-is y e = on-cell asked lk desc ∙ ap (λ z. length_defined the_object (desc_in (Resolve (names_of d)) desc) (option_map (Resolve (names_of d)) z)) e

      pub given-refused : (y : Value) (answer : Defined) → desc.value ≡ Some y → asked_length y ≡ Err answer → (answer ≡ told (on_object asked (names_of d) lk desc (cell_at d o))) × Done d o desc (on_object asked (names_of d) lk desc (cell_at d o)) d
      given-refused y answer e err =
          let r = asked-err (names_of d) y answer err the_object (desc_in (Resolve (names_of d)) desc) in
          let is : on_object asked (names_of d) lk desc (cell_at d o) ≡ Faulty r.0 = asked-is y e ∙ r.1 in
          (r.2 ∙ ap told (sym is), nothing desc _ (ap changes is))

  -- ---- the cases of a key

  pub key-element : (key : Key) (desc : Desc Value) (i : ℕ) → KeyIn d key → index_in key ≡ Some i → on_object (λ t k x. element_defined t k x i (array_length t)) (names_of d) key desc (cell_at d o) ≡ on_object array_defined (names_of d) key desc (cell_at d o)
  key-element key desc i k e =
      on-cell (λ t k x. element_defined t k x i (array_length t)) key desc
      ∙ sym (on-cell array_defined key desc ∙ ap (array_defined_at the_object (key_in (names_of d) key) (desc_in (Resolve (names_of d)) desc)) (key-index d key k ∙ e))

  no-index : (key : Key) (desc : Desc Value) → KeyIn d key → index_in key ≡ None → on_object array_defined (names_of d) key desc (cell_at d o) ≡ name_defined the_object (key_in (names_of d) key) (desc_in (Resolve (names_of d)) desc)
  no-index key desc k e = on-cell array_defined key desc ∙ ap (array_defined_at the_object (key_in (names_of d) key) (desc_in (Resolve (names_of d)) desc)) (key-index d key k ∙ e)

  module _ (lk : Key) (n : ℕ) (w : Bool) (len : LengthIs d o lk n w) where
    pub key-length : (desc : Desc Value) → on_object (λ t k x. length_defined t x x.value) (names_of d) lk desc (cell_at d o) ≡ on_object array_defined (names_of d) lk desc (cell_at d o)
    key-length desc =
        let e : index_in lk ≡ None = ap index_in len.key_is in
        on-cell (λ t k x. length_defined t x x.value) lk desc
        ∙ sym (no-index lk desc len.key_there e ∙ ap (λ k. name_defined the_object k (desc_in (Resolve (names_of d)) desc)) len.named)

    pub key-other : (key : Key) (desc : Desc Value) → KeyIn d key → index_in key ≡ None → same_key key lk ≡ false → on_object ordinary_defined (names_of d) key desc (cell_at d o) ≡ on_object array_defined (names_of d) key desc (cell_at d o)
    key-other key desc k e other =
        let apart : graph_same_key (key_in (names_of d) key) length_key ≡ false =
        ap (graph_same_key (key_in (names_of d) key)) (sym len.named) ∙ same-key d h.distinct key lk k len.key_there ∙ swap-same lk key ∙ other in
        on-cell ordinary_defined key desc ∙ sym (no-index key desc k e ∙ rw apart refl)
