-- A cell and the object that it is, before a change and after.
use Rattle.std.proofs.Common.{◌≡◌, ℕ, zero, suc, List, [], ◌∷◌, ◌++◌, Bool, true, false, not, Option, Some, None, refl, sym, ap, ◌∙◌, true≢false, slice_get, slice_set, option_map}
use Rattle.std.specs.Prelude.{All, IfSome}
use Rattle.std.proofs.lemmas.List.Elements.{All-weaker}
use Rattle.std.proofs.lemmas.Map.Entries.{All-lookup}
use Rattle.mb_base.specs.declared.value.ObjId.{ObjId}
use Rattle.mb_base.specs.declared.value.Key.{Key}
use Rattle.mb_base.specs.declared.value.Value.{Value}
use Rattle.mb_base.specs.declared.value.Value.TheVariants as v
use Rattle.mb_desc.specs.declared.descriptor.Desc.{Desc}
use Rattle.mb_desc.specs.declared.descriptor.Full.{Full}
use Rattle.mb_desc.specs.declared.descriptor.Full.TheVariants.{Datum, Accessor}
use Rattle.mb_desc.specs.Descriptors.{is_configurable}
use Rattle.mb_desc.specs.Validate.{Validate}
use Rattle.mb_desc.specs.Values.{equal}
use Rattle.mb_props.specs.Table.{same_key, found}
use Rattle.mb_text.specs.Texts.{AreDistinct}
use Rattle.mb_world.specs.declared.cell.Cell.{Cell}
use Rattle.mb_world.specs.Value.{Undefined, same_value}
use Rattle.mb_world.specs.Graph.{Thing}
use Rattle.mb_world.specs.Ordinary.{Refused, Becomes, Leaves, Without, defined_as, validated, deleted}
use Rattle.mb_world.specs.Data.{Data, stand, stands, cell_at, property_in, property_at, change_cell, put_in, remove_in}
use Rattle.mb_world.specs.Ids.{Maybe, KeyIn, FullIn, PropertyIn, CellIn}
use Rattle.mb_world.specs.Image.{Names, names_of, Resolve, full_in, desc_in, key_in}
use Rattle.mb_world.proofs.Stands.{stands-set}
use Rattle.mb_ordinary.specs.Objects.{IsOrdinary, object_of, object_at, property_of}
use Rattle.mb_ordinary.specs.Definitions.{TellsApart, compared, desc_values, property_values, DescIn, defined_at, as_defined, is_loose, deleted_at, as_deleted}
use Rattle.mb_world.proofs.SameKeys.{find-found, put-insert, remove-without}
use Rattle.mb_ordinary.proofs.Accepting.{validate-map, compares-there}

-- the cell is there
pub cell-there : (o : Option Cell) → IsOrdinary o → (c : Cell) × (o ≡ Some c)
cell-there None h = absurd h
cell-there (Some c) h = (c, refl)

-- what holds of the cell's object holds of the object there
pub at-object : (d : Data) (o : ObjId) (c : Cell) (P : Thing → Type 0) → cell_at d o ≡ Some c → P (object_of (names_of d) c) → IfSome (object_at d o) P
at-object d o c P e h = rw e h

-- ---- a changed cell

get-set : {A : Type 0} (xs : List A) (i : ℕ) (x y : A) → slice_get xs i ≡ Some x → slice_get (slice_set xs i y) i ≡ Some y
get-set [] i x y e = cc
get-set (z ∷ zs) zero x y e = refl
get-set (z ∷ zs) (suc i) x y e = get-set zs i x y e

pub same-names : (d : Data) (o : ObjId) (c : Cell) (f : Cell → Cell) → cell_at d o ≡ Some c → stand (f c) ≡ stand c → names_of (change_cell d o f) ≡ names_of d
same-names d o c f e h =
    let s : stands (slice_set d.cells o.0 (f c)) ≡ stands d.cells = stands-set d.cells o.0 c (f c) e h in
    rw (e, s) refl

changed-there : (d : Data) (o : ObjId) (c : Cell) (f : Cell → Cell) → cell_at d o ≡ Some c → cell_at (change_cell d o f) o ≡ Some (f c)
changed-there d o c f e = rw e (get-set d.cells o.0 c (f c) e)

pub changed-object : (d : Data) (o : ObjId) (c : Cell) (f : Cell → Cell) → cell_at d o ≡ Some c → stand (f c) ≡ stand c → object_at (change_cell d o f) o ≡ Some (object_of (names_of d) (f c))
changed-object d o c f e h =
    ap (option_map (object_of (names_of (change_cell d o f)))) (changed-there d o c f e)
    ∙ ap (λ n. Some (object_of n (f c))) (same-names d o c f e h)

-- a change of the cell is one of the object
pub mapped : (d : Data) (o : ObjId) (f : Cell → Cell) (g : Thing → Thing) → ((c : Cell) → object_of (names_of d) (f c) ≡ g (object_of (names_of d) c)) → ((c : Cell) → stand (f c) ≡ stand c) → IsOrdinary (cell_at d o) → object_at (change_cell d o f) o ≡ option_map g (object_at d o)
mapped d o f g same stays h =
    let there = cell-there (cell_at d o) h in
    changed-object d o there.0 f there.1 (stays there.0)
    ∙ ap Some (same there.0)
    ∙ sym (ap (λ z. option_map g (option_map (object_of (names_of d)) z)) there.1)

configurable-is : (n : Names) (p : Full Value) → is_configurable (full_in n p) ≡ is_configurable p
configurable-is n (Datum x w e c) = refl
configurable-is n (Accessor g s e c) = refl

pub not-true : (b : Bool) → not b ≡ true → b ≡ false
not-true true h = absurd (true≢false (sym h))
not-true false h = refl

pub not-false : (b : Bool) → not b ≡ false → b ≡ true
not-false true h = refl
not-false false h = absurd (true≢false h)

-- ---- own properties

pub found-in : (d : Data) (ps : List (Key × Full Value)) (key : Key) → All (PropertyIn d) ps → IfSome (found ps key) (FullIn d)
found-in d ps key h =
    All-lookup (FullIn d) (same_key key) ps (All-weaker (PropertyIn d) (λ p. FullIn d p.1) (λ p k. k.1) ps h)

pub maybe-in : (d : Data) (o : Option (Full Value)) → IfSome o (FullIn d) → Maybe (FullIn d) o
maybe-in d None h = tt
maybe-in d (Some p) h = h

module _ (d : Data) (o : ObjId) (c : Cell) (there : cell_at d o ≡ Some c) (distinct : AreDistinct d.texts) (within : CellIn d c) (key : Key) (key_in_d : KeyIn d key) where
  pub own-is : property_of d key (object_of (names_of d) c) ≡ option_map (full_in (names_of d)) (found c.props key)
  own-is = find-found d distinct c.props key within.props_in key_in_d

  -- ---- a definition

  module _ (desc : Desc Value) (desc_in_d : DescIn d desc) (apart : TellsApart d (compared d o key desc)) where
    pub validated-is : validated (object_of (names_of d) c) (key_in (names_of d) key) (desc_in (Resolve (names_of d)) desc) ≡ option_map (full_in (names_of d)) (Validate equal v.Undefined c.extensible (found c.props key) desc)
    validated-is =
        let apart_there : TellsApart d (desc_values desc ++ property_values (found c.props key)) = (let same : property_at d o key ≡ found c.props key = ap (property_in key) there in rw (← same) apart) in
        ap (λ z. Validate same_value Undefined c.extensible z (desc_in (Resolve (names_of d)) desc)) own-is
        ∙ validate-map (names_of d) desc c.extensible (found c.props key) (compares-there d distinct desc desc_in_d (found c.props key) (maybe-in d (found c.props key) (found-in d c.props key within.props_in)) apart_there)

    pub defined-some : (p : Full Value) (d' : Data) → Validate equal v.Undefined c.extensible (found c.props key) desc ≡ Some p → d' ≡ change_cell d o (put_in key p) → IfSome (object_at d o) (λ t. defined_at d key desc t ≡ as_defined true (object_at d' o))
    defined-some p d' made new =
        let t : Thing = object_of (names_of d) c in
        at-object d o c (λ t. defined_at d key desc t ≡ as_defined true (object_at d' o)) there
        (ap (defined_as t (key_in (names_of d) key)) (validated-is ∙ ap (option_map (full_in (names_of d))) made)
        ∙ ap (λ ps. let u : Thing = record t { properties = ps } in Becomes u true) (sym (put-insert d distinct c.props key p within.props_in key_in_d))
        ∙ sym (ap (as_defined true) (ap (λ z. object_at z o) new ∙ changed-object d o c (put_in key p) there refl)))

    pub defined-none : Validate equal v.Undefined c.extensible (found c.props key) desc ≡ None → IfSome (object_at d o) (λ t. defined_at d key desc t ≡ Refused)
    defined-none made =
        at-object d o c (λ t. defined_at d key desc t ≡ Refused) there
        (ap (defined_as (object_of (names_of d) c) (key_in (names_of d) key)) (validated-is ∙ ap (option_map (full_in (names_of d))) made))

  -- ---- a deletion

  deleted-by : (p : Option (Full Value)) → found c.props key ≡ p → deleted_at d key (object_of (names_of d) c) ≡ deleted (object_of (names_of d) c) (key_in (names_of d) key) (option_map (full_in (names_of d)) p)
  deleted-by p e = ap (deleted (object_of (names_of d) c) (key_in (names_of d) key)) (own-is ∙ ap (option_map (full_in (names_of d))) e)

  pub deleted-fixed : is_loose (property_at d o key) ≡ false → IfSome (object_at d o) (λ t. deleted_at d key t ≡ Leaves false)
  deleted-fixed fixed =
      at-object d o c (λ t. deleted_at d key t ≡ Leaves false) there
      (by (found c.props key) refl (sym (ap (λ z. is_loose (property_in key z)) there) ∙ fixed))
    where
      by : (p : Option (Full Value)) → found c.props key ≡ p → is_loose p ≡ false → deleted_at d key (object_of (names_of d) c) ≡ Leaves false
      by None e h = absurd (true≢false h)
      by (Some p) e h = deleted-by (Some p) e ∙ (let k : is_configurable (full_in (names_of d) p) ≡ false = configurable-is (names_of d) p ∙ h in rw k refl)

  pub deleted-loose : (d' : Data) → is_loose (property_at d o key) ≡ true → d' ≡ change_cell d o (remove_in key) → IfSome (object_at d o) (λ t. deleted_at d key t ≡ as_deleted true (object_at d' o) (property_at d o key))
  deleted-loose d' loose new =
      at-object d o c (λ t. deleted_at d key t ≡ as_deleted true (object_at d' o) (property_at d o key)) there
      (by (found c.props key) refl (sym (ap is_loose at_there) ∙ loose))
    where
      at_there : property_at d o key ≡ found c.props key
      at_there = ap (property_in key) there

      after : object_at d' o ≡ Some (object_of (names_of d) (remove_in key c))
      after = ap (λ z. object_at z o) new ∙ changed-object d o c (remove_in key) there refl

      by : (p : Option (Full Value)) → found c.props key ≡ p → is_loose p ≡ true → deleted_at d key (object_of (names_of d) c) ≡ as_deleted true (object_at d' o) (property_at d o key)
      by None e h =
          deleted-by None e
          ∙ sym (ap (λ z. as_deleted true z (property_at d o key)) after ∙ ap (as_deleted true (Some (object_of (names_of d) (remove_in key c)))) (at_there ∙ e))
      by (Some p) e h =
          let k : is_configurable (full_in (names_of d) p) ≡ true = configurable-is (names_of d) p ∙ h in
          let t : Thing = object_of (names_of d) c in
          deleted-by (Some p) e
          ∙ rw k (ap (λ ps. let u : Thing = record t { properties = ps } in Without u) (sym (remove-without d distinct c.props key within.props_in key_in_d)))
          ∙ sym (ap (λ z. as_deleted true z (property_at d o key)) after ∙ ap (as_deleted true (Some (object_of (names_of d) (remove_in key c)))) (at_there ∙ e))
