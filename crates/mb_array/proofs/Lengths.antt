-- The key of an array's `length`.
use Rattle.std.proofs.Common.{◌≡◌, ℕ, ◌-◌, ◌^◌, List, [], ◌∷◌, slice_get, Some, Bool, true, false, if◌then◌else◌, nat_le, pos, subst, refl, sym, ap, ◌∙◌, arith}
use Rattle.std.specs.Prelude.{All}
use Rattle.std.proofs.lemmas.List.Elements.{All-head, All-tail}
use Rattle.std.proofs.lemmas.Bool.{le-leb}
use Rattle.std.proofs.lemmas.Option.{slice_get_within, get_or_from_slice_get}
use Rattle.mb_base.specs.declared.value.Key.{Key}
use Rattle.mb_base.specs.declared.value.Key.TheVariants.{Text}
use Rattle.mb_base.specs.declared.value.ObjId.{ObjId}
use Rattle.mb_base.specs.declared.value.StrId.{StrId}
use Rattle.mb_base.specs.declared.value.Value.{Value}
use Rattle.mb_base.specs.declared.value.Value.TheVariants as v
use Rattle.mb_desc.specs.declared.descriptor.Full.{Full}
use Rattle.mb_desc.specs.declared.descriptor.Full.TheVariants.{Datum}
use Rattle.mb_text.specs.Index.{index_of}
use Rattle.mb_text.specs.Texts.{AreDistinct, has_text}
use Rattle.mb_props.specs.Table.{same_key, found}
use Rattle.mb_world.specs.Key.{Named}
use Rattle.mb_world.specs.Data.{Data, property_in, length_units, length_id, length_key}
use Rattle.mb_world.specs.Ids.{TextIn, KeyIn, PropertyIn}
use Rattle.mb_world.specs.Image.{names_of, key_in}
use Rattle.mb_world.proofs.Arrays.{place-found, place-new, length-no-index}
use Rattle.mb_world.proofs.SameKeys.{own-equal}
use Rattle.mb_world.specs.Formed.{IsBelow}
use Rattle.mb_array.specs.Define.{HasItsLength, table_in}
use Rattle.mb_array.specs.machine.Done.{HasCell, LengthIs, length_parts}

-- a key that a table has is one of the world
found-key : (d : Data) (ps : List (Key × Full Value)) (key : Key) (p : Full Value) → All (PropertyIn d) ps → found ps key ≡ Some p → KeyIn d key
found-key d [] key p h e = cc
found-key d (q ∷ ps) key p h e = by (same_key key q.0) refl (found-key d ps key p (All-tail (PropertyIn d) q ps h))
  where
    by : (b : Bool) → same_key key q.0 ≡ b → (found ps key ≡ Some p → KeyIn d key) → KeyIn d key
    by true t r = let is : key ≡ q.0 = own-equal key q.0 t in rw is (All-head (PropertyIn d) q ps h).0
    by false t r = let f : (if same_key key q.0 then Some q.1 else found ps key) ≡ Some p = e in r (rw t at f)

pub no-text : (d : Data) (ps : List (Key × Full Value)) (p : Full Value) → All (PropertyIn d) ps → found ps (length_key d.texts) ≡ Some p → has_text d.texts length_units ≡ false → ⊥
no-text d ps p h e none =
    let l : TextIn d (length_id d.texts) = (found-key d ps (length_key d.texts) p h e).0 in
    omega (arith, l, place-new d.texts length_units none)

pub key-is : (texts : List (List ℕ)) (id : StrId) → AreDistinct texts → slice_get texts id.0 ≡ Some length_units → Text id (2 ^ 32 - 1) ≡ length_key texts
key-is texts id distinct e = ap (λ n. let t : StrId = record { 0 = n } in Text t (2 ^ 32 - 1)) (sym (place-found texts length_units id.0 distinct e))

pub named : (d : Data) (id : StrId) → slice_get d.texts id.0 ≡ Some length_units → key_in (names_of d) (Text id (2 ^ 32 - 1)) ≡ Named length_units
named d id e = ap Named (get_or_from_slice_get d.texts id.0 length_units [] e)

pub key-there : (d : Data) (id : StrId) → slice_get d.texts id.0 ≡ Some length_units → KeyIn d (Text id (2 ^ 32 - 1))
key-there d id e = (slice_get_within d.texts id.0 length_units e, sym length-no-index ∙ ap index_of (sym (get_or_from_slice_get d.texts id.0 length_units [] e)))

pub length-is : (d : Data) (o : ObjId) (h : HasCell d o) (l : HasItsLength d.texts h.cell.props) (id : StrId) → slice_get d.texts id.0 ≡ Some length_units → (r : ℕ × Bool) → r ≡ length_parts (found h.cell.props (Text id (2 ^ 32 - 1))) → LengthIs d o (Text id (2 ^ 32 - 1)) r.0 r.1
length-is d o h l id e r q =
    let key : Key = Text id (2 ^ 32 - 1) in
    let k : key ≡ length_key d.texts = key-is d.texts id h.distinct e in
    let at : found h.cell.props key ≡ Some (Datum (v.Whole (pos l.length)) l.writable false false) = ap (found h.cell.props) k ∙ l.there in
    let small : nat_le l.length 4294967295 ≡ true = le-leb l.length 4294967295 (omega (arith, l.limit)) in
    let parts : length_parts (Some (Datum (v.Whole (pos l.length)) l.writable false false)) ≡ (l.length, l.writable) = rw small refl in
    let is : r ≡ (l.length, l.writable) = q ∙ ap length_parts at ∙ parts in
    subst (λ (p : ℕ × Bool). LengthIs d o key p.0 p.1) (sym is)
    (record { cell = h; key_is = k; named = named d id e; key_there = key-there d id e; there = ap (property_in key) h.there ∙ at; limit = l.limit; above = subst (All (λ p. IsBelow l.length p.0)) (sym (ap table_in h.there)) l.above })
