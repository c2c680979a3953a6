use Rattle.std.specs.Prelude.{ℕ, ℤ, pos, negsuc, ◌+◌, max, List, [], ◌∷◌, reverse, Bool, true, false, not, ◌&&◌, nat_le, Option, Some, None, if◌then◌else◌, codes}
use Rattle.mb_desc.specs.declared.descriptor.Desc.{Desc}
use Rattle.mb_desc.specs.declared.descriptor.Full.{Full}
use Rattle.mb_desc.specs.declared.descriptor.Full.TheVariants.{Datum}
use Rattle.mb_world.specs.declared.cell.ErrorKind.TheVariants.{TypeError, RangeError}
use Rattle.mb_world.specs.Value.{Val, Whole, decimal, whole_of}
use Rattle.mb_world.specs.Key.{PropertyKey, Named, same_key, index_of_key, indices, keep_if}
use Rattle.mb_desc.specs.Descriptors.{is_fixed, is_writable, property_is, descriptor_of, denies}
use Rattle.mb_world.specs.Property.{open_property}
use Rattle.mb_world.specs.Graph.{Thing, Kind, Array, Property}
use Rattle.mb_world.specs.Objects.{find_property, put_property, remove_property, property_keys, own_property, with_property}
use Rattle.mb_world.specs.Ordinary.{Defined, Refused, Becomes, Faulty, validated, ordinary_defined}

-- arrays (ECMA-262 10.4.2): elements and `length`, and what a definition makes of an array

abbrev pub index_key : ℕ → PropertyKey
index_key n = Named (decimal n)

-- the greatest length of an array
abbrev pub length_limit : ℕ
length_limit = 4294967295

abbrev pub length_key : PropertyKey
length_key = Named (codes "length")

abbrev pub length_in : Option (Full Val) → ℕ × Bool
length_in (Some (Datum (Whole (pos n)) w e c)) = (n, w)
length_in _ = (0, false)

-- an array's length, and whether it can be written
abbrev pub array_length : Thing → ℕ × Bool
array_length t = length_in (own_property length_key t)

abbrev pub with_length : ℕ → Bool → Thing → Thing
with_length n w t = with_property length_key (Datum (Whole (pos n)) w false false) t

-- the elements from place n on, with three true flags
abbrev pub put_elements : ℕ → List Val → List Property → List Property
put_elements n [] ps = ps
put_elements n (v ∷ vs) ps = put_elements (n + 1) vs (put_property (index_key n) (open_property v) ps)

-- ---- a shorter length

-- an array that was cut: the properties that are left, its length, and whether all went that was to go
pub record Shrunk : Type 0 where
  pub left : List Property
  pub length : ℕ
  pub whole : Bool

-- ArraySetLength (ECMA-262 10.4.2.4), step 17: elements go from the highest down to the first that is fixed
abbrev pub shrink : List (ℕ × PropertyKey) → ℕ → List Property → Shrunk
shrink [] n ps = record { left = ps; length = n; whole = true }
shrink (i ∷ is) n ps =
    if property_is is_fixed (find_property i.1 ps) then record { left = ps; length = i.0 + 1; whole = false }
    else shrink is n (remove_property i.1 ps)

-- the indices not below n, the highest first
abbrev pub indices_from : ℕ → List (ℕ × PropertyKey) → List (ℕ × PropertyKey)
indices_from n [] = []
indices_from n (i ∷ is) = keep_if (nat_le n i.0) i (indices_from n is)

abbrev pub shrunk : ℕ → Thing → Shrunk
shrunk n t = shrink (reverse (indices_from n (indices (property_keys t.properties)))) n t.properties

abbrev pub cut_to : Shrunk → (writable : Bool) → Thing → Thing
cut_to x writable t = with_length x.length writable (record t { properties = x.left })

-- ---- definitions

-- an element was accepted: `length` grows where it must (ECMA-262 10.4.2.1, steps 2.g to 2.j)
abbrev pub element_as : Thing → PropertyKey → ℕ → ℕ × Bool → Option (Full Val) → Defined
element_as t k i n None = Refused
element_as t k i n (Some p) = Becomes (with_length (max n.0 (i + 1)) n.1 (with_property k p t)) true

-- an element is defined: none past a length that can't be written (ECMA-262 10.4.2.1, step 2)
abbrev pub element_defined : Thing → PropertyKey → Desc Val → ℕ → ℕ × Bool → Defined
element_defined t k d i n = if nat_le n.0 i && not n.1 then Refused else element_as t k i n (validated t k d)

-- `length` was accepted: the elements past it go as far as they can, and only then it stops being writable
abbrev pub length_as : Thing → ℕ → (late : Bool) → Option (Full Val) → Defined
length_as t n late None = Refused
length_as t n late (Some p) = Becomes (cut_to (shrunk n t) (is_writable p && not late) t) (shrunk n t).whole

-- writable false is put off
abbrev pub without_writable : Desc Val → Desc Val
without_writable d = if denies d.writable then record d { writable = None } else d

abbrev pub length_below : Thing → Desc Val → ℕ → ℕ × Bool → Defined
length_below t d n old =
    if nat_le old.0 n then ordinary_defined t length_key d
    else if old.1 then length_as t n (denies d.writable) (validated t length_key (without_writable d))
    else Refused

-- a number that can be an array's length
abbrev pub as_length : ℤ → Option ℕ
as_length (pos n) = if nat_le n length_limit then Some n else None
as_length (negsuc n) = None

abbrev pub length_within : Thing → Desc Val → Option ℕ → Defined
length_within t d None = Faulty RangeError
length_within t d (Some n) = length_below t d n (array_length t)

abbrev pub length_given : Thing → Desc Val → Option ℤ → Defined
length_given t d None = Faulty TypeError
length_given t d (Some z) = length_within t d (as_length z)

-- ArraySetLength (ECMA-262 10.4.2.4)
abbrev pub length_defined : Thing → Desc Val → Option Val → Defined
length_defined t d None = ordinary_defined t length_key d
length_defined t d (Some v) = length_given t d (whole_of v)

abbrev pub name_defined : Thing → PropertyKey → Desc Val → Defined
name_defined t k d = if same_key k length_key then length_defined t d d.value else ordinary_defined t k d

abbrev pub array_defined_at : Thing → PropertyKey → Desc Val → Option ℕ → Defined
array_defined_at t k d None = name_defined t k d
array_defined_at t k d (Some i) = element_defined t k d i (array_length t)

-- [[DefineOwnProperty]] of an array exotic object (ECMA-262 10.4.2.1)
abbrev pub array_defined : Thing → PropertyKey → Desc Val → Defined
array_defined t k d = array_defined_at t k d (index_of_key k)

abbrev pub defined_by_kind : Kind → Thing → PropertyKey → Desc Val → Defined
defined_by_kind Array t k d = array_defined t k d
defined_by_kind _ t k d = ordinary_defined t k d

-- [[DefineOwnProperty]] of an object that is no Proxy
abbrev pub defined : Thing → PropertyKey → Desc Val → Defined
defined t k d = defined_by_kind t.kind t k d

-- CreateDataProperty of an element (ECMA-262 7.3.5) on an array that a row made
abbrev pub element_stored : Thing → ℕ → Val → Defined
element_stored t n v = element_defined t (index_key n) (descriptor_of (open_property v)) n (array_length t)
