-- What a definition answers, and the errors that it may be.
use Rattle.std.proofs.Common.{◌&&◌, ◌≡◌, ◌⊎◌, Bool, None, Option, Some, false, inl, inr, nat_le, not, refl, sym, true}
use Rattle.std.proofs.Common.{ℕ, ℤ}
use Rattle.std.specs.Prelude.{if◌then◌else◌}
use Rattle.mb_array.specs.Define.{told}
use Rattle.mb_array.specs.declared.Defined.TheVariants.{Answer, Kind, Range}
use Rattle.mb_desc.specs.Descriptors.{denies}
use Rattle.mb_desc.specs.declared.descriptor.Desc.{Desc}
use Rattle.mb_desc.specs.declared.descriptor.Full.{Full}
use Rattle.mb_world.specs.Arrays.{array_defined_at, array_length, as_length, defined, defined_by_kind, element_as}
use Rattle.mb_world.specs.Arrays.{length_as, length_defined, length_given, length_key, length_within, without_writable}
use Rattle.mb_world.specs.Graph.{Array, Kind as ThingKind, Thing}
use Rattle.mb_world.specs.Key.{PropertyKey, index_of_key, same_key}
use Rattle.mb_world.specs.Ordinary.{Becomes, Defined as Outcome, Faulty, Refused, defined_as, ordinary_defined}
use Rattle.mb_world.specs.Ordinary.{validated}
use Rattle.mb_world.specs.Value.{Val, whole_of}
use Rattle.mb_world.specs.declared.cell.ErrorKind.TheVariants.{RangeError, TypeError}

-- an error of an array's `length`
abbrev pub IsFault : Outcome → Type 0
IsFault (Faulty TypeError) = Unit {0}
IsFault (Faulty RangeError) = Unit {0}
IsFault (Faulty kind) = ⊥
IsFault outcome = Unit {0}

as-fault : (t : Thing) (k : PropertyKey) (o : Option (Full Val)) → IsFault (defined_as t k o)
as-fault t k None = tt
as-fault t k (Some p) = tt

element-fault : (t : Thing) (k : PropertyKey) (i : ℕ) (n : ℕ × Bool) (a : Bool) (o : Option (Full Val))
    → IsFault (if a then Refused else element_as t k i n o)
element-fault t k i n true o = tt
element-fault t k i n false None = tt
element-fault t k i n false (Some p) = tt

length-fault : (t : Thing) (n : ℕ) (late : Bool) (o : Option (Full Val)) → IsFault (length_as t n late o)
length-fault t n late None = tt
length-fault t n late (Some p) = tt

below-fault : (t : Thing) (d : Desc Val) (n : ℕ) (a b : Bool)
    → IsFault (if a then ordinary_defined t length_key d
    else if b then length_as t n (denies d.writable) (validated t length_key (without_writable d))
    else Refused)
below-fault t d n true b = as-fault t length_key (validated t length_key d)
below-fault t d n false true = length-fault t n (denies d.writable) (validated t length_key (without_writable d))
below-fault t d n false false = tt

within-fault : (t : Thing) (d : Desc Val) (o : Option ℕ) → IsFault (length_within t d o)
within-fault t d None = tt
within-fault t d (Some n) = below-fault t d n (nat_le (array_length t).0 n) (array_length t).1

given-fault : (t : Thing) (d : Desc Val) (o : Option ℤ) → IsFault (length_given t d o)
given-fault t d None = tt
given-fault t d (Some z) = within-fault t d (as_length z)

defined-fault : (t : Thing) (d : Desc Val) (o : Option Val) → IsFault (length_defined t d o)
defined-fault t d None = as-fault t length_key (validated t length_key d)
defined-fault t d (Some x) = given-fault t d (whole_of x)

name-fault : (t : Thing) (k : PropertyKey) (d : Desc Val) (a : Bool)
    → IsFault (if a then length_defined t d d.value else ordinary_defined t k d)
name-fault t k d true = defined-fault t d d.value
name-fault t k d false = as-fault t k (validated t k d)

array-fault : (t : Thing) (k : PropertyKey) (d : Desc Val) (o : Option ℕ) → IsFault (array_defined_at t k d o)
array-fault t k d None = name-fault t k d (same_key k length_key)
array-fault t k d (Some i) =
    element-fault t k i (array_length t) (nat_le (array_length t).0 i && not (array_length t).1) (validated t k d)

kind-fault : (y : ThingKind) (t : Thing) (k : PropertyKey) (d : Desc Val) → IsFault (defined_by_kind y t k d)
kind-fault Array t k d = array-fault t k d (index_of_key k)
kind-fault _ t k d = as-fault t k (validated t k d)

-- a definition is no other error
pub fault : (t : Thing) (k : PropertyKey) (d : Desc Val) → IsFault (defined t k d)
fault t k d = kind-fault t.kind t k d

-- ---- what was told

pub told-range : (m : Outcome) → told m ≡ Range → m ≡ Faulty RangeError
told-range Refused e = cc
told-range (Becomes t b) e = cc
told-range (Faulty RangeError) e = refl
told-range (Faulty _) e = cc

pub told-kind : (m : Outcome) → IsFault m → told m ≡ Kind → m ≡ Faulty TypeError
told-kind Refused h e = cc
told-kind (Becomes t b) h e = cc
told-kind (Faulty RangeError) h e = cc
told-kind (Faulty TypeError) h e = refl
told-kind (Faulty _) h e = absurd h

-- refused, or it becomes an object
pub told-answer : (m : Outcome) (b : Bool) → told m ≡ Answer b
    → ((m ≡ Refused) × (b ≡ false)) ⊎ ((t : Thing) × (m ≡ Becomes t b))
told-answer Refused b e = (let q : false ≡ b = cc in inl (refl, sym q))
told-answer (Becomes t a) b e = (let q : a ≡ b = cc in inr (t, rw q refl))
told-answer (Faulty RangeError) b e = cc
told-answer (Faulty _) b e = cc
