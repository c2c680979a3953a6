use Rattle.std.specs.Prelude.{◌≡◌, refl, ℕ, List, [], ◌∷◌, Bool, true, false, Option, Some, None, codes, pos}
use Rattle.mb_world.specs.declared.entry.Op.{Op}
use Rattle.mb_world.specs.declared.entry.Op.TheVariants.{GetPrototypeOf, SetPrototypeOf, PreventExtensions, GetOwnPropertyDescriptor, DefineProperty, Has, OwnKeys}
use Rattle.mb_desc.specs.declared.descriptor.Full.TheVariants.{Datum}
use Rattle.mb_world.specs.Value.{Null, Whole, Object}
use Rattle.mb_world.specs.Key.{PropertyKey, Named}
use Rattle.mb_desc.specs.Descriptors.{descriptor_of}
use Rattle.mb_world.specs.Graph.{Said, SaidNothing, SaidFlag, SaidValue, SaidAbsent, SaidProperty, SaidKeys, Entry}
use Rattle.mb_model.specs.Trace.Lawful.{is_lawful}

-- what is told of an object only once it is closed (ECMA-262 6.1.7.3): which keys it lacks, which it has alone, its
-- prototype

abbrev entry : (began object : ℕ) → Op → Option PropertyKey → (given answer : Said) → Entry
entry began object op key given answer =
    record { began = began; side = 1; object = object; op = op; key = key; given = given; answer = answer }

abbrev a : PropertyKey
a = Named (codes "a")

abbrev b : PropertyKey
b = Named (codes "b")

abbrev one : Said
one = SaidProperty (descriptor_of (Datum (Whole (pos 1)) true true true))

abbrev shut : Entry
shut = entry 0 5 PreventExtensions None SaidNothing (SaidFlag true)

-- behind an entry that closes object 5, and without one
abbrev pair : Entry → Entry → Bool × Bool
pair e f = (is_lawful (shut ∷ e ∷ f ∷ []), is_lawful (e ∷ e ∷ f ∷ []))

abbrev lacks : Entry
lacks = entry 1 5 GetOwnPropertyDescriptor (Some a) SaidNothing SaidAbsent

abbrev only : Entry
only = entry 1 5 OwnKeys None SaidNothing (SaidKeys (b ∷ []))

abbrev above : Entry
above = entry 1 5 GetPrototypeOf None SaidNothing (SaidValue Null)

pub Row : Type 0
Row =
    (pair lacks (entry 2 5 GetOwnPropertyDescriptor (Some a) SaidNothing one) ≡ (false, true))
    × (pair lacks (entry 2 6 GetOwnPropertyDescriptor (Some a) SaidNothing one) ≡ (true, true))
    × (pair lacks (entry 2 5 DefineProperty (Some a) one (SaidFlag true)) ≡ (false, true))
    × (pair lacks (entry 2 5 OwnKeys None SaidNothing (SaidKeys (a ∷ []))) ≡ (false, true))
    × (pair (entry 1 5 Has (Some a) SaidNothing (SaidFlag false))
    (entry 2 5 OwnKeys None SaidNothing (SaidKeys (a ∷ []))) ≡ (false, true))
    × (pair only (entry 2 5 OwnKeys None SaidNothing (SaidKeys (b ∷ a ∷ []))) ≡ (false, true))
    × (pair only (entry 2 5 OwnKeys None SaidNothing (SaidKeys [])) ≡ (true, true))
    × (pair only (entry 2 5 DefineProperty (Some a) one (SaidFlag true)) ≡ (false, true))
    × (pair above (entry 2 5 GetPrototypeOf None SaidNothing (SaidValue (Object 0))) ≡ (false, true))
    × (pair above (entry 2 5 SetPrototypeOf None (SaidValue (Object 0)) (SaidFlag true)) ≡ (false, true))
    × (pair above (entry 2 5 SetPrototypeOf None (SaidValue (Object 0)) (SaidFlag false)) ≡ (true, true))

pub row : Row
unfolding Row
row = (refl, refl, refl, refl, refl, refl, refl, refl, refl, refl, refl)
