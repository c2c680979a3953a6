use Rattle.std.specs.Prelude.{◌≡◌, refl, ℕ, List, [], ◌∷◌, Bool, true, false, Option, Some, None, codes, pos}
use Rattle.mb_world.specs.declared.entry.Op.{Op}
use Rattle.mb_world.specs.declared.entry.Op.TheVariants.{IsExtensible, GetOwnPropertyDescriptor, DefineProperty, Has, Get, Set, DeleteProperty, OwnKeys}
use Rattle.mb_desc.specs.declared.descriptor.Full.TheVariants.{Datum}
use Rattle.mb_world.specs.Value.{Val, Null, Whole}
use Rattle.mb_world.specs.Key.{PropertyKey, Named}
use Rattle.mb_desc.specs.Descriptors.{descriptor_of}
use Rattle.mb_world.specs.Graph.{Said, SaidNothing, SaidFlag, SaidValue, SaidAbsent, SaidProperty, SaidKeys, Entry}
use Rattle.mb_model.specs.Trace.Lawful.{is_lawful}

-- which entries contradict earlier ones (ECMA-262 6.1.7.3), each pair once where the second began behind the first, and
-- once where both were under way

abbrev entry : (began : ℕ) → Op → Option PropertyKey → (given answer : Said) → Entry
entry began op key given answer =
    record { began = began; side = 1; object = 5; op = op; key = key; given = given; answer = answer }

abbrev a : PropertyKey
a = Named (codes "a")

abbrev b : PropertyKey
b = Named (codes "b")

abbrev one : Val
one = Whole (pos 1)

-- the value is 1, for good
abbrev fixed : Said
fixed = SaidProperty (descriptor_of (Datum one false true false))

abbrev loose : Said
loose = SaidProperty (descriptor_of (Datum one true true true))

-- the second entry began behind this one; then at the same time
abbrev pair : Entry → (ℕ → Entry) → Bool × Bool
pair e f = (is_lawful (e ∷ f 1 ∷ []), is_lawful (e ∷ f 0 ∷ []))

abbrev told : Entry
told = entry 0 GetOwnPropertyDescriptor (Some a) SaidNothing fixed

pub Row : Type 0
Row =
    -- a closed object isn't extensible again
    (pair (entry 0 IsExtensible None SaidNothing (SaidFlag false))
    (λ n. entry n IsExtensible None SaidNothing (SaidFlag true)) ≡ (false, true))
    -- a fixed value stays, and so do its key and its flags
    × (pair told (λ n. entry n Get (Some a) SaidNothing (SaidValue Null)) ≡ (false, true))
    × (pair told (λ n. entry n Get (Some a) SaidNothing (SaidValue one)) ≡ (true, true))
    × (pair told (λ n. entry n Get (Some b) SaidNothing (SaidValue Null)) ≡ (true, true))
    × (pair told (λ n. entry n Set (Some a) (SaidValue Null) (SaidFlag true)) ≡ (false, true))
    × (pair told (λ n. entry n Has (Some a) SaidNothing (SaidFlag false)) ≡ (false, true))
    × (pair told (λ n. entry n DeleteProperty (Some a) SaidNothing (SaidFlag true)) ≡ (false, true))
    × (pair told (λ n. entry n OwnKeys None SaidNothing (SaidKeys (b ∷ []))) ≡ (false, true))
    × (pair told (λ n. entry n GetOwnPropertyDescriptor (Some a) SaidNothing SaidAbsent) ≡ (false, true))
    × (pair told (λ n. entry n GetOwnPropertyDescriptor (Some a) SaidNothing loose) ≡ (false, true))
    × (pair told (λ n. entry n DefineProperty (Some a) loose (SaidFlag true)) ≡ (false, true))
    × (pair told (λ n. entry n DefineProperty (Some a) loose (SaidFlag false)) ≡ (true, true))

pub row : Row
unfolding Row
row = (refl, refl, refl, refl, refl, refl, refl, refl, refl, refl, refl, refl)
