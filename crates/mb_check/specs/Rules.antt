-- The invariants that the answer of a script-made Proxy's trap keeps (ECMA-262, 10.5), by their numbers in
-- docs/PROXY-RULES.md. `same` is SameValue and `undefined` the value undefined; `real` is what the target has, and
-- `extensible` tells whether the target is extensible.
use Rattle.std.specs.Prelude.{ℕ, Bool, true, false, not, ◌&&◌, List, [], ◌∷◌, ◌++◌, Option, Some, None, is_some, if◌then◌else◌}
use Rattle.mb_desc.specs.declared.descriptor.Desc.{Desc}
use Rattle.mb_desc.specs.declared.descriptor.Full.{Full}
use Rattle.mb_desc.specs.declared.descriptor.Full.TheVariants.{Datum, Accessor}
use Rattle.mb_desc.specs.Descriptors.{denies, is_configurable, is_fixed, is_writable, is_unwritable, property_is, descriptor_of}
use Rattle.mb_desc.specs.Validate.{same_flag, Validate}
use Rattle.mb_check.specs.Keys.{are_distinct, all_among}
use Rattle.mb_check.specs.declared.verdict.Verdict.{Verdict}
use Rattle.mb_check.specs.declared.verdict.Verdict.TheVariants.{Pass, Broken}

-- of rules in order, each with whether it is broken: the number of the first broken one
abbrev pub first_broken : List (Bool × ℕ) → Verdict
first_broken [] = Pass
first_broken (rule ∷ rules) = if rule.0 then Broken rule.1 else first_broken rules

module _ {V : Type 0} where
  -- IsCompatiblePropertyDescriptor (10.1.6.2)
  abbrev pub compatible : (same : V → V → Bool) (undefined : V)
      → (extensible : Bool) → (given : Desc V) → (real : Option (Full V)) → Bool
  compatible same undefined extensible given real = is_some (Validate same undefined extensible real given)

  -- the target's prototype, which is given where the target isn't extensible, is the one said or given
  abbrev pub same_prototype : (same : V → V → Bool) → ℕ → V → (real : Option V) → Verdict
  same_prototype same number prototype None = Pass
  same_prototype same number prototype (Some real) = first_broken ((not (same prototype real), number) ∷ [])

  -- a property is said to be absent: the numbers are those of the rule on a property that isn't configurable and of the
  -- rule on a target that isn't extensible
  abbrev pub absent : ℕ → ℕ → (real : Option (Full V)) → (extensible : Bool) → Verdict
  absent fixed closed None extensible = Pass
  absent fixed closed (Some property) extensible =
      first_broken ((is_fixed property, fixed) ∷ (not extensible, closed) ∷ [])

  -- getPrototypeOf (10.5.1)
  abbrev pub get_prototype : (same : V → V → Bool) → (said : V) → (real : Option V) → Verdict
  get_prototype same said real = same_prototype same 2 said real

  -- setPrototypeOf (10.5.2)
  abbrev pub set_prototype : (same : V → V → Bool) → (given : V) → (real : Option V) → Verdict
  set_prototype same given real = same_prototype same 3 given real

  -- getOwnPropertyDescriptor with undefined (10.5.5)
  abbrev pub own_absent : (real : Option (Full V)) → (extensible : Bool) → Verdict
  own_absent real extensible = absent 7 8 real extensible

  -- getOwnPropertyDescriptor with a property (10.5.5)
  abbrev pub own_present : (same : V → V → Bool) (undefined : V)
      → (said : Full V) → (real : Option (Full V)) → (extensible : Bool) → Verdict
  own_present same undefined said real extensible = first_broken
      ((not (compatible same undefined extensible (descriptor_of said) real), 9)
      ∷ (is_fixed said && not (property_is is_fixed real), 10)
      ∷ (is_fixed said && is_unwritable said && property_is is_writable real, 11) ∷ [])

  -- defineProperty with true (10.5.6)
  abbrev pub define : (same : V → V → Bool) (undefined : V)
      → (given : Desc V) → (real : Option (Full V)) → (extensible : Bool) → Verdict
  define same undefined given None extensible = first_broken
      ((not extensible, 12) ∷ (denies given.configurable, 13) ∷ [])
  define same undefined given (Some property) extensible = first_broken
      ((not (compatible same undefined extensible given (Some property)), 14)
      ∷ (denies given.configurable && is_configurable property, 15)
      ∷ (denies given.writable && is_writable property && is_fixed property, 16) ∷ [])

  -- has with false (10.5.7)
  abbrev pub has_not : (real : Option (Full V)) → (extensible : Bool) → Verdict
  has_not real extensible = absent 17 17 real extensible

  -- get (10.5.8)
  abbrev pub get : (same : V → V → Bool) (undefined : V) → (said : V) → (real : Option (Full V)) → Verdict
  get same undefined said None = Pass
  get same undefined said (Some (Datum value writable enumerable configurable)) = first_broken
      ((not configurable && not writable && not (same said value), 18) ∷ [])
  get same undefined said (Some (Accessor getter setter enumerable configurable)) = first_broken
      ((not configurable && same getter undefined && not (same said undefined), 18) ∷ [])

  -- set with true (10.5.9)
  abbrev pub set : (same : V → V → Bool) (undefined : V) → (given : V) → (real : Option (Full V)) → Verdict
  set same undefined given None = Pass
  set same undefined given (Some (Datum value writable enumerable configurable)) = first_broken
      ((not configurable && not writable && not (same given value), 19) ∷ [])
  set same undefined given (Some (Accessor getter setter enumerable configurable)) = first_broken
      ((not configurable && same setter undefined, 19) ∷ [])

  -- deleteProperty with true (10.5.10)
  abbrev pub delete : (real : Option (Full V)) → (extensible : Bool) → Verdict
  delete real extensible = absent 20 20 real extensible

  -- construct (10.5.13)
  abbrev pub construct : (is_object : V → Bool) → (said : V) → Verdict
  construct is_object said = first_broken ((not (is_object said), 24) ∷ [])

-- isExtensible (10.5.3)
abbrev pub is_extensible : (said extensible : Bool) → Verdict
is_extensible said extensible = first_broken ((not (same_flag said extensible), 4) ∷ [])

-- preventExtensions with true (10.5.4)
abbrev pub prevent_extensions : (extensible : Bool) → Verdict
prevent_extensions extensible = first_broken ((extensible, 5) ∷ [])

-- ownKeys (10.5.11), by the target's keys of properties that aren't configurable (`fixed`) and of the others (`loose`)
abbrev pub own_keys : {K : Type 0} → (same : K → K → Bool) → (said fixed loose : List K) → (extensible : Bool) → Verdict
own_keys same said fixed loose extensible = first_broken
    ((not (are_distinct same said), 21)
    ∷ (not (all_among same fixed said), 22)
    ∷ (not extensible && not (all_among same (fixed ++ loose) said && all_among same said (fixed ++ loose)), 23) ∷ [])
