-- Which objects stand in what a definition stores.
use Rattle.std.proofs.Common.{◌≡◌, List, [], ◌∷◌, ◌++◌, Bool, true, false, not, ◌&&◌, Option, Some, None, unwrap_or, if◌then◌else◌, refl, arith}
use Rattle.std.specs.Prelude.{All, Contains}
use Rattle.std.specs.List.{flat_map}
use Rattle.std.proofs.lemmas.List.Elements.{All-cons, All-head, All-tail, All-weaker, All-contains_itself, Contains-append_left, Contains-append_right}
use Rattle.mb_base.specs.declared.value.Key.{Key}
use Rattle.mb_base.specs.declared.value.Value.{Value}
use Rattle.mb_base.specs.declared.value.Value.TheVariants as v
use Rattle.mb_desc.specs.declared.descriptor.Desc.{Desc}
use Rattle.mb_desc.specs.declared.descriptor.Full.{Full}
use Rattle.mb_desc.specs.declared.descriptor.Full.TheVariants.{Datum, Accessor}
use Rattle.mb_desc.specs.Descriptors.{is_accessor_descriptor, is_data_descriptor, has_no_fields, is_configurable, Complete}
use Rattle.mb_desc.specs.Validate.{refuses, Applied, Validate}
use Rattle.mb_desc.specs.Values.{equal}
use Rattle.mb_props.specs.Table.{same_key, found}
use Rattle.mb_world.specs.Ids.{Maybe}
use Rattle.mb_world.specs.Formed.{full_values, option_values}
use Rattle.mb_ordinary.specs.Definitions.{desc_values}
use Rattle.mb_array.specs.Define.{known_values, IsKnown, HoldsKnown}

pub known-of : (known : List Value) (x : Value) → Contains known x → IsKnown known x
known-of known v.Undefined h = tt
known-of known v.Null h = tt
known-of known (v.Bool b) h = tt
known-of known (v.Whole z) h = tt
known-of known (v.Text t) h = tt
known-of known (v.Symbol t) h = tt
known-of known (v.Object a) h = h

-- the values of a property are among those of the table
here-known : (ps : List (Key × Full Value)) → All (λ p. All (Contains (flat_map (λ p. full_values p.1) ps)) (full_values p.1)) ps
here-known [] = λ k d l. absurd (omega arith)
here-known (p ∷ ps) =
    let front : List Value = full_values p.1 in
    let rest : List Value = flat_map (λ (p : Key × Full Value). full_values p.1) ps in
    All-cons (λ q. All (Contains (front ++ rest)) (full_values q.1)) p ps
    (All-weaker (Contains front) (Contains (front ++ rest)) (λ x h. Contains-append_left front rest x h) front (All-contains_itself front))
    (All-weaker (λ q. All (Contains rest) (full_values q.1)) (λ q. All (Contains (front ++ rest)) (full_values q.1))
    (λ q h. All-weaker (Contains rest) (Contains (front ++ rest)) (λ x k. Contains-append_right front rest x k) (full_values q.1) h) ps (here-known ps))

pub table-known : (ps : List (Key × Full Value)) (desc : Desc Value) → All (HoldsKnown (known_values ps desc)) ps
table-known ps desc =
    let table : List Value = flat_map (λ (p : Key × Full Value). full_values p.1) ps in
    All-weaker (λ q. All (Contains table) (full_values q.1)) (HoldsKnown (known_values ps desc))
    (λ q h. All-weaker (Contains table) (IsKnown (known_values ps desc)) (λ x k. known-of (known_values ps desc) x (Contains-append_left table (desc_values desc) x k)) (full_values q.1) h) ps (here-known ps)

-- ---- what a descriptor makes

module _ (P : Value → Type 0) (none : P v.Undefined) where
  abbrev pub Has : Full Value → Type 0
  Has (Datum x w e c) = P x
  Has (Accessor g s e c) = P g × P s

  or-has : (o : Option Value) (x : Value) → Maybe P o → P x → P (unwrap_or o x)
  or-has None x h k = k
  or-has (Some y) x h k = h

  if-has : (b : Bool) (x y : Full Value) → Has x → Has y → Has (if b then x else y)
  if-has true x y h k = h
  if-has false x y h k = k

  some-has : (b : Bool) (x p : Full Value) → Has x → (if b then Some x else None) ≡ Some p → Has p
  some-has true x p h e = let f : x ≡ p = cc in rw (← f) h
  some-has false x p h e = cc

  choose-has : (a b : Bool) (x y p : Full Value) → Has x → Has y → (if a then Some x else if b then None else Some y) ≡ Some p → Has p
  choose-has true b x y p h k e = let f : x ≡ p = cc in rw (← f) h
  choose-has false true x y p h k e = cc
  choose-has false false x y p h k e = let f : y ≡ p = cc in rw (← f) k

  module _ (desc : Desc Value) (value : Maybe P desc.value) (get : Maybe P desc.get) (set : Maybe P desc.set) where
    complete-has : Has (Complete v.Undefined desc)
    complete-has = if-has (is_accessor_descriptor desc) _ _ (or-has desc.get v.Undefined get none, or-has desc.set v.Undefined set none) (or-has desc.value v.Undefined value none)

    applied-has : (p : Full Value) → Has p → Has (Applied v.Undefined p desc)
    applied-has (Datum x w e c) k = if-has (is_accessor_descriptor desc) _ _ (or-has desc.get v.Undefined get none, or-has desc.set v.Undefined set none) (or-has desc.value x value k)
    applied-has (Accessor g s e c) k = if-has (is_data_descriptor desc) _ _ (or-has desc.value v.Undefined value none) (or-has desc.get g get k.0, or-has desc.set s set k.1)

    validate-has : (ext : Bool) (there : Option (Full Value)) (p : Full Value) → Maybe Has there → Validate equal v.Undefined ext there desc ≡ Some p → Has p
    unfolding Validate
    validate-has ext None p h e = some-has ext _ p complete-has e
    validate-has ext (Some q) p h e = choose-has (has_no_fields desc) (not (is_configurable q) && refuses equal q desc) q _ p h (applied-has q h) e

-- ---- so what is stored is known

all-has : (P : Value → Type 0) (none : P v.Undefined) (p : Full Value) → Has P none p → All P (full_values p)
all-has P none (Datum x w e c) h = All-cons P x [] h (λ k d l. absurd (omega arith))
all-has P none (Accessor g s e c) h = All-cons P g (s ∷ []) h.0 (All-cons P s [] h.1 (λ k d l. absurd (omega arith)))

has-all : (P : Value → Type 0) (none : P v.Undefined) (p : Full Value) → All P (full_values p) → Has P none p
has-all P none (Datum x w e c) h = All-head P x [] h
has-all P none (Accessor g s e c) h = (All-head P g (s ∷ []) h, All-head P s [] (All-tail P g (s ∷ []) h))

found-known : (known : List Value) (ps : List (Key × Full Value)) (key : Key) → All (HoldsKnown known) ps → Maybe (Has (IsKnown known) tt) (found ps key)
found-known known [] key h = tt
found-known known (p ∷ ps) key h = by (same_key key p.0) (found-known known ps key (All-tail (HoldsKnown known) p ps h))
  where
    by : (b : Bool) → Maybe (Has (IsKnown known) tt) (found ps key) → Maybe (Has (IsKnown known) tt) (if b then Some p.1 else found ps key)
    by true r = has-all (IsKnown known) tt p.1 (All-head (HoldsKnown known) p ps h)
    by false r = r

given-known : (known : List Value) (o : Option Value) → ((x : Value) → Contains (option_values o) x → Contains known x) → Maybe (IsKnown known) o
given-known known None h = tt
given-known known (Some x) h = known-of known x (h x (0, omega arith, refl))

pub stored-known : (ps : List (Key × Full Value)) (desc : Desc Value) (ext : Bool) (key : Key) (p : Full Value) → Validate equal v.Undefined ext (found ps key) desc ≡ Some p → All (IsKnown (known_values ps desc)) (full_values p)
stored-known ps desc ext key p e =
    let table : List Value = flat_map (λ (p : Key × Full Value). full_values p.1) ps in
    let known : List Value = known_values ps desc in
    let of_desc : (x : Value) → Contains (desc_values desc) x → Contains known x = λ x h. Contains-append_right table (desc_values desc) x h in
    let front : List Value = option_values desc.value ++ option_values desc.get in
    let last : List Value = option_values desc.set in
    all-has (IsKnown known) tt p
    (validate-has (IsKnown known) tt desc
    (given-known known desc.value (λ x h. of_desc x (Contains-append_left front last x (Contains-append_left (option_values desc.value) (option_values desc.get) x h))))
    (given-known known desc.get (λ x h. of_desc x (Contains-append_left front last x (Contains-append_right (option_values desc.value) (option_values desc.get) x h))))
    (given-known known desc.set (λ x h. of_desc x (Contains-append_right front last x h)))
    ext (found ps key) p (found-known known ps key (table-known ps desc)) e)

pub maybe-all : (P : Full Value → Type 0) (o : Option (Full Value)) → ((p : Full Value) → o ≡ Some p → P p) → Maybe P o
maybe-all P None h = tt
maybe-all P (Some p) h = h p refl
