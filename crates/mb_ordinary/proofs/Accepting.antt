-- What a descriptor makes of a property is what it makes of what the property stands for.
use Rattle.std.proofs.Common.{◌≡◌, List, [], ◌∷◌, ◌++◌, Bool, true, false, not, ◌&&◌, ◌||◌, Option, Some, None, is_some, unwrap_or, option_map, refl, ap, ◌∙◌, arith, if◌then◌else◌}
use Rattle.std.specs.Prelude.{Contains}
use Rattle.std.proofs.lemmas.List.Elements.{Contains-append_left, Contains-append_right}
use Rattle.mb_base.specs.declared.value.Value.{Value}
use Rattle.mb_base.specs.declared.value.Value.TheVariants as v
use Rattle.mb_desc.specs.declared.descriptor.Desc.{Desc}
use Rattle.mb_desc.specs.declared.descriptor.Full.{Full}
use Rattle.mb_desc.specs.declared.descriptor.Full.TheVariants.{Datum, Accessor}
use Rattle.mb_desc.specs.Descriptors.{is_accessor_descriptor, is_data_descriptor, has_no_fields, is_configurable, Complete}
use Rattle.mb_desc.specs.Validate.{changes, refuses, refuses_fields, Applied, Validate}
use Rattle.mb_desc.specs.Values.{equal}
use Rattle.mb_text.specs.Texts.{AreDistinct}
use Rattle.mb_world.specs.Value.{Val, Undefined, same_value}
use Rattle.mb_world.specs.Data.{Data}
use Rattle.mb_world.specs.Ids.{Maybe, ValueIn, FullIn}
use Rattle.mb_world.specs.Image.{Names, names_of, Resolve, full_in, desc_in}
use Rattle.mb_world.specs.Formed.{option_values}
use Rattle.mb_ordinary.specs.Definitions.{TellsApart, desc_values, property_values, DescIn}
use Rattle.mb_world.proofs.Values.{same-as}

-- ---- fields

unwrap-map : (n : Names) (o : Option Value) → unwrap_or (option_map (Resolve n) o) Undefined ≡ Resolve n (unwrap_or o v.Undefined)
unwrap-map n None = refl
unwrap-map n (Some x) = refl

unwrap-over : (n : Names) (o : Option Value) (x : Value) → unwrap_or (option_map (Resolve n) o) (Resolve n x) ≡ Resolve n (unwrap_or o x)
unwrap-over n None x = refl
unwrap-over n (Some y) x = refl

either-map : (n : Names) (a b : Option Value) → is_some (option_map (Resolve n) a) || is_some (option_map (Resolve n) b) ≡ is_some a || is_some b
either-map n None None = refl
either-map n None (Some b) = refl
either-map n (Some a) b = refl

value-map : (n : Names) (a : Option Value) (b : Option Bool) → is_some (option_map (Resolve n) a) || is_some b ≡ is_some a || is_some b
value-map n None b = refl
value-map n (Some a) b = refl

module _ (n : Names) (desc : Desc Value) where
  accessor-map : is_accessor_descriptor (desc_in (Resolve n) desc) ≡ is_accessor_descriptor desc
  accessor-map = either-map n desc.get desc.set

  data-map : is_data_descriptor (desc_in (Resolve n) desc) ≡ is_data_descriptor desc
  data-map = value-map n desc.value desc.writable

  none-map : has_no_fields (desc_in (Resolve n) desc) ≡ has_no_fields desc
  none-map =
      ap (λ b. not b && not (is_data_descriptor (desc_in (Resolve n) desc)) && not (is_some desc.enumerable) && not (is_some desc.configurable)) accessor-map
      ∙ ap (λ b. not (is_accessor_descriptor desc) && not b && not (is_some desc.enumerable) && not (is_some desc.configurable)) data-map

  accessors : (a b : Val) (s t : Value) (e c : Bool) → a ≡ Resolve n s → b ≡ Resolve n t → Accessor a b e c ≡ full_in n (Accessor s t e c)
  accessors a b s t e c p q = rw (p, q) refl

  datums : (a : Val) (s : Value) (w e c : Bool) → a ≡ Resolve n s → Datum a w e c ≡ full_in n (Datum s w e c)
  datums a s w e c p = rw p refl

  either : (b : Bool) (x y : Full Val) (s t : Full Value) → x ≡ full_in n s → y ≡ full_in n t → (if b then x else y) ≡ full_in n (if b then s else t)
  either true x y s t p q = p
  either false x y s t p q = q

  complete-map : Complete Undefined (desc_in (Resolve n) desc) ≡ full_in n (Complete v.Undefined desc)
  complete-map = rw accessor-map
      (either (is_accessor_descriptor desc) _ _ _ _
      (accessors _ _ _ _ (unwrap_or desc.enumerable false) (unwrap_or desc.configurable false) (unwrap-map n desc.get) (unwrap-map n desc.set))
      (datums _ _ (unwrap_or desc.writable false) (unwrap_or desc.enumerable false) (unwrap_or desc.configurable false) (unwrap-map n desc.value)))

  applied-map : (p : Full Value) → Applied Undefined (full_in n p) (desc_in (Resolve n) desc) ≡ full_in n (Applied v.Undefined p desc)
  applied-map (Datum x w e c) = rw accessor-map
      (either (is_accessor_descriptor desc) _ _ _ _
      (accessors _ _ _ _ (unwrap_or desc.enumerable e) (unwrap_or desc.configurable c) (unwrap-map n desc.get) (unwrap-map n desc.set))
      (datums _ _ (unwrap_or desc.writable w) (unwrap_or desc.enumerable e) (unwrap_or desc.configurable c) (unwrap-over n desc.value x)))
  applied-map (Accessor g s e c) = rw data-map
      (either (is_data_descriptor desc) _ _ _ _
      (datums _ _ (unwrap_or desc.writable false) (unwrap_or desc.enumerable e) (unwrap_or desc.configurable c) (unwrap-map n desc.value))
      (accessors _ _ _ _ (unwrap_or desc.enumerable e) (unwrap_or desc.configurable c) (unwrap-over n desc.get g) (unwrap-over n desc.set s)))

-- ---- what is refused

-- a given value compares with another as what they stand for does
abbrev Compares : Names → Option Value → Value → Type 0
Compares n o y = (x : Value) → o ≡ Some x → same_value (Resolve n x) (Resolve n y) ≡ equal x y

changes-map : (n : Names) (o : Option Value) (y : Value) → Compares n o y → changes same_value (option_map (Resolve n) o) (Resolve n y) ≡ changes equal o y
changes-map n None y h = refl
changes-map n (Some x) y h = ap not (h x refl)

abbrev pub ComparesAll : Names → Full Value → Desc Value → Type 0
ComparesAll n (Datum x w e c) desc = Compares n desc.value x
ComparesAll n (Accessor g s e c) desc = Compares n desc.get g × Compares n desc.set s

module _ (n : Names) (desc : Desc Value) where
  fields-map : (p : Full Value) → ComparesAll n p desc → refuses_fields same_value (full_in n p) (desc_in (Resolve n) desc) ≡ refuses_fields equal p desc
  fields-map (Datum x w e c) h = ap (λ b. not w && (unwrap_or desc.writable false || b)) (changes-map n desc.value x h)
  fields-map (Accessor g s e c) h =
      ap (λ b. b || changes same_value (option_map (Resolve n) desc.set) (Resolve n s)) (changes-map n desc.get g h.0)
      ∙ ap (λ b. changes equal desc.get g || b) (changes-map n desc.set s h.1)

  refuses-map : (p : Full Value) → ComparesAll n p desc → refuses same_value (full_in n p) (desc_in (Resolve n) desc) ≡ refuses equal p desc
  refuses-map (Datum x w e c) h = rw (accessor-map n desc, data-map n desc, fields-map (Datum x w e c) h) refl
  refuses-map (Accessor g s e c) h = rw (accessor-map n desc, data-map n desc, fields-map (Accessor g s e c) h) refl

  choose : (a b : Bool) (p q : Full Value) (x y : Full Val) → x ≡ full_in n p → y ≡ full_in n q → (if a then Some x else if b then None else Some y) ≡ option_map (full_in n) (if a then Some p else if b then None else Some q)
  choose true b p q x y e f = ap Some e
  choose false true p q x y e f = refl
  choose false false p q x y e f = ap Some f

  some-if : (b : Bool) (x : Full Val) (p : Full Value) → x ≡ full_in n p → (if b then Some x else None) ≡ option_map (full_in n) (if b then Some p else None)
  some-if true x p e = ap Some e
  some-if false x p e = refl

  abbrev pub ComparesThere : Option (Full Value) → Type 0
  ComparesThere None = Unit {0}
  ComparesThere (Some p) = ComparesAll n p desc

  pub validate-map : (ext : Bool) (there : Option (Full Value)) → ComparesThere there → Validate same_value Undefined ext (option_map (full_in n) there) (desc_in (Resolve n) desc) ≡ option_map (full_in n) (Validate equal v.Undefined ext there desc)
  unfolding Validate
  validate-map ext None h = some-if ext _ _ (complete-map n desc)
  validate-map ext (Some (Datum x w e c)) h = rw (none-map n desc, refuses-map (Datum x w e c) h)
      (choose (has_no_fields desc) (not c && refuses equal (Datum x w e c) desc) (Datum x w e c) _ _ _ refl (applied-map n desc (Datum x w e c)))
  validate-map ext (Some (Accessor g s e c)) h = rw (none-map n desc, refuses-map (Accessor g s e c) h)
      (choose (has_no_fields desc) (not c && refuses equal (Accessor g s e c) desc) (Accessor g s e c) _ _ _ refl (applied-map n desc (Accessor g s e c)))

-- ---- the values that are compared

has-only : (x : Value) → Contains (x ∷ []) x
has-only x = (0, omega arith, refl)

given : (o : Option Value) (x : Value) → o ≡ Some x → Contains (option_values o) x
given None x e = cc
given (Some y) x e = let f : y ≡ x = cc in (0, omega arith, f)

module _ (d : Data) (distinct : AreDistinct d.texts) (desc : Desc Value) (desc_in_d : DescIn d desc) where
  field-in : (o : Option Value) (x : Value) → Maybe (ValueIn d) o → o ≡ Some x → ValueIn d x
  field-in None x h e = cc
  field-in (Some y) x h e = let f : y ≡ x = cc in rw (← f) h

  of-value : (x : Value) → desc.value ≡ Some x → Contains (desc_values desc) x
  of-value x e = Contains-append_left (option_values desc.value ++ option_values desc.get) (option_values desc.set) x (Contains-append_left (option_values desc.value) (option_values desc.get) x (given desc.value x e))

  of-get : (x : Value) → desc.get ≡ Some x → Contains (desc_values desc) x
  of-get x e = Contains-append_left (option_values desc.value ++ option_values desc.get) (option_values desc.set) x (Contains-append_right (option_values desc.value) (option_values desc.get) x (given desc.get x e))

  of-set : (x : Value) → desc.set ≡ Some x → Contains (desc_values desc) x
  of-set x e = Contains-append_right (option_values desc.value ++ option_values desc.get) (option_values desc.set) x (given desc.set x e)

  compares : (xs ys : List Value) (o : Option Value) (y : Value) → TellsApart d (xs ++ ys) → ((x : Value) → o ≡ Some x → Contains xs x) → Maybe (ValueIn d) o → Contains ys y → ValueIn d y → Compares (names_of d) o y
  compares xs ys o y apart in_xs h in_ys k x e =
      same-as d distinct x y (field-in o x h e) k
      (λ a b p q s. apart a b (rw (← p) (Contains-append_left xs ys x (in_xs x e))) (rw (← q) (Contains-append_right xs ys y in_ys)) s)

  pub compares-there : (there : Option (Full Value)) → Maybe (FullIn d) there → TellsApart d (desc_values desc ++ property_values there) → ComparesThere (names_of d) desc there
  compares-there None h apart = tt
  compares-there (Some (Datum x w e c)) h apart = compares (desc_values desc) (x ∷ []) desc.value x apart of-value desc_in_d.value_in (has-only x) h
  compares-there (Some (Accessor g s e c)) h apart = (
    compares (desc_values desc) (g ∷ s ∷ []) desc.get g apart of-get desc_in_d.get_in (0, omega arith, refl) h.0,
    compares (desc_values desc) (g ∷ s ∷ []) desc.set s apart of-set desc_in_d.set_in (1, omega arith, refl) h.1,
  )

-- ---- what is made is of the world

module _ (d : Data) where
  or-in : (o : Option Value) (x : Value) → Maybe (ValueIn d) o → ValueIn d x → ValueIn d (unwrap_or o x)
  or-in None x h k = k
  or-in (Some y) x h k = h

  if-in : (b : Bool) (x y : Full Value) → FullIn d x → FullIn d y → FullIn d (if b then x else y)
  if-in true x y h k = h
  if-in false x y h k = k

  complete-in : (desc : Desc Value) → DescIn d desc → FullIn d (Complete v.Undefined desc)
  complete-in desc h = if-in (is_accessor_descriptor desc) _ _ (or-in desc.get v.Undefined h.get_in tt, or-in desc.set v.Undefined h.set_in tt) (or-in desc.value v.Undefined h.value_in tt)

  applied-in : (p : Full Value) (desc : Desc Value) → FullIn d p → DescIn d desc → FullIn d (Applied v.Undefined p desc)
  applied-in (Datum x w e c) desc k h = if-in (is_accessor_descriptor desc) _ _ (or-in desc.get v.Undefined h.get_in tt, or-in desc.set v.Undefined h.set_in tt) (or-in desc.value x h.value_in k)
  applied-in (Accessor g s e c) desc k h = if-in (is_data_descriptor desc) _ _ (or-in desc.value v.Undefined h.value_in tt) (or-in desc.get g h.get_in k.0, or-in desc.set s h.set_in k.1)

  some-in : (b : Bool) (x p : Full Value) → FullIn d x → (if b then Some x else None) ≡ Some p → FullIn d p
  some-in true x p h e = let f : x ≡ p = cc in rw (← f) h
  some-in false x p h e = cc

  choose-in : (a b : Bool) (x y p : Full Value) → FullIn d x → FullIn d y → (if a then Some x else if b then None else Some y) ≡ Some p → FullIn d p
  choose-in true b x y p h k e = let f : x ≡ p = cc in rw (← f) h
  choose-in false true x y p h k e = cc
  choose-in false false x y p h k e = let f : y ≡ p = cc in rw (← f) k

  pub accepted-in : (ext : Bool) (there : Option (Full Value)) (desc : Desc Value) (p : Full Value) → Maybe (FullIn d) there → DescIn d desc → Validate equal v.Undefined ext there desc ≡ Some p → FullIn d p
  unfolding Validate
  accepted-in ext None desc p k h e = some-in ext _ p (complete-in desc h) e
  accepted-in ext (Some q) desc p k h e = choose-in (has_no_fields desc) (not (is_configurable q) && refuses equal q desc) q _ p k (applied-in q desc k h) e
