-- What a property that isn't configurable keeps.
use Rattle.std.proofs.Common.{◌≡◌, Bool, true, false, not, ◌&&◌, ◌||◌, Option, None, Some, unwrap_or, refl, sym, ◌∙◌, subst}
use Rattle.mb_desc.specs.declared.descriptor.Desc.{Desc}
use Rattle.mb_desc.specs.declared.descriptor.Full.{Full}
use Rattle.mb_desc.specs.declared.descriptor.Full.TheVariants.{Datum, Accessor}
use Rattle.mb_desc.specs.Descriptors.{is_accessor_descriptor, is_data_descriptor, is_generic_descriptor, has_no_fields, is_configurable, IsOfOneKind}
use Rattle.mb_desc.specs.Validate.{same_flag, changes, refuses, Applied, Validate}
use Rattle.mb_desc.specs.Laws.{KeepsFixed, FixedIsKept}

-- a field that doesn't change the value there
pub given_same : {A : Type 0} (same : A → A → Bool) → ((x y : A) → same x y ≡ true → x ≡ y) → (given : Option A) (there : A) → changes same given there ≡ false → unwrap_or given there ≡ there
given_same same sound None there h = refl
given_same same sound (Some x) there h = sound x there (by (same x there) refl)
  where
    by : (b : Bool) → same x there ≡ b → same x there ≡ true
    by true e = e
    by false e = let f : true ≡ false = rw e at h in cc

pub given_false : (given : Option Bool) (there : Bool) → unwrap_or given false ≡ false → there ≡ false → unwrap_or given there ≡ there
given_false None there h fixed = refl
given_false (Some x) there h fixed = h ∙ sym fixed

pub same_flag-sound : (x y : Bool) → same_flag x y ≡ true → x ≡ y
same_flag-sound true true h = refl
same_flag-sound true false h = cc
same_flag-sound false true h = cc
same_flag-sound false false h = refl

pub two_false : (a b : Bool) → a || b ≡ false → (a ≡ false) × (b ≡ false)
two_false true b h = cc
two_false false b h = (refl, h)

pub four_false : (a b c d : Bool) → a || b || c || d ≡ false → (a ≡ false) × (b ≡ false) × (c ≡ false) × (d ≡ false)
four_false true b c d h = cc
four_false false true c d h = cc
four_false false false true d h = cc
four_false false false false d h = (refl, refl, refl, h)

module _ {V : Type 0} (same : V → V → Bool) (undefined : V) (sound : (x y : V) → same x y ≡ true → x ≡ y) where
  -- a property that isn't configurable and refuses nothing of the descriptor
  applied_keeps : (current : Full V) (desc : Desc V) → IsOfOneKind desc → is_configurable current ≡ false → refuses same current desc ≡ false → KeepsFixed current (Applied undefined current desc)
  applied_keeps (Datum value writable enumerable configurable) desc one fixed h = by (is_accessor_descriptor desc) refl
    where
      parts : (unwrap_or desc.configurable false ≡ false) × (changes same_flag desc.enumerable enumerable ≡ false) × (not (is_generic_descriptor desc) && not (same_flag (is_accessor_descriptor desc) false) ≡ false) × (not writable && (unwrap_or desc.writable false || changes same desc.value value) ≡ false)
      parts = four_false (unwrap_or desc.configurable false) (changes same_flag desc.enumerable enumerable) (not (is_generic_descriptor desc) && not (same_flag (is_accessor_descriptor desc) false)) (not writable && (unwrap_or desc.writable false || changes same desc.value value)) h

      unwritten : writable ≡ false → (unwrap_or desc.writable writable ≡ false) × (unwrap_or desc.value value ≡ value)
      unwritten w =
          let f : unwrap_or desc.writable false || changes same desc.value value ≡ false = rw w at parts.3 in
          let g : (unwrap_or desc.writable false ≡ false) × (changes same desc.value value ≡ false) = two_false (unwrap_or desc.writable false) (changes same desc.value value) f in
          (given_false desc.writable writable g.0 w ∙ w, given_same same sound desc.value value g.1)

      by : (a : Bool) → is_accessor_descriptor desc ≡ a → KeepsFixed (Datum value writable enumerable configurable) (Applied undefined (Datum value writable enumerable configurable) desc)
      by true ea = let f : true ≡ false = rw ea at parts.2 in cc
      by false ea = rw ea (given_same same_flag same_flag-sound desc.enumerable enumerable parts.1, given_false desc.configurable configurable parts.0 fixed, unwritten)
  applied_keeps (Accessor get set enumerable configurable) desc one fixed h = by (is_accessor_descriptor desc) (is_data_descriptor desc) refl refl one
    where
      parts : (unwrap_or desc.configurable false ≡ false) × (changes same_flag desc.enumerable enumerable ≡ false) × (not (is_generic_descriptor desc) && not (same_flag (is_accessor_descriptor desc) true) ≡ false) × (changes same desc.get get || changes same desc.set set ≡ false)
      parts = four_false (unwrap_or desc.configurable false) (changes same_flag desc.enumerable enumerable) (not (is_generic_descriptor desc) && not (same_flag (is_accessor_descriptor desc) true)) (changes same desc.get get || changes same desc.set set) h

      by : (a d : Bool) → is_accessor_descriptor desc ≡ a → is_data_descriptor desc ≡ d → d && a ≡ false → Applied undefined (Accessor get set enumerable configurable) desc ≡ Accessor get set enumerable configurable
      by true true ea ed one = cc
      by false true ea ed one = let f : true ≡ false = rw (ea, ed) at parts.2 in cc
      by a false ea ed one =
          let f : (changes same desc.get get ≡ false) × (changes same desc.set set ≡ false) = two_false (changes same desc.get get) (changes same desc.set set) parts.3 in
          let g : unwrap_or desc.get get ≡ get = given_same same sound desc.get get f.0 in
          let s : unwrap_or desc.set set ≡ set = given_same same sound desc.set set f.1 in
          let e : unwrap_or desc.enumerable enumerable ≡ enumerable = given_same same_flag same_flag-sound desc.enumerable enumerable parts.1 in
          let c : unwrap_or desc.configurable configurable ≡ configurable = given_false desc.configurable configurable parts.0 fixed in
          simp (ed, g, s, e, c)

  pub fixed_is_kept : FixedIsKept same undefined
  unfolding Validate
  fixed_is_kept extensible current desc after one fixed h = by (has_no_fields desc) (refuses same current desc) refl refl
    where
      stays : (current : Full V) → KeepsFixed current current
      stays (Datum value writable enumerable configurable) = (refl, refl, λ w. (w, refl))
      stays (Accessor get set enumerable configurable) = refl

      by : (n r : Bool) → has_no_fields desc ≡ n → refuses same current desc ≡ r → KeepsFixed current after
      by true r en er =
          let s : Some current ≡ Some after = rw en at h in
          let e : current ≡ after = cc in
          subst (λ (x : Full V). KeepsFixed current x) e (stays current)
      by false true en er = let e : None ≡ Some after = rw (en, fixed, er) at h in cc
      by false false en er =
          let s : Some (Applied undefined current desc) ≡ Some after = rw (en, fixed, er) at h in
          let e : Applied undefined current desc ≡ after = cc in
          subst (λ (x : Full V). KeepsFixed current x) e (applied_keeps current desc one fixed er)
