-- What is accepted changes nothing the second time.
use Rattle.std.proofs.Common.{◌≡◌, Bool, true, false, not, ◌&&◌, ◌||◌, Option, None, Some, unwrap_or, refl, ap, subst}
use Rattle.mb_desc.specs.declared.descriptor.Desc.{Desc}
use Rattle.mb_desc.specs.declared.descriptor.Full.{Full}
use Rattle.mb_desc.specs.declared.descriptor.Full.TheVariants.{Datum, Accessor}
use Rattle.mb_desc.specs.Descriptors.{is_accessor_descriptor, is_data_descriptor, has_no_fields, is_configurable, IsOfOneKind}
use Rattle.mb_desc.specs.Validate.{same_flag, changes, refuses, Applied, Validate}
use Rattle.mb_desc.specs.Laws.{AcceptedAgain}

-- a field that was put over a value is there
pub given_again : {A : Type 0} (given : Option A) (there : A) → unwrap_or given (unwrap_or given there) ≡ unwrap_or given there
given_again None there = refl
given_again (Some x) there = refl

pub unchanged_again : {A : Type 0} (same : A → A → Bool) → ((x : A) → same x x ≡ true) → (given : Option A) (there : A) → changes same given (unwrap_or given there) ≡ false
unchanged_again same reflexive None there = refl
unchanged_again same reflexive (Some x) there = ap not (reflexive x)

pub false_again : (given : Option Bool) (there : Bool) → unwrap_or given there ≡ false → unwrap_or given false ≡ false
false_again None there h = refl
false_again (Some x) there h = h

pub written_again : (given : Option Bool) (there : Bool) → not (unwrap_or given there) && (unwrap_or given false || false) ≡ false
written_again None true = refl
written_again None false = refl
written_again (Some true) there = refl
written_again (Some false) there = refl

pub same_flag-refl : (x : Bool) → same_flag x x ≡ true
same_flag-refl true = refl
same_flag-refl false = refl

module _ {V : Type 0} (same : V → V → Bool) (undefined : V) (reflexive : (x : V) → same x x ≡ true) where
  applied_again : (current : Full V) (desc : Desc V) → IsOfOneKind desc → Applied undefined (Applied undefined current desc) desc ≡ Applied undefined current desc
  applied_again (Datum value writable enumerable configurable) desc one = by (is_accessor_descriptor desc) (is_data_descriptor desc) refl refl one
    where
      by : (a d : Bool) → is_accessor_descriptor desc ≡ a → is_data_descriptor desc ≡ d → d && a ≡ false → Applied undefined (Applied undefined (Datum value writable enumerable configurable) desc) desc ≡ Applied undefined (Datum value writable enumerable configurable) desc
      by true true ea ed h = cc
      by true false ea ed h = simp (ea, ed, given_again)
      by false d ea ed h = simp (ea, given_again)
  applied_again (Accessor get set enumerable configurable) desc one = by (is_accessor_descriptor desc) (is_data_descriptor desc) refl refl one
    where
      by : (a d : Bool) → is_accessor_descriptor desc ≡ a → is_data_descriptor desc ≡ d → d && a ≡ false → Applied undefined (Applied undefined (Accessor get set enumerable configurable) desc) desc ≡ Applied undefined (Accessor get set enumerable configurable) desc
      by true true ea ed h = cc
      by false true ea ed h = simp (ea, ed, given_again)
      by a false ea ed h = simp (ed, given_again)

  -- nothing of it is refused, where the property isn't configurable
  refuses_again : (current : Full V) (desc : Desc V) → IsOfOneKind desc → is_configurable (Applied undefined current desc) ≡ false → refuses same (Applied undefined current desc) desc ≡ false
  refuses_again (Datum value writable enumerable configurable) desc one = by (is_accessor_descriptor desc) (is_data_descriptor desc) refl refl one
    where
      by : (a d : Bool) → is_accessor_descriptor desc ≡ a → is_data_descriptor desc ≡ d → d && a ≡ false → is_configurable (Applied undefined (Datum value writable enumerable configurable) desc) ≡ false → refuses same (Applied undefined (Datum value writable enumerable configurable) desc) desc ≡ false
      by true true ea ed h fixed = cc
      by true false ea ed h fixed =
          let c : unwrap_or desc.configurable false ≡ false = false_again desc.configurable configurable (rw ea at fixed) in
          simp (ea, ed, c, unchanged_again same_flag same_flag-refl, unchanged_again same reflexive, written_again)
      by false true ea ed h fixed =
          let c : unwrap_or desc.configurable false ≡ false = false_again desc.configurable configurable (rw ea at fixed) in
          simp (ea, ed, c, unchanged_again same_flag same_flag-refl, unchanged_again same reflexive, written_again)
      by false false ea ed h fixed =
          let c : unwrap_or desc.configurable false ≡ false = false_again desc.configurable configurable (rw ea at fixed) in
          simp (ea, ed, c, unchanged_again same_flag same_flag-refl, unchanged_again same reflexive, written_again)
  refuses_again (Accessor get set enumerable configurable) desc one = by (is_accessor_descriptor desc) (is_data_descriptor desc) refl refl one
    where
      by : (a d : Bool) → is_accessor_descriptor desc ≡ a → is_data_descriptor desc ≡ d → d && a ≡ false → is_configurable (Applied undefined (Accessor get set enumerable configurable) desc) ≡ false → refuses same (Applied undefined (Accessor get set enumerable configurable) desc) desc ≡ false
      by true true ea ed h fixed = cc
      by true false ea ed h fixed =
          let c : unwrap_or desc.configurable false ≡ false = false_again desc.configurable configurable (rw ed at fixed) in
          simp (ea, ed, c, unchanged_again same_flag same_flag-refl, unchanged_again same reflexive, written_again)
      by false true ea ed h fixed =
          let c : unwrap_or desc.configurable false ≡ false = false_again desc.configurable configurable (rw ed at fixed) in
          simp (ea, ed, c, unchanged_again same_flag same_flag-refl, unchanged_again same reflexive, written_again)
      by false false ea ed h fixed =
          let c : unwrap_or desc.configurable false ≡ false = false_again desc.configurable configurable (rw ed at fixed) in
          simp (ea, ed, c, unchanged_again same_flag same_flag-refl, unchanged_again same reflexive, written_again)

  -- what was put over a property is accepted again
  pub settled : (extensible : Bool) (current : Full V) (desc : Desc V) → IsOfOneKind desc → Validate same undefined extensible (Some (Applied undefined current desc)) desc ≡ Some (Applied undefined current desc)
  unfolding Validate
  settled extensible current desc one = by (has_no_fields desc) (is_configurable (Applied undefined current desc)) refl refl
    where
      by : (n c : Bool) → has_no_fields desc ≡ n → is_configurable (Applied undefined current desc) ≡ c → Validate same undefined extensible (Some (Applied undefined current desc)) desc ≡ Some (Applied undefined current desc)
      by true c en ec = simp en
      by false true en ec = simp (en, ec, applied_again current desc one)
      by false false en ec = simp (en, ec, refuses_again current desc one ec, applied_again current desc one)

  pub accepted_again : AcceptedAgain same undefined
  unfolding Validate
  accepted_again true None desc after one h =
      let e : Applied undefined (Datum undefined false false false) desc ≡ after = cc in
      subst (λ (r : Full V). Validate same undefined true (Some r) desc ≡ Some r) e (settled true (Datum undefined false false false) desc one)
  accepted_again false None desc after one h = cc
  accepted_again extensible (Some current) desc after one h = by (has_no_fields desc) (not (is_configurable current) && refuses same current desc) refl refl
    where
      by : (n r : Bool) → has_no_fields desc ≡ n → not (is_configurable current) && refuses same current desc ≡ r → Validate same undefined extensible (Some after) desc ≡ Some after
      by true r en er = simp en
      by false true en er = let e : None ≡ Some after = rw (en, er) at h in cc
      by false false en er =
          let s : Some (Applied undefined current desc) ≡ Some after = rw (en, er) at h in
          let e : Applied undefined current desc ≡ after = cc in
          subst (λ (x : Full V). Validate same undefined extensible (Some x) desc ≡ Some x) e (settled extensible current desc one)
