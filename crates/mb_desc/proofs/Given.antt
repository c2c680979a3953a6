-- What is given is there, and the rest stays.
use Rattle.std.proofs.Common.{◌≡◌, Bool, true, false, not, ◌&&◌, Option, None, Some, is_some, unwrap_or, refl, subst}
use Rattle.mb_desc.specs.declared.descriptor.Desc.{Desc}
use Rattle.mb_desc.specs.declared.descriptor.Full.{Full}
use Rattle.mb_desc.specs.declared.descriptor.Full.TheVariants.{Datum, Accessor}
use Rattle.mb_desc.specs.Descriptors.{is_accessor_descriptor, is_data_descriptor, has_no_fields, is_configurable, IsOfOneKind, Complete, descriptor_of, fields_of}
use Rattle.mb_desc.specs.Validate.{refuses, Applied, Validate}
use Rattle.mb_desc.specs.Laws.{HasFieldsOf, KeepsTheRest, ConfigurableAccepts, GivenIsThere, NotGivenStays}
use Rattle.mb_desc.proofs.Fixed.{two_false}

is_given : {A : Type 0} (given : Option A) (there x : A) → given ≡ Some x → Some (unwrap_or given there) ≡ Some x
is_given None there x h = cc
is_given (Some y) there x h = h

not_given : {A : Type 0} (given there : Option A) (x : A) → is_some given ≡ false → given ≡ Some x → there ≡ Some x
not_given None there x e h = cc
not_given (Some y) there x e h = cc

stays : {A : Type 0} (given : Option A) (there : A) → given ≡ None → unwrap_or given there ≡ there
stays None there h = refl
stays (Some x) there h = cc

not_both : (d a : Bool) → d && a ≡ false → a ≡ true → d ≡ false
not_both true true h e = cc
not_both false a h e = refl
not_both true false h e = cc

-- the parts of a test for having no fields
no_field : (a d e c : Bool) → (not a && not d) && not e && not c ≡ true → (a ≡ false) × (d ≡ false) × (e ≡ false) × (c ≡ false)
no_field false false false false h = (refl, refl, refl, refl)
no_field true d e c h = cc
no_field false true e c h = cc
no_field false false true c h = cc
no_field false false false true h = cc

module _ {V : Type 0} (undefined : V) where
  as_data : (desc : Desc V) → is_accessor_descriptor desc ≡ false → (value : V) (writable enumerable configurable : Bool) → HasFieldsOf desc (descriptor_of (Datum (unwrap_or desc.value value) (unwrap_or desc.writable writable) (unwrap_or desc.enumerable enumerable) (unwrap_or desc.configurable configurable)))
  as_data desc ea value writable enumerable configurable =
      let n : (is_some desc.get ≡ false) × (is_some desc.set ≡ false) = two_false (is_some desc.get) (is_some desc.set) ea in
      record {
        value = λ x. is_given desc.value value x;
        writable = λ x. is_given desc.writable writable x;
        get = λ x. not_given desc.get None x n.0;
        set = λ x. not_given desc.set None x n.1;
        enumerable = λ x. is_given desc.enumerable enumerable x;
        configurable = λ x. is_given desc.configurable configurable x;
      }

  as_accessor : (desc : Desc V) → is_data_descriptor desc ≡ false → (get set : V) (enumerable configurable : Bool) → HasFieldsOf desc (descriptor_of (Accessor (unwrap_or desc.get get) (unwrap_or desc.set set) (unwrap_or desc.enumerable enumerable) (unwrap_or desc.configurable configurable)))
  as_accessor desc ed get set enumerable configurable =
      let n : (is_some desc.value ≡ false) × (is_some desc.writable ≡ false) = two_false (is_some desc.value) (is_some desc.writable) ed in
      record {
        value = λ x. not_given desc.value None x n.0;
        writable = λ x. not_given desc.writable None x n.1;
        get = λ x. is_given desc.get get x;
        set = λ x. is_given desc.set set x;
        enumerable = λ x. is_given desc.enumerable enumerable x;
        configurable = λ x. is_given desc.configurable configurable x;
      }

  complete_has : (desc : Desc V) → IsOfOneKind desc → HasFieldsOf desc (descriptor_of (Complete undefined desc))
  complete_has desc one = by (is_accessor_descriptor desc) refl
    where
      by : (a : Bool) → is_accessor_descriptor desc ≡ a → HasFieldsOf desc (descriptor_of (Complete undefined desc))
      by true ea = rw ea (as_accessor desc (not_both (is_data_descriptor desc) (is_accessor_descriptor desc) one ea) undefined undefined false false)
      by false ea = rw ea (as_data desc ea undefined false false false)

  applied_has : (current : Full V) (desc : Desc V) → IsOfOneKind desc → HasFieldsOf desc (descriptor_of (Applied undefined current desc))
  applied_has (Datum value writable enumerable configurable) desc one = by (is_accessor_descriptor desc) refl
    where
      by : (a : Bool) → is_accessor_descriptor desc ≡ a → HasFieldsOf desc (descriptor_of (Applied undefined (Datum value writable enumerable configurable) desc))
      by true ea = rw ea (as_accessor desc (not_both (is_data_descriptor desc) (is_accessor_descriptor desc) one ea) undefined undefined enumerable configurable)
      by false ea = rw ea (as_data desc ea value writable enumerable configurable)
  applied_has (Accessor get set enumerable configurable) desc one = by (is_data_descriptor desc) (is_accessor_descriptor desc) refl refl one
    where
      by : (d a : Bool) → is_data_descriptor desc ≡ d → is_accessor_descriptor desc ≡ a → d && a ≡ false → HasFieldsOf desc (descriptor_of (Applied undefined (Accessor get set enumerable configurable) desc))
      by true true ed ea h = cc
      by true false ed ea h = rw ed (as_data desc ea undefined false enumerable configurable)
      by false a ed ea h = rw ed (as_accessor desc ed get set enumerable configurable)

  nothing_has : (desc there : Desc V) → has_no_fields desc ≡ true → HasFieldsOf desc there
  nothing_has desc there h =
      let n = no_field (is_accessor_descriptor desc) (is_data_descriptor desc) (is_some desc.enumerable) (is_some desc.configurable) h in
      let a = two_false (is_some desc.get) (is_some desc.set) n.0 in
      let d = two_false (is_some desc.value) (is_some desc.writable) n.1 in
      record {
        value = λ x. not_given desc.value there.value x d.0;
        writable = λ x. not_given desc.writable there.writable x d.1;
        get = λ x. not_given desc.get there.get x a.0;
        set = λ x. not_given desc.set there.set x a.1;
        enumerable = λ x. not_given desc.enumerable there.enumerable x n.2;
        configurable = λ x. not_given desc.configurable there.configurable x n.3;
      }

  -- a generic descriptor has no accessor fields
  generic_is : (a d : Bool) → not a && not d ≡ true → (a ≡ false) × (d ≡ false)
  generic_is true d h = cc
  generic_is false true h = cc
  generic_is false false h = (refl, refl)

  complete_keeps : (desc : Desc V) → IsOfOneKind desc → KeepsTheRest undefined desc (fields_of None) (Complete undefined desc)
  complete_keeps desc one = by (is_accessor_descriptor desc) refl
    where
      by : (a : Bool) → is_accessor_descriptor desc ≡ a → KeepsTheRest undefined desc (fields_of None) (Complete undefined desc)
      by true ea = rw ea (record {
        kind = λ h. (let g = generic_is (is_accessor_descriptor desc) (is_data_descriptor desc) h in cc);
        fields = (stays desc.get undefined, stays desc.set undefined, stays desc.enumerable false, stays desc.configurable false);
      })
      by false ea = rw ea (record {
        kind = λ h. refl;
        fields = (stays desc.value undefined, stays desc.writable false, stays desc.enumerable false, stays desc.configurable false);
      })

  applied_keeps : (current : Full V) (desc : Desc V) → IsOfOneKind desc → KeepsTheRest undefined desc (descriptor_of current) (Applied undefined current desc)
  applied_keeps (Datum value writable enumerable configurable) desc one = by (is_accessor_descriptor desc) refl
    where
      by : (a : Bool) → is_accessor_descriptor desc ≡ a → KeepsTheRest undefined desc (descriptor_of (Datum value writable enumerable configurable)) (Applied undefined (Datum value writable enumerable configurable) desc)
      by true ea = rw ea (record {
        kind = λ h. (let g = generic_is (is_accessor_descriptor desc) (is_data_descriptor desc) h in cc);
        fields = (stays desc.get undefined, stays desc.set undefined, stays desc.enumerable enumerable, stays desc.configurable configurable);
      })
      by false ea = rw ea (record {
        kind = λ h. refl;
        fields = (stays desc.value value, stays desc.writable writable, stays desc.enumerable enumerable, stays desc.configurable configurable);
      })
  applied_keeps (Accessor get set enumerable configurable) desc one = by (is_data_descriptor desc) refl
    where
      by : (d : Bool) → is_data_descriptor desc ≡ d → KeepsTheRest undefined desc (descriptor_of (Accessor get set enumerable configurable)) (Applied undefined (Accessor get set enumerable configurable) desc)
      by true ed = rw ed (record {
        kind = λ h. (let g = generic_is (is_accessor_descriptor desc) (is_data_descriptor desc) h in cc);
        fields = (stays desc.value undefined, stays desc.writable false, stays desc.enumerable enumerable, stays desc.configurable configurable);
      })
      by false ed = rw ed (record {
        kind = λ h. refl;
        fields = (stays desc.get get, stays desc.set set, stays desc.enumerable enumerable, stays desc.configurable configurable);
      })

  nothing_keeps : (current : Full V) (desc : Desc V) → KeepsTheRest undefined desc (descriptor_of current) current
  nothing_keeps (Datum value writable enumerable configurable) desc = record { kind = λ h. refl; fields = (λ h. refl, λ h. refl, λ h. refl, λ h. refl) }
  nothing_keeps (Accessor get set enumerable configurable) desc = record { kind = λ h. refl; fields = (λ h. refl, λ h. refl, λ h. refl, λ h. refl) }

module _ {V : Type 0} (same : V → V → Bool) (undefined : V) where
  pub configurable_accepts : ConfigurableAccepts same undefined
  unfolding Validate
  configurable_accepts extensible current desc open_ = by (has_no_fields desc) refl
    where
      by : (n : Bool) → has_no_fields desc ≡ n → is_some (Validate same undefined extensible (Some current) desc) ≡ true
      by true en = rw en refl
      by false en = rw (en, open_) refl

  -- what was accepted: nothing was given, or the fields were put over the property
  pub accepted : (Q : Full V → Type 0) (extensible : Bool) (current : Full V) (desc : Desc V) (after : Full V) → Validate same undefined extensible (Some current) desc ≡ Some after → (has_no_fields desc ≡ true → Q current) → Q (Applied undefined current desc) → Q after
  unfolding Validate
  accepted Q extensible current desc after h empty put = by (has_no_fields desc) (not (is_configurable current) && refuses same current desc) refl refl
    where
      by : (n r : Bool) → has_no_fields desc ≡ n → not (is_configurable current) && refuses same current desc ≡ r → Q after
      by true r en er =
          let s : Some current ≡ Some after = rw en at h in
          let e : current ≡ after = cc in
          subst Q e (empty en)
      by false true en er = let e : None ≡ Some after = rw (en, er) at h in cc
      by false false en er =
          let s : Some (Applied undefined current desc) ≡ Some after = rw (en, er) at h in
          let e : Applied undefined current desc ≡ after = cc in
          subst Q e put

  pub given_is_there : GivenIsThere same undefined
  unfolding Validate
  given_is_there true None desc after one h =
      let e : Complete undefined desc ≡ after = cc in
      subst (λ (x : Full V). HasFieldsOf desc (descriptor_of x)) e (complete_has undefined desc one)
  given_is_there false None desc after one h = cc
  given_is_there extensible (Some current) desc after one h =
      accepted (λ (x : Full V). HasFieldsOf desc (descriptor_of x)) extensible current desc after h
      (λ n. nothing_has undefined desc (descriptor_of current) n) (applied_has undefined current desc one)

  pub not_given_stays : NotGivenStays same undefined
  unfolding Validate
  not_given_stays true None desc after one h =
      let e : Complete undefined desc ≡ after = cc in
      subst (λ (x : Full V). KeepsTheRest undefined desc (fields_of None) x) e (complete_keeps undefined desc one)
  not_given_stays false None desc after one h = cc
  not_given_stays extensible (Some current) desc after one h =
      accepted (λ (x : Full V). KeepsTheRest undefined desc (descriptor_of current) x) extensible current desc after h
      (λ n. nothing_keeps undefined current desc) (applied_keeps undefined current desc one)
