-- What an ordinary object answers passes the checks.
use Rattle.std.proofs.Common.{◌≡◌, Bool, true, false, not, ◌&&◌, Option, None, Some, is_some, unwrap_or, refl, sym, ap, ◌∙◌, subst}
use Rattle.mb_desc.specs.declared.descriptor.Desc.{Desc}
use Rattle.mb_desc.specs.declared.descriptor.Full.{Full}
use Rattle.mb_desc.specs.declared.descriptor.Full.TheVariants.{Datum, Accessor}
use Rattle.mb_desc.specs.Descriptors.{is_configurable, is_accessor_descriptor, is_data_descriptor, has_no_fields, descriptor_of, denies, is_writable, is_unwritable}
use Rattle.mb_desc.specs.Validate.{Validate, Applied, refuses}
use Rattle.mb_desc.specs.View.{View}
use Rattle.mb_view.specs.Views.{property_of}
use Rattle.mb_view.specs.Entries.{Deed, GetPrototypeOf, SetPrototypeOf, IsExtensible, PreventExtensions, GetOwnProperty, DefineOwnProperty, HasProperty, Get, Set, Delete, OwnPropertyKeys, Silent}
use Rattle.mb_view.specs.Passing.{AllowsSaid, AllowsDefined, AllowsGot, AllowsSet, MayLack, Passes}
use Rattle.mb_view.specs.Ordinary.{Gets, Sets, IsOrdinary}
use Rattle.mb_view.proofs.Evolving.{keeps-refl}
use Rattle.mb_view.proofs.Compatible.{none-from, both-true, not-true}
use Rattle.mb_desc.proofs.Fixed.{two_false}
use Rattle.mb_view.proofs.Followed.{accepts-loose, accepts-kept}

denied : (o : Option Bool) → denies o ≡ true → o ≡ Some false
denied None h = absurd (let no : false ≡ true = h in cc)
denied (Some true) h = absurd (let no : false ≡ true = h in cc)
denied (Some false) h = refl

module _ {V : Type 0} (same : V → V → Bool) (undefined : V) (value_refl : (x : V) → same x x ≡ true) where
  -- a property is compatible with itself
  self-accepted : (extensible : Bool) (p : Full V) → Validate same undefined extensible (Some p) (descriptor_of p) ≡ Some p
  self-accepted extensible p = by (is_configurable p) refl
    where
      by : (b : Bool) → is_configurable p ≡ b → Validate same undefined extensible (Some p) (descriptor_of p) ≡ Some p
      by true c = accepts-loose same undefined value_refl extensible p p c
      by false c = accepts-kept same undefined value_refl extensible p p c (keeps-refl p)

  self-said : (extensible : Bool) (p : Full V) → AllowsSaid same undefined extensible (Some p) p
  self-said extensible p = (ap is_some (self-accepted extensible p), λ c. (p, refl, c, constant p))
    where
      constant : (p : Full V) → is_unwritable p ≡ true → is_writable p ≡ false
      constant (Datum v true e c) h = absurd (let no : false ≡ true = h in cc)
      constant (Datum v false e c) h = refl
      constant (Accessor g s e c) h = absurd (let no : false ≡ true = h in cc)

  -- what is given is there, where a definition leaves the property as it is
  applied-configurable : (p : Full V) (given : Desc V) → is_configurable (Applied undefined p given) ≡ unwrap_or given.configurable (is_configurable p)
  applied-configurable (Datum v w e c) given = by (is_accessor_descriptor given) refl
    where
      by : (a : Bool) → is_accessor_descriptor given ≡ a → is_configurable (Applied undefined (Datum v w e c) given) ≡ unwrap_or given.configurable c
      by true t = rw t refl
      by false t = rw t refl
  applied-configurable (Accessor g s e c) given = by (is_data_descriptor given) refl
    where
      by : (a : Bool) → is_data_descriptor given ≡ a → is_configurable (Applied undefined (Accessor g s e c) given) ≡ unwrap_or given.configurable c
      by true t = rw t refl
      by false t = rw t refl

  applied-writable : (p : Full V) (given : Desc V) → Applied undefined p given ≡ p → given.writable ≡ Some false → is_writable p ≡ false
  applied-writable (Datum v w e c) given h f = by (is_accessor_descriptor given) refl
    where
      by : (a : Bool) → is_accessor_descriptor given ≡ a → w ≡ false
      by true t =
          let n : Accessor (unwrap_or given.get undefined) (unwrap_or given.set undefined) (unwrap_or given.enumerable e) (unwrap_or given.configurable c) ≡ Datum v w e c = rw t at h in
          cc
      by false t =
          let n : Datum (unwrap_or given.value v) (unwrap_or given.writable w) (unwrap_or given.enumerable e) (unwrap_or given.configurable c) ≡ Datum v w e c = rw t at h in
          let m : unwrap_or given.writable w ≡ w = ap is_writable n in
          sym m ∙ ap (λ z. unwrap_or z w) f
  applied-writable (Accessor g s e c) given h f = refl

  defined-again : (extensible : Bool) (p : Full V) (given : Desc V) → Validate same undefined extensible (Some p) given ≡ Some p → AllowsDefined same undefined extensible (Some p) given
  unfolding Validate
  defined-again extensible p given h = (ap is_some h, λ d. configurable (has_no_fields given) (not (is_configurable p) && refuses same p given) refl refl (denied given.configurable d), λ d c. writable (has_no_fields given) (not (is_configurable p) && refuses same p given) refl refl (denied given.writable d))
    where
      bare : has_no_fields given ≡ true → (given.configurable ≡ None) × (given.writable ≡ None)
      bare n =
          let c = both-true (not (is_accessor_descriptor given) && not (is_data_descriptor given) && not (is_some given.enumerable)) (not (is_some given.configurable)) n in
          let e = both-true (not (is_accessor_descriptor given) && not (is_data_descriptor given)) (not (is_some given.enumerable)) c.0 in
          let k = both-true (not (is_accessor_descriptor given)) (not (is_data_descriptor given)) e.0 in
          let dat : is_data_descriptor given ≡ false = not-true (is_data_descriptor given) k.1 in
          let vw = two_false (is_some given.value) (is_some given.writable) dat in
          (none-from given.configurable (not-true (is_some given.configurable) c.1), none-from given.writable vw.1)

      applied : (n r : Bool) → has_no_fields given ≡ n → not (is_configurable p) && refuses same p given ≡ r → n ≡ false → Applied undefined p given ≡ p
      applied true r en er k = absurd (let bad : true ≡ false = k in cc)
      applied false true en er k = absurd (let bad : None ≡ Some p = rw (en, er) at h in cc)
      applied false false en er k = let e : Some (Applied undefined p given) ≡ Some p = rw (en, er) at h in cc

      configurable : (n r : Bool) → has_no_fields given ≡ n → not (is_configurable p) && refuses same p given ≡ r → given.configurable ≡ Some false → is_configurable p ≡ false
      configurable true r en er f = absurd (let no : None ≡ Some false = sym (bare en).0 ∙ f in cc)
      configurable false r en er f =
          ap is_configurable (sym (applied false r en er refl)) ∙ applied-configurable p given ∙ ap (λ z. unwrap_or z (is_configurable p)) f

      writable : (n r : Bool) → has_no_fields given ≡ n → not (is_configurable p) && refuses same p given ≡ r → given.writable ≡ Some false → is_writable p ≡ false
      writable true r en er f = absurd (let no : None ≡ Some false = sym (bare en).1 ∙ f in cc)
      writable false r en er f = applied-writable p given (applied false r en er refl) f

  got : (o : Option (Full V)) (answer : V) → Gets undefined o answer → AllowsGot same undefined o answer
  got None answer h = tt
  got (Some (Datum v true e true)) answer h = tt
  got (Some (Datum v true e false)) answer h = tt
  got (Some (Datum v false e true)) answer h = tt
  got (Some (Datum v false e false)) answer h = h
  got (Some (Accessor g s e true)) answer h = tt
  got (Some (Accessor g s e false)) answer h = h

  set : (o : Option (Full V)) (given : V) → Sets undefined o → AllowsSet same undefined o given
  set None given h = tt
  set (Some (Datum v true e true)) given h = tt
  set (Some (Datum v true e false)) given h = tt
  set (Some (Datum v false e true)) given h = tt
  set (Some (Datum v false e false)) given h = absurd (let no : false ≡ true = h in cc)
  set (Some (Accessor g s e true)) given h = tt
  set (Some (Accessor g s e false)) given h = h

module _ {K V : Type 0} (same_key : K → K → Bool) (same : V → V → Bool) (undefined : V) (value_refl : (x : V) → same x x ≡ true) where
  absent-lacks : (view : View K V) (key : K) → property_of same_key view key ≡ None → MayLack same_key same undefined view key
  absent-lacks view key none p at = absurd (let no : None ≡ Some p = sym none ∙ at in cc)

  pub ordinary-passes : (deed : Deed K V) (view : View K V) → IsOrdinary same_key same undefined deed view → Passes same_key same undefined deed view
  ordinary-passes (GetPrototypeOf answer) view h = λ c. h
  ordinary-passes (SetPrototypeOf given true) view h = λ c. h
  ordinary-passes (SetPrototypeOf given false) view h = tt
  ordinary-passes (IsExtensible answer) view h = h
  ordinary-passes (PreventExtensions true) view h = h
  ordinary-passes (PreventExtensions false) view h = tt
  ordinary-passes (GetOwnProperty key None) view h = absent-lacks view key (sym h)
  ordinary-passes (GetOwnProperty key (Some p)) view h = subst (λ z. AllowsSaid same undefined view.extensible z p) h (self-said same undefined value_refl view.extensible p)
  ordinary-passes (DefineOwnProperty key given true) view h = subst (λ z. AllowsDefined same undefined view.extensible z given) (sym h.1) (defined-again same undefined value_refl view.extensible h.0 given h.2)
  ordinary-passes (DefineOwnProperty key given false) view h = tt
  ordinary-passes (HasProperty key true) view h = tt
  ordinary-passes (HasProperty key false) view h = absent-lacks view key h
  ordinary-passes (Get key answer) view h = got same undefined value_refl (property_of same_key view key) answer h
  ordinary-passes (Set key given true) view h = set same undefined value_refl (property_of same_key view key) given h
  ordinary-passes (Set key given false) view h = tt
  ordinary-passes (Delete key true) view h = absent-lacks view key h
  ordinary-passes (Delete key false) view h = tt
  ordinary-passes (OwnPropertyKeys keys) view h = (λ key f. h key ∙ ap is_some f.1, λ c key. h key)
  ordinary-passes Silent view h = tt
