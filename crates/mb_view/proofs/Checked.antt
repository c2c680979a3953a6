-- An answer that passes the checks against a view contradicts no fact of the view, and tells only facts of it.
use Rattle.std.proofs.Common.{◌≡◌, Bool, true, false, not, ◌&&◌, ◌||◌, List, Option, None, Some, is_some, unwrap_or, refl, sym, ap, ◌∙◌, subst, if◌then◌else◌}
use Rattle.std.specs.List.{AllByRecursion, list_any}
use Rattle.mb_desc.specs.declared.descriptor.Desc.{Desc}
use Rattle.mb_desc.specs.declared.descriptor.Full.{Full}
use Rattle.mb_desc.specs.declared.descriptor.Full.TheVariants.{Datum, Accessor}
use Rattle.mb_desc.specs.Descriptors.{is_configurable, is_enumerable, is_accessor_descriptor, is_data_descriptor, descriptor_of, denies, asks, is_writable, is_unwritable}
use Rattle.mb_desc.specs.Validate.{Validate, changes, same_flag}
use Rattle.mb_desc.proofs.Fixed.{two_false, same_flag-sound}
use Rattle.mb_desc.specs.View.{View}
use Rattle.mb_view.specs.Views.{property_of}
use Rattle.mb_view.specs.Promises.{Content, Anything, Data, Constant, Accessors, Promise, Fact, Closed, Fixed, Absent, Only, Prototype, Agrees, KeepsContent, Keeps, Holds}
use Rattle.mb_view.specs.Entries.{Deed, GetPrototypeOf, SetPrototypeOf, IsExtensible, PreventExtensions, GetOwnProperty, DefineOwnProperty, HasProperty, Get, Set, Delete, OwnPropertyKeys, GivesOneKind, fact_if, content_of, promise_of, content_given, promise_given, tells, tells_of_closed, differs, content_differs, promise_differs, get_differs, set_differs, contradicts_closed, contradicts_fixed, contradicts_absent, contradicts_only, contradicts_prototype, contradicts}
use Rattle.mb_view.specs.Passing.{AllowsSaid, AllowsDefined, AllowsGot, AllowsSet, MayLack, Passes}
use Rattle.mb_view.proofs.Compatible.{IsCompatible, accepted-compatible}
use Rattle.mb_view.proofs.Lists.{none-from_All}
use Rattle.mb_view.proofs.Walks.{members, All-map}

three_false : (a b c : Bool) → a ≡ false → b ≡ false → c ≡ false → a || b || c ≡ false
three_false a b c h k l = rw (h, k) l

-- a descriptor with no field of both kinds
pub one_kind_of : {V : Type 0} (property : Full V) → is_data_descriptor (descriptor_of property) && is_accessor_descriptor (descriptor_of property) ≡ false
one_kind_of (Datum v w e c) = refl
one_kind_of (Accessor g s e c) = refl

-- a told field isn't given otherwise where it agrees with what is there, and the given doesn't change that
undiffering : {A : Type 0} (same : A → A → Bool) (told given : Option A) (real : A) → Agrees told real → changes same given real ≡ false → differs same told given ≡ false
undiffering same told None real h k = refl
undiffering same None (Some x) real h k = refl
undiffering same (Some t) (Some x) real h k = ap (λ z. not (same x z)) (sym h) ∙ k

module _ {V : Type 0} (same : V → V → Bool) (undefined : V) (value_refl : (x : V) → same x x ≡ true) (value_sound : (x y : V) → same x y ≡ true → x ≡ y) where
  content-compatible : (content : Content V) (property : Full V) (desc : Desc V) → KeepsContent content property → IsCompatible same property desc → content_differs same undefined content desc ≡ false
  content-compatible Anything property desc k h = refl
  content-compatible Data (Datum v w e c) desc k h = h.datum refl
  content-compatible Data (Accessor g s e c) desc k h = absurd k
  content-compatible (Constant told) (Datum v w e c) desc k h =
      let f : not false && (unwrap_or desc.writable false || changes same desc.value v) ≡ false = ap (λ z. not z && (unwrap_or desc.writable false || changes same desc.value v)) (sym k.0) ∙ h.fields in
      let g = two_false (unwrap_or desc.writable false) (changes same desc.value v) f in
      three_false (is_accessor_descriptor desc) (asks desc.writable) (differs same told desc.value) (h.datum refl) g.0 (undiffering same told desc.value v k.1 g.1)
  content-compatible (Constant told) (Accessor g s e c) desc k h = absurd k
  content-compatible (Accessors get set) (Datum v w e c) desc k h = absurd k
  content-compatible (Accessors get set) (Accessor g s e c) desc k h =
      let f = two_false (changes same desc.get g) (changes same desc.set s) h.fields in
      three_false (is_data_descriptor desc) (differs same get desc.get) (differs same set desc.set) (h.accessor refl) (undiffering same get desc.get g k.0 f.0) (undiffering same set desc.set s k.1 f.1)

  promise-compatible : (promise : Promise V) (property : Full V) (desc : Desc V) → Keeps promise property → IsCompatible same property desc → promise_differs same undefined promise desc ≡ false
  promise-compatible promise property desc k h =
      three_false (asks desc.configurable) (differs same_flag promise.enumerable desc.enumerable) (content_differs same undefined promise.content desc)
      h.configurable (undiffering same_flag promise.enumerable desc.enumerable (is_enumerable property) k.1 h.enumerable) (content-compatible promise.content property desc k.2 h)

  got-agrees : (content : Content V) (property : Full V) (answer : V) → is_configurable property ≡ false → KeepsContent content property → AllowsGot same undefined (Some property) answer → get_differs same undefined content answer ≡ false
  got-agrees Anything property answer fixed k h = refl
  got-agrees Data property answer fixed k h = refl
  got-agrees (Constant None) property answer fixed k h = refl
  got-agrees (Constant (Some told)) (Datum v w e c) answer fixed k h =
      let a : AllowsGot same undefined (Some (Datum v false e false)) answer = subst (λ z. AllowsGot same undefined (Some (Datum v false e z)) answer) fixed (subst (λ z. AllowsGot same undefined (Some (Datum v z e c)) answer) k.0 h) in
      ap not (ap (λ z. same z told) (a ∙ k.1) ∙ value_refl told)
  got-agrees (Constant (Some told)) (Accessor g s e c) answer fixed k h = absurd k
  got-agrees (Accessors None set) property answer fixed k h = refl
  got-agrees (Accessors (Some get) set) (Datum v w e c) answer fixed k h = absurd k
  got-agrees (Accessors (Some get) set) (Accessor g s e c) answer fixed k h = by (same get undefined) refl
    where
      a : AllowsGot same undefined (Some (Accessor g s e false)) answer
      a = subst (λ z. AllowsGot same undefined (Some (Accessor g s e z)) answer) fixed h

      by : (b : Bool) → same get undefined ≡ b → same get undefined && not (same answer undefined) ≡ false
      by true t =
          let n : answer ≡ undefined = a (k.0 ∙ value_sound get undefined t) in
          rw t (ap not (ap (λ z. same z undefined) n ∙ value_refl undefined))
      by false t = rw t refl

  set-agrees : (content : Content V) (property : Full V) (given : V) → is_configurable property ≡ false → KeepsContent content property → AllowsSet same undefined (Some property) given → set_differs same undefined content given ≡ false
  set-agrees Anything property given fixed k h = refl
  set-agrees Data property given fixed k h = refl
  set-agrees (Constant None) property given fixed k h = refl
  set-agrees (Constant (Some told)) (Datum v w e c) given fixed k h =
      let a : AllowsSet same undefined (Some (Datum v false e false)) given = subst (λ z. AllowsSet same undefined (Some (Datum v false e z)) given) fixed (subst (λ z. AllowsSet same undefined (Some (Datum v z e c)) given) k.0 h) in
      ap not (ap (λ z. same z told) (a ∙ k.1) ∙ value_refl told)
  set-agrees (Constant (Some told)) (Accessor g s e c) given fixed k h = absurd k
  set-agrees (Accessors get None) property given fixed k h = refl
  set-agrees (Accessors get (Some set)) (Datum v w e c) given fixed k h = absurd k
  set-agrees (Accessors get (Some set)) (Accessor g s e c) given fixed k h = by (same set undefined) refl
    where
      a : AllowsSet same undefined (Some (Accessor g s e false)) given
      a = subst (λ z. AllowsSet same undefined (Some (Accessor g s e z)) given) fixed h

      by : (b : Bool) → same set undefined ≡ b → same set undefined ≡ false
      by true t = absurd (a (k.1 ∙ value_sound set undefined t))
      by false t = t

module _ {K V : Type 0} (same_key : K → K → Bool) (key_sound : (x y : K) → same_key x y ≡ true → x ≡ y) (same : V → V → Bool) (undefined : V) (value_refl : (x : V) → same x x ≡ true) (value_sound : (x y : V) → same x y ≡ true → x ≡ y) where
  closed-kept : (view : View K V) (deed : Deed K V) → Passes same_key same undefined deed view → view.extensible ≡ false → contradicts_closed same_key same undefined deed ≡ false
  closed-kept view (IsExtensible true) h c = absurd (let no : true ≡ false = h ∙ c in cc)
  closed-kept view _ h c = refl

  lacks-kept : (view : View K V) (key at : K) (property : Full V) → property_of same_key view key ≡ Some property → is_configurable property ≡ false → MayLack same_key same undefined view at → same_key key at ≡ false
  lacks-kept view key at property there fixed h = by (same_key key at) refl
    where
      by : (b : Bool) → same_key key at ≡ b → same_key key at ≡ false
      by true t =
          let m = h property (ap (property_of same_key view) (sym (key_sound key at t)) ∙ there) in
          absurd (let no : true ≡ false = sym m.0 ∙ fixed in cc)
      by false t = t

  -- where the keys are the same
  at-key : (key at : K) (x : Bool) → (same_key key at ≡ true → x ≡ false) → same_key key at && x ≡ false
  at-key key at x h = by (same_key key at) refl
    where
      by : (b : Bool) → same_key key at ≡ b → same_key key at && x ≡ false
      by true t = rw t (h t)
      by false t = rw t refl

  moved : (view : View K V) (key at : K) (property : Full V) → property_of same_key view key ≡ Some property → same_key key at ≡ true → property_of same_key view at ≡ Some property
  moved view key at property there t = ap (property_of same_key view) (sym (key_sound key at t)) ∙ there

  fixed-kept : (view : View K V) (key : K) (promise : Promise V) (property : Full V) → property_of same_key view key ≡ Some property → Keeps promise property → (deed : Deed K V) → GivesOneKind deed → Passes same_key same undefined deed view → contradicts_fixed same_key same undefined key promise deed ≡ false
  fixed-kept view key promise property there k (GetOwnProperty at None) one h = lacks-kept view key at property there k.0 h
  fixed-kept view key promise property there k (GetOwnProperty at (Some said)) one h =
      at-key key at (promise_differs same undefined promise (descriptor_of said)) (λ t.
      let a : AllowsSaid same undefined view.extensible (Some property) said = subst (λ z. AllowsSaid same undefined view.extensible z said) (moved view key at property there t) h in
      promise-compatible same undefined value_refl value_sound promise property (descriptor_of said) k (accepted-compatible same undefined view.extensible property (descriptor_of said) (one_kind_of said) k.0 a.0))
  fixed-kept view key promise property there k (HasProperty at false) one h = lacks-kept view key at property there k.0 h
  fixed-kept view key promise property there k (Delete at true) one h = lacks-kept view key at property there k.0 h
  fixed-kept view key promise property there k (OwnPropertyKeys keys) one h = ap not (h.0 key (property, there, k.0))
  fixed-kept view key promise property there k (DefineOwnProperty at given true) one h =
      at-key key at (promise_differs same undefined promise given) (λ t.
      let a : AllowsDefined same undefined view.extensible (Some property) given = subst (λ z. AllowsDefined same undefined view.extensible z given) (moved view key at property there t) h in
      promise-compatible same undefined value_refl value_sound promise property given k (accepted-compatible same undefined view.extensible property given one k.0 a.0))
  fixed-kept view key promise property there k (Get at answer) one h =
      at-key key at (get_differs same undefined promise.content answer) (λ t.
      got-agrees same undefined value_refl value_sound promise.content property answer k.0 k.2 (subst (λ z. AllowsGot same undefined z answer) (moved view key at property there t) h))
  fixed-kept view key promise property there k (Set at given true) one h =
      at-key key at (set_differs same undefined promise.content given) (λ t.
      set-agrees same undefined value_refl value_sound promise.content property given k.0 k.2 (subst (λ z. AllowsSet same undefined z given) (moved view key at property there t) h))
  fixed-kept view key promise property there k _ one h = refl

  -- nothing may be said to be there, or be defined, where an object that isn't extensible lacks it
  not-said : (extensible : Bool) (real : Option (Full V)) (said : Full V) → extensible ≡ false → real ≡ None → AllowsSaid same undefined extensible real said → ⊥
  unfolding Validate
  not-said extensible real said c none h =
      let a : is_some (Validate same undefined extensible real (descriptor_of said)) ≡ true = h.0 in
      let no : false ≡ true = rw (c, none) at a in
      absurd (cc)

  not-defined : (extensible : Bool) (real : Option (Full V)) (given : Desc V) → extensible ≡ false → real ≡ None → AllowsDefined same undefined extensible real given → ⊥
  not-defined extensible real given c none h =
      let a : AllowsDefined same undefined extensible None given = subst (λ z. AllowsDefined same undefined extensible z given) none h in
      let no : true ≡ false = sym a.0 ∙ c in
      absurd (cc)

  absent-kept : (view : View K V) (key : K) → view.extensible ≡ false → property_of same_key view key ≡ None → (deed : Deed K V) → Passes same_key same undefined deed view → contradicts_absent same_key same undefined key deed ≡ false
  absent-kept view key c none (GetOwnProperty at (Some said)) h = by (same_key key at) refl
    where
      by : (b : Bool) → same_key key at ≡ b → same_key key at ≡ false
      by true t = absurd (not-said view.extensible (property_of same_key view at) said c (ap (property_of same_key view) (sym (key_sound key at t)) ∙ none) h)
      by false t = t
  absent-kept view key c none (OwnPropertyKeys keys) h = h.1 c key ∙ ap is_some none
  absent-kept view key c none (DefineOwnProperty at given true) h = by (same_key key at) refl
    where
      by : (b : Bool) → same_key key at ≡ b → same_key key at ≡ false
      by true t = absurd (not-defined view.extensible (property_of same_key view at) given c (ap (property_of same_key view) (sym (key_sound key at t)) ∙ none) h)
      by false t = t
  absent-kept view key c none _ h = refl

  module _ (key_refl : (x : K) → same_key x x ≡ true) where
    only-kept : (view : View K V) (keys : List K) → view.extensible ≡ false → ((key : K) → list_any (same_key key) keys ≡ false → property_of same_key view key ≡ None) → (deed : Deed K V) → Passes same_key same undefined deed view → contradicts_only same_key same undefined keys deed ≡ false
    only-kept view keys c none (GetOwnProperty at (Some said)) h = by (list_any (same_key at) keys) refl
      where
        by : (b : Bool) → list_any (same_key at) keys ≡ b → not (list_any (same_key at) keys) ≡ false
        by true t = ap not t
        by false t = absurd (not-said view.extensible (property_of same_key view at) said c (none at t) h)
    only-kept view keys c none (OwnPropertyKeys others) h =
        none-from_All (λ other. not (list_any (same_key other) keys)) others
        (All-map same_key key_sound key_refl (λ x. list_any (same_key x) others ≡ true) (λ x. not (list_any (same_key x) keys) ≡ false) (λ x m. by x m (list_any (same_key x) keys) refl) others (members same_key key_sound key_refl others))
      where
        by : (x : K) → list_any (same_key x) others ≡ true → (b : Bool) → list_any (same_key x) keys ≡ b → not (list_any (same_key x) keys) ≡ false
        by x m true t = ap not t
        by x m false t = absurd (let no : true ≡ false = sym m ∙ h.1 c x ∙ ap is_some (none x t) in cc)
    only-kept view keys c none (DefineOwnProperty at given true) h = by (list_any (same_key at) keys) refl
      where
        by : (b : Bool) → list_any (same_key at) keys ≡ b → not (list_any (same_key at) keys) ≡ false
        by true t = ap not t
        by false t = absurd (not-defined view.extensible (property_of same_key view at) given c (none at t) h)
    only-kept view keys c none _ h = refl

    prototype-kept : (view : View K V) (prototype : V) → view.extensible ≡ false → view.prototype ≡ prototype → (deed : Deed K V) → Passes same_key same undefined deed view → contradicts_prototype same_key same undefined prototype deed ≡ false
    prototype-kept view prototype c k (GetPrototypeOf answer) h = ap not (ap (λ z. same z prototype) (h c ∙ k) ∙ value_refl prototype)
    prototype-kept view prototype c k (SetPrototypeOf given true) h = ap not (ap (λ z. same z prototype) (h c ∙ k) ∙ value_refl prototype)
    prototype-kept view prototype c k _ h = refl

    -- an answer that passes contradicts no fact of the view
    pub passes-agrees : (view : View K V) (deed : Deed K V) → GivesOneKind deed → Passes same_key same undefined deed view → (fact : Fact K V) → Holds same_key fact view → contradicts same_key same undefined fact deed ≡ false
    passes-agrees view deed one h Closed k = closed-kept view deed h k
    passes-agrees view deed one h (Fixed key promise) k = fixed-kept view key promise k.0 k.1 k.2 deed one h
    passes-agrees view deed one h (Absent key) k = absent-kept view key k.0 k.1 deed h
    passes-agrees view deed one h (Only keys) k = only-kept view keys k.0 k.1 deed h
    passes-agrees view deed one h (Prototype prototype) k = prototype-kept view prototype k.0 k.1 deed h

  -- ---- what it tells
  given-there : {A : Type 0} (eq : A → A → Bool) (sound : (x y : A) → eq x y ≡ true → x ≡ y) (given : Option A) (real : A) → changes eq given real ≡ false → Agrees given real
  given-there eq sound None real h = tt
  given-there eq sound (Some x) real h = by (eq x real) refl
    where
      by : (b : Bool) → eq x real ≡ b → real ≡ x
      by true t = sym (sound x real t)
      by false t = absurd (let no : true ≡ false = rw t at h in cc)

  said-content : (property said : Full V) → IsCompatible same property (descriptor_of said) → (is_unwritable said ≡ true → is_writable property ≡ false) → KeepsContent (content_of said) property
  said-content (Datum v w e c) (Datum x true e' c') h k = tt
  said-content (Datum v w e c) (Datum x false e' c') h k =
      let u : w ≡ false = k refl in
      let f : false || changes same (Some x) v ≡ false = ap (λ z. not z && (false || changes same (Some x) v)) (sym u) ∙ h.fields in
      (u, given-there same value_sound (Some x) v f)
  said-content (Datum v w e c) (Accessor g s e' c') h k = absurd (let no : true ≡ false = h.datum refl in cc)
  said-content (Accessor g s e c) (Datum x true e' c') h k = absurd (let no : true ≡ false = h.accessor refl in cc)
  said-content (Accessor g s e c) (Datum x false e' c') h k = absurd (let no : true ≡ false = h.accessor refl in cc)
  said-content (Accessor g s e c) (Accessor g' s' e' c') h k =
      let f = two_false (changes same (Some g') g) (changes same (Some s') s) h.fields in
      (given-there same value_sound (Some g') g f.0, given-there same value_sound (Some s') s f.1)

  said-enumerable : (property said : Full V) → IsCompatible same property (descriptor_of said) → is_enumerable property ≡ is_enumerable said
  said-enumerable property (Datum v w e c) h = given-there same_flag same_flag-sound (Some e) (is_enumerable property) h.enumerable
  said-enumerable property (Accessor g s e c) h = given-there same_flag same_flag-sound (Some e) (is_enumerable property) h.enumerable

  said-holds : (view : View K V) (key : K) (said : Full V) → AllowsSaid same undefined view.extensible (property_of same_key view key) said → is_configurable said ≡ false → Holds same_key (Fixed key (promise_of said)) view
  said-holds view key said h c =
      let m = h.1 c in
      let a : is_some (Validate same undefined view.extensible (Some m.0) (descriptor_of said)) ≡ true = subst (λ z. is_some (Validate same undefined view.extensible z (descriptor_of said)) ≡ true) m.1 h.0 in
      let k : IsCompatible same m.0 (descriptor_of said) = accepted-compatible same undefined view.extensible m.0 (descriptor_of said) (one_kind_of said) m.2 a in
      (m.0, m.1, (m.2, said-enumerable m.0 said k, said-content m.0 said k m.3))

  denied-data : (given : Desc V) → denies given.writable ≡ true → is_data_descriptor given ≡ true
  denied-data given h = by given.writable refl
    where
      or-true : (a b : Bool) → b ≡ true → a || b ≡ true
      or-true true b e = refl
      or-true false b e = e

      by : (o : Option Bool) → given.writable ≡ o → is_data_descriptor given ≡ true
      by None e = absurd (let no : false ≡ true = rw e at h in cc)
      by (Some w) e = or-true (is_some given.value) (is_some given.writable) (ap is_some e)

  defined-content : (property : Full V) (given : Desc V) → IsCompatible same property given → (denies given.writable ≡ true → is_writable property ≡ false) → KeepsContent (content_given given) property
  defined-content property given h k = by property h k (is_accessor_descriptor given) (denies given.writable) (is_data_descriptor given) refl refl refl
    where
      by : (property : Full V) → IsCompatible same property given → (denies given.writable ≡ true → is_writable property ≡ false)
          → (a w d : Bool) → is_accessor_descriptor given ≡ a → denies given.writable ≡ w → is_data_descriptor given ≡ d
          → KeepsContent (if a then Accessors given.get given.set else if w then Constant given.value else if d then Data else Anything) property
      by (Datum v w' e c) h k true w d ea ew ed = absurd (let no : true ≡ false = sym ea ∙ h.datum refl in cc)
      by (Datum v w' e c) h k false true d ea ew ed =
          let u : w' ≡ false = k ew in
          let f : unwrap_or given.writable false || changes same given.value v ≡ false = ap (λ z. not z && (unwrap_or given.writable false || changes same given.value v)) (sym u) ∙ h.fields in
          (u, given-there same value_sound given.value v (two_false (unwrap_or given.writable false) (changes same given.value v) f).1)
      by (Datum v w' e c) h k false false true ea ew ed = tt
      by (Datum v w' e c) h k false false false ea ew ed = tt
      by (Accessor g s e c) h k true w d ea ew ed =
          let f = two_false (changes same given.get g) (changes same given.set s) h.fields in
          (given-there same value_sound given.get g f.0, given-there same value_sound given.set s f.1)
      by (Accessor g s e c) h k false true d ea ew ed = absurd (let no : true ≡ false = sym (denied-data given ew) ∙ h.accessor refl in cc)
      by (Accessor g s e c) h k false false true ea ew ed = absurd (let no : true ≡ false = sym ed ∙ h.accessor refl in cc)
      by (Accessor g s e c) h k false false false ea ew ed = tt

  defined-holds : (view : View K V) (key : K) (given : Desc V) → is_data_descriptor given && is_accessor_descriptor given ≡ false → (real : Option (Full V)) → property_of same_key view key ≡ real → AllowsDefined same undefined view.extensible real given → denies given.configurable ≡ true → Holds same_key (Fixed key (promise_given given)) view
  defined-holds view key given one None e h c = absurd (let no : true ≡ false = sym c ∙ h.1 in cc)
  defined-holds view key given one (Some p) e h c =
      let fixed : is_configurable p ≡ false = h.1 c in
      let k : IsCompatible same p given = accepted-compatible same undefined view.extensible p given one fixed h.0 in
      (p, e, (fixed, given-there same_flag same_flag-sound given.enumerable (is_enumerable p) k.enumerable, defined-content p given k (λ w. h.2 w fixed)))

  fact_if-holds : (view : View K V) (fact : Fact K V) (b : Bool) → (b ≡ true → Holds same_key fact view) → AllByRecursion (λ f. Holds same_key f view) (fact_if b fact)
  fact_if-holds view fact true h = (h refl, tt)
  fact_if-holds view fact false h = tt

  -- an answer that passes tells only facts of the view
  pub tells-holds : (view : View K V) (deed : Deed K V) → GivesOneKind deed → Passes same_key same undefined deed view → AllByRecursion (λ f. Holds same_key f view) (tells deed)
  tells-holds view (IsExtensible false) one h = (sym h, tt)
  tells-holds view (PreventExtensions true) one h = (h, tt)
  tells-holds view (GetOwnProperty key (Some said)) one h =
      fact_if-holds view (Fixed key (promise_of said)) (not (is_configurable said)) (λ c. said-holds view key said h (by (is_configurable said) c))
    where
      by : (b : Bool) → not b ≡ true → b ≡ false
      by true e = absurd (let no : false ≡ true = e in cc)
      by false e = refl
  tells-holds view (DefineOwnProperty key given true) one h =
      fact_if-holds view (Fixed key (promise_given given)) (denies given.configurable) (λ c. defined-holds view key given one (property_of same_key view key) refl h c)
  tells-holds view _ one h = tt

  lacked : (view : View K V) (key : K) → view.extensible ≡ false → MayLack same_key same undefined view key → property_of same_key view key ≡ None
  lacked view key c h = by (property_of same_key view key) refl
    where
      by : (o : Option (Full V)) → property_of same_key view key ≡ o → property_of same_key view key ≡ None
      by None e = e
      by (Some p) e = absurd (let no : true ≡ false = sym (h p e).1 ∙ c in cc)

  pub tells_of_closed-holds : (view : View K V) (deed : Deed K V) → view.extensible ≡ false → Passes same_key same undefined deed view → AllByRecursion (λ f. Holds same_key f view) (tells_of_closed deed)
  tells_of_closed-holds view (GetOwnProperty key None) c h = ((c, lacked view key c h), tt)
  tells_of_closed-holds view (HasProperty key false) c h = ((c, lacked view key c h), tt)
  tells_of_closed-holds view (Delete key true) c h = ((c, lacked view key c h), tt)
  tells_of_closed-holds view (OwnPropertyKeys keys) c h = ((c, λ key out. none key (property_of same_key view key) refl (sym (h.1 c key) ∙ out)), tt)
    where
      none : (key : K) (o : Option (Full V)) → property_of same_key view key ≡ o → is_some (property_of same_key view key) ≡ false → property_of same_key view key ≡ None
      none key None e out = e
      none key (Some p) e out = absurd (let no : true ≡ false = rw e at out in cc)
  tells_of_closed-holds view (GetPrototypeOf prototype) c h = ((c, sym (h c)), tt)
  tells_of_closed-holds view (SetPrototypeOf prototype true) c h = ((c, sym (h c)), tt)
  tells_of_closed-holds view _ c h = tt
