-- A lean shadow follows: each change is admitted, it stays lean, and its facts hold of the view.
use Rattle.std.proofs.Common.{◌≡◌, Bool, true, false, not, [], ◌∷◌, Option, None, Some, is_some, refl, sym, ap, ◌∙◌, subst, if◌then◌else◌}
use Rattle.std.specs.List.{AllByRecursion}
use Rattle.mb_desc.specs.declared.descriptor.Desc.{Desc}
use Rattle.mb_desc.specs.declared.descriptor.Full.{Full}
use Rattle.mb_desc.specs.Descriptors.{is_configurable, descriptor_of, denies}
use Rattle.mb_desc.specs.Validate.{Validate}
use Rattle.mb_desc.specs.Laws.{KeepsFixed}
use Rattle.mb_desc.specs.View.{View}
use Rattle.mb_view.specs.Views.{property_of, HasDistinctKeys, IsFixed, KeepsFacts}
use Rattle.mb_view.specs.Changes.{Define, Remove, changed, changed_by, AreAllowed}
use Rattle.mb_view.specs.Following.{brought_by}
use Rattle.mb_view.specs.Entries.{Deed, GetPrototypeOf, SetPrototypeOf, IsExtensible, PreventExtensions as PreventExtensionsOf, GetOwnProperty, DefineOwnProperty, HasProperty, Get, Set, Delete, OwnPropertyKeys, Silent, fact_if, promise_of, promise_given, tells, tells_of_closed}
use Rattle.mb_view.specs.Promises.{Promise, Fixed, Holds}
use Rattle.mb_view.specs.Passing.{AllowsSaid, AllowsDefined, AllowsGot, AllowsSet, MayLack, Passes}
use Rattle.mb_view.specs.Lean.{definition_if_fixed, replacement, IsLean, followed_key, followed_whole, HasKey, HasWhole, HasFollowed}
use Rattle.mb_view.proofs.Tables.{lookup-insert, lookup-remove}
use Rattle.mb_view.proofs.Evolving.{keeps-refl, keeps-configurable}
use Rattle.mb_view.proofs.Followed.{accepts-new, accepts-loose, accepts-kept, of_one_kind, brought-allowed, brought-is, arrived, found-filled}

module _ {K V : Type 0} (same_key : K → K → Bool) (sound : (x y : K) → same_key x y ≡ true → x ≡ y) (reflexive : (x : K) → same_key x x ≡ true) (same : V → V → Bool) (undefined : V) (value_refl : (x : V) → same x x ≡ true) where
  -- facts of a view that has one property more of the view's, or one less
  module _ (shadow view : View K V) (d : HasDistinctKeys same_key shadow) (h : KeepsFacts same_key shadow view) where
    -- the property of the view over that of the shadow
    accepts-view : (key : K) (property : Full V) → property_of same_key view key ≡ Some property → Validate same undefined shadow.extensible (property_of same_key shadow key) (descriptor_of property) ≡ Some property
    accepts-view key property at = by (property_of same_key shadow key) refl
      where
        some : (p : Full V) → property_of same_key shadow key ≡ Some p → (b : Bool) → is_configurable p ≡ b → Validate same undefined shadow.extensible (Some p) (descriptor_of property) ≡ Some property
        some p was true c = accepts-loose same undefined value_refl shadow.extensible p property c
        some p was false c =
            let m = h.properties key p was c in
            let e : Some m.0 ≡ Some property = sym m.1 ∙ at in
            let f : m.0 ≡ property = cc in
            accepts-kept same undefined value_refl shadow.extensible p property c (subst (KeepsFixed p) f m.2)

        none : property_of same_key shadow key ≡ None → (b : Bool) → shadow.extensible ≡ b → Validate same undefined b None (descriptor_of property) ≡ Some property
        none was true c = accepts-new same undefined value_refl property
        none was false c = absurd (let no : None ≡ Some property = sym (h.absent c key was) ∙ at in cc)

        by : (o : Option (Full V)) → property_of same_key shadow key ≡ o → Validate same undefined shadow.extensible (property_of same_key shadow key) (descriptor_of property) ≡ Some property
        by None e = ap (λ z. Validate same undefined shadow.extensible z (descriptor_of property)) e ∙ none e shadow.extensible refl
        by (Some p) e = ap (λ z. Validate same undefined shadow.extensible z (descriptor_of property)) e ∙ some p e (is_configurable p) refl

    -- the facts of the shadow hold of the view again
    define-facts : (key : K) (property : Full V) → property_of same_key view key ≡ Some property → KeepsFacts same_key (changed same_key (Define key (descriptor_of property) property) shadow) view
    define-facts key property at = record {
      properties = λ q p e fixed. one q p (same_key q key) refl e fixed;
      closed = h.closed;
      prototype = h.prototype;
      absent = λ c q none. gone c q (same_key q key) refl none;
    }
      where
        found : (q : K) → property_of same_key (changed same_key (Define key (descriptor_of property) property) shadow) q ≡ (if same_key q key then Some property else property_of same_key shadow q)
        found q = lookup-insert same_key sound reflexive shadow.properties key property q

        one : (q : K) (p : Full V) (b : Bool) → same_key q key ≡ b → property_of same_key (changed same_key (Define key (descriptor_of property) property) shadow) q ≡ Some p → is_configurable p ≡ false → (later : Full V) × (property_of same_key view q ≡ Some later) × KeepsFixed p later
        one q p true t e fixed =
            let s : Some property ≡ Some p = sym (found q ∙ ap (λ (b : Bool). if b then Some property else property_of same_key shadow q) t) ∙ e in
            let f : property ≡ p = cc in
            (p, ap (property_of same_key view) (sound q key t) ∙ at ∙ ap Some f, keeps-refl p)
        one q p false t e fixed = h.properties q p (sym (found q ∙ ap (λ (b : Bool). if b then Some property else property_of same_key shadow q) t) ∙ e) fixed

        gone : shadow.extensible ≡ false → (q : K) (b : Bool) → same_key q key ≡ b → property_of same_key (changed same_key (Define key (descriptor_of property) property) shadow) q ≡ None → property_of same_key view q ≡ None
        gone c q true t none = absurd (let no : Some property ≡ None = sym (found q ∙ ap (λ (b : Bool). if b then Some property else property_of same_key shadow q) t) ∙ none in cc)
        gone c q false t none = h.absent c q (sym (found q ∙ ap (λ (b : Bool). if b then Some property else property_of same_key shadow q) t) ∙ none)

    remove-facts : (key : K) → property_of same_key view key ≡ None → KeepsFacts same_key (changed same_key (Remove key) shadow) view
    remove-facts key at = record {
      properties = λ q p e fixed. one q p (same_key q key) refl e fixed;
      closed = h.closed;
      prototype = h.prototype;
      absent = λ c q none. gone c q (same_key q key) refl none;
    }
      where
        found : (q : K) → property_of same_key (changed same_key (Remove key) shadow) q ≡ (if same_key q key then None else property_of same_key shadow q)
        found q = lookup-remove same_key sound reflexive shadow.properties key q d

        one : (q : K) (p : Full V) (b : Bool) → same_key q key ≡ b → property_of same_key (changed same_key (Remove key) shadow) q ≡ Some p → is_configurable p ≡ false → (later : Full V) × (property_of same_key view q ≡ Some later) × KeepsFixed p later
        one q p true t e fixed = absurd (let no : None ≡ Some p = sym (found q ∙ ap (λ (b : Bool). if b then None else property_of same_key shadow q) t) ∙ e in cc)
        one q p false t e fixed = h.properties q p (sym (found q ∙ ap (λ (b : Bool). if b then None else property_of same_key shadow q) t) ∙ e) fixed

        gone : shadow.extensible ≡ false → (q : K) (b : Bool) → same_key q key ≡ b → property_of same_key (changed same_key (Remove key) shadow) q ≡ None → property_of same_key view q ≡ None
        gone c q true t none = ap (property_of same_key view) (sound q key t) ∙ at
        gone c q false t none = h.absent c q (sym (found q ∙ ap (λ (b : Bool). if b then None else property_of same_key shadow q) t) ∙ none)

    -- ---- one key
    pub key-allowed : (key : K) → AreAllowed same_key same undefined (followed_key same_key key shadow view) shadow
    key-allowed key = by shadow.extensible refl (property_of same_key view key) refl (property_of same_key shadow key) refl
      where
        flags : (property : Full V) → property_of same_key view key ≡ Some property → (b : Bool) → AreAllowed same_key same undefined (if b then [] else Define key (descriptor_of property) property ∷ []) shadow
        flags property at true = tt
        flags property at false = ((of_one_kind same undefined value_refl property, accepts-view key property at), tt)

        -- what the view lacks and a closed shadow has is configurable
        gone : shadow.extensible ≡ false → property_of same_key view key ≡ None → (p : Full V) → property_of same_key shadow key ≡ Some p → (b : Bool) → is_configurable p ≡ b → is_configurable p ≡ true
        gone c none p was true e = e
        gone c none p was false e = let m = h.properties key p was e in absurd (let no : None ≡ Some m.0 = sym none ∙ m.1 in cc)

        by : (b : Bool) → shadow.extensible ≡ b → (o : Option (Full V)) → property_of same_key view key ≡ o → (r : Option (Full V)) → property_of same_key shadow key ≡ r → AreAllowed same_key same undefined (if b then definition_if_fixed key o else replacement key o r) shadow
        by true c None at r was = tt
        by true c (Some property) at r was = flags property at (is_configurable property)
        by false c (Some property) at r was = ((of_one_kind same undefined value_refl property, accepts-view key property at), tt)
        by false c None at None was = tt
        by false c None at (Some p) was = ((p, was, gone c at p was (is_configurable p) refl), tt)

    pub key-facts : (key : K) → KeepsFacts same_key (changed_by same_key (followed_key same_key key shadow view) shadow) view
    key-facts key = by shadow.extensible refl (property_of same_key view key) refl (property_of same_key shadow key) refl
      where
        flags : (property : Full V) → property_of same_key view key ≡ Some property → (b : Bool) → KeepsFacts same_key (changed_by same_key (if b then [] else Define key (descriptor_of property) property ∷ []) shadow) view
        flags property at true = h
        flags property at false = define-facts key property at

        by : (b : Bool) → shadow.extensible ≡ b → (o : Option (Full V)) → property_of same_key view key ≡ o → (r : Option (Full V)) → property_of same_key shadow key ≡ r → KeepsFacts same_key (changed_by same_key (if b then definition_if_fixed key o else replacement key o r) shadow) view
        by true c None at r was = h
        by true c (Some property) at r was = flags property at (is_configurable property)
        by false c (Some property) at r was = define-facts key property at
        by false c None at None was = h
        by false c None at (Some p) was = remove-facts key at

    -- what is there after one definition or removal at the key itself
    defined-here : (key : K) (property : Full V) → property_of same_key (changed same_key (Define key (descriptor_of property) property) shadow) key ≡ Some property
    defined-here key property = lookup-insert same_key sound reflexive shadow.properties key property key ∙ ap (λ (b : Bool). if b then Some property else property_of same_key shadow key) (reflexive key)

    removed-here : (key : K) → property_of same_key (changed same_key (Remove key) shadow) key ≡ None
    removed-here key = lookup-remove same_key sound reflexive shadow.properties key key d ∙ ap (λ (b : Bool). if b then None else property_of same_key shadow key) (reflexive key)

    pub key-has : (key : K) → HasKey same_key key (changed_by same_key (followed_key same_key key shadow view) shadow) view
    key-has key = by shadow.extensible refl (property_of same_key view key) refl (property_of same_key shadow key) refl
      where
        flags : shadow.extensible ≡ true → (property : Full V) → property_of same_key view key ≡ Some property → (b : Bool) → is_configurable property ≡ b → HasKey same_key key (changed_by same_key (if b then [] else Define key (descriptor_of property) property ∷ []) shadow) view
        flags c property at true e = (
          λ f. absurd (
              let s : Some property ≡ Some f.0 = sym at ∙ f.1 in
              let g : property ≡ f.0 = cc in
              let no : true ≡ false = sym e ∙ ap is_configurable g ∙ f.2 in cc),
          λ n. absurd (let no : true ≡ false = sym c ∙ n in cc),
        )
        flags c property at false e = (λ f. defined-here key property ∙ sym at, λ n. defined-here key property ∙ sym at)

        by : (b : Bool) → shadow.extensible ≡ b → (o : Option (Full V)) → property_of same_key view key ≡ o → (r : Option (Full V)) → property_of same_key shadow key ≡ r → HasKey same_key key (changed_by same_key (if b then definition_if_fixed key o else replacement key o r) shadow) view
        by true c None at r was = (λ f. absurd (let no : None ≡ Some f.0 = sym at ∙ f.1 in cc), λ n. absurd (let no : true ≡ false = sym c ∙ n in cc))
        by true c (Some property) at r was = flags c property at (is_configurable property) refl
        by false c (Some property) at r was = (λ f. defined-here key property ∙ sym at, λ n. defined-here key property ∙ sym at)
        by false c None at None was = (λ f. was ∙ sym at, λ n. was ∙ sym at)
        by false c None at (Some p) was = (λ f. removed-here key ∙ sym at, λ n. removed-here key ∙ sym at)

    -- it stays lean
    pub key-lean : (key : K) → IsLean same_key shadow → IsLean same_key (changed_by same_key (followed_key same_key key shadow view) shadow)
    key-lean key lean = by shadow.extensible refl (property_of same_key view key) refl (property_of same_key shadow key) refl
      where
        flags : (property : Full V) → (b : Bool) → is_configurable property ≡ b → IsLean same_key (changed_by same_key (if b then [] else Define key (descriptor_of property) property ∷ []) shadow)
        flags property true e = lean
        flags property false e = λ c q p at. one q p at c (same_key q key) refl
          where
            one : (q : K) (p : Full V) → property_of same_key (changed same_key (Define key (descriptor_of property) property) shadow) q ≡ Some p → shadow.extensible ≡ true → (b : Bool) → same_key q key ≡ b → is_configurable p ≡ false
            one q p at c true t =
                let s : Some property ≡ Some p = sym (lookup-insert same_key sound reflexive shadow.properties key property q ∙ ap (λ (b : Bool). if b then Some property else property_of same_key shadow q) t) ∙ at in
                let f : property ≡ p = cc in
                ap is_configurable (sym f) ∙ e
            one q p at c false t = lean c q p (sym (lookup-insert same_key sound reflexive shadow.properties key property q ∙ ap (λ (b : Bool). if b then Some property else property_of same_key shadow q) t) ∙ at)

        closed : shadow.extensible ≡ false → (other : View K V) → other.extensible ≡ shadow.extensible → IsLean same_key other
        closed c other e = λ n. absurd (let no : true ≡ false = sym n ∙ e ∙ c in cc)

        by : (b : Bool) → shadow.extensible ≡ b → (o : Option (Full V)) → property_of same_key view key ≡ o → (r : Option (Full V)) → property_of same_key shadow key ≡ r → IsLean same_key (changed_by same_key (if b then definition_if_fixed key o else replacement key o r) shadow)
        by true c None at r was = lean
        by true c (Some property) at r was = flags property (is_configurable property) refl
        by false c (Some property) at r was = closed c (changed same_key (Define key (descriptor_of property) property) shadow) refl
        by false c None at None was = lean
        by false c None at (Some p) was = closed c (changed same_key (Remove key) shadow) refl

    -- ---- whole
    module _ (d' : HasDistinctKeys same_key view) where
      no_index : K → Bool
      no_index key = false

      abbrev wanted : K → Bool
      wanted key = is_some (property_of same_key view key)

      fixed-wanted : (key : K) → IsFixed same_key shadow key → wanted key ≡ true
      fixed-wanted key f = let m = h.properties key f.0 f.1 f.2 in ap is_some m.1

      there-wanted : shadow.extensible ≡ false → (key : K) (p : Full V) → property_of same_key view key ≡ Some p → wanted key ≡ true
      there-wanted c key p at = ap is_some at

      absent-unwanted : (key : K) → property_of same_key view key ≡ None → wanted key ≡ false
      absent-unwanted key none = ap is_some none

      abbrev whole : View K V
      whole = arrived same_key no_index sound reflexive same undefined value_refl shadow view d d' h wanted fixed-wanted there-wanted absent-unwanted

      whole-is : changed_by same_key (brought_by wanted shadow view) shadow ≡ whole
      whole-is = brought-is same_key no_index sound reflexive same undefined value_refl shadow view d d' h wanted fixed-wanted there-wanted absent-unwanted

      whole-found : (key : K) → property_of same_key whole key ≡ property_of same_key view key
      whole-found = found-filled same_key no_index sound reflexive same undefined value_refl shadow view d d' h wanted fixed-wanted there-wanted absent-unwanted

      pub whole-allowed : AreAllowed same_key same undefined (followed_whole same_key shadow view) shadow
      whole-allowed = by view.extensible
        where
          by : (b : Bool) → AreAllowed same_key same undefined (if b then [] else brought_by wanted shadow view) shadow
          by true = tt
          by false = brought-allowed same_key no_index sound reflexive same undefined value_refl shadow view d d' h wanted fixed-wanted there-wanted absent-unwanted

      facts-whole : KeepsFacts same_key whole view
      facts-whole = record {
        properties = λ key p at fixed. (p, sym (whole-found key) ∙ at, keeps-refl p);
        closed = λ c. c;
        prototype = λ c. refl;
        absent = λ c key none. sym (whole-found key) ∙ none;
      }

      has-whole : HasWhole same_key whole view
      has-whole = record { extensible = λ c. c; prototype = λ c. refl; properties = λ c key. whole-found key }

      pub whole-facts : KeepsFacts same_key (changed_by same_key (followed_whole same_key shadow view) shadow) view
      whole-facts = by view.extensible
        where
          by : (b : Bool) → KeepsFacts same_key (changed_by same_key (if b then [] else brought_by wanted shadow view) shadow) view
          by true = h
          by false = subst (λ (x : View K V). KeepsFacts same_key x view) (sym whole-is) facts-whole

      pub whole-has : HasWhole same_key (changed_by same_key (followed_whole same_key shadow view) shadow) view
      whole-has = by view.extensible refl
        where
          by : (b : Bool) → view.extensible ≡ b → HasWhole same_key (changed_by same_key (if b then [] else brought_by wanted shadow view) shadow) view
          by true e = record {
            extensible = λ c. absurd (let no : true ≡ false = sym e ∙ c in cc);
            prototype = λ c. absurd (let no : true ≡ false = sym e ∙ c in cc);
            properties = λ c key. absurd (let no : true ≡ false = sym e ∙ c in cc);
          }
          by false e = subst (λ (x : View K V). HasWhole same_key x view) (sym whole-is) has-whole

      pub whole-lean : IsLean same_key shadow → IsLean same_key (changed_by same_key (followed_whole same_key shadow view) shadow)
      whole-lean lean = by view.extensible refl
        where
          by : (b : Bool) → view.extensible ≡ b → IsLean same_key (changed_by same_key (if b then [] else brought_by wanted shadow view) shadow)
          by true e = lean
          by false e = subst (λ (x : View K V). IsLean same_key x) (sym whole-is) (λ c. absurd (let no : true ≡ false = sym c ∙ e in cc))

  -- ---- what passes against the view passes against the shadow that followed it
  module _ (shadow view : View K V) (h : KeepsFacts same_key shadow view) (lean : IsLean same_key shadow) where
    -- what the shadow has of a key that was followed is what the view has
    shadow-there : (key : K) (p : Full V) → HasKey same_key key shadow view → property_of same_key shadow key ≡ Some p → property_of same_key shadow key ≡ property_of same_key view key
    shadow-there key p has at = by shadow.extensible refl
      where
        by : (b : Bool) → shadow.extensible ≡ b → property_of same_key shadow key ≡ property_of same_key view key
        by true c = let fixed = lean c key p at in let m = h.properties key p at fixed in has.0 (m.0, m.1, keeps-configurable p m.0 m.2 ∙ fixed)
        by false c = has.1 c

    lacks-shadow : (key : K) → HasKey same_key key shadow view → MayLack same_key same undefined view key → MayLack same_key same undefined shadow key
    lacks-shadow key has may p at = by shadow.extensible refl
      where
        m : (is_configurable p ≡ true) × (view.extensible ≡ true)
        m = may p (sym (shadow-there key p has at) ∙ at)

        by : (b : Bool) → shadow.extensible ≡ b → (is_configurable p ≡ true) × (shadow.extensible ≡ true)
        by true c = (m.0, c)
        by false c = absurd (let no : true ≡ false = sym m.1 ∙ h.closed c in cc)

    -- `Validate` over a property doesn't ask whether the object is extensible
    over-some : (one two : Bool) (p : Full V) (desc : Desc V) → Validate same undefined one (Some p) desc ≡ Validate same undefined two (Some p) desc
    unfolding Validate
    over-some one two p desc = refl

    complete-some : (desc : Desc V) → is_some (Validate same undefined true None desc) ≡ true
    unfolding Validate
    complete-some desc = refl

    said-shadow : (key : K) (said : Full V) → HasKey same_key key shadow view → AllowsSaid same undefined view.extensible (property_of same_key view key) said → AllowsSaid same undefined shadow.extensible (property_of same_key shadow key) said
    said-shadow key said has a = by (property_of same_key shadow key) refl shadow.extensible refl
      where
        by : (o : Option (Full V)) → property_of same_key shadow key ≡ o → (b : Bool) → shadow.extensible ≡ b → AllowsSaid same undefined shadow.extensible (property_of same_key shadow key) said
        by (Some p) at b c =
            let e : property_of same_key view key ≡ Some p = sym (shadow-there key p has at) ∙ at in
            let k : AllowsSaid same undefined view.extensible (Some p) said = subst (λ z. AllowsSaid same undefined view.extensible z said) e a in
            subst (λ z. AllowsSaid same undefined shadow.extensible z said) (sym at) (ap is_some (over-some shadow.extensible view.extensible p (descriptor_of said)) ∙ k.0, k.1)
        by None at false c =
            let e : property_of same_key view key ≡ None = sym (has.1 c) ∙ at in
            let k : AllowsSaid same undefined view.extensible None said = subst (λ z. AllowsSaid same undefined view.extensible z said) e a in
            subst (λ z. AllowsSaid same undefined shadow.extensible z said) (sym at) (subst (λ z. AllowsSaid same undefined z None said) (h.closed c ∙ sym c) k)
        by None at true c =
            subst (λ z. AllowsSaid same undefined shadow.extensible z said) (sym at) (
              ap (λ z. is_some (Validate same undefined z None (descriptor_of said))) c ∙ complete-some (descriptor_of said),
              λ f. let m = a.1 f in absurd (let no : None ≡ Some m.0 = sym at ∙ has.0 (m.0, m.1, m.2) ∙ m.1 in cc),
            )

    defined-shadow : (key : K) (given : Desc V) → HasKey same_key key shadow view → AllowsDefined same undefined view.extensible (property_of same_key view key) given → AllowsDefined same undefined shadow.extensible (property_of same_key shadow key) given
    defined-shadow key given has a = by (property_of same_key shadow key) refl shadow.extensible refl
      where
        asked : property_of same_key shadow key ≡ None → (o : Option (Full V)) → property_of same_key view key ≡ o → AllowsDefined same undefined view.extensible o given → (b : Bool) → denies given.configurable ≡ b → denies given.configurable ≡ false
        asked at None e k b f = k.1
        asked at (Some p) e k true f = absurd (let no : None ≡ Some p = sym at ∙ has.0 (p, e, k.1 f) ∙ e in cc)
        asked at (Some p) e k false f = f

        by : (o : Option (Full V)) → property_of same_key shadow key ≡ o → (b : Bool) → shadow.extensible ≡ b → AllowsDefined same undefined shadow.extensible (property_of same_key shadow key) given
        by (Some p) at b c =
            let e : property_of same_key view key ≡ Some p = sym (shadow-there key p has at) ∙ at in
            let k : AllowsDefined same undefined view.extensible (Some p) given = subst (λ z. AllowsDefined same undefined view.extensible z given) e a in
            subst (λ z. AllowsDefined same undefined shadow.extensible z given) (sym at) (ap is_some (over-some shadow.extensible view.extensible p given) ∙ k.0, k.1, k.2)
        by None at false c =
            let e : property_of same_key view key ≡ None = sym (has.1 c) ∙ at in
            let k : AllowsDefined same undefined view.extensible None given = subst (λ z. AllowsDefined same undefined view.extensible z given) e a in
            absurd (let no : true ≡ false = sym k.0 ∙ h.closed c in cc)
        by None at true c =
            subst (λ z. AllowsDefined same undefined shadow.extensible z given) (sym at) (c, asked at (property_of same_key view key) refl a (denies given.configurable) refl)

    pub shadow-passes : (deed : Deed K V) → HasFollowed same_key deed shadow view → Passes same_key same undefined deed view → Passes same_key same undefined deed shadow
    shadow-passes (GetPrototypeOf prototype) has p = λ c. p (h.closed c) ∙ h.prototype c
    shadow-passes (SetPrototypeOf prototype true) has p = λ c. p (h.closed c) ∙ h.prototype c
    shadow-passes (SetPrototypeOf prototype false) has p = tt
    shadow-passes (IsExtensible answer) has p = p ∙ by view.extensible refl shadow.extensible refl
      where
        by : (a : Bool) → view.extensible ≡ a → (b : Bool) → shadow.extensible ≡ b → view.extensible ≡ shadow.extensible
        by true e true f = e ∙ sym f
        by true e false f = absurd (let no : true ≡ false = sym e ∙ h.closed f in cc)
        by false e true f = absurd (let no : true ≡ false = sym f ∙ has.extensible e in cc)
        by false e false f = e ∙ sym f
    shadow-passes (PreventExtensionsOf true) has p = has.extensible p
    shadow-passes (PreventExtensionsOf false) has p = tt
    shadow-passes (GetOwnProperty key None) has p = lacks-shadow key has p
    shadow-passes (GetOwnProperty key (Some said)) has p = said-shadow key said has p
    shadow-passes (DefineOwnProperty key given true) has p = defined-shadow key given has p
    shadow-passes (DefineOwnProperty key given false) has p = tt
    shadow-passes (HasProperty key false) has p = lacks-shadow key has p
    shadow-passes (HasProperty key true) has p = tt
    shadow-passes (Get key answer) has p = by (property_of same_key shadow key) refl
      where
        by : (o : Option (Full V)) → property_of same_key shadow key ≡ o → AllowsGot same undefined (property_of same_key shadow key) answer
        by None at = subst (λ z. AllowsGot same undefined z answer) (sym at) tt
        by (Some q) at = subst (λ z. AllowsGot same undefined z answer) (sym (shadow-there key q has at)) p
    shadow-passes (Set key given true) has p = by (property_of same_key shadow key) refl
      where
        by : (o : Option (Full V)) → property_of same_key shadow key ≡ o → AllowsSet same undefined (property_of same_key shadow key) given
        by None at = subst (λ z. AllowsSet same undefined z given) (sym at) tt
        by (Some q) at = subst (λ z. AllowsSet same undefined z given) (sym (shadow-there key q has at)) p
    shadow-passes (Set key given false) has p = tt
    shadow-passes (Delete key true) has p = lacks-shadow key has p
    shadow-passes (Delete key false) has p = tt
    shadow-passes (OwnPropertyKeys keys) has p = (
      λ key f. let m = h.properties key f.0 f.1 f.2 in p.0 key (m.0, m.1, keeps-configurable f.0 m.0 m.2 ∙ f.2),
      λ c key. p.1 (h.closed c) key ∙ ap is_some (sym ((has c).properties (h.closed c) key)),
    )
    shadow-passes Silent has p = tt

    -- what the deed tells of the view is so of the shadow too
    pub shadow-told : (deed : Deed K V) → HasFollowed same_key deed shadow view → AllByRecursion (λ fact. Holds same_key fact view) (tells deed) → AllByRecursion (λ fact. Holds same_key fact shadow) (tells deed)
    shadow-told (IsExtensible false) has t = (has.extensible t.0, tt)
    shadow-told (PreventExtensionsOf true) has t = (has.extensible t.0, tt)
    shadow-told (GetOwnProperty key (Some said)) has t = fixed-told key (promise_of said) (not (is_configurable said)) has t
      where
        fixed-told : (key : K) (promise : Promise V) (b : Bool) → HasKey same_key key shadow view → AllByRecursion (λ fact. Holds same_key fact view) (fact_if b (Fixed key promise)) → AllByRecursion (λ fact. Holds same_key fact shadow) (fact_if b (Fixed key promise))
        fixed-told key promise true has t = ((t.0.0, has.0 (t.0.0, t.0.1, t.0.2.0) ∙ t.0.1, t.0.2), tt)
        fixed-told key promise false has t = tt
    shadow-told (DefineOwnProperty key given true) has t = fixed-told key (promise_given given) (denies given.configurable) has t
      where
        fixed-told : (key : K) (promise : Promise V) (b : Bool) → HasKey same_key key shadow view → AllByRecursion (λ fact. Holds same_key fact view) (fact_if b (Fixed key promise)) → AllByRecursion (λ fact. Holds same_key fact shadow) (fact_if b (Fixed key promise))
        fixed-told key promise true has t = ((t.0.0, has.0 (t.0.0, t.0.1, t.0.2.0) ∙ t.0.1, t.0.2), tt)
        fixed-told key promise false has t = tt
    shadow-told _ has t = tt

    pub shadow-told_of_closed : (deed : Deed K V) → shadow.extensible ≡ false → HasFollowed same_key deed shadow view → AllByRecursion (λ fact. Holds same_key fact view) (tells_of_closed deed) → AllByRecursion (λ fact. Holds same_key fact shadow) (tells_of_closed deed)
    shadow-told_of_closed (GetOwnProperty key None) c has t = ((c, has.1 c ∙ t.0.1), tt)
    shadow-told_of_closed (HasProperty key false) c has t = ((c, has.1 c ∙ t.0.1), tt)
    shadow-told_of_closed (Delete key true) c has t = ((c, has.1 c ∙ t.0.1), tt)
    shadow-told_of_closed (OwnPropertyKeys keys) c has t = ((c, λ key out. (has c).properties (h.closed c) key ∙ t.0.1 key out), tt)
    shadow-told_of_closed (GetPrototypeOf prototype) c has t = ((c, sym (h.prototype c) ∙ t.0.1), tt)
    shadow-told_of_closed (SetPrototypeOf prototype true) c has t = ((c, sym (h.prototype c) ∙ t.0.1), tt)
    shadow-told_of_closed _ c has t = tt
