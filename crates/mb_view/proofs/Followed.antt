-- A view is brought to another that it may evolve to.
use Rattle.std.proofs.Common.{◌≡◌, Bool, true, false, not, List, [], ◌∷◌, ◌++◌, map, Option, None, Some, refl, sym, ap, ◌∙◌, subst, if◌then◌else◌, append_assoc, append-nil}
use Rattle.std.specs.Prelude.{◌⊎◌}
use mathlib.Core.Logic.{inl, inr}
use Rattle.std.specs.List.{AllByRecursion, IsDistinct, filter, list_any}
use Rattle.std.specs.Map.{keys_of, lookup, remove_entry}
use Rattle.std.proofs.lemmas.Map.Keys.{IsDistinct-head, IsDistinct-tail}
use Rattle.std.proofs.lemmas.List.Elements.{filter-append}
use Rattle.indexmap.specs.IndexMap.{insert_entry}
use Rattle.mb_desc.specs.declared.descriptor.Desc.{Desc}
use Rattle.mb_desc.specs.declared.descriptor.Full.{Full}
use Rattle.mb_desc.specs.declared.descriptor.Full.TheVariants.{Datum, Accessor}
use Rattle.mb_desc.specs.Descriptors.{is_configurable, IsOfOneKind, descriptor_of}
use Rattle.mb_desc.specs.Validate.{Validate, same_flag}
use Rattle.mb_desc.specs.Laws.{KeepsFixed}
use Rattle.mb_desc.specs.View.{View}
use Rattle.mb_view.specs.Views.{property_of, HasDistinctKeys, IsFixed, KeepsFacts, keys_where, KeepsOrderBy}
use Rattle.mb_view.specs.Changes.{Change, Define, Remove, changed, changed_by, AreAllowed}
use Rattle.mb_view.specs.Following.{kept, brought_by, definitions, prototype_if, prevention_unless}
use Rattle.mb_view.proofs.Lists.{filter-sublist, All-sublist, none-from_All, any-filter, none-sublist, distinct-sublist, filter-twice, sublist-append}
use Rattle.mb_view.proofs.Tables.{same_key-sym, lookup-insert, lookup-remove, lookup_none, keys-insert_there, keys-insert_new, there, not_there}
use Rattle.mb_view.proofs.Changing.{name-there, changed-distinct}
use Rattle.mb_view.proofs.Walks.{kept-sublist, kept-prefix, kept-all, kept-has, filter-members, filter-agree, filter-rest, All-map, All-filter, All-flip, All-true, members, absent-more, each-found}

-- ---- which definitions are accepted
module _ {V : Type 0} (same : V → V → Bool) (undefined : V) (value_refl : (x : V) → same x x ≡ true) where
  same_flag-refl : (x : Bool) → same_flag x x ≡ true
  same_flag-refl true = refl
  same_flag-refl false = refl

  pub accepts-new : (property : Full V) → Validate same undefined true None (descriptor_of property) ≡ Some property
  unfolding Validate
  accepts-new (Datum value writable enumerable configurable) = refl
  accepts-new (Accessor get set enumerable configurable) = refl

  pub of_one_kind : (property : Full V) → IsOfOneKind (descriptor_of property)
  of_one_kind (Datum value writable enumerable configurable) = refl
  of_one_kind (Accessor get set enumerable configurable) = refl

  pub accepts-loose : (extensible : Bool) (current property : Full V) → is_configurable current ≡ true → Validate same undefined extensible (Some current) (descriptor_of property) ≡ Some property
  unfolding Validate
  accepts-loose extensible (Datum v w e c) (Datum v' w' e' c') h = rw h refl
  accepts-loose extensible (Datum v w e c) (Accessor g s e' c') h = rw h refl
  accepts-loose extensible (Accessor g s e c) (Datum v' w' e' c') h = rw h refl
  accepts-loose extensible (Accessor g s e c) (Accessor g' s' e' c') h = rw h refl

  pub accepts-kept : (extensible : Bool) (current property : Full V) → is_configurable current ≡ false → KeepsFixed current property → Validate same undefined extensible (Some current) (descriptor_of property) ≡ Some property
  unfolding Validate
  accepts-kept extensible (Datum v true e c) (Datum v' w' e' c') fixed h =
      let f : c' ≡ false = h.1 ∙ fixed in
      let k : same_flag e' e ≡ true = ap (λ z. same_flag z e) h.0 ∙ same_flag-refl e in
      rw (fixed, f, k) refl
  accepts-kept extensible (Datum v false e c) (Datum v' w' e' c') fixed h =
      let f : c' ≡ false = h.1 ∙ fixed in
      let k : same_flag e' e ≡ true = ap (λ z. same_flag z e) h.0 ∙ same_flag-refl e in
      let w : w' ≡ false = (h.2 refl).0 in
      let s : same v' v ≡ true = ap (λ z. same z v) (h.2 refl).1 ∙ value_refl v in
      rw (fixed, f, k, w, s) refl
  accepts-kept extensible (Datum v w e c) (Accessor g s e' c') fixed h = absurd h
  accepts-kept extensible (Accessor g s e c) property fixed h =
      subst (λ (p : Full V). Validate same undefined extensible (Some (Accessor g s e c)) (descriptor_of p) ≡ Some p) (sym h)
      (rw (fixed, same_flag-refl e, value_refl g, value_refl s) refl)

-- ---- many keys are taken out
module _ {K P : Type 0} where
  pub keys-filter : (test : K → Bool) (es : List (K × P)) → keys_of (filter (λ e. test e.0) es) ≡ filter test (keys_of es)
  keys-filter test [] = refl
  keys-filter test (e ∷ es) = by (test e.0) refl (keys-filter test es)
    where
      by : (b : Bool) → test e.0 ≡ b → keys_of (filter (λ e. test e.0) es) ≡ filter test (keys_of es) → keys_of (filter (λ e. test e.0) (e ∷ es)) ≡ filter test (keys_of (e ∷ es))
      by true t rest = rw t (ap (λ r. e.0 ∷ r) rest)
      by false t rest = rw t rest

module _ {K P : Type 0} (same_key : K → K → Bool) (sound : (x y : K) → same_key x y ≡ true → x ≡ y) (reflexive : (x : K) → same_key x x ≡ true) where
  pub lookup-filter : (test : K → Bool) (es : List (K × P)) (q : K) → lookup (same_key q) (filter (λ e. test e.0) es) ≡ (if test q then lookup (same_key q) es else None)
  lookup-filter test [] q = by (test q)
    where
      none : Option P
      none = None

      by : (b : Bool) → None ≡ (if b then none else None)
      by true = refl
      by false = refl
  lookup-filter test (e ∷ es) q = by (same_key q e.0) (test e.0) refl refl (lookup-filter test es q)
    where
      by : (a b : Bool) → same_key q e.0 ≡ a → test e.0 ≡ b → lookup (same_key q) (filter (λ e. test e.0) es) ≡ (if test q then lookup (same_key q) es else None) → lookup (same_key q) (filter (λ e. test e.0) (e ∷ es)) ≡ (if test q then lookup (same_key q) (e ∷ es) else None)
      by true true s t rest = let u : test q ≡ true = ap test (sound q e.0 s) ∙ t in rw (t, s, u) refl
      by true false s t rest = let u : test q ≡ false = ap test (sound q e.0 s) ∙ t in rw (t, u) (rw u at rest)
      by false true s t rest = rw (t, s) rest
      by false false s t rest = rw (t, s) rest

  abbrev pub removed : List K → List (K × P) → List (K × P)
  removed [] es = es
  removed (key ∷ keys) es = removed keys (remove_entry (same_key key) es)

  removed-cons : (keys : List K) (e : K × P) (es : List (K × P)) → AllByRecursion (λ key. same_key key e.0 ≡ false) keys → removed keys (e ∷ es) ≡ e ∷ removed keys es
  removed-cons [] e es h = refl
  removed-cons (key ∷ keys) e es h = let t : same_key key e.0 ≡ false = h.0 in rw t (removed-cons keys e (remove_entry (same_key key) es) h.1)

  removed-filter : (test : K → Bool) (es : List (K × P)) → IsDistinct same_key (keys_of es) → removed (filter (λ key. not (test key)) (keys_of es)) es ≡ filter (λ e. test e.0) es
  removed-filter test [] d = refl
  removed-filter test (e ∷ es) d = by (test e.0) refl (removed-filter test es (IsDistinct-tail same_key e.0 (keys_of es) d))
    where
      others : AllByRecursion (λ y. same_key y e.0 ≡ false) (filter (λ key. not (test key)) (keys_of es))
      others = All-sublist (λ y. same_key y e.0 ≡ false) (filter (λ key. not (test key)) (keys_of es)) (keys_of es) (All-flip same_key sound reflexive e.0 (keys_of es) (IsDistinct-head same_key e.0 (keys_of es) d)) (filter-sublist (λ key. not (test key)) (keys_of es))

      by : (b : Bool) → test e.0 ≡ b → removed (filter (λ key. not (test key)) (keys_of es)) es ≡ filter (λ e. test e.0) es → removed (filter (λ key. not (test key)) (keys_of (e ∷ es))) (e ∷ es) ≡ filter (λ e. test e.0) (e ∷ es)
      by true t rest = rw t (removed-cons (filter (λ key. not (test key)) (keys_of es)) e es others ∙ ap (λ r. e ∷ r) rest)
      by false t rest = rw (t, reflexive e.0) rest

  -- ---- many keys are put
  abbrev put : List (K × P) → List (K × P) → List (K × P)
  put es [] = es
  put es (x ∷ xs) = put (insert_entry same_key es x.0 x.1) xs

  abbrev either : Option P → Option P → Option P
  either None other = other
  either (Some p) other = Some p

  lookup-put : (es xs : List (K × P)) (q : K) → IsDistinct same_key (keys_of xs) → lookup (same_key q) (put es xs) ≡ either (lookup (same_key q) xs) (lookup (same_key q) es)
  lookup-put es [] q d = refl
  lookup-put es (x ∷ xs) q d = by (same_key q x.0) refl (lookup-put (insert_entry same_key es x.0 x.1) xs q (IsDistinct-tail same_key x.0 (keys_of xs) d))
    where
      by : (b : Bool) → same_key q x.0 ≡ b → lookup (same_key q) (put (insert_entry same_key es x.0 x.1) xs) ≡ either (lookup (same_key q) xs) (lookup (same_key q) (insert_entry same_key es x.0 x.1)) → lookup (same_key q) (put es (x ∷ xs)) ≡ either (lookup (same_key q) (x ∷ xs)) (lookup (same_key q) es)
      by true t rest =
          let none : lookup (same_key q) xs ≡ None = ap (λ z. lookup (same_key z) xs) (sound q x.0 t) ∙ lookup_none (same_key x.0) xs (none-from_All (same_key x.0) (keys_of xs) (IsDistinct-head same_key x.0 (keys_of xs) d)) in
          rest ∙ ap (λ z. either z (lookup (same_key q) (insert_entry same_key es x.0 x.1))) none ∙ lookup-insert same_key sound reflexive es x.0 x.1 q ∙ rw t refl
      by false t rest = rest ∙ ap (either (lookup (same_key q) xs)) (lookup-insert same_key sound reflexive es x.0 x.1 q) ∙ rw t refl

  keys-put : (es xs : List (K × P)) → IsDistinct same_key (keys_of xs) → keys_of (put es xs) ≡ keys_of es ++ filter (λ key. not (list_any (same_key key) (keys_of es))) (keys_of xs)
  keys-put es [] d = sym (append-nil (keys_of es))
  keys-put es (x ∷ xs) d = by (list_any (same_key x.0) (keys_of es)) refl (keys-put (insert_entry same_key es x.0 x.1) xs (IsDistinct-tail same_key x.0 (keys_of xs) d))
    where
      by : (b : Bool) → list_any (same_key x.0) (keys_of es) ≡ b
          → keys_of (put (insert_entry same_key es x.0 x.1) xs) ≡ keys_of (insert_entry same_key es x.0 x.1) ++ filter (λ key. not (list_any (same_key key) (keys_of (insert_entry same_key es x.0 x.1)))) (keys_of xs)
          → keys_of (put es (x ∷ xs)) ≡ keys_of es ++ filter (λ key. not (list_any (same_key key) (keys_of es))) (keys_of (x ∷ xs))
      by true t rest = rest ∙ ap (λ (keys : List K). keys ++ filter (λ key. not (list_any (same_key key) keys)) (keys_of xs)) (keys-insert_there same_key sound reflexive es x.0 x.1 t) ∙ rw t refl
      by false t rest =
          rest ∙ ap (λ (keys : List K). keys ++ filter (λ key. not (list_any (same_key key) keys)) (keys_of xs)) (keys-insert_new same_key sound reflexive es x.0 x.1 t)
          ∙ ap (λ r. (keys_of es ++ (x.0 ∷ [])) ++ r) (absent-more same_key sound reflexive (keys_of es) x.0 (keys_of xs) (IsDistinct-head same_key x.0 (keys_of xs) d))
          ∙ append_assoc (keys_of es) (x.0 ∷ []) (filter (λ key. not (list_any (same_key key) (keys_of es))) (keys_of xs))
          ∙ rw t refl

module _ {K V : Type 0} (same_key : K → K → Bool) (is_name : K → Bool) (sound : (x y : K) → same_key x y ≡ true → x ≡ y) (reflexive : (x : K) → same_key x x ≡ true) (same : V → V → Bool) (undefined : V) (value_refl : (x : V) → same x x ≡ true) where
  -- ---- what the lists of changes do
  changed_by-append : (one two : List (Change K V)) (view : View K V) → changed_by same_key (one ++ two) view ≡ changed_by same_key two (changed_by same_key one view)
  changed_by-append [] two view = refl
  changed_by-append (change ∷ one) two view = changed_by-append one two (changed same_key change view)

  pub allowed-append : (one two : List (Change K V)) (view : View K V) → AreAllowed same_key same undefined one view → AreAllowed same_key same undefined two (changed_by same_key one view) → AreAllowed same_key same undefined (one ++ two) view
  allowed-append [] two view h k = k
  allowed-append (change ∷ one) two view h k = (h.0, allowed-append one two (changed same_key change view) h.1 k)

  pub changed_by-removals : (keys : List K) (view : View K V) → changed_by same_key (map Remove keys) view ≡ record view { properties = removed same_key sound reflexive keys view.properties }
  changed_by-removals [] view = refl
  changed_by-removals (key ∷ keys) view = changed_by-removals keys (changed same_key (Remove key) view)

  changed_by-definitions : (entries : List (K × Full V)) (view : View K V) → changed_by same_key (definitions entries) view ≡ record view { properties = put same_key sound reflexive view.properties entries }
  changed_by-definitions [] view = refl
  changed_by-definitions (entry ∷ entries) view = changed_by-definitions entries (changed same_key (Define entry.0 (descriptor_of entry.1) entry.1) view)

  -- ---- they are admitted
  abbrev pub IsLoose : View K V → K → Type 0
  IsLoose view key = (p : Full V) × (property_of same_key view key ≡ Some p) × (is_configurable p ≡ true)

  pub loose-later : (view : View K V) (key : K) (keys : List K) → HasDistinctKeys same_key view → AllByRecursion (λ y. same_key key y ≡ false) keys → AllByRecursion (IsLoose view) keys → AllByRecursion (IsLoose (changed same_key (Remove key) view)) keys
  loose-later view key [] d apart h = tt
  loose-later view key (x ∷ xs) d apart h =
      let t : same_key x key ≡ false = same_key-sym same_key sound x key ∙ apart.0 in
      ((h.0.0, lookup-remove same_key sound reflexive view.properties key x d ∙ rw t h.0.1, h.0.2), loose-later view key xs d apart.1 h.1)

  pub removals-allowed : (keys : List K) (view : View K V) → HasDistinctKeys same_key view → IsDistinct same_key keys → AllByRecursion (IsLoose view) keys → AreAllowed same_key same undefined (map Remove keys) view
  removals-allowed [] view d e h = tt
  removals-allowed (key ∷ keys) view d e h = (
    h.0,
    removals-allowed keys (changed same_key (Remove key) view) (changed-distinct same_key is_name sound reflexive (Remove key) view d) (IsDistinct-tail same_key key keys e)
        (loose-later view key keys d (IsDistinct-head same_key key keys e) h.1),
  )

  Accepts : View K V → K × Full V → Type 0
  Accepts view entry = Validate same undefined view.extensible (property_of same_key view entry.0) (descriptor_of entry.1) ≡ Some entry.1

  accepts-later : (view : View K V) (key : K) (desc : Desc V) (p : Full V) (entries : List (K × Full V)) → AllByRecursion (λ y. same_key key y ≡ false) (keys_of entries) → AllByRecursion (Accepts view) entries → AllByRecursion (Accepts (changed same_key (Define key desc p) view)) entries
  unfolding Accepts
  accepts-later view key desc p [] apart h = tt
  accepts-later view key desc p (x ∷ xs) apart h =
      let t : same_key x.0 key ≡ false = same_key-sym same_key sound x.0 key ∙ apart.0 in
      let e : property_of same_key (changed same_key (Define key desc p) view) x.0 ≡ property_of same_key view x.0 = lookup-insert same_key sound reflexive view.properties key p x.0 ∙ rw t refl in
      (ap (λ z. Validate same undefined view.extensible z (descriptor_of x.1)) e ∙ h.0, accepts-later view key desc p xs apart.1 h.1)

  definitions-allowed : (entries : List (K × Full V)) (view : View K V) → IsDistinct same_key (keys_of entries) → AllByRecursion (Accepts view) entries → AreAllowed same_key same undefined (definitions entries) view
  unfolding Accepts
  definitions-allowed [] view d h = tt
  definitions-allowed (x ∷ xs) view d h = (
    (of_one_kind same undefined value_refl x.1, h.0),
    definitions-allowed xs (changed same_key (Define x.0 (descriptor_of x.1) x.1) view) (IsDistinct-tail same_key x.0 (keys_of xs) d)
        (accepts-later view x.0 (descriptor_of x.1) x.1 xs (IsDistinct-head same_key x.0 (keys_of xs) d) h.1),
  )

  -- ---- from one view to another, of which its facts hold; what may stay is told by a test
  module _ (old new : View K V) (d : HasDistinctKeys same_key old) (d' : HasDistinctKeys same_key new) (facts : KeepsFacts same_key old new)
      (stay : K → Bool)
      (fixed-stays : (key : K) → IsFixed same_key old key → stay key ≡ true)
      (closed-stays : old.extensible ≡ false → (key : K) (p : Full V) → property_of same_key new key ≡ Some p → stay key ≡ true)
      (absent-goes : (key : K) → property_of same_key new key ≡ None → stay key ≡ false) where
    -- the view once all that is in the way is removed, and once every property is defined
    abbrev pub cleared : View K V
    cleared = record old { properties = filter (λ e. stay e.0) old.properties }

    abbrev pub filled : View K V
    filled = record old { properties = put same_key sound reflexive cleared.properties new.properties }

    found-cleared : (key : K) → property_of same_key cleared key ≡ (if stay key then property_of same_key old key else None)
    found-cleared key = lookup-filter same_key sound reflexive stay old.properties key

    -- ---- removing
    cleared-is : changed_by same_key (map Remove (filter (λ key. not (stay key)) (keys_of old.properties))) old ≡ cleared
    cleared-is =
        changed_by-removals (filter (λ key. not (stay key)) (keys_of old.properties)) old
        ∙ ap (λ (es : List (K × Full V)). record old { properties = es }) (removed-filter same_key sound reflexive stay old.properties d)

    loose : AllByRecursion (IsLoose old) (filter (λ key. not (stay key)) (keys_of old.properties))
    loose =
        All-map same_key sound reflexive (λ key. (list_any (same_key key) (keys_of old.properties) ≡ true) × (not (stay key) ≡ true)) (IsLoose old) one
        (filter (λ key. not (stay key)) (keys_of old.properties))
        (All-filter same_key sound reflexive (λ key. list_any (same_key key) (keys_of old.properties) ≡ true) (λ key. not (stay key)) (keys_of old.properties) (members same_key sound reflexive (keys_of old.properties)))
      where
        flags : (key : K) (p : Full V) → property_of same_key old key ≡ Some p → not (stay key) ≡ true → (b : Bool) → is_configurable p ≡ b → is_configurable p ≡ true
        flags key p at goes true c = c
        flags key p at goes false c = absurd (let no : false ≡ true = ap not (sym (fixed-stays key (p, at, c))) ∙ goes in cc)

        some : (key : K) → list_any (same_key key) (keys_of old.properties) ≡ true → not (stay key) ≡ true → (o : Option (Full V)) → property_of same_key old key ≡ o → (p : Full V) × (property_of same_key old key ≡ Some p) × (is_configurable p ≡ true)
        some key in_ goes None at = absurd (let no : true ≡ false = sym in_ ∙ not_there (same_key key) old.properties at in cc)
        some key in_ goes (Some p) at = (p, at, flags key p at goes (is_configurable p) refl)

        one : (key : K) → (list_any (same_key key) (keys_of old.properties) ≡ true) × (not (stay key) ≡ true) → (p : Full V) × (property_of same_key old key ≡ Some p) × (is_configurable p ≡ true)
        one key g = some key g.0 g.1 (property_of same_key old key) refl

    removing : AreAllowed same_key same undefined (map Remove (filter (λ key. not (stay key)) (keys_of old.properties))) old
    removing =
        removals-allowed (filter (λ key. not (stay key)) (keys_of old.properties)) old d
        (distinct-sublist same_key sound (filter (λ key. not (stay key)) (keys_of old.properties)) (keys_of old.properties) d (filter-sublist (λ key. not (stay key)) (keys_of old.properties)))
        loose

    -- ---- defining
    accept : (key : K) (p' : Full V) → property_of same_key new key ≡ Some p' → Validate same undefined old.extensible (property_of same_key cleared key) (descriptor_of p') ≡ Some p'
    accept key p' at = by (stay key) refl
      where
        kept-property : (p : Full V) → property_of same_key old key ≡ Some p → (b : Bool) → is_configurable p ≡ b → Validate same undefined old.extensible (Some p) (descriptor_of p') ≡ Some p'
        kept-property p was true c = accepts-loose same undefined value_refl old.extensible p p' c
        kept-property p was false c =
            let m = facts.properties key p was c in
            let e : Some m.0 ≡ Some p' = sym m.1 ∙ at in
            let f : m.0 ≡ p' = cc in
            accepts-kept same undefined value_refl old.extensible p p' c (subst (KeepsFixed p) f m.2)

        absent : property_of same_key old key ≡ None ⊎ (stay key ≡ false) → (b : Bool) → old.extensible ≡ b → Validate same undefined b None (descriptor_of p') ≡ Some p'
        absent why true c = accepts-new same undefined value_refl p'
        absent (inl was) false c = absurd (let no : None ≡ Some p' = sym (facts.absent c key was) ∙ at in cc)
        absent (inr goes) false c = absurd (let no : true ≡ false = sym (closed-stays c key p' at) ∙ goes in cc)

        some : stay key ≡ true → (o : Option (Full V)) → property_of same_key old key ≡ o → Validate same undefined old.extensible o (descriptor_of p') ≡ Some p'
        some t None was = absent (inl was) old.extensible refl
        some t (Some p) was = kept-property p was (is_configurable p) refl

        by : (b : Bool) → stay key ≡ b → Validate same undefined old.extensible (property_of same_key cleared key) (descriptor_of p') ≡ Some p'
        by true t =
            let e : property_of same_key cleared key ≡ property_of same_key old key = found-cleared key ∙ ap (λ (b : Bool). if b then property_of same_key old key else None) t in
            ap (λ z. Validate same undefined old.extensible z (descriptor_of p')) e ∙ some t (property_of same_key old key) refl
        by false t =
            let e : property_of same_key cleared key ≡ None = found-cleared key ∙ ap (λ (b : Bool). if b then property_of same_key old key else None) t in
            ap (λ z. Validate same undefined old.extensible z (descriptor_of p')) e ∙ absent (inr t) old.extensible refl

    accepted : (entries : List (K × Full V)) → AllByRecursion (λ e. property_of same_key new e.0 ≡ Some e.1) entries → AllByRecursion (Accepts cleared) entries
    unfolding Accepts
    accepted [] k = tt
    accepted (e ∷ es) k = (accept e.0 e.1 k.0, accepted es k.1)

    defining : AreAllowed same_key same undefined (definitions new.properties) cleared
    defining = definitions-allowed new.properties cleared d' (accepted new.properties (each-found same_key sound reflexive new.properties d'))

    filled-is : changed_by same_key (definitions new.properties) cleared ≡ filled
    filled-is = changed_by-definitions new.properties cleared

    pub found-filled : (key : K) → property_of same_key filled key ≡ property_of same_key new key
    found-filled key = lookup-put same_key sound reflexive cleared.properties new.properties key d' ∙ by (property_of same_key new key) refl
      where
        by : (o : Option (Full V)) → property_of same_key new key ≡ o → either same_key sound reflexive (property_of same_key new key) (property_of same_key cleared key) ≡ property_of same_key new key
        by None at =
            ap (λ z. either same_key sound reflexive z (property_of same_key cleared key)) at
            ∙ found-cleared key ∙ ap (λ (b : Bool). if b then property_of same_key old key else None) (absent-goes key at) ∙ sym at
        by (Some p) at = ap (λ z. either same_key sound reflexive z (property_of same_key cleared key)) at ∙ sym at

    -- ---- the prototype, and no more extensions
    ending : (a b : Bool) → old.extensible ≡ a → new.extensible ≡ b → AreAllowed same_key same undefined (prototype_if a new.prototype ++ prevention_unless b) filled
    ending true true e f = (e, tt)
    ending true false e f = (e, (tt, tt))
    ending false true e f = tt
    ending false false e f = (tt, tt)

    -- the view that has all of the new one
    abbrev pub arrived : View K V
    arrived = record filled { prototype = new.prototype; extensible = new.extensible }

    finished : (a b : Bool) → old.extensible ≡ a → new.extensible ≡ b → changed_by same_key (prototype_if a new.prototype ++ prevention_unless b) filled ≡ arrived
    finished true true e f = ap (λ (x : Bool). record filled { prototype = new.prototype; extensible = x }) (e ∙ sym f)
    finished true false e f = ap (λ (x : Bool). record filled { prototype = new.prototype; extensible = x }) (sym f)
    finished false true e f = absurd (let no : true ≡ false = sym f ∙ facts.closed e in cc)
    finished false false e f =
        ap (λ (x : V). record filled { prototype = x; extensible = false }) (sym (facts.prototype e))
        ∙ ap (λ (x : Bool). record filled { prototype = new.prototype; extensible = x }) (sym f)

    to_filled : changed_by same_key (definitions new.properties) (changed_by same_key (map Remove (filter (λ key. not (stay key)) (keys_of old.properties))) old) ≡ filled
    to_filled = ap (changed_by same_key (definitions new.properties)) cleared-is ∙ filled-is

    pub brought-allowed : AreAllowed same_key same undefined (brought_by stay old new) old
    brought-allowed =
        allowed-append (map Remove (filter (λ key. not (stay key)) (keys_of old.properties))) (definitions new.properties ++ (prototype_if old.extensible new.prototype ++ prevention_unless new.extensible)) old removing
        (subst (AreAllowed same_key same undefined (definitions new.properties ++ (prototype_if old.extensible new.prototype ++ prevention_unless new.extensible))) (sym cleared-is)
        (allowed-append (definitions new.properties) (prototype_if old.extensible new.prototype ++ prevention_unless new.extensible) cleared defining
        (subst (AreAllowed same_key same undefined (prototype_if old.extensible new.prototype ++ prevention_unless new.extensible)) (sym filled-is)
        (ending old.extensible new.extensible refl refl))))

    pub brought-is : changed_by same_key (brought_by stay old new) old ≡ arrived
    brought-is =
        changed_by-append (map Remove (filter (λ key. not (stay key)) (keys_of old.properties))) (definitions new.properties ++ (prototype_if old.extensible new.prototype ++ prevention_unless new.extensible)) old
        ∙ changed_by-append (definitions new.properties) (prototype_if old.extensible new.prototype ++ prevention_unless new.extensible) (changed_by same_key (map Remove (filter (λ key. not (stay key)) (keys_of old.properties))) old)
        ∙ ap (changed_by same_key (prototype_if old.extensible new.prototype ++ prevention_unless new.extensible)) to_filled
        ∙ finished old.extensible new.extensible refl refl

  -- ---- of the keys that pass a test, those that the walk keeps
  module _ (old new : View K V) (d : HasDistinctKeys same_key old) (d' : HasDistinctKeys same_key new) (facts : KeepsFacts same_key old new) (order : KeepsOrderBy same_key is_name old new) where
    abbrev pub held : List K
    held = kept same_key (keys_where is_name old) (keys_where is_name new)

    distinct-names : (view : View K V) → HasDistinctKeys same_key view → IsDistinct same_key (keys_where is_name view)
    distinct-names view e = distinct-sublist same_key sound (keys_where is_name view) (keys_of view.properties) e (filter-sublist is_name (keys_of view.properties))

    held-prefix : (rest : List K) × (keys_where is_name new ≡ held ++ rest)
    held-prefix = kept-prefix same_key sound reflexive (keys_where is_name old) (keys_where is_name new)

    -- a key that isn't configurable is kept
    pub fixed-held : (key : K) → is_name key ≡ true → IsFixed same_key old key → list_any (same_key key) held ≡ true
    fixed-held key i f =
        let m = facts.properties key f.0 f.1 f.2 in
        kept-has same_key sound reflexive key (keys_where is_name old) (keys_where is_name new)
        (name-there same_key is_name sound reflexive old key i (there (same_key key) old.properties f.0 f.1))
        (name-there same_key is_name sound reflexive new key i (there (same_key key) new.properties m.0 m.1))
        (order.fixed key i f)

    -- a key of the new view is kept where the old one isn't extensible
    pub closed-held : old.extensible ≡ false → (key : K) (p : Full V) → is_name key ≡ true → property_of same_key new key ≡ Some p → list_any (same_key key) held ≡ true
    closed-held c key p i at =
        ap (list_any (same_key key)) (kept-all same_key sound reflexive (keys_where is_name old) (keys_where is_name new) (order.closed c))
        ∙ name-there same_key is_name sound reflexive new key i (there (same_key key) new.properties p at)

    -- and no key that the new view lacks
    pub absent-not_held : (key : K) → property_of same_key new key ≡ None → list_any (same_key key) held ≡ false
    absent-not_held key none =
        let out : list_any (same_key key) (keys_where is_name new) ≡ false =
        none-sublist (same_key key) (keys_where is_name new) (keys_of new.properties) (not_there (same_key key) new.properties none) (filter-sublist is_name (keys_of new.properties)) in
        none-sublist (same_key key) held (held ++ held-prefix.0) (ap (list_any (same_key key)) (sym held-prefix.1) ∙ out) (sublist-append held held-prefix.0)

    -- ---- their order, where the walk tells which of them stay
    module _ (stay : K → Bool)
        (fixed-stays : (key : K) → IsFixed same_key old key → stay key ≡ true)
        (closed-stays : old.extensible ≡ false → (key : K) (p : Full V) → property_of same_key new key ≡ Some p → stay key ≡ true)
        (absent-goes : (key : K) → property_of same_key new key ≡ None → stay key ≡ false)
        (name-stays : (key : K) → is_name key ≡ true → stay key ≡ list_any (same_key key) held) where
      abbrev cleared_ : View K V
      cleared_ = cleared old new d d' facts stay fixed-stays closed-stays absent-goes

      abbrev filled_ : View K V
      filled_ = filled old new d d' facts stay fixed-stays closed-stays absent-goes

      names-cleared : keys_where is_name cleared_ ≡ held
      names-cleared =
          ap (filter is_name) (keys-filter stay old.properties)
          ∙ filter-twice is_name stay (keys_of old.properties)
          ∙ filter-agree same_key sound reflexive stay (λ key. list_any (same_key key) held) (keys_where is_name old)
          (All-map same_key sound reflexive (λ key. Unit {0} × (is_name key ≡ true)) (λ key. stay key ≡ list_any (same_key key) held) (λ key g. name-stays key g.1) (keys_where is_name old)
          (All-filter same_key sound reflexive (λ key. Unit {0}) is_name (keys_of old.properties) (All-true same_key sound reflexive (keys_of old.properties))))
          ∙ filter-members same_key sound reflexive held (keys_where is_name old) (distinct-names old d) (kept-sublist same_key sound reflexive (keys_where is_name old) (keys_where is_name new))

      -- a name is among the keys where it is among the names
      name-absent : (view : View K V) → AllByRecursion (λ key. not (list_any (same_key key) (keys_of view.properties)) ≡ not (list_any (same_key key) (keys_where is_name view))) (keys_where is_name new)
      name-absent view =
          All-map same_key sound reflexive (λ key. Unit {0} × (is_name key ≡ true)) (λ key. not (list_any (same_key key) (keys_of view.properties)) ≡ not (list_any (same_key key) (keys_where is_name view)))
          (λ key g. ap not (sym (any-filter (same_key key) is_name (λ x t. ap is_name (sym (sound key x t)) ∙ g.1) (keys_of view.properties)))) (keys_where is_name new)
          (All-filter same_key sound reflexive (λ key. Unit {0}) is_name (keys_of new.properties) (All-true same_key sound reflexive (keys_of new.properties)))

      pub names-filled : keys_where is_name filled_ ≡ keys_where is_name new
      names-filled =
          ap (filter is_name) (keys-put same_key sound reflexive cleared_.properties new.properties d')
          ∙ filter-append is_name (keys_of cleared_.properties) (filter (λ key. not (list_any (same_key key) (keys_of cleared_.properties))) (keys_of new.properties))
          ∙ ap (λ r. keys_where is_name cleared_ ++ r) (filter-twice is_name (λ key. not (list_any (same_key key) (keys_of cleared_.properties))) (keys_of new.properties)
          ∙ filter-agree same_key sound reflexive (λ key. not (list_any (same_key key) (keys_of cleared_.properties))) (λ key. not (list_any (same_key key) (keys_where is_name cleared_))) (keys_where is_name new) (name-absent cleared_))
          ∙ ap (λ (keys : List K). keys ++ filter (λ key. not (list_any (same_key key) keys)) (keys_where is_name new)) names-cleared
          ∙ ap (λ (keys : List K). held ++ filter (λ key. not (list_any (same_key key) held)) keys) held-prefix.1
          ∙ ap (λ (keys : List K). held ++ keys) (filter-rest same_key sound reflexive held held-prefix.0 (subst (IsDistinct same_key) held-prefix.1 (distinct-names new d')))
          ∙ sym held-prefix.1
