-- What a policy shows of an object evolves where the object does, whoever changes it.
use Rattle.std.proofs.Common.{◌≡◌, Bool, true, false, ◌||◌, List, [], ◌∷◌, Option, None, Some, refl, sym, ap, ◌∙◌, subst, if◌then◌else◌}
use Rattle.std.specs.List.{filter}
use Rattle.std.specs.Map.{keys_of, lookup}
use Rattle.mb_desc.specs.declared.descriptor.Full.{Full}
use Rattle.mb_desc.specs.declared.descriptor.Full.TheVariants.{Datum, Accessor}
use Rattle.mb_desc.specs.Descriptors.{is_configurable, is_enumerable}
use Rattle.mb_desc.specs.Validate.{Validate}
use Rattle.mb_desc.specs.Laws.{KeepsFixed}
use Rattle.mb_view.proofs.By.{EvolvesBy}
use Rattle.mb_view.specs.Sublists.{IsSublist, before}
use Rattle.mb_desc.specs.View.{View}
use Rattle.mb_view.specs.Views.{property_of, HasDistinctKeys, IsFixed, KeepsFacts, keys_where}
use Rattle.mb_view.specs.Changes.{Remove, SetPrototype, changed_by, AreAllowed}
use Rattle.mb_view.specs.Shown.{Treatment, Untouched, Hidden, Substituted, is_touched, shown_property, entry_if, shown_entries, shown, Request, Definition, Deletion, NewPrototype, NoExtensions, is_decided, definition_if, removal_if, made, performed, AreOfOneKind}
use Rattle.mb_view.proofs.Lists.{sublist-filter, filter-twice, before-filter}
use Rattle.mb_view.proofs.Evolving.{evolves-refl}
use Rattle.mb_view.proofs.Changing.{changes-evolve}

or_false : (a b : Bool) → a || b ≡ false → b ≡ false
or_false true b h = absurd (let no : true ≡ false = h in cc)
or_false false b h = h

abbrev pub is_visible : {V : Type 0} → Treatment V → Bool
is_visible Untouched = true
is_visible Hidden = false
is_visible (Substituted constant) = true

pub keeps-enumerable : {V : Type 0} (p q : Full V) → KeepsFixed p q → is_enumerable q ≡ is_enumerable p
keeps-enumerable (Datum v w e c) (Datum v' w' e' c') h = h.0
keeps-enumerable (Datum v w e c) (Accessor g s e' c') h = absurd h
keeps-enumerable (Accessor g s e c) q h = ap is_enumerable h

pub keeps-configurable : {V : Type 0} (p q : Full V) → KeepsFixed p q → is_configurable q ≡ is_configurable p
keeps-configurable (Datum v w e c) (Datum v' w' e' c') h = h.1
keeps-configurable (Datum v w e c) (Accessor g s e' c') h = absurd h
keeps-configurable (Accessor g s e c) q h = ap is_configurable h

module _ {K V : Type 0} where
  keys-entry_if : (treatment : Treatment V) (key : K) (property : Full V) (rest : List (K × Full V)) (keys : List K) → keys_of rest ≡ keys
      → keys_of (entry_if key (shown_property treatment (Some property)) rest) ≡ (if is_visible treatment then key ∷ keys else keys)
  keys-entry_if Untouched key property rest keys h = ap (λ r. key ∷ r) h
  keys-entry_if Hidden key property rest keys h = h
  keys-entry_if (Substituted constant) key property rest keys h = ap (λ r. key ∷ r) h

  pub keys-shown : (rule : K → Treatment V) (es : List (K × Full V)) → keys_of (shown_entries rule es) ≡ filter (λ key. is_visible (rule key)) (keys_of es)
  keys-shown rule [] = refl
  keys-shown rule (e ∷ es) = keys-entry_if (rule e.0) e.0 e.1 (shown_entries rule es) (filter (λ key. is_visible (rule key)) (keys_of es)) (keys-shown rule es)

module _ {K V : Type 0} (same_key : K → K → Bool) (key_sound : (x y : K) → same_key x y ≡ true → x ≡ y) where
  pub lookup-shown : (rule : K → Treatment V) (es : List (K × Full V)) (q : K) → lookup (same_key q) (shown_entries rule es) ≡ shown_property (rule q) (lookup (same_key q) es)
  lookup-shown rule [] q = by (rule q)
    where
      none : Option (Full V)
      none = None

      by : (t : Treatment V) → None ≡ shown_property t None
      by Untouched = refl
      by Hidden = refl
      by (Substituted constant) = refl
  lookup-shown rule (e ∷ es) q = by (same_key q e.0) refl (lookup-shown rule es q)
    where
      first : (t : Treatment V) → same_key q e.0 ≡ true → lookup (same_key q) (shown_entries rule es) ≡ shown_property t (lookup (same_key q) es) → lookup (same_key q) (entry_if e.0 (shown_property t (Some e.1)) (shown_entries rule es)) ≡ shown_property t (Some e.1)
      first Untouched t rest = rw t refl
      first Hidden t rest = rest
      first (Substituted constant) t rest = rw t refl

      later : (t : Treatment V) → same_key q e.0 ≡ false → lookup (same_key q) (entry_if e.0 (shown_property t (Some e.1)) (shown_entries rule es)) ≡ lookup (same_key q) (shown_entries rule es)
      later Untouched t = rw t refl
      later Hidden t = refl
      later (Substituted constant) t = rw t refl

      by : (b : Bool) → same_key q e.0 ≡ b → lookup (same_key q) (shown_entries rule es) ≡ shown_property (rule q) (lookup (same_key q) es) → lookup (same_key q) (shown_entries rule (e ∷ es)) ≡ shown_property (rule q) (lookup (same_key q) (e ∷ es))
      by true t rest =
          let r : rule q ≡ rule e.0 = ap rule (key_sound q e.0 t) in
          let one : lookup (same_key q) (shown_entries rule es) ≡ shown_property (rule e.0) (lookup (same_key q) es) = rest ∙ ap (λ z. shown_property z (lookup (same_key q) es)) r in
          first (rule e.0) t one ∙ ap (λ z. shown_property z (Some e.1)) (sym r) ∙ ap (shown_property (rule q)) (sym (first_found t))
        where
          first_found : same_key q e.0 ≡ true → lookup (same_key q) (e ∷ es) ≡ Some e.1
          first_found t = rw t refl
      by false t rest = later (rule e.0) t ∙ rest ∙ ap (shown_property (rule q)) (sym (past t))
        where
          past : same_key q e.0 ≡ false → lookup (same_key q) (e ∷ es) ≡ lookup (same_key q) es
          past t = rw t refl

  pub shown-facts : (rule : K → Treatment V) (old new : View K V) → KeepsFacts same_key old new → KeepsFacts same_key (shown rule old) (shown rule new)
  shown-facts rule old new h = record {
    properties = λ q p at fixed. found q p (rule q) (property_of same_key old q) refl (sym (lookup-shown rule old.properties q) ∙ at) fixed (lookup-shown rule new.properties q);
    closed = h.closed;
    prototype = h.prototype;
    absent = λ c q none. lookup-shown rule new.properties q ∙ gone q (rule q) (property_of same_key old q) refl (sym (lookup-shown rule old.properties q) ∙ none) c;
  }
    where
      found : (q : K) (p : Full V) (t : Treatment V) (o : Option (Full V)) → property_of same_key old q ≡ o → shown_property t o ≡ Some p → is_configurable p ≡ false
          → property_of same_key (shown rule new) q ≡ shown_property t (property_of same_key new q)
          → (later : Full V) × (property_of same_key (shown rule new) q ≡ Some later) × KeepsFixed p later
      found q p Untouched o at e fixed shows =
          let m = h.properties q p (at ∙ e) fixed in (m.0, shows ∙ m.1, m.2)
      found q p Hidden o at e fixed shows = absurd (let no : None ≡ Some p = e in cc)
      found q p (Substituted constant) None at e fixed shows = absurd (let no : None ≡ Some p = e in cc)
      found q p (Substituted constant) (Some p0) at e fixed shows =
          let f : Datum constant false (is_enumerable p0) (is_configurable p0) ≡ p = cc in
          let fixed0 : is_configurable p0 ≡ false = ap is_configurable f ∙ fixed in
          let m = h.properties q p0 at fixed0 in (
            Datum constant false (is_enumerable m.0) (is_configurable m.0),
            shows ∙ ap (shown_property (Substituted constant)) m.1,
            subst (λ (x : Full V). KeepsFixed x (Datum constant false (is_enumerable m.0) (is_configurable m.0))) f
                (keeps-enumerable p0 m.0 m.2, keeps-configurable p0 m.0 m.2, λ w. (refl, refl)),
          )

      gone : (q : K) (t : Treatment V) (o : Option (Full V)) → property_of same_key old q ≡ o → shown_property t o ≡ None → old.extensible ≡ false → shown_property t (property_of same_key new q) ≡ None
      gone q Untouched o at e c = h.absent c q (at ∙ e)
      gone q Hidden o at e c = refl
      gone q (Substituted constant) None at e c = ap (shown_property (Substituted constant)) (h.absent c q at)
      gone q (Substituted constant) (Some p) at e c = absurd (let no : Some (Datum constant false (is_enumerable p) (is_configurable p)) ≡ None = e in cc)

  module _ (is_name : K → Bool) where
    names-shown : (rule : K → Treatment V) (view : View K V) → keys_where is_name (shown rule view) ≡ filter (λ key. is_visible (rule key)) (keys_where is_name view)
    names-shown rule view = ap (filter is_name) (keys-shown rule view.properties) ∙ filter-twice is_name (λ key. is_visible (rule key)) (keys_of view.properties)

    -- what is seen of a key that isn't configurable
    seen-fixed : (view : View K V) (key : K) (p : Full V) (t : Treatment V) (o : Option (Full V)) → property_of same_key view key ≡ o → shown_property t o ≡ Some p → is_configurable p ≡ false → (is_visible t ≡ true) × IsFixed same_key view key
    seen-fixed view key p Untouched o at e fixed = (refl, (p, at ∙ e, fixed))
    seen-fixed view key p Hidden o at e fixed = absurd (let no : None ≡ Some p = e in cc)
    seen-fixed view key p (Substituted constant) None at e fixed = absurd (let no : None ≡ Some p = e in cc)
    seen-fixed view key p (Substituted constant) (Some p0) at e fixed =
        let f : Datum constant false (is_enumerable p0) (is_configurable p0) ≡ p = cc in
        (refl, (p0, at, ap is_configurable f ∙ fixed))

    before-shown : (rule : K → Treatment V) (view : View K V) (key : K) → is_visible (rule key) ≡ true → before (same_key key) (keys_where is_name (shown rule view)) ≡ filter (λ k. is_visible (rule k)) (before (same_key key) (keys_where is_name view))
    before-shown rule view key visible =
        ap (before (same_key key)) (names-shown rule view)
        ∙ before-filter (same_key key) (λ k. is_visible (rule k)) (λ x t. ap (λ z. is_visible (rule z)) (sym (key_sound key x t)) ∙ visible) (keys_where is_name view)

    pub shown-evolves : (rule : K → Treatment V) (old new : View K V) → EvolvesBy same_key is_name old new → EvolvesBy same_key is_name (shown rule old) (shown rule new)
    shown-evolves rule old new h = record {
      facts = shown-facts rule old new h.facts;
      order = record {
        closed = λ c. moved (keys_where is_name new) (keys_where is_name old) (keys_where is_name (shown rule new)) (keys_where is_name (shown rule old)) (names-shown rule new) (names-shown rule old) (h.order.closed c);
        fixed = λ key name f.
            let m = seen-fixed old key f.0 (rule key) (property_of same_key old key) refl (sym (lookup-shown rule old.properties key) ∙ f.1) f.2 in
            moved (before (same_key key) (keys_where is_name new)) (before (same_key key) (keys_where is_name old))
            (before (same_key key) (keys_where is_name (shown rule new))) (before (same_key key) (keys_where is_name (shown rule old)))
            (before-shown rule new key m.0) (before-shown rule old key m.0) (h.order.fixed key name m.1);
      };
    }
      where
        moved : (xs ys us vs : List K) → us ≡ filter (λ k. is_visible (rule k)) xs → vs ≡ filter (λ k. is_visible (rule k)) ys → IsSublist xs ys → IsSublist us vs
        moved xs ys us vs e f k =
            subst (λ (z : List K). IsSublist z vs) (sym e) (subst (λ (z : List K). IsSublist (filter (λ k. is_visible (rule k)) xs) z) (sym f) (sublist-filter (λ k. is_visible (rule k)) xs ys k))

    -- ---- whoever changes the object
    module _ (key_refl : (x : K) → same_key x x ≡ true) (same : V → V → Bool) (undefined : V) (value_sound : (x y : V) → same x y ≡ true → x ≡ y) where
      -- a key that no rule touches is seen as it is
      untouched-seen : (rule : K → Treatment V) (view : View K V) (key : K) (t : Treatment V) → rule key ≡ t → is_touched t ≡ false → property_of same_key (shown rule view) key ≡ property_of same_key view key
      untouched-seen rule view key Untouched r h = lookup-shown rule view.properties key ∙ ap (λ z. shown_property z (property_of same_key view key)) r
      untouched-seen rule view key Hidden r h = absurd (let no : true ≡ false = h in cc)
      untouched-seen rule view key (Substituted constant) r h = absurd (let no : true ≡ false = h in cc)

      made-allowed : (read_only : Bool) (rule : K → Treatment V) (request : Request K V) (view : View K V) → AreOfOneKind request → is_decided read_only rule request ≡ false → AreAllowed same_key same undefined (made same_key same undefined rule request view) view
      made-allowed read_only rule (Definition key desc) view one free = by (Validate same undefined view.extensible (property_of same_key (shown rule view) key) desc) refl
        where
          e : property_of same_key (shown rule view) key ≡ property_of same_key view key
          e = untouched-seen rule view key (rule key) refl (or_false read_only (is_touched (rule key)) free)

          by : (o : Option (Full V)) → Validate same undefined view.extensible (property_of same_key (shown rule view) key) desc ≡ o → AreAllowed same_key same undefined (definition_if same_key same undefined key desc o) view
          by None h = tt
          by (Some p) h = ((one, ap (λ z. Validate same undefined view.extensible z desc) (sym e) ∙ h), tt)
      made-allowed read_only rule (Deletion key) view one free = by (property_of same_key (shown rule view) key) refl
        where
          e : property_of same_key (shown rule view) key ≡ property_of same_key view key
          e = untouched-seen rule view key (rule key) refl (or_false read_only (is_touched (rule key)) free)

          some : (p : Full V) → property_of same_key (shown rule view) key ≡ Some p → (b : Bool) → is_configurable p ≡ b → AreAllowed same_key same undefined (if b then Remove key ∷ [] else []) view
          some p h true c = ((p, sym e ∙ h, c), tt)
          some p h false c = tt

          by : (o : Option (Full V)) → property_of same_key (shown rule view) key ≡ o → AreAllowed same_key same undefined (removal_if same_key same undefined key o) view
          by None h = tt
          by (Some p) h = some p h (is_configurable p) refl
      made-allowed read_only rule (NewPrototype prototype) view one free = by (same prototype view.prototype) view.extensible refl
        where
          by : (a b : Bool) → view.extensible ≡ b → AreAllowed same_key same undefined (if a then [] else if b then SetPrototype prototype ∷ [] else []) view
          by true b h = tt
          by false true h = (h, tt)
          by false false h = tt
      made-allowed read_only rule NoExtensions view one free = (tt, tt)

      pub performed-evolves : (read_only : Bool) (rule : K → Treatment V) (request : Request K V) (view : View K V) → HasDistinctKeys same_key view → AreOfOneKind request → EvolvesBy same_key is_name view (performed same_key same undefined read_only rule request view)
      performed-evolves read_only rule request view d one = by (is_decided read_only rule request) refl
        where
          by : (b : Bool) → is_decided read_only rule request ≡ b → EvolvesBy same_key is_name view (if b then view else changed_by same_key (made same_key same undefined rule request view) view)
          by true h = evolves-refl same_key is_name view
          by false h = changes-evolve same_key is_name key_sound key_refl same undefined value_sound (made same_key same undefined rule request view) view d (made-allowed read_only rule request view one h)

      pub each-side-evolves : (read_only : Bool) (rule other : K → Treatment V) (request : Request K V) (view : View K V) → HasDistinctKeys same_key view → AreOfOneKind request → EvolvesBy same_key is_name (shown other view) (shown other (performed same_key same undefined read_only rule request view))
      each-side-evolves read_only rule other request view d one = shown-evolves other view (performed same_key same undefined read_only rule request view) (performed-evolves read_only rule request view d one)
