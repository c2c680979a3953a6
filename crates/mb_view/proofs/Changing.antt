-- Each single change that an ordinary object admits makes its view evolve.
use Rattle.std.proofs.Common.{◌≡◌, Bool, true, false, List, [], ◌∷◌, ◌++◌, Option, None, Some, refl, sym, ap, ◌∙◌, subst, if◌then◌else◌}
use Rattle.std.specs.List.{IsDistinct, filter, list_any}
use Rattle.std.specs.Map.{keys_of, remove_entry}
use Rattle.indexmap.specs.IndexMap.{insert_entry}
use Rattle.std.proofs.lemmas.List.Elements.{filter-append}
use Rattle.std.proofs.lemmas.Map.Keys.{IsDistinct-push}
use Rattle.std.specs.Cmp.{IsEquivalence}
use Rattle.mb_desc.specs.declared.descriptor.Desc.{Desc}
use Rattle.mb_desc.specs.declared.descriptor.Full.{Full}
use Rattle.mb_desc.specs.Descriptors.{is_configurable, IsOfOneKind}
use Rattle.mb_desc.specs.Validate.{Validate}
use Rattle.mb_desc.specs.Laws.{KeepsFixed}
use Rattle.mb_desc.proofs.Fixed.{fixed_is_kept}
use Rattle.mb_view.proofs.By.{EvolvesBy}
use Rattle.mb_view.specs.Sublists.{IsSublist, before}
use Rattle.mb_desc.specs.View.{View}
use Rattle.mb_view.specs.Views.{property_of, HasDistinctKeys, KeepsFacts, keys_where, KeepsOrderBy}
use Rattle.mb_view.specs.Changes.{Change, Define, Remove, SetPrototype, PreventExtensions, changed, changed_by, IsAllowed, AreAllowed}
use Rattle.mb_view.proofs.Lists.{sublist-refl, sublist-filter, filter-sublist, before-append, any-filter, before-sublist, distinct-sublist}
use Rattle.mb_view.proofs.Tables.{there, same_key-sym, lookup-insert, lookup-remove, keys-insert_there, keys-insert_new, keys-remove_entry}
use Rattle.mb_view.proofs.Evolving.{keeps-refl, evolves-refl, evolves-trans}

module _ {K V : Type 0} (same_key : K → K → Bool) (is_name : K → Bool) (key_sound : (x y : K) → same_key x y ≡ true → x ≡ y) (key_refl : (x : K) → same_key x x ≡ true) where
  -- a key that is no index and is there is a name
  pub name-there : (view : View K V) (key : K) → is_name key ≡ true → list_any (same_key key) (keys_of view.properties) ≡ true → list_any (same_key key) (keys_where is_name view) ≡ true
  name-there view key name h =
      any-filter (same_key key) is_name (λ x t. ap is_name (sym (key_sound key x t)) ∙ name) (keys_of view.properties) ∙ h

  -- a view whose keys are a sublist of those of before, or go on after them, keeps the order
  pub order-sublist : (old new : View K V) → HasDistinctKeys same_key old → KeepsFacts same_key old new → IsSublist (keys_of new.properties) (keys_of old.properties) → KeepsOrderBy same_key is_name old new
  order-sublist old new d facts h =
      let shorter : IsSublist (keys_where is_name new) (keys_where is_name old) = sublist-filter is_name (keys_of new.properties) (keys_of old.properties) h in
      record {
        closed = λ c. shorter;
        fixed = λ key name f.
            let m = facts.properties key f.0 f.1 f.2 in
            before-sublist same_key key_sound key (keys_where is_name new) (keys_where is_name old)
            (distinct-sublist same_key key_sound (keys_where is_name old) (keys_of old.properties) d (filter-sublist is_name (keys_of old.properties)))
            (name-there new key name (there (same_key key) new.properties m.0 m.1)) shorter;
      }

  pub order-append : (old new : View K V) (key : K) → old.extensible ≡ true → keys_of new.properties ≡ keys_of old.properties ++ (key ∷ []) → KeepsOrderBy same_key is_name old new
  order-append old new key open_ h =
      let is_name : K → Bool = is_name in
      let longer : keys_where is_name new ≡ keys_where is_name old ++ filter is_name (key ∷ []) = ap (filter is_name) h ∙ filter-append is_name (keys_of old.properties) (key ∷ []) in
      record {
        closed = λ c. absurd (let no : true ≡ false = sym open_ ∙ c in cc);
        fixed = λ at name f.
            let same : before (same_key at) (keys_where is_name new) ≡ before (same_key at) (keys_where is_name old) =
            ap (before (same_key at)) longer ∙ before-append (same_key at) (keys_where is_name old) (filter is_name (key ∷ [])) (name-there old at name (there (same_key at) old.properties f.0 f.1)) in
            subst (λ (xs : List K). IsSublist xs (before (same_key at) (keys_where is_name old))) (sym same) (sublist-refl (before (same_key at) (keys_where is_name old)));
      }

  remove-evolves : (view : View K V) (key : K) (property : Full V) → HasDistinctKeys same_key view → property_of same_key view key ≡ Some property → is_configurable property ≡ true → EvolvesBy same_key is_name view (changed same_key (Remove key) view)
  remove-evolves view key property d here loose =
      let found : (q : K) → property_of same_key (changed same_key (Remove key) view) q ≡ (if same_key q key then None else property_of same_key view q) = λ q. lookup-remove same_key key_sound key_refl view.properties key q d in
      let facts : KeepsFacts same_key view (changed same_key (Remove key) view) = record {
        properties = λ q p at fixed. (p, fixed_stays q p at fixed, keeps-refl p);
        closed = λ c. c;
        prototype = λ c. refl;
        absent = λ c q none. found q ∙ absent_by q none (same_key q key);
      } in
      record { facts = facts; order = order-sublist view (changed same_key (Remove key) view) d facts (keys-remove_entry (same_key key) view.properties) }
    where
      absent_by : (q : K) → property_of same_key view q ≡ None → (b : Bool) → (if b then None else property_of same_key view q) ≡ None
      absent_by q none true = refl
      absent_by q none false = none

      fixed_stays : (q : K) (p : Full V) → property_of same_key view q ≡ Some p → is_configurable p ≡ false → property_of same_key (changed same_key (Remove key) view) q ≡ Some p
      fixed_stays q p at fixed = by (same_key q key) refl
        where
          by : (b : Bool) → same_key q key ≡ b → property_of same_key (changed same_key (Remove key) view) q ≡ Some p
          by true t =
              let e : Some p ≡ Some property = sym at ∙ ap (property_of same_key view) (key_sound q key t) ∙ here in
              let f : p ≡ property = cc in
              absurd (let no : true ≡ false = sym loose ∙ ap is_configurable (sym f) ∙ fixed in cc)
          by false t = lookup-remove same_key key_sound key_refl view.properties key q d ∙ rw t at

  prototype-evolves : (view : View K V) (prototype : V) → view.extensible ≡ true → EvolvesBy same_key is_name view (changed same_key (SetPrototype prototype) view)
  prototype-evolves view prototype open_ = record {
    facts = record {
      properties = λ q p at fixed. (p, at, keeps-refl p);
      closed = λ c. c;
      prototype = λ c. absurd (let no : true ≡ false = sym open_ ∙ c in cc);
      absent = λ c q none. none;
    };
    order = record { closed = λ c. sublist-refl (keys_where is_name view); fixed = λ q name f. sublist-refl (before (same_key q) (keys_where is_name view)) };
  }

  prevent-evolves : (view : View K V) → EvolvesBy same_key is_name view (changed same_key PreventExtensions view)
  prevent-evolves view = record {
    facts = record {
      properties = λ q p at fixed. (p, at, keeps-refl p);
      closed = λ c. refl;
      prototype = λ c. refl;
      absent = λ c q none. none;
    };
    order = record { closed = λ c. sublist-refl (keys_where is_name view); fixed = λ q name f. sublist-refl (before (same_key q) (keys_where is_name view)) };
  }

  -- the keys stay distinct
  insert-distinct : (es : List (K × Full V)) (key : K) (property : Full V) → IsDistinct same_key (keys_of es) → IsDistinct same_key (keys_of (insert_entry same_key es key property))
  insert-distinct es key property d = by (list_any (same_key key) (keys_of es)) refl
    where
      laws : IsEquivalence same_key
      laws = record {
        refl = key_refl;
        symm = λ x y. same_key-sym same_key key_sound x y;
        congr = λ x y z s. ap (λ w. same_key w z) (key_sound x y s);
      }

      by : (b : Bool) → list_any (same_key key) (keys_of es) ≡ b → IsDistinct same_key (keys_of (insert_entry same_key es key property))
      by true t = subst (IsDistinct same_key) (sym (keys-insert_there same_key key_sound key_refl es key property t)) d
      by false t = subst (IsDistinct same_key) (sym (keys-insert_new same_key key_sound key_refl es key property t)) (IsDistinct-push laws (keys_of es) key d t)

  pub changed-distinct : (change : Change K V) (view : View K V) → HasDistinctKeys same_key view → HasDistinctKeys same_key (changed same_key change view)
  changed-distinct (Define key desc property) view d = insert-distinct view.properties key property d
  changed-distinct (Remove key) view d = distinct-sublist same_key key_sound (keys_of (remove_entry (same_key key) view.properties)) (keys_of view.properties) d (keys-remove_entry (same_key key) view.properties)
  changed-distinct (SetPrototype prototype) view d = d
  changed-distinct PreventExtensions view d = d

  module _ (same : V → V → Bool) (undefined : V) (value_sound : (x y : V) → same x y ≡ true → x ≡ y) where
    -- a definition that a view which isn't extensible accepts is of a key that is there
    accepted-there : (view : View K V) (key : K) (desc : Desc V) (property : Full V) → view.extensible ≡ false → Validate same undefined view.extensible (property_of same_key view key) desc ≡ Some property → (p : Full V) × (property_of same_key view key ≡ Some p)
    unfolding Validate
    accepted-there view key desc property c accepted = by (property_of same_key view key) refl
      where
        by : (o : Option (Full V)) → property_of same_key view key ≡ o → (p : Full V) × (property_of same_key view key ≡ Some p)
        by None e = absurd (let no : None ≡ Some property = rw (c, e) at accepted in cc)
        by (Some p) e = (p, e)

    define-evolves : (view : View K V) (key : K) (desc : Desc V) (property : Full V) → HasDistinctKeys same_key view → IsOfOneKind desc → Validate same undefined view.extensible (property_of same_key view key) desc ≡ Some property → EvolvesBy same_key is_name view (changed same_key (Define key desc property) view)
    define-evolves view key desc property d one accepted = record { facts = facts; order = order (list_any (same_key key) (keys_of view.properties)) refl }
      where
        found : (q : K) → property_of same_key (changed same_key (Define key desc property) view) q ≡ (if same_key q key then Some property else property_of same_key view q)
        found q = lookup-insert same_key key_sound key_refl view.properties key property q

        here : (q : K) (p : Full V) → property_of same_key view q ≡ Some p → is_configurable p ≡ false → (b : Bool) → same_key q key ≡ b → (later : Full V) × (property_of same_key (changed same_key (Define key desc property) view) q ≡ Some later) × KeepsFixed p later
        here q p at fixed true t =
            let e : property_of same_key view key ≡ Some p = ap (property_of same_key view) (sym (key_sound q key t)) ∙ at in
            let a : Validate same undefined view.extensible (Some p) desc ≡ Some property = subst (λ (o : Option (Full V)). Validate same undefined view.extensible o desc ≡ Some property) e accepted in
            (property, found q ∙ rw t refl, fixed_is_kept same undefined value_sound view.extensible p desc property one fixed a)
        here q p at fixed false t = (p, found q ∙ rw t at, keeps-refl p)

        none : view.extensible ≡ false → (q : K) → property_of same_key view q ≡ None → (b : Bool) → same_key q key ≡ b → property_of same_key (changed same_key (Define key desc property) view) q ≡ None
        none c q absent true t =
            let m = accepted-there view key desc property c accepted in
            absurd (let no : None ≡ Some m.0 = sym absent ∙ ap (property_of same_key view) (key_sound q key t) ∙ m.1 in cc)
        none c q absent false t = found q ∙ rw t absent

        facts : KeepsFacts same_key view (changed same_key (Define key desc property) view)
        facts = record {
          properties = λ q p at fixed. here q p at fixed (same_key q key) refl;
          closed = λ c. c;
          prototype = λ c. refl;
          absent = λ c q absent. none c q absent (same_key q key) refl;
        }

        order : (b : Bool) → list_any (same_key key) (keys_of view.properties) ≡ b → KeepsOrderBy same_key is_name view (changed same_key (Define key desc property) view)
        order true t =
            order-sublist view (changed same_key (Define key desc property) view) d facts (subst (λ (xs : List K). IsSublist xs (keys_of view.properties)) (sym (keys-insert_there same_key key_sound key_refl view.properties key property t)) (sublist-refl (keys_of view.properties)))
        order false t = by view.extensible refl
          where
            by : (b : Bool) → view.extensible ≡ b → KeepsOrderBy same_key is_name view (changed same_key (Define key desc property) view)
            by true c = order-append view (changed same_key (Define key desc property) view) key c (keys-insert_new same_key key_sound key_refl view.properties key property t)
            by false c =
                let m = accepted-there view key desc property c accepted in
                absurd (let no : true ≡ false = sym (there (same_key key) view.properties m.0 m.1) ∙ t in cc)

    pub change-evolves : (change : Change K V) (view : View K V) → HasDistinctKeys same_key view → IsAllowed same_key same undefined change view → EvolvesBy same_key is_name view (changed same_key change view)
    change-evolves (Define key desc property) view d allowed = define-evolves view key desc property d allowed.0 allowed.1
    change-evolves (Remove key) view d allowed = remove-evolves view key allowed.0 d allowed.1 allowed.2
    change-evolves (SetPrototype prototype) view d allowed = prototype-evolves view prototype allowed
    change-evolves PreventExtensions view d allowed = prevent-evolves view

    pub changes-evolve : (changes : List (Change K V)) (view : View K V) → HasDistinctKeys same_key view → AreAllowed same_key same undefined changes view → EvolvesBy same_key is_name view (changed_by same_key changes view)
    changes-evolve [] view d allowed = evolves-refl same_key is_name view
    changes-evolve (change ∷ changes) view d allowed =
        evolves-trans same_key is_name view (changed same_key change view) (changed_by same_key changes (changed same_key change view))
        (change-evolves change view d allowed.0) (changes-evolve changes (changed same_key change view) (changed-distinct change view d) allowed.1)
