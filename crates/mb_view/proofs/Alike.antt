-- Views that are alike: what holds of one holds of the other, and what passes against one passes against the other.
use Rattle.std.proofs.Common.{◌≡◌, List, Bool, true, false, None, Some, is_some, sym, ap, ◌∙◌, subst}
use Rattle.mb_view.proofs.By.{EvolvesBy, IsAlikeBy}
use Rattle.mb_desc.specs.View.{View}
use Rattle.mb_view.specs.Views.{property_of, KeepsFacts, keys_where}
use Rattle.mb_view.specs.Sublists.{IsSublist, before}
use Rattle.mb_view.specs.Promises.{Fact, Closed, Fixed, Absent, Only, Prototype, Holds}
use Rattle.mb_view.specs.Entries.{Deed, GetPrototypeOf, SetPrototypeOf, IsExtensible, PreventExtensions, GetOwnProperty, DefineOwnProperty, HasProperty, Get, Set, Delete, OwnPropertyKeys, Silent}
use Rattle.mb_view.specs.Passing.{AllowsSaid, AllowsDefined, AllowsGot, AllowsSet, MayLack, Passes}
use Rattle.mb_view.proofs.Evolving.{keeps-refl, facts-trans}

module _ {K V : Type 0} (same_key : K → K → Bool) (is_name : K → Bool) (one two : View K V) (alike : IsAlikeBy same_key is_name one two) where
  pub alike-facts : KeepsFacts same_key one two
  alike-facts = record {
    properties = λ key p at fixed. (p, sym (alike.properties key) ∙ at, keeps-refl p);
    closed = λ c. sym alike.extensible ∙ c;
    prototype = λ c. sym alike.prototype;
    absent = λ c key none. sym (alike.properties key) ∙ none;
  }

  pub alike-holds : (fact : Fact K V) → Holds same_key fact one → Holds same_key fact two
  alike-holds Closed h = sym alike.extensible ∙ h
  alike-holds (Fixed key promise) h = (h.0, sym (alike.properties key) ∙ h.1, h.2)
  alike-holds (Absent key) h = (sym alike.extensible ∙ h.0, sym (alike.properties key) ∙ h.1)
  alike-holds (Only keys) h = (sym alike.extensible ∙ h.0, λ key out. sym (alike.properties key) ∙ h.1 key out)
  alike-holds (Prototype prototype) h = (sym alike.extensible ∙ h.0, sym alike.prototype ∙ h.1)

  module _ (same : V → V → Bool) (undefined : V) where
    lacks : (key : K) → MayLack same_key same undefined one key → MayLack same_key same undefined two key
    lacks key h p at = let m = h p (alike.properties key ∙ at) in (m.0, sym alike.extensible ∙ m.1)

    pub alike-passes : (deed : Deed K V) → Passes same_key same undefined deed one → Passes same_key same undefined deed two
    alike-passes (GetPrototypeOf answer) h = λ c. h (alike.extensible ∙ c) ∙ alike.prototype
    alike-passes (SetPrototypeOf given true) h = λ c. h (alike.extensible ∙ c) ∙ alike.prototype
    alike-passes (SetPrototypeOf given false) h = tt
    alike-passes (IsExtensible answer) h = h ∙ alike.extensible
    alike-passes (PreventExtensions true) h = sym alike.extensible ∙ h
    alike-passes (PreventExtensions false) h = tt
    alike-passes (GetOwnProperty key None) h = lacks key h
    alike-passes (GetOwnProperty key (Some said)) h =
        subst (λ z. AllowsSaid same undefined two.extensible z said) (alike.properties key) (subst (λ z. AllowsSaid same undefined z (property_of same_key one key) said) alike.extensible h)
    alike-passes (DefineOwnProperty key given true) h =
        subst (λ z. AllowsDefined same undefined two.extensible z given) (alike.properties key) (subst (λ z. AllowsDefined same undefined z (property_of same_key one key) given) alike.extensible h)
    alike-passes (DefineOwnProperty key given false) h = tt
    alike-passes (HasProperty key true) h = tt
    alike-passes (HasProperty key false) h = lacks key h
    alike-passes (Get key answer) h = subst (λ z. AllowsGot same undefined z answer) (alike.properties key) h
    alike-passes (Set key given true) h = subst (λ z. AllowsSet same undefined z given) (alike.properties key) h
    alike-passes (Set key given false) h = tt
    alike-passes (Delete key true) h = lacks key h
    alike-passes (Delete key false) h = tt
    alike-passes (OwnPropertyKeys keys) h =
        (λ key f. h.0 key (f.0, alike.properties key ∙ f.1, f.2), λ c key. h.1 (alike.extensible ∙ c) key ∙ ap is_some (alike.properties key))
    alike-passes Silent h = tt

-- views that are alike evolve alike
module _ {K V : Type 0} (same_key : K → K → Bool) (is_name : K → Bool) where
  pub alike-sym : (one two : View K V) → IsAlikeBy same_key is_name one two → IsAlikeBy same_key is_name two one
  alike-sym one two h = record {
    prototype = sym h.prototype;
    extensible = sym h.extensible;
    properties = λ key. sym (h.properties key);
    names = sym h.names;
  }

  pub alike-evolves : (old new old' new' : View K V) → IsAlikeBy same_key is_name old old' → IsAlikeBy same_key is_name new new' → EvolvesBy same_key is_name old new → EvolvesBy same_key is_name old' new'
  alike-evolves old new old' new' a b h = record {
    facts = facts-trans same_key old' old new' (alike-facts same_key is_name old' old (alike-sym old old' a)) (facts-trans same_key old new new' h.facts (alike-facts same_key is_name new new' b));
    order = record {
      closed = λ c. moved (keys_where is_name new) (keys_where is_name new') (keys_where is_name old) (keys_where is_name old') b.names a.names (h.order.closed (a.extensible ∙ c));
      fixed = λ key name f.
          moved (before (same_key key) (keys_where is_name new)) (before (same_key key) (keys_where is_name new')) (before (same_key key) (keys_where is_name old)) (before (same_key key) (keys_where is_name old'))
          (ap (before (same_key key)) b.names) (ap (before (same_key key)) a.names) (h.order.fixed key name (f.0, a.properties key ∙ f.1, f.2));
    };
  }
    where
      moved : (xs xs' ys ys' : List K) → xs ≡ xs' → ys ≡ ys' → IsSublist xs ys → IsSublist xs' ys'
      moved xs xs' ys ys' e f k = subst (λ (z : List K). IsSublist z ys') e (subst (λ (z : List K). IsSublist xs z) f k)
