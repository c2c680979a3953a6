-- Views evolve: nothing changes, one change after another, and each single change.
use Rattle.std.proofs.Common.{◌≡◌, Bool, refl, ap, ◌∙◌, subst}
use Rattle.mb_desc.specs.declared.descriptor.Full.{Full}
use Rattle.mb_desc.specs.declared.descriptor.Full.TheVariants.{Datum, Accessor}
use Rattle.mb_desc.specs.Descriptors.{is_configurable}
use Rattle.mb_desc.specs.Laws.{KeepsFixed}
use Rattle.mb_view.proofs.By.{EvolvesBy}
use Rattle.mb_view.specs.Sublists.{before}
use Rattle.mb_desc.specs.View.{View}
use Rattle.mb_view.specs.Views.{IsFixed, KeepsFacts, keys_where}
use Rattle.mb_view.proofs.Lists.{sublist-refl, sublist-trans}

module _ {V : Type 0} where
  pub keeps-refl : (p : Full V) → KeepsFixed p p
  keeps-refl (Datum value writable enumerable configurable) = (refl, refl, λ w. (w, refl))
  keeps-refl (Accessor get set enumerable configurable) = refl

  pub keeps-trans : (p q r : Full V) → KeepsFixed p q → KeepsFixed q r → KeepsFixed p r
  keeps-trans (Datum v w e c) (Datum v' w' e' c') (Datum v'' w'' e'' c'') h k =
      (k.0 ∙ h.0, k.1 ∙ h.1, λ u. ((k.2 (h.2 u).0).0, (k.2 (h.2 u).0).1 ∙ (h.2 u).1))
  keeps-trans (Datum v w e c) (Datum v' w' e' c') (Accessor g s e'' c'') h k = absurd k
  keeps-trans (Datum v w e c) (Accessor g s e' c') r h k = absurd h
  keeps-trans (Accessor g s e c) q r h k = subst (λ (x : Full V). KeepsFixed x r) h k

  pub keeps-configurable : (p q : Full V) → KeepsFixed p q → is_configurable q ≡ is_configurable p
  keeps-configurable (Datum v w e c) (Datum v' w' e' c') h = h.1
  keeps-configurable (Datum v w e c) (Accessor g s e' c') h = absurd h
  keeps-configurable (Accessor g s e c) q h = ap is_configurable h

module _ {K V : Type 0} (same_key : K → K → Bool) where
  pub facts-refl : (view : View K V) → KeepsFacts same_key view view
  facts-refl view = record {
    properties = λ key property there fixed. (property, there, keeps-refl property);
    closed = λ c. c;
    prototype = λ c. refl;
    absent = λ c key none. none;
  }

  pub facts-trans : (a b c : View K V) → KeepsFacts same_key a b → KeepsFacts same_key b c → KeepsFacts same_key a c
  facts-trans a b c h k = record {
    properties = λ key property there fixed.
        let m = h.properties key property there fixed in
        let n = k.properties key m.0 m.1 (keeps-configurable property m.0 m.2 ∙ fixed) in
        (n.0, n.1, keeps-trans property m.0 n.0 m.2 n.2);
    closed = λ e. k.closed (h.closed e);
    prototype = λ e. k.prototype (h.closed e) ∙ h.prototype e;
    absent = λ e key none. k.absent (h.closed e) key (h.absent e key none);
  }

  pub fixed-later : (a b : View K V) (key : K) → KeepsFacts same_key a b → IsFixed same_key a key → IsFixed same_key b key
  fixed-later a b key h f = let m = h.properties key f.0 f.1 f.2 in (m.0, m.1, keeps-configurable f.0 m.0 m.2 ∙ f.2)

module _ {K V : Type 0} (same_key : K → K → Bool) (is_name : K → Bool) where
  pub evolves-refl : (view : View K V) → EvolvesBy same_key is_name view view
  evolves-refl view = record {
    facts = facts-refl same_key view;
    order = record {
      closed = λ c. sublist-refl (keys_where is_name view);
      fixed = λ key name f. sublist-refl (before (same_key key) (keys_where is_name view));
    };
  }

  pub evolves-trans : (a b c : View K V) → EvolvesBy same_key is_name a b → EvolvesBy same_key is_name b c → EvolvesBy same_key is_name a c
  evolves-trans a b c h k = record {
    facts = facts-trans same_key a b c h.facts k.facts;
    order = record {
      closed = λ e. sublist-trans (keys_where is_name c) (keys_where is_name b) (keys_where is_name a) (k.order.closed (h.facts.closed e)) (h.order.closed e);
      fixed = λ key name f.
          sublist-trans (before (same_key key) (keys_where is_name c)) (before (same_key key) (keys_where is_name b)) (before (same_key key) (keys_where is_name a))
          (k.order.fixed key name (fixed-later same_key a b key h.facts f)) (h.order.fixed key name f);
    };
  }
