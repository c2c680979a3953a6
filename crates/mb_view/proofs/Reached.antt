-- A view is brought to another that it may evolve to: a key stays where the walk through its sort keeps it.
use Rattle.std.proofs.Common.{◌≡◌, Bool, true, false, List, None, Some, is_some, refl, sym, ap, ◌∙◌, subst}
use Rattle.std.specs.List.{list_any}
use Rattle.mb_desc.specs.declared.descriptor.Full.{Full}
use Rattle.mb_desc.specs.View.{View}
use Rattle.mb_view.specs.Views.{Sort, Index, Text, Symbol, is_text, is_symbol, property_of, HasDistinctKeys, IsFixed, Evolves}
use Rattle.mb_view.specs.Changes.{changed_by, AreAllowed}
use Rattle.mb_view.specs.Following.{stays_by, stays, followed_by, IsAlike}
use Rattle.mb_view.proofs.By.{is_text_key, is_symbol_key}
use Rattle.mb_view.proofs.Followed.{held, fixed-held, closed-held, absent-not_held, names-filled, brought-allowed, brought-is, found-filled}

module _ {K V : Type 0} (same_key : K → K → Bool) (sort_of : K → Sort) (sound : (x y : K) → same_key x y ≡ true → x ≡ y) (reflexive : (x : K) → same_key x x ≡ true) (same : V → V → Bool) (undefined : V) (value_refl : (x : V) → same x x ≡ true)
    (old new : View K V) (d : HasDistinctKeys same_key old) (d' : HasDistinctKeys same_key new) (h : Evolves same_key sort_of old new) where
  abbrev stay_ : K → Bool
  stay_ = stays same_key sort_of old new

  abbrev held-texts : List K
  held-texts = held same_key (is_text_key sort_of) sound reflexive same undefined value_refl old new d d' h.facts h.order.texts

  abbrev held-symbols : List K
  held-symbols = held same_key (is_symbol_key sort_of) sound reflexive same undefined value_refl old new d d' h.facts h.order.symbols

  stays-at : (key : K) (sort : Sort) → sort_of key ≡ sort → stay_ key ≡ stays_by same_key sort_of sort old new key
  stays-at key sort i = ap (λ (s : Sort). stays_by same_key sort_of s old new key) i

  fixed-stays : (key : K) → IsFixed same_key old key → stay_ key ≡ true
  fixed-stays key f = by (sort_of key) refl
    where
      by : (sort : Sort) → sort_of key ≡ sort → stay_ key ≡ true
      by Index i = stays-at key Index i ∙ ap is_some (h.facts.properties key f.0 f.1 f.2).1
      by Text i = stays-at key Text i ∙ fixed-held same_key (is_text_key sort_of) sound reflexive same undefined value_refl old new d d' h.facts h.order.texts key (ap is_text i) f
      by Symbol i = stays-at key Symbol i ∙ fixed-held same_key (is_symbol_key sort_of) sound reflexive same undefined value_refl old new d d' h.facts h.order.symbols key (ap is_symbol i) f

  closed-stays : old.extensible ≡ false → (key : K) (p : Full V) → property_of same_key new key ≡ Some p → stay_ key ≡ true
  closed-stays c key p at = by (sort_of key) refl
    where
      by : (sort : Sort) → sort_of key ≡ sort → stay_ key ≡ true
      by Index i = stays-at key Index i ∙ ap is_some at
      by Text i = stays-at key Text i ∙ closed-held same_key (is_text_key sort_of) sound reflexive same undefined value_refl old new d d' h.facts h.order.texts c key p (ap is_text i) at
      by Symbol i = stays-at key Symbol i ∙ closed-held same_key (is_symbol_key sort_of) sound reflexive same undefined value_refl old new d d' h.facts h.order.symbols c key p (ap is_symbol i) at

  absent-goes : (key : K) → property_of same_key new key ≡ None → stay_ key ≡ false
  absent-goes key none = by (sort_of key) refl
    where
      by : (sort : Sort) → sort_of key ≡ sort → stay_ key ≡ false
      by Index i = stays-at key Index i ∙ ap is_some none
      by Text i = stays-at key Text i ∙ absent-not_held same_key (is_text_key sort_of) sound reflexive same undefined value_refl old new d d' h.facts h.order.texts key none
      by Symbol i = stays-at key Symbol i ∙ absent-not_held same_key (is_symbol_key sort_of) sound reflexive same undefined value_refl old new d d' h.facts h.order.symbols key none

  text-stays : (key : K) → is_text (sort_of key) ≡ true → stay_ key ≡ list_any (same_key key) held-texts
  text-stays key t = by (sort_of key) refl
    where
      by : (sort : Sort) → sort_of key ≡ sort → stay_ key ≡ list_any (same_key key) held-texts
      by Index i = absurd (let no : false ≡ true = ap is_text (sym i) ∙ t in cc)
      by Text i = stays-at key Text i
      by Symbol i = absurd (let no : false ≡ true = ap is_text (sym i) ∙ t in cc)

  symbol-stays : (key : K) → is_symbol (sort_of key) ≡ true → stay_ key ≡ list_any (same_key key) held-symbols
  symbol-stays key t = by (sort_of key) refl
    where
      by : (sort : Sort) → sort_of key ≡ sort → stay_ key ≡ list_any (same_key key) held-symbols
      by Index i = absurd (let no : false ≡ true = ap is_symbol (sym i) ∙ t in cc)
      by Text i = absurd (let no : false ≡ true = ap is_symbol (sym i) ∙ t in cc)
      by Symbol i = stays-at key Symbol i

  pub follow-allowed : AreAllowed same_key same undefined (followed_by same_key sort_of old new) old
  follow-allowed = brought-allowed same_key (is_text_key sort_of) sound reflexive same undefined value_refl old new d d' h.facts stay_ fixed-stays closed-stays absent-goes

  pub follow-ends : IsAlike same_key sort_of (changed_by same_key (followed_by same_key sort_of old new) old) new
  follow-ends =
      subst (λ (view : View K V). IsAlike same_key sort_of view new) (sym (brought-is same_key (is_text_key sort_of) sound reflexive same undefined value_refl old new d d' h.facts stay_ fixed-stays closed-stays absent-goes))
      (record {
        prototype = refl;
        extensible = refl;
        properties = found-filled same_key (is_text_key sort_of) sound reflexive same undefined value_refl old new d d' h.facts stay_ fixed-stays closed-stays absent-goes;
        texts = names-filled same_key (is_text_key sort_of) sound reflexive same undefined value_refl old new d d' h.facts h.order.texts stay_ fixed-stays closed-stays absent-goes text-stays;
        symbols = names-filled same_key (is_symbol_key sort_of) sound reflexive same undefined value_refl old new d d' h.facts h.order.symbols stay_ fixed-stays closed-stays absent-goes symbol-stays;
      })
