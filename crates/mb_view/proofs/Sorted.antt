-- The laws of evolving for the texts and the symbols at once.
use Rattle.std.proofs.Common.{◌≡◌, Bool, true, List}
use Rattle.mb_desc.specs.View.{View}
use Rattle.mb_view.specs.Views.{Sort, HasDistinctKeys, Evolves}
use Rattle.mb_view.specs.Changes.{Change, changed_by, AreAllowed}
use Rattle.mb_view.specs.Shown.{Treatment, shown, Request, AreOfOneKind, performed}
use Rattle.mb_view.specs.Following.{IsAlike}
use Rattle.mb_view.proofs.By.{is_text_key, is_symbol_key, evolves, by-texts, by-symbols, alike-texts, alike-symbols}
use Rattle.mb_view.proofs.Evolving.{evolves-refl, evolves-trans}
use Rattle.mb_view.proofs.Changing.{changes-evolve}
use Rattle.mb_view.proofs.Showing.{shown-evolves, each-side-evolves}
use Rattle.mb_view.proofs.Alike.{alike-evolves}

module _ {K V : Type 0} (same_key : K → K → Bool) (sort_of : K → Sort) where
  pub sorted-refl : (view : View K V) → Evolves same_key sort_of view view
  sorted-refl view = evolves same_key sort_of view view (evolves-refl same_key (is_text_key sort_of) view) (evolves-refl same_key (is_symbol_key sort_of) view)

  pub sorted-trans : (one two three : View K V) → Evolves same_key sort_of one two → Evolves same_key sort_of two three → Evolves same_key sort_of one three
  sorted-trans one two three h k =
      evolves same_key sort_of one three
      (evolves-trans same_key (is_text_key sort_of) one two three (by-texts same_key sort_of one two h) (by-texts same_key sort_of two three k))
      (evolves-trans same_key (is_symbol_key sort_of) one two three (by-symbols same_key sort_of one two h) (by-symbols same_key sort_of two three k))

  pub sorted-alike : (old new other another : View K V) → IsAlike same_key sort_of old other → IsAlike same_key sort_of new another → Evolves same_key sort_of old new → Evolves same_key sort_of other another
  sorted-alike old new other another a b h =
      evolves same_key sort_of other another
      (alike-evolves same_key (is_text_key sort_of) old new other another (alike-texts same_key sort_of old other a) (alike-texts same_key sort_of new another b) (by-texts same_key sort_of old new h))
      (alike-evolves same_key (is_symbol_key sort_of) old new other another (alike-symbols same_key sort_of old other a) (alike-symbols same_key sort_of new another b) (by-symbols same_key sort_of old new h))

  -- what is done by a lemma for each test is done for both
  pub sorted-changes : (sound : (x y : K) → same_key x y ≡ true → x ≡ y) (reflexive : (x : K) → same_key x x ≡ true) (same : V → V → Bool) (undefined : V) (value_sound : (x y : V) → same x y ≡ true → x ≡ y)
      → (changes : List (Change K V)) (view : View K V) → HasDistinctKeys same_key view → AreAllowed same_key same undefined changes view → Evolves same_key sort_of view (changed_by same_key changes view)
  sorted-changes sound reflexive same undefined value_sound changes view d allowed =
      evolves same_key sort_of view (changed_by same_key changes view)
      (changes-evolve same_key (is_text_key sort_of) sound reflexive same undefined value_sound changes view d allowed)
      (changes-evolve same_key (is_symbol_key sort_of) sound reflexive same undefined value_sound changes view d allowed)

  pub sorted-shown : (sound : (x y : K) → same_key x y ≡ true → x ≡ y) → (rule : K → Treatment V) (old new : View K V) → Evolves same_key sort_of old new → Evolves same_key sort_of (shown rule old) (shown rule new)
  sorted-shown sound rule old new h =
      evolves same_key sort_of (shown rule old) (shown rule new)
      (shown-evolves same_key sound (is_text_key sort_of) rule old new (by-texts same_key sort_of old new h))
      (shown-evolves same_key sound (is_symbol_key sort_of) rule old new (by-symbols same_key sort_of old new h))

  pub sorted-each_side : (sound : (x y : K) → same_key x y ≡ true → x ≡ y) (reflexive : (x : K) → same_key x x ≡ true) (same : V → V → Bool) (undefined : V) (value_sound : (x y : V) → same x y ≡ true → x ≡ y)
      → (read_only : Bool) (rule other : K → Treatment V) (request : Request K V) (view : View K V) → HasDistinctKeys same_key view → AreOfOneKind request
      → Evolves same_key sort_of (shown other view) (shown other (performed same_key same undefined read_only rule request view))
  sorted-each_side sound reflexive same undefined value_sound read_only rule other request view d one =
      evolves same_key sort_of (shown other view) (shown other (performed same_key same undefined read_only rule request view))
      (each-side-evolves same_key sound (is_text_key sort_of) reflexive same undefined value_sound read_only rule other request view d one)
      (each-side-evolves same_key sound (is_symbol_key sort_of) reflexive same undefined value_sound read_only rule other request view d one)
