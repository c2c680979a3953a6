-- Each step of a definition on an array is one that an ordinary object admits.
use Rattle.std.proofs.Common.{◌≡◌, ℕ, ◌+◌, nat_le, Bool, true, false, List, [], ◌∷◌, map, Option, None, Some, refl, sym, ap, ◌∙◌, if◌then◌else◌}
use Rattle.std.specs.List.{AllByRecursion, IsDistinct}
use Rattle.mb_desc.specs.declared.descriptor.Desc.{Desc}
use Rattle.mb_desc.specs.declared.descriptor.Full.{Full}
use Rattle.mb_desc.specs.declared.descriptor.Full.TheVariants.{Datum}
use Rattle.mb_desc.specs.Descriptors.{is_configurable, IsOfOneKind, value_alone}
use Rattle.mb_desc.specs.Validate.{Validate}
use Rattle.mb_view.specs.Sublists.{IsSublist}
use Rattle.mb_desc.specs.View.{View}
use Rattle.mb_view.specs.Views.{property_of, HasDistinctKeys}
use Rattle.mb_view.specs.Changes.{Define, Remove, changed, changed_by, AreAllowed}
use Rattle.mb_view.specs.Arrays.{value_and_flag, HasLength, element_defined, up_to_fixed, deleted, length_defined}
use Rattle.mb_view.proofs.Lists.{sublist-skip, distinct-sublist, All-sublist}
use Rattle.mb_view.proofs.Tables.{lookup-insert, lookup-remove}
use Rattle.mb_view.proofs.Changing.{changed-distinct}
use Rattle.mb_view.proofs.Followed.{IsLoose, removals-allowed, allowed-append}
use mathlib.Core.Logic.{inl}

module _ {V : Type 0} (same : V → V → Bool) (undefined : V) where
  -- a length that can be written takes every value, and may be closed
  length-grows : (extensible : Bool) (old new : V) → Validate same undefined extensible (Some (Datum old true false false)) (value_alone new) ≡ Some (Datum new true false false)
  unfolding Validate
  length-grows extensible old new = refl

  pub length-accepted : (extensible : Bool) (old new : V) (writable : Bool) → Validate same undefined extensible (Some (Datum old true false false)) (value_and_flag new writable) ≡ Some (Datum new writable false false)
  unfolding Validate
  length-accepted extensible old new writable = refl

module _ {K V : Type 0} (same_key : K → K → Bool) (is_name : K → Bool) (sound : (x y : K) → same_key x y ≡ true → x ≡ y) (reflexive : (x : K) → same_key x x ≡ true) (same : V → V → Bool) (undefined : V) (value_refl : (x : V) → same x x ≡ true) (length_key : K) (whole : ℕ → V) where
  pub element-allowed : (view : View K V) (key : K) (desc : Desc V) (property : Full V) (index length : ℕ) (writable : Bool)
      → HasLength same_key length_key whole view length writable → same_key length_key key ≡ false → (nat_le length index ≡ true → writable ≡ true)
      → IsOfOneKind desc → Validate same undefined view.extensible (property_of same_key view key) desc ≡ Some property
      → AreAllowed same_key same undefined (element_defined same_key length_key whole key desc property index length writable) view
  element-allowed view key desc property index length writable has other open_ one accepted = ((one, accepted), by (nat_le length index) refl)
    where
      by : (b : Bool) → nat_le length index ≡ b → AreAllowed same_key same undefined (if b then Define length_key (value_alone (whole (index + 1))) (Datum (whole (index + 1)) writable false false) ∷ [] else []) (changed same_key (Define key desc property) view)
      by true t =
          let w : writable ≡ true = open_ t in
          let e : property_of same_key (changed same_key (Define key desc property) view) length_key ≡ Some (Datum (whole length) true false false) =
          lookup-insert same_key sound reflexive view.properties key property length_key ∙ rw other has ∙ ap (λ z. Some (Datum (whole length) z false false)) w in
          ((refl, ap (λ z. Validate same undefined view.extensible z (value_alone (whole (index + 1)))) e ∙ length-grows same undefined view.extensible (whole length) (whole (index + 1)) ∙ ap (λ z. Some (Datum (whole (index + 1)) z false false)) (sym w)), tt)
      by false t = tt

  deleted-sublist : (view : View K V) (keys : List K) → IsSublist (deleted same_key length_key whole view keys) keys
  deleted-sublist view [] = tt
  deleted-sublist view (key ∷ keys) = by (property_of same_key view key) (deleted-sublist view keys)
    where
      flags : (b : Bool) → IsSublist (deleted same_key length_key whole view keys) keys → IsSublist (if b then key ∷ deleted same_key length_key whole view keys else []) (key ∷ keys)
      flags true h = inl (refl, h)
      flags false h = tt

      by : (o : Option (Full V)) → IsSublist (deleted same_key length_key whole view keys) keys → IsSublist (up_to_fixed same_key length_key whole key o (deleted same_key length_key whole view keys)) (key ∷ keys)
      by None h = sublist-skip key (deleted same_key length_key whole view keys) keys h
      by (Some p) h = flags (is_configurable p) h

  deleted-loose : (view : View K V) (keys : List K) → AllByRecursion (IsLoose same_key is_name sound reflexive same undefined value_refl view) (deleted same_key length_key whole view keys)
  deleted-loose view [] = tt
  deleted-loose view (key ∷ keys) = by (property_of same_key view key) refl (deleted-loose view keys)
    where
      flags : (p : Full V) → property_of same_key view key ≡ Some p → (b : Bool) → is_configurable p ≡ b → AllByRecursion (IsLoose same_key is_name sound reflexive same undefined value_refl view) (deleted same_key length_key whole view keys) → AllByRecursion (IsLoose same_key is_name sound reflexive same undefined value_refl view) (if b then key ∷ deleted same_key length_key whole view keys else [])
      flags p at true c h = ((p, at, c), h)
      flags p at false c h = tt

      by : (o : Option (Full V)) → property_of same_key view key ≡ o → AllByRecursion (IsLoose same_key is_name sound reflexive same undefined value_refl view) (deleted same_key length_key whole view keys) → AllByRecursion (IsLoose same_key is_name sound reflexive same undefined value_refl view) (up_to_fixed same_key length_key whole key o (deleted same_key length_key whole view keys))
      by None at h = h
      by (Some p) at h = flags p at (is_configurable p) refl h

  -- a key that isn't removed is as it was
  removed-other : (view : View K V) (key : K) (keys : List K) → HasDistinctKeys same_key view → AllByRecursion (λ y. same_key key y ≡ false) keys → property_of same_key (changed_by same_key (map Remove keys) view) key ≡ property_of same_key view key
  removed-other view key [] d h = refl
  removed-other view key (x ∷ xs) d h =
      removed-other (changed same_key (Remove x) view) key xs (changed-distinct same_key is_name sound reflexive (Remove x) view d) h.1
      ∙ lookup-remove same_key sound reflexive view.properties x key d ∙ (let t : same_key key x ≡ false = h.0 in rw t refl)

  extensible-removed : (view : View K V) (keys : List K) → (changed_by same_key (map Remove keys) view).extensible ≡ view.extensible
  extensible-removed view [] = refl
  extensible-removed view (x ∷ xs) = extensible-removed (changed same_key (Remove x) view) xs

  pub length-allowed : (view : View K V) (keys : List K) (old new : ℕ) (writable : Bool) → HasDistinctKeys same_key view → IsDistinct same_key keys → AllByRecursion (λ y. same_key length_key y ≡ false) keys
      → HasLength same_key length_key whole view old true
      → AreAllowed same_key same undefined (length_defined same_key length_key whole view keys new writable) view
  length-allowed view keys old new writable d e others has =
      allowed-append same_key is_name sound reflexive same undefined value_refl (map Remove gone) (Define length_key (value_and_flag (whole new) writable) (Datum (whole new) writable false false) ∷ []) view
      (removals-allowed same_key is_name sound reflexive same undefined value_refl gone view d (distinct-sublist same_key sound gone keys e less) (deleted-loose view keys))
      ((refl, ap (λ z. Validate same undefined (changed_by same_key (map Remove gone) view).extensible z (value_and_flag (whole new) writable)) at ∙ length-accepted same undefined (changed_by same_key (map Remove gone) view).extensible (whole old) (whole new) writable), tt)
    where
      gone : List K
      gone = deleted same_key length_key whole view keys

      less : IsSublist (deleted same_key length_key whole view keys) keys
      less = deleted-sublist view keys

      at : property_of same_key (changed_by same_key (map Remove (deleted same_key length_key whole view keys)) view) length_key ≡ Some (Datum (whole old) true false false)
      at = removed-other view length_key (deleted same_key length_key whole view keys) d (All-sublist (λ y. same_key length_key y ≡ false) (deleted same_key length_key whole view keys) keys others less) ∙ has
