-- Pairs in a list, and what is made of them at the place of a key.
use Rattle.std.proofs.Common.{◌≡◌, ℕ, zero, suc, ◌+◌, ◌<◌, false, cond, ◌||◌, List, [], ◌∷◌, ◌++◌, length, get_or, set, take, drop, remove, position, None, Some, refl, sym, ap, ◌∙◌, subst, arith}
use Rattle.std.specs.List.{IsDistinct, list_any}
use Rattle.std.specs.Map.{keys_of, values_of, remove_entry}
use Rattle.std.proofs.lemmas.List.{get_or-map, take_more}
use Rattle.std.proofs.lemmas.Map.{NonePasses, none_passes_from_lookup}
use Rattle.std.proofs.lemmas.Map.Keys.{IsDistinct-push}
use Rattle.std.proofs.lemmas.Option.{slice_get-get_or}
use Rattle.indexmap.specs.IndexMap.{set_value_at}
use Rattle.indexmap.proofs.MapLemmas.{Found-position, Missing-position, absent_from_lookup, absent_before, insert_entry-first, insert_entry-absent, remove_entry-first}
use Rattle.indexmap.proofs.RemoveLemmas.{shift_out}
use Rattle.mb_base.specs.declared.value.Key.{Key}
use Rattle.mb_props.specs.Table.{same_key, HasDistinctKeys, found, insert_entry, without}
use Rattle.mb_props.proofs.Keys.{laws}

pub none_distinct : IsDistinct same_key []
unfolding IsDistinct
none_distinct = tt

module _ {P : Type 0} where
  length-values : (es : List (Key × P)) → length (values_of es) ≡ length es
  length-values [] = refl
  length-values (e ∷ es) = ap suc (length-values es)

  -- a write of the property at a place
  write : (es : List (Key × P)) (i : ℕ) (d : Key × P) (v : P) → set es i ((get_or es i d).0, v) ≡ set_value_at es i v
  write [] i d v = refl
  write (e ∷ es) zero d v = refl
  write (e ∷ es) (suc i) d v = ap (λ l. e ∷ l) (write es i d v)

  keys-write : (es : List (Key × P)) (i : ℕ) (v : P) → keys_of (set_value_at es i v) ≡ keys_of es
  keys-write [] i v = refl
  keys-write (e ∷ es) zero v = refl
  keys-write (e ∷ es) (suc i) v = ap (λ l. e.0 ∷ l) (keys-write es i v)

  keys-push : (es : List (Key × P)) (e : Key × P) → keys_of (es ++ e ∷ []) ≡ keys_of es ++ e.0 ∷ []
  keys-push [] e = refl
  keys-push (x ∷ es) e = ap (λ l. x.0 ∷ l) (keys-push es e)

  module _ (key : Key) (es : List (Key × P)) where
    -- where the key has a place
    module _ (i : ℕ) (d : Key × P) (at : position (same_key key) (keys_of es) ≡ Some i) where
      pub place-within : i < length es
      place-within = (Found-position (same_key key) es i at).within

      pub found-at : found es key ≡ Some (get_or es i d).1
      found-at =
          let within : i < length es = place-within in
          let value : i < length (values_of es) = omega (arith, length-values es) in
          (Found-position (same_key key) es i at).value
          ∙ slice_get-get_or (values_of es) i d.1 value
          ∙ ap Some (get_or-map (λ e. e.1) es i d d.1 within)

      pub insert-at : (v : P) → set es i ((get_or es i d).0, v) ≡ insert_entry es key v
      insert-at v = write es i d v ∙ sym (insert_entry-first same_key key v es i (Found-position (same_key key) es i at).first)

      pub distinct-at : (v : P) → HasDistinctKeys es → HasDistinctKeys (set es i ((get_or es i d).0, v))
      distinct-at v h = subst (λ (l : List Key). IsDistinct same_key l) (sym (ap keys_of (write es i d v) ∙ keys-write es i v)) h

      pub remove-at : remove es i ≡ without es key
      remove-at = sym (remove_entry-first (same_key key) es i (Found-position (same_key key) es i at).first)

      pub distinct-removed : HasDistinctKeys es → HasDistinctKeys (remove es i)
      distinct-removed h =
          (shift_out same_key laws (same_key key) (laws.congr key) es i (get_or es i d) at (slice_get-get_or es i d place-within) h (remove es i) refl).unique

    -- where it has none
    pub found-none : position (same_key key) (keys_of es) ≡ None → found es key ≡ None
    found-none none = (Missing-position (same_key key) es none).value

    without-none : (l : List (Key × P)) → NonePasses (same_key key) l → remove_entry (same_key key) l ≡ l
    without-none [] h = refl
    without-none (e ∷ l) h = ap (λ b. cond b l (e ∷ remove_entry (same_key key) l)) h.0 ∙ ap (λ r. e ∷ r) (without-none l h.1)

    pub remove-none : found es key ≡ None → es ≡ without es key
    remove-none none = sym (without-none es (none_passes_from_lookup (same_key key) es none))

    pub insert-none : (v : P) → found es key ≡ None → es ++ (key, v) ∷ [] ≡ insert_entry es key v
    insert-none v none = sym (insert_entry-absent same_key key v es (absent_from_lookup (same_key key) es none))

    any-none : (l : List (Key × P)) → NonePasses (same_key key) l → list_any (same_key key) (keys_of l) ≡ false
    any-none [] h = refl
    any-none (e ∷ l) h = ap (λ b. b || list_any (same_key key) (keys_of l)) h.0 ∙ any-none l h.1

    pub distinct-push : (v : P) → found es key ≡ None → HasDistinctKeys es → HasDistinctKeys (es ++ (key, v) ∷ [])
    distinct-push v none h =
        subst (λ (l : List Key). IsDistinct same_key l) (sym (keys-push es (key, v)))
        (IsDistinct-push laws (keys_of es) key h (any-none es (none_passes_from_lookup (same_key key) es none)))

  parts-at : (es : List (Key × P)) (i : ℕ) (d : Key × P) → i < length es → take i es ++ get_or es i d ∷ drop (suc i) es ≡ es
  parts-at [] i d within = absurd (omega (arith, within))
  parts-at (e ∷ es) zero d within = refl
  parts-at (e ∷ es) (suc i) d within = ap (λ l. e ∷ l) (parts-at es i d (omega arith))

  -- the pair at a place is new to those before it
  pub insert-next : (es : List (Key × P)) (i : ℕ) (d : Key × P) → i < length es → HasDistinctKeys es
      → insert_entry (take i es) (get_or es i d).0 (get_or es i d).1 ≡ take (i + 1) es
  insert-next es i d within h =
      let e : Key × P = get_or es i d in
      let parts : take i es ++ e ∷ drop (suc i) es ≡ es = parts-at es i d within in
      let none : found (take i es) e.0 ≡ None = absent_before laws (take i es) (drop (suc i) es) e (subst HasDistinctKeys (sym parts) h) in
      sym (insert-none e.0 (take i es) e.1 none) ∙ sym (take_more es i d within)
