-- What the entries tell stays so of a shadow, with the entry that is made after it followed.
use Rattle.std.proofs.Common.{◌≡◌, ℕ, zero, suc, ◌≤◌, Bool, true, false, ◌&&◌, List, [], ◌∷◌, ◌++◌, take, length, None, Some, refl, sym, ap, ◌∙◌, subst, if◌then◌else◌}
use Rattle.std.specs.List.{AllByRecursion, slice_get}
use Rattle.mb_view.proofs.By.{IsAlikeBy}
use Rattle.mb_desc.specs.View.{View}
use Rattle.mb_view.specs.Views.{KeepsFacts}
use Rattle.mb_view.specs.Promises.{Fact, Closed, Holds}
use Rattle.mb_view.specs.Entries.{Deed, IsExtensible, PreventExtensions, Entry, tells, tells_of_closed, tells_closed, is_of, closed_by, told_by, told_from, Told}
use Rattle.mb_view.specs.Lean.{IsLean, HasFollowed}
use Rattle.mb_view.proofs.Alike.{alike-holds}
use Rattle.mb_view.proofs.Staying.{holds-later}
use Rattle.mb_view.proofs.Lawfulness.{All-both, All-to, told-more, and-both, list_any-get, take-get}
use Rattle.mb_view.proofs.Leaning.{shadow-told, shadow-told_of_closed}

All-first : {X : Type 0} (P : X → Type 0) (xs ys : List X) → AllByRecursion P (xs ++ ys) → AllByRecursion P xs
All-first P [] ys h = tt
All-first P (x ∷ xs) ys h = (h.0, All-first P xs ys h.1)

All-last : {X : Type 0} (P : X → Type 0) (xs ys : List X) → AllByRecursion P (xs ++ ys) → AllByRecursion P ys
All-last P [] ys h = h
All-last P (x ∷ xs) ys h = All-last P xs ys h.1

module _ {K V : Type 0} where
  told-closed : (P : Fact K V → Type 0) (deed : Deed K V) → tells_closed deed ≡ true → AllByRecursion P (tells deed) → P Closed
  told-closed P (IsExtensible false) t h = h.0
  told-closed P (PreventExtensions true) t h = h.0
  told-closed P _ t h = absurd (let bad : false ≡ true = t in cc)

  -- an entry of the list that tells 'closed' does so among all that is told
  closed-among : (P : Fact K V → Type 0) (entries : List (Entry K V)) (side object : ℕ) (rest : List (Entry K V)) (place : ℕ) (entry : Entry K V) → slice_get rest place ≡ Some entry → is_of side object entry ≡ true → tells_closed entry.deed ≡ true → AllByRecursion P (told_from entries side object rest) → P Closed
  closed-among P entries side object [] place entry at is t h = absurd (let bad : None ≡ Some entry = at in cc)
  closed-among P entries side object (other ∷ rest) zero entry at is t h =
      let e : other ≡ entry = cc in
      let i : is_of side object other ≡ true = ap (is_of side object) e ∙ is in
      let a : AllByRecursion P (if is_of side object other then told_by entries other else []) = All-first P (if is_of side object other then told_by entries other else []) (told_from entries side object rest) h in
      let b : AllByRecursion P (told_by entries other) = subst (λ (c : Bool). AllByRecursion P (if c then told_by entries other else [])) i a in
      told-closed P other.deed (ap (λ (z : Entry K V). tells_closed z.deed) e ∙ t) (All-first P (tells other.deed) (if closed_by other.side other.object (take other.began entries) then tells_of_closed other.deed else []) b)
  closed-among P entries side object (other ∷ rest) (suc place) entry at is t h =
      closed-among P entries side object rest place entry at is t (All-last P (if is_of side object other then told_by entries other else []) (told_from entries side object rest) h)

  pub closed-held : (P : Fact K V → Type 0) (entries : List (Entry K V)) (side object began : ℕ) → closed_by side object (take began entries) ≡ true → AllByRecursion P (Told entries side object) → P Closed
  closed-held P entries side object began c h =
      let k = list_any-get (λ entry. is_of side object entry && tells_closed entry.deed) (take began entries) c in
      let g = take-get entries began k.0 k.1 k.2 in
      let two = and-both (is_of side object k.1) (tells_closed k.1.deed) k.3 in
      closed-among P entries side object entries k.0 k.1 g.0 two.0 two.1 h

module _ {K V : Type 0} (same_key : K → K → Bool) (sound : (x y : K) → same_key x y ≡ true → x ≡ y) (reflexive : (x : K) → same_key x x ≡ true) (same : V → V → Bool) (undefined : V) (value_refl : (x : V) → same x x ≡ true) where
  pub told-kept : (entries : List (Entry K V)) (entry : Entry K V) (shadow followed view : View K V)
      → ((place : ℕ) (other : Entry K V) → slice_get entries place ≡ Some other → other.began ≤ place) → entry.began ≤ length entries
      → AllByRecursion (λ fact. Holds same_key fact shadow) (Told entries entry.side entry.object)
      → KeepsFacts same_key shadow followed → KeepsFacts same_key followed view → IsLean same_key followed → HasFollowed same_key entry.deed followed view
      → AllByRecursion (λ fact. Holds same_key fact view) (tells entry.deed)
      → (closed_by entry.side entry.object (take entry.began entries) ≡ true → AllByRecursion (λ fact. Holds same_key fact view) (tells_of_closed entry.deed))
      → AllByRecursion (λ fact. Holds same_key fact followed) (Told (entries ++ (entry ∷ [])) entry.side entry.object)
  told-kept entries entry shadow followed view places last told keeps h lean has t u =
      subst (AllByRecursion (λ fact. Holds same_key fact followed)) (sym (told-more entries entry entry.side entry.object places last))
      (All-both (λ fact. Holds same_key fact followed) (Told entries entry.side entry.object) (if is_of entry.side entry.object entry then told_by entries entry else []) before (own (is_of entry.side entry.object entry)))
    where
      before : AllByRecursion (λ fact. Holds same_key fact followed) (Told entries entry.side entry.object)
      before = All-to (λ fact. Holds same_key fact shadow) (λ fact. Holds same_key fact followed) (λ fact f. holds-later same_key fact shadow followed keeps f) (Told entries entry.side entry.object) told

      once : (b : Bool) → closed_by entry.side entry.object (take entry.began entries) ≡ b → AllByRecursion (λ fact. Holds same_key fact followed) (if b then tells_of_closed entry.deed else [])
      once true c =
          shadow-told_of_closed same_key sound reflexive same undefined value_refl followed view h lean entry.deed
          (closed-held (λ fact. Holds same_key fact followed) entries entry.side entry.object entry.began c before) has (u c)
      once false c = tt

      own : (b : Bool) → AllByRecursion (λ fact. Holds same_key fact followed) (if b then told_by entries entry else [])
      own true =
          All-both (λ fact. Holds same_key fact followed) (tells entry.deed) (if closed_by entry.side entry.object (take entry.began entries) then tells_of_closed entry.deed else [])
          (shadow-told same_key sound reflexive same undefined value_refl followed view h lean entry.deed has t)
          (once (closed_by entry.side entry.object (take entry.began entries)) refl)
      own false = tt

module _ {K V : Type 0} (same_key : K → K → Bool) where
  pub told-kept_whole : (is_name : K → Bool) (entries : List (Entry K V)) (entry : Entry K V) (shadow followed view : View K V)
      → ((place : ℕ) (other : Entry K V) → slice_get entries place ≡ Some other → other.began ≤ place) → entry.began ≤ length entries
      → AllByRecursion (λ fact. Holds same_key fact shadow) (Told entries entry.side entry.object)
      → KeepsFacts same_key shadow followed → IsAlikeBy same_key is_name view followed
      → AllByRecursion (λ fact. Holds same_key fact view) (tells entry.deed)
      → (closed_by entry.side entry.object (take entry.began entries) ≡ true → AllByRecursion (λ fact. Holds same_key fact view) (tells_of_closed entry.deed))
      → AllByRecursion (λ fact. Holds same_key fact followed) (Told (entries ++ (entry ∷ [])) entry.side entry.object)
  told-kept_whole is_name entries entry shadow followed view places last told keeps alike t u =
      subst (AllByRecursion (λ fact. Holds same_key fact followed)) (sym (told-more entries entry entry.side entry.object places last))
      (All-both (λ fact. Holds same_key fact followed) (Told entries entry.side entry.object) (if is_of entry.side entry.object entry then told_by entries entry else [])
      (All-to (λ fact. Holds same_key fact shadow) (λ fact. Holds same_key fact followed) (λ fact f. holds-later same_key fact shadow followed keeps f) (Told entries entry.side entry.object) told)
      (own (is_of entry.side entry.object entry)))
    where
      moved : (facts : List (Fact K V)) → AllByRecursion (λ fact. Holds same_key fact view) facts → AllByRecursion (λ fact. Holds same_key fact followed) facts
      moved facts h = All-to (λ fact. Holds same_key fact view) (λ fact. Holds same_key fact followed) (λ fact f. alike-holds same_key is_name view followed alike fact f) facts h

      once : (b : Bool) → closed_by entry.side entry.object (take entry.began entries) ≡ b → AllByRecursion (λ fact. Holds same_key fact followed) (if b then tells_of_closed entry.deed else [])
      once true c = moved (tells_of_closed entry.deed) (u c)
      once false c = tt

      own : (b : Bool) → AllByRecursion (λ fact. Holds same_key fact followed) (if b then told_by entries entry else [])
      own true =
          All-both (λ fact. Holds same_key fact followed) (tells entry.deed) (if closed_by entry.side entry.object (take entry.began entries) then tells_of_closed entry.deed else [])
          (moved (tells entry.deed) t) (once (closed_by entry.side entry.object (take entry.began entries)) refl)
      own false = tt
