-- Entries that were made over views that evolve contradict nothing that was told before they began.
use Rattle.std.proofs.Common.{◌≡◌, ℕ, zero, suc, ◌<◌, ◌≤◌, Bool, true, false, ◌&&◌, nat_eq, nat_lt, List, [], ◌∷◌, ◌++◌, take, length, None, Some, refl, sym, ap, ◌∙◌, subst, if◌then◌else◌, arith, append-nil, append_assoc}
use Rattle.std.specs.List.{AllByRecursion, list_any, slice_get}
use Rattle.std.proofs.lemmas.Bool.{eqb-true, ltb-true, ltb-false}
use Rattle.std.proofs.lemmas.List.{take-append-le}
use Rattle.std.proofs.lemmas.Option.{slice_get_within}
use Rattle.mb_desc.specs.View.{View}
use Rattle.mb_view.specs.Views.{KeepsFacts}
use Rattle.mb_view.specs.Promises.{Fact, Closed, Holds}
use Rattle.mb_view.specs.Entries.{Deed, IsExtensible, PreventExtensions, Entry, GivesOneKind, tells, tells_of_closed, tells_closed, is_of, closed_by, told_by, told_from, Told, contradicts, IsConsistent, Lawful}
use Rattle.mb_view.specs.Passing.{Passes, IsWitnessed}
use Rattle.mb_view.proofs.Staying.{holds-later}
use Rattle.mb_view.proofs.Checked.{passes-agrees, tells-holds, tells_of_closed-holds}

module _ {X : Type 0} where
  All-gets : (P : X → Type 0) (xs : List X) → ((place : ℕ) (x : X) → slice_get xs place ≡ Some x → P x) → AllByRecursion P xs
  All-gets P [] h = tt
  All-gets P (x ∷ xs) h = (h zero x refl, All-gets P xs (λ place y e. h (suc place) y e))

  pub take-get : (xs : List X) (b place : ℕ) (x : X) → slice_get (take b xs) place ≡ Some x → (slice_get xs place ≡ Some x) × (place < b)
  take-get [] zero place x h = absurd (let no : None ≡ Some x = h in cc)
  take-get [] (suc b) place x h = absurd (let no : None ≡ Some x = h in cc)
  take-get (y ∷ xs) zero place x h = absurd (let no : None ≡ Some x = h in cc)
  take-get (y ∷ xs) (suc b) zero x h = (h, omega arith)
  take-get (y ∷ xs) (suc b) (suc place) x h = let k = take-get xs b place x h in (k.0, omega (arith, k.1))

  pub list_any-get : (test : X → Bool) (xs : List X) → list_any test xs ≡ true → (place : ℕ) × (x : X) × (slice_get xs place ≡ Some x) × (test x ≡ true)
  list_any-get test [] h = absurd (let no : false ≡ true = h in cc)
  list_any-get test (x ∷ xs) h = by (test x) refl (list_any-get test xs)
    where
      by : (b : Bool) → test x ≡ b → (list_any test xs ≡ true → (place : ℕ) × (y : X) × (slice_get xs place ≡ Some y) × (test y ≡ true)) → (place : ℕ) × (y : X) × (slice_get (x ∷ xs) place ≡ Some y) × (test y ≡ true)
      by true t rest = (zero, x, refl, t)
      by false t rest = let k = rest (rw t at h) in (suc k.0, k.1, k.2, k.3)

  pub All-both : (P : X → Type 0) (xs ys : List X) → AllByRecursion P xs → AllByRecursion P ys → AllByRecursion P (xs ++ ys)
  All-both P [] ys h k = k
  All-both P (x ∷ xs) ys h k = (h.0, All-both P xs ys h.1 k)

  pub All-to : (P Q : X → Type 0) → ((x : X) → P x → Q x) → (xs : List X) → AllByRecursion P xs → AllByRecursion Q xs
  All-to P Q f [] h = tt
  All-to P Q f (x ∷ xs) h = (f x h.0, All-to P Q f xs h.1)

  pub All-two : (P B Q : X → Type 0) → ((x : X) → P x → B x → Q x) → (xs : List X) → AllByRecursion P xs → AllByRecursion B xs → AllByRecursion Q xs
  All-two P B Q f [] h k = tt
  All-two P B Q f (x ∷ xs) h k = (f x h.0 k.0, All-two P B Q f xs h.1 k.1)

pub and-both : (a b : Bool) → a && b ≡ true → (a ≡ true) × (b ≡ true)
and-both true true h = (refl, refl)
and-both true false h = absurd (let no : false ≡ true = h in cc)
and-both false b h = absurd (let no : false ≡ true = h in cc)

module _ {K V : Type 0} where
  of-side : (side object : ℕ) (entry : Entry K V) → is_of side object entry ≡ true → (entry.side ≡ side) × (entry.object ≡ object)
  of-side side object entry h =
      let k = and-both (nat_eq entry.side side) (nat_eq entry.object object) h in
      (eqb-true entry.side side k.0, eqb-true entry.object object k.1)

  told_from-All : (P : Fact K V → Type 0) (entries : List (Entry K V)) (side object : ℕ) (rest : List (Entry K V)) → AllByRecursion (λ entry. is_of side object entry ≡ true → AllByRecursion P (told_by entries entry)) rest → AllByRecursion P (told_from entries side object rest)
  told_from-All P entries side object [] h = tt
  told_from-All P entries side object (entry ∷ rest) h =
      All-both P (if is_of side object entry then told_by entries entry else []) (told_from entries side object rest) (by (is_of side object entry) refl) (told_from-All P entries side object rest h.1)
    where
      by : (b : Bool) → is_of side object entry ≡ b → AllByRecursion P (if b then told_by entries entry else [])
      by true t = h.0 t
      by false t = tt

module _ {K V : Type 0} (same_key : K → K → Bool) (key_sound : (x y : K) → same_key x y ≡ true → x ≡ y) (key_refl : (x : K) → same_key x x ≡ true) (same : V → V → Bool) (undefined : V) (value_refl : (x : V) → same x x ≡ true) (value_sound : (x y : V) → same x y ≡ true → x ≡ y) where
  closes : (deed : Deed K V) (view : View K V) → tells_closed deed ≡ true → Passes same_key same undefined deed view → view.extensible ≡ false
  closes (IsExtensible false) view t h = sym h
  closes (PreventExtensions true) view t h = h
  closes _ view t h = absurd (let no : false ≡ true = t in cc)

  module _ (entries : List (Entry K V)) (kinds : (place : ℕ) (entry : Entry K V) → slice_get entries place ≡ Some entry → GivesOneKind entry.deed) (w : IsWitnessed same_key same undefined entries) where
    told-holds : (b m side object : ℕ) → ((earlier : ℕ) → earlier < b → w.moment earlier ≤ m) → AllByRecursion (λ fact. Holds same_key fact (w.seen side object m)) (Told (take b entries) side object)
    told-holds b m side object before =
        told_from-All (λ fact. Holds same_key fact (w.seen side object m)) (take b entries) side object (take b entries)
        (All-gets (λ entry. is_of side object entry ≡ true → AllByRecursion (λ fact. Holds same_key fact (w.seen side object m)) (told_by (take b entries) entry)) (take b entries) each)
      where
        here : (place : ℕ) (entry : Entry K V) → slice_get entries place ≡ Some entry → place < b → (facts : List (Fact K V)) → AllByRecursion (λ fact. Holds same_key fact (w.seen entry.side entry.object (w.moment place))) facts → AllByRecursion (λ fact. Holds same_key fact (w.seen entry.side entry.object m)) facts
        here place entry at below facts h =
            All-to (λ fact. Holds same_key fact (w.seen entry.side entry.object (w.moment place))) (λ fact. Holds same_key fact (w.seen entry.side entry.object m))
            (λ fact k. holds-later same_key fact (w.seen entry.side entry.object (w.moment place)) (w.seen entry.side entry.object m) (w.evolves entry.side entry.object (w.moment place) m (before place below)) k) facts h

        closed-then : (place : ℕ) (entry : Entry K V) → slice_get entries place ≡ Some entry → closed_by entry.side entry.object (take entry.began (take b entries)) ≡ true → Holds same_key Closed (w.seen entry.side entry.object (w.moment place))
        closed-then place entry at t =
            let k = list_any-get (λ other. is_of entry.side entry.object other && tells_closed other.deed) (take entry.began (take b entries)) t in
            let g = take-get (take b entries) entry.began k.0 k.1 k.2 in
            let g' = take-get entries b k.0 k.1 g.0 in
            let two = and-both (is_of entry.side entry.object k.1) (tells_closed k.1.deed) k.3 in
            let same_object = of-side entry.side entry.object k.1 two.0 in
            let c : Holds same_key Closed (w.seen k.1.side k.1.object (w.moment k.0)) = closes k.1.deed (w.seen k.1.side k.1.object (w.moment k.0)) two.1 (w.passes k.0 k.1 g'.0) in
            let c' : Holds same_key Closed (w.seen entry.side entry.object (w.moment k.0)) =
            subst (λ z. Holds same_key Closed (w.seen entry.side z (w.moment k.0))) same_object.1 (subst (λ z. Holds same_key Closed (w.seen z k.1.object (w.moment k.0))) same_object.0 c) in
            holds-later same_key Closed (w.seen entry.side entry.object (w.moment k.0)) (w.seen entry.side entry.object (w.moment place)) (w.evolves entry.side entry.object (w.moment k.0) (w.moment place) (w.order place entry at k.0 g.1)) c'

        some : (place : ℕ) (entry : Entry K V) → slice_get entries place ≡ Some entry → (t : Bool) → closed_by entry.side entry.object (take entry.began (take b entries)) ≡ t → AllByRecursion (λ fact. Holds same_key fact (w.seen entry.side entry.object (w.moment place))) (if t then tells_of_closed entry.deed else [])
        some place entry at true t = tells_of_closed-holds same_key key_sound same undefined value_refl value_sound (w.seen entry.side entry.object (w.moment place)) entry.deed (closed-then place entry at t) (w.passes place entry at)
        some place entry at false t = tt

        each : (place : ℕ) (entry : Entry K V) → slice_get (take b entries) place ≡ Some entry → is_of side object entry ≡ true → AllByRecursion (λ fact. Holds same_key fact (w.seen side object m)) (told_by (take b entries) entry)
        each place entry got is =
            let g = take-get entries b place entry got in
            let same_object = of-side side object entry is in
            let all : AllByRecursion (λ fact. Holds same_key fact (w.seen entry.side entry.object (w.moment place))) (told_by (take b entries) entry) =
            All-both (λ fact. Holds same_key fact (w.seen entry.side entry.object (w.moment place))) (tells entry.deed) (if closed_by entry.side entry.object (take entry.began (take b entries)) then tells_of_closed entry.deed else [])
            (tells-holds same_key key_sound same undefined value_refl value_sound (w.seen entry.side entry.object (w.moment place)) entry.deed (kinds place entry g.0) (w.passes place entry g.0))
            (some place entry g.0 (closed_by entry.side entry.object (take entry.began (take b entries))) refl) in
            subst (λ z. AllByRecursion (λ fact. Holds same_key fact (w.seen side z m)) (told_by (take b entries) entry)) same_object.1
            (subst (λ z. AllByRecursion (λ fact. Holds same_key fact (w.seen z entry.object m)) (told_by (take b entries) entry)) same_object.0
            (here place entry g.0 g.1 (told_by (take b entries) entry) all))

    pub witnessed-lawful : Lawful same_key same undefined entries
    witnessed-lawful = All-gets (IsConsistent same_key same undefined entries) entries one
      where
        one : (place : ℕ) (entry : Entry K V) → slice_get entries place ≡ Some entry → IsConsistent same_key same undefined entries entry
        one place entry at =
            All-to (λ fact. Holds same_key fact (w.seen entry.side entry.object (w.moment place))) (λ fact. contradicts same_key same undefined fact entry.deed ≡ false)
            (λ fact h. passes-agrees same_key key_sound same undefined value_refl value_sound key_refl (w.seen entry.side entry.object (w.moment place)) entry.deed (kinds place entry at) (w.passes place entry at) fact h)
            (Told (take entry.began entries) entry.side entry.object)
            (told-holds entry.began (w.moment place) entry.side entry.object (w.order place entry at))

  -- ---- one entry more
  -- what a method owes that began over one view, passes against a later one, and ends over a third
  pub entry-owes : (told : List (Fact K V)) (deed : Deed K V) (began now ended : View K V) → GivesOneKind deed
      → AllByRecursion (λ fact. Holds same_key fact began) told
      → KeepsFacts same_key began now → Passes same_key same undefined deed now → KeepsFacts same_key now ended
      → AllByRecursion (λ fact. contradicts same_key same undefined fact deed ≡ false) told
      × AllByRecursion (λ fact. Holds same_key fact ended) (tells deed)
      × (began.extensible ≡ false → AllByRecursion (λ fact. Holds same_key fact ended) (tells_of_closed deed))
  entry-owes told deed began now ended one h k p l = (
    All-to (λ fact. Holds same_key fact began) (λ fact. contradicts same_key same undefined fact deed ≡ false)
        (λ fact f. passes-agrees same_key key_sound same undefined value_refl value_sound key_refl now deed one p fact (holds-later same_key fact began now k f)) told h,
    All-to (λ fact. Holds same_key fact now) (λ fact. Holds same_key fact ended) (λ fact f. holds-later same_key fact now ended l f) (tells deed)
        (tells-holds same_key key_sound same undefined value_refl value_sound now deed one p),
    λ c. All-to (λ fact. Holds same_key fact now) (λ fact. Holds same_key fact ended) (λ fact f. holds-later same_key fact now ended l f) (tells_of_closed deed)
        (tells_of_closed-holds same_key key_sound same undefined value_refl value_sound now deed (k.closed c) p),
  )

  -- the entries so far stay lawful with one more that contradicts nothing of what was complete when it began
  pub lawful-more : (entries : List (Entry K V)) (entry : Entry K V) → ((place : ℕ) (other : Entry K V) → slice_get entries place ≡ Some other → other.began ≤ place) → entry.began ≤ length entries
      → Lawful same_key same undefined entries
      → AllByRecursion (λ fact. contradicts same_key same undefined fact entry.deed ≡ false) (Told (take entry.began entries) entry.side entry.object)
      → Lawful same_key same undefined (entries ++ (entry ∷ []))
  lawful-more entries entry places last h k =
      All-both (IsConsistent same_key same undefined (entries ++ (entry ∷ []))) entries (entry ∷ [])
      (All-two (IsConsistent same_key same undefined entries) (λ other. other.began ≤ length entries) (IsConsistent same_key same undefined (entries ++ (entry ∷ [])))
      (λ other e below. moved other below e) entries h (All-gets (λ other. other.began ≤ length entries) entries (λ place other at. within entries place other at (places place other at))))
      (moved entry last k, tt)
    where
      moved : (other : Entry K V) → other.began ≤ length entries
          → AllByRecursion (λ fact. contradicts same_key same undefined fact other.deed ≡ false) (Told (take other.began entries) other.side other.object)
          → AllByRecursion (λ fact. contradicts same_key same undefined fact other.deed ≡ false) (Told (take other.began (entries ++ (entry ∷ []))) other.side other.object)
      moved other below e =
          subst (λ (z : List (Entry K V)). AllByRecursion (λ fact. contradicts same_key same undefined fact other.deed ≡ false) (Told z other.side other.object)) (sym (take-append-le other.began entries (entry ∷ []) below)) e

      within : (xs : List (Entry K V)) (place : ℕ) (other : Entry K V) → slice_get xs place ≡ Some other → other.began ≤ place → other.began ≤ length xs
      within xs place other at below = let l = slice_get_within xs place other at in omega (arith, l, below)

module _ {K V : Type 0} where
  -- what is told with one entry more
  told_by-more : (entries : List (Entry K V)) (entry other : Entry K V) → other.began ≤ length entries → told_by (entries ++ (entry ∷ [])) other ≡ told_by entries other
  told_by-more entries entry other below =
      ap (λ (z : List (Entry K V)). tells other.deed ++ (if closed_by other.side other.object z then tells_of_closed other.deed else [])) (take-append-le other.began entries (entry ∷ []) below)

  told_from-more : (entries : List (Entry K V)) (entry : Entry K V) (side object : ℕ) (rest : List (Entry K V)) → AllByRecursion (λ other. other.began ≤ length entries) rest
      → told_from (entries ++ (entry ∷ [])) side object (rest ++ (entry ∷ [])) ≡ told_from entries side object rest ++ (if is_of side object entry then told_by (entries ++ (entry ∷ [])) entry else [])
  told_from-more entries entry side object [] h = append-nil (if is_of side object entry then told_by (entries ++ (entry ∷ [])) entry else [])
  told_from-more entries entry side object (other ∷ rest) h =
      ap (λ (z : List (Fact K V)). (if is_of side object other then z else []) ++ told_from (entries ++ (entry ∷ [])) side object (rest ++ (entry ∷ []))) (told_by-more entries entry other h.0)
      ∙ ap (λ (z : List (Fact K V)). (if is_of side object other then told_by entries other else []) ++ z) (told_from-more entries entry side object rest h.1)
      ∙ sym (append_assoc (if is_of side object other then told_by entries other else []) (told_from entries side object rest) (if is_of side object entry then told_by (entries ++ (entry ∷ [])) entry else []))

  pub told-more : (entries : List (Entry K V)) (entry : Entry K V) (side object : ℕ) → ((place : ℕ) (other : Entry K V) → slice_get entries place ≡ Some other → other.began ≤ place) → entry.began ≤ length entries
      → Told (entries ++ (entry ∷ [])) side object ≡ Told entries side object ++ (if is_of side object entry then told_by entries entry else [])
  told-more entries entry side object places last =
      told_from-more entries entry side object entries (All-gets (λ other. other.began ≤ length entries) entries (λ place other at. let l = slice_get_within entries place other at in let p = places place other at in omega (arith, l, p)))
      ∙ ap (λ (z : List (Fact K V)). Told entries side object ++ (if is_of side object entry then z else [])) (told_by-more entries entry entry last)

-- by a clock: the number of entries that are complete at each moment
pub clock-orders : {K V : Type 0} (entries : List (Entry K V)) (complete moment : ℕ → ℕ)
    → ((one two : ℕ) → one ≤ two → complete one ≤ complete two)
    → ((place : ℕ) → complete (moment place) ≤ place)
    → ((place : ℕ) (entry : Entry K V) → slice_get entries place ≡ Some entry → entry.began ≤ complete (moment place))
    → (place : ℕ) (entry : Entry K V) → slice_get entries place ≡ Some entry → (earlier : ℕ) → earlier < entry.began → moment earlier ≤ moment place
clock-orders entries complete moment grows before after place entry at earlier less = by (nat_lt (moment place) (moment earlier)) refl
  where
    by : (b : Bool) → nat_lt (moment place) (moment earlier) ≡ b → moment earlier ≤ moment place
    by false t = ltb-false (moment place) (moment earlier) t
    by true t =
        let l : moment place < moment earlier = ltb-true (moment place) (moment earlier) t in
        let a : complete (moment place) ≤ complete (moment earlier) = grows (moment place) (moment earlier) (omega (arith, l)) in
        let b = before earlier in
        let c = after place entry at in
        absurd (omega (arith, a, b, c, less))
