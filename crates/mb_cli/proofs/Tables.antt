-- Tables of texts: where a text is, and that each list of tokens has one.
use Rattle.std.proofs.Common.{◌≡◌, ℕ, Bool, true, false, true≢false, List, [], ◌∷◌, ◌++◌, ◌||◌, zero, suc, slice_get, Some, if◌then◌else◌, refl, sym, ap, ◌∙◌}
use Rattle.std.specs.List.{AllByRecursion, IsDistinct}
use Rattle.std.specs.Str.{bytes_eq as same_text}
use Rattle.std.specs.Cmp.Lexicographic.{bytes_decides}
use Rattle.std.proofs.lemmas.Option.{get_or_from_slice_get}
use Rattle.mb_base.specs.declared.value.StrId.{StrId}
use Rattle.mb_text.specs.Texts.{has_text, text_at, AreDistinct, KeepsIds}
use Rattle.mb_text.proofs.WithText.{one_place}
use Rattle.mb_text.proofs.Kept.{keeps_ids_none}

-- the first place of a text, or the number of texts
abbrev pub place_in : List (List ℕ) → List ℕ → ℕ
place_in [] us = 0
place_in (t ∷ texts) us = if same_text t us then 0 else suc (place_in texts us)

-- the id in the other texts of the text of an id
abbrev pub moved : List (List ℕ) → List (List ℕ) → StrId → StrId
moved texts others id = record { 0 = place_in others (text_at texts id) }

same_text-refl : (t : List ℕ) → same_text t t ≡ true
same_text-refl t = (bytes_decides t t).1 refl

-- where a text is, its place is
place_there : (texts : List (List ℕ)) (i : ℕ) (us : List ℕ) → slice_get texts i ≡ Some us → slice_get texts (place_in texts us) ≡ Some us
place_there [] i us is = cc
place_there (t ∷ texts) i us is = by (same_text t us) refl (λ j there. place_there texts j us there)
  where
    later : (i : ℕ) → same_text t us ≡ false → slice_get (t ∷ texts) i ≡ Some us → ((j : ℕ) → slice_get texts j ≡ Some us → slice_get texts (place_in texts us) ≡ Some us)
        → slice_get texts (place_in texts us) ≡ Some us
    later zero e is rest = let same : t ≡ us = cc in absurd (true≢false (sym ((bytes_decides t us).1 same) ∙ e))
    later (suc j) e is rest = rest j is

    by : (b : Bool) → same_text t us ≡ b → ((j : ℕ) → slice_get texts j ≡ Some us → slice_get texts (place_in texts us) ≡ Some us)
        → slice_get (t ∷ texts) (if b then 0 else suc (place_in texts us)) ≡ Some us
    by true e rest = ap Some ((bytes_decides t us).0 e)
    by false e rest = later i e is rest

-- ids of one text are moved to one another
pub moved_to : (texts others : List (List ℕ)) (i j : StrId) (us : List ℕ) → AreDistinct others → slice_get texts i.0 ≡ Some us → slice_get others j.0 ≡ Some us
    → moved texts others i ≡ j
moved_to texts others i j us distinct here there =
    let text : text_at texts i ≡ us = get_or_from_slice_get texts i.0 us [] here in
    let place : place_in others (text_at texts i) ≡ j.0 = ap (place_in others) text ∙ one_place others (place_in others us) j.0 us distinct (place_there others j.0 us there) there in
    let id : ℕ → StrId = λ n. record { 0 = n } in
    ap id place

-- a table with one text more

found_at : (texts : List (List ℕ)) (us : List ℕ) → has_text texts us ≡ true → (k : ℕ) × (slice_get texts k ≡ Some us)
found_at [] us has = absurd (true≢false (sym has))
found_at (t ∷ texts) us has = by (same_text us t) refl (λ h. found_at texts us h)
  where
    by : (b : Bool) → same_text us t ≡ b → (has_text texts us ≡ true → (k : ℕ) × (slice_get texts k ≡ Some us)) → (k : ℕ) × (slice_get (t ∷ texts) k ≡ Some us)
    by true e rest = (0, ap Some (sym ((bytes_decides us t).0 e)))
    by false e rest = let found = rest (sym (ap (λ b. b || has_text texts us) e) ∙ has) in (suc found.0, found.1)

at_the_end : (texts : List (List ℕ)) (us : List ℕ) → (k : ℕ) × (slice_get (texts ++ us ∷ []) k ≡ Some us)
at_the_end [] us = (0, refl)
at_the_end (t ∷ texts) us = let rest = at_the_end texts us in (suc rest.0, rest.1)

all_push : {X : Type 0} (P : X → Type 0) (xs : List X) (x : X) → AllByRecursion P xs → P x → AllByRecursion P (xs ++ x ∷ [])
all_push P [] x all last = (last, tt)
all_push P (y ∷ xs) x all last = (all.0, all_push P xs x all.1 last)

apart : (t us : List ℕ) → same_text us t ≡ false → same_text t us ≡ false
apart t us e = by (same_text t us) refl
  where
    by : (b : Bool) → same_text t us ≡ b → b ≡ false
    by false s = refl
    by true s = absurd (true≢false (sym ((bytes_decides us t).1 (sym ((bytes_decides t us).0 s))) ∙ e))

or_false : (a b : Bool) → (a || b) ≡ false → (a ≡ false) × (b ≡ false)
or_false false b e = (refl, e)
or_false true b e = absurd (true≢false e)

distinct_push : (texts : List (List ℕ)) (us : List ℕ) → AreDistinct texts → has_text texts us ≡ false → AreDistinct (texts ++ us ∷ [])
unfolding IsDistinct
distinct_push [] us distinct none = (tt, tt)
distinct_push (t ∷ texts) us distinct none =
    let each = or_false (same_text us t) (has_text texts us) none in
    (all_push (λ y. same_text t y ≡ false) texts us distinct.0 (apart t us each.0), distinct_push texts us distinct.1 each.1)

-- a table after that with a text and its place
pub record Holds (texts : List (List ℕ)) (us : List ℕ) : Type 0 where
  pub all : List (List ℕ)
  pub keeps : KeepsIds texts all
  pub distinct : AreDistinct all
  pub id : StrId
  pub there : slice_get all id.0 ≡ Some us

pub holds : (texts : List (List ℕ)) (us : List ℕ) → AreDistinct texts → Holds texts us
holds texts us distinct = by (has_text texts us) refl
  where
    by : (b : Bool) → has_text texts us ≡ b → Holds texts us
    by true e = let found = found_at texts us e in record { all = texts; keeps = keeps_ids_none texts; distinct = distinct; id = record { 0 = found.0 }; there = found.1 }
    by false e =
        let found = at_the_end texts us in
        record { all = texts ++ us ∷ []; keeps = (us ∷ [], refl); distinct = distinct_push texts us distinct e; id = record { 0 = found.0 }; there = found.1 }

pub no_texts : AreDistinct []
unfolding IsDistinct
no_texts = tt
