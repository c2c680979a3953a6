-- Rules linked by the label and the key that they name.
use Rattle.std.proofs.Common.{◌≡◌, ◌≢◌, ◌∙◌, ◌⊎◌, inl, inr, ℕ, zero, suc, ◌+◌, ◌<◌, ◌≤◌, List, [], ◌∷◌, ◌++◌, length, Bool, true, false, ◌&&◌, Option, Some, None, get_or, take, cond, refl, sym, ap, ap₂, subst, arith, true≢false, nat_eq, length-append, if◌then◌else◌}
use Rattle.std.specs.Prelude.{option_and_then, slice_get}
use Rattle.std.specs.List.{position_from}
use Rattle.std.proofs.lemmas.Bool.{and_parts, cases_order, eqb-true, eq-eqb}
use Rattle.std.proofs.lemmas.List.{get_or_append_left}
use Rattle.std.proofs.Math.Seq.{get_or-append_seam}
use Rattle.mb_world.specs.declared.rule.Rule.{Rule}
use Rattle.mb_policy.specs.contracts.chain.NamedPartialEq.TheImpl
use Rattle.mb_policy.specs.declared.chain.Named.{Named}
use Rattle.mb_policy.specs.machine.Chains.{name_of, same_name, name_alike, meet_by, clash, name_at, IsLast, IsLink, link_at, AreLinks, latest_of, AreLatest, Notes, clash_if, clash_at, first_clash_with, first_clash_at}
use Rattle.std.proofs.lemmas.Option.{slice_get-get_or}

-- ---- names

abbrev pub derived : Named → Named → Bool
derived = (TheImpl.eq-value).it

derived_is : (a b : Named) → derived a b ≡ same_name a b
derived_is a b = refl

pub same-eq : derived ≡ same_name
same-eq = λ i a b. derived_is a b i

name_from : ℕ → ℕ → Named
name_from label key = record { label = record { 0 = label }; key = record { 0 = key } }

pub same_name_is : (a b : Named) → same_name a b ≡ true → a ≡ b
unfolding name_from
same_name_is a b h =
    let parts = and_parts (nat_eq a.label.0 b.label.0) (nat_eq a.key.0 b.key.0) h in
    ap₂ name_from (eqb-true a.label.0 b.label.0 parts.0) (eqb-true a.key.0 b.key.0 parts.1)

pub same_name_of : (a b : Named) → a ≡ b → same_name a b ≡ true
same_name_of a b e = ap₂ (λ x y. x && y) (eq-eqb a.label.0 b.label.0 (ap (λ n. n.label.0) e)) (eq-eqb a.key.0 b.key.0 (ap (λ n. n.key.0) e))

some_is : (a b : Named) → Some a ≡ Some b → a ≡ b
some_is a b h = cc

-- ---- rules of other names don't conflict

alike-never : (x y : Option Named) (name : Named) → y ≡ Some name → (x ≡ Some name → ⊥) → name_alike x y ≡ false
alike-never None y name h never = refl
alike-never (Some a) None name h never = refl
alike-never (Some a) (Some b) name h never = by (same_name a b) refl
  where
    by : (t : Bool) → same_name a b ≡ t → t ≡ false
    by false e = refl
    by true e = absurd (never (ap Some (same_name_is a b e) ∙ h))

alike-none : (x y : Option Named) → y ≡ None → name_alike x y ≡ false
alike-none None y h = refl
alike-none (Some a) None h = refl
alike-none (Some a) (Some b) h = cc

clash-never : (x y : Option Rule) (name : Named) → option_and_then name_of y ≡ Some name → (option_and_then name_of x ≡ Some name → ⊥) → clash_if x y ≡ false
clash-never None y name h never = refl
clash-never (Some a) None name h never = refl
clash-never (Some a) (Some b) name h never = ap (λ t. t && meet_by a b) (alike-never (name_of a) (name_of b) name h never)

clash-none : (x y : Option Rule) → option_and_then name_of y ≡ None → clash_if x y ≡ false
clash-none None y h = refl
clash-none (Some a) None h = refl
clash-none (Some a) (Some b) h = ap (λ t. t && meet_by a b) (alike-none (name_of a) (name_of b) h)

-- ---- following the links

module _ (rules : List Rule) where
  pub link-below : (to p : ℕ) (name : Option Named) → IsLink rules to name (Some p) → p < to
  link-below to p None h = cc
  link-below to p (Some name) h = h.0

  -- the next link
  pub link-next : (links : List (Option ℕ)) (to p : ℕ) (name : Option Named) → AreLinks rules links → p < length links → IsLink rules to name (Some p) → IsLink rules p name (link_at links p)
  link-next links to p None are below h = cc
  link-next links to p (Some name) are below h =
      let P : Option Named → Type 0 = λ n. IsLink rules p n (link_at links p) in
      subst P h.1 (are p below)

  -- no rule from the place of the link on conflicts
  pub link-clear : (place to p : ℕ) (name : Option Named) → name ≡ name_at rules place → IsLink rules to name (Some p)
      → ((q : ℕ) → to ≤ q → q < place → clash_at rules q place ≡ false) → clash_at rules p place ≡ false
      → (q : ℕ) → p ≤ q → q < place → clash_at rules q place ≡ false
  link-clear place to p None e h clear here q above below = cc
  link-clear place to p (Some name) e h clear here q above below = by (cases_order p q)
    where
      later : (q ≡ to) ⊎ ((q < to) ⊎ (to < q)) → p < q → clash_at rules q place ≡ false
      later (inl same) less = clear q (omega arith) below
      later (inr (inl before)) less = clash-never (slice_get rules q) (slice_get rules place) name (sym e) (h.2 q (omega arith) before)
      later (inr (inr after)) less = clear q (omega arith) below

      by : (p ≡ q) ⊎ ((p < q) ⊎ (q < p)) → clash_at rules q place ≡ false
      by (inl same) = let P : ℕ → Type 0 = λ n. clash_at rules n place ≡ false in subst P same here
      by (inr (inl less)) = later (cases_order q to) less
      by (inr (inr more)) = absurd (omega arith)

  -- no rule conflicts where the links end
  pub link-end : (place to : ℕ) (name : Option Named) → name ≡ name_at rules place → IsLink rules to name None
      → ((q : ℕ) → to ≤ q → q < place → clash_at rules q place ≡ false)
      → (q : ℕ) → q < place → clash_at rules q place ≡ false
  link-end place to None e h clear q below = clash-none (slice_get rules q) (slice_get rules place) (sym e)
  link-end place to (Some name) e h clear q below = by (cases_order q to)
    where
      by : (q ≡ to) ⊎ ((q < to) ⊎ (to < q)) → clash_at rules q place ≡ false
      by (inl same) = clear q (omega arith) below
      by (inr (inl before)) = clash-never (slice_get rules q) (slice_get rules place) name (sym e) (h q (omega arith) before)
      by (inr (inr after)) = clear q (omega arith) below

  -- one more link
  pub links-push : (links : List (Option ℕ)) (link : Option ℕ) (place : ℕ) → length links ≡ place → AreLinks rules links → IsLink rules place (name_at rules place) link → AreLinks rules (links ++ link ∷ [])
  links-push links link place len are last p below = by (cases_order p (length links))
    where
      by : (p ≡ length links) ⊎ ((p < length links) ⊎ (length links < p)) → IsLink rules p (name_at rules p) (link_at (links ++ link ∷ []) p)
      by (inl same) =
          let at : link ≡ link_at (links ++ link ∷ []) p = rw same (sym (get_or-append_seam links link [] None)) in
          let here : place ≡ p = sym (same ∙ len) in
          let P : ℕ → Type 0 = λ n. IsLink rules n (name_at rules n) link in
          let Q : Option ℕ → Type 0 = λ l. IsLink rules p (name_at rules p) l in
          subst Q at (subst P here last)
      by (inr (inl less)) =
          let Q : Option ℕ → Type 0 = λ l. IsLink rules p (name_at rules p) l in
          subst Q (sym (get_or_append_left links (link ∷ []) None p less)) (are p less)
      by (inr (inr more)) = absurd (omega (arith, below, length-append links (link ∷ [])))

  -- what is noted is the link
  pub notes-link : (old new : List (Named × ℕ)) (place : ℕ) (name : Option Named) (link : Option ℕ) → AreLatest rules place old → Notes old new name place link → IsLink rules place name link
  notes-link old new place None link latest h = h.0
  notes-link old new place (Some name) link latest h = let P : Option ℕ → Type 0 = λ l. IsLast rules name place l in subst P (sym h.0) (latest name)

  last-on : (q : Named) (to : ℕ) (o : Option ℕ) → IsLast rules q to o → (name_at rules to ≡ Some q → ⊥) → IsLast rules q (to + 1) o
  last-on q to None h never = λ p above below. lacks p (cases_order p to) above below
    where
      lacks : (p : ℕ) → (p ≡ to) ⊎ ((p < to) ⊎ (to < p)) → 0 ≤ p → p < to + 1 → name_at rules p ≢ Some q
      lacks p (inl same) above below = let P : ℕ → Type 0 = λ n. name_at rules n ≢ Some q in subst P (sym same) never
      lacks p (inr (inl less)) above below = h p above less
      lacks p (inr (inr more)) above below = absurd (omega arith)
  last-on q to (Some r) h never = (omega (arith, h.0), h.1, λ p above below. lacks p (cases_order p to) above below)
    where
      lacks : (p : ℕ) → (p ≡ to) ⊎ ((p < to) ⊎ (to < p)) → r + 1 ≤ p → p < to + 1 → name_at rules p ≢ Some q
      lacks p (inl same) above below = let P : ℕ → Type 0 = λ n. name_at rules n ≢ Some q in subst P (sym same) never
      lacks p (inr (inl less)) above below = h.2 p above less
      lacks p (inr (inr more)) above below = absurd (omega arith)

  -- the last places, once a rule is noted
  pub notes-latest : (old new : List (Named × ℕ)) (place : ℕ) (name : Option Named) (link : Option ℕ) → name ≡ name_at rules place → AreLatest rules place old → Notes old new name place link → AreLatest rules (place + 1) new
  notes-latest old new place None link e latest h = λ q.
      let P : Option ℕ → Type 0 = λ l. IsLast rules q (place + 1) l in
      subst P (sym (h.1 q)) (last-on q place (latest_of old q) (latest q) (λ at. let never : None ≡ Some q = e ∙ at in cc))
  notes-latest old new place (Some name) link e latest h = λ q.
      let P : Option ℕ → Type 0 = λ l. IsLast rules q (place + 1) l in
      subst P (sym (h.1 q)) (by q (same_name name q) refl)
    where
      by : (q : Named) (t : Bool) → same_name name q ≡ t → IsLast rules q (place + 1) (if t then Some place else latest_of old q)
      by q true s = (omega arith, sym e ∙ ap Some (same_name_is name q s), λ p above below. absurd (omega arith))
      by q false s = last-on q place (latest_of old q) (latest q) (λ at. true≢false (sym (same_name_of name q (some_is name q (e ∙ at))) ∙ s))

-- what the code reads of two rules
pub clash-read : (rules : List Rule) (p q : ℕ) (d e : Rule) → p < length rules → q < length rules → clash_at rules p q ≡ clash (get_or rules p d) (get_or rules q e)
clash-read rules p q d e in_p in_q = ap₂ clash_if (slice_get-get_or rules p d in_p) (slice_get-get_or rules q e in_q)

pub notes-at : (rules : List Rule) (place : ℕ) (d : Rule) (old new : List (Named × ℕ)) (link : Option ℕ) → place < length rules → Notes old new (name_of (get_or rules place d)) place link → Notes old new (name_at rules place) place link
notes-at rules place d old new link below h =
    let P : Option Rule → Type 0 = λ o. Notes old new (option_and_then name_of o) place link in
    subst P (sym (slice_get-get_or rules place d below)) h

-- no rule before a place conflicts
pub none-before : (rules : List Rule) (place n : ℕ) (x : Rule) → ((p : ℕ) → p < place → clash_if (slice_get rules p) (Some x) ≡ false) → position_from (λ o. clash o x) n (take place rules) ≡ None
none-before [] zero n x h = refl
none-before [] (suc k) n x h = refl
none-before (r ∷ rs) zero n x h = refl
none-before (r ∷ rs) (suc k) n x h =
    ap (λ t. cond t (Some n) (position_from (λ o. clash o x) (n + 1) (take k rs))) (h 0 (omega arith))
    ∙ none-before rs k (n + 1) x (λ p below. h (suc p) (omega arith))

pub none-at : (rules : List Rule) (place : ℕ) → ((p : ℕ) → p < place → clash_at rules p place ≡ false) → first_clash_at rules place ≡ None
none-at rules place h = by (slice_get rules place) refl
  where
    by : (o : Option Rule) → slice_get rules place ≡ o → first_clash_with (take place rules) o ≡ None
    by None e = refl
    by (Some x) e = none-before rules place 1 x (λ p below. let P : Option Rule → Type 0 = λ o. clash_if (slice_get rules p) o ≡ false in subst P e (h p below))
