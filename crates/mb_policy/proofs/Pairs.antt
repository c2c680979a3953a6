-- The first pair that conflicts, by ids and by texts.
use Rattle.std.proofs.Common.{◌≡◌, ◌∙◌, ◌⊎◌, inl, inr, ℕ, suc, ◌+◌, ◌<◌, ◌≤◌, List, [], ◌∷◌, ◌++◌, length, map, Bool, true, false, ◌&&◌, Option, Some, None, option_map, get_or, take, drop, cond, refl, sym, ap, ap₂, arith, true≢false, nat_eq, subst}
use Rattle.std.specs.Prelude.{slice_get, All}
use Rattle.std.specs.List.{position_from, AllByRecursion}
use Rattle.std.proofs.lemmas.Bool.{and_parts, eqb-true, eq-eqb}
use Rattle.std.proofs.lemmas.List.{length-map, map_push, drop_more, length-take-le}
use Rattle.std.proofs.lemmas.List.Elements.{recursion_from_All}
use Rattle.std.proofs.lemmas.Option.{slice_get-get_or, slice_get_cases}
use Rattle.std.proofs.Math.Seq.{take-suc}
use Rattle.mb_base.specs.declared.value.StrId.{StrId}
use Rattle.mb_text.specs.Texts.{text_at, AreDistinct}
use Rattle.mb_text.proofs.WithText.{one_place}
use Rattle.mb_world.specs.Value.{same_units}
use Rattle.mb_world.specs.declared.rule.Rule.{Rule}
use Rattle.mb_world.specs.declared.rule.RuleKind.{RuleKind}
use Rattle.mb_world.specs.declared.rule.RuleKind.TheVariants as r
use Rattle.mb_policy.specs.Conflicts.{key_named, same_named, conflicts, first_pair, conflict_in, or_later}
use Rattle.mb_policy.specs.Rules.{kind_by, rule_by, IsText, IsKind, IsRule}
use Rattle.mb_policy.specs.machine.Chains.{key_of, named_by, name_alike, meet_by, clash, first_clash_with, first_clash_at}

-- ---- texts and ids

pub same_units_is : (x y : List ℕ) → same_units x y ≡ true → x ≡ y
same_units_is [] [] h = refl
same_units_is [] (b ∷ y) h = absurd (true≢false (sym h))
same_units_is (a ∷ x) [] h = absurd (true≢false (sym h))
same_units_is (a ∷ x) (b ∷ y) h =
    let parts = and_parts (nat_eq a b) (same_units x y) h in
    ap₂ (λ u us. u ∷ us) (eqb-true a b parts.0) (same_units_is x y parts.1)

pub same_units_self : (x : List ℕ) → same_units x x ≡ true
same_units_self [] = refl
same_units_self (a ∷ x) = ap₂ (λ p q. p && q) (eq-eqb a a refl) (same_units_self x)

module _ (texts : List (List ℕ)) (distinct : AreDistinct texts) where
  -- texts are the same where their ids are
  same-by-id : (a b : StrId) → IsText texts a → IsText texts b → same_units (text_at texts a) (text_at texts b) ≡ nat_eq a.0 b.0
  same-by-id a b in_a in_b = by (nat_eq a.0 b.0) refl (same_units (text_at texts a) (text_at texts b)) refl
    where
      ids : same_units (text_at texts a) (text_at texts b) ≡ true → a.0 ≡ b.0
      ids h =
          one_place texts a.0 b.0 (text_at texts b) distinct
          (slice_get-get_or texts a.0 [] in_a.0 ∙ ap Some (same_units_is (text_at texts a) (text_at texts b) h))
          (slice_get-get_or texts b.0 [] in_b.0)

      by : (s : Bool) → nat_eq a.0 b.0 ≡ s → (t : Bool) → same_units (text_at texts a) (text_at texts b) ≡ t → t ≡ s
      by true e true f = refl
      by false e false f = refl
      by true e false f =
          let at : text_at texts a ≡ text_at texts b = ap (λ n. get_or texts n []) (eqb-true a.0 b.0 e) in
          sym f ∙ ap (λ x. same_units x (text_at texts b)) at ∙ same_units_self (text_at texts b)
      by false e true f = sym (eq-eqb a.0 b.0 (ids f)) ∙ e

  key_is : (kind : RuleKind) → key_named (kind_by texts kind) ≡ option_map (text_at texts) (key_of kind)
  key_is (r.Hide key) = refl
  key_is r.ReadOnly = refl
  key_is (r.Substitute key value) = refl
  key_is r.Revoke = refl

  key_in : (kind : RuleKind) (key : StrId) → IsKind texts kind → key_of kind ≡ Some key → IsText texts key
  key_in (r.Hide k) key h e = let same : k ≡ key = cc in let P : StrId → Type 0 = λ x. IsText texts x in subst P same h
  key_in r.ReadOnly key h e = cc
  key_in (r.Substitute k value) key h e = let same : k ≡ key = cc in let P : StrId → Type 0 = λ x. IsText texts x in subst P same h.0
  key_in r.Revoke key h e = cc

  false_right : (b : Bool) → (b && false) ≡ false
  false_right true = refl
  false_right false = refl

  named : (a b : StrId) (x y : Option StrId) → IsText texts a → IsText texts b
      → ((key : StrId) → x ≡ Some key → IsText texts key) → ((key : StrId) → y ≡ Some key → IsText texts key)
      → (same_units (text_at texts a) (text_at texts b) && same_named (option_map (text_at texts) x) (option_map (text_at texts) y)) ≡ name_alike (named_by a x) (named_by b y)
  named a b None y in_a in_b in_x in_y = false_right (same_units (text_at texts a) (text_at texts b))
  named a b (Some k) None in_a in_b in_x in_y = false_right (same_units (text_at texts a) (text_at texts b))
  named a b (Some k) (Some l) in_a in_b in_x in_y = ap₂ (λ p q. p && q) (same-by-id a b in_a in_b) (same-by-id k l (in_x k refl) (in_y l refl))

  -- rules conflict by their texts where they do by ids
  pub conflicts-by-ids : (a b : Rule) → IsRule texts a → IsRule texts b → conflicts (rule_by texts a) (rule_by texts b) ≡ clash a b
  conflicts-by-ids a b in_a in_b =
      ap (λ t. t && meet_by a b)
      (ap₂ (λ p q. same_units (text_at texts a.label) (text_at texts b.label) && same_named p q) (key_is a.kind) (key_is b.kind)
      ∙ named a.label b.label (key_of a.kind) (key_of b.kind) in_a.0 in_b.0 (λ k. key_in a.kind k in_a.1) (λ k. key_in b.kind k in_b.1))

  first-by-ids : (n : ℕ) (before : List Rule) (x : Rule) → AllByRecursion (IsRule texts) before → IsRule texts x
      → position_from (λ b. conflicts b (rule_by texts x)) n (map (rule_by texts) before) ≡ position_from (λ b. clash b x) n before
  first-by-ids n [] x all in_x = refl
  first-by-ids n (b ∷ before) x all in_x =
      ap₂ (λ t rest. cond t (Some n) rest) (conflicts-by-ids b x all.0 in_x) (first-by-ids (n + 1) before x all.1 in_x)

  with-last : (before : List Rule) (x : Rule) → AllByRecursion (IsRule texts) before → IsRule texts x → AllByRecursion (IsRule texts) (before ++ x ∷ [])
  with-last [] x all in_x = (in_x, tt)
  with-last (b ∷ before) x all in_x = (all.0, with-last before x all.1 in_x)

  pairs-by-ids : (before rules : List Rule) → AllByRecursion (IsRule texts) before → AllByRecursion (IsRule texts) rules
      → first_pair conflicts (map (rule_by texts) before) (map (rule_by texts) rules) ≡ first_pair clash before rules
  pairs-by-ids before [] all_before all = refl
  pairs-by-ids before (x ∷ rules) all_before all =
      ap₂ (λ first later. or_later first (length (map (rule_by texts) before) + 1) later)
      (first-by-ids 1 before x all_before all.0)
      (ap (λ more. first_pair conflicts more (map (rule_by texts) rules)) (sym (map_push (rule_by texts) before x))
      ∙ pairs-by-ids (before ++ x ∷ []) rules (with-last before x all_before all.0) all.1)
      ∙ ap (λ n. or_later (position_from (λ b. clash b x) 1 before) (n + 1) (first_pair clash (before ++ x ∷ []) rules)) (length-map before (rule_by texts))

  -- the first pair of conflicting rules
  pub conflict-by-ids : (rules : List Rule) → All (IsRule texts) rules → conflict_in (map (rule_by texts) rules) ≡ first_pair clash [] rules
  conflict-by-ids rules all = pairs-by-ids [] rules tt (recursion_from_All (IsRule texts) rules all)

-- ---- one step of the search

pub pair-step : (rules : List Rule) (place : ℕ) (d : Rule) → place < length rules
    → first_pair clash (take place rules) (drop place rules) ≡ or_later (first_clash_at rules place) (place + 1) (first_pair clash (take (place + 1) rules) (drop (place + 1) rules))
pair-step rules place d below =
    let x = get_or rules place d in
    let next : suc place ≡ place + 1 = omega arith in
    let before : take place rules ++ x ∷ [] ≡ take (place + 1) rules = sym (take-suc rules place d below) ∙ ap (λ n. take n rules) next in
    ap (λ rest. first_pair clash (take place rules) rest) (drop_more rules place d below)
    ∙ ap₂ (λ n later. or_later (first_clash_with (take place rules) (Some x)) (n + 1) (first_pair clash later (drop (place + 1) rules))) (length-take-le place rules (omega arith)) before
    ∙ ap (λ o. or_later (first_clash_with (take place rules) o) (place + 1) (first_pair clash (take (place + 1) rules) (drop (place + 1) rules))) (sym (slice_get-get_or rules place d below))

pub pair-at : (rules : List Rule) (place : ℕ) → place < length rules
    → first_pair clash (take place rules) (drop place rules) ≡ or_later (first_clash_at rules place) (place + 1) (first_pair clash (take (place + 1) rules) (drop (place + 1) rules))
pair-at rules place below = by (slice_get_cases rules place).1
  where
    by : ((x : Rule) × (place < length rules) × (slice_get rules place ≡ Some x) × (get_or rules place x ≡ x)) ⊎ ((length rules ≤ place) × (slice_get rules place ≡ None))
        → first_pair clash (take place rules) (drop place rules) ≡ or_later (first_clash_at rules place) (place + 1) (first_pair clash (take (place + 1) rules) (drop (place + 1) rules))
    by (inl found) = pair-step rules place found.0 below
    by (inr past) = absurd (omega (arith, past.0))
