-- The first of some rules that is broken.
use Rattle.std.proofs.Common.{◌≡◌, ◌↔◌, ℕ, Bool, true, false, not, ◌&&◌, List, [], ◌∷◌, ◌++◌, if◌then◌else◌, refl, sym, ap, ◌∙◌, true≢false}
use Rattle.mb_check.specs.Laws.{are_kept, IsFirstBroken}
use Rattle.mb_check.specs.Rules.{first_broken}
use Rattle.mb_check.specs.declared.verdict.Verdict.TheVariants.{Pass, Broken}

first_broken-found : (rules : List (Bool × ℕ)) (number : ℕ) → first_broken rules ≡ Broken number → IsFirstBroken rules number
first_broken-found [] number h = cc
first_broken-found ((broken, other) ∷ rules) number h = by broken h (first_broken-found rules number)
  where
    by : (b : Bool) → (if b then Broken other else first_broken rules) ≡ Broken number → (first_broken rules ≡ Broken number → IsFirstBroken rules number) → IsFirstBroken ((b, other) ∷ rules) number
    by true e rest = let same : other ≡ number = cc in ([], rules, ap (λ n. (true, n) ∷ rules) same, refl)
    by false e rest = let found = rest e in ((false, other) ∷ found.0, found.1, ap (λ rs. (false, other) ∷ rs) found.2, found.3)

-- rules of which the first are kept
first_broken-append : (before after : List (Bool × ℕ)) → are_kept before ≡ true → first_broken (before ++ after) ≡ first_broken after
first_broken-append [] after kept = refl
first_broken-append ((broken, number) ∷ before) after kept = by broken kept (first_broken-append before after)
  where
    by : (b : Bool) → not b && are_kept before ≡ true → (are_kept before ≡ true → first_broken (before ++ after) ≡ first_broken after)
        → (if b then Broken number else first_broken (before ++ after)) ≡ first_broken after
    by true e rest = absurd (true≢false (sym e))
    by false e rest = rest e

pub broken_by_the_first : (rules : List (Bool × ℕ)) (number : ℕ) → (first_broken rules ≡ Broken number) ↔ IsFirstBroken rules number
broken_by_the_first rules number =
    (first_broken-found rules number, λ found. ap first_broken found.2 ∙ first_broken-append found.0 ((true, number) ∷ found.1) found.3)

kept_where_passed : (rules : List (Bool × ℕ)) → first_broken rules ≡ Pass → are_kept rules ≡ true
kept_where_passed [] h = refl
kept_where_passed ((broken, number) ∷ rules) h = by broken h (kept_where_passed rules)
  where
    by : (b : Bool) → (if b then Broken number else first_broken rules) ≡ Pass → (first_broken rules ≡ Pass → are_kept rules ≡ true) → not b && are_kept rules ≡ true
    by true e rest = cc
    by false e rest = rest e

passed_where_kept : (rules : List (Bool × ℕ)) → are_kept rules ≡ true → first_broken rules ≡ Pass
passed_where_kept [] h = refl
passed_where_kept ((broken, number) ∷ rules) h = by broken h (passed_where_kept rules)
  where
    by : (b : Bool) → not b && are_kept rules ≡ true → (are_kept rules ≡ true → first_broken rules ≡ Pass) → (if b then Broken number else first_broken rules) ≡ Pass
    by true e rest = absurd (true≢false (sym e))
    by false e rest = rest e

pub passed_by_all : (rules : List (Bool × ℕ)) → (first_broken rules ≡ Pass) ↔ (are_kept rules ≡ true)
passed_by_all rules = (kept_where_passed rules, passed_where_kept rules)
