-- The rules for a label are a stretch of those that ascend by label.
use Rattle.std.proofs.Common.{◌≡◌, ℕ, zero, suc, ◌-◌, ◌≤◌, Bool, true, false, not, ◌&&◌, nat_eq, ltb, leb, List, [], ◌∷◌, length, arith, rules, refl, sym, ap, ◌∙◌, None}
use Rattle.std.specs.List.{filter, slice_range}
use Rattle.std.specs.List.Sorted.{IsNonDecreasingBy, IsPartitionPoint, IsStableByKey, ties}
use Rattle.std.specs.Ordering.{is_lt, nat_cmp}
use Rattle.std.proofs.lemmas.Bool.Decides.{nat_tests}
use Rattle.std.proofs.lemmas.List.Elements.{filter_agree}
use Rattle.mb_base.specs.declared.value.StrId.{StrId}
use Rattle.mb_world.specs.declared.rule.Rule.{Rule}
use Rattle.mb_world.specs.declared.rule.RuleKind.TheVariants.{ReadOnly}
use Rattle.mb_world.specs.Data.{label_of, labelled}
use Rattle.mb_world.specs.machine.Grouped.{AreGrouped}

-- the tests below a label, and up to it
abbrev pub below : ℕ → Rule → Bool
below n r = ltb (label_of r) n

abbrev pub up_to : ℕ → Rule → Bool
up_to n r = leb (label_of r) n

abbrev pub IsPointOf : (Rule → Bool) → List Rule → ℕ → Type 0
IsPointOf p rs i = IsPartitionPoint (λ r. p r ≡ true) (λ r. p r ≡ false) rs i

point-rest : (p : Rule → Bool) (r : Rule) (rs : List Rule) (i : ℕ) → IsPointOf p (r ∷ rs) (suc i) → IsPointOf p rs i
point-rest p r rs i h = (λ k d l m. h.0 (suc k) d (omega arith) (omega arith), λ k d l m. h.1 (suc k) d (omega arith) (omega arith))

point-none : (p : Rule → Bool) (r : Rule) (rs : List Rule) → IsPointOf p (r ∷ rs) 0 → IsPointOf p rs 0
point-none p r rs h = (λ k d l m. absurd (omega arith), λ k d l m. h.1 (suc k) d (omega arith) (omega arith))

stretch-none : (i j : ℕ) → slice_range (let e : List Rule = [] in e) i j ≡ []
stretch-none i j = search rules

range-rest : (r : Rule) (rs : List Rule) (i j : ℕ) → slice_range (r ∷ rs) (suc i) (suc j) ≡ slice_range rs i j
range-rest r rs i j =
    let f : suc j - suc i ≡ j - i = omega arith in
    rw f refl

range-first : (r : Rule) (rs : List Rule) (j : ℕ) → slice_range (r ∷ rs) 0 (suc j) ≡ r ∷ slice_range rs 0 j
range-first r rs j =
    let f : suc j - 0 ≡ suc j = omega arith in
    let e : j - 0 ≡ j = omega arith in
    rw (f, e) refl

pub stretch : (n : ℕ) (rs : List Rule) (i j : ℕ) → IsPointOf (below n) rs i → IsPointOf (up_to n) rs j →
    filter (λ r. nat_eq (label_of r) n) rs ≡ slice_range rs i j
stretch n [] i j p q = sym (stretch-none i j)
stretch n (r ∷ rs) zero zero p q =
    let a : leb (label_of r) n ≡ false = q.1 0 r (omega arith) (omega arith) in
    let no : nat_eq (label_of r) n ≡ false = grind (arith, nat_tests) in
    rw no (stretch n rs zero zero (point-none (below n) r rs p) (point-none (up_to n) r rs q))
stretch n (r ∷ rs) zero (suc j) p q =
    let a : ltb (label_of r) n ≡ false = p.1 0 r (omega arith) (omega arith) in
    let b : leb (label_of r) n ≡ true = q.0 0 r (omega arith) (omega arith) in
    let yes : nat_eq (label_of r) n ≡ true = grind (arith, nat_tests) in
    rw (yes, range-first r rs j)
    (ap (λ xs. r ∷ xs) (stretch n rs zero j (point-none (below n) r rs p) (point-rest (up_to n) r rs j q)))
stretch n (r ∷ rs) (suc i) zero p q =
    let a : ltb (label_of r) n ≡ true = p.0 0 r (omega arith) (omega arith) in
    let b : leb (label_of r) n ≡ false = q.1 0 r (omega arith) (omega arith) in
    absurd (grind (arith, nat_tests))
stretch n (r ∷ rs) (suc i) (suc j) p q =
    let a : ltb (label_of r) n ≡ true = p.0 0 r (omega arith) (omega arith) in
    let no : nat_eq (label_of r) n ≡ false = grind (arith, nat_tests) in
    rw (no, range-rest r rs i j) (stretch n rs i j (point-rest (below n) r rs i p) (point-rest (up_to n) r rs j q))

-- the first place up to which labels are below is not past the one up to which they are not above
pub in-order : (n : ℕ) (rs : List Rule) (i j : ℕ) → i ≤ length rs → IsPointOf (below n) rs i → IsPointOf (up_to n) rs j →
    i ≤ j
in-order n [] i j l p q = let m : i ≤ 0 = l in omega arith
in-order n (r ∷ rs) zero j l p q = omega arith
in-order n (r ∷ rs) (suc i) zero l p q =
    let a : ltb (label_of r) n ≡ true = p.0 0 r (omega arith) (omega arith) in
    let b : leb (label_of r) n ≡ false = q.1 0 r (omega arith) (omega arith) in
    absurd (grind (arith, nat_tests))
in-order n (r ∷ rs) (suc i) (suc j) l p q =
    let k : i ≤ j = in-order n rs i j (omega arith) (point-rest (below n) r rs i p) (point-rest (up_to n) r rs j q) in
    omega arith

-- ---- a stable sort keeps the rules for a label in their order

abbrev some-rule : StrId → Rule
some-rule label = record { label = label; kind = ReadOnly; owner = None; viewer = None }

less-is : (a b : ℕ) → is_lt (nat_cmp a b) ≡ ltb a b
less-is a b = by (ltb a b) refl (nat_eq a b) refl
  where
    by : (p : Bool) → ltb a b ≡ p → (q : Bool) → nat_eq a b ≡ q → is_lt (nat_cmp a b) ≡ ltb a b
    by true e q f = rw e refl
    by false e true f = rw (e, f) refl
    by false e false f = rw (e, f) refl

tied : (a b : ℕ) → not (ltb a b) && not (ltb b a) ≡ nat_eq b a
tied a b = by (ltb a b) refl (ltb b a) refl (nat_eq b a) refl
  where
    by : (p : Bool) → ltb a b ≡ p → (q : Bool) → ltb b a ≡ q → (e : Bool) → nat_eq b a ≡ e → not (ltb a b) && not (ltb b a) ≡ nat_eq b a
    by p h q k true e = let f : ltb a b ≡ false = grind (arith, nat_tests) in let g : ltb b a ≡ false = grind (arith, nat_tests) in rw (f, g, e) refl
    by true h q k false e = rw (h, e) refl
    by false h true k false e = rw (h, k, e) refl
    by false h false k false e = absurd (grind (arith, nat_tests))

pub grouped-by-sort : (rows grouped : List Rule) → IsNonDecreasingBy label_of grouped → IsStableByKey label_of nat_cmp rows grouped → AreGrouped rows grouped
grouped-by-sort rows grouped up stable = record { ascend = up; same = same }
  where
    same : (label : StrId) → labelled label grouped ≡ labelled label rows
    same label =
        let agree : (r : Rule) → ties (λ a b. is_lt (nat_cmp (label_of a) (label_of b))) (some-rule label) r ≡ nat_eq (label_of r) label.0 =
        λ r. rw (less-is label.0 (label_of r), less-is (label_of r) label.0) (tied label.0 (label_of r)) in
        sym (filter_agree (ties (λ a b. is_lt (nat_cmp (label_of a) (label_of b))) (some-rule label)) (λ r. nat_eq (label_of r) label.0) agree grouped)
        ∙ stable (some-rule label)
        ∙ filter_agree (ties (λ a b. is_lt (nat_cmp (label_of a) (label_of b))) (some-rule label)) (λ r. nat_eq (label_of r) label.0) agree rows
