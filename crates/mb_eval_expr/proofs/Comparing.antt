-- Values that are compared: two whole numbers, or two texts by their units.
use Rattle.std.proofs.Common.{◌&&◌, ◌||◌, Bool, List, None, Ok, Option, Some, [], ap, arith, cond, false, nat_eq}
use Rattle.std.proofs.Common.{nat_le, nat_lt, negsuc, not, pos, refl, sym, true, true≢false, ℕ, ℤ, ◌∙◌, ◌∷◌, ◌≡◌}
use Rattle.std.proofs.lemmas.Bool.Decides.{nat_tests}
use Rattle.std.specs.Cmp.Lexicographic.{slice_cmp}
use Rattle.std.specs.Ordering.{int_cmp, is_ge, is_gt, is_le, is_lt, nat_cmp, ordering_then}
use Rattle.std.specs.declared.cmp.Ordering.{Ordering}
use Rattle.std.specs.declared.cmp.Ordering.TheVariants as o
use Rattle.std.specs.Prelude.{int_le, int_lt}
use Rattle.mb_base.specs.declared.value.Value.TheVariants as v
use Rattle.mb_frames.proofs.Passed.{Passes-by}
use Rattle.mb_eval_expr.specs.declared.computing.Computed.{Computed}
use Rattle.mb_eval_expr.specs.declared.computing.Computed.TheVariants as c
use Rattle.mb_eval_expr.specs.machine.Computing.{Computes, goes_with, holds, is_ordering, ordered_by}
use Rattle.mb_model.specs.Nodes.BinaryOperators.{compared, operate, units_below}
use Rattle.mb_model.specs.Writing.{truth, type_error}
use Rattle.mb_tree.specs.declared.kind.Sign.{Sign}
use Rattle.mb_tree.specs.declared.kind.Sign.TheVariants.{Greater, GreaterEqual, Less, LessEqual}
use Rattle.mb_world.specs.declared.cell.ErrorKind.TheVariants.{TypeError}
use Rattle.mb_world.specs.Data.{Data}
use Rattle.mb_world.specs.Image.{Image}
use Rattle.mb_world.specs.Value.{Text, Val, Whole}

-- ---- orders and tests

le-not : (r : Ordering) → is_le r ≡ not (is_gt r)
le-not o.Less = refl
le-not o.Equal = refl
le-not o.Greater = refl

ge-not : (r : Ordering) → is_ge r ≡ not (is_lt r)
ge-not o.Less = refl
ge-not o.Equal = refl
ge-not o.Greater = refl

lt-cond : (p q : Bool) → is_lt (cond p o.Less (cond q o.Greater o.Equal)) ≡ p
lt-cond true q = refl
lt-cond false true = refl
lt-cond false false = refl

gt-cond : (p q : Bool) → (p ≡ true → q ≡ true → false ≡ true) → is_gt (cond p o.Less (cond q o.Greater o.Equal)) ≡ q
gt-cond true true h = absurd (true≢false (sym (h refl refl)))
gt-cond true false h = refl
gt-cond false true h = refl
gt-cond false false h = refl

not-both : (a b : ℕ) → nat_lt a b ≡ true → nat_lt b a ≡ true → false ≡ true
not-both a b h k = grind (arith, nat_tests)

int-apart : (a b : ℤ) → int_lt a b ≡ true → int_lt b a ≡ true → false ≡ true
int-apart (pos a) (pos b) h k = not-both a b h k
int-apart (pos a) (negsuc b) h k = h
int-apart (negsuc a) (pos b) h k = k
int-apart (negsuc a) (negsuc b) h k = not-both b a h k

nat-not : (a b : ℕ) → not (nat_lt b a) ≡ nat_le a b
nat-not a b = by (nat_lt b a) refl
  where
    by : (p : Bool) → nat_lt b a ≡ p → not (nat_lt b a) ≡ nat_le a b
    by true e = let t : nat_le a b ≡ false = grind (arith, nat_tests) in ap not e ∙ sym t
    by false e = let t : nat_le a b ≡ true = grind (arith, nat_tests) in ap not e ∙ sym t

int-not : (a b : ℤ) → not (int_lt b a) ≡ int_le a b
int-not (pos a) (pos b) = nat-not a b
int-not (pos a) (negsuc b) = refl
int-not (negsuc a) (pos b) = refl
int-not (negsuc a) (negsuc b) = nat-not b a

int-lt : (a b : ℤ) → is_lt (int_cmp a b) ≡ int_lt a b
int-lt a b = lt-cond (int_lt a b) (int_lt b a)

int-gt : (a b : ℤ) → is_gt (int_cmp a b) ≡ int_lt b a
int-gt a b = gt-cond (int_lt a b) (int_lt b a) (int-apart a b)

-- ---- texts

units-lt : (x y : List ℕ) → is_lt (slice_cmp nat_cmp x y) ≡ units_below x y
units-lt [] [] = refl
units-lt [] (b ∷ y) = refl
units-lt (a ∷ x) [] = refl
units-lt (a ∷ x) (b ∷ y) =
    by (nat_lt a b) (nat_eq a b) (slice_cmp nat_cmp x y) ∙ ap (λ r. nat_lt a b || (nat_eq a b && r)) (units-lt x y)
  where
    by : (p q : Bool) (r : Ordering)
        → is_lt (ordering_then (cond p o.Less (cond q o.Equal o.Greater)) r) ≡ (p || (q && is_lt r))
    by true q r = refl
    by false true r = refl
    by false false r = refl

units-gt : (x y : List ℕ) → is_gt (slice_cmp nat_cmp x y) ≡ units_below y x
units-gt [] [] = refl
units-gt [] (b ∷ y) = refl
units-gt (a ∷ x) [] = refl
units-gt (a ∷ x) (b ∷ y) =
    by (nat_lt a b) refl (nat_eq a b) refl (slice_cmp nat_cmp x y) ∙ ap (λ r. nat_lt b a || (nat_eq b a && r))
    (units-gt x y)
  where
    by : (p : Bool) → nat_lt a b ≡ p → (q : Bool) → nat_eq a b ≡ q → (r : Ordering)
        → is_gt (ordering_then (cond (nat_lt a b) o.Less (cond (nat_eq a b) o.Equal o.Greater)) r)
        ≡ (nat_lt b a || (nat_eq b a && is_gt r))
    by true e q i r =
        let t : nat_lt b a ≡ false = grind (arith, nat_tests) in
        let u : nat_eq b a ≡ false = grind (arith, nat_tests) in
        rw (e, t, u) refl
    by false e true i r =
        let t : nat_lt b a ≡ false = grind (arith, nat_tests) in
        let u : nat_eq b a ≡ true = grind (arith, nat_tests) in
        rw (e, i, t, u) refl
    by false e false i r =
        let t : nat_lt b a ≡ true = grind (arith, nat_tests) in
        rw (e, i, t) refl

-- ---- what a comparison gives

-- whether an order is the wanted one, if there is an order
abbrev pub truth_by : (Ordering → Bool) → Option Ordering → Computed
truth_by h None = c.Faulty TypeError
truth_by h (Some r) = c.Value (v.Bool (h r))

module _ (h : Ordering → Bool) (F : ℤ → ℤ → Bool) (G : List ℕ → List ℕ → Bool)
    (wholes : (a b : ℤ) → h (int_cmp a b) ≡ F a b) (texts : (x y : List ℕ) → h (slice_cmp nat_cmp x y) ≡ G x y)
    (s : ℕ) (d : Data) (f : ℕ) where
  truly : (p q : Bool) → p ≡ q → Computes (Ok (c.Value (v.Bool p))) s d d f f (truth q)
  truly p q e = (
    λ k. Passes-by d f (truth q k) (goes_with s d (c.Value (v.Bool p)) k)
        (λ log. ap (λ b. truth b k (Image d log)) (sym e)),
    tt,
  )

  wrongly : Computes (Ok (c.Faulty TypeError)) s d d f f (type_error s)
  wrongly = (λ k. Passes-by d f (type_error s k) (goes_with s d (c.Faulty TypeError) k) (λ log. refl), tt)

  compares : (a b : Val) → Computes (Ok (truth_by h (ordered_by a b))) s d d f f (compared s F G a b)
  compares (Whole a) (Whole b) = truly (h (int_cmp a b)) (F a b) (wholes a b)
  compares (Text x) (Text y) = truly (h (slice_cmp nat_cmp x y)) (G x y) (texts x y)
  compares _ _ = wrongly

pub Computes-ordering : (s : ℕ) (d : Data) (f : ℕ) (sign : Sign) (a b : Val) → is_ordering sign ≡ true
    → Computes (Ok (truth_by (holds sign) (ordered_by a b))) s d d f f (operate s sign a b)
Computes-ordering s d f Less a b h = compares is_lt int_lt units_below int-lt units-lt s d f a b
Computes-ordering s d f Greater a b h =
    compares is_gt (λ x y. int_lt y x) (λ x y. units_below y x) int-gt units-gt s d f a b
Computes-ordering s d f LessEqual a b h =
    compares is_le int_le (λ x y. not (units_below y x))
    (λ x y. le-not (int_cmp x y) ∙ ap not (int-gt x y) ∙ int-not x y)
    (λ x y. le-not (slice_cmp nat_cmp x y) ∙ ap not (units-gt x y)) s d f a b
Computes-ordering s d f GreaterEqual a b h =
    compares is_ge (λ x y. int_le y x) (λ x y. not (units_below x y))
    (λ x y. ge-not (int_cmp x y) ∙ ap not (int-lt x y) ∙ int-not y x)
    (λ x y. ge-not (slice_cmp nat_cmp x y) ∙ ap not (units-lt x y)) s d f a b
Computes-ordering s d f _ a b h = absurd (true≢false (sym h))
