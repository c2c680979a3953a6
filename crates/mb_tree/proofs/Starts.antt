-- The index from a node to its names.
use Rattle.std.proofs.Common.{◌≡◌, ℕ, suc, ◌+◌, ◌-◌, ◌<◌, ◌≤◌, Bool, true, false, cond, nat_eq, nat_lt, List, [], ◌∷◌, ◌++◌, length, take, get_or, slice_index, replicate, arith, refl, sym, ap, ◌∙◌, length-append, zero-add, Some}
use Rattle.std.specs.Prelude.{All, slice_get}
use Rattle.std.specs.List.{filter, slice_range}
use Rattle.std.specs.List.Sorted.{IsNonDecreasingBy}
use Rattle.std.proofs.lemmas.Bool.Decides.{nat_tests}
use Rattle.std.proofs.lemmas.List.{take_more, take_all, length-take-le, length-replicate, get_or-replicate, get_or_append_left, get_or-append_right}
use Rattle.std.proofs.lemmas.List.Elements.{All-head, All-tail, All-push}
use Rattle.std.proofs.lemmas.List.Sorted.{IsNonDecreasingBy-drop}
use Rattle.std.proofs.lemmas.List.Sums.{sum_by-append, sum_by-le-sum_by, count_by-le-length}
use Rattle.std.proofs.lemmas.Option.{get_or_from_slice_get}
use Rattle.mb_tree.specs.Names.{Binds, node_of}
use Rattle.mb_tree.specs.machine.Starts.{before, AreStarts}

-- ---- how many names stand before a node

before-cons : (n : ℕ) (b : Binds) (bs : List Binds) → before n (b ∷ bs) ≡ cond (nat_lt (node_of b) n) 1 0 + before n bs
before-cons n b bs = sum_by-append (λ x. cond (nat_lt (node_of x) n) 1 0) (b ∷ []) bs ∙ ap (λ k. k + before n bs) (zero-add (cond (nat_lt (node_of b) n) 1 0))

before-push : (n : ℕ) (bs : List Binds) (b : Binds) → n ≤ node_of b → before n (bs ++ b ∷ []) ≡ before n bs
before-push n bs b h =
    let no : nat_lt (node_of b) n ≡ false = grind (arith, nat_tests) in
    let s : before n (bs ++ b ∷ []) ≡ before n bs + before n (b ∷ []) = sum_by-append (λ x. cond (nat_lt (node_of x) n) 1 0) bs (b ∷ []) in
    let o : before n (b ∷ []) ≡ 0 = rw (before-cons n b [], no) refl in
    omega arith

pub before-all : (n : ℕ) (bs : List Binds) → All (λ b. node_of b < n) bs → before n bs ≡ length bs
before-all n [] h = refl
before-all n (b ∷ bs) h =
    let l : node_of b < n = All-head (λ b. node_of b < n) b bs h in
    let yes : nat_lt (node_of b) n ≡ true = grind (arith, nat_tests) in
    let i : before n bs ≡ length bs = before-all n bs (All-tail (λ b. node_of b < n) b bs h) in
    rw (before-cons n b bs, yes, i) (omega arith)

before-none : (n : ℕ) (bs : List Binds) → All (λ b. n ≤ node_of b) bs → before n bs ≡ 0
before-none n [] h = refl
before-none n (b ∷ bs) h =
    let l : n ≤ node_of b = All-head (λ b. n ≤ node_of b) b bs h in
    let no : nat_lt (node_of b) n ≡ false = grind (arith, nat_tests) in
    let i : before n bs ≡ 0 = before-none n bs (All-tail (λ b. n ≤ node_of b) b bs h) in
    rw (before-cons n b bs, no, i) refl

one-more : (n m : ℕ) → cond (nat_lt m n) 1 0 ≤ cond (nat_lt m (n + 1)) 1 0
one-more n m = by (nat_lt m n) refl
  where
    by : (b : Bool) → nat_lt m n ≡ b → cond b 1 0 ≤ cond (nat_lt m (n + 1)) 1 0
    by true e = let yes : nat_lt m (n + 1) ≡ true = grind (arith, nat_tests) in rw yes (omega arith)
    by false e = omega arith

pub before-up : (n : ℕ) (bs : List Binds) → before n bs ≤ before (n + 1) bs
before-up n bs = sum_by-le-sum_by (λ x. cond (nat_lt (node_of x) n) 1 0) (λ x. cond (nat_lt (node_of x) (n + 1)) 1 0) bs (λ x. one-more n (node_of x))

pub before-fits : (n : ℕ) (bs : List Binds) → before n bs ≤ length bs
before-fits n bs = count_by-le-length (λ b. nat_lt (node_of b) n) bs

-- ---- the names of a node are a stretch

range-rest : (b : Binds) (bs : List Binds) (i j : ℕ) → slice_range (b ∷ bs) (1 + i) (1 + j) ≡ slice_range bs i j
range-rest b bs i j =
    let f : (1 + j) - (1 + i) ≡ j - i = omega arith in
    let e : 1 + i ≡ suc i = omega arith in
    rw (f, e) refl

range-first : (b : Binds) (bs : List Binds) (j : ℕ) → slice_range (b ∷ bs) 0 (1 + j) ≡ b ∷ slice_range bs 0 j
range-first b bs j =
    let f : (1 + j) - 0 ≡ suc j = omega arith in
    let e : j - 0 ≡ j = omega arith in
    rw (f, e) refl

rest-above : (b : Binds) (bs : List Binds) → IsNonDecreasingBy node_of (b ∷ bs) → All (λ x. node_of b ≤ node_of x) bs
rest-above b bs h k d l =
    let g : suc k ≤ k + 1 = omega arith in
    let z : 0 ≤ suc k = omega arith in
    let m : suc k < length (b ∷ bs) = omega arith in
    h 0 (suc k) d z m

none-of-node : (n : ℕ) (bs : List Binds) → All (λ b. n + 1 ≤ node_of b) bs → filter (λ b. nat_eq (node_of b) n) bs ≡ []
none-of-node n [] h = refl
none-of-node n (b ∷ bs) h =
    let l : n + 1 ≤ node_of b = All-head (λ b. n + 1 ≤ node_of b) b bs h in
    let no : nat_eq (node_of b) n ≡ false = grind (arith, nat_tests) in
    rw no (none-of-node n bs (All-tail (λ b. n + 1 ≤ node_of b) b bs h))

pub stretch : (n : ℕ) (bs : List Binds) → IsNonDecreasingBy node_of bs → filter (λ b. nat_eq (node_of b) n) bs ≡ slice_range bs (before n bs) (before (n + 1) bs)
stretch n [] h = refl
stretch n (b ∷ bs) h = by (stretch n bs (IsNonDecreasingBy-drop node_of 1 (b ∷ bs) h)) (nat_lt (node_of b) n) refl (nat_eq (node_of b) n) refl
  where
    above : All (λ x. node_of b ≤ node_of x) bs
    above = rest-above b bs h

    by : filter (λ b. nat_eq (node_of b) n) bs ≡ slice_range bs (before n bs) (before (n + 1) bs) → (p : Bool) → nat_lt (node_of b) n ≡ p → (q : Bool) → nat_eq (node_of b) n ≡ q → filter (λ b. nat_eq (node_of b) n) (b ∷ bs) ≡ slice_range (b ∷ bs) (before n (b ∷ bs)) (before (n + 1) (b ∷ bs))
    by rest true e q f =
        let no : nat_eq (node_of b) n ≡ false = grind (arith, nat_tests) in
        let yes : nat_lt (node_of b) (n + 1) ≡ true = grind (arith, nat_tests) in
        rw (before-cons n b bs, before-cons (n + 1) b bs, e, yes, no, range-rest b bs (before n bs) (before (n + 1) bs)) rest
    by rest false e true f =
        let yes : nat_lt (node_of b) (n + 1) ≡ true = grind (arith, nat_tests) in
        let all : All (λ x. n ≤ node_of x) bs = λ k d l. let a : node_of b ≤ node_of (get_or bs k d) = above k d l in let s : node_of b ≡ n = grind (arith, nat_tests) in omega arith in
        let z : before n bs ≡ 0 = before-none n bs all in
        let s : filter (λ b. nat_eq (node_of b) n) bs ≡ slice_range bs 0 (before (n + 1) bs) = rest ∙ ap (λ i. slice_range bs i (before (n + 1) bs)) z in
        rw (before-cons n b bs, before-cons (n + 1) b bs, e, yes, f, z, range-first b bs (before (n + 1) bs)) (ap (λ xs. b ∷ xs) s)
    by rest false e false f =
        let no : nat_lt (node_of b) (n + 1) ≡ false = grind (arith, nat_tests) in
        let g : n + 1 ≤ node_of b = grind (arith, nat_tests) in
        let all : All (λ x. n + 1 ≤ node_of x) bs = λ k d l. let a : node_of b ≤ node_of (get_or bs k d) = above k d l in omega arith in
        let low : All (λ x. n ≤ node_of x) bs = λ k d l. let a : node_of b ≤ node_of (get_or bs k d) = above k d l in omega arith in
        let z : before n bs ≡ 0 = before-none n bs low in
        let y : before (n + 1) bs ≡ 0 = before-none (n + 1) bs all in
        rw (before-cons n b bs, before-cons (n + 1) b bs, e, no, f, z, y) (none-of-node n bs all)

-- ---- the index is made

-- the starts of the first names, of which the last is for none of the nodes that are to come
pub record Begun (names : List Binds) (place : ℕ) (starts : List ℕ) : Type 0 where
  pub are : AreStarts (take place names) starts
  pub low : (k : ℕ) (d : Binds) → place ≤ k → k < length names → length starts ≤ node_of (get_or names k d) + 1

pub begun-none : (names : List Binds) → Begun names 0 []
begun-none names = record {
  are = record { begin = λ n l. absurd (omega arith); reach = λ k d l. absurd (omega arith) };
  low = λ k d l m. omega arith;
}

pub begun-more : (names : List Binds) (place : ℕ) (b : Binds) (old new : List ℕ) → IsNonDecreasingBy node_of names → place < length names → slice_get names place ≡ Some b → new ≡ old ++ replicate (node_of b + 1 - length old) place → Begun names place old → Begun names (place + 1) new
begun-more names place b old new up l is e h = record {
  are = record { begin = begin; reach = reach };
  low = low;
}
  where
    any : (d : Binds) → get_or names place d ≡ b
    any d = get_or_from_slice_get names place b d is

    most : length old ≤ node_of b + 1
    most = let m : length old ≤ node_of (get_or names place b) + 1 = h.low place b (omega arith) l in
        let s : node_of (get_or names place b) ≡ node_of b = ap node_of (any b) in omega arith

    size : length new ≡ node_of b + 1
    size =
        let s : length (old ++ replicate (node_of b + 1 - length old) place) ≡ length old + length (replicate (node_of b + 1 - length old) place) = length-append old (replicate (node_of b + 1 - length old) place) in
        let r : length (replicate (node_of b + 1 - length old) place) ≡ node_of b + 1 - length old = length-replicate (node_of b + 1 - length old) place in
        let n : length new ≡ length (old ++ replicate (node_of b + 1 - length old) place) = ap length e in
        let m = most in
        omega arith

    next : take (place + 1) names ≡ take place names ++ b ∷ []
    next = take_more names place b l ∙ ap (λ x. take place names ++ x ∷ []) (any b)

    full : length (take place names) ≡ place
    full = length-take-le place names (omega arith)

    filled : List ℕ
    filled = replicate (node_of b + 1 - length old) place

    pushed : (n : ℕ) → n < length new → before n (take (place + 1) names) ≡ before n (take place names)
    pushed n k = let s : length new ≡ node_of b + 1 = size in
        ap (before n) next ∙ before-push n (take place names) b (omega arith)

    by : (n : ℕ) → n < length new → (c : Bool) → nat_lt n (length old) ≡ c → get_or (old ++ filled) n 0 ≡ before n (take place names)
    by n k true t =
        let u : n < length old = grind (arith, nat_tests) in
        get_or_append_left old filled 0 n u ∙ h.are.begin n u
    by n k false t =
        let u : length old ≤ n = grind (arith, nat_tests) in
        let s : length new ≡ node_of b + 1 = size in
        let v : n - length old < node_of b + 1 - length old = omega arith in
        let all : All (λ x. node_of x < n) (take place names) = λ j d m. let r : node_of (get_or (take place names) j d) < length old = h.are.reach j d m in omega arith in
        get_or-append_right old filled (length old) n 0 refl u
        ∙ get_or-replicate (node_of b + 1 - length old) (n - length old) place 0 v
        ∙ sym (before-all n (take place names) all ∙ full)

    begin : (n : ℕ) → n < length new → slice_index new n ≡ before n (take (place + 1) names)
    begin n k = ap (λ xs. get_or xs n 0) e ∙ by n k (nat_lt n (length old)) refl ∙ sym (pushed n k)

    reach : All (λ x. node_of x < length new) (take (place + 1) names)
    reach = let s : length new ≡ node_of b + 1 = size in
        let m : length old ≤ node_of b + 1 = most in
        rw next (All-push (λ x. node_of x < length new) (take place names) b
        (λ j d k. let r : node_of (get_or (take place names) j d) < length old = h.are.reach j d k in omega arith)
        (omega arith))

    low : (k : ℕ) (d : Binds) → place + 1 ≤ k → k < length names → length new ≤ node_of (get_or names k d) + 1
    low k d p q =
        let s : length new ≡ node_of b + 1 = size in
        let u : node_of (get_or names place d) ≤ node_of (get_or names k d) = up place k d (omega arith) q in
        let v : node_of (get_or names place d) ≡ node_of b = ap node_of (any d) in
        omega arith

pub begun-all : (names : List Binds) (place : ℕ) (starts : List ℕ) → length names ≤ place → Begun names place starts → AreStarts names starts
begun-all names place starts l h = rw (sym (take_all place names l)) h.are
