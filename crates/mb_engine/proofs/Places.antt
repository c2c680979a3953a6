-- Whose the built-ins are, by their places in the table.
use Rattle.std.proofs.Common.{Bool, None, Option, ap, arith, false, nat_eq, nat_le, nat_lt, not, refl, suc, sym, true}
use Rattle.std.proofs.Common.{true≢false, zero, ℕ, ◌&&◌, ◌<◌, ◌||◌, ◌∙◌, ◌≡◌, ◌≤◌}
use Rattle.std.proofs.lemmas.Bool.Decides.{nat_tests}
use Rattle.std.proofs.lemmas.Option.{slice_get_past}
use Rattle.mb_engine.specs.machine.Owning.{array_place, basic_place, is_within, proxy_place, reflect_place}
use Rattle.mb_intrinsics.specs.Ours.{is_basic}
use Rattle.mb_arrayapi.specs.Ours.{is_of_arrays}
use Rattle.mb_scriptproxy.specs.Ours.{makes_proxies}
use Rattle.mb_reflect.specs.Ours.{is_reflecting}
use Rattle.mb_world.specs.Intrinsics.{intrinsic, intrinsics}

all-below : ℕ → (ℕ → Bool) → Bool
all-below zero test = true
all-below (suc n) test = test n && all-below n test

same-bool : Bool → Bool → Bool
same-bool true b = b
same-bool false b = not b

both-true : (a b : Bool) → a && b ≡ true → (a ≡ true) × (b ≡ true)
both-true true b h = (refl, h)
both-true false b h = absurd (true≢false (sym h))

holds-below : (n : ℕ) (test : ℕ → Bool) → all-below n test ≡ true → (i : ℕ) → i < n → test i ≡ true
unfolding all-below
holds-below zero test h i l = absurd (omega (arith, l))
holds-below (suc n) test h i l =
    by (nat_eq i n) refl (holds-below n test ((both-true (test n) (all-below n test) h).1) i)
  where
    by : (b : Bool) → nat_eq i n ≡ b → (i < n → test i ≡ true) → test i ≡ true
    by true e below = let k : i ≡ n = grind (arith, nat_tests, e) in rw k ((both-true (test n) (all-below n test) h).0)
    by false e below = below (grind (arith, nat_tests, e, l))

bools-same : (a b : Bool) → same-bool a b ≡ true → a ≡ b
unfolding same-bool
bools-same true true h = refl
bools-same true false h = absurd (true≢false (sym h))
bools-same false true h = absurd (true≢false (sym h))
bools-same false false h = refl

basic-test : ℕ → Bool
basic-test n = same-bool (basic_place n) (is_basic (intrinsic n))

basics-below : all-below 80 basic-test ≡ true
unfolding all-below basic-test same-bool
basics-below = refl

basic-past : (n : ℕ) → 80 ≤ n → basic_place n ≡ is_basic (intrinsic n)
basic-past n h =
    let e : intrinsic n ≡ None = slice_get_past intrinsics n h in
    let z : nat_eq n 0 ≡ false = grind (arith, nat_tests, h) in
    let o : nat_eq n 1 ≡ false = grind (arith, nat_tests, h) in
    let t : nat_eq n 2 ≡ false = grind (arith, nat_tests, h) in
    let s : nat_eq n 7 ≡ false = grind (arith, nat_tests, h) in
    let f : nat_eq n 55 ≡ false = grind (arith, nat_tests, h) in
    rw (e, z, o, t, s, f) refl

pub basic-is : (n : ℕ) → basic_place n ≡ is_basic (intrinsic n)
unfolding basic-test
basic-is n = by (nat_lt n 80) refl
  where
    by : (b : Bool) → nat_lt n 80 ≡ b → basic_place n ≡ is_basic (intrinsic n)
    by true e =
        bools-same (basic_place n) (is_basic (intrinsic n))
        (holds-below 80 basic-test basics-below n (grind (arith, nat_tests, e)))
    by false e = basic-past n (grind (arith, nat_tests, e))

-- ---- those of Object, Reflect, errors and Function.prototype

reflect-test : ℕ → Bool
reflect-test n = same-bool (reflect_place n) (is_reflecting (intrinsic n))

reflects-below : all-below 80 reflect-test ≡ true
unfolding all-below reflect-test same-bool
reflects-below = refl

reflect-past : (n : ℕ) → 80 ≤ n → reflect_place n ≡ is_reflecting (intrinsic n)
reflect-past n h =
    let e : intrinsic n ≡ None = slice_get_past intrinsics n h in
    let a : nat_eq n 3 ≡ false = grind (arith, nat_tests, h) in
    let b : nat_eq n 5 ≡ false = grind (arith, nat_tests, h) in
    let c : nat_eq n 56 ≡ false = grind (arith, nat_tests, h) in
    let k : nat_le n 23 ≡ false = grind (arith, nat_tests, h) in
    let l : nat_le n 47 ≡ false = grind (arith, nat_tests, h) in
    let m : nat_le n 54 ≡ false = grind (arith, nat_tests, h) in
    let p : nat_le 8 n ≡ true = grind (arith, nat_tests, h) in
    let q : nat_le 35 n ≡ true = grind (arith, nat_tests, h) in
    let r : nat_le 49 n ≡ true = grind (arith, nat_tests, h) in
    rw (e, a, b, c, k, l, m, p, q, r) refl

pub reflect-is : (n : ℕ) → reflect_place n ≡ is_reflecting (intrinsic n)
unfolding reflect-test
reflect-is n = by (nat_lt n 80) refl
  where
    by : (b : Bool) → nat_lt n 80 ≡ b → reflect_place n ≡ is_reflecting (intrinsic n)
    by true e =
        bools-same (reflect_place n) (is_reflecting (intrinsic n))
        (holds-below 80 reflect-test reflects-below n (grind (arith, nat_tests, e)))
    by false e = reflect-past n (grind (arith, nat_tests, e))

-- ---- those of Array and Array.prototype

array-test : ℕ → Bool
array-test n = same-bool (array_place n) (is_of_arrays (intrinsic n))

arrays-below : all-below 80 array-test ≡ true
unfolding all-below array-test same-bool
arrays-below = refl

array-past : (n : ℕ) → 80 ≤ n → array_place n ≡ is_of_arrays (intrinsic n)
array-past n h =
    let e : intrinsic n ≡ None = slice_get_past intrinsics n h in
    let a : nat_eq n 4 ≡ false = grind (arith, nat_tests, h) in
    let k : nat_le n 34 ≡ false = grind (arith, nat_tests, h) in
    let p : nat_le 24 n ≡ true = grind (arith, nat_tests, h) in
    rw (e, a, k, p) refl

pub array-is : (n : ℕ) → array_place n ≡ is_of_arrays (intrinsic n)
unfolding array-test
array-is n = by (nat_lt n 80) refl
  where
    by : (b : Bool) → nat_lt n 80 ≡ b → array_place n ≡ is_of_arrays (intrinsic n)
    by true e =
        bools-same (array_place n) (is_of_arrays (intrinsic n))
        (holds-below 80 array-test arrays-below n (grind (arith, nat_tests, e)))
    by false e = array-past n (grind (arith, nat_tests, e))

-- ---- those of Proxy

proxy-test : ℕ → Bool
proxy-test n = same-bool (proxy_place n) (makes_proxies (intrinsic n))

proxies-below : all-below 80 proxy-test ≡ true
unfolding all-below proxy-test same-bool
proxies-below = refl

proxy-past : (n : ℕ) → 80 ≤ n → proxy_place n ≡ makes_proxies (intrinsic n)
proxy-past n h =
    let e : intrinsic n ≡ None = slice_get_past intrinsics n h in
    let a : nat_eq n 6 ≡ false = grind (arith, nat_tests, h) in
    let b : nat_eq n 48 ≡ false = grind (arith, nat_tests, h) in
    rw (e, a, b) refl

pub proxy-is : (n : ℕ) → proxy_place n ≡ makes_proxies (intrinsic n)
unfolding proxy-test
proxy-is n = by (nat_lt n 80) refl
  where
    by : (b : Bool) → nat_lt n 80 ≡ b → proxy_place n ≡ makes_proxies (intrinsic n)
    by true e =
        bools-same (proxy_place n) (makes_proxies (intrinsic n))
        (holds-below 80 proxy-test proxies-below n (grind (arith, nat_tests, e)))
    by false e = proxy-past n (grind (arith, nat_tests, e))
