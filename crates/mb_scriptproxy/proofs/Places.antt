-- The places of the built-ins that make Proxies.
use Rattle.std.proofs.Common.{◌&&◌, ◌∷◌, ◌≡◌, Bool, List, Some, [], drop, false, refl, slice_get, suc}
use Rattle.std.proofs.Common.{sym, true, true≢false, zero, ℕ}
use Rattle.mb_frames.specs.Sorts.{AValue, run_gives}
use Rattle.mb_scriptproxy.specs.Ours.{makes_proxies}
use Rattle.mb_base.specs.declared.value.Value.{Value}
use Rattle.mb_base.specs.declared.value.Value.TheVariants as v
use Rattle.mb_world.specs.Intrinsics.{Intrinsic, Proxy, ProxyRevocable, intrinsic, intrinsics}

abbrev is_other : Intrinsic → Bool
is_other Proxy = false
is_other y = true

abbrev are_other : List Intrinsic → Bool
are_other [] = true
are_other (y ∷ ys) = is_other y && are_other ys

and-true : (a b : Bool) → a && b ≡ true → (a ≡ true) × (b ≡ true)
and-true true true h = (refl, refl)
and-true true false h = absurd (true≢false (sym h))
and-true false b h = absurd (true≢false (sym h))

one-revocable : (y : Intrinsic) → is_other y ≡ true → makes_proxies (Some y) ≡ true → y ≡ ProxyRevocable
one-revocable Proxy e h = absurd (true≢false (sym e))
one-revocable ProxyRevocable e h = refl
one-revocable _ e h = absurd (true≢false (sym h))

rest-revocable : (ys : List Intrinsic) (n : ℕ) → are_other ys ≡ true → makes_proxies (slice_get ys n) ≡ true
    → slice_get ys n ≡ Some ProxyRevocable
rest-revocable [] n e h = absurd (true≢false (sym h))
rest-revocable (y ∷ ys) zero e h = rw (one-revocable y (and-true (is_other y) (are_other ys) e).0 h) refl
rest-revocable (y ∷ ys) (suc n) e h = rest-revocable ys n (and-true (is_other y) (are_other ys) e).1 h

-- beside Proxy there is Proxy.revocable alone
pub other-place : (n : ℕ) → makes_proxies (intrinsic n) ≡ true → (n ≡ 6 → ⊥) → intrinsic n ≡ Some ProxyRevocable
other-place zero h q = absurd (true≢false (sym h))
other-place (suc zero) h q = absurd (true≢false (sym h))
other-place (suc (suc zero)) h q = absurd (true≢false (sym h))
other-place (suc (suc (suc zero))) h q = absurd (true≢false (sym h))
other-place (suc (suc (suc (suc zero)))) h q = absurd (true≢false (sym h))
other-place (suc (suc (suc (suc (suc zero))))) h q = absurd (true≢false (sym h))
other-place (suc (suc (suc (suc (suc (suc zero)))))) h q = absurd (q refl)
other-place (suc (suc (suc (suc (suc (suc (suc n))))))) h q = rest-revocable (drop 7 intrinsics) n refl h

-- what doesn't construct gives a value
pub gives-value : (target : Value) → run_gives target false ≡ AValue
gives-value v.Undefined = refl
gives-value _ = refl
