use Rattle.std.specs.Prelude.{ℕ, List, not}
use Rattle.mb_world.specs.Value.{Val, is_undefined}
use Rattle.mb_model.specs.Task.{Value}
use Rattle.mb_model.specs.Writing.{◌>>=◌, give, make, unless_type_error}
use Rattle.mb_model.specs.BuiltIns.Arguments.{arg}
use Rattle.mb_model.specs.BuiltIns.ProxyMaking.{proxy_create, proxy_fn, revoker_thing, proxy_and_revoker, revocable}
use Rattle.mb_model.proofs.Kept.Words.{Kept, Goes, keeps->>=, keeps-give, keeps-make, keeps-unless_type_error}
use Rattle.mb_model.proofs.Kept.Made.{new-proxy_and_revoker, new-revoker_thing, keeps-proxy_create}

-- what the parts of these rows keep (written by tools/kept.py)

pub keeps-proxy_fn : (kept : Kept) (x0 : ℕ) (x1 : List Val) (x2 : Val) → Goes kept (proxy_fn x0 x1 x2)
keeps-proxy_fn kept s vs target = keeps->>= kept (unless_type_error s (not (is_undefined target))) (λ _.
    (proxy_create s (arg vs 0) (arg vs 1)) >>= (λ p. give (Value p))) (keeps-unless_type_error kept s (not
    (is_undefined target))) (λ _. keeps->>= kept (proxy_create s (arg vs 0) (arg vs 1)) (λ p. give (Value p))
    (keeps-proxy_create kept s (arg vs 0) (arg vs 1)) (λ p. keeps-give kept (Value p)))

pub keeps-revocable : (kept : Kept) (x0 : ℕ) (x1 : List Val) → Goes kept (revocable x0 x1)
keeps-revocable kept s vs = keeps->>= kept (proxy_create s (arg vs 0) (arg vs 1)) (λ p. (make (revoker_thing s p))
    >>= (λ f. (make (proxy_and_revoker s p f)) >>= (λ o. give (Value o)))) (keeps-proxy_create kept s (arg vs 0)
    (arg vs 1)) (λ p. keeps->>= kept (make (revoker_thing s p)) (λ f. (make (proxy_and_revoker s p f)) >>= (λ o.
    give (Value o))) (keeps-make kept (revoker_thing s p) (new-revoker_thing s p)) (λ f. keeps->>= kept (make
    (proxy_and_revoker s p f)) (λ o. give (Value o)) (keeps-make kept (proxy_and_revoker s p f)
    (new-proxy_and_revoker s p f)) (λ o. keeps-give kept (Value o))))
