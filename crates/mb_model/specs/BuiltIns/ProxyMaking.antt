use Rattle.std.specs.Prelude.{ℕ, List, [], Bool, not, ◌&&◌, None, codes}
use Rattle.mb_world.specs.Value.{Val, number_of, Null, Object, is_object, is_undefined}
use Rattle.mb_world.specs.Key.{Named}
use Rattle.mb_world.specs.Property.{open_property}
use Rattle.mb_world.specs.Graph.{Graph, Kind, Plain, Proxy, Gone, Revoker, Thing}
use Rattle.mb_world.specs.Standard.{object_prototype, function_prototype}
use Rattle.mb_world.specs.Objects.{thing_at, thing_is, is_proxy_kind, shape_of, with_property, new_thing}
use Rattle.mb_model.specs.Task.{Answer, Value}
use Rattle.mb_model.specs.Writing.{Does, ◌>>=◌, give, look, make, unless_type_error}
use Rattle.mb_model.specs.Operations.Makings.{with_length_and_name, alter}
use Rattle.mb_model.specs.BuiltIns.Arguments.{arg, undefined}

-- Proxy and Proxy.revocable (ECMA-262 28.2)

-- what may be a Proxy's target: an object that is there and is no Proxy
abbrev pub may_be_target : Graph → Val → Bool
may_be_target g t = thing_is (λ kind. not (is_proxy_kind kind)) (thing_at g t)

-- ProxyCreate (ECMA-262 10.5.14); a Proxy's target is no Proxy here
abbrev pub proxy_create : ℕ → Val → Val → Does Val
proxy_create s t h = do
  able ← look (λ g. may_be_target g t)
  _ ← unless_type_error s (able && is_object h)
  shape ← look (λ g. shape_of g t)
  make (new_thing s None (Proxy t h shape) Null)

abbrev pub proxy_fn : ℕ → List Val → Val → Does Answer
proxy_fn s vs target = do
  _ ← unless_type_error s (not (is_undefined target))
  p ← proxy_create s (arg vs 0) (arg vs 1)
  give (Value p)

abbrev pub revoker_thing : ℕ → Val → Thing
revoker_thing s p = with_length_and_name 0 [] (new_thing s None (Revoker (number_of p)) function_prototype)

-- the object with `proxy` and `revoke`
abbrev pub proxy_and_revoker : ℕ → Val → Val → Thing
proxy_and_revoker s p f = with_property (Named (codes "revoke")) (open_property f)
    (with_property (Named (codes "proxy")) (open_property p) (new_thing s None Plain object_prototype))

-- Proxy.revocable (ECMA-262 28.2.2.1)
abbrev pub revocable : ℕ → List Val → Does Answer
revocable s vs = do
  p ← proxy_create s (arg vs 0) (arg vs 1)
  f ← make (revoker_thing s p)
  o ← make (proxy_and_revoker s p f)
  give (Value o)

abbrev pub gone_kind : Kind → Kind
gone_kind (Proxy t h shape) = Gone shape
gone_kind k = k

-- the function that Proxy.revocable makes (ECMA-262 28.2.2.1.1)
abbrev pub revoke_proxy : ℕ → Does Answer
revoke_proxy p = do
  _ ← alter (Object p) (λ t. record t { kind = gone_kind t.kind })
  undefined
