use Rattle.std.specs.Prelude.{if◌then◌else◌, ℕ, List, [], ◌∷◌, map, Bool, true, false, not, ◌||◌, Option, Some, None, is_some}
use Rattle.mb_desc.specs.declared.descriptor.Full.{Full}
use Rattle.mb_world.specs.Value.{Val, is_object, is_undefined, is_null, is_nullish}
use Rattle.mb_world.specs.Key.{PropertyKey, value_of_key, symbols_only, texts_only}
use Rattle.mb_desc.specs.Descriptors.{property_is, descriptor_of}
use Rattle.mb_world.specs.Standard.{object_prototype}
use Rattle.mb_model.specs.Task.{GetPrototypeOf, SetPrototypeOf, IsExtensible, PreventExtensions, GetOwnProperty, OwnPropertyKeys, Answer, Value}
use Rattle.mb_model.specs.Writing.{Does, ◌>>=◌, give, answer, pay, pay_each, flag, property, keys, perform, type_error, unless_type_error, truth}
use Rattle.mb_model.specs.Operations.Makings.{make_plain}
use Rattle.mb_model.specs.Operations.Descriptors.{fromdesc}
use Rattle.mb_model.specs.BuiltIns.Arguments.{arg, key_arg, need_object, made_prototype, array_of}
use Rattle.mb_model.specs.BuiltIns.ObjectMembers.{plain_from, object_made, object_fn, object_create, with_key, enumerable_keys, object_keys, symbols_array, own_symbols, sealing, freeze_found, settle_key, settle_keys, settle_closed, settle_object, settle, is_loose, frozen_key, frozen_keys, frozen_open, frozen_object, is_frozen, get_prototype_of, given_back, object_set_prototype, object_set_prototype_of, described, get_own_descriptor, has_own}
use Rattle.std.proofs.Common.{refl}
use Rattle.mb_model.proofs.Kept.Words.{Kept, Goes, keeps->>=, keeps-answer, keeps-flag, keeps-give, keeps-if, keeps-keys, keeps-pay, keeps-pay_each, keeps-property, keeps-truth, keeps-type_error, keeps-unless_type_error}
use Rattle.mb_model.proofs.Kept.Made.{keeps-fromdesc}
use Rattle.mb_model.proofs.Kept.BuiltInsArguments.{keeps-array_of, keeps-key_arg, keeps-made_prototype, keeps-need_object, keeps-undefined}
use Rattle.mb_model.proofs.Kept.Defined.{keeps-freeze_found, keeps-must_define}
use Rattle.mb_model.proofs.Kept.OperationsMakings.{keeps-make_plain}

-- what the parts of these rows keep (written by tools/kept.py)

pub keeps-plain_from : (kept : Kept) (x0 : ℕ) (x1 : Val) → Goes kept (plain_from x0 x1)
keeps-plain_from kept s p = keeps->>= kept (make_plain s None p) (λ o. give (Value o)) (keeps-make_plain kept s
    None p) (λ o. keeps-give kept (Value o))

pub keeps-object_made : (kept : Kept) (x0 : ℕ) (x1 : Val) (x2 : Val) → Goes kept (object_made x0 x1 x2)
keeps-object_made kept s own target = keeps->>= kept (made_prototype s own object_prototype target) (λ p.
    plain_from s p) (keeps-made_prototype kept s own object_prototype target) (λ p. keeps-plain_from kept s p)

pub keeps-object_fn : (kept : Kept) (x0 : ℕ) (x1 : Val) (x2 : Val) (x3 : Val) → Goes kept (object_fn x0 x1 x2 x3)
keeps-object_fn kept s own target v = keeps-if kept (is_object v) (give (Value v)) (if is_nullish v then
    object_made s own target else type_error s) (keeps-give kept (Value v)) (keeps-if kept (is_nullish v)
    (object_made s own target) (type_error s) (keeps-object_made kept s own target) (keeps-type_error kept s))

pub keeps-object_create : (kept : Kept) (x0 : ℕ) (x1 : List Val) → Goes kept (object_create x0 x1)
keeps-object_create kept s vs = keeps->>= kept (unless_type_error s (is_object (arg vs 0) || is_null (arg vs 0)))
    (λ _. (unless_type_error s (is_undefined (arg vs 1))) >>= (λ _. plain_from s (arg vs 0)))
    (keeps-unless_type_error kept s (is_object (arg vs 0) || is_null (arg vs 0))) (λ _. keeps->>= kept
    (unless_type_error s (is_undefined (arg vs 1))) (λ _. plain_from s (arg vs 0)) (keeps-unless_type_error kept s
    (is_undefined (arg vs 1))) (λ _. keeps-plain_from kept s (arg vs 0)))

pub keeps-enumerable_keys : (kept : Kept) (x0 : ℕ) (x1 : Val) (x2 : List Val) (x3 : List PropertyKey) → Goes kept
    (enumerable_keys x0 x1 x2 x3)
keeps-enumerable_keys kept s o out [] = keeps-array_of kept s out
keeps-enumerable_keys kept s o out (k ∷ ks) = keeps->>= kept (pay 1) (λ _. (property (perform s (GetOwnProperty k)
    o)) >>= (λ p. enumerable_keys s o (with_key k out p) ks)) (keeps-pay kept 1) (λ _. keeps->>= kept (property
    (perform s (GetOwnProperty k) o)) (λ p. enumerable_keys s o (with_key k out p) ks) (keeps-property kept
    (perform s (GetOwnProperty k) o) (λ _. (λ _. tt, λ _ _. refl))) (λ p. keeps-enumerable_keys kept s o (with_key
    k out p) ks))

pub keeps-object_keys : (kept : Kept) (x0 : ℕ) (x1 : Val) → Goes kept (object_keys x0 x1)
keeps-object_keys kept s o = keeps->>= kept (need_object s o) (λ _. (keys (perform s OwnPropertyKeys o)) >>= (λ ks.
    enumerable_keys s o [] (texts_only ks))) (keeps-need_object kept s o) (λ _. keeps->>= kept (keys (perform s
    OwnPropertyKeys o)) (λ ks. enumerable_keys s o [] (texts_only ks)) (keeps-keys kept (perform s OwnPropertyKeys
    o) (λ _. (λ _. tt, λ _ _. refl))) (λ ks. keeps-enumerable_keys kept s o [] (texts_only ks)))

pub keeps-symbols_array : (kept : Kept) (x0 : ℕ) (x1 : List PropertyKey) → Goes kept (symbols_array x0 x1)
keeps-symbols_array kept s ks = keeps->>= kept (pay_each ks) (λ _. array_of s (map value_of_key (symbols_only ks)))
    (keeps-pay_each kept ks) (λ _. keeps-array_of kept s (map value_of_key (symbols_only ks)))

pub keeps-own_symbols : (kept : Kept) (x0 : ℕ) (x1 : Val) → Goes kept (own_symbols x0 x1)
keeps-own_symbols kept s o = keeps->>= kept (need_object s o) (λ _. (keys (perform s OwnPropertyKeys o)) >>= (λ ks.
    symbols_array s ks)) (keeps-need_object kept s o) (λ _. keeps->>= kept (keys (perform s OwnPropertyKeys o)) (λ
    ks. symbols_array s ks) (keeps-keys kept (perform s OwnPropertyKeys o) (λ _. (λ _. tt, λ _ _. refl))) (λ ks.
    keeps-symbols_array kept s ks))

pub keeps-settle_key : (kept : Kept) (x0 : ℕ) (x1 : Val) (x2 : Bool) (x3 : PropertyKey) → Goes kept (settle_key x0
    x1 x2 x3)
keeps-settle_key kept s o true k = keeps->>= kept (property (perform s (GetOwnProperty k) o)) (λ p. freeze_found s
    o k p) (keeps-property kept (perform s (GetOwnProperty k) o) (λ _. (λ _. tt, λ _ _. refl))) (λ p.
    keeps-freeze_found kept s o k p)
keeps-settle_key kept s o false k = keeps-must_define kept s o k sealing (λ _. refl)

pub keeps-settle_keys : (kept : Kept) (x0 : ℕ) (x1 : Val) (x2 : Bool) (x3 : List PropertyKey) → Goes kept
    (settle_keys x0 x1 x2 x3)
keeps-settle_keys kept s o frozen [] = keeps-give kept (Value o)
keeps-settle_keys kept s o frozen (k ∷ ks) = keeps->>= kept (pay 1) (λ _. (settle_key s o frozen k) >>= (λ _.
    settle_keys s o frozen ks)) (keeps-pay kept 1) (λ _. keeps->>= kept (settle_key s o frozen k) (λ _. settle_keys
    s o frozen ks) (keeps-settle_key kept s o frozen k) (λ _. keeps-settle_keys kept s o frozen ks))

pub keeps-settle_closed : (kept : Kept) (x0 : ℕ) (x1 : Val) (x2 : Bool) (x3 : Bool) → Goes kept (settle_closed x0
    x1 x2 x3)
keeps-settle_closed kept s o frozen closed = keeps->>= kept (unless_type_error s closed) (λ _. (keys (perform s
    OwnPropertyKeys o)) >>= (λ ks. settle_keys s o frozen ks)) (keeps-unless_type_error kept s closed) (λ _.
    keeps->>= kept (keys (perform s OwnPropertyKeys o)) (λ ks. settle_keys s o frozen ks) (keeps-keys kept (perform
    s OwnPropertyKeys o) (λ _. (λ _. tt, λ _ _. refl))) (λ ks. keeps-settle_keys kept s o frozen ks))

pub keeps-settle_object : (kept : Kept) (x0 : ℕ) (x1 : Val) (x2 : Bool) → Goes kept (settle_object x0 x1 x2)
keeps-settle_object kept s o frozen = keeps->>= kept (flag (perform s PreventExtensions o)) (λ closed.
    settle_closed s o frozen closed) (keeps-flag kept (perform s PreventExtensions o) (λ _. (
      λ _. tt,
      λ _ _.
          refl,
    ))) (λ closed. keeps-settle_closed kept s o frozen closed)

pub keeps-settle : (kept : Kept) (x0 : ℕ) (x1 : Bool) (x2 : Val) → Goes kept (settle x0 x1 x2)
keeps-settle kept s frozen o = keeps-if kept (is_object o) (settle_object s o frozen) (give (Value o))
    (keeps-settle_object kept s o frozen) (keeps-give kept (Value o))

pub keeps-frozen_key : (kept : Kept) (x0 : Does Answer) (px0 : Goes kept (x0)) (x1 : Option (Full Val)) → Goes kept
    (frozen_key x0 x1)
keeps-frozen_key kept more keeps-more p = keeps-if kept (property_is is_loose p) (truth false) (more) (keeps-truth
    kept false) (keeps-more)

pub keeps-frozen_keys : (kept : Kept) (x0 : ℕ) (x1 : Val) (x2 : List PropertyKey) → Goes kept (frozen_keys x0 x1 x2)
keeps-frozen_keys kept s o [] = keeps-truth kept true
keeps-frozen_keys kept s o (k ∷ ks) = keeps->>= kept (pay 1) (λ _. (property (perform s (GetOwnProperty k) o)) >>=
    (λ p. frozen_key (frozen_keys s o ks) p)) (keeps-pay kept 1) (λ _. keeps->>= kept (property (perform s
    (GetOwnProperty k) o)) (λ p. frozen_key (frozen_keys s o ks) p) (keeps-property kept (perform s (GetOwnProperty
    k) o) (λ _. (λ _. tt, λ _ _. refl))) (λ p. keeps-frozen_key kept (frozen_keys s o ks) (keeps-frozen_keys kept s
    o ks) p))

pub keeps-frozen_open : (kept : Kept) (x0 : ℕ) (x1 : Val) (x2 : Bool) → Goes kept (frozen_open x0 x1 x2)
keeps-frozen_open kept s o true = keeps-truth kept false
keeps-frozen_open kept s o false = keeps->>= kept (keys (perform s OwnPropertyKeys o)) (λ ks. frozen_keys s o ks)
    (keeps-keys kept (perform s OwnPropertyKeys o) (λ _. (λ _. tt, λ _ _. refl))) (λ ks. keeps-frozen_keys kept s o
    ks)

pub keeps-frozen_object : (kept : Kept) (x0 : ℕ) (x1 : Val) → Goes kept (frozen_object x0 x1)
keeps-frozen_object kept s o = keeps->>= kept (flag (perform s IsExtensible o)) (λ e. frozen_open s o e)
    (keeps-flag kept (perform s IsExtensible o) (λ _. (λ _. tt, λ _ _. refl))) (λ e. keeps-frozen_open kept s o e)

pub keeps-is_frozen : (kept : Kept) (x0 : ℕ) (x1 : Val) → Goes kept (is_frozen x0 x1)
keeps-is_frozen kept s o = keeps-if kept (is_object o) (frozen_object s o) (truth true) (keeps-frozen_object kept s
    o) (keeps-truth kept true)

pub keeps-get_prototype_of : (kept : Kept) (x0 : ℕ) (x1 : Val) → Goes kept (get_prototype_of x0 x1)
keeps-get_prototype_of kept s o = keeps->>= kept (need_object s o) (λ _. answer (perform s GetPrototypeOf o))
    (keeps-need_object kept s o) (λ _. keeps-answer kept (perform s GetPrototypeOf o) (λ _. (λ _. tt, λ _ _. refl)))

pub keeps-given_back : (kept : Kept) (x0 : ℕ) (x1 : Val) (x2 : Bool) → Goes kept (given_back x0 x1 x2)
keeps-given_back kept s o b = keeps->>= kept (unless_type_error s b) (λ _. give (Value o)) (keeps-unless_type_error
    kept s b) (λ _. keeps-give kept (Value o))

pub keeps-object_set_prototype : (kept : Kept) (x0 : ℕ) (x1 : Val) (x2 : Val) → Goes kept (object_set_prototype x0
    x1 x2)
keeps-object_set_prototype kept s o p = keeps->>= kept (flag (perform s (SetPrototypeOf p) o)) (λ b. given_back s o
    b) (keeps-flag kept (perform s (SetPrototypeOf p) o) (λ _. (λ _. tt, λ _ _. refl))) (λ b. keeps-given_back kept
    s o b)

pub keeps-object_set_prototype_of : (kept : Kept) (x0 : ℕ) (x1 : Val) (x2 : Val) → Goes kept
    (object_set_prototype_of x0 x1 x2)
keeps-object_set_prototype_of kept s o p = keeps->>= kept (unless_type_error s (is_object p || is_null p)) (λ _.
    (unless_type_error s (not (is_nullish o))) >>= (λ _. if is_object o then object_set_prototype s o p else give
    (Value o))) (keeps-unless_type_error kept s (is_object p || is_null p)) (λ _. keeps->>= kept (unless_type_error
    s (not (is_nullish o))) (λ _. if is_object o then object_set_prototype s o p else give (Value o))
    (keeps-unless_type_error kept s (not (is_nullish o))) (λ _. keeps-if kept (is_object o) (object_set_prototype s
    o p) (give (Value o)) (keeps-object_set_prototype kept s o p) (keeps-give kept (Value o))))

pub keeps-described : (kept : Kept) (x0 : ℕ) (x1 : Option (Full Val)) → Goes kept (described x0 x1)
keeps-described kept s None = keeps-undefined kept
keeps-described kept s (Some p) = keeps->>= kept (fromdesc s (descriptor_of p)) (λ o. give (Value o))
    (keeps-fromdesc kept s (descriptor_of p)) (λ o. keeps-give kept (Value o))

pub keeps-get_own_descriptor : (kept : Kept) (x0 : ℕ) (x1 : List Val) → Goes kept (get_own_descriptor x0 x1)
keeps-get_own_descriptor kept s vs = keeps->>= kept (need_object s (arg vs 0)) (λ _. (key_arg s vs 1) >>= (λ k.
    (property (perform s (GetOwnProperty k) (arg vs 0))) >>= (λ p. described s p))) (keeps-need_object kept s (arg
    vs 0)) (λ _. keeps->>= kept (key_arg s vs 1) (λ k. (property (perform s (GetOwnProperty k) (arg vs 0))) >>= (λ
    p. described s p)) (keeps-key_arg kept s vs 1) (λ k. keeps->>= kept (property (perform s (GetOwnProperty k)
    (arg vs 0))) (λ p. described s p) (keeps-property kept (perform s (GetOwnProperty k) (arg vs 0)) (λ _. (
      λ _.
          tt,
      λ _ _. refl,
    ))) (λ p. keeps-described kept s p)))

pub keeps-has_own : (kept : Kept) (x0 : ℕ) (x1 : Val) (x2 : List Val) → Goes kept (has_own x0 x1 x2)
keeps-has_own kept s o vs = keeps->>= kept (need_object s o) (λ _. (key_arg s vs 0) >>= (λ k. (property (perform s
    (GetOwnProperty k) o)) >>= (λ p. truth (is_some p)))) (keeps-need_object kept s o) (λ _. keeps->>= kept
    (key_arg s vs 0) (λ k. (property (perform s (GetOwnProperty k) o)) >>= (λ p. truth (is_some p))) (keeps-key_arg
    kept s vs 0) (λ k. keeps->>= kept (property (perform s (GetOwnProperty k) o)) (λ p. truth (is_some p))
    (keeps-property kept (perform s (GetOwnProperty k) o) (λ _. (λ _. tt, λ _ _. refl))) (λ p. keeps-truth kept
    (is_some p))))
