use Rattle.std.specs.Prelude.{ℕ, List, map, false, ◌||◌}
use Rattle.mb_world.specs.Value.{Val, is_object, is_null}
use Rattle.mb_world.specs.Key.{PropertyKey, value_of_key}
use Rattle.mb_model.specs.Task.{SetPrototypeOf, IsExtensible, PreventExtensions, HasProperty, Get, Set, Delete, OwnPropertyKeys, Call, Construct}
use Rattle.mb_model.specs.Writing.{◌>>=◌, answer, pay_each, keys, perform, unless_type_error}
use Rattle.mb_model.specs.Operations.Calls.{list_of}
use Rattle.mb_model.specs.BuiltIns.Arguments.{arg, arg_or, key_arg, need_object, need_callable, need_constructor, flag_row, array_of}
use Rattle.mb_model.specs.BuiltIns.ReflectMembers.{apply_listed, reflect_apply, construct_listed, reflect_construct, reflect_delete, reflect_get, reflect_has, reflect_is_extensible, keys_array, reflect_own_keys, reflect_prevent, reflect_set, reflect_set_prototype}
use Rattle.std.proofs.Common.{refl}
use Rattle.mb_model.proofs.Kept.Words.{Kept, Goes, keeps->>=, keeps-answer, keeps-keys, keeps-pay_each, keeps-unless_type_error}
use Rattle.mb_model.proofs.Kept.BuiltInsArguments.{keeps-array_of, keeps-key_arg, keeps-need_callable, keeps-need_constructor, keeps-need_object}
use Rattle.mb_model.proofs.Kept.Defined.{keeps-flag_row}
use Rattle.mb_model.proofs.Kept.OperationsCalls.{keeps-list_of}

-- what the parts of these rows keep (written by tools/kept.py)

pub keeps-apply_listed : (kept : Kept) (x0 : ℕ) (x1 : Val) (x2 : Val) (x3 : List Val) → Goes kept (apply_listed x0
    x1 x2 x3)
keeps-apply_listed kept s f this vs = keeps-answer kept (perform s (Call this vs) f) (λ _. (λ _. tt, λ _ _. refl))

pub keeps-reflect_apply : (kept : Kept) (x0 : ℕ) (x1 : List Val) → Goes kept (reflect_apply x0 x1)
keeps-reflect_apply kept s vs = keeps->>= kept (need_callable s (arg vs 0)) (λ _. (list_of s false (arg vs 2)) >>=
    (λ ws. apply_listed s (arg vs 0) (arg vs 1) ws)) (keeps-need_callable kept s (arg vs 0)) (λ _. keeps->>= kept
    (list_of s false (arg vs 2)) (λ ws. apply_listed s (arg vs 0) (arg vs 1) ws) (keeps-list_of kept s false (arg
    vs 2)) (λ ws. keeps-apply_listed kept s (arg vs 0) (arg vs 1) ws))

pub keeps-construct_listed : (kept : Kept) (x0 : ℕ) (x1 : Val) (x2 : Val) (x3 : List Val) → Goes kept
    (construct_listed x0 x1 x2 x3)
keeps-construct_listed kept s f target vs = keeps-answer kept (perform s (Construct vs target) f) (λ _. (
  λ _. tt,
  λ
      _ _. refl,
))

pub keeps-reflect_construct : (kept : Kept) (x0 : ℕ) (x1 : List Val) → Goes kept (reflect_construct x0 x1)
keeps-reflect_construct kept s vs = keeps->>= kept (need_constructor s (arg vs 0)) (λ _. (need_constructor s
    (arg_or vs 2 (arg vs 0))) >>= (λ _. (list_of s false (arg vs 1)) >>= (λ ws. construct_listed s (arg vs 0)
    (arg_or vs 2 (arg vs 0)) ws))) (keeps-need_constructor kept s (arg vs 0)) (λ _. keeps->>= kept
    (need_constructor s (arg_or vs 2 (arg vs 0))) (λ _. (list_of s false (arg vs 1)) >>= (λ ws. construct_listed s
    (arg vs 0) (arg_or vs 2 (arg vs 0)) ws)) (keeps-need_constructor kept s (arg_or vs 2 (arg vs 0))) (λ _.
    keeps->>= kept (list_of s false (arg vs 1)) (λ ws. construct_listed s (arg vs 0) (arg_or vs 2 (arg vs 0)) ws)
    (keeps-list_of kept s false (arg vs 1)) (λ ws. keeps-construct_listed kept s (arg vs 0) (arg_or vs 2 (arg vs
    0)) ws)))

pub keeps-reflect_delete : (kept : Kept) (x0 : ℕ) (x1 : List Val) → Goes kept (reflect_delete x0 x1)
keeps-reflect_delete kept s vs = keeps->>= kept (need_object s (arg vs 0)) (λ _. (key_arg s vs 1) >>= (λ k.
    flag_row s (Delete k) (arg vs 0))) (keeps-need_object kept s (arg vs 0)) (λ _. keeps->>= kept (key_arg s vs 1)
    (λ k. flag_row s (Delete k) (arg vs 0)) (keeps-key_arg kept s vs 1) (λ k. keeps-flag_row kept s (Delete k) (arg
    vs 0) (λ _. tt)))

pub keeps-reflect_get : (kept : Kept) (x0 : ℕ) (x1 : List Val) → Goes kept (reflect_get x0 x1)
keeps-reflect_get kept s vs = keeps->>= kept (need_object s (arg vs 0)) (λ _. (key_arg s vs 1) >>= (λ k. answer
    (perform s (Get k (arg_or vs 2 (arg vs 0))) (arg vs 0)))) (keeps-need_object kept s (arg vs 0)) (λ _. keeps->>=
    kept (key_arg s vs 1) (λ k. answer (perform s (Get k (arg_or vs 2 (arg vs 0))) (arg vs 0))) (keeps-key_arg kept
    s vs 1) (λ k. keeps-answer kept (perform s (Get k (arg_or vs 2 (arg vs 0))) (arg vs 0)) (λ _. (
      λ _. tt,
      λ _ _.
          refl,
    ))))

pub keeps-reflect_has : (kept : Kept) (x0 : ℕ) (x1 : List Val) → Goes kept (reflect_has x0 x1)
keeps-reflect_has kept s vs = keeps->>= kept (need_object s (arg vs 0)) (λ _. (key_arg s vs 1) >>= (λ k. flag_row s
    (HasProperty k) (arg vs 0))) (keeps-need_object kept s (arg vs 0)) (λ _. keeps->>= kept (key_arg s vs 1) (λ k.
    flag_row s (HasProperty k) (arg vs 0)) (keeps-key_arg kept s vs 1) (λ k. keeps-flag_row kept s (HasProperty k)
    (arg vs 0) (λ _. tt)))

pub keeps-reflect_is_extensible : (kept : Kept) (x0 : ℕ) (x1 : Val) → Goes kept (reflect_is_extensible x0 x1)
keeps-reflect_is_extensible kept s o = keeps->>= kept (need_object s o) (λ _. flag_row s IsExtensible o)
    (keeps-need_object kept s o) (λ _. keeps-flag_row kept s IsExtensible o (λ _. tt))

pub keeps-keys_array : (kept : Kept) (x0 : ℕ) (x1 : List PropertyKey) → Goes kept (keys_array x0 x1)
keeps-keys_array kept s ks = keeps->>= kept (pay_each ks) (λ _. array_of s (map value_of_key ks)) (keeps-pay_each
    kept ks) (λ _. keeps-array_of kept s (map value_of_key ks))

pub keeps-reflect_own_keys : (kept : Kept) (x0 : ℕ) (x1 : Val) → Goes kept (reflect_own_keys x0 x1)
keeps-reflect_own_keys kept s o = keeps->>= kept (need_object s o) (λ _. (keys (perform s OwnPropertyKeys o)) >>=
    (λ ks. keys_array s ks)) (keeps-need_object kept s o) (λ _. keeps->>= kept (keys (perform s OwnPropertyKeys o))
    (λ ks. keys_array s ks) (keeps-keys kept (perform s OwnPropertyKeys o) (λ _. (λ _. tt, λ _ _. refl))) (λ ks.
    keeps-keys_array kept s ks))

pub keeps-reflect_prevent : (kept : Kept) (x0 : ℕ) (x1 : Val) → Goes kept (reflect_prevent x0 x1)
keeps-reflect_prevent kept s o = keeps->>= kept (need_object s o) (λ _. flag_row s PreventExtensions o)
    (keeps-need_object kept s o) (λ _. keeps-flag_row kept s PreventExtensions o (λ _. tt))

pub keeps-reflect_set : (kept : Kept) (x0 : ℕ) (x1 : List Val) → Goes kept (reflect_set x0 x1)
keeps-reflect_set kept s vs = keeps->>= kept (need_object s (arg vs 0)) (λ _. (key_arg s vs 1) >>= (λ k. flag_row s
    (Set k (arg vs 2) (arg_or vs 3 (arg vs 0))) (arg vs 0))) (keeps-need_object kept s (arg vs 0)) (λ _. keeps->>=
    kept (key_arg s vs 1) (λ k. flag_row s (Set k (arg vs 2) (arg_or vs 3 (arg vs 0))) (arg vs 0)) (keeps-key_arg
    kept s vs 1) (λ k. keeps-flag_row kept s (Set k (arg vs 2) (arg_or vs 3 (arg vs 0))) (arg vs 0) (λ _. tt)))

pub keeps-reflect_set_prototype : (kept : Kept) (x0 : ℕ) (x1 : Val) (x2 : Val) → Goes kept (reflect_set_prototype
    x0 x1 x2)
keeps-reflect_set_prototype kept s o p = keeps->>= kept (need_object s o) (λ _. (unless_type_error s (is_object p
    || is_null p)) >>= (λ _. flag_row s (SetPrototypeOf p) o)) (keeps-need_object kept s o) (λ _. keeps->>= kept
    (unless_type_error s (is_object p || is_null p)) (λ _. flag_row s (SetPrototypeOf p) o)
    (keeps-unless_type_error kept s (is_object p || is_null p)) (λ _. keeps-flag_row kept s (SetPrototypeOf p) o (λ
    _. tt)))
