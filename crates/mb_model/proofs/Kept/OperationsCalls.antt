use Rattle.std.specs.Prelude.{if◌then◌else◌, ℕ, zero, suc, ◌+◌, List, [], ◌∷◌, ◌++◌, Bool, true, false, not, Option, Some, None, ◌||◌}
use Rattle.mb_world.specs.Value.{Val, Undefined, Text, is_object, whole_of, is_nullish}
use Rattle.mb_world.specs.Key.{PropertyKey, is_property_key}
use Rattle.mb_world.specs.Graph.{Kind, Array, Proxy, Gone, Thing}
use Rattle.mb_world.specs.Objects.{thing_at}
use Rattle.mb_world.specs.Arrays.{index_key, length_key}
use Rattle.mb_world.specs.View.{is_cut}
use Rattle.mb_model.specs.Task.{Get, Set, Call}
use Rattle.mb_model.specs.Writing.{◌>>=◌, give, pay, look, flag, perform, type_error, unless_type_error, or_type_error}
use Rattle.mb_model.specs.Operations.Calls.{get, call, text_property, getv, set_in, putv, not_below_zero, length_from, length_of, listed, list_got, list_from, list_of_object, list_of, target_is_array, array_target, array_kind, array_thing_is, is_array}
use Rattle.std.proofs.Common.{refl}
use Rattle.mb_model.proofs.Kept.Words.{Kept, Goes, keeps->>=, keeps-flag, keeps-give, keeps-if, keeps-look, keeps-or_type_error, keeps-pay, keeps-type_error, keeps-unless_type_error, keeps-value}

-- what the parts of these rows keep (written by tools/kept.py)

pub keeps-get : (kept : Kept) (x0 : ℕ) (x1 : Val) (x2 : PropertyKey) → Goes kept (get x0 x1 x2)
keeps-get kept s o k = keeps-value kept (perform s (Get k o) o) (λ _. (λ _. tt, λ _ _. refl))

pub keeps-call : (kept : Kept) (x0 : ℕ) (x1 : Val) (x2 : Val) (x3 : List Val) → Goes kept (call x0 x1 x2 x3)
keeps-call kept s f this vs = keeps-value kept (perform s (Call this vs) f) (λ _. (λ _. tt, λ _ _. refl))

pub keeps-getv : (kept : Kept) (x0 : ℕ) (x1 : Val) (x2 : PropertyKey) → Goes kept (getv x0 x1 x2)
keeps-getv kept s (Text t) k = keeps-give kept (text_property t k)
keeps-getv kept s v k = keeps-if kept (is_object v) (get s v k) (if is_nullish v then type_error s else give
    Undefined) (keeps-get kept s v k) (keeps-if kept (is_nullish v) (type_error s) (give Undefined)
    (keeps-type_error kept s) (keeps-give kept Undefined))

pub keeps-set_in : (kept : Kept) (x0 : ℕ) (x1 : Val) (x2 : PropertyKey) (x3 : Val) → Goes kept (set_in x0 x1 x2 x3)
keeps-set_in kept s o k v = keeps->>= kept (flag (perform s (Set k v o) o)) (λ done. unless_type_error s done)
    (keeps-flag kept (perform s (Set k v o) o) (λ _. (λ _. tt, λ _ _. refl))) (λ done. keeps-unless_type_error kept
    s done)

pub keeps-putv : (kept : Kept) (x0 : ℕ) (x1 : Val) (x2 : PropertyKey) (x3 : Val) → Goes kept (putv x0 x1 x2 x3)
keeps-putv kept s v k x = keeps-if kept (is_object v) (set_in s v k x) (type_error s) (keeps-set_in kept s v k x)
    (keeps-type_error kept s)

pub keeps-length_from : (kept : Kept) (x0 : ℕ) (x1 : Val) → Goes kept (length_from x0 x1)
keeps-length_from kept s Undefined = keeps-give kept 0
keeps-length_from kept s v = keeps->>= kept (or_type_error s (whole_of v)) (λ z. give (not_below_zero z))
    (keeps-or_type_error kept s (whole_of v)) (λ z. keeps-give kept (not_below_zero z))

pub keeps-length_of : (kept : Kept) (x0 : ℕ) (x1 : Val) → Goes kept (length_of x0 x1)
keeps-length_of kept s o = keeps->>= kept (get s o length_key) (λ n. length_from s n) (keeps-get kept s o
    length_key) (λ n. keeps-length_from kept s n)

pub keeps-listed : (kept : Kept) (x0 : ℕ) (x1 : Bool) (x2 : Val) → Goes kept (listed x0 x1 x2)
keeps-listed kept s as_keys v = keeps-unless_type_error kept s (not as_keys || is_property_key v)

pub keeps-list_got : (kept : Kept) (x0 : ℕ) (x1 : Bool) (x2 : List Val) (x3 : Val) → Goes kept (list_got x0 x1 x2 x3)
keeps-list_got kept s as_keys vs v = keeps->>= kept (listed s as_keys v) (λ _. give (vs ++ (v ∷ []))) (keeps-listed
    kept s as_keys v) (λ _. keeps-give kept (vs ++ (v ∷ [])))

pub keeps-list_from : (kept : Kept) (x0 : ℕ) (x1 : Bool) (x2 : Val) (x3 : ℕ) (x4 : ℕ) (x5 : List Val) → Goes kept
    (list_from x0 x1 x2 x3 x4 x5)
keeps-list_from kept s as_keys x zero k vs = keeps-give kept vs
keeps-list_from kept s as_keys x (suc n) k vs = keeps->>= kept (pay 1) (λ _. (get s x (index_key k)) >>= (λ v.
    (list_got s as_keys vs v) >>= (λ ws. list_from s as_keys x n (k + 1) ws))) (keeps-pay kept 1) (λ _. keeps->>=
    kept (get s x (index_key k)) (λ v. (list_got s as_keys vs v) >>= (λ ws. list_from s as_keys x n (k + 1) ws))
    (keeps-get kept s x (index_key k)) (λ v. keeps->>= kept (list_got s as_keys vs v) (λ ws. list_from s as_keys x
    n (k + 1) ws) (keeps-list_got kept s as_keys vs v) (λ ws. keeps-list_from kept s as_keys x n (k + 1) ws)))

pub keeps-list_of_object : (kept : Kept) (x0 : ℕ) (x1 : Bool) (x2 : Val) → Goes kept (list_of_object x0 x1 x2)
keeps-list_of_object kept s as_keys x = keeps->>= kept (length_of s x) (λ n. list_from s as_keys x n 0 [])
    (keeps-length_of kept s x) (λ n. keeps-list_from kept s as_keys x n 0 [])

pub keeps-list_of : (kept : Kept) (x0 : ℕ) (x1 : Bool) (x2 : Val) → Goes kept (list_of x0 x1 x2)
keeps-list_of kept s as_keys x = keeps-if kept (is_object x) (list_of_object s as_keys x) (type_error s)
    (keeps-list_of_object kept s as_keys x) (keeps-type_error kept s)

pub keeps-array_target : (kept : Kept) (x0 : ℕ) (x1 : Option Thing) → Goes kept (array_target x0 x1)
keeps-array_target kept s None = keeps-give kept false
keeps-array_target kept s (Some t) = keeps->>= kept (look (λ g. is_cut g s t)) (λ cut. (unless_type_error s (not
    cut)) >>= (λ _. give (target_is_array t.kind))) (keeps-look kept (λ g. is_cut g s t)) (λ cut. keeps->>= kept
    (unless_type_error s (not cut)) (λ _. give (target_is_array t.kind)) (keeps-unless_type_error kept s (not cut))
    (λ _. keeps-give kept (target_is_array t.kind)))

pub keeps-array_kind : (kept : Kept) (x0 : ℕ) (x1 : Kind) → Goes kept (array_kind x0 x1)
keeps-array_kind kept s Array = keeps-give kept true
keeps-array_kind kept s (Proxy target handler shape) = keeps->>= kept (look (λ g. thing_at g target)) (λ t.
    array_target s t) (keeps-look kept (λ g. thing_at g target)) (λ t. keeps-array_target kept s t)
keeps-array_kind kept s (Gone shape) = keeps-type_error kept s
keeps-array_kind kept s _ = keeps-give kept false

pub keeps-array_thing_is : (kept : Kept) (x0 : ℕ) (x1 : Option Thing) → Goes kept (array_thing_is x0 x1)
keeps-array_thing_is kept s None = keeps-give kept false
keeps-array_thing_is kept s (Some t) = keeps->>= kept (look (λ g. is_cut g s t)) (λ cut. (unless_type_error s (not
    cut)) >>= (λ _. array_kind s t.kind)) (keeps-look kept (λ g. is_cut g s t)) (λ cut. keeps->>= kept
    (unless_type_error s (not cut)) (λ _. array_kind s t.kind) (keeps-unless_type_error kept s (not cut)) (λ _.
    keeps-array_kind kept s t.kind))

pub keeps-is_array : (kept : Kept) (x0 : ℕ) (x1 : Val) → Goes kept (is_array x0 x1)
keeps-is_array kept s x = keeps->>= kept (look (λ g. thing_at g x)) (λ t. array_thing_is s t) (keeps-look kept (λ
    g. thing_at g x)) (λ t. keeps-array_thing_is kept s t)
