use Rattle.std.specs.Prelude.{if◌then◌else◌, ℕ, zero, suc, ◌+◌, ◌-◌, ◌/◌, List, [], ◌∷◌, ◌++◌, length, Bool, nat_lt, nat_le, Option, Some, None, slice_get, negsuc}
use Rattle.mb_world.specs.Value.{Val, Undefined, Whole, Text, same_value, is_undefined, is_nullish, whole_of}
use Rattle.mb_world.specs.Arrays.{index_key, length_key}
use Rattle.mb_model.specs.Task.{Delete, Answer, Nothing, Value}
use Rattle.mb_model.specs.Writing.{Does, ◌>>=◌, give, pay, flag, perform, type_error, range_error, unless_type_error, or_type_error}
use Rattle.mb_model.specs.Operations.Conversions.{text_by, text_limit, whole_limit}
use Rattle.mb_model.specs.Operations.Calls.{get, call, putv}
use Rattle.mb_model.specs.BuiltIns.Arguments.{arg, need_callable, undefined}
use Rattle.mb_model.specs.BuiltIns.Arrays.{array_start, each_turn, place_value}
use Rattle.mb_model.specs.BuiltIns.ArrayMembers.{push_each, push, pop_deleted, pop_got, pop_from, pop, callback, for_each_found, for_each, for_each_row, reduce_found, reduced, reduce_each, reduce_row, clamped, index_arg, index_found, index_each, index_of_row, join_text, join_add, join_got, separator_at, join_each, separator, join}
use Rattle.std.proofs.Common.{refl}
use Rattle.mb_model.proofs.Kept.Words.{Kept, Goes, keeps->>=, keeps-flag, keeps-give, keeps-if, keeps-or_type_error, keeps-pay, keeps-range_error, keeps-type_error, keeps-unless_type_error}
use Rattle.mb_model.proofs.Kept.BuiltInsArrays.{keeps-array_start, keeps-each_turn}
use Rattle.mb_model.proofs.Kept.OperationsCalls.{keeps-call, keeps-get, keeps-putv}
use Rattle.mb_model.proofs.Kept.BuiltInsArguments.{keeps-need_callable, keeps-undefined}
use Rattle.mb_model.proofs.Kept.OperationsConversions.{keeps-text_by}

-- what the parts of these rows keep (written by tools/kept.py)

pub keeps-push_each : (kept : Kept) (x0 : ℕ) (x1 : Val) (x2 : ℕ) (x3 : List Val) → Goes kept (push_each x0 x1 x2 x3)
keeps-push_each kept s o n [] = keeps->>= kept (putv s o length_key (place_value n)) (λ _. give (Value (place_value
    n))) (keeps-putv kept s o length_key (place_value n)) (λ _. keeps-give kept (Value (place_value n)))
keeps-push_each kept s o n (v ∷ vs) = keeps->>= kept (pay 1) (λ _. (putv s o (index_key n) v) >>= (λ _. push_each s
    o (n + 1) vs)) (keeps-pay kept 1) (λ _. keeps->>= kept (putv s o (index_key n) v) (λ _. push_each s o (n + 1)
    vs) (keeps-putv kept s o (index_key n) v) (λ _. keeps-push_each kept s o (n + 1) vs))

pub keeps-push : (kept : Kept) (x0 : ℕ) (x1 : Val) (x2 : List Val) → Goes kept (push x0 x1 x2)
keeps-push kept s o vs = keeps->>= kept (array_start s o) (λ n. if nat_le (n + length vs) whole_limit then
    push_each s o n vs else type_error s) (keeps-array_start kept s o) (λ n. keeps-if kept (nat_le (n + length vs)
    whole_limit) (push_each s o n vs) (type_error s) (keeps-push_each kept s o n vs) (keeps-type_error kept s))

pub keeps-pop_deleted : (kept : Kept) (x0 : ℕ) (x1 : Val) (x2 : ℕ) (x3 : Val) (x4 : Bool) → Goes kept (pop_deleted
    x0 x1 x2 x3 x4)
keeps-pop_deleted kept s o n v b = keeps->>= kept (unless_type_error s b) (λ _. (putv s o length_key (place_value
    n)) >>= (λ _. give (Value v))) (keeps-unless_type_error kept s b) (λ _. keeps->>= kept (putv s o length_key
    (place_value n)) (λ _. give (Value v)) (keeps-putv kept s o length_key (place_value n)) (λ _. keeps-give kept
    (Value v)))

pub keeps-pop_got : (kept : Kept) (x0 : ℕ) (x1 : Val) (x2 : ℕ) (x3 : Val) → Goes kept (pop_got x0 x1 x2 x3)
keeps-pop_got kept s o n v = keeps->>= kept (flag (perform s (Delete (index_key n)) o)) (λ b. pop_deleted s o n v
    b) (keeps-flag kept (perform s (Delete (index_key n)) o) (λ _. (λ _. tt, λ _ _. refl))) (λ b. keeps-pop_deleted
    kept s o n v b)

pub keeps-pop_from : (kept : Kept) (x0 : ℕ) (x1 : Val) (x2 : ℕ) → Goes kept (pop_from x0 x1 x2)
keeps-pop_from kept s o zero = keeps->>= kept (putv s o length_key (place_value 0)) (λ _. undefined) (keeps-putv
    kept s o length_key (place_value 0)) (λ _. keeps-undefined kept)
keeps-pop_from kept s o (suc n) = keeps->>= kept (get s o (index_key n)) (λ v. pop_got s o n v) (keeps-get kept s o
    (index_key n)) (λ v. keeps-pop_got kept s o n v)

pub keeps-pop : (kept : Kept) (x0 : ℕ) (x1 : Val) → Goes kept (pop x0 x1)
keeps-pop kept s o = keeps->>= kept (array_start s o) (λ n. pop_from s o n) (keeps-array_start kept s o) (λ n.
    keeps-pop_from kept s o n)

pub keeps-callback : (kept : Kept) (x0 : ℕ) (x1 : Val) (x2 : Val) (x3 : Val) (x4 : ℕ) (x5 : Val) → Goes kept
    (callback x0 x1 x2 x3 x4 x5)
keeps-callback kept s f this v k o = keeps-call kept s f this (v ∷ place_value k ∷ o ∷ [])

pub keeps-for_each_found : (kept : Kept) (x0 : ℕ) (x1 : Val) (x2 : Val) (x3 : Val) (x4 : ℕ) (x5 : Option Val) →
    Goes kept (for_each_found x0 x1 x2 x3 x4 x5)
keeps-for_each_found kept s o f this k None = keeps-give kept Nothing
keeps-for_each_found kept s o f this k (Some v) = keeps->>= kept (callback s f this v k o) (λ _. give Nothing)
    (keeps-callback kept s f this v k o) (λ _. keeps-give kept Nothing)

pub keeps-for_each : (kept : Kept) (x0 : ℕ) (x1 : Val) (x2 : Val) (x3 : Val) (x4 : ℕ) (x5 : ℕ) → Goes kept
    (for_each x0 x1 x2 x3 x4 x5)
keeps-for_each kept s o f this zero k = keeps-undefined kept
keeps-for_each kept s o f this (suc n) k = keeps->>= kept (each_turn s o k) (λ v. (for_each_found s o f this k v)
    >>= (λ _. for_each s o f this n (k + 1))) (keeps-each_turn kept s o k) (λ v. keeps->>= kept (for_each_found s o
    f this k v) (λ _. for_each s o f this n (k + 1)) (keeps-for_each_found kept s o f this k v) (λ _.
    keeps-for_each kept s o f this n (k + 1)))

pub keeps-for_each_row : (kept : Kept) (x0 : ℕ) (x1 : Val) (x2 : List Val) → Goes kept (for_each_row x0 x1 x2)
keeps-for_each_row kept s o vs = keeps->>= kept (array_start s o) (λ n. (need_callable s (arg vs 0)) >>= (λ _.
    for_each s o (arg vs 0) (arg vs 1) n 0)) (keeps-array_start kept s o) (λ n. keeps->>= kept (need_callable s
    (arg vs 0)) (λ _. for_each s o (arg vs 0) (arg vs 1) n 0) (keeps-need_callable kept s (arg vs 0)) (λ _.
    keeps-for_each kept s o (arg vs 0) (arg vs 1) n 0))

pub keeps-reduce_found : (kept : Kept) (x0 : ℕ) (x1 : Val) (x2 : Val) (x3 : ℕ) (x4 : Option Val) (x5 : Option Val)
    → Goes kept (reduce_found x0 x1 x2 x3 x4 x5)
keeps-reduce_found kept s o f k a None = keeps-give kept a
keeps-reduce_found kept s o f k None (Some v) = keeps-give kept (Some v)
keeps-reduce_found kept s o f k (Some a) (Some v) = keeps->>= kept (call s f Undefined (a ∷ v ∷ place_value k ∷ o ∷
    [])) (λ w. give (Some w)) (keeps-call kept s f Undefined (a ∷ v ∷ place_value k ∷ o ∷ [])) (λ w. keeps-give
    kept (Some w))

pub keeps-reduced : (kept : Kept) (x0 : ℕ) (x1 : Option Val) → Goes kept (reduced x0 x1)
keeps-reduced kept s a = keeps->>= kept (or_type_error s a) (λ v. give (Value v)) (keeps-or_type_error kept s a) (λ
    v. keeps-give kept (Value v))

pub keeps-reduce_each : (kept : Kept) (x0 : ℕ) (x1 : Val) (x2 : Val) (x3 : ℕ) (x4 : ℕ) (x5 : Option Val) → Goes
    kept (reduce_each x0 x1 x2 x3 x4 x5)
keeps-reduce_each kept s o f zero k a = keeps-reduced kept s a
keeps-reduce_each kept s o f (suc n) k a = keeps->>= kept (each_turn s o k) (λ v. (reduce_found s o f k a v) >>= (λ
    b. reduce_each s o f n (k + 1) b)) (keeps-each_turn kept s o k) (λ v. keeps->>= kept (reduce_found s o f k a v)
    (λ b. reduce_each s o f n (k + 1) b) (keeps-reduce_found kept s o f k a v) (λ b. keeps-reduce_each kept s o f n
    (k + 1) b))

pub keeps-reduce_row : (kept : Kept) (x0 : ℕ) (x1 : Val) (x2 : List Val) → Goes kept (reduce_row x0 x1 x2)
keeps-reduce_row kept s o vs = keeps->>= kept (array_start s o) (λ n. (need_callable s (arg vs 0)) >>= (λ _.
    reduce_each s o (arg vs 0) n 0 (slice_get vs 1))) (keeps-array_start kept s o) (λ n. keeps->>= kept
    (need_callable s (arg vs 0)) (λ _. reduce_each s o (arg vs 0) n 0 (slice_get vs 1)) (keeps-need_callable kept s
    (arg vs 0)) (λ _. keeps-reduce_each kept s o (arg vs 0) n 0 (slice_get vs 1)))

pub keeps-index_arg : (kept : Kept) (x0 : ℕ) (x1 : ℕ) (x2 : ℕ) (x3 : Val) → Goes kept (index_arg x0 x1 x2 x3)
keeps-index_arg kept s default n Undefined = keeps-give kept default
keeps-index_arg kept s default n v = keeps->>= kept (or_type_error s (whole_of v)) (λ z. give (clamped n z))
    (keeps-or_type_error kept s (whole_of v)) (λ z. keeps-give kept (clamped n z))

pub keeps-index_found : (kept : Kept) (x0 : Val) (x1 : ℕ) (x2 : Does Answer) (px2 : Goes kept (x2)) (x3 : Option
    Val) → Goes kept (index_found x0 x1 x2 x3)
keeps-index_found kept x k more keeps-more None = keeps-more
keeps-index_found kept x k more keeps-more (Some v) = keeps-if kept (same_value v x) (give (Value (place_value k)))
    (more) (keeps-give kept (Value (place_value k))) (keeps-more)

pub keeps-index_each : (kept : Kept) (x0 : ℕ) (x1 : Val) (x2 : Val) (x3 : ℕ) (x4 : ℕ) → Goes kept (index_each x0 x1
    x2 x3 x4)
keeps-index_each kept s o x zero k = keeps-give kept (Value (Whole (negsuc 0)))
keeps-index_each kept s o x (suc n) k = keeps->>= kept (each_turn s o k) (λ v. index_found x k (index_each s o x n
    (k + 1)) v) (keeps-each_turn kept s o k) (λ v. keeps-index_found kept x k (index_each s o x n (k + 1))
    (keeps-index_each kept s o x n (k + 1)) v)

pub keeps-index_of_row : (kept : Kept) (x0 : ℕ) (x1 : Val) (x2 : List Val) → Goes kept (index_of_row x0 x1 x2)
keeps-index_of_row kept s o vs = keeps->>= kept (array_start s o) (λ n. (index_arg s 0 n (arg vs 1)) >>= (λ from.
    index_each s o (arg vs 0) (n - from) from)) (keeps-array_start kept s o) (λ n. keeps->>= kept (index_arg s 0 n
    (arg vs 1)) (λ from. index_each s o (arg vs 0) (n - from) from) (keeps-index_arg kept s 0 n (arg vs 1)) (λ
    from. keeps-index_each kept s o (arg vs 0) (n - from) from))

pub keeps-join_text : (kept : Kept) (x0 : ℕ) (x1 : Val) → Goes kept (join_text x0 x1)
keeps-join_text kept s v = keeps-if kept (is_nullish v) (give []) (text_by s v) (keeps-give kept []) (keeps-text_by
    kept s v)

pub keeps-join_add : (kept : Kept) (x0 : ℕ) (x1 : List ℕ) (x2 : List ℕ) → Goes kept (join_add x0 x1 x2)
keeps-join_add kept s so_far t = keeps-if kept (nat_lt text_limit (length so_far + length t)) (range_error s) (give
    (so_far ++ t)) (keeps-range_error kept s) (keeps-give kept (so_far ++ t))

pub keeps-join_got : (kept : Kept) (x0 : ℕ) (x1 : List ℕ) (x2 : Val) → Goes kept (join_got x0 x1 x2)
keeps-join_got kept s so_far v = keeps->>= kept (join_text s v) (λ t. join_add s so_far t) (keeps-join_text kept s
    v) (λ t. keeps-join_add kept s so_far t)

pub keeps-join_each : (kept : Kept) (x0 : ℕ) (x1 : Val) (x2 : List ℕ) (x3 : ℕ) (x4 : ℕ) (x5 : List ℕ) → Goes kept
    (join_each x0 x1 x2 x3 x4 x5)
keeps-join_each kept s o sep zero k so_far = keeps->>= kept (pay (length so_far / 64)) (λ _. give (Value (Text
    so_far))) (keeps-pay kept (length so_far / 64)) (λ _. keeps-give kept (Value (Text so_far)))
keeps-join_each kept s o sep (suc n) k so_far = keeps->>= kept (pay 1) (λ _. (join_add s so_far (separator_at k
    sep)) >>= (λ u. (get s o (index_key k)) >>= (λ v. (join_got s u v) >>= (λ w. join_each s o sep n (k + 1) w))))
    (keeps-pay kept 1) (λ _. keeps->>= kept (join_add s so_far (separator_at k sep)) (λ u. (get s o (index_key k))
    >>= (λ v. (join_got s u v) >>= (λ w. join_each s o sep n (k + 1) w))) (keeps-join_add kept s so_far
    (separator_at k sep)) (λ u. keeps->>= kept (get s o (index_key k)) (λ v. (join_got s u v) >>= (λ w. join_each s
    o sep n (k + 1) w)) (keeps-get kept s o (index_key k)) (λ v. keeps->>= kept (join_got s u v) (λ w. join_each s
    o sep n (k + 1) w) (keeps-join_got kept s u v) (λ w. keeps-join_each kept s o sep n (k + 1) w))))

pub keeps-separator : (kept : Kept) (x0 : ℕ) (x1 : Val) → Goes kept (separator x0 x1)
keeps-separator kept s v = keeps-if kept (is_undefined v) (give (44 ∷ [])) (text_by s v) (keeps-give kept (44 ∷
    [])) (keeps-text_by kept s v)

pub keeps-join : (kept : Kept) (x0 : ℕ) (x1 : Val) (x2 : Val) → Goes kept (join x0 x1 x2)
keeps-join kept s o sep = keeps->>= kept (array_start s o) (λ n. (separator s sep) >>= (λ t. join_each s o t n 0
    [])) (keeps-array_start kept s o) (λ n. keeps->>= kept (separator s sep) (λ t. join_each s o t n 0 [])
    (keeps-separator kept s sep) (λ t. keeps-join_each kept s o t n 0 []))
