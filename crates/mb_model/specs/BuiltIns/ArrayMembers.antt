use Rattle.std.specs.Prelude.{ℕ, zero, suc, ◌+◌, ◌-◌, ◌/◌, List, [], ◌∷◌, ◌++◌, length, min, Bool, nat_lt, nat_le, Option, Some, None, if◌then◌else◌, slice_get, pos, negsuc, ℤ}
use Rattle.mb_world.specs.Value.{Val, Undefined, Whole, Text, same_value, is_undefined, is_nullish, to_boolean, whole_of}
use Rattle.mb_world.specs.Arrays.{index_key, length_key}
use Rattle.mb_model.specs.Task.{Delete, Answer, Nothing, Value}
use Rattle.mb_model.specs.Writing.{Does, ◌>>=◌, give, pay, flag, perform, type_error, range_error, unless_type_error, or_type_error}
use Rattle.mb_model.specs.Objects.Methods.{store_element}
use Rattle.mb_model.specs.Operations.Conversions.{text_by, text_limit, whole_limit}
use Rattle.mb_model.specs.Operations.Calls.{get, call, putv}
use Rattle.mb_model.specs.BuiltIns.Arguments.{arg, need_callable, undefined}
use Rattle.mb_model.specs.BuiltIns.Arrays.{array_start, each_turn, place_value, fresh_array}

-- the members of Array.prototype

-- push (ECMA-262 23.1.3.23)
abbrev pub push_each : ℕ → Val → ℕ → List Val → Does Answer
push_each s o n [] = do
  _ ← putv s o length_key (place_value n)
  give (Value (place_value n))
push_each s o n (v ∷ vs) = do
  _ ← pay 1
  _ ← putv s o (index_key n) v
  push_each s o (n + 1) vs

abbrev pub push : ℕ → Val → List Val → Does Answer
push s o vs = do
  n ← array_start s o
  if nat_le (n + length vs) whole_limit then push_each s o n vs else type_error s

-- pop (ECMA-262 23.1.3.22)
abbrev pub pop_deleted : ℕ → Val → ℕ → Val → Bool → Does Answer
pop_deleted s o n v b = do
  _ ← unless_type_error s b
  _ ← putv s o length_key (place_value n)
  give (Value v)

abbrev pub pop_got : ℕ → Val → ℕ → Val → Does Answer
pop_got s o n v = do
  b ← flag (perform s (Delete (index_key n)) o)
  pop_deleted s o n v b

abbrev pub pop_from : ℕ → Val → ℕ → Does Answer
pop_from s o zero = do
  _ ← putv s o length_key (place_value 0)
  undefined
pop_from s o (suc n) = do
  v ← get s o (index_key n)
  pop_got s o n v

abbrev pub pop : ℕ → Val → Does Answer
pop s o = do
  n ← array_start s o
  pop_from s o n

abbrev pub callback : ℕ → Val → Val → Val → ℕ → Val → Does Val
callback s f this v k o = call s f this (v ∷ place_value k ∷ o ∷ [])

-- forEach (ECMA-262 23.1.3.15): f is called with this, for the n elements from k on
abbrev pub for_each_found : ℕ → Val → Val → Val → ℕ → Option Val → Does Answer
for_each_found s o f this k None = give Nothing
for_each_found s o f this k (Some v) = do
  _ ← callback s f this v k o
  give Nothing

abbrev pub for_each : ℕ → Val → Val → Val → ℕ → ℕ → Does Answer
for_each s o f this zero k = undefined
for_each s o f this (suc n) k = do
  v ← each_turn s o k
  _ ← for_each_found s o f this k v
  for_each s o f this n (k + 1)

abbrev pub for_each_row : ℕ → Val → List Val → Does Answer
for_each_row s o vs = do
  n ← array_start s o
  _ ← need_callable s (arg vs 0)
  for_each s o (arg vs 0) (arg vs 1) n 0

-- map (ECMA-262 23.1.3.21), into the array a
abbrev pub map_found : ℕ → Val → Val → Val → Val → ℕ → Option Val → Does Answer
map_found s o f this a k None = give Nothing
map_found s o f this a k (Some v) = do
  w ← callback s f this v k o
  store_element s a k w

abbrev pub map_each : ℕ → Val → Val → Val → Val → ℕ → ℕ → Does Answer
map_each s o f this a zero k = give (Value a)
map_each s o f this a (suc n) k = do
  v ← each_turn s o k
  _ ← map_found s o f this a k v
  map_each s o f this a n (k + 1)

abbrev pub map_row : ℕ → Val → List Val → Does Answer
map_row s o vs = do
  n ← array_start s o
  _ ← need_callable s (arg vs 0)
  a ← fresh_array s n
  map_each s o (arg vs 0) (arg vs 1) a n 0

-- filter (ECMA-262 23.1.3.8), into the array a, which has so many elements
abbrev pub filter_kept : ℕ → Val → Val → ℕ → Does ℕ
filter_kept s a v count = do
  _ ← store_element s a count v
  give (count + 1)

abbrev pub filter_called : ℕ → Val → Val → ℕ → Val → Does ℕ
filter_called s a v count w = if to_boolean w then filter_kept s a v count else give count

abbrev pub filter_found : ℕ → Val → Val → Val → Val → ℕ → ℕ → Option Val → Does ℕ
filter_found s o f this a k count None = give count
filter_found s o f this a k count (Some v) = do
  w ← callback s f this v k o
  filter_called s a v count w

abbrev pub filter_each : ℕ → Val → Val → Val → Val → ℕ → ℕ → ℕ → Does Answer
filter_each s o f this a zero k count = give (Value a)
filter_each s o f this a (suc n) k count = do
  v ← each_turn s o k
  c ← filter_found s o f this a k count v
  filter_each s o f this a n (k + 1) c

abbrev pub filter_row : ℕ → Val → List Val → Does Answer
filter_row s o vs = do
  n ← array_start s o
  _ ← need_callable s (arg vs 0)
  a ← fresh_array s 0
  filter_each s o (arg vs 0) (arg vs 1) a n 0 0

-- reduce (ECMA-262 23.1.3.24); the first element begins where nothing else does
abbrev pub reduce_found : ℕ → Val → Val → ℕ → Option Val → Option Val → Does (Option Val)
reduce_found s o f k a None = give a
reduce_found s o f k None (Some v) = give (Some v)
reduce_found s o f k (Some a) (Some v) = do
  w ← call s f Undefined (a ∷ v ∷ place_value k ∷ o ∷ [])
  give (Some w)

abbrev pub reduced : ℕ → Option Val → Does Answer
reduced s a = do
  v ← or_type_error s a
  give (Value v)

abbrev pub reduce_each : ℕ → Val → Val → ℕ → ℕ → Option Val → Does Answer
reduce_each s o f zero k a = reduced s a
reduce_each s o f (suc n) k a = do
  v ← each_turn s o k
  b ← reduce_found s o f k a v
  reduce_each s o f n (k + 1) b

abbrev pub reduce_row : ℕ → Val → List Val → Does Answer
reduce_row s o vs = do
  n ← array_start s o
  _ ← need_callable s (arg vs 0)
  reduce_each s o (arg vs 0) n 0 (slice_get vs 1)

-- a number below 0 counts from the end (the clamping of ECMA-262 23.1.3)
abbrev pub clamped : ℕ → ℤ → ℕ
clamped n (pos k) = min k n
clamped n (negsuc k) = n - suc k

-- an index argument (ECMA-262 7.1.5)
abbrev pub index_arg : ℕ → ℕ → ℕ → Val → Does ℕ
index_arg s default n Undefined = give default
index_arg s default n v = do
  z ← or_type_error s (whole_of v)
  give (clamped n z)

-- indexOf (ECMA-262 23.1.3.17)
abbrev pub index_found : Val → ℕ → Does Answer → Option Val → Does Answer
index_found x k more None = more
index_found x k more (Some v) = if same_value v x then give (Value (place_value k)) else more

abbrev pub index_each : ℕ → Val → Val → ℕ → ℕ → Does Answer
index_each s o x zero k = give (Value (Whole (negsuc 0)))
index_each s o x (suc n) k = do
  v ← each_turn s o k
  index_found x k (index_each s o x n (k + 1)) v

abbrev pub index_of_row : ℕ → Val → List Val → Does Answer
index_of_row s o vs = do
  n ← array_start s o
  from ← index_arg s 0 n (arg vs 1)
  index_each s o (arg vs 0) (n - from) from

-- slice (ECMA-262 23.1.3.28)
abbrev pub slice_found : ℕ → Val → ℕ → Option Val → Does Answer
slice_found s a k None = give Nothing
slice_found s a k (Some v) = store_element s a k v

abbrev pub slice_each : ℕ → Val → Val → ℕ → ℕ → ℕ → Does Answer
slice_each s o a zero from k = give (Value a)
slice_each s o a (suc n) from k = do
  v ← each_turn s o (from + k)
  _ ← slice_found s a k v
  slice_each s o a n from (k + 1)

abbrev pub slice : ℕ → Val → List Val → Does Answer
slice s o vs = do
  n ← array_start s o
  from ← index_arg s 0 n (arg vs 0)
  to ← index_arg s n n (arg vs 1)
  a ← fresh_array s (to - from)
  slice_each s o a (to - from) from 0

-- join (ECMA-262 23.1.3.18)
abbrev pub join_text : ℕ → Val → Does (List ℕ)
join_text s v = if is_nullish v then give [] else text_by s v

abbrev pub join_add : ℕ → List ℕ → List ℕ → Does (List ℕ)
join_add s so_far t = if nat_lt text_limit (length so_far + length t) then range_error s else give (so_far ++ t)

abbrev pub join_got : ℕ → List ℕ → Val → Does (List ℕ)
join_got s so_far v = do
  t ← join_text s v
  join_add s so_far t

abbrev pub separator_at : ℕ → List ℕ → List ℕ
separator_at zero sep = []
separator_at (suc k) sep = sep

abbrev pub join_each : ℕ → Val → List ℕ → ℕ → ℕ → List ℕ → Does Answer
join_each s o sep zero k so_far = do
  _ ← pay (length so_far / 64)
  give (Value (Text so_far))
join_each s o sep (suc n) k so_far = do
  _ ← pay 1
  u ← join_add s so_far (separator_at k sep)
  v ← get s o (index_key k)
  w ← join_got s u v
  join_each s o sep n (k + 1) w

abbrev pub separator : ℕ → Val → Does (List ℕ)
separator s v = if is_undefined v then give (44 ∷ []) else text_by s v

abbrev pub join : ℕ → Val → Val → Does Answer
join s o sep = do
  n ← array_start s o
  t ← separator s sep
  join_each s o t n 0 []
