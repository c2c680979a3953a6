use Rattle.std.specs.Prelude.{ℕ, zero, suc, ◌+◌, List, [], ◌∷◌, ◌++◌, length, Bool, true, false, not, Option, Some, None, if◌then◌else◌, slice_get, pos, negsuc, ℤ, ◌||◌}
use Rattle.mb_world.specs.Value.{Val, Undefined, Whole, Text, is_object, whole_of, is_nullish}
use Rattle.mb_world.specs.Key.{PropertyKey, same_key, index_of_key, is_property_key}
use Rattle.mb_world.specs.Graph.{Kind, Array, Proxy, Gone, Thing}
use Rattle.mb_world.specs.Objects.{thing_at}
use Rattle.mb_world.specs.Arrays.{index_key, length_key}
use Rattle.mb_world.specs.View.{is_cut}
use Rattle.mb_model.specs.Task.{Get, Set, Call, Answer}
use Rattle.mb_model.specs.Writing.{Does, ◌>>=◌, give, pay, look, value, flag, perform, type_error, unless_type_error, or_type_error}

-- what rows ask of objects (ECMA-262 7.3): Get, Call, GetV, Set, lengths and lists, and IsArray

-- Get (ECMA-262 7.3.2)
abbrev pub get : ℕ → Val → PropertyKey → Does Val
get s o k = value (perform s (Get k o) o)

-- Call (ECMA-262 7.3.14)
abbrev pub call : ℕ → Val → Val → List Val → Does Val
call s f this vs = value (perform s (Call this vs) f)

abbrev pub unit_at : Option ℕ → Val
unit_at None = Undefined
unit_at (Some c) = Text (c ∷ [])

abbrev pub text_index : List ℕ → Option ℕ → Val
text_index t None = Undefined
text_index t (Some i) = unit_at (slice_get t i)

abbrev pub is_length : PropertyKey → Bool
is_length k = same_key k length_key

-- what a text has at a key: its `length`, or at an index the unit there, as a text (ECMA-262 10.4.3.5)
abbrev pub text_property : List ℕ → PropertyKey → Val
text_property t k = if is_length k then Whole (pos (length t)) else text_index t (index_of_key k)

-- GetV (ECMA-262 7.3.3)
abbrev pub getv : ℕ → Val → PropertyKey → Does Val
getv s (Text t) k = give (text_property t k)
getv s v k =
    if is_object v then get s v k
    else if is_nullish v then type_error s
    else give Undefined

abbrev pub set_in : ℕ → Val → PropertyKey → Val → Does Answer
set_in s o k v = do
  done ← flag (perform s (Set k v o) o)
  unless_type_error s done

-- Set, which throws where it fails (ECMA-262 7.3.4)
abbrev pub putv : ℕ → Val → PropertyKey → Val → Does Answer
putv s v k x = if is_object v then set_in s v k x else type_error s

-- a number below 0 counts as 0
abbrev pub not_below_zero : ℤ → ℕ
not_below_zero (pos n) = n
not_below_zero (negsuc n) = 0

abbrev pub length_from : ℕ → Val → Does ℕ
length_from s Undefined = give 0
length_from s v = do
  z ← or_type_error s (whole_of v)
  give (not_below_zero z)

-- LengthOfArrayLike (ECMA-262 7.3.19)
abbrev pub length_of : ℕ → Val → Does ℕ
length_of s o = do
  n ← get s o length_key
  length_from s n

-- where keys are asked, an element is a text or a symbol
abbrev pub listed : ℕ → Bool → Val → Does Answer
listed s as_keys v = unless_type_error s (not as_keys || is_property_key v)

-- an element was got
abbrev pub list_got : ℕ → Bool → List Val → Val → Does (List Val)
list_got s as_keys vs v = do
  _ ← listed s as_keys v
  give (vs ++ (v ∷ []))

-- the elements from k on, n of them, after those that were got
abbrev pub list_from : ℕ → Bool → Val → ℕ → ℕ → List Val → Does (List Val)
list_from s as_keys x zero k vs = give vs
list_from s as_keys x (suc n) k vs = do
  _ ← pay 1
  v ← get s x (index_key k)
  ws ← list_got s as_keys vs v
  list_from s as_keys x n (k + 1) ws

abbrev pub list_of_object : ℕ → Bool → Val → Does (List Val)
list_of_object s as_keys x = do
  n ← length_of s x
  list_from s as_keys x n 0 []

-- CreateListFromArrayLike (ECMA-262 7.3.20); where keys are asked, it has texts and symbols alone
abbrev pub list_of : ℕ → Bool → Val → Does (List Val)
list_of s as_keys x = if is_object x then list_of_object s as_keys x else type_error s

-- ---- IsArray (ECMA-262 7.2.2), which costs nothing

abbrev pub target_is_array : Kind → Bool
target_is_array Array = true
target_is_array _ = false

-- a Proxy's target, which is no Proxy, for the side that asked
abbrev pub array_target : ℕ → Option Thing → Does Bool
array_target s None = give false
array_target s (Some t) = do
  cut ← look (λ g. is_cut g s t)
  _ ← unless_type_error s (not cut)
  give (target_is_array t.kind)

abbrev pub array_kind : ℕ → Kind → Does Bool
array_kind s Array = give true
array_kind s (Proxy target handler shape) = do
  t ← look (λ g. thing_at g target)
  array_target s t
array_kind s (Gone shape) = type_error s
array_kind s _ = give false

abbrev pub array_thing_is : ℕ → Option Thing → Does Bool
array_thing_is s None = give false
array_thing_is s (Some t) = do
  cut ← look (λ g. is_cut g s t)
  _ ← unless_type_error s (not cut)
  array_kind s t.kind

abbrev pub is_array : ℕ → Val → Does Bool
is_array s x = do
  t ← look (λ g. thing_at g x)
  array_thing_is s t
