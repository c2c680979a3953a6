-- The rest of Array or of a member of Array.prototype that waits (ECMA-262 23.1).
use Rattle.std.specs.Prelude.{◌+◌, ◌-◌, List, Option, Some, [], drop, if◌then◌else◌, length, nat_le, option_map, ℕ}
use Rattle.mb_frames.specs.Resolved.{values_in}
use Rattle.mb_model.specs.BuiltIns.Arguments.{need_callable, prototype_or}
use Rattle.mb_model.specs.BuiltIns.ArrayMembers.{filter_called, filter_each, filter_found, for_each, for_each_found, index_arg, index_each, index_found, join_each, join_got, map_each, map_found, pop_deleted, pop_from, pop_got, push_each, reduce_each, reduce_found, separator, slice_each, slice_found}
use Rattle.mb_model.specs.BuiltIns.Arrays.{array_from, element_found, fresh_array, place_value}
use Rattle.mb_model.specs.Objects.Methods.{store_element}
use Rattle.mb_model.specs.Operations.Calls.{length_from}
use Rattle.mb_model.specs.Operations.Conversions.{whole_limit}
use Rattle.mb_model.specs.Task.{Answer, Value}
use Rattle.mb_model.specs.Writing.{◌>>=◌, Does, flag_in, give, type_error, unless_type_error, value_in}
use Rattle.mb_world.specs.Image.{Names, Resolve, object_in}
use Rattle.mb_world.specs.Standard.{array_prototype}
use Rattle.mb_world.specs.Value.{Val}
use Rattle.mb_frames.specs.declared.arrays.Member.{Member}
use Rattle.mb_frames.specs.declared.arrays.Member.TheVariants as member
use Rattle.mb_frames.specs.declared.arrays.Callback.{Callback}
use Rattle.mb_frames.specs.declared.arrays.Callback.TheVariants as callback
use Rattle.mb_frames.specs.declared.arrays.Turn.{Turn as FrameTurn}
use Rattle.mb_frames.specs.declared.arrays.Turn.TheVariants as turn
use Rattle.mb_frames.specs.declared.arrays.ArrayFrame.{ArrayFrame}
use Rattle.mb_frames.specs.declared.arrays.ArrayFrame.TheVariants as y

-- ---- a member, once it has the length

abbrev pub push_from : ℕ → Val → List Val → ℕ → Does Answer
push_from s o vs m = if nat_le (m + length vs) whole_limit then push_each s o m vs else type_error s

abbrev pub for_each_from : ℕ → Val → Val → Val → ℕ → Does Answer
for_each_from s o f this m = do
  _ ← need_callable s f
  for_each s o f this m 0

abbrev pub map_from : ℕ → Val → Val → Val → ℕ → Does Answer
map_from s o f this m = do
  _ ← need_callable s f
  a ← fresh_array s m
  map_each s o f this a m 0

abbrev pub filter_from : ℕ → Val → Val → Val → ℕ → Does Answer
filter_from s o f this m = do
  _ ← need_callable s f
  a ← fresh_array s 0
  filter_each s o f this a m 0 0

abbrev pub reduce_from : ℕ → Val → Val → Option Val → ℕ → Does Answer
reduce_from s o f first m = do
  _ ← need_callable s f
  reduce_each s o f m 0 first

abbrev pub index_from : ℕ → Val → Val → Val → ℕ → Does Answer
index_from s o x from m = do
  k ← index_arg s 0 m from
  index_each s o x (m - k) k

abbrev pub slice_from : ℕ → Val → Val → Val → ℕ → Does Answer
slice_from s o from to m = do
  k ← index_arg s 0 m from
  l ← index_arg s m m to
  a ← fresh_array s (l - k)
  slice_each s o a (l - k) k 0

abbrev pub join_from : ℕ → Val → Val → ℕ → Does Answer
join_from s o sep m = do
  t ← separator s sep
  join_each s o t m 0 []

abbrev pub member_from : Names → ℕ → Val → Member → ℕ → Does Answer
member_from n s o (member.Push vs) m = push_from s o (values_in n vs) m
member_from n s o member.Pop m = pop_from s o m
member_from n s o (member.ForEach f this) m = for_each_from s o (Resolve n f) (Resolve n this) m
member_from n s o (member.Map f this) m = map_from s o (Resolve n f) (Resolve n this) m
member_from n s o (member.Filter f this) m = filter_from s o (Resolve n f) (Resolve n this) m
member_from n s o (member.Reduce f first) m = reduce_from s o (Resolve n f) (option_map (Resolve n) first) m
member_from n s o (member.IndexOf x from) m = index_from s o (Resolve n x) (Resolve n from) m
member_from n s o (member.Slice from to) m = slice_from s o (Resolve n from) (Resolve n to) m
member_from n s o (member.Join sep) m = join_from s o (Resolve n sep) m

-- ---- a turn of a loop over the elements: the element at a place was found or not, and so many come after it

-- the index of the element at a place
abbrev pub turn_index : FrameTurn → ℕ → ℕ
turn_index (turn.Call f) k = k
turn_index (turn.IndexOf x) k = k
turn_index (turn.Slice array from) k = from + k

abbrev pub call_found : Names → ℕ → Val → Callback → ℕ → ℕ → Option Val → Does Answer
call_found n s o (callback.ForEach f this) k m v =
    for_each_found s o (Resolve n f) (Resolve n this) k v
    >>= (λ b. for_each s o (Resolve n f) (Resolve n this) m (k + 1))
call_found n s o (callback.Map f this array) k m v =
    map_found s o (Resolve n f) (Resolve n this) (object_in n array) k v
    >>= (λ b. map_each s o (Resolve n f) (Resolve n this) (object_in n array) m (k + 1))
call_found n s o (callback.Filter f this array count) k m v =
    filter_found s o (Resolve n f) (Resolve n this) (object_in n array) k count v
    >>= filter_each s o (Resolve n f) (Resolve n this) (object_in n array) m (k + 1)
call_found n s o (callback.Reduce f so_far) k m v =
    reduce_found s o (Resolve n f) k (option_map (Resolve n) so_far) v >>= reduce_each s o (Resolve n f) m (k + 1)

abbrev pub turn_found : Names → ℕ → Val → FrameTurn → ℕ → ℕ → Option Val → Does Answer
turn_found n s o (turn.Call f) k m v = call_found n s o f k m v
turn_found n s o (turn.IndexOf x) k m v = index_found (Resolve n x) k (index_each s o (Resolve n x) m (k + 1)) v
turn_found n s o (turn.Slice array from) k m v =
    slice_found s (object_in n array) k v >>= (λ b. slice_each s o (object_in n array) m from (k + 1))

-- the function was called with the element x, and gave w
abbrev pub callback_called : Names → ℕ → Val → Val → ℕ → ℕ → Val → Callback → Does Answer
callback_called n s o x k m w (callback.ForEach f this) = for_each s o (Resolve n f) (Resolve n this) m (k + 1)
callback_called n s o x k m w (callback.Map f this array) =
    store_element s (object_in n array) k w
    >>= (λ b. map_each s o (Resolve n f) (Resolve n this) (object_in n array) m (k + 1))
callback_called n s o x k m w (callback.Filter f this array count) =
    filter_called s (object_in n array) x count w
    >>= filter_each s o (Resolve n f) (Resolve n this) (object_in n array) m (k + 1)
callback_called n s o x k m w (callback.Reduce f so_far) = reduce_each s o (Resolve n f) m (k + 1) (Some w)

-- ---- each that waits

abbrev pub array_rest : Names → ℕ → ArrayFrame → Answer → Does Answer
array_rest n s (y.Prototype arguments) a =
    array_from s (values_in n arguments) (prototype_or array_prototype (value_in a))
array_rest n s (y.Length object member) a = length_from s (value_in a) >>= member_from n s (object_in n object) member
array_rest n s (y.There object place left turn) a =
    element_found s (object_in n object) (turn_index turn place) (flag_in a)
    >>= turn_found n s (object_in n object) turn place left
array_rest n s (y.Got object place left turn) a =
    turn_found n s (object_in n object) turn place left (Some (value_in a))
array_rest n s (y.Called object place left element callback) a =
    callback_called n s (object_in n object) (Resolve n element) place left (value_in a) callback
array_rest n s (y.PushSet object place arguments next) a =
    unless_type_error s (flag_in a)
    >>= (λ b. push_each s (object_in n object) (place + 1) (drop next (values_in n arguments)))
array_rest n s (y.PushLength length) a = unless_type_error s (flag_in a) >>= (λ b. give (Value (place_value length)))
array_rest n s (y.PopGot object place) a = pop_got s (object_in n object) place (value_in a)
array_rest n s (y.PopDeleted object place value) a =
    pop_deleted s (object_in n object) place (Resolve n value) (flag_in a)
array_rest n s (y.PopLength value) a = unless_type_error s (flag_in a) >>= (λ b. give (Value (Resolve n value)))
array_rest n s (y.JoinGot object place left separator so_far) a =
    join_got s so_far (value_in a) >>= join_each s (object_in n object) separator left (place + 1)
