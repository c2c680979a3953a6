use Rattle.std.specs.Prelude.{ℕ, ◌+◌, List, [], ◌∷◌, map, Bool, true, false, not, ◌&&◌, ◌||◌, Option, Some, None, if◌then◌else◌, slice_get, pos}
use Rattle.mb_world.specs.declared.cell.Coll.{Coll}
use Rattle.mb_world.specs.declared.cell.Coll.TheVariants.{Map as MapColl, Set as SetColl, WeakMap as WeakMapColl}
use Rattle.mb_world.specs.Value.{Val, Undefined, Whole, Symbol, same_value, is_undefined, is_object}
use Rattle.mb_world.specs.Graph.{Slots, Kind, Collection, Thing}
use Rattle.mb_world.specs.Standard.{collection_prototype}
use Rattle.mb_world.specs.Objects.{thing_at, thing_is, new_thing}
use Rattle.mb_model.specs.Task.{Request, GetAt, SetAt, Add, Has, DeleteAt, Clear, Size, Slot, Access, Visit, Answer, Nothing, Value, Pair, Empty}
use Rattle.mb_model.specs.Writing.{yes_or_no, Does, ◌>>=◌, give, answer, again, pay, look, flag, make, type_error, unless_type_error, truth}
use Rattle.mb_model.specs.Operations.Makings.{alter}
use Rattle.mb_model.specs.Operations.Calls.{call}
use Rattle.mb_world.specs.View.{is_cut}
use Rattle.mb_model.specs.BuiltIns.Arguments.{arg, need_callable, undefined, made_prototype}

-- Map, Set and WeakMap (ECMA-262 24)

-- ---- the slots of a collection: a key is compared as by `===`

abbrev pub slot_has : Val → Option (Val × Val) → Bool
slot_has k None = false
slot_has k (Some p) = same_value p.0 k

abbrev pub has_pair : Val → Slots → Bool
has_pair k [] = false
has_pair k (p ∷ ps) = slot_has k p || has_pair k ps

abbrev pub value_if : Val → Option (Val × Val) → Val → Val
value_if k None other = other
value_if k (Some p) other = if same_value p.0 k then p.1 else other

-- the value at a key, or undefined
abbrev pub pair_value : Val → Slots → Val
pair_value k [] = Undefined
pair_value k (p ∷ ps) = value_if k p (pair_value k ps)

-- the slot of a key stays its own, a new one gets a new last slot
abbrev pub put_pair : Val → Val → Slots → Slots
put_pair k v [] = Some (k, v) ∷ []
put_pair k v (p ∷ ps) = if slot_has k p then Some (k, v) ∷ ps else p ∷ put_pair k v ps

-- the slot of a key is emptied
abbrev pub remove_pair : Val → Slots → Slots
remove_pair k [] = []
remove_pair k (p ∷ ps) = if slot_has k p then None ∷ ps else p ∷ remove_pair k ps

abbrev pub emptied : Slots → Slots
emptied ps = map (λ p. None) ps

abbrev pub one_if_there : Option (Val × Val) → ℕ
one_if_there None = 0
one_if_there (Some p) = 1

abbrev pub count_pairs : Slots → ℕ
count_pairs [] = 0
count_pairs (p ∷ ps) = one_if_there p + count_pairs ps

-- CanBeHeldWeakly (ECMA-262 9.14)
abbrev pub can_be_held_weakly : Val → Bool
can_be_held_weakly (Symbol n) = true
can_be_held_weakly v = is_object v

-- a collection may have the key
abbrev pub may_hold : Coll → Val → Bool
may_hold MapColl k = true
may_hold SetColl k = true
may_hold WeakMapColl k = can_be_held_weakly k

-- ---- one access: its charge is that of its task

abbrev pub with_slots : Coll → Slots → Thing → Thing
with_slots kind ps t = record t { kind = Collection kind ps }

abbrev pub pair_stored : ℕ → Val → Coll → Slots → Val → Val → Bool → Does Answer
pair_stored s c kind ps k v false = type_error s
pair_stored s c kind ps k v true = do
  _ ← alter c (with_slots kind (put_pair k v ps))
  yes_or_no true

abbrev pub pair_deleted : Val → Coll → Slots → Val → Bool → Does Answer
pair_deleted c kind ps k false = yes_or_no false
pair_deleted c kind ps k true = do
  _ ← alter c (with_slots kind (remove_pair k ps))
  yes_or_no true

-- what is in a slot, which is past the last one where there is none
abbrev pub slot_answer : Option (Option (Val × Val)) → Answer
slot_answer None = Nothing
slot_answer (Some None) = Empty
slot_answer (Some (Some p)) = Pair p.0 p.1

-- the steps of Map.prototype, Set.prototype and WeakMap.prototype (ECMA-262 24.1.3, 24.2.3, 24.3.3) on the slots
abbrev pub access_slots : ℕ → Val → Coll → Slots → Request → Does Answer
access_slots s c kind ps (GetAt k) = give (Value (if may_hold kind k then pair_value k ps else Undefined))
access_slots s c kind ps (SetAt k v) = pair_stored s c kind ps k v (may_hold kind k)
access_slots s c kind ps (Add k) = pair_stored s c kind ps k k (may_hold kind k)
access_slots s c kind ps (Has k) = yes_or_no (may_hold kind k && has_pair k ps)
access_slots s c kind ps (DeleteAt k) = pair_deleted c kind ps k (may_hold kind k && has_pair k ps)
access_slots s c kind ps Clear = do
  _ ← alter c (with_slots kind (emptied ps))
  give (Value Undefined)
access_slots s c kind ps Size = give (Value (Whole (pos (count_pairs ps))))
access_slots s c kind ps (Slot n) = give (slot_answer (slice_get ps n))

-- no other object is accessed
abbrev pub access_kind : ℕ → Val → Request → Kind → Does Answer
access_kind s c q (Collection kind ps) = access_slots s c kind ps q
access_kind s c q _ = type_error s

-- a collection that is cut off for the side answers with TypeError
abbrev pub access_thing : ℕ → Val → Request → Option Thing → Does Answer
access_thing s c q None = type_error s
access_thing s c q (Some t) = do
  cut ← look (λ g. is_cut g s t)
  _ ← unless_type_error s (not cut)
  access_kind s c q t.kind

-- the row of an access
abbrev pub access_row : ℕ → Val → Request → Does Answer
access_row s c q = do
  t ← look (λ g. thing_at g c)
  access_thing s c q t

-- ---- the built-ins

abbrev pub same_coll : Coll → Coll → Bool
same_coll MapColl MapColl = true
same_coll SetColl SetColl = true
same_coll WeakMapColl WeakMapColl = true
same_coll _ _ = false

abbrev pub is_collection : Coll → Kind → Bool
is_collection kind (Collection other ps) = same_coll kind other
is_collection kind _ = false

-- `this` is a collection of the kind (ECMA-262 10.1.15 RequireInternalSlot); a Proxy over one isn't
abbrev pub need_collection : ℕ → Coll → Val → Does Answer
need_collection s kind c = do
  b ← look (λ g. thing_is (is_collection kind) (thing_at g c))
  unless_type_error s b

-- a member that gives what its access gives: get, clear, size
abbrev pub value_member : ℕ → ℕ → Coll → Val → Request → Does Answer
value_member s p kind c q = do
  _ ← need_collection s kind c
  answer (Access s p c q)

-- a member that tells: has, delete
abbrev pub truth_member : ℕ → ℕ → Coll → Val → Request → Does Answer
truth_member s p kind c q = do
  _ ← need_collection s kind c
  b ← flag (Access s p c q)
  truth b

-- a member that gives the collection: set, add
abbrev pub chained_member : ℕ → ℕ → Coll → Val → Request → Does Answer
chained_member s p kind c q = do
  _ ← need_collection s kind c
  _ ← flag (Access s p c q)
  give (Value c)

-- a slot was read: past the last one forEach ends, an empty one is passed over (ECMA-262 24.1.3.5, 24.2.3.6)
abbrev pub visited : ℕ → ℕ → Val → Val → Val → ℕ → Option (Option (Val × Val)) → Does Answer
visited s p c f this n None = undefined
visited s p c f this n (Some None) = again (Visit s p c f this (n + 1))
visited s p c f this n (Some (Some x)) = do
  _ ← call s f this (x.1 ∷ x.0 ∷ c ∷ [])
  again (Visit s p c f this (n + 1))

-- the slot that an access answered
abbrev pub slot_in : Answer → Option (Option (Val × Val))
slot_in (Pair k v) = Some (Some (k, v))
slot_in Empty = Some None
slot_in _ = None

-- the row of `Visit`
abbrev pub visit_row : ℕ → ℕ → Val → Val → Val → ℕ → Does Answer
visit_row s p c f this n = do
  _ ← pay 1
  a ← answer (Access s p c (Slot n))
  visited s p c f this n (slot_in a)

abbrev pub for_each_pair : ℕ → ℕ → Coll → Val → List Val → Does Answer
for_each_pair s p kind c vs = do
  _ ← need_collection s kind c
  _ ← need_callable s (arg vs 0)
  visit_row s p c (arg vs 0) (arg vs 1) 0

abbrev pub all_undefined : List Val → Bool
all_undefined [] = true
all_undefined (v ∷ vs) = is_undefined v && all_undefined vs

abbrev pub collection_made : ℕ → Coll → List Val → Val → Does Answer
collection_made s kind vs p = do
  _ ← unless_type_error s (all_undefined vs)
  c ← make (new_thing s None (Collection kind []) p)
  give (Value c)

-- Map, Set, WeakMap (ECMA-262 24.1.1.1, 24.2.1.1, 24.3.1.1), which take nothing to begin with here
abbrev pub collection_fn : ℕ → Coll → List Val → Val → Val → Does Answer
collection_fn s kind vs own target = do
  _ ← unless_type_error s (not (is_undefined target))
  p ← made_prototype s own (collection_prototype kind) target
  collection_made s kind vs p
