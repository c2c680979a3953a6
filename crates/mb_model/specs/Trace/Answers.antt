use Rattle.std.specs.Prelude.{List, Bool, true, false, not, ◌&&◌, ◌||◌, Option, Some, None, is_some, is_none, if◌then◌else◌}
use Rattle.mb_desc.specs.declared.descriptor.Desc.{Desc}
use Rattle.mb_desc.specs.declared.descriptor.Full.{Full}
use Rattle.mb_world.specs.declared.entry.Op.{Op}
use Rattle.mb_world.specs.declared.entry.Op.TheVariants.{GetPrototypeOf, SetPrototypeOf, IsExtensible, PreventExtensions, GetOwnPropertyDescriptor, DefineProperty, Has, Get, Set, DeleteProperty, OwnKeys, Apply, Construct, Collect}
use Rattle.mb_world.specs.Value.{Val, Undefined, is_object, is_null, is_undefined}
use Rattle.mb_world.specs.Key.{PropertyKey, same_key}
use Rattle.mb_desc.specs.Descriptors.{Complete, is_configurable, is_data_descriptor, is_accessor_descriptor, is_fixed}
use Rattle.mb_world.specs.Graph.{Said, SaidNothing, SaidFlag, SaidValue, SaidAbsent, SaidProperty, SaidKeys, SaidThrow, SaidPair, Entry}
use Rattle.mb_world.specs.Intrinsics.{Intrinsic, intrinsic, MapPrototypeGet, MapPrototypeSet, MapPrototypeClear, MapPrototypeForEach, MapPrototypeSize, SetPrototypeClear, SetPrototypeForEach, SetPrototypeSize, WeakMapPrototypeGet, WeakMapPrototypeSet}
use Rattle.mb_desc.specs.View.{View}
use Rattle.mb_view.specs.Views.{property_of}
use Rattle.std.specs.List.{filter}
use Rattle.std.specs.Map.{keys_of}
use Rattle.mb_model.specs.Objects.Rules as rule
use Rattle.mb_check.specs.declared.verdict.Verdict.{Verdict}
use Rattle.mb_check.specs.declared.verdict.Verdict.TheVariants.{Pass, Broken}

-- which entries there may be: their forms, and the answers that pass the rules of a Proxy's traps

-- ---- the forms of an entry: its key, what it gives, and its answer

abbrev pub has_key_op : Op → Bool
has_key_op GetOwnPropertyDescriptor = true
has_key_op DefineProperty = true
has_key_op Has = true
has_key_op Get = true
has_key_op Set = true
has_key_op DeleteProperty = true
has_key_op _ = false

abbrev pub is_prototype : Val → Bool
is_prototype v = is_object v || is_null v

abbrev pub is_accessor_part : Option Val → Bool
is_accessor_part None = true
is_accessor_part (Some v) = is_object v || is_undefined v

-- no fields of both kinds
abbrev pub is_descriptor : Desc Val → Bool
is_descriptor d =
    not (is_data_descriptor d && is_accessor_descriptor d) && is_accessor_part d.get && is_accessor_part d.set

-- all four fields of its kind
abbrev pub is_whole : Desc Val → Bool
is_whole d = is_descriptor d && is_some d.enumerable && is_some d.configurable &&
    (is_some d.value && is_some d.writable || is_some d.get && is_some d.set)

abbrev pub says_value : (Val → Bool) → Said → Bool
says_value test (SaidValue v) = test v
says_value test _ = false

abbrev pub says_flag : Said → Bool
says_flag (SaidFlag b) = true
says_flag _ = false

abbrev pub says_nothing : Said → Bool
says_nothing SaidNothing = true
says_nothing _ = false

abbrev pub says_desc : (Desc Val → Bool) → Said → Bool
says_desc test (SaidProperty d) = test d
says_desc test _ = false

abbrev pub says_keys : Said → Bool
says_keys (SaidKeys ks) = true
says_keys _ = false

abbrev pub says_pair : Said → Bool
says_pair (SaidPair k v) = true
says_pair _ = false

abbrev pub any_value : Said → Bool
any_value a = says_value (λ v. true) a

-- what an access of a collection by this member gives
abbrev pub access_given_form : Option Intrinsic → Said → Bool
access_given_form (Some MapPrototypeSet) a = says_pair a
access_given_form (Some WeakMapPrototypeSet) a = says_pair a
access_given_form (Some MapPrototypeClear) a = says_nothing a
access_given_form (Some MapPrototypeForEach) a = says_nothing a
access_given_form (Some MapPrototypeSize) a = says_nothing a
access_given_form (Some SetPrototypeClear) a = says_nothing a
access_given_form (Some SetPrototypeForEach) a = says_nothing a
access_given_form (Some SetPrototypeSize) a = says_nothing a
access_given_form _ a = any_value a

abbrev pub says_absent : Said → Bool
says_absent SaidAbsent = true
says_absent _ = false

-- a slot: a pair, an empty one, or past the last
abbrev pub says_slot : Said → Bool
says_slot a = says_pair a || says_absent a || says_nothing a

-- what it answers
abbrev pub access_answer_form : Option Intrinsic → Said → Bool
access_answer_form (Some MapPrototypeGet) a = any_value a
access_answer_form (Some WeakMapPrototypeGet) a = any_value a
access_answer_form (Some MapPrototypeClear) a = says_value is_undefined a
access_answer_form (Some SetPrototypeClear) a = says_value is_undefined a
access_answer_form (Some MapPrototypeSize) a = any_value a
access_answer_form (Some SetPrototypeSize) a = any_value a
access_answer_form (Some MapPrototypeForEach) a = says_slot a
access_answer_form (Some SetPrototypeForEach) a = says_slot a
access_answer_form _ a = says_flag a

abbrev pub given_form : Op → Said → Bool
given_form Set a = any_value a
given_form SetPrototypeOf a = says_value is_prototype a
given_form DefineProperty a = says_desc is_descriptor a
given_form (Collect p) a = access_given_form (intrinsic p) a
given_form _ a = says_nothing a

abbrev pub answer_form : Op → Said → Bool
answer_form o (SaidThrow v) = true
answer_form GetPrototypeOf a = says_value is_prototype a
answer_form GetOwnPropertyDescriptor a = says_absent a || says_desc is_whole a
answer_form OwnKeys a = says_keys a
answer_form Get a = any_value a
answer_form Apply a = any_value a
answer_form Construct a = says_value is_object a
answer_form (Collect p) a = access_answer_form (intrinsic p) a
answer_form _ a = says_flag a

-- the key, what is given and the answer have the forms of the op
abbrev pub entry_form : Entry → Bool
entry_form e =
    (if has_key_op e.op then is_some e.key else is_none e.key)
    && given_form e.op e.given && answer_form e.op e.answer

-- ---- an answer that passes the rules of a Proxy's traps (ECMA-262 10.5), with a view in the place of the target

abbrev pub is_pass : Verdict → Bool
is_pass Pass = true
is_pass (Broken n) = false

-- the prototype, where the view is closed
abbrev pub closed_prototype : View PropertyKey Val → Option Val
closed_prototype v = if v.extensible then None else Some v.prototype

-- the keys of its properties that pass a test
abbrev pub keys_with : (Full Val → Bool) → View PropertyKey Val → List PropertyKey
keys_with test v = keys_of (filter (λ p. test p.1) v.properties)

abbrev pub own_at : View PropertyKey Val → Option PropertyKey → Option (Full Val)
own_at v None = None
own_at v (Some k) = property_of same_key v k

abbrev pub set_prototype_passes : View PropertyKey Val → Said → Bool
set_prototype_passes v (SaidValue p) = is_pass (rule.set_prototype p (closed_prototype v))
set_prototype_passes v _ = true

abbrev pub define_passes : View PropertyKey Val → Option PropertyKey → Said → Bool
define_passes v k (SaidProperty d) = is_pass (rule.define d (own_at v k) v.extensible)
define_passes v k _ = true

abbrev pub own_keys_pass : View PropertyKey Val → List PropertyKey → Bool
own_keys_pass v ks = is_pass (rule.own_keys ks (keys_with is_fixed v)
    (keys_with is_configurable v) v.extensible)

-- what a method that isn't `get`, `set`, `has` or `apply` answered; a false answer of a change, and a throw, pass
abbrev pub answer_passes : View PropertyKey Val → Op → Option PropertyKey → Said → Said → Bool
answer_passes v GetPrototypeOf k given (SaidValue p) =
    is_prototype p && is_pass (rule.get_prototype p (closed_prototype v))
answer_passes v SetPrototypeOf k given (SaidFlag true) = set_prototype_passes v given
answer_passes v IsExtensible k given (SaidFlag b) = is_pass (rule.is_extensible b v.extensible)
answer_passes v PreventExtensions k given (SaidFlag true) = is_pass (rule.prevent_extensions v.extensible)
answer_passes v GetOwnPropertyDescriptor k given SaidAbsent = is_pass (rule.own_absent (own_at v k) v.extensible)
answer_passes v GetOwnPropertyDescriptor k given (SaidProperty d) =
    is_pass (rule.own_present (Complete Undefined d) (own_at v k) v.extensible)
answer_passes v DefineProperty k given (SaidFlag true) = define_passes v k given
answer_passes v DeleteProperty k given (SaidFlag true) = is_pass (rule.delete (own_at v k) v.extensible)
answer_passes v OwnKeys k given (SaidKeys ks) = own_keys_pass v ks
answer_passes v Construct k given (SaidValue p) = is_pass (rule.construct p)
answer_passes v _ k given _ = true

abbrev pub passes : View PropertyKey Val → Entry → Bool
passes v e = answer_passes v e.op e.key e.given e.answer
