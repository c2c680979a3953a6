-- The rest of a method of a script-made Proxy that waits (ECMA-262 10.5), at home with its owner.
use Rattle.std.specs.Prelude.{Bool, List, None, Option, Some, drop, false, true, ℕ}
use Rattle.mb_base.specs.declared.value.Key.{Key}
use Rattle.mb_desc.specs.declared.descriptor.Full.{Full}
use Rattle.mb_frames.specs.Resolved.{keys_of, method_in, real_in}
use Rattle.mb_model.specs.Objects.Proxies.{Parted, absent_extensible, absent_read, construct_said, define_extensible, define_read, define_said, delete_said, extensible_read, extensible_said, get_read, get_said, has_said, keys_extensible, keys_parted, keys_read, keys_said, own_extensible, own_read, own_said, prevent_read, prevent_said, prototype_extensible, prototype_read, prototype_said, set_prototype_extensible, set_prototype_read, set_prototype_said, set_read, set_said, trap_got, with_parted}
use Rattle.mb_model.specs.Task.{Answer, Call, Construct, DefineOwnProperty, Delete, Flag, Get, GetOwnProperty, GetPrototypeOf, HasProperty, IsExtensible, Method, OwnPropertyKeys, PreventExtensions, Prop, Set, SetPrototypeOf, Value}
use Rattle.mb_model.specs.Writing.{Does, flag_in, give, keys_in, property_in, value_in}
use Rattle.mb_world.specs.Image.{Names, Resolve, desc_in, full_in, key_in, object_in}
use Rattle.mb_world.specs.Value.{Val, to_boolean}
use Rattle.mb_frames.specs.declared.proxies.Absent.{Absent}
use Rattle.mb_frames.specs.declared.proxies.Absent.TheVariants as absent
use Rattle.mb_frames.specs.declared.proxies.ProxyFrame.{ProxyFrame}
use Rattle.mb_frames.specs.declared.proxies.ProxyFrame.TheVariants as p
use Rattle.mb_check.specs.declared.verdict.Verdict.{Verdict}
use Rattle.mb_model.specs.Objects.Rules as rule

-- a trap was called, and gave a value
abbrev pub trap_said : ℕ → Val → Val → Method → Does Answer
trap_said s t said GetPrototypeOf = prototype_said s t said
trap_said s t said (SetPrototypeOf given) = set_prototype_said s t given (to_boolean said)
trap_said s t said IsExtensible = extensible_said s t (to_boolean said)
trap_said s t said PreventExtensions = prevent_said s t (to_boolean said)
trap_said s t said (GetOwnProperty k) = own_said s t k said
trap_said s t said (DefineOwnProperty k d) = define_said s t k d (to_boolean said)
trap_said s t said (HasProperty k) = has_said s t k (to_boolean said)
trap_said s t said (Get k r) = get_said s t k said
trap_said s t said (Set k x r) = set_said s t k x (to_boolean said)
trap_said s t said (Delete k) = delete_said s t k (to_boolean said)
trap_said s t said OwnPropertyKeys = keys_said s t said
trap_said s t said (Call this vs) = give (Value said)
trap_said s t said (Construct vs target) = construct_said s said

-- a property was said to be absent: the rule that is judged, and the answer
abbrev pub absent_verdict : Absent → Option (Full Val) → Bool → Verdict
absent_verdict absent.Own = rule.own_absent
absent_verdict absent.Has = rule.has_not
absent_verdict absent.Delete = rule.delete

abbrev pub absent_answer : Absent → Answer
absent_answer absent.Own = Prop None
absent_answer absent.Has = Flag false
absent_answer absent.Delete = Flag true

abbrev pub parted : Names → List Key → List Key → Parted
parted n fixed loose = record { fixed = keys_of n fixed; loose = keys_of n loose }

-- each that waits

abbrev pub proxy_rest : Names → ℕ → ProxyFrame → Answer → Does Answer
proxy_rest n s (p.TrapGot side target handler method) a =
    trap_got side.0 s (object_in n target) (object_in n handler) (method_in n method) (value_in a)
proxy_rest n s (p.Said target method) a = trap_said s (object_in n target) (value_in a) (method_in n method)
proxy_rest n s (p.PrototypeExtensible target said) a =
    prototype_extensible s (object_in n target) (Resolve n said) (flag_in a)
proxy_rest n s (p.PrototypeRead said) a = prototype_read s (Resolve n said) (value_in a)
proxy_rest n s (p.SetPrototypeExtensible target given) a =
    set_prototype_extensible s (object_in n target) (Resolve n given) (flag_in a)
proxy_rest n s (p.SetPrototypeRead given) a = set_prototype_read s (Resolve n given) (value_in a)
proxy_rest n s (p.ExtensibleRead said) a = extensible_read s said (flag_in a)
proxy_rest n s p.PreventRead a = prevent_read s (flag_in a)
proxy_rest n s (p.AbsentRead target absent) a =
    absent_read s (object_in n target) (absent_verdict absent) (absent_answer absent) (property_in a)
proxy_rest n s (p.AbsentExtensible real absent) a =
    absent_extensible s (absent_verdict absent (Some (full_in n real))) (absent_answer absent) (flag_in a)
proxy_rest n s (p.OwnRead target said) a = own_read s (object_in n target) (full_in n said) (property_in a)
proxy_rest n s (p.OwnExtensible said real) a = own_extensible s (full_in n said) (real_in n real) (flag_in a)
proxy_rest n s (p.DefineRead target given) a =
    define_read s (object_in n target) (desc_in (Resolve n) given) (property_in a)
proxy_rest n s (p.DefineExtensible given real) a =
    define_extensible s (desc_in (Resolve n) given) (real_in n real) (flag_in a)
proxy_rest n s (p.GetRead said) a = get_read s (Resolve n said) (property_in a)
proxy_rest n s (p.SetRead given) a = set_read s (Resolve n given) (property_in a)
proxy_rest n s (p.KeysExtensible target said) a = keys_extensible s (object_in n target) (keys_of n said) (flag_in a)
proxy_rest n s (p.KeysListed target said extensible) a =
    keys_read s (object_in n target) (keys_of n said) extensible (keys_in a)
proxy_rest n s (p.KeyRead target said extensible key keys next fixed loose) a =
    keys_parted s (object_in n target) (keys_of n said) extensible (drop next (keys_of n keys)) (with_parted
    (key_in n key) (parted n fixed loose) (property_in a))
