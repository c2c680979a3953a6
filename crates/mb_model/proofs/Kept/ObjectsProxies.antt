use Rattle.mb_model.specs.Objects.Rules as rule
use Rattle.std.specs.Prelude.{ℕ, List, [], ◌∷◌, Bool, true, false, ◌||◌, Option, Some, None}
use Rattle.mb_desc.specs.declared.descriptor.Desc.{Desc}
use Rattle.mb_desc.specs.declared.descriptor.Full.{Full}
use Rattle.mb_world.specs.Value.{Val, Undefined, is_object, is_null, to_boolean}
use Rattle.mb_world.specs.Key.{PropertyKey, value_of_key}
use Rattle.mb_desc.specs.Descriptors.{Complete}
use Rattle.mb_world.specs.Objects.{is_callable}
use Rattle.mb_check.specs.declared.verdict.Verdict.{Verdict}
use Rattle.mb_check.specs.declared.verdict.Verdict.TheVariants.{Pass, Broken}
use Rattle.mb_model.specs.Task.{Answer, Nothing, Value, Flag, Prop, Keys, Method, GetPrototypeOf, SetPrototypeOf, IsExtensible, PreventExtensions, GetOwnProperty, DefineOwnProperty, HasProperty, Get, Set, Delete, OwnPropertyKeys, Call, Construct}
use Rattle.mb_model.specs.Writing.{◌>>=◌, give, look, value, keys, perform, type_error, unless_type_error}
use Rattle.mb_model.specs.Operations.Makings.{make_array}
use Rattle.mb_model.specs.Operations.Calls.{list_of}
use Rattle.mb_model.specs.Operations.Descriptors.{todesc, fromdesc}
use Rattle.mb_model.specs.Objects.Proxies.{Parted, judge, read_extensible, read_own, prototype_read, prototype_extensible, prototype_said, set_prototype_read, set_prototype_extensible, set_prototype_said, extensible_read, extensible_said, prevent_read, prevent_said, absent_extensible, absent_read, absent_said, own_extensible, own_read, own_converted, own_present_said, own_said, define_extensible, define_read, define_said, has_said, get_read, get_said, set_read, set_said, delete_said, with_parted, keys_parted, keys_read, keys_extensible, as_keys, keys_listed, keys_said, construct_said, trap_value, trap_flag, trapped, call_trap, trap_callable}
use Rattle.std.proofs.Common.{refl}
use Rattle.mb_model.proofs.Kept.Words.{Kept, Goes, keeps->>=, keeps-flag, keeps-give, keeps-if, keeps-keys, keeps-look, keeps-property, keeps-type_error, keeps-unless_type_error, keeps-value, keeps-yes_or_no}
use Rattle.mb_model.proofs.Kept.Made.{keeps-fromdesc}
use Rattle.mb_model.proofs.Kept.OperationsCalls.{keeps-call, keeps-list_of}
use Rattle.mb_model.proofs.Kept.OperationsMakings.{keeps-make_array}
use Rattle.mb_model.proofs.Kept.Descriptors.{keeps-todesc}

-- what the parts of these rows keep (written by tools/kept.py)

pub keeps-judge : (kept : Kept) (x0 : ℕ) (x1 : Verdict) (x2 : Answer) → Goes kept (judge x0 x1 x2)
keeps-judge kept p Pass a = keeps-give kept a
keeps-judge kept p (Broken n) a = keeps-type_error kept p

pub keeps-read_extensible : (kept : Kept) (x0 : ℕ) (x1 : Val) → Goes kept (read_extensible x0 x1)
keeps-read_extensible kept p t = keeps-flag kept (perform p IsExtensible t) (λ _. (λ _. tt, λ _ _. refl))

pub keeps-read_own : (kept : Kept) (x0 : ℕ) (x1 : Val) (x2 : PropertyKey) → Goes kept (read_own x0 x1 x2)
keeps-read_own kept p t k = keeps-property kept (perform p (GetOwnProperty k) t) (λ _. (λ _. tt, λ _ _. refl))

pub keeps-prototype_read : (kept : Kept) (x0 : ℕ) (x1 : Val) (x2 : Val) → Goes kept (prototype_read x0 x1 x2)
keeps-prototype_read kept p said real = keeps-judge kept p (rule.get_prototype said (Some real)) (Value said)

pub keeps-prototype_extensible : (kept : Kept) (x0 : ℕ) (x1 : Val) (x2 : Val) (x3 : Bool) → Goes kept
    (prototype_extensible x0 x1 x2 x3)
keeps-prototype_extensible kept p t said true = keeps-judge kept p (rule.get_prototype said None) (Value said)
keeps-prototype_extensible kept p t said false = keeps->>= kept (value (perform p GetPrototypeOf t)) (λ real.
    prototype_read p said real) (keeps-value kept (perform p GetPrototypeOf t) (λ _. (λ _. tt, λ _ _. refl))) (λ
    real. keeps-prototype_read kept p said real)

pub keeps-prototype_said : (kept : Kept) (x0 : ℕ) (x1 : Val) (x2 : Val) → Goes kept (prototype_said x0 x1 x2)
keeps-prototype_said kept p t said = keeps->>= kept (unless_type_error p (is_object said || is_null said)) (λ _.
    (read_extensible p t) >>= (λ extensible. prototype_extensible p t said extensible)) (keeps-unless_type_error
    kept p (is_object said || is_null said)) (λ _. keeps->>= kept (read_extensible p t) (λ extensible.
    prototype_extensible p t said extensible) (keeps-read_extensible kept p t) (λ extensible.
    keeps-prototype_extensible kept p t said extensible))

pub keeps-set_prototype_read : (kept : Kept) (x0 : ℕ) (x1 : Val) (x2 : Val) → Goes kept (set_prototype_read x0 x1 x2)
keeps-set_prototype_read kept p given real = keeps-judge kept p (rule.set_prototype given (Some real)) (Flag true)

pub keeps-set_prototype_extensible : (kept : Kept) (x0 : ℕ) (x1 : Val) (x2 : Val) (x3 : Bool) → Goes kept
    (set_prototype_extensible x0 x1 x2 x3)
keeps-set_prototype_extensible kept p t given true = keeps-judge kept p (rule.set_prototype given None) (Flag true)
keeps-set_prototype_extensible kept p t given false = keeps->>= kept (value (perform p GetPrototypeOf t)) (λ real.
    set_prototype_read p given real) (keeps-value kept (perform p GetPrototypeOf t) (λ _. (λ _. tt, λ _ _. refl)))
    (λ real. keeps-set_prototype_read kept p given real)

pub keeps-set_prototype_said : (kept : Kept) (x0 : ℕ) (x1 : Val) (x2 : Val) (x3 : Bool) → Goes kept
    (set_prototype_said x0 x1 x2 x3)
keeps-set_prototype_said kept p t given false = keeps-yes_or_no kept false
keeps-set_prototype_said kept p t given true = keeps->>= kept (read_extensible p t) (λ extensible.
    set_prototype_extensible p t given extensible) (keeps-read_extensible kept p t) (λ extensible.
    keeps-set_prototype_extensible kept p t given extensible)

pub keeps-extensible_read : (kept : Kept) (x0 : ℕ) (x1 : Bool) (x2 : Bool) → Goes kept (extensible_read x0 x1 x2)
keeps-extensible_read kept p said real = keeps-judge kept p (rule.is_extensible said real) (Flag said)

pub keeps-extensible_said : (kept : Kept) (x0 : ℕ) (x1 : Val) (x2 : Bool) → Goes kept (extensible_said x0 x1 x2)
keeps-extensible_said kept p t said = keeps->>= kept (read_extensible p t) (λ real. extensible_read p said real)
    (keeps-read_extensible kept p t) (λ real. keeps-extensible_read kept p said real)

pub keeps-prevent_read : (kept : Kept) (x0 : ℕ) (x1 : Bool) → Goes kept (prevent_read x0 x1)
keeps-prevent_read kept p extensible = keeps-judge kept p (rule.prevent_extensions extensible) (Flag true)

pub keeps-prevent_said : (kept : Kept) (x0 : ℕ) (x1 : Val) (x2 : Bool) → Goes kept (prevent_said x0 x1 x2)
keeps-prevent_said kept p t false = keeps-yes_or_no kept false
keeps-prevent_said kept p t true = keeps->>= kept (read_extensible p t) (λ extensible. prevent_read p extensible)
    (keeps-read_extensible kept p t) (λ extensible. keeps-prevent_read kept p extensible)

pub keeps-absent_extensible : (kept : Kept) (x0 : ℕ) (x1 : (Bool → Verdict)) (x2 : Answer) (x3 : Bool) → Goes kept
    (absent_extensible x0 x1 x2 x3)
keeps-absent_extensible kept p verdict a extensible = keeps-judge kept p (verdict extensible) a

pub keeps-absent_read : (kept : Kept) (x0 : ℕ) (x1 : Val) (x2 : (Option (Full Val) → Bool → Verdict)) (x3 : Answer)
    (x4 : Option (Full Val)) → Goes kept (absent_read x0 x1 x2 x3 x4)
keeps-absent_read kept p t verdict a None = keeps-judge kept p (verdict None true) a
keeps-absent_read kept p t verdict a (Some real) = keeps->>= kept (judge p (verdict (Some real) true) a) (λ _.
    (read_extensible p t) >>= (λ extensible. absent_extensible p (verdict (Some real)) a extensible)) (keeps-judge
    kept p (verdict (Some real) true) a) (λ _. keeps->>= kept (read_extensible p t) (λ extensible.
    absent_extensible p (verdict (Some real)) a extensible) (keeps-read_extensible kept p t) (λ extensible.
    keeps-absent_extensible kept p (verdict (Some real)) a extensible))

pub keeps-absent_said : (kept : Kept) (x0 : ℕ) (x1 : Val) (x2 : PropertyKey) (x3 : (Option (Full Val) → Bool →
    Verdict)) (x4 : Answer) → Goes kept (absent_said x0 x1 x2 x3 x4)
keeps-absent_said kept p t k verdict a = keeps->>= kept (read_own p t k) (λ real. absent_read p t verdict a real)
    (keeps-read_own kept p t k) (λ real. keeps-absent_read kept p t verdict a real)

pub keeps-own_extensible : (kept : Kept) (x0 : ℕ) (x1 : Full Val) (x2 : Option (Full Val)) (x3 : Bool) → Goes kept
    (own_extensible x0 x1 x2 x3)
keeps-own_extensible kept p said real extensible = keeps-judge kept p (rule.own_present said real extensible) (Prop
    (Some said))

pub keeps-own_read : (kept : Kept) (x0 : ℕ) (x1 : Val) (x2 : Full Val) (x3 : Option (Full Val)) → Goes kept
    (own_read x0 x1 x2 x3)
keeps-own_read kept p t said real = keeps->>= kept (read_extensible p t) (λ extensible. own_extensible p said real
    extensible) (keeps-read_extensible kept p t) (λ extensible. keeps-own_extensible kept p said real extensible)

pub keeps-own_converted : (kept : Kept) (x0 : ℕ) (x1 : Val) (x2 : PropertyKey) (x3 : Desc Val) → Goes kept
    (own_converted x0 x1 x2 x3)
keeps-own_converted kept p t k d = keeps->>= kept (read_own p t k) (λ real. own_read p t (Complete Undefined d)
    real) (keeps-read_own kept p t k) (λ real. keeps-own_read kept p t (Complete Undefined d) real)

pub keeps-own_present_said : (kept : Kept) (x0 : ℕ) (x1 : Val) (x2 : PropertyKey) (x3 : Val) → Goes kept
    (own_present_said x0 x1 x2 x3)
keeps-own_present_said kept p t k said = keeps->>= kept (todesc p said) (λ d. own_converted p t k d) (keeps-todesc
    kept p said) (λ d. keeps-own_converted kept p t k d)

pub keeps-own_said : (kept : Kept) (x0 : ℕ) (x1 : Val) (x2 : PropertyKey) (x3 : Val) → Goes kept (own_said x0 x1 x2
    x3)
keeps-own_said kept p t k Undefined = keeps-absent_said kept p t k rule.own_absent (Prop None)
keeps-own_said kept p t k said = keeps-if kept (is_object said) (own_present_said p t k said) (type_error p)
    (keeps-own_present_said kept p t k said) (keeps-type_error kept p)

pub keeps-define_extensible : (kept : Kept) (x0 : ℕ) (x1 : Desc Val) (x2 : Option (Full Val)) (x3 : Bool) → Goes
    kept (define_extensible x0 x1 x2 x3)
keeps-define_extensible kept p d real extensible = keeps-judge kept p (rule.define d real extensible) (Flag true)

pub keeps-define_read : (kept : Kept) (x0 : ℕ) (x1 : Val) (x2 : Desc Val) (x3 : Option (Full Val)) → Goes kept
    (define_read x0 x1 x2 x3)
keeps-define_read kept p t d real = keeps->>= kept (read_extensible p t) (λ extensible. define_extensible p d real
    extensible) (keeps-read_extensible kept p t) (λ extensible. keeps-define_extensible kept p d real extensible)

pub keeps-define_said : (kept : Kept) (x0 : ℕ) (x1 : Val) (x2 : PropertyKey) (x3 : Desc Val) (x4 : Bool) → Goes
    kept (define_said x0 x1 x2 x3 x4)
keeps-define_said kept p t k d false = keeps-yes_or_no kept false
keeps-define_said kept p t k d true = keeps->>= kept (read_own p t k) (λ real. define_read p t d real)
    (keeps-read_own kept p t k) (λ real. keeps-define_read kept p t d real)

pub keeps-has_said : (kept : Kept) (x0 : ℕ) (x1 : Val) (x2 : PropertyKey) (x3 : Bool) → Goes kept (has_said x0 x1
    x2 x3)
keeps-has_said kept p t k true = keeps-yes_or_no kept true
keeps-has_said kept p t k false = keeps-absent_said kept p t k rule.has_not (Flag false)

pub keeps-get_read : (kept : Kept) (x0 : ℕ) (x1 : Val) (x2 : Option (Full Val)) → Goes kept (get_read x0 x1 x2)
keeps-get_read kept p said real = keeps-judge kept p (rule.get said real) (Value said)

pub keeps-get_said : (kept : Kept) (x0 : ℕ) (x1 : Val) (x2 : PropertyKey) (x3 : Val) → Goes kept (get_said x0 x1 x2
    x3)
keeps-get_said kept p t k said = keeps->>= kept (read_own p t k) (λ real. get_read p said real) (keeps-read_own
    kept p t k) (λ real. keeps-get_read kept p said real)

pub keeps-set_read : (kept : Kept) (x0 : ℕ) (x1 : Val) (x2 : Option (Full Val)) → Goes kept (set_read x0 x1 x2)
keeps-set_read kept p given real = keeps-judge kept p (rule.set given real) (Flag true)

pub keeps-set_said : (kept : Kept) (x0 : ℕ) (x1 : Val) (x2 : PropertyKey) (x3 : Val) (x4 : Bool) → Goes kept
    (set_said x0 x1 x2 x3 x4)
keeps-set_said kept p t k given false = keeps-yes_or_no kept false
keeps-set_said kept p t k given true = keeps->>= kept (read_own p t k) (λ real. set_read p given real)
    (keeps-read_own kept p t k) (λ real. keeps-set_read kept p given real)

pub keeps-delete_said : (kept : Kept) (x0 : ℕ) (x1 : Val) (x2 : PropertyKey) (x3 : Bool) → Goes kept (delete_said
    x0 x1 x2 x3)
keeps-delete_said kept p t k false = keeps-yes_or_no kept false
keeps-delete_said kept p t k true = keeps-absent_said kept p t k rule.delete (Flag true)

pub keeps-keys_parted : (kept : Kept) (x0 : ℕ) (x1 : Val) (x2 : List PropertyKey) (x3 : Bool) (x4 : List
    PropertyKey) (x5 : Parted) → Goes kept (keys_parted x0 x1 x2 x3 x4 x5)
keeps-keys_parted kept p t said extensible [] x = keeps-judge kept p (rule.own_keys said x.fixed x.loose
    extensible) (Keys said)
keeps-keys_parted kept p t said extensible (k ∷ ks) x = keeps->>= kept (read_own p t k) (λ real. keys_parted p t
    said extensible ks (with_parted k x real)) (keeps-read_own kept p t k) (λ real. keeps-keys_parted kept p t said
    extensible ks (with_parted k x real))

pub keeps-keys_read : (kept : Kept) (x0 : ℕ) (x1 : Val) (x2 : List PropertyKey) (x3 : Bool) (x4 : List PropertyKey)
    → Goes kept (keys_read x0 x1 x2 x3 x4)
keeps-keys_read kept p t said extensible ks = keeps-keys_parted kept p t said extensible ks (record {
  fixed = [];
  loose = [];
})

pub keeps-keys_extensible : (kept : Kept) (x0 : ℕ) (x1 : Val) (x2 : List PropertyKey) (x3 : Bool) → Goes kept
    (keys_extensible x0 x1 x2 x3)
keeps-keys_extensible kept p t said extensible = keeps->>= kept (keys (perform p OwnPropertyKeys t)) (λ ks.
    keys_read p t said extensible ks) (keeps-keys kept (perform p OwnPropertyKeys t) (λ _. (λ _. tt, λ _ _. refl)))
    (λ ks. keeps-keys_read kept p t said extensible ks)

pub keeps-keys_listed : (kept : Kept) (x0 : ℕ) (x1 : Val) (x2 : List PropertyKey) → Goes kept (keys_listed x0 x1 x2)
keeps-keys_listed kept p t said = keeps->>= kept (judge p (rule.own_keys said [] [] true) Nothing) (λ _.
    (read_extensible p t) >>= (λ extensible. keys_extensible p t said extensible)) (keeps-judge kept p
    (rule.own_keys said [] [] true) Nothing) (λ _. keeps->>= kept (read_extensible p t) (λ extensible.
    keys_extensible p t said extensible) (keeps-read_extensible kept p t) (λ extensible. keeps-keys_extensible kept
    p t said extensible))

pub keeps-keys_said : (kept : Kept) (x0 : ℕ) (x1 : Val) (x2 : Val) → Goes kept (keys_said x0 x1 x2)
keeps-keys_said kept p t said = keeps->>= kept (list_of p true said) (λ vs. keys_listed p t (as_keys vs))
    (keeps-list_of kept p true said) (λ vs. keeps-keys_listed kept p t (as_keys vs))

pub keeps-construct_said : (kept : Kept) (x0 : ℕ) (x1 : Val) → Goes kept (construct_said x0 x1)
keeps-construct_said kept p said = keeps-judge kept p (rule.construct said) (Value said)

pub keeps-trap_value : (kept : Kept) (x0 : ℕ) (x1 : Val) (x2 : Val) (x3 : Val) (x4 : List Val) → Goes kept
    (trap_value x0 x1 x2 x3 x4)
keeps-trap_value kept p t h trap vs = keeps-call kept p trap h (t ∷ vs)

pub keeps-trap_flag : (kept : Kept) (x0 : ℕ) (x1 : Val) (x2 : Val) (x3 : Val) (x4 : List Val) → Goes kept
    (trap_flag x0 x1 x2 x3 x4)
keeps-trap_flag kept p t h trap vs = keeps->>= kept (trap_value p t h trap vs) (λ v. give (to_boolean v))
    (keeps-trap_value kept p t h trap vs) (λ v. keeps-give kept (to_boolean v))

pub keeps-trapped : (kept : Kept) (x0 : ℕ) (x1 : Val) (x2 : Val) (x3 : Val) (x4 : Method) → Goes kept (trapped x0
    x1 x2 x3 x4)
keeps-trapped kept p t h trap GetPrototypeOf = keeps->>= kept (trap_value p t h trap []) (λ said. prototype_said p
    t said) (keeps-trap_value kept p t h trap []) (λ said. keeps-prototype_said kept p t said)
keeps-trapped kept p t h trap (SetPrototypeOf given) = keeps->>= kept (trap_flag p t h trap (given ∷ [])) (λ said.
    set_prototype_said p t given said) (keeps-trap_flag kept p t h trap (given ∷ [])) (λ said.
    keeps-set_prototype_said kept p t given said)
keeps-trapped kept p t h trap IsExtensible = keeps->>= kept (trap_flag p t h trap []) (λ said. extensible_said p t
    said) (keeps-trap_flag kept p t h trap []) (λ said. keeps-extensible_said kept p t said)
keeps-trapped kept p t h trap PreventExtensions = keeps->>= kept (trap_flag p t h trap []) (λ said. prevent_said p
    t said) (keeps-trap_flag kept p t h trap []) (λ said. keeps-prevent_said kept p t said)
keeps-trapped kept p t h trap (GetOwnProperty k) = keeps->>= kept (trap_value p t h trap (value_of_key k ∷ [])) (λ
    said. own_said p t k said) (keeps-trap_value kept p t h trap (value_of_key k ∷ [])) (λ said. keeps-own_said
    kept p t k said)
keeps-trapped kept p t h trap (DefineOwnProperty k d) = keeps->>= kept (fromdesc p d) (λ o. (trap_flag p t h trap
    (value_of_key k ∷ o ∷ [])) >>= (λ said. define_said p t k d said)) (keeps-fromdesc kept p d) (λ o. keeps->>=
    kept (trap_flag p t h trap (value_of_key k ∷ o ∷ [])) (λ said. define_said p t k d said) (keeps-trap_flag kept
    p t h trap (value_of_key k ∷ o ∷ [])) (λ said. keeps-define_said kept p t k d said))
keeps-trapped kept p t h trap (HasProperty k) = keeps->>= kept (trap_flag p t h trap (value_of_key k ∷ [])) (λ
    said. has_said p t k said) (keeps-trap_flag kept p t h trap (value_of_key k ∷ [])) (λ said. keeps-has_said kept
    p t k said)
keeps-trapped kept p t h trap (Get k r) = keeps->>= kept (trap_value p t h trap (value_of_key k ∷ r ∷ [])) (λ said.
    get_said p t k said) (keeps-trap_value kept p t h trap (value_of_key k ∷ r ∷ [])) (λ said. keeps-get_said kept
    p t k said)
keeps-trapped kept p t h trap (Set k x r) = keeps->>= kept (trap_flag p t h trap (value_of_key k ∷ x ∷ r ∷ [])) (λ
    said. set_said p t k x said) (keeps-trap_flag kept p t h trap (value_of_key k ∷ x ∷ r ∷ [])) (λ said.
    keeps-set_said kept p t k x said)
keeps-trapped kept p t h trap (Delete k) = keeps->>= kept (trap_flag p t h trap (value_of_key k ∷ [])) (λ said.
    delete_said p t k said) (keeps-trap_flag kept p t h trap (value_of_key k ∷ [])) (λ said. keeps-delete_said kept
    p t k said)
keeps-trapped kept p t h trap OwnPropertyKeys = keeps->>= kept (trap_value p t h trap []) (λ said. keys_said p t
    said) (keeps-trap_value kept p t h trap []) (λ said. keeps-keys_said kept p t said)
keeps-trapped kept p t h trap (Call this vs) = keeps->>= kept (make_array p vs) (λ a. (trap_value p t h trap (this
    ∷ a ∷ [])) >>= (λ said. give (Value said))) (keeps-make_array kept p vs) (λ a. keeps->>= kept (trap_value p t h
    trap (this ∷ a ∷ [])) (λ said. give (Value said)) (keeps-trap_value kept p t h trap (this ∷ a ∷ [])) (λ said.
    keeps-give kept (Value said)))
keeps-trapped kept p t h trap (Construct vs target) = keeps->>= kept (make_array p vs) (λ a. (trap_value p t h trap
    (a ∷ target ∷ [])) >>= (λ said. construct_said p said)) (keeps-make_array kept p vs) (λ a. keeps->>= kept
    (trap_value p t h trap (a ∷ target ∷ [])) (λ said. construct_said p said) (keeps-trap_value kept p t h trap (a
    ∷ target ∷ [])) (λ said. keeps-construct_said kept p said))

pub keeps-call_trap : (kept : Kept) (x0 : ℕ) (x1 : Val) (x2 : Val) (x3 : Val) (x4 : Method) (x5 : Bool) → Goes kept
    (call_trap x0 x1 x2 x3 x4 x5)
keeps-call_trap kept p t h trap m false = keeps-type_error kept p
keeps-call_trap kept p t h trap m true = keeps-trapped kept p t h trap m

pub keeps-trap_callable : (kept : Kept) (x0 : ℕ) (x1 : Val) (x2 : Val) (x3 : Val) (x4 : Method) → Goes kept
    (trap_callable x0 x1 x2 x3 x4)
keeps-trap_callable kept p t h trap m = keeps->>= kept (look (λ g. is_callable g trap)) (λ c. call_trap p t h trap
    m c) (keeps-look kept (λ g. is_callable g trap)) (λ c. keeps-call_trap kept p t h trap m c)
