use Rattle.std.specs.Prelude.{List, Bool, Option}
use Rattle.mb_desc.specs.declared.descriptor.Desc.{Desc}
use Rattle.mb_desc.specs.declared.descriptor.Full.{Full}
use Rattle.mb_check.specs.declared.verdict.Verdict.{Verdict}
use Rattle.mb_check.specs.Rules as check
use Rattle.mb_world.specs.Value.{Val, Undefined, is_object, same_value}
use Rattle.mb_world.specs.Key.{PropertyKey, same_key}

-- the rules that a trap's answer must keep (ECMA-262 10.5), of mb_check, over the values and keys of the graph

-- (ECMA-262 10.5.1)
abbrev pub get_prototype : Val → Option Val → Verdict
get_prototype said real = check.get_prototype same_value said real

-- (ECMA-262 10.5.2)
abbrev pub set_prototype : Val → Option Val → Verdict
set_prototype given real = check.set_prototype same_value given real

-- (ECMA-262 10.5.3)
abbrev pub is_extensible : Bool → Bool → Verdict
is_extensible said real = check.is_extensible said real

-- (ECMA-262 10.5.4)
abbrev pub prevent_extensions : Bool → Verdict
prevent_extensions extensible = check.prevent_extensions extensible

-- (ECMA-262 10.5.5)
abbrev pub own_absent : Option (Full Val) → Bool → Verdict
own_absent real extensible = check.own_absent real extensible

-- (ECMA-262 10.5.5)
abbrev pub own_present : Full Val → Option (Full Val) → Bool → Verdict
own_present said real extensible = check.own_present same_value Undefined said real extensible

-- (ECMA-262 10.5.6)
abbrev pub define : Desc Val → Option (Full Val) → Bool → Verdict
define given real extensible = check.define same_value Undefined given real extensible

-- (ECMA-262 10.5.7)
abbrev pub has_not : Option (Full Val) → Bool → Verdict
has_not real extensible = check.has_not real extensible

-- (ECMA-262 10.5.8)
abbrev pub get : Val → Option (Full Val) → Verdict
get said real = check.get same_value Undefined said real

-- (ECMA-262 10.5.9)
abbrev pub set : Val → Option (Full Val) → Verdict
set given real = check.set same_value Undefined given real

-- (ECMA-262 10.5.10)
abbrev pub delete : Option (Full Val) → Bool → Verdict
delete real extensible = check.delete real extensible

-- (ECMA-262 10.5.11)
abbrev pub own_keys : (said fixed loose : List PropertyKey) → Bool → Verdict
own_keys said fixed loose extensible = check.own_keys same_key said fixed loose extensible

-- (ECMA-262 10.5.13)
abbrev pub construct : Val → Verdict
construct said = check.construct is_object said
