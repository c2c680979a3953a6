-- The values and keys of the language as the rules see them.
use Rattle.std.specs.Prelude.{Bool, true, false}
use Rattle.mb_base.specs.contracts.value.KeyPartialEq.TheImpl
use Rattle.mb_base.specs.declared.value.Key.{Key}
use Rattle.mb_base.specs.declared.value.Value.{Value}
use Rattle.mb_base.specs.declared.value.Value.TheVariants.{Object}

-- the value is an object (ECMA-262, 6.1.7)
abbrev pub is_object : Value → Bool
is_object (Object id) = true
is_object _ = false

-- the derived `==` of keys
abbrev pub same_key : Key → Key → Bool
same_key = (TheImpl.eq-value).it
