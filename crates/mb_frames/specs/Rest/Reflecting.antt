-- The rest of a member of Object or Reflect or of an error constructor that waits (ECMA-262 20.1, 28.1, 20.5).
use Rattle.std.specs.Prelude.{[], drop, is_some, true, ℕ}
use Rattle.mb_frames.specs.Resolved.{keys_of, values_in}
use Rattle.mb_model.specs.BuiltIns.Arguments.{prototype_or}
use Rattle.mb_model.specs.BuiltIns.ErrorsAndFunctions.{error_made}
use Rattle.mb_model.specs.BuiltIns.ObjectMembers.{described, enumerable_keys, freeze_found, frozen_key, frozen_keys, frozen_open, given_back, plain_from, settle_closed, settle_keys, symbols_array, with_key}
use Rattle.mb_model.specs.BuiltIns.ReflectMembers.{keys_array}
use Rattle.mb_model.specs.Task.{Answer}
use Rattle.mb_model.specs.Writing.{◌>>=◌, Does, flag_in, keys_in, property_in, truth, unless_type_error, value_in}
use Rattle.mb_world.specs.Image.{Names, Resolve, key_in, object_in}
use Rattle.mb_world.specs.Key.{texts_only}
use Rattle.mb_world.specs.Standard.{error_prototype, object_prototype}
use Rattle.mb_frames.specs.declared.reflecting.ReflectFrame.{ReflectFrame}
use Rattle.mb_frames.specs.declared.reflecting.ReflectFrame.TheVariants as r

abbrev pub reflect_rest : Names → ℕ → ReflectFrame → Answer → Does Answer
reflect_rest n s r.ObjectPrototype a = plain_from s (prototype_or object_prototype (value_in a))
reflect_rest n s (r.ErrorPrototype kind message) a =
    error_made s kind (Resolve n message) (prototype_or (error_prototype kind) (value_in a))
reflect_rest n s (r.KeysListed object) a = enumerable_keys s (object_in n object) [] (texts_only (keys_in a))
reflect_rest n s (r.KeyRead object key keys next found) a =
    enumerable_keys s (object_in n object) (with_key (key_in n key) (values_in n found) (property_in a)) (drop next
    (keys_of n keys))
reflect_rest n s r.SymbolsListed a = symbols_array s (keys_in a)
reflect_rest n s (r.Closed object frozen) a = settle_closed s (object_in n object) frozen (flag_in a)
reflect_rest n s (r.SettledKeys object frozen) a = settle_keys s (object_in n object) frozen (keys_in a)
reflect_rest n s (r.FreezeRead object key keys next) a =
    freeze_found s (object_in n object) (key_in n key) (property_in a)
    >>= (λ b. settle_keys s (object_in n object) true (drop next (keys_of n keys)))
reflect_rest n s (r.Settled object frozen keys next) a =
    unless_type_error s (flag_in a) >>= (λ b. settle_keys s (object_in n object) frozen (drop next (keys_of n keys)))
reflect_rest n s (r.FrozenExtensible object) a = frozen_open s (object_in n object) (flag_in a)
reflect_rest n s (r.FrozenKeys object) a = frozen_keys s (object_in n object) (keys_in a)
reflect_rest n s (r.FrozenRead object keys next) a =
    frozen_key (frozen_keys s (object_in n object) (drop next (keys_of n keys))) (property_in a)
reflect_rest n s (r.GivenBack object) a = given_back s (object_in n object) (flag_in a)
reflect_rest n s r.Described a = described s (property_in a)
reflect_rest n s r.HasOwn a = truth (is_some (property_in a))
reflect_rest n s r.Truth a = truth (flag_in a)
reflect_rest n s r.OwnKeys a = keys_array s (keys_in a)
