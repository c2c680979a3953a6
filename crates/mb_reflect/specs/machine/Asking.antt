-- Members that ask an object a method, and what follows.
use Rattle.std.specs.Prelude.{[], ◌∷◌, ℕ}
use Rattle.mb_base.specs.declared.value.ObjId.{ObjId}
use Rattle.mb_frames.specs.Resolved.{method_in}
use Rattle.mb_frames.specs.Rest.Reflecting.{reflect_rest}
use Rattle.mb_frames.specs.declared.reflecting.ReflectFrame.{ReflectFrame}
use Rattle.mb_frames.specs.declared.task.Method.{Method}
use Rattle.mb_model.specs.BuiltIns.Arguments.{flag_row, need_object}
use Rattle.mb_model.specs.BuiltIns.ObjectMembers.{enumerable_keys, object_create, symbols_array}
use Rattle.mb_model.specs.BuiltIns.ReflectMembers.{keys_array}
use Rattle.mb_model.specs.Task.{Answer, GetPrototypeOf, IsExtensible, OwnPropertyKeys, PreventExtensions}
use Rattle.mb_model.specs.Writing.{◌>>=◌, Does, answer, keys, perform}
use Rattle.mb_reflect.specs.declared.asking.Asked.{Asked}
use Rattle.mb_reflect.specs.declared.asking.Asked.TheVariants as asked
use Rattle.mb_world.specs.Image.{Names, object_in}
use Rattle.mb_world.specs.Key.{texts_only}
use Rattle.mb_world.specs.Value.{Val}

-- a method of an object is asked, and a frame goes on with the answer
abbrev pub asking : Names → ℕ → ReflectFrame → Method → ObjId → Does Answer
asking n s frame method object =
    answer (perform s (method_in n method) (object_in n object)) >>= reflect_rest n s frame

-- what a member asks of an object, and what follows
abbrev pub asked_rest : ℕ → Asked → Val → Does Answer
asked_rest s asked.Keys o = keys (perform s OwnPropertyKeys o) >>= (λ ks. enumerable_keys s o [] (texts_only ks))
asked_rest s asked.Symbols o = keys (perform s OwnPropertyKeys o) >>= symbols_array s
asked_rest s asked.OwnKeys o = keys (perform s OwnPropertyKeys o) >>= keys_array s
asked_rest s asked.Prototype o = answer (perform s GetPrototypeOf o)
asked_rest s asked.Extensible o = flag_row s IsExtensible o
asked_rest s asked.Prevent o = flag_row s PreventExtensions o

abbrev pub asked_row : ℕ → Asked → Val → Does Answer
asked_row s member o = need_object s o >>= (λ a. asked_rest s member o)

-- Object.create by its two arguments
abbrev pub create_row : ℕ → Val → Val → Does Answer
create_row s p properties = object_create s (p ∷ properties ∷ [])
