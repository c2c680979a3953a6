-- Members that ask an object a method with a key.
use Rattle.std.specs.Prelude.{List, [], is_some, ◌∷◌, ℕ}
use Rattle.mb_frames.specs.Held.{Held, HeldValue}
use Rattle.mb_model.specs.BuiltIns.Arguments.{flag_row, need_object}
use Rattle.mb_model.specs.BuiltIns.ObjectMembers.{described, object_define}
use Rattle.mb_model.specs.Operations.Conversions.{to_key}
use Rattle.mb_model.specs.Operations.Descriptors.{todesc}
use Rattle.mb_model.specs.Task.{Answer, DefineOwnProperty, Delete, Get, GetOwnProperty, HasProperty, Set}
use Rattle.mb_model.specs.Writing.{◌>>=◌, Does, answer, perform, property, truth}
use Rattle.mb_reflect.specs.declared.keyed.Keyed.{Keyed}
use Rattle.mb_reflect.specs.declared.keyed.Keyed.TheVariants as keyed
use Rattle.mb_world.specs.Image.{Names, Resolve}
use Rattle.mb_world.specs.Key.{PropertyKey}
use Rattle.mb_world.specs.Value.{Val}

-- what stands in it
abbrev pub keyed_held : Keyed → List Held
keyed_held keyed.HasOwn = []
keyed_held keyed.Describe = []
keyed_held keyed.Delete = []
keyed_held keyed.Has = []
keyed_held (keyed.Get receiver) = HeldValue receiver ∷ []
keyed_held (keyed.Set x receiver) = HeldValue x ∷ HeldValue receiver ∷ []
keyed_held (keyed.ObjectDefine attributes) = HeldValue attributes ∷ []
keyed_held (keyed.ReflectDefine attributes) = HeldValue attributes ∷ []

-- what it does with an object and a key
abbrev pub keyed_rest : Names → ℕ → Keyed → Val → PropertyKey → Does Answer
keyed_rest n s keyed.HasOwn o k = property (perform s (GetOwnProperty k) o) >>= (λ p. truth (is_some p))
keyed_rest n s keyed.Describe o k = property (perform s (GetOwnProperty k) o) >>= described s
keyed_rest n s keyed.Delete o k = flag_row s (Delete k) o
keyed_rest n s keyed.Has o k = flag_row s (HasProperty k) o
keyed_rest n s (keyed.Get receiver) o k = answer (perform s (Get k (Resolve n receiver)) o)
keyed_rest n s (keyed.Set x receiver) o k = flag_row s (Set k (Resolve n x) (Resolve n receiver)) o
keyed_rest n s (keyed.ObjectDefine attributes) o k = todesc s (Resolve n attributes) >>= object_define s o k
keyed_rest n s (keyed.ReflectDefine attributes) o k =
    todesc s (Resolve n attributes) >>= (λ d. flag_row s (DefineOwnProperty k d) o)

-- the first argument must be an object, and the second a key
abbrev pub keyed_row : Names → ℕ → Keyed → Val → Val → Does Answer
keyed_row n s member o x = need_object s o >>= (λ a. to_key s x >>= keyed_rest n s member o)
