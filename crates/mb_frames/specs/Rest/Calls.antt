-- The rest of a method, a function, a list or a descriptor that waits (ECMA-262 10.1, 10.2, 7.3, 6.2.6).
use Rattle.std.specs.Prelude.{◌+◌, Bool, List, [], drop, false, length, true, ℕ, ◌∷◌}
use Rattle.mb_desc.specs.declared.descriptor.Desc.{Desc}
use Rattle.mb_frames.specs.Resolved.{context_in, label_in, values_in}
use Rattle.mb_frames.specs.Rest.Parts.{body_at, with_answer}
use Rattle.mb_model.specs.BuiltIns.Arguments.{flag_row}
use Rattle.mb_model.specs.BuiltIns.ObjectMembers.{object_define}
use Rattle.mb_model.specs.BuiltIns.ReflectMembers.{apply_listed, construct_listed}
use Rattle.mb_model.specs.Nodes.Functions.{body, body_next}
use Rattle.mb_model.specs.Objects.Methods.{construct_with, constructed, receiver_has}
use Rattle.mb_model.specs.Objects.Proxies.{as_keys, keys_listed, own_converted}
use Rattle.mb_model.specs.Operations.Calls.{length_from, list_from, list_got}
use Rattle.mb_model.specs.Operations.Descriptors.{ConfigurableField, EnumerableField, Field, GetField, SetField, ValueField, WritableField, field_found, todesc_from, with_field}
use Rattle.mb_model.specs.Task.{Answer, DefineOwnProperty, Outcome}
use Rattle.mb_model.specs.Writing.{◌>>=◌, Does, flag_in, is_value, property_in, value_in, yes_or_no}
use Rattle.mb_world.specs.Form.{Form}
use Rattle.mb_world.specs.Image.{Names, Resolve, desc_in, key_in, object_in}
use Rattle.mb_world.specs.Value.{Val}
use Rattle.mb_frames.specs.declared.calls.AfterList.{AfterList}
use Rattle.mb_frames.specs.declared.calls.AfterList.TheVariants as list
use Rattle.mb_frames.specs.declared.calls.AfterDesc.{AfterDesc}
use Rattle.mb_frames.specs.declared.calls.AfterDesc.TheVariants as desc
use Rattle.mb_frames.specs.declared.calls.Field.{Field as FrameField}
use Rattle.mb_frames.specs.declared.calls.Field.TheVariants as field
use Rattle.mb_frames.specs.declared.calls.CallFrame.{CallFrame}
use Rattle.mb_frames.specs.declared.calls.CallFrame.TheVariants as c

-- ---- lists and descriptors, and what follows

abbrev pub asks_keys : AfterList → Bool
asks_keys (list.Keys target) = true
asks_keys after = false

abbrev pub after_list : Names → ℕ → AfterList → List Val → Does Answer
after_list n s (list.Apply function this) vs = apply_listed s (Resolve n function) (Resolve n this) vs
after_list n s (list.Construct function target) vs = construct_listed s (object_in n function) (Resolve n target) vs
after_list n s (list.Keys target) vs = keys_listed s (object_in n target) (as_keys vs)

abbrev pub field_in : FrameField → Field
field_in field.Enumerable = EnumerableField
field_in field.Configurable = ConfigurableField
field_in field.Value = ValueField
field_in field.Writable = WritableField
field_in field.Get = GetField
field_in field.Set = SetField

-- the fields that are read after a field
abbrev pub fields_after : FrameField → List Field
fields_after field.Enumerable = ConfigurableField ∷ ValueField ∷ WritableField ∷ GetField ∷ SetField ∷ []
fields_after field.Configurable = ValueField ∷ WritableField ∷ GetField ∷ SetField ∷ []
fields_after field.Value = WritableField ∷ GetField ∷ SetField ∷ []
fields_after field.Writable = GetField ∷ SetField ∷ []
fields_after field.Get = SetField ∷ []
fields_after field.Set = []

abbrev pub after_desc : Names → ℕ → AfterDesc → Desc Val → Does Answer
after_desc n s (desc.ObjectDefine object key) d = object_define s (object_in n object) (key_in n key) d
after_desc n s (desc.ReflectDefine object key) d =
    flag_row s (DefineOwnProperty (key_in n key) d) (object_in n object)
after_desc n s (desc.Own target key) d = own_converted s (object_in n target) (key_in n key) d

-- ---- each that waits

abbrev pub call_rest : Names → List Form → ℕ → CallFrame → Outcome → Does Answer
call_rest n fs s c.SetterCalled o = with_answer o (λ a. yes_or_no true)
call_rest n fs s (c.ReceiverRead key value receiver) o =
    with_answer o (λ a. receiver_has s (key_in n key) (Resolve n value) (object_in n receiver) (property_in a))
call_rest n fs s (c.ConstructPrototype function label arguments) o =
    with_answer o (λ a. construct_with s (object_in n function) (label_in n label) (values_in n arguments) (value_in a))
call_rest n fs s (c.ConstructBody made) o = with_answer o (λ a. constructed (object_in n made) (value_in a))
call_rest n fs s (c.Statement at node next) o = body_next (body (context_in n s at) (drop next (body_at fs node.0))) o
call_rest n fs s c.ArrowValue o = with_answer o (λ a. is_value (value_in a))
call_rest n fs s (c.ListLength list after) o =
    with_answer o (λ a. length_from s (value_in a)
    >>= (λ m. list_from s (asks_keys after) (object_in n list) m 0 []) >>= after_list n s after)
call_rest n fs s (c.ListElement list left done after) o =
    with_answer o (λ a. list_got s (asks_keys after) (values_in n done) (value_in a)
    >>= list_from s (asks_keys after) (object_in n list) left (length done + 1) >>= after_list n s after)
call_rest n fs s (c.FieldThere object field desc after) o =
    with_answer o (λ a. field_found s (object_in n object) (desc_in (Resolve n) desc) (field_in field)
    (flag_in a) >>= todesc_from s (object_in n object) (fields_after field) >>= after_desc n s after)
call_rest n fs s (c.FieldGot object field desc after) o =
    with_answer o (λ a. with_field s (desc_in (Resolve n) desc) (field_in field) (value_in a)
    >>= todesc_from s (object_in n object) (fields_after field) >>= after_desc n s after)
