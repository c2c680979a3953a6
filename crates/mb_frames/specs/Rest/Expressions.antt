-- The rest of an expression that waits (ECMA-262 13), from the answer of its part.
use Rattle.std.specs.Prelude.{◌+◌, ◌++◌, List, None, Option, Some, [], drop, length, not, slice_get, ℕ, ◌∷◌}
use Rattle.mb_frames.specs.Resolved.{context_in, reference_in, values_in}
use Rattle.mb_frames.specs.Rest.Parts.{parts_at}
use Rattle.mb_model.specs.Nodes.Assignments.{assign_to, assigned, compound_got, compound_old, compound_to, update_old, update_to}
use Rattle.mb_model.specs.Nodes.BinaryOperators.{chain_got, instance_prototype, left_got, right_got}
use Rattle.mb_model.specs.Nodes.Evaluation.{Context, branch}
use Rattle.mb_model.specs.Nodes.Invocations.{and_got, arguments, call_all, call_reference, callee_got, constructor_got, new_all, or_got, sequence}
use Rattle.mb_model.specs.Nodes.Literals.{elements, prop_keyed, prop_value, props}
use Rattle.mb_model.specs.Nodes.References.{Reference, ToPlace, get_reference, index_base_got, index_key_got}
use Rattle.mb_model.specs.Nodes.UnaryOperators.{delete_done, delete_reference, negated, typeof_value}
use Rattle.mb_model.specs.Objects.Methods.{store_element}
use Rattle.mb_model.specs.Operations.Conversions.{to_key}
use Rattle.mb_model.specs.Task.{Answer, Nothing}
use Rattle.mb_model.specs.Writing.{◌>>=◌, Does, flag_in, give, is_value, truth, unless_type_error, value_in}
use Rattle.mb_world.specs.Form.{Form}
use Rattle.mb_world.specs.Image.{Names, Resolve, key_in, object_in, text_in}
use Rattle.mb_world.specs.Key.{Named, PropertyKey}
use Rattle.mb_world.specs.Value.{Val, to_boolean}
use Rattle.mb_frames.specs.declared.expressions.After.{After}
use Rattle.mb_frames.specs.declared.expressions.After.TheVariants as after
use Rattle.mb_frames.specs.declared.expressions.ExprFrame.{ExprFrame}
use Rattle.mb_frames.specs.declared.expressions.ExprFrame.TheVariants as e

-- what follows where the reference is there
abbrev pub after_rest : List Form → Context → After → Reference → Does Answer
after_rest fs c after.Get r = get_reference c r
after_rest fs c (after.Assign value) r = assign_to c value.0 r
after_rest fs c (after.Compound sign value) r = compound_to c sign value.0 r
after_rest fs c (after.Update plus prefix) r = update_to c plus prefix r
after_rest fs c (after.Call node) r = call_reference c (parts_at fs node.0) r
after_rest fs c after.Delete r = delete_reference c r

-- the property of an object literal whose key was found
abbrev pub prop_by : Context → Val → ℕ → Option Form → PropertyKey → Does Answer
prop_by c o node None k = give Nothing
prop_by c o node (Some f) k = prop_keyed c o node f k

abbrev pub prop_keyed_at : List Form → Context → Val → ℕ → PropertyKey → Does Answer
prop_keyed_at fs c o node k = prop_by c o node (slice_get fs node) k

abbrev pub expr_rest : Names → List Form → ℕ → ExprFrame → Answer → Does Answer
expr_rest n fs s (e.Element at node array place) a =
    store_element s (object_in n array) place (value_in a)
    >>= (λ b. elements (context_in n s at) (object_in n array) (place + 1) (drop (place + 1) (parts_at fs node.0)))
expr_rest n fs s (e.PropKey at node object property place) a =
    to_key s (value_in a) >>= prop_keyed_at fs (context_in n s at) (object_in n object) property.0
    >>= (λ b. props (context_in n s at) (object_in n object) (drop (place + 1) (parts_at fs node.0)))
expr_rest n fs s (e.PropValue at node object place key) a =
    prop_value s (object_in n object) (key_in n key) (value_in a)
    >>= (λ b. props (context_in n s at) (object_in n object) (drop (place + 1) (parts_at fs node.0)))
expr_rest n fs s (e.MemberBase at name after) a =
    after_rest fs (context_in n s at) after (ToPlace (value_in a) (Named (text_in n name)))
expr_rest n fs s (e.IndexBase at key after) a =
    index_base_got (context_in n s at) key.0 (value_in a) >>= after_rest fs (context_in n s at) after
expr_rest n fs s (e.IndexKey at base after) a =
    index_key_got (context_in n s at) (Resolve n base) (value_in a) >>= after_rest fs (context_in n s at) after
expr_rest n fs s e.Got a = is_value (value_in a)
expr_rest n fs s (e.AssignValue at to) a = assigned (context_in n s at) (reference_in n to) (value_in a)
expr_rest n fs s (e.CompoundOld at sign value to) a =
    compound_old (context_in n s at) sign value.0 (reference_in n to) (value_in a)
expr_rest n fs s (e.CompoundValue at sign old to) a =
    compound_got (context_in n s at) sign (reference_in n to) (Resolve n old) (value_in a)
expr_rest n fs s (e.UpdateOld at plus prefix to) a =
    update_old (context_in n s at) plus prefix (reference_in n to) (value_in a)
expr_rest n fs s (e.Put gives) a = unless_type_error s (flag_in a) >>= (λ b. is_value (Resolve n gives))
expr_rest n fs s (e.Callee at node this) a =
    callee_got (context_in n s at) (parts_at fs node.0) (Resolve n this) (value_in a)
expr_rest n fs s (e.Argument at node callee this done) a =
    arguments (context_in n s at) (drop (length done + 1) (parts_at fs node.0)) (values_in n done ++
    (value_in a ∷ [])) >>= call_all s (Resolve n callee) (Resolve n this)
expr_rest n fs s (e.Constructor at node) a = constructor_got (context_in n s at) (parts_at fs node.0) (value_in a)
expr_rest n fs s (e.NewArgument at node callee done) a =
    arguments (context_in n s at) (drop (length done + 1) (parts_at fs node.0)) (values_in n done ++
    (value_in a ∷ [])) >>= new_all s (Resolve n callee)
expr_rest n fs s (e.Or at right) a = or_got (context_in n s at) right.0 (value_in a)
expr_rest n fs s (e.And at right) a = and_got (context_in n s at) right.0 (value_in a)
expr_rest n fs s (e.Cond at main other) a = branch (context_in n s at) main.0 (Some other.0) (to_boolean (value_in a))
expr_rest n fs s (e.Seq at node next) a = sequence (context_in n s at) (drop next (parts_at fs node.0)) (value_in a)
expr_rest n fs s e.Not a = truth (not (to_boolean (value_in a)))
expr_rest n fs s e.Negate a = negated s (value_in a)
expr_rest n fs s e.Typeof a = typeof_value (value_in a)
expr_rest n fs s e.Deleted a = delete_done s (flag_in a)
expr_rest n fs s (e.Left at sign right) a = left_got (context_in n s at) sign right.0 (value_in a)
expr_rest n fs s (e.Right sign left) a = right_got s sign (Resolve n left) (value_in a)
expr_rest n fs s e.Has a = truth (flag_in a)
expr_rest n fs s (e.InstancePrototype object) a = instance_prototype s (object_in n object) (value_in a)
expr_rest n fs s (e.Chain prototype) a = chain_got s (object_in n prototype) (value_in a)
