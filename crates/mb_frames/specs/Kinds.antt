-- Which nodes a row goes through, by their forms.
use Rattle.std.specs.Prelude.{Bool, None, Option, Some, false, is_some, true}
use Rattle.mb_world.specs.Form.{ArrayForm, BlockForm, BreakForm, CallForm, ConstForm, ContinueForm, DeclForm, DoWhileForm, EmptyForm, ExprStmtForm, ForForm, Form, FunctionDeclForm, GetterForm, IfForm, LetForm, MethodForm, NewForm, ObjectForm, ParamForm, ReturnForm, ScriptForm, SeqForm, SetterForm, ThrowForm, TryForm, ValueForm, WhileForm}
use Rattle.mb_world.specs.Formed.{function_of}

-- the sorts of nodes: which places of a tree a node may stand at (ECMA-262 13 to 15)
pub data NodeSort : Type 0 where
  Expression : NodeSort
  Statement : NodeSort
  Declared : NodeSort
  Parameter : NodeSort
  PropertyDefinition : NodeSort

abbrev pub form_sort : Form → NodeSort
form_sort (ScriptForm ns) = Statement
form_sort (LetForm ns) = Statement
form_sort (ConstForm ns) = Statement
form_sort (DeclForm name value) = Declared
form_sort (FunctionDeclForm name parts) = Statement
form_sort (BlockForm ns) = Statement
form_sort EmptyForm = Statement
form_sort (ExprStmtForm value) = Statement
form_sort (IfForm test main other) = Statement
form_sort (WhileForm test body) = Statement
form_sort (DoWhileForm body test) = Statement
form_sort (ForForm first test last body) = Statement
form_sort (ReturnForm value) = Statement
form_sort (ThrowForm value) = Statement
form_sort BreakForm = Statement
form_sort ContinueForm = Statement
form_sort (TryForm block caught handler ending) = Statement
form_sort (ParamForm name) = Parameter
form_sort (ValueForm name value) = PropertyDefinition
form_sort (MethodForm name parts) = PropertyDefinition
form_sort (GetterForm name parts) = PropertyDefinition
form_sort (SetterForm name parts) = PropertyDefinition
form_sort form = Expression

abbrev pub is_expression_sort : NodeSort → Bool
is_expression_sort Expression = true
is_expression_sort sort = false

-- an expression or a statement is evaluated
abbrev pub is_evaluated_sort : NodeSort → Bool
is_evaluated_sort Expression = true
is_evaluated_sort Statement = true
is_evaluated_sort sort = false

abbrev pub sort_passes : (NodeSort → Bool) → Option Form → Bool
sort_passes test None = false
sort_passes test (Some f) = test (form_sort f)

abbrev pub is_expression : Option Form → Bool
is_expression f = sort_passes is_expression_sort f

abbrev pub is_evaluated : Option Form → Bool
is_evaluated f = sort_passes is_evaluated_sort f

abbrev pub is_list_form : Option Form → Bool
is_list_form (Some (ScriptForm ns)) = true
is_list_form (Some (BlockForm ns)) = true
is_list_form f = false

abbrev pub is_declaring_form : Option Form → Bool
is_declaring_form (Some (LetForm ns)) = true
is_declaring_form (Some (ConstForm ns)) = true
is_declaring_form f = false

abbrev pub is_array_form : Option Form → Bool
is_array_form (Some (ArrayForm ns)) = true
is_array_form f = false

abbrev pub is_object_form : Option Form → Bool
is_object_form (Some (ObjectForm ns)) = true
is_object_form f = false

abbrev pub is_prop_form : Option Form → Bool
is_prop_form (Some (ValueForm name value)) = true
is_prop_form (Some (MethodForm name parts)) = true
is_prop_form (Some (GetterForm name parts)) = true
is_prop_form (Some (SetterForm name parts)) = true
is_prop_form f = false

abbrev pub is_call_form : Option Form → Bool
is_call_form (Some (CallForm callee ns)) = true
is_call_form f = false

abbrev pub is_new_form : Option Form → Bool
is_new_form (Some (NewForm callee ns)) = true
is_new_form f = false

abbrev pub is_seq_form : Option Form → Bool
is_seq_form (Some (SeqForm ns)) = true
is_seq_form f = false

abbrev pub is_while_form : Option Form → Bool
is_while_form (Some (WhileForm test body)) = true
is_while_form f = false

abbrev pub is_do_form : Option Form → Bool
is_do_form (Some (DoWhileForm body test)) = true
is_do_form f = false

abbrev pub is_for_form : Option Form → Bool
is_for_form (Some (ForForm first test last body)) = true
is_for_form f = false

abbrev pub is_try_form : Option Form → Bool
is_try_form (Some (TryForm block caught handler ending)) = true
is_try_form f = false

abbrev pub is_function_form : Option Form → Bool
is_function_form f = is_some (function_of f)
