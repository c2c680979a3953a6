-- Functions by the forms of their nodes.
use Rattle.std.specs.Prelude.{Bool, List, None, Option, Some, [], false, is_some, slice_get, true, unwrap_or, ℕ, ◌≡◌}
use Rattle.mb_base.specs.declared.value.Value.{Value}
use Rattle.mb_call.specs.declared.shapes.FunctionShape.{FunctionShape}
use Rattle.mb_frames.specs.Kinds.{Expression, NodeSort, Statement, is_function_form}
use Rattle.mb_frames.specs.Standing.{forms_at}
use Rattle.mb_model.specs.Nodes.Functions.{entered_names}
use Rattle.mb_model.specs.Nodes.Scopes.{bound_names, enter_names}
use Rattle.mb_model.specs.Writing.{◌>>=◌, Does, look}
use Rattle.mb_world.specs.Data.{Data}
use Rattle.mb_world.specs.Form.{ArrowForm, Form, FunctionDeclForm, FunctionForm, GetterForm, MethodForm, SetterForm}
use Rattle.mb_world.specs.declared.cell.Code.{Code}

-- a name that stands in a scope of its own
abbrev pub own_name : Option Form → Option (List ℕ)
own_name (Some (FunctionForm x parts)) = x
own_name form = None

-- the body is statements, and no expression
abbrev pub has_block : Option Form → Bool
has_block (Some (ArrowForm parts block)) = block
has_block form = true

abbrev pub params_of : Option Form → List (List ℕ)
params_of (Some (FunctionDeclForm x parts)) = parts.params
params_of (Some (FunctionForm x parts)) = parts.params
params_of (Some (ArrowForm parts block)) = parts.params
params_of (Some (MethodForm name parts)) = parts.params
params_of (Some (GetterForm name parts)) = parts.params
params_of (Some (SetterForm name parts)) = parts.params
params_of form = []

-- the parameters of a function's node
abbrev pub params_at : List Form → ℕ → List (List ℕ)
params_at fs node = params_of (slice_get fs node)

abbrev pub sort_by_block : Bool → NodeSort
sort_by_block block = elim block [ true ↦ Statement | false ↦ Expression ]

-- how many names of its own stand first
abbrev pub own_count : Bool → ℕ
own_count named = elim named [ true ↦ 1 | false ↦ 0 ]

pub record IsShape (form : Option Form) (shape : FunctionShape) : Type 0 where
  pub function : is_function_form form ≡ true
  pub named : shape.named ≡ is_some (own_name form)
  pub block : shape.block ≡ has_block form

-- an arrow function keeps the `this` of where it was made
abbrev pub this_in : Code → Value → Value
this_in code this = unwrap_or code.bound_this this

-- the part of a row that enters the scope of a function
abbrev pub entering : Data → Code → Does ℕ
entering d code = look (λ g. bound_names g code.side.0 code.node.0)
    >>= (λ xs. enter_names code.side.0 code.scope.0
    (entered_names (own_name (slice_get (forms_at d code.side) code.node.0)) xs))
