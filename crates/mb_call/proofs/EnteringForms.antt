-- Functions are entered by the forms of their nodes: scope, parameters, declarations, body.
use Rattle.std.proofs.Common.{◌≡◌, ◌∙◌, Bool, Err, List, None, Ok, Option, Some, [], ap, drop, if◌then◌else◌}
use Rattle.std.proofs.Common.{option_map, refl, slice_get, sym, true, true≢false, ℕ}
use Rattle.std.specs.Prelude.{All, unwrap_or}
use Rattle.mb_base.specs.declared.value.ScopeId.{ScopeId}
use Rattle.mb_base.specs.declared.value.Value.{Value}
use Rattle.mb_call.proofs.FunctionNames.{drop-none}
use Rattle.mb_call.specs.machine.Functions.{entering, has_block, own_name, params_at, params_of, this_in}
use Rattle.mb_frames.proofs.Forms.{forms-grow}
use Rattle.mb_frames.proofs.Going.{Changes-passes, Enters-passes, Step-unentered}
use Rattle.mb_frames.proofs.Passed.{Part-by, Passes-by, Passes-then}
use Rattle.mb_frames.proofs.Steps.{Grew-then}
use Rattle.mb_frames.specs.Going.{Changes, Enters}
use Rattle.mb_frames.specs.Kinds.{is_function_form}
use Rattle.mb_frames.specs.Passing.{Part, Passes}
use Rattle.mb_frames.specs.Resolved.{context_in, values_in}
use Rattle.mb_frames.specs.Rest.Parts.{body_at, body_of}
use Rattle.mb_frames.specs.Standing.{forms_at}
use Rattle.mb_frames.specs.Stepping.{Grew}
use Rattle.mb_frames.specs.declared.machine.Halt.{Halt}
use Rattle.mb_frames.specs.declared.task.Context.{Context}
use Rattle.mb_model.specs.Meaning.{finished}
use Rattle.mb_model.specs.Nodes.Evaluation.{Context as AContext}
use Rattle.mb_model.specs.Nodes.Functions.{bind_params, body_or_value, enter_form, enter_parts, this_of}
use Rattle.mb_model.specs.Nodes.Scopes.{declare}
use Rattle.mb_model.specs.Task.{Answer, Nothing}
use Rattle.mb_model.specs.Writing.{◌>>=◌, Does, Row}
use Rattle.mb_world.proofs.Images.{map-same, value-grows}
use Rattle.mb_world.specs.Data.{Data}
use Rattle.mb_world.specs.Form.{ArrowForm, Form, FunctionDeclForm, FunctionForm, FunctionParts, GetterForm, MethodForm}
use Rattle.mb_world.specs.Form.{SetterForm}
use Rattle.mb_world.specs.Graph.{Code as GraphCode, Graph}
use Rattle.mb_world.specs.Ids.{HasItsIds, ValueIn}
use Rattle.mb_world.specs.Image.{Image, Names, Resolve, code_in, names_of}
use Rattle.mb_world.specs.Value.{Val}
use Rattle.mb_world.specs.declared.cell.Code.{Code}

-- ---- what follows by the form of a function's node

abbrev pub parts_of : Option Form → FunctionParts
parts_of o = record { params = params_of o; body = body_of o }

form-is : (k : GraphCode) (this : Val) (vs : List Val) (o : Option Form) → is_function_form o ≡ true
    → enter_form k this vs o ≡ enter_parts k this vs (has_block o) (own_name o) (parts_of o)
form-is k this vs None h = absurd (true≢false (sym h))
form-is k this vs (Some (FunctionDeclForm x parts)) h = refl
form-is k this vs (Some (FunctionForm x parts)) h = refl
form-is k this vs (Some (ArrowForm parts block)) h = refl
form-is k this vs (Some (MethodForm name parts)) h = refl
form-is k this vs (Some (GetterForm name parts)) h = refl
form-is k this vs (Some (SetterForm name parts)) h = refl
form-is k this vs (Some _) h = absurd (true≢false (sym h))

this-is : (n : Names) (code : Code) (this : Value)
    → this_of (option_map (Resolve n) code.bound_this) (Resolve n this) ≡ Resolve n (this_in code this)
this-is n code this = by code.bound_this
  where
    by : (o : Option Value) → this_of (option_map (Resolve n) o) (Resolve n this) ≡ Resolve n (unwrap_or o this)
    by None = refl
    by (Some x) = refl

-- its scope couldn't be entered
pub Part-unentered : (d d1 : Data) (code : Code) (this : Val) (vs : List Val) (halt : Halt) (f f1 : ℕ)
    → is_function_form (slice_get (forms_at d code.side) code.node.0) ≡ true
    → Enters (Err halt) d d1 f f1 (entering d code)
    → Part code.side (Err halt) d d1 f f1
    (enter_form (code_in (names_of d) code) this vs (slice_get (forms_at d code.side) code.node.0) finished)
Part-unentered d d1 code this vs halt f f1 h q =
    let k : GraphCode = code_in (names_of d) code in
    let node : Option Form = slice_get (forms_at d code.side) code.node.0 in
    let body : List ℕ = body_of node in
    let after : ℕ → Does Answer
    = λ sc. bind_params sc (params_of node) vs >>= (λ b. declare k.side sc (if has_block node then body else [])
    >>= (λ a. body_or_value (record { side = k.side; scope = sc; this = this_of k.bound_this this }) (has_block node)
    body)) in
    Part-by code.side (Err halt) d d1 f f1 (enter_form k this vs node finished)
    ((entering d code >>= after) finished)
    (λ log. ap (λ (p : Does Answer). p finished (Image d log)) (form-is k this vs node h))
    (λ begun l. Step-unentered code.side begun halt d d1 f f1 l (entering d code) (λ sc. after sc finished) q)

module _ (d : Data) (code : Code) (this : Value) (arguments : List Value) (scope : ScopeId) where
  abbrev side : ℕ
  side = code.side.0

  abbrev node : Option Form
  node = slice_get (forms_at d code.side) code.node.0

  -- where the body is evaluated, as the world has grown
  abbrev pub inside : Context
  inside = record { scope = scope; this = this_in code this }

  -- what follows the parameters: the declarations of a body in braces, and the body
  abbrev pub follows : Bool → AContext → List ℕ → Does Answer
  follows block c ns =
      declare side scope.0 (if block then ns else []) >>= (λ a. body_or_value c block ns)

  abbrev where-it-began : AContext
  where-it-began = record {
    side = side;
    scope = scope.0;
    this = this_of (option_map (Resolve (names_of d)) code.bound_this) (Resolve (names_of d) this);
  }

  abbrev pub body-in : Data → List ℕ
  body-in e = body_at (forms_at e code.side) code.node.0

  module _ (function : is_function_form node ≡ true) (ids : HasItsIds d) (i : ValueIn d (this_in code this))
      (a : All (ValueIn d) arguments) where
    -- the parameters get their arguments in the scope that was entered
    pub entered-passes : (d1 : Data) (f f1 : ℕ) → Enters (Ok scope) d d1 f f1 (entering d code)
        → Passes d d1 f f1
        (enter_form (code_in (names_of d) code) (Resolve (names_of d) this) (values_in (names_of d) arguments) node
        finished)
        ((bind_params scope.0 (params_at (forms_at d1 code.side) code.node.0) (values_in (names_of d1) arguments)
        >>= (λ b. follows (has_block node) where-it-began (body-in d))) finished)
    entered-passes d1 f f1 q =
        let n : Names = names_of d in
        let vs : List Val = values_in n arguments in
        let block : Bool = has_block node in
        let after : ℕ → List (List ℕ) → List Val → Does Answer
        = λ sc xs ws. bind_params sc xs ws >>= (λ b. declare side sc (if block then body-in d else [])
        >>= (λ a. body_or_value (record where-it-began { scope = sc }) block (body-in d))) in
        let p0 : Graph → Row = enter_form (code_in n code) (Resolve n this) vs node finished in
        let p1 : Graph → Row = (entering d code >>= (λ sc. after sc (params_of node) vs)) finished in
        let p2 : Graph → Row = after scope.0 (params_of node) vs finished in
        let p3 : Graph → Row
        = after scope.0 (params_at (forms_at d1 code.side) code.node.0) (values_in (names_of d1) arguments) finished in
        Passes-then d d d1 f f f1 p0 p1 p3
        (Passes-by d f p0 p1
        (λ log. ap (λ (p : Does Answer). p finished (Image d log)) (form-is (code_in n code) (Resolve n this) vs node
        function)))
        (Passes-then d d1 d1 f f1 f1 p1 p2 p3
        (Enters-passes d d1 f f1 (entering d code) scope (λ sc. after sc (params_of node) vs finished) q)
        (Passes-by d1 f1 p2 p3
        (λ log.
        ap (λ (fs : List Form). after scope.0 (params_at fs code.node.0) vs finished (Image d1 log))
        (sym (forms-grow d d1 code.side ids q.grew))
        ∙ ap (λ (ws : List Val). after scope.0 (params_at (forms_at d1 code.side) code.node.0) ws finished
        (Image d1 log))
        (sym (map-same (Resolve (names_of d1)) (Resolve n) (ValueIn d) (value-grows d d1 q.grew.grows) arguments a)))))

    -- the rest follows in the world in which they have them
    pub bound-passes : (d1 d2 : Data) (f1 : ℕ) → Grew d d1
        → Changes (Ok tt) d1 d2
        (bind_params scope.0 (params_at (forms_at d1 code.side) code.node.0) (values_in (names_of d1) arguments))
        → Passes d1 d2 f1 f1
        ((bind_params scope.0 (params_at (forms_at d1 code.side) code.node.0) (values_in (names_of d1) arguments)
        >>= (λ b. follows (has_block node) where-it-began (body-in d))) finished)
        (follows (has_block node) (context_in (names_of d2) side inside) (body-in d2) finished)
    bound-passes d1 d2 f1 g q =
        let block : Bool = has_block node in
        let p : Does Answer
        = bind_params scope.0 (params_at (forms_at d1 code.side) code.node.0) (values_in (names_of d1) arguments) in
        let k : Answer → Graph → Row = λ b. follows block where-it-began (body-in d) finished in
        let z : Grew d d2 = Grew-then d d1 d2 g q.grew in
        let c : AContext = context_in (names_of d2) side inside in
        Passes-then d1 d2 d2 f1 f1 f1 (p k) (k Nothing) (follows block c (body-in d2) finished)
        (Changes-passes d1 d2 f1 p k q)
        (Passes-by d2 f1 (k Nothing) (follows block c (body-in d2) finished)
        (λ log.
        ap (λ (v : Val). follows block (record { side = side; scope = scope.0; this = v }) (body-in d) finished
        (Image d2 log))
        (this-is (names_of d) code this ∙ sym (value-grows d d2 z.grows (this_in code this) i))
        ∙ ap (λ (fs : List Form). follows block c (body_at fs code.node.0) finished (Image d2 log))
        (sym (forms-grow d d2 code.side ids z))))

-- a body in braces: its declarations are made, and its statements follow
module _ (d2 d3 : Data) (code : Code) (this : Value) (scope : ScopeId) (f : ℕ) (ids : HasItsIds d2)
    (i : ValueIn d2 (this_in code this)) where
  abbrev at : Context
  at = record { scope = scope; this = this_in code this }

  abbrev ns : Data → List ℕ
  ns e = body_at (forms_at e code.side) code.node.0

  pub declared-passes : Changes (Ok tt) d2 d3 (declare code.side.0 scope.0 (ns d2))
      → Passes d2 d3 f f
      ((declare code.side.0 scope.0 (ns d2)
      >>= (λ a. body_or_value (context_in (names_of d2) code.side.0 at) true (ns d2))) finished)
      (body_or_value (context_in (names_of d3) code.side.0 at) true (drop 0 (ns d3)) finished)
  declared-passes q =
      let p : Does Answer = declare code.side.0 scope.0 (ns d2) in
      let c : AContext = context_in (names_of d2) code.side.0 at in
      let k : Answer → Graph → Row = λ a. body_or_value c true (ns d2) finished in
      let e : Graph → Row = body_or_value (context_in (names_of d3) code.side.0 at) true (drop 0 (ns d3)) finished in
      Passes-then d2 d3 d3 f f f (p k) (k Nothing) e (Changes-passes d2 d3 f p k q)
      (Passes-by d3 f (k Nothing) e
      (λ log.
      ap (λ (v : Val). body_or_value (record { side = code.side.0; scope = scope.0; this = v }) true (ns d2) finished
      (Image d3 log)) (sym (value-grows d2 d3 q.grew.grows (this_in code this) i))
      ∙ ap (λ (fs : List Form). body_or_value (context_in (names_of d3) code.side.0 at) true (body_at fs code.node.0)
      finished (Image d3 log)) (sym (forms-grow d2 d3 code.side ids q.grew))
      ∙ ap (λ (ms : List ℕ). body_or_value (context_in (names_of d3) code.side.0 at) true ms finished (Image d3 log))
      (sym (drop-none (ns d3)))))
