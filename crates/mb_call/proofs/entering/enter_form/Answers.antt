use Rattle.std.proofs.Common.{◌≡◌, ◌∙◌, Bool, Ok, drop, false, slice_get, subst, sym, true}
use Rattle.std.proofs.lemmas.Result.{err_from_is_err_and}
use Rattle.mb_base.specs.declared.value.Value.{Value}
use Rattle.mb_call.proofs.EnteringForms.{Part-unentered, body-in, bound-passes, declared-passes, entered-passes}
use Rattle.mb_call.proofs.EnteringForms.{follows, inside}
use Rattle.mb_call.proofs.EnteringKept.{entered-acts, of-function, still-acts}
use Rattle.mb_call.proofs.entering.enter_form.Goals as goal
use Rattle.mb_call.proofs.entering.enter_form.Goals.{In_ok-bind_params-in-Some}
use Rattle.mb_call.specs.Ours.{Acts}
use Rattle.mb_call.specs.machine.Functions.{has_block}
use Rattle.mb_frames.proofs.Forms.{forms-grow, ready-runs}
use Rattle.mb_frames.proofs.Keeping.{keeps-halted, keeps-same, keeps-then}
use Rattle.mb_frames.proofs.Passed.{Part-passed, Part-sure, Passes-then}
use Rattle.mb_frames.proofs.Readying.{changed-then}
use Rattle.mb_frames.specs.Passing.{Part, Passes}
use Rattle.mb_frames.specs.Ready.{Changed}
use Rattle.mb_frames.specs.Resolved.{context_in, values_in}
use Rattle.mb_frames.specs.Sorts.{AValue}
use Rattle.mb_frames.specs.Standing.{forms_at}
use Rattle.mb_model.specs.Meaning.{finished}
use Rattle.mb_model.specs.Nodes.Functions.{body_or_value, enter_form}
use Rattle.mb_world.specs.Form.{Form}
use Rattle.mb_world.specs.Image.{Resolve, code_in, names_of}
use Rattle.std.proofs.Common.{List, ap}

pub shape_of-requires : goal.shape_of-requires
shape_of-requires c = ready-runs c.args.w.now c.args.code.side c.requires.acts.ready c.requires.acts.side

pub enter_names-requires-clause-acts : goal.enter_names-requires-clause-acts
enter_names-requires-clause-acts c =
    let a = c.requires.acts in
    record { ready = a.ready; side = a.side; holds = (a.holds.0, (a.holds.1.0, tt)) }

pub enter_names-requires-clause-named : goal.enter_names-requires-clause-named
enter_names-requires-clause-named c = c.in-Some.ensures.shape.named

pub bind_params-requires : goal.bind_params-requires
bind_params-requires c =
    let a = entered-acts c.args.code c.args.this c.args.arguments c.args.w.now c.enter_names.new.w
    c.in_ok-scope-in-Some.scope c.requires.acts c.in_ok-scope-in-Some.ensures.keeps in
    record { acts = record { ready = a.ready; side = a.side; holds = (a.holds.0, (a.holds.1.1.1.0, tt)) } }

-- ---- in the scope that was entered, with the parameters

bound : (c : In_ok-bind_params-in-Some) → Acts c.bind_params.new.w c.args.code.side
    (of-function c.args.code c.args.this c.args.arguments c.in_ok-scope-in-Some.scope)
bound c =
    still-acts c.args.code c.args.this c.args.arguments c.enter_names.new.w c.bind_params.new.w
    c.in_ok-scope-in-Some.scope
    (entered-acts c.args.code c.args.this c.args.arguments c.args.w.now c.enter_names.new.w
    c.in_ok-scope-in-Some.scope c.requires.acts c.in_ok-scope-in-Some.ensures.keeps)
    c.in_ok-bind_params-in-Some.ensures.keeps

-- the world so far
changed : (c : In_ok-bind_params-in-Some) → Changed c.args.code.side c.args.w.now c.bind_params.new.w
changed c =
    changed-then c.args.code.side c.args.w.now c.enter_names.new.w c.bind_params.new.w
    c.in_ok-scope-in-Some.ensures.keeps.changed c.in_ok-bind_params-in-Some.ensures.keeps.changed

-- the row so far
passes : (c : In_ok-bind_params-in-Some) (block : Bool) → c.in-Some.shape.block ≡ block
    → Passes c.args.w.now c.bind_params.new.w c.args.fuel.now c.enter_names.new.fuel
    (enter_form (code_in (names_of c.args.w.now) c.args.code) (Resolve (names_of c.args.w.now) c.args.this)
    (values_in (names_of c.args.w.now) c.args.arguments)
    (slice_get (forms_at c.args.w.now c.args.code.side) c.args.code.node.0) finished)
    (follows c.args.w.now c.args.code c.args.this c.args.arguments c.in_ok-scope-in-Some.scope block
    (context_in (names_of c.bind_params.new.w) c.args.code.side.0
    (inside c.args.w.now c.args.code c.args.this c.args.arguments c.in_ok-scope-in-Some.scope))
    (body-in c.args.w.now c.args.code c.args.this c.args.arguments c.in_ok-scope-in-Some.scope c.bind_params.new.w)
    finished)
passes c block e =
    let d = c.args.w.now in
    let d1 = c.enter_names.new.w in
    let d2 = c.bind_params.new.w in
    let code = c.args.code in
    let this = c.args.this in
    let args = c.args.arguments in
    let scope = c.in_ok-scope-in-Some.scope in
    let a = c.requires.acts in
    let f1 = c.enter_names.new.fuel in
    let s = c.in-Some.ensures.shape in
    let g = c.in_ok-scope-in-Some.ensures.keeps.changed.found.grew in
    subst (λ (b : Bool). Passes d d2 c.args.fuel.now f1
    (enter_form (code_in (names_of d) code) (Resolve (names_of d) this) (values_in (names_of d) args)
    (slice_get (forms_at d code.side) code.node.0) finished)
    (follows d code this args scope b (context_in (names_of d2) code.side.0 (inside d code this args scope))
    (body-in d code this args scope d2) finished)) (sym s.block ∙ e)
    (Passes-then d d1 d2 c.args.fuel.now f1 f1 _ _ _
    (entered-passes d code this args scope s.function a.ready.ids a.holds.1.1.0.within a.holds.1.1.1.0.within d1
    c.args.fuel.now f1 c.in_ok-scope-in-Some.ensures.enters)
    (bound-passes d code this args scope s.function a.ready.ids a.holds.1.1.0.within a.holds.1.1.1.0.within d1 d2 f1 g
    c.in_ok-bind_params-in-Some.ensures.changes))

-- ---- a body in braces

pub run_body-requires : goal.run_body-requires
run_body-requires c =
    let p = (goal.at.run_body-requires c).In_ok-bind_params-in-Some in
    let a = still-acts c.args.code c.args.this c.args.arguments c.bind_params.new.w c.declare.new.w
    c.in_ok-scope-in-Some.scope (bound p) c.in_ok-declare-in-Some.ensures.keeps in
    record {
      acts = record {
        ready = a.ready;
        side = a.side;
        holds = (a.holds.0, (rw c.this_of.ensures a.holds.1.1.0, (a.holds.1.0, tt)));
      };
    }

pub returns-then-shape-clause-part : goal.returns-then-shape-clause-part
returns-then-shape-clause-part c =
    let p = (goal.at.returns-then-shape-clause-part c).In_ok-bind_params-in-Some in
    let d = c.args.w.now in
    let d2 = c.bind_params.new.w in
    let d3 = c.declare.new.w in
    let code = c.args.code in
    let f1 = c.enter_names.new.fuel in
    let b = bound p in
    Part-passed code.side c.run_body.result d d2 d3 c.args.fuel.now f1 f1 _ _ (passes p true c.if-shape.true)
    (Part-passed code.side c.run_body.result d2 d3 d3 f1 f1 f1 _ _
    (declared-passes d2 d3 code c.args.this c.in_ok-scope-in-Some.scope f1 b.ready.ids b.holds.1.1.0.within
    c.in_ok-declare-in-Some.ensures.changes)
    (subst (λ (x : Value). Part code.side c.run_body.result d3 d3 f1 f1
    (body_or_value (context_in (names_of d3) code.side.0 (record { scope = c.in_ok-scope-in-Some.scope; this = x }))
    true
    (drop 0 (body-in d code c.args.this c.args.arguments c.in_ok-scope-in-Some.scope d3)) finished)) c.this_of.ensures
    (c.run_body.ensures.part f1)))

pub returns-then-shape-clause-keeps : goal.returns-then-shape-clause-keeps
returns-then-shape-clause-keeps c =
    let p = (goal.at.returns-then-shape-clause-keeps c).In_ok-bind_params-in-Some in
    let d = c.args.w.now in
    let d2 = c.bind_params.new.w in
    let d3 = c.declare.new.w in
    let k = changed-then c.args.code.side d d2 d3 (changed p) c.in_ok-declare-in-Some.ensures.keeps.changed in
    keeps-then c.args.code.side AValue c.run_body.result d d3 d3 k
    (keeps-same c.args.code.side AValue c.run_body.result d3 k.ready c.run_body.ensures.leaves)

-- ---- the expression of an arrow function

pub run_value-requires-clause-acts : goal.run_value-requires-clause-acts
run_value-requires-clause-acts c =
    let a = bound (goal.at.run_value-requires-clause-acts c).In_ok-bind_params-in-Some in
    record {
      ready = a.ready;
      side = a.side;
      holds = (a.holds.0, (rw c.this_of.ensures a.holds.1.1.0, (a.holds.1.0, tt)));
    }

pub run_value-requires-clause-expression : goal.run_value-requires-clause-expression
run_value-requires-clause-expression c =
    let p = (goal.at.run_value-requires-clause-expression c).In_ok-bind_params-in-Some in
    ap (λ (fs : List Form). has_block (slice_get fs c.args.code.node.0))
    (forms-grow c.args.w.now c.bind_params.new.w c.args.code.side c.requires.acts.ready.ids (changed p).found.grew)
    ∙ sym c.in-Some.ensures.shape.block ∙ c.if-shape.false

pub returns-in-Some-clause-part : goal.returns-in-Some-clause-part
returns-in-Some-clause-part c =
    let p = (goal.at.returns-in-Some-clause-part c).In_ok-bind_params-in-Some in
    let d = c.args.w.now in
    let d2 = c.bind_params.new.w in
    let code = c.args.code in
    let f1 = c.enter_names.new.fuel in
    Part-passed code.side (Ok c.run_value.result) d d2 d2 c.args.fuel.now f1 f1 _ _ (passes p false c.if-shape.false)
    (subst (λ (x : Value). Part code.side (Ok c.run_value.result) d2 d2 f1 f1
    (body_or_value (context_in (names_of d2) code.side.0 (record { scope = c.in_ok-scope-in-Some.scope; this = x }))
    false
    (body-in d code c.args.this c.args.arguments c.in_ok-scope-in-Some.scope d2) finished)) c.this_of.ensures
    (Part-sure code.side d2 f1 _ c.run_value.result c.run_value.ensures.sure))

pub returns-in-Some-clause-keeps : goal.returns-in-Some-clause-keeps
returns-in-Some-clause-keeps c =
    let p = (goal.at.returns-in-Some-clause-keeps c).In_ok-bind_params-in-Some in
    let k = changed p in
    keeps-then c.args.code.side AValue (Ok c.run_value.result) c.args.w.now c.bind_params.new.w c.bind_params.new.w k
    (keeps-same c.args.code.side AValue (Ok c.run_value.result) c.bind_params.new.w k.ready c.run_value.ensures.leaves)

-- ---- halts

pub returns-in_err-scope-in-Some-clause-part : goal.returns-in_err-scope-in-Some-clause-part
returns-in_err-scope-in-Some-clause-part c =
    let d = c.args.w.now in
    let n = names_of d in
    let p = err_from_is_err_and c.from_residual.result c.from_residual.ensures.1 in
    rw (p.1, p.2)
    (Part-unentered d c.enter_names.new.w c.args.code (Resolve n c.args.this) (values_in n c.args.arguments)
    c.in_err-scope-in-Some.field-0.0 c.args.fuel.now c.enter_names.new.fuel c.in-Some.ensures.shape.function
    c.in_err-scope-in-Some.ensures.enters)

pub returns-in_err-bind_params-in-Some-clause-keeps : goal.returns-in_err-bind_params-in-Some-clause-keeps
returns-in_err-bind_params-in-Some-clause-keeps c =
    let p = err_from_is_err_and c.from_residual-in_err-bind_params-in-Some.result
    c.from_residual-in_err-bind_params-in-Some.ensures.1 in
    rw p.1
    (keeps-halted c.args.code.side AValue p.0 c.args.w.now c.bind_params.new.w
    (changed-then c.args.code.side c.args.w.now c.enter_names.new.w c.bind_params.new.w
    c.in_ok-scope-in-Some.ensures.keeps.changed c.in_err-bind_params-in-Some.ensures.keeps.changed))

pub returns-in_err-declare-in-Some-clause-keeps : goal.returns-in_err-declare-in-Some-clause-keeps
returns-in_err-declare-in-Some-clause-keeps c =
    let q = (goal.at.returns-in_err-declare-in-Some-clause-keeps c).In_ok-bind_params-in-Some in
    let p = err_from_is_err_and c.from_residual-in_err-declare-in-Some.result
    c.from_residual-in_err-declare-in-Some.ensures.1 in
    rw p.1
    (keeps-halted c.args.code.side AValue p.0 c.args.w.now c.declare.new.w
    (changed-then c.args.code.side c.args.w.now c.bind_params.new.w c.declare.new.w (changed q)
    c.in_err-declare-in-Some.ensures.keeps.changed))
