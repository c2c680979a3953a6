use Rattle.std.proofs.Common.{refl}
use Rattle.std.proofs.lemmas.Result.{err_from_is_err_and}
use Rattle.mb_call.proofs.FunctionNames.{all-but-own, bound, bound-distinct, entering-row}
use Rattle.mb_call.proofs.entering.enter_names.Goals as goal
use Rattle.mb_call.specs.machine.Functions.{entering}
use Rattle.mb_frames.proofs.Forms.{ready-runs}
use Rattle.mb_frames.specs.Keeping.{scope_held}
use Rattle.mb_parts.proofs.Answering.{halted-keeps}
use Rattle.mb_parts.proofs.Entered.{entered-in, names-halted, names-went, node-texts}
use Rattle.mb_parts.proofs.EnteredKept.{entered-keeps}
use Rattle.mb_parts.specs.Scopes.{bound_by}
use Rattle.mb_tree.specs.Names.{Binds}
use Rattle.mb_world.specs.Data.{program_of}
use Rattle.mb_world.specs.Ids.{TextIn}

pub entered_names-requires : goal.entered_names-requires
entered_names-requires c =
    ready-runs c.args.w.now c.args.code.side c.requires.acts.ready c.requires.acts.side

pub add_scope-requires : goal.add_scope-requires
add_scope-requires c =
    let d = c.args.w.now in
    let code = c.args.code in
    let runs = ready-runs d code.side c.requires.acts.ready c.requires.acts.side in
    entered-in d code.side code.scope (bound d code c.args.named c.requires.named) c.in_ok-names.names runs
    c.requires.acts.holds.0.within
    (all-but-own (λ (b : Binds). TextIn d b.1) c.args.named (bound_by (program_of d code.side) code.node)
    (node-texts d code.side code.node runs))
    c.in_ok-names.ensures.names

pub returns-clause-enters : goal.returns-clause-enters
returns-clause-enters c =
    let d = c.args.w.now in
    let code = c.args.code in
    names-went d code.side code.scope (bound d code c.args.named c.requires.named) (entering d code)
    (entering-row d code c.args.named c.requires.named c.requires.acts.side) c.add_scope.new.self c.in_ok-scope.scope
    c.args.fuel.now c.entered_names.new.fuel c.in_ok-names.names c.in_ok-names.ensures.names
    c.in_ok-names.ensures.charged c.in_ok-scope.ensures.added c.in_ok-scope.ensures.id

pub returns-clause-keeps : goal.returns-clause-keeps
returns-clause-keeps c =
    let d = c.args.w.now in
    let code = c.args.code in
    let a = c.requires.acts in
    let runs = ready-runs d code.side a.ready a.side in
    entered-keeps d c.add_scope.new.self code.side code.scope c.in_ok-scope.scope
    (bound d code c.args.named c.requires.named) c.in_ok-names.names a.ready a.side a.holds.0
    (bound-distinct d code c.args.named c.requires.named a.ready a.holds.1.0.sound) c.in_ok-names.ensures.names
    (entered-in d code.side code.scope (bound d code c.args.named c.requires.named) c.in_ok-names.names runs
    a.holds.0.within
    (all-but-own (λ (b : Binds). TextIn d b.1) c.args.named (bound_by (program_of d code.side) code.node)
    (node-texts d code.side code.node runs))
    c.in_ok-names.ensures.names) c.in_ok-scope.ensures.added c.in_ok-scope.ensures.id

pub returns-in_err-names-clause-enters : goal.returns-in_err-names-clause-enters
returns-in_err-names-clause-enters c =
    let d = c.args.w.now in
    let code = c.args.code in
    let p = err_from_is_err_and c.from_residual.result c.from_residual.ensures.1 in
    rw (p.1, p.2)
    (names-halted d code.side code.scope (bound d code c.args.named c.requires.named) (entering d code)
    (entering-row d code c.args.named c.requires.named c.requires.acts.side) c.in_err-names.field-0.0 c.args.fuel.now
    c.entered_names.new.fuel c.in_err-names.ensures.charged)

pub returns-in_err-names-clause-keeps : goal.returns-in_err-names-clause-keeps
returns-in_err-names-clause-keeps c =
    let p = err_from_is_err_and c.from_residual.result c.from_residual.ensures.1 in
    rw p.1 (halted-keeps scope_held c.args.code.side c.args.w.now _ p.0 c.requires.acts.ready refl)

pub returns-in_err-scope-clause-keeps : goal.returns-in_err-scope-clause-keeps
returns-in_err-scope-clause-keeps c =
    let p = err_from_is_err_and c.from_residual-in_err-scope.result c.from_residual-in_err-scope.ensures.1 in
    rw p.1
    (halted-keeps scope_held c.args.code.side c.args.w.now _ p.0 c.requires.acts.ready c.in_err-scope.ensures.kept)
