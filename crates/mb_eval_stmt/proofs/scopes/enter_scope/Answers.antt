use Rattle.std.proofs.Common.{refl}
use Rattle.std.proofs.lemmas.Result.{err_from_is_err_and}
use Rattle.mb_eval_stmt.proofs.Entering.{names-distinct}
use Rattle.mb_eval_stmt.proofs.Scoping.{enters-names}
use Rattle.mb_frames.specs.Keeping.{scope_held}
use Rattle.mb_model.specs.Nodes.Scopes.{enter_scope}
use Rattle.mb_parts.proofs.Answering.{halted-keeps}
use Rattle.mb_parts.proofs.Entered.{entered-in, names-halted, names-went, node-texts}
use Rattle.mb_parts.proofs.EnteredKept.{entered-keeps}
use Rattle.mb_parts.specs.Scopes.{bound_by}
use Rattle.mb_world.specs.Data.{program_of}
use Rattle.mb_eval_stmt.proofs.scopes.enter_scope.Goals as goal

pub returns-in_err-names-clause-enters : goal.returns-in_err-names-clause-enters
returns-in_err-names-clause-enters c =
    let d = c.args.w.now in
    let home = c.args.home in
    let p = err_from_is_err_and c.from_residual.result c.from_residual.ensures.1 in
    rw (p.1, p.2)
    (names-halted d home c.args.parent (bound_by (program_of d home) c.args.node)
    (enter_scope home.0 c.args.parent.0 c.args.node.0)
    (enters-names d home c.args.parent c.args.node c.requires.world.takes_part) c.in_err-names.field-0.0
    c.args.fuel.now c.bound_names.new.fuel c.in_err-names.ensures.charged)

pub add_scope-requires : goal.add_scope-requires
add_scope-requires c =
    let d = c.args.w.now in
    entered-in d c.args.home c.args.parent (bound_by (program_of d c.args.home) c.args.node) c.in_ok-names.names
    c.requires.world c.requires.parent (node-texts d c.args.home c.args.node c.requires.world)
    c.in_ok-names.ensures.names

pub returns-clause-enters : goal.returns-clause-enters
returns-clause-enters c =
    let d = c.args.w.now in
    let home = c.args.home in
    names-went d home c.args.parent (bound_by (program_of d home) c.args.node)
    (enter_scope home.0 c.args.parent.0 c.args.node.0)
    (enters-names d home c.args.parent c.args.node c.requires.world.takes_part) c.add_scope.new.self
    c.in_ok-scope.scope c.args.fuel.now c.bound_names.new.fuel c.in_ok-names.names c.in_ok-names.ensures.names
    c.in_ok-names.ensures.charged c.in_ok-scope.ensures.added c.in_ok-scope.ensures.id

pub returns-in_err-names-clause-keeps : goal.returns-in_err-names-clause-keeps
returns-in_err-names-clause-keeps c = λ n r i h.
    let p = err_from_is_err_and c.from_residual.result c.from_residual.ensures.1 in
    rw p.1 (halted-keeps scope_held c.args.home c.args.w.now _ p.0 r refl)

pub returns-in_err-scope-clause-keeps : goal.returns-in_err-scope-clause-keeps
returns-in_err-scope-clause-keeps c = λ n r i h.
    let p = err_from_is_err_and c.from_residual-in_err-scope.result c.from_residual-in_err-scope.ensures.1 in
    rw p.1 (halted-keeps scope_held c.args.home c.args.w.now _ p.0 r c.in_err-scope.ensures.kept)

pub returns-clause-keeps : goal.returns-clause-keeps
returns-clause-keeps c = λ n r i h.
    let d = c.args.w.now in
    let bs = bound_by (program_of d c.args.home) c.args.node in
    entered-keeps d c.add_scope.new.self c.args.home c.args.parent c.in_ok-scope.scope bs c.in_ok-names.names r i h.0
    (names-distinct d c.args.home c.args.node n r) c.in_ok-names.ensures.names
    (entered-in d c.args.home c.args.parent bs c.in_ok-names.names c.requires.world c.requires.parent
    (node-texts d c.args.home c.args.node c.requires.world) c.in_ok-names.ensures.names) c.in_ok-scope.ensures.added
    c.in_ok-scope.ensures.id
