use Rattle.std.proofs.Common.{◌∷◌, None, Some, [], refl, true}
use Rattle.std.proofs.lemmas.List.Elements.{All-cons, All-nil}
use Rattle.mb_parts.proofs.Fresh.{Acts-prototypes}
use Rattle.mb_eval_expr.proofs.Scoping.{Acts-scope, Grew-scope, Part-named, scope-added, scope-in}
use Rattle.mb_frames.proofs.Forms.{CanRun-grows}
use Rattle.mb_model.specs.Nodes.Scopes.{binding, scope}
use Rattle.mb_world.proofs.Grow.{ObjIn-grows, ScopeIn-grows, TextIn-grows}
use Rattle.mb_world.specs.Image.{names_of, text_in}
use Rattle.mb_frames.specs.Making.{code_held}
use Rattle.mb_frames.specs.Ready.{Holds}
use Rattle.mb_world.specs.Ids.{BoundIn}
use Rattle.mb_world.specs.declared.cell.Code.{Code}
use Rattle.mb_world.specs.declared.scope.Bound.{Bound}
use Rattle.mb_world.specs.declared.scope.Scope.{Scope}
use Rattle.std.proofs.lemmas.Result.{err_from_is_err_and}
use Rattle.mb_eval_expr.proofs.Keeping.{kept-halted, kept-now, kept-still, stays}
use Rattle.mb_frames.proofs.HeldLess.{text-if-held}
use Rattle.mb_frames.proofs.Keeping.{inside-still}
use Rattle.mb_eval_expr.proofs.Scoping.{scope-kept}
use Rattle.mb_frames.proofs.Readying.{changed-then}
use Rattle.mb_eval_expr.proofs.functions.named_function.Goals as goal

pub add_scope-requires : goal.add_scope-requires
add_scope-requires c =
    let b : Bound = record { name = c.args.name; value = None; fixed = true } in
    record {
      home_in = c.requires.acts.side;
      parent_in = c.requires.at.0;
      names_in = rw (c.in_ok-push.ensures.pushed, c.new-names.ensures)
          (All-cons (BoundIn c.args.w.now) b [] (c.requires.name, tt) (All-nil (BoundIn c.args.w.now)));
    }

pub make_function-requires-clause-world : goal.make_function-requires-clause-world
make_function-requires-clause-world c =
    CanRun-grows c.args.w.now c.add_scope.new.self c.args.home
    (Grew-scope c.args.w.now c.add_scope.new.self _ c.in_ok-scope.ensures.added) c.texts-scoped.ensures.ids
    c.requires.acts.runs

pub make_function-requires-clause-built_ins : goal.make_function-requires-clause-built_ins
make_function-requires-clause-built_ins c =
    Acts-prototypes c.add_scope.new.self c.args.home
    (Acts-scope c.args.w.now c.add_scope.new.self _ c.in_ok-scope.ensures.added c.args.home
    c.texts-scoped.ensures.ids c.requires.acts)

pub make_function-requires-clause-scope : goal.make_function-requires-clause-scope
make_function-requires-clause-scope c =
    scope-in c.args.w.now c.add_scope.new.self _ c.in_ok-scope.ensures.added c.in_ok-scope.scope
    c.in_ok-scope.ensures.id

pub make_function-requires-clause-label : goal.make_function-requires-clause-label
make_function-requires-clause-label c = rw c.in_ok-scope.ensures.added c.requires.name

pub make_function-requires-clause-name : goal.make_function-requires-clause-name
make_function-requires-clause-name c = rw c.in_ok-scope.ensures.added c.requires.name

pub initialize-requires-clause-scope : goal.initialize-requires-clause-scope
initialize-requires-clause-scope c =
    ScopeIn-grows c.add_scope.new.self c.make_function.new.w c.in_ok-function.ensures.makes.grew.grows
    c.in_ok-scope.scope
    (scope-in c.args.w.now c.add_scope.new.self _ c.in_ok-scope.ensures.added c.in_ok-scope.scope
    c.in_ok-scope.ensures.id)

pub initialize-requires-clause-name : goal.initialize-requires-clause-name
initialize-requires-clause-name c =
    TextIn-grows c.add_scope.new.self c.make_function.new.w c.in_ok-function.ensures.makes.grew.grows c.args.name
    (rw c.in_ok-scope.ensures.added c.requires.name)

pub returns-clause-row : goal.returns-clause-row
returns-clause-row c = λ f.
    let d = c.args.w.now in
    let d1 = c.add_scope.new.self in
    let d2 = c.make_function.new.w in
    let d3 = c.initialize.new.w in
    let b : Bound = record { name = c.args.name; value = None; fixed = true } in
    let s : Scope = record { home = c.args.home; parent = Some c.args.at.scope; names = c.push.new.self } in
    Part-named c.args.home d d1 d2 d3 f c.in_ok-scope.scope c.args.name c.args.at.scope.0 c.args.node.0 c.args.params
    c.in_ok-function.function c.value.result
    (scope-added d d1 s (scope c.args.home.0 (Some c.args.at.scope.0)
    (binding (text_in (names_of d) c.args.name) None true ∷ []))
    c.in_ok-scope.scope (rw (c.in_ok-push.ensures.pushed, c.new-names.ensures) refl) c.in_ok-scope.ensures.added
    c.in_ok-scope.ensures.id)
    c.requires.name c.in_ok-function.ensures.makes c.in_ok-initialize.ensures.changes c.in_ok-function.ensures.made
    (c.value.ensures.row c.args.home d3 (ObjIn-grows d2 d3 c.in_ok-initialize.ensures.changes.grew.grows
    c.in_ok-function.function c.in_ok-function.ensures.made))

pub returns-then-params-gt-MOST_PARAMS-clause-keeps : goal.returns-then-params-gt-MOST_PARAMS-clause-keeps
returns-then-params-gt-MOST_PARAMS-clause-keeps c = λ r i h. kept-still c.args.home c.args.w.now r

pub returns-in_err-push-clause-keeps : goal.returns-in_err-push-clause-keeps
returns-in_err-push-clause-keeps c = λ r i h.
    let p = err_from_is_err_and c.from_residual.result c.from_residual.ensures.1 in
    rw p.1 (kept-still c.args.home c.args.w.now r)

pub returns-in_err-scope-clause-keeps : goal.returns-in_err-scope-clause-keeps
returns-in_err-scope-clause-keeps c =
    let q = c.from_residual-in_err-scope in
    let p = err_from_is_err_and q.result q.ensures.1 in
    rw (p.1, c.in_err-scope.ensures.kept) (λ r i h. kept-still c.args.home c.args.w.now r)

pub returns-in_err-function-clause-keeps : goal.returns-in_err-function-clause-keeps
returns-in_err-function-clause-keeps c = λ r i h.
    let d = c.args.w.now in
    let d1 = c.add_scope.new.self in
    let home = c.args.home in
    let g = scope-kept d d1 home c.args.at.scope c.args.name c.push.new.self c.in_ok-scope.scope r i h.1.1.0
    c.requires.name
    (rw (c.in_ok-push.ensures.pushed, c.new-names.ensures) refl) c.requires.acts.side c.in_ok-scope.ensures.added
    c.in_ok-scope.ensures.id in
    let b = inside-still home d d1 g.changed i in
    let code : Code = record {
      side = c.args.home;
      node = c.args.node;
      scope = c.in_ok-scope.scope;
      constructs = true;
      bound_this = None;
    } in
    let held : Holds d1 home (code_held code (Some c.args.name) c.args.name) = (
      g.holds.0,
      (
        stays home d d1 g.changed r h.0,
        (
          text-if-held d1 home (Some c.args.name) (rw c.in_ok-scope.ensures.added c.requires.name),
          (stays home d d1 g.changed r h.1.0, tt),
        ),
      ),
    ) in
    let q = c.from_residual-in_err-function in
    let p = err_from_is_err_and q.result q.ensures.1 in
    let k = c.in_err-function.ensures.keeps g.changed.ready b held in
    rw p.1 (kept-halted home d c.make_function.new.w (changed-then home d d1 c.make_function.new.w g.changed k.changed))

pub returns-in_err-initialize-clause-keeps : goal.returns-in_err-initialize-clause-keeps
returns-in_err-initialize-clause-keeps c = λ r i h.
    let d = c.args.w.now in
    let d1 = c.add_scope.new.self in
    let home = c.args.home in
    let g = scope-kept d d1 home c.args.at.scope c.args.name c.push.new.self c.in_ok-scope.scope r i h.1.1.0
    c.requires.name
    (rw (c.in_ok-push.ensures.pushed, c.new-names.ensures) refl) c.requires.acts.side c.in_ok-scope.ensures.added
    c.in_ok-scope.ensures.id in
    let b = inside-still home d d1 g.changed i in
    let code : Code = record {
      side = c.args.home;
      node = c.args.node;
      scope = c.in_ok-scope.scope;
      constructs = true;
      bound_this = None;
    } in
    let held : Holds d1 home (code_held code (Some c.args.name) c.args.name) = (
      g.holds.0,
      (
        stays home d d1 g.changed r h.0,
        (
          text-if-held d1 home (Some c.args.name) (rw c.in_ok-scope.ensures.added c.requires.name),
          (stays home d d1 g.changed r h.1.0, tt),
        ),
      ),
    ) in
    let d2 = c.make_function.new.w in
    let q = c.from_residual-in_err-initialize in
    let p = err_from_is_err_and q.result q.ensures.1 in
    let k = c.in_ok-function.ensures.keeps g.changed.ready b held in
    let u = c.in_err-initialize.ensures.keeps home k.changed.ready (inside-still home d1 d2 k.changed b) (
      stays home d1 d2 k.changed g.changed.ready g.holds.0,
      (
        stays home d1 d2 k.changed g.changed.ready held.1.1.1.0,
        (k.holds.0, tt),
      ),
    ) in
    rw p.1 (kept-halted home d c.initialize.new.w
    (changed-then home d d1 c.initialize.new.w g.changed (changed-then home d1 d2 c.initialize.new.w k.changed
    u.changed)))

pub returns-clause-keeps : goal.returns-clause-keeps
returns-clause-keeps c = λ r i h.
    let d = c.args.w.now in
    let d1 = c.add_scope.new.self in
    let home = c.args.home in
    let g = scope-kept d d1 home c.args.at.scope c.args.name c.push.new.self c.in_ok-scope.scope r i h.1.1.0
    c.requires.name
    (rw (c.in_ok-push.ensures.pushed, c.new-names.ensures) refl) c.requires.acts.side c.in_ok-scope.ensures.added
    c.in_ok-scope.ensures.id in
    let b = inside-still home d d1 g.changed i in
    let code : Code = record {
      side = c.args.home;
      node = c.args.node;
      scope = c.in_ok-scope.scope;
      constructs = true;
      bound_this = None;
    } in
    let held : Holds d1 home (code_held code (Some c.args.name) c.args.name) = (
      g.holds.0,
      (
        stays home d d1 g.changed r h.0,
        (
          text-if-held d1 home (Some c.args.name) (rw c.in_ok-scope.ensures.added c.requires.name),
          (stays home d d1 g.changed r h.1.0, tt),
        ),
      ),
    ) in
    let d2 = c.make_function.new.w in
    let d3 = c.initialize.new.w in
    let k = c.in_ok-function.ensures.keeps g.changed.ready b held in
    let e = inside-still home d1 d2 k.changed b in
    let u = c.in_ok-initialize.ensures.keeps home k.changed.ready e (
      stays home d1 d2 k.changed g.changed.ready g.holds.0,
      (
        stays home d1 d2 k.changed g.changed.ready held.1.1.1.0,
        (k.holds.0, tt),
      ),
    ) in
    kept-now home d d3 (changed-then home d d1 d3 g.changed (changed-then home d1 d2 d3 k.changed u.changed))
    (c.value.ensures.leaves home d3 u.changed.ready (inside-still home d2 d3 u.changed e)
    (stays home d2 d3 u.changed k.changed.ready k.holds.0, tt))
