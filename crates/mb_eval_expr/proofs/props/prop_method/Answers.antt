use Rattle.std.proofs.Common.{false, slice_get}
use Rattle.std.proofs.lemmas.Result.{err_from_is_err_and}
use Rattle.mb_eval_expr.proofs.Keeping.{stays}
use Rattle.mb_eval_expr.proofs.Describing.{function-desc}
use Rattle.mb_eval_expr.proofs.Methods.{made-defined, method-node, too-long-throws}
use Rattle.mb_eval_expr.proofs.PropsInOrder.{Defines-halts}
use Rattle.mb_parts.proofs.Acting.{ready-acts}
use Rattle.mb_frames.proofs.Keeping.{inside-still, node-held}
use Rattle.mb_frames.proofs.Readying.{changed-then}
use Rattle.mb_frames.specs.Making.{is_function_of}
use Rattle.mb_frames.specs.Sorts.{AValue}
use Rattle.mb_frames.specs.Resolved.{context_in}
use Rattle.mb_frames.specs.Rest.Expressions.{prop_keyed_at}
use Rattle.mb_frames.specs.Standing.{forms_at}
use Rattle.mb_world.specs.Image.{key_in, names_of, object_in}
use Rattle.mb_world.proofs.Grow.{KeyIn-grows}
use Rattle.mb_eval_expr.proofs.props.prop_method.Goals as goal

pub keyed_function-requires-clause-at : goal.keyed_function-requires-clause-at
keyed_function-requires-clause-at c = (c.requires.holds.0.within, c.requires.holds.1.0.within)

pub keyed_function-requires-clause-holds : goal.keyed_function-requires-clause-holds
keyed_function-requires-clause-holds c =
    let d = c.args.w.now in
    let home = c.args.home in
    let h = c.requires.holds in (
      node-held d home (is_function_of false false) c.args.property.0
          (method-node (slice_get (forms_at d home) c.args.property.0) c.args.definition c.args.prefix.now
          c.args.params c.requires.definition.0 c.requires.method),
      (h.0, (h.1.0, tt)),
    )

pub defined-requires-clause-ready : goal.defined-requires-clause-ready
defined-requires-clause-ready c = c.keyed_function.ensures.changed.ready

pub defined-requires-clause-inside : goal.defined-requires-clause-inside
defined-requires-clause-inside c =
    inside-still c.args.home c.args.w.now c.keyed_function.new.w c.keyed_function.ensures.changed c.requires.inside

pub defined-requires-clause-holds : goal.defined-requires-clause-holds
defined-requires-clause-holds c =
    let d = c.args.w.now in
    let d1 = c.keyed_function.new.w in
    let home = c.args.home in
    let g = c.keyed_function.ensures.changed in
    let f = rw c.in-Some.is at c.in_ok-function.ensures.holds in (
      stays home d d1 g c.requires.ready c.requires.holds.1.1.1.0,
      (rw c.method_desc.ensures (function-desc d1 home c.args.definition c.in-Some.function f.0 f.1.0), tt),
    )

pub defined-requires-clause-key : goal.defined-requires-clause-key
defined-requires-clause-key c =
    KeyIn-grows c.args.w.now c.keyed_function.new.w c.keyed_function.ensures.changed.found.grew.grows c.args.key
    c.requires.key

pub throws-requires : goal.throws-requires
throws-requires c =
    let g = c.keyed_function.ensures.changed in
    ready-acts c.keyed_function.new.w c.args.home g.ready
    (inside-still c.args.home c.args.w.now c.keyed_function.new.w g c.requires.inside)

pub returns-in_err-defined-in-Some-clause-changed : goal.returns-in_err-defined-in-Some-clause-changed
returns-in_err-defined-in-Some-clause-changed c =
    changed-then c.args.home c.args.w.now c.keyed_function.new.w c.defined.new.w c.keyed_function.ensures.changed
    c.defined.ensures.changed

pub returns-in_ok-defined-in-Some-clause-row : goal.returns-in_ok-defined-in-Some-clause-row
returns-in_ok-defined-in-Some-clause-row c =
    let d = c.args.w.now in
    let d1 = c.keyed_function.new.w in
    let home = c.args.home in
    let l = c.args.literal in
    let g = c.keyed_function.ensures.changed in
    let i = inside-still home d d1 g c.requires.inside in
    let o = slice_get (forms_at d home) c.args.property.0 in
    made-defined home d d1 c.defined.new.w l c.args.property o c.args.definition c.args.prefix.now c.args.params
    c.args.key
    c.in-Some.function c.requires.definition.0 c.requires.method c.requires.key c.requires.holds
    (λ parts e. rw c.in-Some.is at (c.in_ok-function.ensures.makes parts e))
    (rw c.method_desc.ensures at c.in_ok-defined-in-Some.ensures.stored)

pub returns-in_ok-defined-in-Some-clause-changed : goal.returns-in_ok-defined-in-Some-clause-changed
returns-in_ok-defined-in-Some-clause-changed c =
    changed-then c.args.home c.args.w.now c.keyed_function.new.w c.defined.new.w c.keyed_function.ensures.changed
    c.defined.ensures.changed

pub returns-in_err-step-in-None-clause-row : goal.returns-in_err-step-in-None-clause-row
returns-in_err-step-in-None-clause-row c =
    let d = c.args.w.now in
    let d1 = c.keyed_function.new.w in
    let home = c.args.home in
    let l = c.args.literal in
    let g = c.keyed_function.ensures.changed in
    let i = inside-still home d d1 g c.requires.inside in
    let o = slice_get (forms_at d home) c.args.property.0 in
    let q = c.from_residual-in_err-step-in-None in
    let p = err_from_is_err_and q.result q.ensures.1 in
    rw (p.1, p.2)
    (Defines-halts home l c.in_err-step-in-None.field-0.0 d d1 c.throws.new.w
    (prop_keyed_at (forms_at d home) (context_in (names_of d) home.0 l.at) (object_in (names_of d) l.object)
    c.args.property.0 (key_in (names_of d) c.args.key))
    c.in_err-step-in-None.ensures.part)

pub returns-in_err-step-in-None-clause-changed : goal.returns-in_err-step-in-None-clause-changed
returns-in_err-step-in-None-clause-changed c =
    let d = c.args.w.now in
    let d1 = c.keyed_function.new.w in
    let home = c.args.home in
    let l = c.args.literal in
    let g = c.keyed_function.ensures.changed in
    let i = inside-still home d d1 g c.requires.inside in
    let o = slice_get (forms_at d home) c.args.property.0 in
    changed-then home d d1 c.throws.new.w g (c.in_err-step-in-None.ensures.keeps AValue g.ready i tt).changed

pub returns-in_ok-step-in-None-clause-row : goal.returns-in_ok-step-in-None-clause-row
returns-in_ok-step-in-None-clause-row c =
    let d = c.args.w.now in
    let d1 = c.keyed_function.new.w in
    let home = c.args.home in
    let l = c.args.literal in
    let g = c.keyed_function.ensures.changed in
    let i = inside-still home d d1 g c.requires.inside in
    let o = slice_get (forms_at d home) c.args.property.0 in
    too-long-throws home d d1 c.throws.new.w l c.args.property o c.args.definition c.args.prefix.now c.args.params
    c.args.key
    c.in_ok-step-in-None.step c.requires.definition.0 c.requires.method
    (λ parts e. rw c.in-None.is at (c.in_ok-function.ensures.makes parts e))
    c.in_ok-step-in-None.ensures.part

pub returns-in_ok-step-in-None-clause-changed : goal.returns-in_ok-step-in-None-clause-changed
returns-in_ok-step-in-None-clause-changed c =
    let d = c.args.w.now in
    let d1 = c.keyed_function.new.w in
    let home = c.args.home in
    let l = c.args.literal in
    let g = c.keyed_function.ensures.changed in
    let i = inside-still home d d1 g c.requires.inside in
    let o = slice_get (forms_at d home) c.args.property.0 in
    changed-then home d d1 c.throws.new.w g (c.in_ok-step-in-None.ensures.keeps AValue g.ready i tt).changed

pub returns-in_ok-step-in-None-clause-leaves : goal.returns-in_ok-step-in-None-clause-leaves
returns-in_ok-step-in-None-clause-leaves c =
    let d = c.args.w.now in
    let d1 = c.keyed_function.new.w in
    let home = c.args.home in
    let l = c.args.literal in
    let g = c.keyed_function.ensures.changed in
    let i = inside-still home d d1 g c.requires.inside in
    let o = slice_get (forms_at d home) c.args.property.0 in
    (c.in_ok-step-in-None.ensures.keeps AValue g.ready i tt).leaves
