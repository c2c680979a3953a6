use Rattle.std.proofs.Common.{Bool, refl, subst, sym}
use Rattle.std.proofs.lemmas.Result.{err_from_is_err_and}
use Rattle.mb_frames.specs.Resolved.{label_in}
use Rattle.mb_model.specs.Operations.Makings.{function_thing, make_constructor, make_function}
use Rattle.mb_model.specs.Writing.{◌>>=◌, make}
use Rattle.mb_world.specs.Image.{code_in, names_of, object_in, text_in}
use Rattle.mb_world.specs.Value.{Val}
use Rattle.mb_frames.proofs.Made.{constructed, unconstructed}
use Rattle.std.proofs.Common.{true}
use Rattle.mb_frames.specs.Going.{WentOn}
use Rattle.mb_frames.proofs.Constructing.{still-inside}
use Rattle.mb_frames.proofs.Halting.{halted-changed}
use Rattle.mb_frames.proofs.Leaving.{holds-still}
use Rattle.mb_frames.proofs.Readying.{changed-then}
use Rattle.mb_frames.specs.Making.{code_held, function_held}
use Rattle.mb_frames.proofs.functions.make_function.Goals as goal

pub returns-in_err-make_constructor-clause-makes : goal.returns-in_err-make_constructor-clause-makes
returns-in_err-make_constructor-clause-makes c =
    let n = names_of c.args.w.now in
    let r = c.from_residual-in_err-make_constructor in
    let p = err_from_is_err_and r.result r.ensures.1 in
    rw (p.1, p.2)
    (unconstructed c.in_err-make_constructor.field-0.0 c.args.w.now c.bare_function.new.w c.make_constructor.new.w
    c.in_ok-function.function
    (make_constructor c.args.code.side.0 true (object_in (names_of c.bare_function.new.w) c.in_ok-function.function))
    (make_function (code_in n c.args.code) (label_in n c.args.label) c.args.params (text_in n c.args.name))
    (c.in_err-make_constructor.ensures.makes c.in_ok-function.function refl))

pub returns-then-constructs-clause-makes : goal.returns-then-constructs-clause-makes
returns-then-constructs-clause-makes c =
    let n = names_of c.args.w.now in
    let side = c.args.code.side.0 in
    let thing = function_thing side (label_in n c.args.label) (code_in n c.args.code) c.args.params (text_in n c.args.name) in
    let made = object_in (names_of c.make_constructor.new.w) c.in_ok-function.function in
    subst (λ (b : Bool). WentOn Val c.args.w.now c.make_constructor.new.w 0 0 (make thing >>= (λ f. make_constructor side b f)) made)
    (sym c.if-constructs.true)
    (constructed c.args.w.now c.bare_function.new.w c.make_constructor.new.w side (make thing)
    c.in_ok-function.function c.in_ok-function.ensures.makes
    (c.in_ok-make_constructor.ensures.makes c.in_ok-function.function refl))

pub returns-in_err-function-clause-keeps : goal.returns-in_err-function-clause-keeps
returns-in_err-function-clause-keeps c =
    halted-changed c.args.code.side (code_held c.args.code c.args.label c.args.name) function_held
    c.from_residual.result c.from_residual.ensures.0 c.args.w.now c.bare_function.new.w
    (λ r inside held. (c.in_err-function.ensures.keeps r inside held).changed)

pub returns-in_err-make_constructor-clause-keeps : goal.returns-in_err-make_constructor-clause-keeps
returns-in_err-make_constructor-clause-keeps c =
    halted-changed c.args.code.side (code_held c.args.code c.args.label c.args.name) function_held
    c.from_residual-in_err-make_constructor.result c.from_residual-in_err-make_constructor.ensures.0 c.args.w.now
    c.make_constructor.new.w
    (λ r inside held.
    let k = (c.in_ok-function.ensures.keeps r inside held).changed in
    changed-then c.args.code.side c.args.w.now c.bare_function.new.w c.make_constructor.new.w k
    (c.in_err-make_constructor.ensures.keeps k.ready
    (still-inside c.args.code.side c.args.w.now c.bare_function.new.w k inside) tt).changed)

pub returns-then-constructs-clause-keeps : goal.returns-then-constructs-clause-keeps
returns-then-constructs-clause-keeps c r inside held =
    let h = c.in_ok-function.ensures.keeps r inside held in
    let k = (c.in_ok-make_constructor.ensures.keeps h.changed.ready
    (still-inside c.args.code.side c.args.w.now c.bare_function.new.w h.changed inside) tt).changed in
    record {
      changed = changed-then c.args.code.side c.args.w.now c.bare_function.new.w c.make_constructor.new.w h.changed k;
      holds = holds-still c.args.code.side c.bare_function.new.w c.make_constructor.new.w h.changed.ready k
          (function_held c.in_ok-function.function) h.holds;
    }
