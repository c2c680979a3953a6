use Rattle.std.proofs.Common.{[], refl, ◌∷◌}
use Rattle.std.proofs.lemmas.Result.{err_from_is_err_and}
use Rattle.mb_frames.proofs.Leaving.{holds-still}
use Rattle.mb_frames.specs.Held.{HeldScope, HeldText}
use Rattle.mb_frames.specs.Keeping.{none_held}
use Rattle.mb_frames.specs.Making.{function_held}
use Rattle.mb_frames.specs.declared.machine.Halt.TheVariants.{NoMemory}
use Rattle.mb_parts.proofs.Answering.{answer-halts, answer-then, halted-keeps, same-keeps, text-held}
use Rattle.mb_frames.proofs.Keeping.{inside-still}
use Rattle.mb_world.specs.Image.{names_of, object_in}
use Rattle.mb_parts.proofs.Declaring.{Changes-declared, Changes-undeclared, made-of}
use Rattle.mb_parts.proofs.functions.declare_one.Goals as goal

pub returns-in_ok-function-in-Some-clause-changes : goal.returns-in_ok-function-in-Some-clause-changes
returns-in_ok-function-in-Some-clause-changes c =
    Changes-declared c.initialize.result c.args.w.now c.make_function.new.w c.initialize.new.w c.args.home c.args.scope
    c.args.statement c.in-Some.name c.in-Some.params
    (object_in (names_of c.make_function.new.w) c.in_ok-function-in-Some.function)
    c.in-Some.ensures.function c.in_ok-function-in-Some.ensures.makes c.initialize.ensures.changes

pub returns-in-None-clause-changes : goal.returns-in-None-clause-changes
returns-in-None-clause-changes c =
    Changes-undeclared c.args.w.now c.args.home c.args.scope c.args.statement
    (c.in-None.ensures.none refl c.args.home.0 c.args.scope.0)

pub returns-then-params-gt-MOST_PARAMS-clause-keeps : goal.returns-then-params-gt-MOST_PARAMS-clause-keeps
returns-then-params-gt-MOST_PARAMS-clause-keeps c = λ r i h.
    halted-keeps none_held c.args.home c.args.w.now c.args.w.now NoMemory r refl

pub returns-in_err-function-in-Some-clause-keeps : goal.returns-in_err-function-in-Some-clause-keeps
returns-in_err-function-in-Some-clause-keeps c = λ r i h.
    let d = c.args.w.now in
    let home = c.args.home in
    let q = made-of d home c.args.scope c.args.statement c.in-Some.name c.in-Some.params c.in-Some.ensures.function
    h.0 in
    let p = err_from_is_err_and c.from_residual.result c.from_residual.ensures.1 in
    rw (p.1, p.2)
    (answer-halts function_held none_held home c.in_err-function-in-Some.field-0.0 d c.make_function.new.w
    (c.in_err-function-in-Some.ensures.keeps r i q))

pub returns-in_ok-function-in-Some-clause-keeps : goal.returns-in_ok-function-in-Some-clause-keeps
returns-in_ok-function-in-Some-clause-keeps c = λ r i h.
    let d = c.args.w.now in
    let d1 = c.make_function.new.w in
    let home = c.args.home in
    let name = c.in-Some.name in
    let q = made-of d home c.args.scope c.args.statement name c.in-Some.params c.in-Some.ensures.function h.0 in
    let k = c.in_ok-function-in-Some.ensures.keeps r i q in
    let g = holds-still home d d1 r k.changed (HeldScope c.args.scope ∷ HeldText name ∷ [])
    (h.0, (text-held d home name c.in-Some.ensures.function.text, tt)) in
    answer-then none_held home c.initialize.result d d1 c.initialize.new.w k.changed
    (c.initialize.ensures.keeps home k.changed.ready (inside-still home d d1 k.changed i)
    (g.0, (g.1.0, (k.holds.0, tt))))

pub returns-in-None-clause-keeps : goal.returns-in-None-clause-keeps
returns-in-None-clause-keeps c = λ r i h. same-keeps none_held c.args.home c.args.w.now tt r tt
