use Rattle.mb_frames.specs.Ready.{Changed}
use Rattle.mb_frames.specs.Sorts.{AValue}
use Rattle.mb_eval_expr.proofs.Binding.{given-changed}
use Rattle.mb_eval_expr.proofs.Keeping.{kept-now, kept-still, stays}
use Rattle.mb_frames.proofs.Keeping.{inside-still}
use Rattle.std.proofs.Common.{refl, sym, ◌∙◌}
use Rattle.mb_eval_expr.proofs.Writes.{Part-fixed, Part-given, Part-ungiven, none-here}
use Rattle.mb_world.proofs.AfterCalls.{of-changed-scope}
use Rattle.mb_world.proofs.Grow.{ValueIn-grows}
use Rattle.mb_world.specs.Data.{giving, Data}
use Rattle.mb_world.specs.Image.{Resolve, names_of, text_in}
use Rattle.mb_eval_expr.proofs.assignments.write_at.Goals as goal

pub returns-in-None-value-clause-row : goal.returns-in-None-value-clause-row
returns-in-None-value-clause-row c = λ f.
    let n = names_of c.args.w.now in
    Part-ungiven c.args.home c.args.w.now f c.args.scope.0 (text_in n c.args.name) (Resolve n c.args.x)
    (Resolve n c.args.gives)
    c.args.at c.args.place c.scope.result.now c.in-Some.bound c.scope.ensures.value (sym c.at.ensures ∙ c.in-Some.is)
    c.requires.found
    c.throws.result c.throws.new.w c.in-None-value.is (c.throws.ensures.part f)

pub returns-then-bound-clause-row : goal.returns-then-bound-clause-row
returns-then-bound-clause-row c = λ f.
    let n = names_of c.args.w.now in
    Part-fixed c.args.home c.args.w.now f c.args.scope.0 (text_in n c.args.name) (Resolve n c.args.x)
    (Resolve n c.args.gives)
    c.args.at c.args.place c.scope.result.now c.in-Some.bound c.scope.ensures.value (sym c.at.ensures ∙ c.in-Some.is)
    c.requires.found
    c.type_error.result c.type_error.new.w c.in-Some-value.field-0 c.in-Some-value.is c.if-bound.true
    (c.type_error.ensures.part f)

pub returns-else-bound-clause-row : goal.returns-else-bound-clause-row
returns-else-bound-clause-row c = λ f.
    let n = names_of c.args.w.now in
    Part-given c.args.home c.args.w.now f c.args.scope.0 (text_in n c.args.name) (Resolve n c.args.x)
    (Resolve n c.args.gives)
    c.args.at c.args.place c.scope.result.now c.in-Some.bound c.scope.ensures.value (sym c.at.ensures ∙ c.in-Some.is)
    c.requires.found
    c.give.new.self c.in-Some-value.field-0 c.args.x c.args.gives c.value.result c.in-Some-value.is c.if-bound.false
    refl refl c.give.ensures (c.value.ensures.row c.args.home c.give.new.self
    (ValueIn-grows c.args.w.now c.give.new.self
    (rw c.give.ensures (of-changed-scope c.args.w.now c.args.at c.scope.result.now (giving c.args.place c.args.x)
    c.scope.ensures.value).grows)
    c.args.gives c.requires.gives))

pub unreachable-requires : goal.unreachable-requires
unreachable-requires c =
    none-here c.scope.result.now.names c.args.place (sym c.at.ensures ∙ c.in-None.is)
    (rw c.scope.ensures.value at c.requires.place)

pub returns-in-None-value-clause-keeps : goal.returns-in-None-value-clause-keeps
returns-in-None-value-clause-keeps c = λ r i h. c.throws.ensures.keeps AValue r i tt

pub returns-then-bound-clause-keeps : goal.returns-then-bound-clause-keeps
returns-then-bound-clause-keeps c = λ r i h. c.type_error.ensures.keeps AValue r i tt

pub returns-else-bound-clause-keeps : goal.returns-else-bound-clause-keeps
returns-else-bound-clause-keeps c = λ r i h.
    let d = c.args.w.now in
    let d' : Data = c.give.new.self in
    let s = c.scope.result.now in
    let g : Changed c.args.home d d'
    = given-changed d c.args.home r c.args.at s c.scope.ensures.value h.0.sound c.args.place c.in-Some.bound c.args.x d'
    (sym c.at.ensures ∙ c.in-Some.is) h.1.0 c.give.ensures in
    kept-now c.args.home d d' g
    (c.value.ensures.leaves c.args.home d' g.ready (inside-still c.args.home d d' g i)
    (stays c.args.home d d' g r h.1.1.0, tt))

pub returns-then-place-clause-keeps : goal.returns-then-place-clause-keeps
returns-then-place-clause-keeps c = λ r i h. kept-still c.args.home c.args.w.now r
