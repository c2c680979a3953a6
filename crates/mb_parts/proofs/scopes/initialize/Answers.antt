use Rattle.std.specs.Prelude.{false, true}
use Rattle.std.proofs.Common.{sym}
use Rattle.mb_parts.proofs.Bindings.{bound-anew, name-bound, name-given, name-missing}
use Rattle.std.proofs.Common.{refl}
use Rattle.mb_frames.specs.declared.machine.Halt.TheVariants.{NoMemory}
use Rattle.mb_parts.proofs.Answering.{halted-keeps, same-keeps}
use Rattle.mb_parts.proofs.NamesGiven.{given-keeps}
use Rattle.mb_frames.specs.Keeping.{none_held}
use Rattle.mb_parts.proofs.scopes.initialize.Goals as goal

pub returns-in-None-clause-changes : goal.returns-in-None-clause-changes
returns-in-None-clause-changes c =
    name-missing c.args.w.now c.args.scope c.scope.result.now c.args.name c.args.x c.texts-before.ensures.distinct
    c.requires.name c.scope.ensures.within.names_in c.scope.ensures.value (sym c.in-None.ensures)

pub returns-then-place-clause-keeps : goal.returns-then-place-clause-keeps
returns-then-place-clause-keeps c = λ home r i h. halted-keeps none_held home c.args.w.now c.args.w.now NoMemory r refl

pub returns-in-None-clause-keeps : goal.returns-in-None-clause-keeps
returns-in-None-clause-keeps c = λ home r i h. same-keeps none_held home c.args.w.now tt r tt

pub returns-then-is_bound-clause-changes : goal.returns-then-is_bound-clause-changes
returns-then-is_bound-clause-changes c =
    name-bound c.args.w.now c.args.scope c.scope.result.now c.args.name c.args.x c.in-Some.place
    c.texts-before.ensures.distinct c.requires.name c.scope.ensures.within.names_in c.scope.ensures.value
    (sym c.in-Some.ensures)
    (bound-anew c.args.w.now c.args.scope c.scope.result.now c.scope-in-Some.result.now c.in-Some.place c.at.result
    c.is_bound.result true c.scope.ensures.value c.scope-in-Some.ensures.value c.at.ensures c.is_bound.ensures
    c.if-is_bound.true)

pub returns-then-is_bound-clause-keeps : goal.returns-then-is_bound-clause-keeps
returns-then-is_bound-clause-keeps c = λ home r i h. same-keeps none_held home c.args.w.now tt r tt

pub returns-else-is_bound-clause-changes : goal.returns-else-is_bound-clause-changes
returns-else-is_bound-clause-changes c =
    name-given c.args.w.now c.give.new.self c.args.scope c.scope.result.now c.args.name c.args.x c.in-Some.place
    c.texts-before.ensures.distinct c.requires.name c.scope.ensures.within.names_in c.scope.ensures.value
    (sym c.in-Some.ensures)
    (bound-anew c.args.w.now c.args.scope c.scope.result.now c.scope-in-Some.result.now c.in-Some.place c.at.result
    c.is_bound.result false c.scope.ensures.value c.scope-in-Some.ensures.value c.at.ensures c.is_bound.ensures
    c.if-is_bound.false) c.give.ensures

pub returns-else-is_bound-clause-keeps : goal.returns-else-is_bound-clause-keeps
returns-else-is_bound-clause-keeps c = λ home r i h.
    given-keeps c.args.w.now c.give.new.self home c.args.scope c.scope.result.now c.args.x c.in-Some.place r h.0 h.1.1.0
    c.scope.ensures.value c.scope.ensures.within c.give.ensures
