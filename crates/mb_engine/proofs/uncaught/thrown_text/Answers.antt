use Rattle.std.proofs.Common.{ap, append-nil, codes, sym, ◌++◌, ◌∙◌}
use Rattle.mb_engine.proofs.Lines.{if-then}
use Rattle.mb_engine.proofs.Words.{object-thrown}
use Rattle.mb_parts.proofs.Writing.{TextsGrew-same}
use Rattle.mb_world.specs.Image.{Image, names_of}
use Rattle.mb_engine.proofs.uncaught.thrown_text.Goals as goal

pub returns-in-Object-clause-text : goal.returns-in-Object-clause-text
returns-in-Object-clause-text c =
    let d = c.args.w.now in
    if-then _ _ c.filled.result c.filled.ensures
    (λ u e log. rw c.in-Object.is (e ∙ append-nil _ ∙ c.kind_of.ensures log
    ∙ sym (object-thrown (Image d log) (names_of d) c.in-Object.id)))

pub returns-in-Object-clause-grew : goal.returns-in-Object-clause-grew
returns-in-Object-clause-grew c = TextsGrew-same c.args.w.now c.requires.ready.ids

pub returns-in_err-text-in-Symbol-clause-grew : goal.returns-in_err-text-in-Symbol-clause-grew
returns-in_err-text-in-Symbol-clause-grew c = TextsGrew-same c.args.w.now c.requires.ready.ids

pub returns-in_ok-text-in-Symbol-clause-text : goal.returns-in_ok-text-in-Symbol-clause-text
returns-in_ok-text-in-Symbol-clause-text c =
    if-then _ _ c.filled-in-Symbol.result c.filled-in-Symbol.ensures
    (λ u e log. rw c.in-Symbol.is (e ∙ ap (λ t. codes "value " ++ t)
    (c.deref.ensures.value ∙ sym (c.in_ok-text-in-Symbol.ensures log))))

pub returns-in_ok-text-in-Symbol-clause-grew : goal.returns-in_ok-text-in-Symbol-clause-grew
returns-in_ok-text-in-Symbol-clause-grew c = TextsGrew-same c.args.w.now c.requires.ready.ids
