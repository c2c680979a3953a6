use Rattle.std.proofs.Common.{ap, sym, ◌∙◌}
use Rattle.mb_eval_expr.proofs.Operating.{type-object}
use Rattle.mb_model.specs.Nodes.UnaryOperators.{kind_word, type_word}
use Rattle.mb_world.specs.Image.{Image, Resolve, names_of}
use Rattle.mb_world.specs.Objects.{is_callable}
use Rattle.mb_eval_expr.proofs.operators.type_word.Goals as goal

pub returns-in-Some-clause-word : goal.returns-in-Some-clause-word
returns-in-Some-clause-word c = λ log.
    let d = c.args.w.now in
    let n = names_of d in
    sym (ap (λ y. type_word (Image d log) (Resolve n y)) c.in-Object.is
    ∙ type-object (Image d log) n c.in-Object.field-0
    ∙ ap (λ y. kind_word (is_callable (Image d log) (Resolve n y))) (sym c.in-Object.is)
    ∙ ap kind_word (c.in-Some.ensures.calls log))

pub returns-in-None-clause-word : goal.returns-in-None-clause-word
returns-in-None-clause-word c = λ log.
    let d = c.args.w.now in
    let n = names_of d in
    sym (ap (λ y. type_word (Image d log) (Resolve n y)) c.in-Object.is
    ∙ type-object (Image d log) n c.in-Object.field-0
    ∙ ap (λ y. kind_word (is_callable (Image d log) (Resolve n y))) (sym c.in-Object.is)
    ∙ ap kind_word (c.in-None.ensures.calls log))
