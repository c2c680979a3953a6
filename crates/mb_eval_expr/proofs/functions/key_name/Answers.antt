use Rattle.std.proofs.Common.{None, Some, ap, sym, ◌∙◌}
use Rattle.mb_eval_expr.proofs.Spelling.{If-before, described}
use Rattle.mb_parts.proofs.Writing.{TextsGrew-same}
use Rattle.mb_world.specs.Image.{names_of, text_in}
use Rattle.mb_world.specs.Symbols.{bracketed, description}
use Rattle.mb_eval_expr.proofs.functions.key_name.Goals as goal

pub returns-in_err-text-in-None-clause-grew : goal.returns-in_err-text-in-None-clause-grew
returns-in_err-text-in-None-clause-grew c = rw c.in_err-text-in-None.ensures.kept
    (TextsGrew-same c.args.w.now c.requires.ids)

pub returns-in-Some-clause-name : goal.returns-in-Some-clause-name
returns-in-Some-clause-name c =
    let d = c.args.w.now in
    let o = Some c.in-Some.description in
    let i = rw c.in-Symbol.is at c.requires.key in
    rw c.in-Symbol.is
    (If-before d d c.bracketed.new.w c.bracketed.result (λ g. bracketed (description g c.in-Symbol.symbol.0))
    (λ g. bracketed (Some (text_in (names_of d) c.in-Some.description))) c.bracketed.ensures.name
    (λ log. ap bracketed (sym (described d c.in-Symbol.symbol o log i c.in-Some.ensures))))

pub returns-in_ok-text-in-None-clause-name : goal.returns-in_ok-text-in-None-clause-name
returns-in_ok-text-in-None-clause-name c =
    let d = c.args.w.now in
    let i = rw c.in-Symbol.is at c.requires.key in
    rw c.in-Symbol.is (
      c.in_ok-text-in-None.ensures.within,
      λ log. c.in_ok-text-in-None.ensures.text ∙ ap bracketed
          (sym (described d c.in-Symbol.symbol None log i c.in-None.ensures)),
    )
